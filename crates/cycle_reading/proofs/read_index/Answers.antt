use native.Mathlib.Omega.{arith}
use Rattle.cycle_reading.proofs.Solos.{solo_as}
use Rattle.cycle_reading.proofs.Judging.{out_low, out_high, to_inside, index_here, behind_through, behind_lost}
use Rattle.cycle_reading.proofs.read_index.Goals as goal
use Rattle.cycle_reading.proofs.read_index.Goals.{then-n-lt1-via-then-n-lt1, then-n-lt1-via-else-n-lt1+then-n-gt3066}

pub returns-then-n-lt1 : goal.returns-then-n-lt1
returns-then-n-lt1 c = let r = c.requires in let d = c.digits_at-run.ensures in elim c.then-n-lt1.branch [
  | then-n-lt1-via-then-n-lt1 w ↦ out_low _ _ r.0.same r.1 r.2 _ d _ _ w.if-n-lt1.true
  | then-n-lt1-via-else-n-lt1+then-n-gt3066 w ↦ out_high _ _ r.0.same r.1 r.2 _ d _ _ w.if-n-gt3066.true
]

pub read_both-requires : goal.read_both-requires
read_both-requires c = let r = c.requires in (to_inside _ _ r.0.same r.1 r.2 _ c.digits_at-run.ensures c.args.s.now c.args.r.now, omega (arith, c.if-n-gt3066.false))

pub returns-in-Ok : goal.returns-in-Ok
returns-in-Ok c = let r = c.requires in
    index_here _ _ r.0.same r.1 r.2 _ c.digits_at-run.ensures _ _ (omega (arith, c.if-n-lt1.false)) (omega (arith, c.if-n-gt3066.false)) _
    (behind_through _ _ _ _ (solo_as c.in-Ok.is c.read_both.ensures))

pub returns-in-Err : goal.returns-in-Err
returns-in-Err c = let r = c.requires in
    index_here _ _ r.0.same r.1 r.2 _ c.digits_at-run.ensures _ _ (omega (arith, c.if-n-lt1.false)) (omega (arith, c.if-n-gt3066.false)) _
    (behind_lost _ _ _ _ _ (solo_as c.in-Err.is c.read_both.ensures))
