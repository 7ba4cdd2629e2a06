use mathlib.Core.Path.{◌≡◌, refl, ◌∙◌, ap}
use Prim.Native.Nat.{ℕ, ◌*◌}
use native.Mathlib.Nat.{add-sub_cancel_left}
use native.Mathlib.Omega.{arith}
use lib.ListN.{take, drop}
use Rattle.sheets.specs.Sheet.{pairs_in}
use Rattle.same_coset.proofs.Lines.{pairs_none, pairs_more}
use Rattle.same_coset.proofs.pairs.answer_pairs.Goals as goal

pub loop-i-init : goal.loop-i-init
loop-i-init c = let s = c in (pairs_none s.args.n s.args.w.now s.args.p.now s.args.lines.now, refl)

pub write_line-requires : goal.write_line-requires
write_line-requires c =
    let l = c in
    let s = l in
    (omega (arith, c.loop-i-test.true, l.loop-i.invariant.1, s.requires.1), c.answer_pair-answer.ensures.line_fits)

pub loop-i-preserved : goal.loop-i-preserved
loop-i-preserved c =
    let a = c in
    let l = a in
    let s = l in
    let k = 8 * l.loop-i.i in
    let p = s.args.p.now in (
      pairs_more s.args.n s.args.w.now p s.args.lines.now l.loop-i.i l.loop-i.invariant.0
          (ap (λ (j : ℕ). take j (drop k p)) (add-sub_cancel_left k 8))
          a.answer_pair-answer.ensures.pair_shared c.write_line.ensures,
      c.write_line.auto.lines ∙ l.loop-i.invariant.1,
    )

pub returns : goal.returns
returns c =
    let l = c in
    let s = l in
    let end : l.loop-i.i ≡ pairs_in s.args.p.now = omega (arith, c.loop-i.auto.i-end, c.loop-i-test.false) in
    rw end at l.loop-i.invariant.0
