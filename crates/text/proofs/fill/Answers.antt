use mathlib.Core.Path.{◌≡◌, refl, ◌∙◌}
use native.Mathlib.Omega.{arith}
use lib.ListN.{length-set}
use mir.Syntax.{w64}
use mir.Facts.{to_z-of_z}
use Rattle.text.proofs.Walks.{walked_start, walked_more, walked_end, walked_sound, store_next}
use Rattle.text.proofs.fill.Goals as goal

pub loop-i-init : goal.loop-i-init
loop-i-init c = record { walked = walked_start c.args.text.now; filled = refl; same = refl }

pub next_number-requires : goal.next_number-requires
next_number-requires c = let w = c.loop-i.invariant.walked in (w.inside, walked_sound w c.requires.0)

pub returns-in_default : goal.returns-in_default
returns-in_default c = let e = walked_end c.loop-i.invariant.walked c.in_default.ensures in absurd (omega arith)

pub loop-i-preserved : goal.loop-i-preserved
loop-i-preserved c =
    let q = c.loop-i.invariant in
    let s = c.in-Some.ensures in
    let e = to_z-of_z {w = w64} {z = c.in-Some.number.value} (record { sfits = omega arith }) in
    record {
      walked = walked_more q.walked s;
      filled = rw (e, q.filled) (store_next q.walked c.requires.0 s c.args.out.now (omega arith));
      same = length-set c.loop-i.out c.loop-i.i _ ∙ q.same;
    }

pub returns : goal.returns
returns c = let e : c.loop-i.i ≡ c.args.k = omega arith in rw (c.loop-i.invariant.filled, e)
