use mathlib.Core.Path.{◌≡◌, refl, ap, ◌∙◌}
use native.Mathlib.Omega.{arith}
use mathlib.Core.List.{List, map}
use lib.IntN.{ℤ, pos}
use lib.ListN.{length, get_or, length-set}
use lib.Seq.{take_all}
use mir.Syntax.{w64}
use mir.Facts.{to_z-of_z}
use Rattle.symbol_texts.specs.ImportAnswer.{table_point}
use Rattle.symbol_texts.specs.Inner.ImportSpaces.{filled}
use Rattle.symbol_texts.proofs.ImportEntries.{points_more, filled_none}
use Rattle.symbol_texts.proofs.import_text.fill_points.Goals as goal

pub loop-i-init : goal.loop-i-init
loop-i-init c = record { points = filled_none _; same = refl }

pub loop-i-preserved : goal.loop-i-preserved
loop-i-preserved c =
    let q = c.loop-i in
    let ns = c.args.numbers.now in
    let e = rw (to_z-of_z {w = w64} {z = get_or ns q.i (pos 0)} (record { sfits = omega arith })) at c.point_of.ensures in
    record {
      points = rw e (points_more ns c.args.out.now q.out q.i c.loop-i-test.true (omega arith) q.invariant.points);
      same = length-set q.out q.i _ ∙ q.invariant.same;
    }

pub returns : goal.returns
returns c =
    let q = c.loop-i in
    let ns = c.args.numbers.now in
    let all : q.i ≡ length ns = omega arith in
    q.invariant.points ∙ ap (λ (l : List ℤ). filled (map table_point l) c.args.out.now) (take_all q.i ns (omega (arith, all)))
