use mathlib.Core.Path.{◌≡◌, ◌∙◌, ap}
use mathlib.Core.List.{List}
use Prim.Native.Nat.{◌+◌}
use native.Mathlib.Omega.{arith}
use native.Mathlib.Numerals.{add-one}
use lib.IntN.{ℤ}
use lib.Ieee.{Float}
use Rattle.matrix.specs.Matrix.{nth}
use Rattle.symbol.specs.Table.{pairing_of}
use Rattle.pairing.specs.Generator.{kind_of, pairing_at}
use Rattle.drawing.specs.Quotient.{float_of}
use Rattle.drawing.specs.Extreme.{least_of, greatest_of}
use Rattle.drawing.specs.Drawn.{drawn_of, drawn_at}
use Rattle.drawing.specs.Answer.{row_for, drawn_row}
use Rattle.drawing.specs.Inner.Ready.{side_box, put_four}
use Rattle.drawing.specs.declared.Drawn.{Drawn}
use Rattle.drawing.proofs.Rows.{drawable_side, rows_none, rows_more}
use Rattle.drawing.proofs.draw_sides.Goals as goal

pub draw-requires : goal.draw-requires
draw-requires c = rw c.at.ensures (drawable_side c.args.v c.args.t.now c.requires.0 0 (omega arith))

pub loop-i-init : goal.loop-i-init
unfolding least_of greatest_of
loop-i-init c =
    (c.box_of-bounds.ensures ∙ ap side_box (c.draw.ensures ∙ ap drawn_of c.at.ensures), rows_none c.args.v c.args.t.now c.args.out.now)

pub draw-side-requires : goal.draw-side-requires
draw-side-requires c = rw c.at-in-loop-i.ensures (drawable_side c.args.v c.args.t.now c.requires.0 c.loop-i.i (omega arith))

pub loop-i-preserved : goal.loop-i-preserved
unfolding least_of greatest_of
loop-i-preserved c =
    let v = c.args.v in
    let t = c.args.t.now in
    let i = c.loop-i.i in
    let side : c.draw-side.result ≡ drawn_at v t i = c.draw-side.ensures ∙ ap drawn_of c.at-in-loop-i.ensures in
    let kind : c.kind.result ≡ float_of (kind_of (pairing_at v t i)) =
    c.kind.ensures ∙ ap (λ (x : List ℤ). float_of (kind_of (pairing_of v (nth x i)))) c.requires.1 in
    let row : row_for c.draw-side.result c.kind.result ≡ drawn_row v t i =
    ap (λ (x : Drawn). row_for x c.kind.result) side ∙ ap (row_for (drawn_at v t i)) kind in
    let put : c.put_side.new.out ≡ put_four i (drawn_row v t i) c.loop-i.out =
    c.put_side.ensures ∙ ap (λ (r : List Float). put_four i r c.loop-i.out) row in (
      rw (add-one, c.join-bounds.ensures, c.box_of.ensures, side, c.loop-i.invariant.0),
      rw (add-one, put) (rows_more v t i c.args.out.now c.loop-i.out (omega (arith, c.requires.2)) c.loop-i.invariant.1),
    )

pub returns-clause-value : goal.returns-clause-value
returns-clause-value c = let all : c.loop-i.i ≡ c.args.v + 1 = omega arith in rw all at c.loop-i.invariant.0
