-- `farey_drawing` meets its contract: the answer tells the verdict of the checks (`made_verdict`, `refused_verdict`), by which number, place and box
-- are those of the contract. Assumes nothing.
use mathlib.Core.Path.{◌≡◌, refl, sym, ap, ◌∙◌}
use native.Mathlib.Omega.{arith}
use Prim.Native.Nat.{◌/◌, ◌*◌, ◌+◌}
use lib.Ieee.{Float}
use mathlib.Core.List.{List}
use borrow.Author.Rules.{rules}
use Rattle.call.specs.Refusal.{answer_number, answer_place, Checked}
use Rattle.call.specs.Call.{verdict, if_accepted}
use Rattle.call.proofs.Laws.{call}
use Rattle.drawing.specs.Bounding.{box_to}
use Rattle.drawing.specs.Answer.{too_large_at, box_numbers}
use Rattle.drawing.proofs.Judged.{drawing_verdict, drawn_symbol, drawing_says}
use lib.Dec.{ltb}
use lib.ListN.{length}
use Rattle.basics.specs.Count.{first}
use Rattle.engine.proofs.Numbers.{drawing_numbered}
use Rattle.engine.proofs.Drawn.{made_verdict, made_box, refused_verdict}
use Rattle.engine.proofs.symbols.farey_drawing.Goals as goal

pub overflow_add-place : goal.overflow_add-place
overflow_add-place c =
    let q = c.draw_symbol-answer in
    let s = c in
    let v = s.args.v in
    let e = made_verdict (box_to v s.args.t.now (v + 1)) (drawing_verdict v s.args.t.now s.args.out.now) c.in-Ok.b
    (sym q.ensures.answer ∙ c.in-Ok.is) in
    omega (arith, (drawn_symbol v s.args.t.now s.args.out.now e).symbol.most)

pub returns-in-Err : goal.returns-in-Err
returns-in-Err c =
    let q = c.draw_symbol-answer in
    let s = c in
    let v = s.args.v in
    let t = s.args.t.now in
    let b = box_to v t (v + 1) in
    let e = refused_verdict b (drawing_verdict v t s.args.out.now) c.in-Err.refusal (sym q.ensures.answer ∙ c.in-Err.is) in
    call _ (drawing_numbered v t (ltb (first (too_large_at t) (2 * v)) (2 * v)) (first (too_large_at t) (2 * v)) (v + 1) (length s.args.out.now / 4))
    (drawing_says v t s.args.out.now)
    (q.ensures.leaves.0, (ap (λ (x : Checked). if_accepted x (box_numbers b) s.args.bounds.now) (sym e), tt))
    (c.number.ensures ∙ ap (λ (x : Checked). answer_number x) (sym e))
    (c.place.ensures ∙ ap (λ (x : Checked). if_accepted x (v + 1) (answer_place x)) (sym e))

pub returns-in-Ok : goal.returns-in-Ok
returns-in-Ok c =
    let q = c.draw_symbol-answer in
    let s = c in
    let v = s.args.v in
    let t = s.args.t.now in
    let b = box_to v t (v + 1) in
    let k = sym q.ensures.answer ∙ c.in-Ok.is in
    let e = made_verdict b (drawing_verdict v t s.args.out.now) c.in-Ok.b k in
    call _ (drawing_numbered v t (ltb (first (too_large_at t) (2 * v)) (2 * v)) (first (too_large_at t) (2 * v)) (v + 1) (length s.args.out.now / 4))
    (drawing_says v t s.args.out.now) (
      q.ensures.leaves.0,
      (
        ap box_numbers (sym (made_box b (drawing_verdict v t s.args.out.now) c.in-Ok.b k))
            ∙ ap (λ (x : Checked). if_accepted x (box_numbers b) s.args.bounds.now) (sym e),
        tt,
      ),
    )
    (ap (λ (x : Checked). answer_number x) (sym e))
    (ap (λ (x : Checked). if_accepted x (v + 1) (answer_place x)) (sym e))
