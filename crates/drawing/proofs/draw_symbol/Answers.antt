-- `draw_symbol`: the checks are made as one (`run_join`); what passed them is a symbol with small vertex entries (`small_symbol`), which is drawn where it
-- has room. Assumes nothing.
use mathlib.Core.Path.{refl, sym}
use mathlib.Core.List.{[], ◌∷◌}
use Prim.Native.Nat.{◌+◌, ◌/◌}
use lib.ListN.{length}
use Rattle.std.proofs.lemmas.Result.{err_from_is_err_and}
use Rattle.call.specs.Call.{Asks, Gives, length_check, at_front}
use Rattle.call.proofs.Laws.{run_stop, run_pass, run_join, fills_as, ran}
use Rattle.symbol.specs.Check.{symbol_check}
use Rattle.drawing.specs.Answer.{drawn_rows, check22}
use Rattle.drawing.specs.Inner.Ready.{drawing_check}
use Rattle.drawing.proofs.Judged.{small_symbol}
use Rattle.drawing.proofs.draw_symbol.Goals as goal

pub draw_in_room-requires : goal.draw_in_room-requires
draw_in_room-requires c = small_symbol c.args.v c.args.t.now (sym c.in_ok-drawing_check.ensures)

pub returns : goal.returns
returns c =
    let v = c.args.v in
    let t = c.args.t.now in
    let g = c.draw_in_room.ensures in
    let l = Asks (length_check (v + 1) (length c.args.out.now / 4)) ∷ Gives (at_front (drawn_rows v t (v + 1)) c.args.out.now) c.args.out.now _ ∷ [] in
    fills_as (run_join (symbol_check v t) (check22 v t) l (run_pass (drawing_check v t) l (sym c.in_ok-drawing_check.ensures) (ran g))) g.answer

pub returns-in_err-drawing_check : goal.returns-in_err-drawing_check
returns-in_err-drawing_check c =
    let v = c.args.v in
    let t = c.args.t.now in
    let p = err_from_is_err_and c.from_residual.result c.from_residual.ensures.1 in
    let l = Asks (length_check (v + 1) (length c.args.out.now / 4)) ∷ Gives (at_front (drawn_rows v t (v + 1)) c.args.out.now) c.args.out.now _ ∷ [] in
    rw (p.1, p.2) (fills_as (run_join (symbol_check v t) (check22 v t) l
    (run_stop _ (drawing_check v t) l (sym c.in_err-drawing_check.ensures) (refl, tt))) refl)
