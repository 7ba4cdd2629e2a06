use mathlib.Core.Path.{sym, ◌∙◌, ap}
use native.Mathlib.Omega.{arith}
use mathlib.Core.List.{◌∷◌}
use lib.ListN.{get_or, drop}
use Rattle.cycle_notation.specs.Piece.{number, mark, run_value}
use Rattle.cycle_reading.specs.Inner.Hand.{pieces_left}
use Rattle.cycle_reading.proofs.Left.{number_left, mark_left, digits_more, run_inside, bounded_mark}
use Rattle.cycle_reading.proofs.pieces.piece_at.Goals as goal

pub returns-then-not-digit : goal.returns-then-not-digit
returns-then-not-digit c = let a = c.args in
    let t = a.text.now in
    let e = sym c.digit.ensures ∙ c.if-not-digit.true in record {
      piece = mark (get_or t a.at 0);
      kind = c.mark_of.ensures ∙ sym (bounded_mark (get_or t a.at 0));
      here = mark_left t a.at (omega arith) e;
      onward = omega arith;
      inside = omega arith;
    }

pub returns : goal.returns
returns c = let a = c.args in
    let t = a.text.now in
    let d = c.digits_at-run.ensures in
    let e = sym c.digit.ensures ∙ c.if-not-digit.false in record {
      piece = number (run_value 0 (drop a.at t));
      kind = ap number d.value_is;
      here = number_left t a.at (omega arith) e ∙ ap (λ k. record { at = a.at; piece = number (run_value 0 (drop a.at t)) } ∷ pieces_left t k)
          (sym d.to_is);
      onward = omega (arith, d.to_is, digits_more t a.at (omega arith) e);
      inside = omega (arith, d.to_is, run_inside t a.at (omega arith));
    }
