-- THE ANSWER: what the checks leave to be drawn (`small_symbol`), and what the number 0 says (`drawing_says`). Assumes nothing.
use Rattle.std.specs.Prelude.{Ok}
use mathlib.Core.Path.{◌≡◌, refl, sym, ◌∙◌}
use mathlib.Core.List.{List, [], ◌∷◌}
use Prim.Native.Nat.{ℕ, ◌+◌, ◌*◌, ◌/◌}
use native.Mathlib.Omega.{arith}
use native.Mathlib.Decide.{dec_lt}
use lib.Dec.{ltb, leb}
use borrow.Author.Tests.{leb-true, not-false}
use lib.IntN.{ℤ, nat_abs}
use lib.ListN.{length}
use lib.Ieee.{Float}
use Rattle.basics.specs.Count.{first}
use Rattle.basics.proofs.Count.{Clear}
use Rattle.matrix.specs.Matrix.{nth}
use Rattle.call.specs.Refusal.{◌or_else◌, answer_number, Checked}
use Rattle.call.specs.declared.refusal.Refusal.TheVariants.{TooLargeToDraw}
use Rattle.call.proofs.Apart.{refused_accepted}
use Rattle.call.proofs.Answers.{both_pass, pass_both}
use Rattle.call.specs.Call.{Asks, length_check}
use Rattle.call.proofs.Laws.{above_room, above_among, accepted_by}
use Rattle.symbol.specs.Check.{symbol_check}
use Rattle.symbol.proofs.Accepted.{accepted, among_refuse, check_among}
use Rattle.symbol.proofs.Order.{refuse_at_lem, none_found}
use Rattle.drawing.specs.Answer.{too_large_at, check22, Picture}
use Rattle.drawing.specs.Inner.Ready.{SmallSymbol, drawing_check}
use Rattle.drawing.proofs.Picture.{picture}

-- what both checks accept is a symbol with small vertex entries
pub small_symbol : (v : ℕ) (t : List ℤ) → drawing_check v t ≡ Ok tt → SmallSymbol v t
small_symbol v t e =
    let both = both_pass (symbol_check v t) (check22 v t) e in
    let k = first (too_large_at t) (2 * v) in
    let none : Clear (too_large_at t) (2 * v) =
    elim (dec_lt k (2 * v)) [
      | yes l ↦ refused_accepted (sym (refuse_at_lem (too_large_at t) (2 * v) k TooLargeToDraw refl l) ∙ both.1)
      | no l ↦ none_found (too_large_at t) (2 * v) k refl (omega arith)
    ] in
    record {
      symbol = (accepted v t).0 both.0;
      small = λ i l. leb-true (nat_abs (nth t i)) 33554432 (not-false (leb (nat_abs (nth t i)) 33554432) (none.none i l));
    }

-- ---- the verdict of all checks, for a result space that holds out

abbrev pub drawing_verdict : ℕ → List ℤ → List Float → Checked
drawing_verdict v t out = symbol_check v t or_else check22 v t or_else length_check (v + 1) (length out / 4) or_else (Ok tt)

-- where they pass
pub drawn_symbol : (v : ℕ) (t : List ℤ) (out : List Float) → drawing_verdict v t out ≡ Ok tt → SmallSymbol v t
drawn_symbol v t out e =
    let p = both_pass (symbol_check v t) (check22 v t or_else length_check (v + 1) (length out / 4) or_else (Ok tt)) e in
    let q = both_pass (check22 v t) (length_check (v + 1) (length out / 4) or_else (Ok tt)) p.1 in
    small_symbol v t (pass_both (symbol_check v t) (check22 v t) p.0 q.0)

-- what the number 0 says
pub drawing_says : (v : ℕ) (t : List ℤ) (out : List Float) → answer_number (drawing_verdict v t out) ≡ 0 → Picture v t
drawing_says v t out z =
    let i = first (too_large_at t) (2 * v) in
    let steps = Asks (symbol_check v t) ∷ Asks (check22 v t) ∷ Asks (length_check (v + 1) (length out / 4)) ∷ [] in
    picture v t (drawn_symbol v t out (accepted_by steps (
      above_among 1 7 (symbol_check v t) (omega arith) (check_among v t),
      (
        above_among 22 22 (check22 v t) (omega arith) (among_refuse 22 22 (ltb i (2 * v)) (TooLargeToDraw i) (omega arith) (omega arith)),
        (above_room (v + 1) (length out / 4), tt),
      ),
    ) z))
