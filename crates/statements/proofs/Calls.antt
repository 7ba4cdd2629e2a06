-- The instances are of the calls: `of_the_calls`.
-- Why: the table asks what the plans ask, in their order; an answer that decides or finds a word has the refusal of its checks.
-- Assumes nothing.
use Rattle.std.specs.Prelude.{Ok, Err}
use mathlib.Core.Path.{◌≡◌, refl, sym, ap, ◌∙◌}
use mathlib.Core.List.{List, [], ◌∷◌, map}
use lib.IntN.{ℤ, pos}
use mathlib.Core.Bool.{Bool, true, false}
use Prim.Native.Nat.{ℕ}
use lib.ListN.{length}
use Rattle.matrix.specs.Matrix.{of_list}
use Rattle.call.specs.Refusal.{Checked, outcome, answer_number, answer_place}
use Rattle.call.specs.Call.{verdict}
use Rattle.call.specs.Inner.Fills.{decided}
use Rattle.containment.specs.Group.{same_tables}
use Rattle.containment.specs.Same.{same_call}
use Rattle.word.specs.Answer.{found_word, found_sign, word_if}
use Rattle.word.specs.Claim.{query_call}
use Rattle.word.proofs.Order.{left_if}
use Rattle.statements.specs.Calls.{OfTheCalls}

decides : (b : Bool) (c : Checked) → outcome (decided b c) ≡ c
decides true (Ok tt) = refl
decides false (Ok tt) = refl
decides b (Err f) = refl

finds : (start n : ℕ) (sign : Bool) (c : Checked) → outcome (word_if start n sign c) ≡ c
finds start n sign (Ok tt) = refl
finds start n sign (Err f) = refl

tells : {c d : Checked} → c ≡ d → (answer_number c ≡ answer_number d) × (answer_place c ≡ answer_place d)
tells e = (ap (λ (x : Checked). answer_number x) e, ap (λ (x : Checked). answer_place x) e)

three : {x x' y y' z z' : List ℕ} → x ≡ x' → y ≡ y' → z ≡ z'
    → ◌≡◌ {A = List (List ℤ)} (map pos x ∷ map pos y ∷ map pos z ∷ []) (map pos x' ∷ map pos y' ∷ map pos z' ∷ [])
three {x} {x'} {y} {y'} {z} p q r =
    ap (λ (l : List ℕ). map pos l ∷ map pos y ∷ map pos z ∷ []) p ∙ ap (λ (l : List ℕ). map pos x' ∷ map pos l ∷ map pos z ∷ []) q
    ∙ ap (λ (l : List ℕ). map pos x' ∷ map pos y' ∷ map pos l ∷ []) r

pub of_the_calls : OfTheCalls
of_the_calls = record {
  of_figures = λ v t w out. (refl, refl);
  of_generators = λ v t w out. (refl, refl);
  of_tables = λ v t w s r u. (refl, refl);
  of_query = λ v t a b w out start.
      tells (finds start (length (found_word v t (of_list a) (of_list b))) (found_sign v t (of_list a) (of_list b)) (verdict (query_call v t a b w out start).steps));
  of_same = λ v t v' t' w. tells (decides (same_tables v t v' t') (verdict (same_call v t v' t' w).steps));
  of_import = λ s r w out. (refl, refl);
  of_import_wide = λ s r w out. (refl, refl);
  generators_left = λ v t w out l. ap (λ (y : List ℤ). y ∷ []) (sym l.1.0);
  tables_left = λ v t w s r u l.
      three (sym l.1.0) (sym l.1.1.0) (sym l.1.1.1.0);
  import_left = λ s r w out l. ap (λ (y : List ℤ). y ∷ []) (sym l.1.0);
  import_wide_left = λ s r w out l. ap (λ (y : List ℤ). y ∷ []) (sym l.1.0);
  query_left = λ v t a b w out start l.
      let word = found_word v t (of_list a) (of_list b) in
      let c = verdict (query_call v t a b w out start).steps in
      ap (λ (y : List ℤ). y ∷ [])
      (sym (l.1.0 ∙ left_if start (length word) (found_sign v t (of_list a) (of_list b)) c word out.entry.now));
}
