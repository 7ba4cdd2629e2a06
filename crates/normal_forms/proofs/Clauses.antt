-- The four clauses of `Reduced`, and the test `fine` that decides them (`reduced_fine`, `fine_reduced`).
--
-- In order: a test of letters and one of neighbours that all pass (`all_letters`, `all_neighbours`), and back (`gathered`); what the tests say of
-- letters (`plain_upright`, `upright_plain`).
-- Assumes nothing.
use mathlib.Core.Path.{◌≡◌, refl, sym, ◌∙◌, ap}
use mathlib.Core.Logic.{inl, inr}
use mathlib.Core.Bool.{true}
use mathlib.Core.List.{List, [], ◌∷◌}
use Prim.Native.Nat.{ℕ, zero, suc, ◌<◌}
use native.Mathlib.Omega.{arith}
use lib.ListN.{length}
use lib.IntN.{ℤ, pos, negsuc, neg_ℤ}
use Rattle.basics.proofs.Choice.{either, clash}
use Rattle.symbol.specs.declared.Pairing.{Pairing}
use Rattle.symbol.proofs.Choice.{eq_z_true, eq_eq_z}
use Rattle.normal_forms.specs.Reduced.{letter_kind, Inverted, letter_at, Reduced}
use Rattle.normal_forms.specs.Reduce.{even_kind, odd_kind, plain}
use Rattle.normal_forms.proofs.Put.{Kinds, is_plain, apart, fine, fine_by, fine_plain, fine_meets, fine_rest, plain_even, other_plain, inverse_even}
use Rattle.normal_forms.proofs.Put.{inverse_other, apart_by, apart_inverse, apart_odd, even_is, odd_is}
use Rattle.normal_forms.proofs.Side.{kinds}

module _ (kind : ℤ → Pairing) where
  all_letters : (w : List ℤ) → fine kind w ≡ true → (i : ℕ) → i < length w → is_plain kind (letter_at w i) ≡ true
  all_letters [] f i h = absurd (omega arith)
  all_letters (a ∷ w) f zero h = fine_plain kind a w f
  all_letters (a ∷ w) f (suc i) h = all_letters w (fine_rest kind a w f) i (omega arith)

  all_neighbours : (w : List ℤ) → fine kind w ≡ true → (i : ℕ) → suc i < length w → apart kind (letter_at w i) (letter_at w (suc i)) ≡ true
  all_neighbours [] f i h = absurd (omega arith)
  all_neighbours (a ∷ []) f i h = absurd (omega arith)
  all_neighbours (a ∷ b ∷ w) f zero h = fine_meets kind a (b ∷ w) f
  all_neighbours (a ∷ b ∷ w) f (suc i) h = all_neighbours (b ∷ w) (fine_rest kind a (b ∷ w) f) i (omega arith)

  gathered : (w : List ℤ) → ((i : ℕ) → i < length w → is_plain kind (letter_at w i) ≡ true)
      → ((i : ℕ) → suc i < length w → apart kind (letter_at w i) (letter_at w (suc i)) ≡ true) → fine kind w ≡ true
  gathered [] p q = refl
  gathered (a ∷ []) p q = fine_by kind a [] (p 0 (omega arith)) refl refl
  gathered (a ∷ b ∷ w) p q =
      fine_by kind a (b ∷ w) (p 0 (omega arith)) (q 0 (omega arith)) (gathered (b ∷ w) (λ i h. p (suc i) (omega arith)) (λ i h. q (suc i) (omega arith)))

  -- a plain letter of an even generator isn't inverted
  plain_upright : (z : ℤ) → is_plain kind z ≡ true → even_kind (kind z) ≡ true → Inverted z → ⊥
  plain_upright (pos n) p e i = i
  plain_upright (negsuc n) p e i = let z : ◌≡◌ {A = ℕ} 0 1 = cc (eq_z_true (plain kind (negsuc n)) (negsuc n) p, plain_even kind (negsuc n) e) in omega arith

  upright_plain : (z : ℤ) → (even_kind (kind z) ≡ true → Inverted z → ⊥) → is_plain kind z ≡ true
  upright_plain z n = elim (either (even_kind (kind z))) [ inl e ↦ by z e (n e) | inr e ↦ other_plain kind z e ]
    where
      by : (z : ℤ) → even_kind (kind z) ≡ true → (Inverted z → ⊥) → is_plain kind z ≡ true
      by (pos n) e f = eq_eq_z (plain kind (pos n)) (pos n) (plain_even kind (pos n) e)
      by (negsuc n) e f = absurd (f tt)

  -- beside a plain letter stands no letter -a, also where a is even
  apart_negative : Kinds kind → (a b : ℤ) → is_plain kind a ≡ true → is_plain kind b ≡ true → apart kind a b ≡ true → b ≡ neg_ℤ a → ⊥
  apart_negative K a b p q m e = elim (either (even_kind (kind a))) [
    | inr o ↦ apart_inverse kind a b m (e ∙ sym (inverse_other kind a o))
    | inl o ↦ by a p o (rw e at q)
  ]
    where
      by : (a : ℤ) → is_plain kind a ≡ true → even_kind (kind a) ≡ true → is_plain kind (neg_ℤ a) ≡ true → ⊥
      by (pos zero) p o q = clash o (ap even_kind K.none)
      by (pos (suc n)) p o q = plain_upright (negsuc n) q (ap even_kind (K.negative (pos (suc n))) ∙ o) tt
      by (negsuc n) p o q = plain_upright (negsuc n) p o tt

module _ (v : ℕ) (t : List ℤ) where
  abbrev kind_of : ℤ → Pairing
  kind_of = letter_kind v t

  pub fine_reduced : (w : List ℤ) → fine kind_of w ≡ true → Reduced v t w
  fine_reduced w f =
      record {
        beside_inverse = λ i h. apart_negative kind_of (kinds v t) (letter_at w i) (letter_at w (suc i)) (each i (omega arith)) (each (suc i) h) (next i h);
        even_repeated = λ i h e z. apart_inverse kind_of (letter_at w i) (letter_at w (suc i)) (next i h)
            (z ∙ sym (inverse_even kind_of (letter_at w i) (ap even_kind e)));
        even_inverted = λ i h e. plain_upright kind_of (letter_at w i) (each i h) (ap even_kind e);
        odd_repeated = λ i h o. apart_odd kind_of (letter_at w i) (letter_at w (suc i)) (next i h) (ap odd_kind o);
      }
    where
      each : (i : ℕ) → i < length w → is_plain kind_of (letter_at w i) ≡ true
      each = all_letters kind_of w f

      next : (i : ℕ) → suc i < length w → apart kind_of (letter_at w i) (letter_at w (suc i)) ≡ true
      next = all_neighbours kind_of w f

  pub reduced_fine : (w : List ℤ) → Reduced v t w → fine kind_of w ≡ true
  reduced_fine w r = gathered kind_of w
      (λ i h. upright_plain kind_of (letter_at w i) (λ e. r.even_inverted i h (even_is (kind_of (letter_at w i)) e)))
      (λ i h. apart_by kind_of (letter_at w i) (letter_at w (suc i))
      (λ z. elim (either (even_kind (kind_of (letter_at w i)))) [
        | inl e ↦ r.even_repeated i h (even_is (kind_of (letter_at w i)) e) (z ∙ inverse_even kind_of (letter_at w i) e)
        | inr e ↦ r.beside_inverse i h (z ∙ inverse_other kind_of (letter_at w i) e)
      ])
      (λ o. r.odd_repeated i h (odd_is (kind_of (letter_at w i)) o)))
