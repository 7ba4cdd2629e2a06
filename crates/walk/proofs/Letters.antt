-- Letters as signed 16-bit numbers, one at a time.
--
-- In order: a letter that is 0 and one that isn't (`letter_zero`, `letter_some`); what `put` leaves (`put_none`, `put_in`, `put_out`, `put_of`); a step
-- from its letter (`stepped`).
-- Assumes nothing.
use mathlib.Core.Path.{◌≡◌, refl, sym, ◌∙◌, ap, subst}
use mathlib.Core.List.{List, [], ◌∷◌}
use Prim.Native.Nat.{ℕ, zero, suc, ◌+◌, ◌≤◌, ◌<◌}
use native.Mathlib.Nat.{add-zero}
use lib.Dec.{lit<}
use lib.ListN.{length, set}
use lib.IntN.{ℤ, pos, negsuc}
use mir.Syntax.{w16}
use mir.Val.{SFits, to_z, of_z}
use mir.Facts.{to_z-of_z, to_z_pos}
use Rattle.matrix.specs.Words.{Letter, letter}
use Rattle.coset.specs.Positions.{written, goes, letters_of, ◌·◌, step_sign, FrameEquation, StepEquation}
use Rattle.walk.specs.Inner.Way.{stored, sign_added, LetterPut, WayStepped}
use Rattle.walk.specs.declared.Way.{Way}
use Rattle.walk.proofs.Stored.{stored_in_lem, stored_out}

-- ---- letters

pub letter_zero : (z : ℤ) → SFits w16 z → of_z w16 z ≡ 0 → z ≡ pos 0
letter_zero z f e = sym (to_z-of_z f) ∙ ap (to_z w16) e ∙ to_z_pos w16 {n = 0} (lit< tt)

pub letter_some : (z : ℤ) → (of_z w16 z ≡ 0 → ⊥) → letters_of z ≡ z ∷ []
letter_some (pos zero) h = absurd (h refl)
letter_some (pos (suc n)) h = refl
letter_some (negsuc n) h = refl

module _ (start limit n : ℕ) (z : ℤ) (out : List ℤ) where
  pub put_none : SFits w16 z → of_z w16 z ≡ 0 → (n ≡ n + length (letters_of z)) × (out ≡ stored start limit n (letters_of z) out)
  put_none f e = let z_is = ap letters_of (letter_zero z f e) in
      (sym (ap (λ (l : List ℤ). n + length l) z_is ∙ add-zero n), sym (ap (λ (l : List ℤ). stored start limit n l out) z_is))

  pub put_in : (z' : ℤ) → z' ≡ z → (of_z w16 z ≡ 0 → ⊥) → n < limit → (n + 1 ≡ n + length (letters_of z))
      × (set out (start + n) z' ≡ stored start limit n (letters_of z) out)
  put_in z' e h k =
      let z_is = letter_some z h in (
        sym (ap (λ (l : List ℤ). n + length l) z_is),
        ap (set out (start + n)) e ∙ stored_in_lem start limit z n out k
            ∙ sym (ap (λ (l : List ℤ). stored start limit n l out) z_is),
      )

  pub put_out : (of_z w16 z ≡ 0 → ⊥) → limit ≤ n → (n + 1 ≡ n + length (letters_of z)) × (out ≡ stored start limit n (letters_of z) out)
  put_out h k = let z_is = letter_some z h in
      (sym (ap (λ (l : List ℤ). n + length l) z_is), stored_out start limit z n out k ∙ sym (ap (λ (l : List ℤ). stored start limit n l out) z_is))

-- the letter z of x at p, as the tables and `put` have it
pub put_of : {v : ℕ} {t : List ℤ} {start limit : ℕ} {x : Letter} {p n k : ℕ} {out out' : List ℤ} (z : ℤ) → SFits w16 z → letters_of z ≡ written v t x p
    → (k ≡ n + length (letters_of (to_z w16 (of_z w16 z)))) × (out' ≡ stored start limit n (letters_of (to_z w16 (of_z w16 z))) out)
    → LetterPut v t start limit x p n out k out'
put_of {start} {limit} {n} {out} z fit e g =
    let is = ap letters_of (to_z-of_z fit) ∙ e in
    record { count = g.0 ∙ ap (λ (l : List ℤ). n + length l) is; left = g.1 ∙ ap (λ (l : List ℤ). stored start limit n l out) is }

-- a step, from the letter that it writes
pub stepped : {v : ℕ} {t : List ℤ} {start limit : ℕ} {x : Letter} {a b : Way} {out out' : List ℤ}
    → LetterPut v t start limit x a.at a.count out b.count out' → b.at ≡ goes v t x a.at → b.sign ≡ a.sign · sign_added v t x a.at
    → StepEquation v t x a.at (step_sign v t x a.at) (written v t x a.at) → WayStepped v t start limit x a out b out'
stepped {v} {t} {x} {a} k f g i = record {
  at = f;
  count = k.count;
  left = k.left;
  sign = g;
  is = subst (FrameEquation v t a.at (letter x) (step_sign v t x a.at) (written v t x a.at)) (sym f) i;
}
