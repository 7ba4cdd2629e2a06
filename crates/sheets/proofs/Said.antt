-- WHAT THE NUMBER OF A QUERY TELLS, by its claim: 0 that it is no refusal (`zero`, `never_zero`), 10 that there is no such product (`ten_none`), 11 that a
-- word is found which doesn't fit (`eleven`); and a sign as a number (`unit_of`, `with_scaled`).
-- Assumes nothing.
use Rattle.std.specs.Prelude.{Ok, Err}
use mathlib.Core.Path.{◌≡◌, refl, sym, ap, ◌∙◌}
use mathlib.Core.Logic.{◌⊎◌, inl, inr}
use mathlib.Core.Bool.{Bool, true, false}
use mathlib.Core.List.{List, [], ◌∷◌}
use Prim.Native.Nat.{ℕ}
use native.Mathlib.Omega.{arith}
use native.Mathlib.Decide.{ℕ_discrete}
use lib.ListN.{length}
use lib.IntN.{ℤ, pos, negsuc, neg_ℤ, ◌*ℤ◌}
use Rattle.matrix.specs.Matrix.{Mat, mat, neg}
use Rattle.matrix.proofs.Integer.{one-*}
use Rattle.matrix.proofs.Ring.{con, var, ◌⊙◌, ⊖◌, ring}
use Rattle.coset.specs.Positions.{with_sign}
use Rattle.coset.specs.Tables.{table_s, table_r}
use Rattle.right_cosets.specs.Leads.{leads}
use Rattle.call.specs.Refusal.{answer_number, refusal_number, Answer, outcome}
use Rattle.call.specs.declared.refusal.Refusal.TheVariants.{NoWord, TooShort}
use Rattle.call.specs.declared.refusal.Refusal.{Refusal}
use Rattle.word.specs.Answer.{sign_number}
use Rattle.word.specs.Claim.{Answered, SameRightCoset, Claim, scaled}
use Rattle.word.specs.declared.FoundWord.{FoundWord}
use Rattle.word.proofs.Claim.{outcome_number}

-- a sign as a number, and in front of a matrix
by_entries : {a b c d e f g h : ℤ} → a ≡ e → b ≡ f → c ≡ g → d ≡ h → mat a b c d ≡ mat e f g h
by_entries i j k l = cc

sign_unit : (s : Bool) → (sign_number s ≡ pos 1) ⊎ (sign_number s ≡ negsuc 0)
sign_unit true = inl refl
sign_unit false = inr refl

pub unit_of : {x : ℤ} (s : Bool) → x ≡ sign_number s → (x ≡ pos 1) ⊎ (x ≡ negsuc 0)
unit_of s e = elim (sign_unit s) [ inl f ↦ inl (e ∙ f) | inr f ↦ inr (e ∙ f) ]

pub with_scaled : (s : Bool) (m : Mat) → with_sign s m ≡ scaled (sign_number s) m
unfolding neg
with_scaled true m = let e : (z : ℤ) → z ≡ pos 1 *ℤ z = λ z. sym (one-* z) in by_entries (e m.a) (e m.b) (e m.c) (e m.d)
with_scaled false m =
    let e : (z : ℤ) → neg_ℤ z ≡ negsuc 0 *ℤ z = λ z. ring (z ∷ []) (⊖ var 0) (con (negsuc 0) ⊙ var 0) tt in
    by_entries (e m.a) (e m.b) (e m.c) (e m.d)

module _ {v : ℕ} {t : List ℤ} {A B : Mat} {word : List ℤ} {sign : Bool} {out : List ℤ} {start : ℕ} {r : Answer FoundWord} {out' : List ℤ}
    (s : Answered v t A B word sign out start r out') where
  -- a number 10 is 'none'
  pub ten_none : answer_number r ≡ refusal_number NoWord → SameRightCoset v t A B → ⊥
  ten_none z j = elim (s.found.1 j) [ inl y ↦ absurd (omega (arith, outcome_number r y, z)) | inr y ↦ absurd (omega (arith, outcome_number r y, z)) ]

  -- a number 0 is no refusal
  pub zero : answer_number r ≡ 0 → outcome r ≡ Ok tt
  zero z = go r refl
    where
      go : (x : Answer FoundWord) → r ≡ x → outcome r ≡ Ok tt
      go (Ok u) e = ap outcome e
      go (Err f) e =
          let never : SameRightCoset v t A B → ⊥ = λ j. elim (s.found.1 j) [
            | inl y ↦ (let q = sym e ∙ s.names y in let u : ◌≡◌ {A = ℕ} 0 1 = cc in absurd (omega arith))
            | inr y ↦ absurd (omega (arith, outcome_number r y, z))
          ] in
          absurd (omega (arith, outcome_number r (s.none.1 never), z))

  -- a number 11 is that of a word which doesn't fit
  pub eleven : answer_number r ≡ refusal_number (TooShort 0) → outcome r ≡ Err (TooShort (length word))
  eleven z = elim (ℕ_discrete (leads (table_s v t) (table_r v t) A) (leads (table_s v t) (table_r v t) B)) [
    | yes e ↦ elim (s.points.1 e) [ inl y ↦ absurd (omega (arith, outcome_number r y, z)) | inr y ↦ y ]
    | no e ↦ absurd (omega (arith, outcome_number r (s.none.1 (λ j. e (s.points.0 (s.found.1 j)))), z))
  ]

pub never_zero : {v : ℕ} {t a b : List ℤ} {w : List ℕ} {out : List ℤ} {start : ℕ} {out' : List ℤ} (r : Answer FoundWord) (f : Refusal)
    → Claim v t a b w out start r out' → r ≡ Err f → refusal_number f ≡ 0 → ⊥
never_zero r f c e z =
    let number : answer_number r ≡ 0 = outcome_number r (ap outcome e) ∙ z in
    let k = c.answered (c.asked (inl number)) in
    let x = sym e ∙ k.names (zero k number) in
    let y : ◌≡◌ {A = ℕ} 0 1 = cc in
    omega (arith, y)
