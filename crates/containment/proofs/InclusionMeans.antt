-- What the call tells: a number 0 with 1 for yes and 0 for no (`contains_says`).
-- Why: where both tables are accepted they are symbols, and the answer is `contained` of them.
-- Assumes nothing.
use mathlib.Core.Path.{◌≡◌, refl}
use mathlib.Core.Logic.{inl, inr}
use mathlib.Core.Bool.{Bool, true, false}
use mathlib.Core.List.{List}
use Prim.Native.Nat.{ℕ}
use lib.IntN.{ℤ}
use Rattle.basics.proofs.Choice.{clash}
use Rattle.call.specs.Call.{Lent, number_of, place_of, bit}
use Rattle.symbol.specs.Symbol.{IsSymbol}
use Rattle.pairing.proofs.Both.{two_say}
use Rattle.containment.specs.TwoSymbols.{contained}
use Rattle.containment.proofs.TwoSymbols.{containment}
use Rattle.containment.specs.Inclusion.{Contains, ContainsNot, InclusionSays, contains_call}

module _ (v : ℕ) (t : List ℤ) (v' : ℕ) (t' : List ℤ) where
  pub does_contain : IsSymbol v t → IsSymbol v' t' → contained v' t' v t ≡ true → Contains v t v' t'
  does_contain s s' e =
      let o = containment v' t' v t s' s in
      let g = o.decided.0 e in
      record { one = s; other = s'; group = g; words = o.by_words.1 g }

  pub contains_not : IsSymbol v t → IsSymbol v' t' → contained v' t' v t ≡ false → ContainsNot v t v' t'
  contains_not s s' e =
      let o = containment v' t' v t s' s in
      record { one = s; other = s'; group = λ g. clash (o.decided.1 g) e; words = λ w. clash (o.decided.1 (o.by_words.0 w)) e }

  told : (b : Bool) → contained v' t' v t ≡ b → IsSymbol v t → IsSymbol v' t' → InclusionSays v t v' t' (bit b)
  told true e s s' = inl (refl, does_contain s s' e)
  told false e s s' = inr (refl, contains_not s s' e)

  pub contains_says : (w : Lent (List ℕ)) → (contains_call v t v' t' w).Says (number_of (contains_call v t v' t' w)) (place_of (contains_call v t v' t' w))
  contains_says w = two_say v t v' t' w (InclusionSays v t v' t') (bit (contained v' t' v t)) (told (contained v' t' v t) refl)
