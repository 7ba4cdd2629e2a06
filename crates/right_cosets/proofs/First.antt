-- Two more laws of the first number that passes a test: it is there where some number passes, and it is that one where no other does.
-- Assumes nothing.
use mathlib.Core.Path.{◌≡◌}
use mathlib.Core.Logic.{◌⊎◌, inl, inr}
use mathlib.Core.Bool.{Bool, true}
use Prim.Native.Nat.{ℕ, ◌<◌}
use Rattle.basics.specs.Count.{first}
use Rattle.basics.proofs.Choice.{clash}
use Rattle.basics.proofs.Count.{Clear, Found, search_first, found}

pub first_some : (f : ℕ → Bool) (n j : ℕ) → j < n → f j ≡ true → first f n < n
first_some f n j h e = elim (search_first f n) [ inl c ↦ clash e (c.none j h) | inr z ↦ z.below ]

pub first_is : (f : ℕ → Bool) (n j : ℕ) → j < n → f j ≡ true → ((i : ℕ) → i < n → f i ≡ true → i ≡ j) → first f n ≡ j
first_is f n j h e only = let z = found f n (first_some f n j h e) in only (first f n) z.below z.passes
