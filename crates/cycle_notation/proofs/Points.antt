-- Points that are still free, and the room for one.
--     free_room    a point that is free leaves room for it
--     room_point   where there is room, some point is free
--     no_read      no text is read and not read
-- Assumes nothing.
use Rattle.std.specs.Prelude.{None, Some}
use mathlib.Core.Path.{◌≡◌}
use mathlib.Core.Bool.{true}
use mathlib.Core.List.{List}
use Prim.Native.Nat.{ℕ, zero, suc, ◌≤◌}
use native.Mathlib.Omega.{arith}
use lib.Dec.{leb}
use borrow.Author.Tests.{lt-ltb, ltb-true, leb-true}
use Rattle.basics.specs.Count.{first}
use Rattle.basics.proofs.Choice.{and_left, and_right, clash}
use Rattle.basics.proofs.Count.{Clear, Found, found, search_first}
use Rattle.cycle_notation.specs.Form.{free}
use Rattle.cycle_notation.specs.Verdict.{Read}
use Rattle.cycle_notation.specs.Inner.Reader.{room}
use mathlib.Core.Logic.{◌⊎◌, inl, inr}

module _ (n : ℕ) (seen : List ℕ) where
  pub free_range : (x : ℕ) → free n seen x ≡ true → (1 ≤ x) × (x ≤ n)
  free_range x e =
      let r = and_left _ _ e in
      (leb-true 1 x (and_left _ _ r), leb-true x n (and_right (leb 1 x) _ r))

  pub free_room : (x : ℕ) → free n seen x ≡ true → room n seen ≡ true
  free_room zero e = let h = free_range zero e in absurd (omega arith)
  free_room (suc i) e = go (search_first (λ (k : ℕ). free n seen (suc k)) n)
    where
      go : Clear (λ (k : ℕ). free n seen (suc k)) n ⊎ Found (λ (k : ℕ). free n seen (suc k)) n → room n seen ≡ true
      go (inl c) = let h = free_range (suc i) e in clash e (c.none i (omega arith))
      go (inr f) = lt-ltb _ n f.below

  pub record SomeFree : Type 0 where
    pub x : ℕ
    pub is : free n seen x ≡ true

  pub room_point : room n seen ≡ true → SomeFree
  room_point e = record { x = suc (first (λ (k : ℕ). free n seen (suc k)) n); is = (found (λ (k : ℕ). free n seen (suc k)) n (ltb-true _ n e)).passes }

pub no_read : {A : Type 0} {r : Read} → None ≡ Some r → A
no_read e = let z : ◌≡◌ {A = ℕ} 0 1 = cc in absurd (omega arith)
