-- Choosing by a test: `pick` where the test is known, and tests joined by `&&`.
-- Assumes nothing.
use mathlib.Core.Path.{◌≡◌, refl, ap}
use mathlib.Core.Logic.{◌⊎◌, inl, inr}
use mathlib.Core.Bool.{Bool, true, false, ◌&&◌}
use Prim.Native.Nat.{ℕ}
use native.Mathlib.Omega.{arith}
use Rattle.basics.specs.Choice.{pick}

module _ {A : Type 0} (b : Bool) (x y : A) where
  pub pick_true : b ≡ true → pick b x y ≡ x
  pick_true e = ap (λ (z : Bool). pick z x y) e

  pub pick_false : b ≡ false → pick b x y ≡ y
  pick_false e = ap (λ (z : Bool). pick z x y) e

-- a test is true or false
pub either : (b : Bool) → (b ≡ true) ⊎ (b ≡ false)
either true = inl refl
either false = inr refl

-- it is not both
pub clash : {A : Type 0} {b : Bool} → b ≡ true → b ≡ false → A
clash {b} p q = let z : ◌≡◌ {A = ℕ} 0 1 = cc in absurd (omega arith)

pub and_left : (a b : Bool) → (a && b) ≡ true → a ≡ true
and_left true b e = refl
and_left false b e = e

pub and_right : (a b : Bool) → (a && b) ≡ true → b ≡ true
and_right true b e = e
and_right false b e = clash e refl
