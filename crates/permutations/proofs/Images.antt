-- Images of points: `image_in`, where the point is a place of the table; `image_out`, where it is none; and in the tables of a pair they are points
-- (`low_S`, `low_R`).
-- Assumes nothing.
use mathlib.Core.Path.{◌≡◌, refl}
use mathlib.Core.List.{List, [], ◌∷◌}
use Prim.Native.Nat.{ℕ, zero, suc, ◌≤◌, ◌<◌}
use native.Mathlib.Omega.{arith}
use lib.ListN.{length, get_or, get_or-eq_default}
use Rattle.permutations.specs.Pair.{image, Pair}

pub image_in : (l : List ℕ) (x d : ℕ) → x < length l → image l x ≡ get_or l x d
image_in l x d h = go l x x d h
  where
    go : (l : List ℕ) (x a b : ℕ) → x < length l → get_or l x a ≡ get_or l x b
    go [] x a b h = absurd (omega arith)
    go (y ∷ l) zero a b h = refl
    go (y ∷ l) (suc x) a b h = go l x a b (omega arith)

pub image_out : (l : List ℕ) (x : ℕ) → length l ≤ x → image l x ≡ x
image_out l x h = get_or-eq_default l x h

-- ---- points stay points

module _ (s r : List ℕ) (p : Pair s r) (x y : ℕ) (h : x < length s) where
  pub low_S : y ≡ image s x → (y < length s) × (y < length r)
  low_S e = let k = p.permuting.σ_low x h in let l = p.even in (omega arith, omega arith)

  pub low_R : y ≡ image r x → (y < length s) × (y < length r)
  low_R e = let k = p.permuting.ρ_low x h in let l = p.even in (omega arith, omega arith)
