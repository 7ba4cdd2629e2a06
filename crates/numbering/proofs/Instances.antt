-- The numbering and the tables, run on the tables of the groups of docs/CONVENTIONS.md, 12. Its starred instances are proved in the crate `statements`.
-- Assumes nothing.
use mathlib.Core.Path.{◌≡◌, refl}
use mathlib.Core.List.{List, [], ◌∷◌}
use Prim.Native.Nat.{ℕ}
use Rattle.numbering.specs.Find.{find}
use Rattle.numbering.specs.Order.{add, order_to, order_of}
use Rattle.numbering.specs.Table.{image_at, ◌then◌, renamed}

-- ---- Γ0(2): S 1 0 2, R 2 0 1, T 0 2 1
abbrev s2 : List ℕ
s2 = 1 ∷ 0 ∷ 2 ∷ []

abbrev r2 : List ℕ
r2 = 2 ∷ 0 ∷ 1 ∷ []

gamma0_2_order : order_of (image_at s2) (image_at r2) 0 3 ≡ (0 ∷ 1 ∷ 2 ∷ [])
unfolding order_to add find
gamma0_2_order = refl

gamma0_2_T : renamed (order_of (image_at s2) (image_at r2) 0 3) (image_at s2 then image_at r2) ≡ (0 ∷ 2 ∷ 1 ∷ [])
unfolding order_to add find renamed
gamma0_2_T = refl

-- ---- Γ(2): S 1 0 4 5 2 3, R 2 3 5 4 1 0, T 3 2 1 0 5 4; and the same points numbered from another start
abbrev s4 : List ℕ
s4 = 1 ∷ 0 ∷ 4 ∷ 5 ∷ 2 ∷ 3 ∷ []

abbrev r4 : List ℕ
r4 = 2 ∷ 3 ∷ 5 ∷ 4 ∷ 1 ∷ 0 ∷ []

gamma2_S : renamed (order_of (image_at s4) (image_at r4) 0 6) (image_at s4) ≡ s4
unfolding order_to add find renamed
gamma2_S = refl

gamma2_R : renamed (order_of (image_at s4) (image_at r4) 0 6) (image_at r4) ≡ r4
unfolding order_to add find renamed
gamma2_R = refl

gamma2_T : renamed (order_of (image_at s4) (image_at r4) 0 6) (image_at s4 then image_at r4) ≡ (3 ∷ 2 ∷ 1 ∷ 0 ∷ 5 ∷ 4 ∷ [])
unfolding order_to add find renamed
gamma2_T = refl

from_3 : order_of (image_at s4) (image_at r4) 3 6 ≡ (3 ∷ 5 ∷ 4 ∷ 0 ∷ 2 ∷ 1 ∷ [])
unfolding order_to add find
from_3 = refl

-- ---- the symbol 0/1 with pairings -3 -3: index 2, S 1 0, R 0 1
index_2 : order_of (image_at (1 ∷ 0 ∷ [])) (image_at (0 ∷ 1 ∷ [])) 0 2 ≡ (0 ∷ 1 ∷ [])
unfolding order_to add find
index_2 = refl

-- points that the start does not reach get no number
not_reached_lem : order_of (image_at (0 ∷ 2 ∷ 1 ∷ [])) (image_at (0 ∷ 1 ∷ 2 ∷ [])) 0 3 ≡ (0 ∷ [])
unfolding order_to add find
not_reached_lem = refl
