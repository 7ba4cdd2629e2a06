-- Tables: a map of the numbers 0 .. n-1 as the list of its n images. The image of j stands at the place j.
--     image_at t j               the image of j in the table t
--     f then g                   f first, and then g: so T = S R, up to sign, acts on right cosets
--     image_number order f x     the number of the image of the point x under f
--     renamed order f            the table of f by number, for the points that `order` lists by number
--     s then_table r             the table s first, and then the table r
--     Permutes t                 t is a permutation of its places
--     Injective l f              f is injective on the points of l
--     Natural order f t          the table t is the map f renamed: numbering after a step is the table's step after
--                                numbering
--     Renaming σ ρ order s r t   THE THEOREM on the tables of S, R and T: they are the maps renamed; T is S first and
--                                then R
--     Permutations s r t         THE THEOREM on the tables of injective maps: they are permutations
-- `proofs/Table.antt` proves `renaming` and `permutations` for the numbering of `Order`.
use Rattle.std.specs.Prelude.{◌≡◌, List, map, ℕ, ◌<◌, length, get_or}
use Rattle.numbering.specs.Find.{find, ◌∈◌}

infixl 20 ◌then◌ ◌then_table◌
abbrev pub image_at : List ℕ → ℕ → ℕ
image_at t j = get_or t j 0

abbrev pub ◌then◌ : (ℕ → ℕ) → (ℕ → ℕ) → ℕ → ℕ
(f then g) x = g (f x)

abbrev pub image_number : List ℕ → (ℕ → ℕ) → ℕ → ℕ
image_number order f x = find order (f x)

unfoldable pub renamed : List ℕ → (ℕ → ℕ) → List ℕ
renamed order f = map (image_number order f) order

unfoldable pub ◌then_table◌ : List ℕ → List ℕ → List ℕ
s then_table r = map (image_at r) s

pub record Permutes (t : List ℕ) : Type 0 where
  pub low : (j : ℕ) → j < length t → image_at t j < length t
  pub one : (j k : ℕ) → j < length t → k < length t → image_at t j ≡ image_at t k → j ≡ k

pub record Injective (l : List ℕ) (f : ℕ → ℕ) : Type 0 where
  pub one : (x y : ℕ) → x ∈ l → y ∈ l → f x ≡ f y → x ≡ y

pub record Natural (order : List ℕ) (f : ℕ → ℕ) (t : List ℕ) : Type 0 where
  pub long : length t ≡ length order
  pub low : (j : ℕ) → j < length order → image_at t j < length order
  pub step : (x : ℕ) → x ∈ order → image_at t (find order x) ≡ find order (f x)
  pub back : (j : ℕ) → j < length order → get_or order (image_at t j) 0 ≡ f (get_or order j 0)

pub record Renaming (σ ρ : ℕ → ℕ) (order s r t : List ℕ) : Type 0 where
  pub S : Natural order σ s
  pub R : Natural order ρ r
  pub T : Natural order (σ then ρ) t
  pub T_is : t ≡ s then_table r

pub record Permutations (s r t : List ℕ) : Type 0 where
  pub S : Permutes s
  pub R : Permutes r
  pub T : Permutes t
