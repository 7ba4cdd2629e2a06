-- THE RIGHT COSETS OF A CONDITION, NUMBERED as docs/CONVENTIONS.md, 4, says, each by one of its matrices; and what the
-- tables of S and R say, with the condition left open. `test` decides the condition.
--
--   coset_in test l m         the place of m's right coset in the list l: the first k for which m lₖ⁻¹ passes, or the
--                             length where there is none
--   with_coset test l m       l with m behind it, if its coset is new
--   after_visit test l i      l after a visit to its entry i: the product with S, and next that with R, joins
--   cosets_to test i          the cosets that have a number when the first i in order have been visited, by number; the
--                             identity's is 0
--   coset_table test l g      the table of multiplication on the right by g
--   CosetsOf C n s r          what tables s and r of the right cosets of a condition C say, in these parts:
--     size                 each has n entries, and is a permutation; S twice and R three times move nothing
--     S, R                 multiplication on the right by S and R is one step in the table
--     fixes                a matrix fixes point 0 precisely when it meets the condition
--     cosets               two matrices lead to one point exactly when they are in one right coset
--     reached              each point is some matrix's coset
--     numbered             the points are numbered by the rule: followed in the tables from point 0, it gives 0, 1, 2,
--                          ..
-- There are no other tables of which `CosetsOf C` holds (`OneTable`, in specs/Theorems.antt).
use Rattle.std.specs.Prelude.{◌≡◌, ◌↔◌, Bool, List, [], ◌∷◌, ◌++◌, map, ℕ, zero, suc, ◌<◌, ltb, length, get_or}
use Rattle.basics.specs.Choice.{pick}
use Rattle.basics.specs.Count.{first}
use Rattle.matrix.specs.Matrix.{Mat, ◌⊗◌, 𝟙, adj, mat_s, mat_r}
use Rattle.numbering.specs.Order.{order_of, up_to}
use Rattle.numbering.specs.Table.{image_at, Permutes}
use Rattle.right_cosets.specs.Leads.{leads, IsReached}
use Rattle.right_cosets.specs.Condition.{Unit}

module _ (test : Mat → Bool) where
  abbrev pub coset_in : List Mat → Mat → ℕ
  coset_in l m = first (λ (k : ℕ). test (m ⊗ adj (get_or l k 𝟙))) (length l)

  unfoldable pub with_coset : List Mat → Mat → List Mat
  with_coset l m = pick (ltb (coset_in l m) (length l)) l (l ++ (m ∷ []))

  abbrev pub after_visit : List Mat → ℕ → List Mat
  after_visit l i = with_coset (with_coset l (get_or l i 𝟙 ⊗ mat_s)) (get_or l i 𝟙 ⊗ mat_r)

  unfoldable pub cosets_to : ℕ → List Mat
  cosets_to zero = 𝟙 ∷ []
  cosets_to (suc i) = let l = cosets_to i in pick (ltb i (length l)) (after_visit l i) l

  unfoldable pub coset_table : List Mat → Mat → List ℕ
  coset_table l g = map (λ (m : Mat). coset_in l (m ⊗ g)) l

pub record CosetsOf (C : Mat → Type 0) (n : ℕ) (s r : List ℕ) : Type 0 where
  -- size
  pub size_S : length s ≡ n
  pub size_R : length r ≡ n
  pub permutes_S : Permutes s
  pub permutes_R : Permutes r
  pub twice : (j : ℕ) → j < n → image_at s (image_at s j) ≡ j
  pub thrice : (j : ℕ) → j < n → image_at r (image_at r (image_at r j)) ≡ j
  -- S, R
  pub low : (m : Mat) → Unit m → leads s r m < n
  pub by_S : (m : Mat) → Unit m → leads s r (m ⊗ mat_s) ≡ image_at s (leads s r m)
  pub by_R : (m : Mat) → Unit m → leads s r (m ⊗ mat_r) ≡ image_at r (leads s r m)
  -- fixes, cosets
  pub fixes : (m : Mat) → Unit m → (leads s r m ≡ 0) ↔ C m
  pub cosets : (l m : Mat) → Unit l → Unit m → (leads s r l ≡ leads s r m) ↔ C (l ⊗ adj m)
  -- reached
  pub reached : (j : ℕ) → j < n → IsReached s r j
  -- numbered
  pub numbered : order_of (image_at s) (image_at r) 0 n ≡ up_to n
