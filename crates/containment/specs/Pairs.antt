-- PAIRS OF POINTS of two sets of right cosets, of n and of k points, whose tables of S and R are s, r and s', r'. The
-- pair of x and y goes by the number x k + y.
--
--   both k f g c                the pair of f x and g y, where c is the pair of x and y
--   pairs_reached n k s r s' r'  the pairs that S and R reach from the pair of the two points 0, numbered as
--                               docs/CONVENTIONS.md, 4, says
--   pairs_s, pairs_r, pairs_t   their tables of S, of R, and of T (S first and then R), by number
--   C and D                     the condition of both
--   Intersection C D ..         what is promised where s and r are the tables of the right cosets of C, and s' and r'
--                               those of D:
--     cosets       the tables of the pairs are those of the right cosets of `C and D`; so a matrix fixes point 0
--                  precisely when it meets both
--     T_is         T is S first and then R
--     pair         a matrix leads to the pair of the points that it leads to
--   Intersections               [intersections] that is so of any two conditions; proofs/Pairs.antt has the proof
use Rattle.std.specs.Prelude.{◌≡◌, List, ℕ, ◌+◌, ◌*◌, ◌/◌, ◌%◌, length, get_or}
use Rattle.matrix.specs.Matrix.{Mat}
use Rattle.numbering.specs.Order.{order_of}
use Rattle.numbering.specs.Table.{image_at, ◌then◌, renamed, ◌then_table◌}
use Rattle.right_cosets.specs.Leads.{leads}
use Rattle.right_cosets.specs.Condition.{Unit}
use Rattle.right_cosets.specs.Cosets.{CosetsOf}

unfoldable pub both : (k : ℕ) (f g : ℕ → ℕ) → ℕ → ℕ
both k f g c = f (c / k) * k + g (c % k)

module _ (n k : ℕ) (s r s' r' : List ℕ) where
  abbrev pub pair_by_s : ℕ → ℕ
  pair_by_s = both k (image_at s) (image_at s')

  abbrev pub pair_by_r : ℕ → ℕ
  pair_by_r = both k (image_at r) (image_at r')

  unfoldable pub pairs_reached : List ℕ
  pairs_reached = order_of pair_by_s pair_by_r 0 (n * k)

  unfoldable pub pairs_s : List ℕ
  pairs_s = renamed pairs_reached pair_by_s

  unfoldable pub pairs_r : List ℕ
  pairs_r = renamed pairs_reached pair_by_r

  unfoldable pub pairs_t : List ℕ
  pairs_t = renamed pairs_reached (pair_by_s then pair_by_r)

infixr 6 ◌and◌
abbrev pub ◌and◌ : (C D : Mat → Type 0) → Mat → Type 0
(C and D) m = C m × D m

pub record Intersection (C D : Mat → Type 0) (n k : ℕ) (s r s' r' : List ℕ) : Type 0 where
  pub cosets : CosetsOf (C and D) (length (pairs_reached n k s r s' r')) (pairs_s n k s r s' r') (pairs_r n k s r s' r')
  pub T_is : pairs_t n k s r s' r' ≡ pairs_s n k s r s' r' then_table pairs_r n k s r s' r'
  pub pair : (m : Mat) → Unit m
      → get_or (pairs_reached n k s r s' r') (leads (pairs_s n k s r s' r') (pairs_r n k s r s' r') m) 0
      ≡ leads s r m * k + leads s' r' m

abbrev pub Intersections : Type 1
Intersections = (C D : Mat → Type 0) (n k : ℕ) (s r s' r' : List ℕ) → CosetsOf C n s r → CosetsOf D k s' r'
    → Intersection C D n k s r s' r'
