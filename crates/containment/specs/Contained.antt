-- WHEN ONE SUBGROUP LIES IN ANOTHER, of conditions C and D whose right cosets have the tables s, r of n points and s',
-- r' of k points.
--
--   LiesIn C D             every matrix of determinant 1 that meets C meets D
--   Follows n s r s' r' f  f takes 0 to 0, and S and R to S and R
--   Followed n s r s' r'   there is such an f
--   OnePartner n k ..      no point x stands in two of the pairs that are reached
--   Containing C D ..      C lies in D exactly where some map follows; exactly where no point of the first stands in
--                          two pairs; exactly where there are as many pairs as points of the first
--   Containings            [containings] that is so of any two conditions; proofs/Contained.antt has the proof
use Rattle.std.specs.Prelude.{◌≡◌, ◌↔◌, List, ℕ, ◌/◌, ◌<◌, length}
use Rattle.matrix.specs.Matrix.{Mat}
use Rattle.numbering.specs.Find.{◌∈◌}
use Rattle.numbering.specs.Table.{image_at}
use Rattle.right_cosets.specs.Condition.{Unit}
use Rattle.right_cosets.specs.Cosets.{CosetsOf}
use Rattle.containment.specs.Pairs.{pairs_reached}

abbrev pub LiesIn : (C D : Mat → Type 0) → Type 0
LiesIn C D = (m : Mat) → Unit m → C m → D m

pub record Follows (n : ℕ) (s r s' r' : List ℕ) (f : ℕ → ℕ) : Type 0 where
  pub zero : f 0 ≡ 0
  pub by_S : (x : ℕ) → x < n → f (image_at s x) ≡ image_at s' (f x)
  pub by_R : (x : ℕ) → x < n → f (image_at r x) ≡ image_at r' (f x)

pub record Followed (n : ℕ) (s r s' r' : List ℕ) : Type 0 where
  pub to : ℕ → ℕ
  pub follows : Follows n s r s' r' to

abbrev pub OnePartner : (n k : ℕ) (s r s' r' : List ℕ) → Type 0
OnePartner n k s r s' r' = (c d : ℕ) → c ∈ pairs_reached n k s r s' r' → d ∈ pairs_reached n k s r s' r' → c / k ≡ d / k
    → c ≡ d

pub record Containing (C D : Mat → Type 0) (n k : ℕ) (s r s' r' : List ℕ) : Type 0 where
  pub followed : LiesIn C D ↔ Followed n s r s' r'
  pub one_partner : LiesIn C D ↔ OnePartner n k s r s' r'
  pub as_many : LiesIn C D ↔ (length (pairs_reached n k s r s' r') ≡ n)

abbrev pub Containings : Type 1
Containings = (C D : Mat → Type 0) (n k : ℕ) (s r s' r' : List ℕ) → CosetsOf C n s r → CosetsOf D k s' r'
    → Containing C D n k s r s' r'
