-- Pairs of cosets in the work space, as the crate `buckets` keeps them: where there are k second cosets, the pair of x
-- and y goes by the number x k + y. m is the multiplier of the buckets.
--
--   PairTables n k a b c d  what is asked of the lent tables: a and b of S and R of the n first cosets, c and d of the
--                           k second ones
--   VisitPair, PairVisited  both images of the pair i take the next numbers, if they are new, and stand in the tables
--   WalkPairs, PairsListed  the walk over the pairs: all of them and their tables, or more than 3,066
--   GiveTables w n          what is asked for the table of T: the images by S are points
--   give_steps n x y z s r u   24 where there are more than 3,066, and then the tables x, y and z in the result spaces
use Rattle.std.specs.Prelude.{◌≡◌, List, ◌++◌, ℕ, ◌+◌, ◌*◌, ◌≤◌, ◌<◌, length, get_or}
use Rattle.call.specs.Space.{work_length, entries}
use Rattle.numbering.specs.Find.{find}
use Rattle.numbering.specs.Order.{add, visit, Maps}
use Rattle.numbering.specs.Table.{image_at}
use Rattle.numbering.specs.Inner.Space.{S_TABLE, R_TABLE}
use Rattle.call.specs.Call.{Lent, Step, asks, stores}
use Rattle.buckets.specs.Inner.Pairs.{bucket_of, HoldsPairs}
use Rattle.containment.specs.Pairs.{pairs_reached, pairs_s, pairs_r, pair_by_s, pair_by_r}
use Rattle.intersections.specs.Answer.{too_many}

-- ---- the walk over the pairs

pub record PairTables (n k : ℕ) (a b c d : List ℕ) : Type 0 where
  pub some : 0 < k
  pub few : k ≤ 4096
  pub few_first : n ≤ 4096
  pub size_a : length a ≡ 4096
  pub size_b : length b ≡ 4096
  pub size_c : length c ≡ 4096
  pub size_d : length d ≡ 4096
  pub low_c : (y : ℕ) → y < k → image_at c y < k
  pub low_d : (y : ℕ) → y < k → image_at d y < k
  pub maps : Maps (pair_by_s n k a b c d) (pair_by_r n k a b c d) 0 (n * k)

pub record VisitPair (w a b c d : List ℕ) (m i count : ℕ) : Type 0 where
  pub points : ℕ
  pub modulus : ℕ
  pub list : List ℕ
  pub tables : PairTables points modulus a b c d
  pub holds : HoldsPairs (bucket_of m) modulus list w count
  pub multiplier : m ≤ 65536
  pub low : i < count
  pub inside : get_or list i 0 < points * modulus
  pub room : count ≤ 3066

-- the list after S has been entered and the place of the image, and the same after R
pub record PairVisited (w a b c d : List ℕ) (m i count : ℕ) (w' : List ℕ) (count' : ℕ) : Type 0 where
  pub same : length w' ≡ length w
  pub upto : count' ≤ count + 2
  pub S_kept : (j : ℕ) → j < i → get_or w' (S_TABLE + j) 0 ≡ get_or w (S_TABLE + j) 0
  pub R_kept : (j : ℕ) → j < i → get_or w' (R_TABLE + j) 0 ≡ get_or w (R_TABLE + j) 0
  pub holds : (n k : ℕ) (l : List ℕ) → PairTables n k a b c d → HoldsPairs (bucket_of m) k l w count
      → HoldsPairs (bucket_of m) k (visit (pair_by_s n k a b c d) (pair_by_r n k a b c d) l i) w' count'
  pub S_is : (n k : ℕ) (l : List ℕ) → PairTables n k a b c d → HoldsPairs (bucket_of m) k l w count
      → get_or w' (S_TABLE + i) 0 ≡ find (add l (pair_by_s n k a b c d (get_or l i 0))) (pair_by_s n k a b c d (get_or l i 0))
  pub R_is : (n k : ℕ) (l : List ℕ) → PairTables n k a b c d → HoldsPairs (bucket_of m) k l w count
      → get_or w' (R_TABLE + i) 0 ≡ find (visit (pair_by_s n k a b c d) (pair_by_r n k a b c d) l i)
      (pair_by_r n k a b c d (get_or l i 0))

pub record WalkPairs (w a b c d : List ℕ) (m : ℕ) : Type 0 where
  pub multiplier : m ≤ 65536
  pub long : work_length ≤ length w
  pub points : ℕ
  pub modulus : ℕ
  pub tables : PairTables points modulus a b c d

-- for all numbers of points that the tables may have
pub record PairsListed (w a b c d w' : List ℕ) (count : ℕ) : Type 0 where
  pub same : length w' ≡ length w
  pub large : (n k : ℕ) → PairTables n k a b c d → 3066 < count → 3066 < length (pairs_reached n k a b c d)
  pub points : (n k : ℕ) → PairTables n k a b c d → count ≤ 3066 → count ≡ length (pairs_reached n k a b c d)
  pub S_is : (n k : ℕ) → PairTables n k a b c d → count ≤ 3066 → entries S_TABLE count w' ≡ pairs_s n k a b c d
  pub R_is : (n k : ℕ) → PairTables n k a b c d → count ≤ 3066 → entries R_TABLE count w' ≡ pairs_r n k a b c d

pub record GiveTables (w : List ℕ) (n : ℕ) : Type 0 where
  pub long : work_length ≤ length w
  pub low : n ≤ 3066 → (j : ℕ) → j < n → image_at (entries S_TABLE n w) j < n

abbrev pub give_steps : (n : ℕ) (x y z : List ℕ) (s r u : Lent (List ℕ)) → List Step
give_steps n x y z s r u = asks (too_many n) ++ stores x s ++ stores y r ++ stores z u
