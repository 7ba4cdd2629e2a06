-- The right cosets of a family in the work space: a pair of numbers of each, as the crate `buckets` keeps them, and
-- what entries are made with.
--
--     place   code         here         holds, for the coset with the number j
--      4096   ROW_C        ROW_C        for Γ0, c of its row (c d)
--      8192   FIRST        FIRST        the first number of its pair
--     12288   SECOND       SECOND       the second
--     16384   the buckets, and the chains from 20480
--     24576   ROW_D        ROW_D        for Γ0, d of its row
--     28672   PART         PART         for Γ0, for each c below n, n / g with g the greatest common divisor of c and n
--     29696   MULTIPLIER   MULTIPLIER   for Γ0, for each c below n, s with s c = g modulo n
--
--   residues_at f w j          the entry j
--   Columns n w             w holds the parts and multipliers; ColumnsFor f n w: if f is Γ0
--   with_column w c h s     w with those of c; ColumnsMade n w w': made in w, all below untouched
--   ColumnsReady f n w w'       made if f is Γ0, all below untouched
--   Keys f n w count l      w holds the list l of pairs
--   HoldsCosets f n l w count  w holds entries of the list l of `count` matrices, no two in one coset, with their pairs
--   HoldsSome f n w count   it holds some list
--   Group f n               n is a modulus, and the index of the family is at most 3,066
--   Points, PointAt         what is asked for the entry of a point, and what it is
--   TakesImage f n w x      what is asked for an image
--   with_row f w i x         w with the row of x at i, if f is Γ0
--   Enters f n w count x    what is asked where the pair of x joins the list
--   EntersAs f n w count x w' place count'    it has joined, if it was new; it is at that place
use Rattle.std.specs.Prelude.{◌≡◌, List, ℕ, ◌+◌, ◌/◌, ◌%◌, ◌≤◌, ◌<◌, length, get_or, set}
use Rattle.matrix.specs.Matrix.{Mat, ◌⊗◌, mat_s, mat_r}
use Rattle.call.specs.Space.{work_length}
use Rattle.congruence.specs.Congruence.{Meets, meets}
use Rattle.congruence.specs.Index.{family_index}
use Rattle.right_cosets.specs.Cosets.{coset_in, with_coset, after_visit, cosets_to}
use Rattle.congruence.specs.declared.Family.{Family}
use Rattle.congruence.specs.declared.Family.TheVariants as family
use Rattle.buckets.specs.Inner.Pairs.{FORMER, LATTER, bucket_of, HoldsPairs, PairEntered}
use Rattle.right_cosets.specs.Inner.Listed.{matrix_at, CosetList}
use Rattle.congruence.specs.Inner.Common.{Modulus, CommonOf}
use Rattle.congruence_tables.specs.declared.residues.Residues.{Residues}
use Rattle.congruence.specs.declared.modular.Common.{Common}
use Rattle.congruence_tables.specs.Inner.Residues.{SmallOf, PointOf, EntryOf, Stands, first_of, second_of}
use Rattle.congruence_tables.specs.Inner.Residues.{multiplier_of}

abbrev pub ROW_C : ℕ
ROW_C = 4096

abbrev pub ROW_D : ℕ
ROW_D = 24576

abbrev pub PART : ℕ
PART = 28672

abbrev pub MULTIPLIER : ℕ
MULTIPLIER = 29696

abbrev pub residues_at : Family → List ℕ → ℕ → Residues
residues_at family.Gamma0 w j = record {
  a = get_or w (FORMER + j) 0;
  b = get_or w (LATTER + j) 0;
  c = get_or w (ROW_C + j) 0;
  d = get_or w (ROW_D + j) 0;
}
residues_at family.Gamma1 w j = record { a = 0; b = 0; c = get_or w (FORMER + j) 0; d = get_or w (LATTER + j) 0 }
residues_at family.Gamma w j = record {
  a = get_or w (FORMER + j) 0 / 64;
  b = get_or w (FORMER + j) 0 % 64;
  c = get_or w (LATTER + j) 0 / 64;
  d = get_or w (LATTER + j) 0 % 64;
}

pub record Group (f : Family) (n : ℕ) : Type 0 where
  pub modulus : Modulus n
  pub few : family_index f n ≤ 3066

-- ---- the columns

pub record ColumnAt (n : ℕ) (w : List ℕ) (c : ℕ) : Type 0 where
  pub by : Common
  pub common : CommonOf n c by
  pub part_is : get_or w (PART + c) 0 ≡ by.h
  pub multiplier_is : get_or w (MULTIPLIER + c) 0 ≡ by.s

abbrev pub Columns : ℕ → List ℕ → Type 0
Columns n w = (c : ℕ) → c < n → ColumnAt n w c

abbrev pub ColumnsFor : Family → ℕ → List ℕ → Type 0
ColumnsFor family.Gamma0 n w = Columns n w
ColumnsFor family.Gamma1 n w = Unit {0}
ColumnsFor family.Gamma n w = Unit {0}

abbrev pub with_column : List ℕ → (c h s : ℕ) → List ℕ
with_column w c h s = set (set w (PART + c) h) (MULTIPLIER + c) s

pub record ColumnsMade (n : ℕ) (w w' : List ℕ) : Type 0 where
  pub same : length w' ≡ length w
  pub below : (p : ℕ) → p < PART → get_or w' p 0 ≡ get_or w p 0
  pub columns : Columns n w'

pub record ColumnsReady (f : Family) (n : ℕ) (w w' : List ℕ) : Type 0 where
  pub same : length w' ≡ length w
  pub below : (p : ℕ) → p < PART → get_or w' p 0 ≡ get_or w p 0
  pub columns : ColumnsFor f n w'

pub record Points (n : ℕ) (w : List ℕ) (c d : ℕ) : Type 0 where
  pub modulus : Modulus n
  pub long : work_length ≤ length w
  pub c_low : c < n
  pub d_low : d < n
  pub columns : Columns n w

pub record PointAt (n c d : ℕ) (r : Residues) : Type 0 where
  pub point : PointOf n r
  pub c_is : r.c ≡ c
  pub d_is : r.d ≡ d

pub record TakesImage (f : Family) (n : ℕ) (w : List ℕ) (x : Residues) : Type 0 where
  pub modulus : Modulus n
  pub long : work_length ≤ length w
  pub columns : ColumnsFor f n w
  pub entry : EntryOf f n x

-- ---- the entries

abbrev pub Keys : (f : Family) (n : ℕ) (w : List ℕ) (count : ℕ) (l : List ℕ) → Type 0
Keys f n w count l = HoldsPairs (bucket_of (multiplier_of f n)) 4096 l w count

pub record HoldsCosets (f : Family) (n : ℕ) (l : List Mat) (w : List ℕ) (count : ℕ) : Type 0 where
  pub long : work_length ≤ length w
  pub room : count ≤ 3066
  pub size : length l ≡ count
  pub listed : CosetList (Meets f n) l
  pub columns : ColumnsFor f n w
  pub stands : (j : ℕ) → j < count → Stands f n (residues_at f w j) (matrix_at l j)
  pub pairs : List ℕ
  pub keys : Keys f n w count pairs

pub record HoldsSome (f : Family) (n : ℕ) (w : List ℕ) (count : ℕ) : Type 0 where
  pub list : List Mat
  pub holds : HoldsCosets f n list w count

abbrev pub with_row : Family → List ℕ → ℕ → Residues → List ℕ
with_row family.Gamma0 w i x = set (set w (ROW_C + i) x.c) (ROW_D + i) x.d
with_row family.Gamma1 w i x = w
with_row family.Gamma w i x = w

pub record Enters (f : Family) (n : ℕ) (w : List ℕ) (count : ℕ) (x : Residues) : Type 0 where
  pub modulus : Modulus n
  pub long : work_length ≤ length w
  pub fits : count < 4096
  pub small : SmallOf x
  pub low : second_of f x < 4096
  pub pairs : List ℕ
  pub keys : Keys f n w count pairs

pub record EntersAs (f : Family) (n : ℕ) (w : List ℕ) (count : ℕ) (x : Residues) (w' : List ℕ) (place count' : ℕ) : Type
    0 where
  pub joined : PairEntered (bucket_of (multiplier_of f n)) (with_row f w count x) (first_of f x) (second_of f x) count w'
      place count'

-- ---- the walk over the cosets

pub record Visits (f : Family) (n : ℕ) (w s r : List ℕ) (i count : ℕ) : Type 0 where
  pub group : Group f n
  pub some : HoldsSome f n w count
  pub low : i < count
  pub room_S : i < length s
  pub room_R : i < length r

-- the list after S has joined, and its place; and then after R has
pub record VisitsTo (f : Family) (n : ℕ) (w s r : List ℕ) (i count : ℕ) (w' s' r' : List ℕ) (count' : ℕ) : Type 0 where
  pub same : length w' ≡ length w
  pub holds : (l : List Mat) → HoldsCosets f n l w count → HoldsCosets f n (after_visit (meets f n) l i) w' count'
  pub S_is : (l : List Mat) → HoldsCosets f n l w count → s'
      ≡ set s i (coset_in (meets f n) (with_coset (meets f n) l (matrix_at l i ⊗ mat_s)) (matrix_at l i ⊗ mat_s))
  pub R_is : (l : List Mat) → HoldsCosets f n l w count → r'
      ≡ set r i (coset_in (meets f n) (after_visit (meets f n) l i) (matrix_at l i ⊗ mat_r))

pub record Started (f : Family) (n : ℕ) (w w' : List ℕ) : Type 0 where
  pub same : length w' ≡ length w
  pub holds : HoldsCosets f n (cosets_to (meets f n) 0) w' 1

pub record Tabulates (f : Family) (n : ℕ) (w s r : List ℕ) : Type 0 where
  pub group : Group f n
  pub long : work_length ≤ length w
  pub room_S : family_index f n ≤ length s
  pub room_R : family_index f n ≤ length r
