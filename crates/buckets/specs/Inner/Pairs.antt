-- PAIRS OF NUMBERS IN THE WORK SPACE, numbered as they are met, each found again by its bucket.
--
--     place   code      here      holds
--      8192   FIRST     FIRST     the first number of each pair, by the pair's place
--     12288   SECOND    SECOND    the second
--     16384   LAST      LAST      for each bucket, one more than the place of the last pair in it, or 0
--     20480   BEFORE    BEFORE    for each pair, one more than the place of the last before it in its bucket, or 0
--
--   buckets                  how many buckets there are
--   bucket_of m x y          the bucket of the pair of x and y, for the multiplier m
--
-- The list and its chains are stated for any map `key` from pairs to buckets; the pair of x and y goes by the number
-- x k + y, for a k above all second numbers.
--
--   key_at key w j            the bucket of the pair at j
--   Latest key w b i p       of the pairs before i, p - 1 is the last one in the bucket b; 0 is for none
--   HoldsPairs key k l w count   w holds the list l of `count` pairs, none twice, with their chains
--   HoldsSomePairs key w y count   it holds some list, for a k above y
--   BucketsBegun n w w'             the first n buckets have no pair; all else is as it was
--   SamePair w q x y b       b tells whether the pair at q is that of x and y
--   SeekPair, PairFound      what is asked where a pair is sought, and what is found: its place in any list held
--   SeekSomePair             the same of a list of some length
--   PairSought               what the answer says for each list held: a place of the list, or that it has none
--   with_pair w b x y i      w with the pair of x and y at i, in the bucket b; PushPair: what is asked for that
--   EnterPair, PairEntered   the pair of x and y joins the list, if it is new; all else is as it was
use Rattle.std.specs.Prelude.{◌≡◌, List, Bool, true, false, Option, None, Some, ℕ, suc, ◌+◌, ◌*◌, ◌/◌, ◌%◌, ◌≤◌, ◌<◌}
use Rattle.std.specs.Prelude.{length, get_or, set}
use Rattle.call.specs.Space.{work_length}
use Rattle.numbering.specs.Find.{find, Once}
use Rattle.numbering.specs.Order.{add}

abbrev pub FORMER : ℕ
FORMER = 8192

abbrev pub LATTER : ℕ
LATTER = 12288

abbrev pub LAST : ℕ
LAST = 16384

abbrev pub BEFORE : ℕ
BEFORE = 20480

-- the first place behind all four
abbrev pub BEHIND : ℕ
BEHIND = 24576

abbrev pub buckets : ℕ
buckets = 4096

unfoldable pub bucket_of : (m x y : ℕ) → ℕ
bucket_of m x y = (x * m + y) % buckets

-- ---- the list and its chains

abbrev pub key_at : (key : ℕ → ℕ → ℕ) → List ℕ → ℕ → ℕ
key_at key w j = key (get_or w (FORMER + j) 0) (get_or w (LATTER + j) 0)

pub record Latest (key : ℕ → ℕ → ℕ) (w : List ℕ) (b i p : ℕ) : Type 0 where
  pub low : p ≤ i
  pub hit : (q : ℕ) → p ≡ suc q → key_at key w q ≡ b
  pub none : (j : ℕ) → p ≤ j → j < i → key_at key w j ≡ b → ⊥

pub record HoldsPairs (key : ℕ → ℕ → ℕ) (k : ℕ) (l w : List ℕ) (count : ℕ) : Type 0 where
  pub long : work_length ≤ length w
  pub room : count ≤ 4096
  pub some : 0 < k
  pub size : length l ≡ count
  pub once : Once l
  pub first : (j : ℕ) → j < count → get_or w (FORMER + j) 0 ≡ get_or l j 0 / k
  pub second : (j : ℕ) → j < count → get_or w (LATTER + j) 0 ≡ get_or l j 0 % k
  pub lasts : (b : ℕ) → b < buckets → Latest key w b count (get_or w (LAST + b) 0)
  pub earlier : (j : ℕ) → j < count → Latest key w (key_at key w j) j (get_or w (BEFORE + j) 0)

pub record HoldsSomePairs (key : ℕ → ℕ → ℕ) (w : List ℕ) (y count : ℕ) : Type 0 where
  pub modulus : ℕ
  pub list : List ℕ
  pub below : y < modulus
  pub holds : HoldsPairs key modulus list w count

pub record BucketsBegun (n : ℕ) (w w' : List ℕ) : Type 0 where
  pub same : length w' ≡ length w
  pub none : (b : ℕ) → b < n → get_or w' (LAST + b) 0 ≡ 0
  pub below : (p : ℕ) → p < LAST → get_or w' p 0 ≡ get_or w p 0
  pub above : (p : ℕ) → BEFORE ≤ p → get_or w' p 0 ≡ get_or w p 0

-- ---- a pair sought

pub record SamePair (w : List ℕ) (q x y : ℕ) (b : Bool) : Type 0 where
  pub yes : b ≡ true → (get_or w (FORMER + q) 0 ≡ x) × (get_or w (LATTER + q) 0 ≡ y)
  pub no : b ≡ false → get_or w (FORMER + q) 0 ≡ x → get_or w (LATTER + q) 0 ≡ y → ⊥

pub record SeekPair (key : ℕ → ℕ → ℕ) (w : List ℕ) (b x y count : ℕ) : Type 0 where
  pub is : b ≡ key x y
  pub low : b < buckets
  pub some : HoldsSomePairs key w y count

abbrev pub PairFound : (key : ℕ → ℕ → ℕ) (w : List ℕ) (x y count p : ℕ) → Type 0
PairFound key w x y count p = (k : ℕ) (l : List ℕ) → y < k → HoldsPairs key k l w count → p ≡ find l (x * k + y)

pub record SeekSomePair (key : ℕ → ℕ → ℕ) (w : List ℕ) (b x y : ℕ) : Type 0 where
  pub count : ℕ
  pub seek : SeekPair key w b x y count

abbrev found_as : (key : ℕ → ℕ → ℕ) (w : List ℕ) (x y count : ℕ) → Option ℕ → Type 0
found_as key w x y count None = PairFound key w x y count count
found_as key w x y count (Some p) = (p < count) × PairFound key w x y count p

abbrev pub PairSought : (key : ℕ → ℕ → ℕ) (w : List ℕ) (b x y : ℕ) → Option ℕ → Type 0
PairSought key w b x y r = (count : ℕ) → SeekPair key w b x y count → found_as key w x y count r

-- ---- a pair put in

unfoldable pub with_pair : List ℕ → (b x y i : ℕ) → List ℕ
with_pair w b x y i =
    let a = set (set w (FORMER + i) x) (LATTER + i) y in
    set (set a (BEFORE + i) (get_or a (LAST + b) 0)) (LAST + b) (i + 1)

pub record PushPair (w : List ℕ) (b i : ℕ) : Type 0 where
  pub long : work_length ≤ length w
  pub low : b < buckets
  pub room : i < 4096

pub record EnterPair (m : ℕ) (w : List ℕ) (x y count : ℕ) : Type 0 where
  pub multiplier : m ≤ 65536
  pub fits : count < 4096
  pub some : HoldsSomePairs (bucket_of m) w y count

pub record PairEntered (key : ℕ → ℕ → ℕ) (w : List ℕ) (x y count : ℕ) (w' : List ℕ) (place count' : ℕ) : Type 0 where
  pub same : length w' ≡ length w
  pub upto : count' ≤ count + 1
  pub inside : place < count'
  pub below : (p : ℕ) → p < FORMER → get_or w' p 0 ≡ get_or w p 0
  pub above : (p : ℕ) → BEHIND ≤ p → get_or w' p 0 ≡ get_or w p 0
  pub holds : (k : ℕ) (l : List ℕ) → y < k → HoldsPairs key k l w count → HoldsPairs key k (add l (x * k + y)) w' count'
  pub place_is : (k : ℕ) (l : List ℕ) → y < k → HoldsPairs key k l w count → place
      ≡ find (add l (x * k + y)) (x * k + y)
