-- The search along a chain (`search-…`), and a pair put in (`pushed-…`), for any map `key` from pairs to buckets.
-- Why a search finds: the chain of a bucket has all pairs whose key it is, and the pair that is sought has the key of its bucket.
-- In order: a pair and its number; no pairs; the search; a pair put in; stores elsewhere.
-- Assumes nothing.
use mathlib.Core.Path.{◌≡◌, refl, sym, ◌∙◌, ap}
use mathlib.Core.Logic.{◌≢◌}
use mathlib.Core.Bool.{Bool, true, false}
use mathlib.Core.List.{List, [], ◌∷◌, ◌++◌}
use Prim.Native.Nat.{ℕ, suc, ◌+◌, ◌*◌, ◌/◌, ◌%◌, ◌-◌, ◌≤◌, ◌<◌}
use native.Mathlib.Omega.{arith}
use native.Mathlib.Nat.{mod-eq_of_lt, div-eq_of_lt, div-add-mod', mul-add-div_right, mul-add-mod_self_right, mul-le-mul_right}
use native.Mathlib.Decide.{dec_lt, ℕ_discrete}
use lib.Dec.{eqb}
use lib.ListN.{length, get_or, set, replicate, length-set, length-append, length-replicate, get_or-append}
use borrow.Rule.Slice.PartMut.{put_mid}
use Rattle.std.proofs.lemmas.List.{get_or-replicate}
use Rattle.std.proofs.lemmas.Slice.{put_mid-paste}
use Rattle.numbering.specs.Inner.Space.{put_to}
use Rattle.numbering.proofs.Space.{put_in, put_within}
use lib.Seq.{get_or-set_same, get_or-set_other, get_or-append-add}
use borrow.Author.Tests.{eq-eqb, ne_eqb, eqb-true}
use Rattle.call.specs.Space.{work_length}
use Rattle.numbering.specs.Find.{find}
use Rattle.numbering.proofs.Find.{none_below_lem, true_false, get_d_find, once_none, once_last}
use Rattle.buckets.specs.Inner.Pairs.{FORMER, LATTER, LAST, BEFORE, BEHIND, buckets, key_at, Latest, HoldsPairs, BucketsBegun, SamePair, SeekPair}
use Rattle.buckets.specs.Inner.Pairs.{PairFound}
use Rattle.buckets.specs.Inner.Pairs.{with_pair}

-- ---- a pair and its number

pub first_of : (k x y : ℕ) → y < k → (x * k + y) / k ≡ x
first_of k x y h = mul-add-div_right {m = k} (omega arith) x y ∙ omega (arith, div-eq_of_lt h)

pub second_of : (k x y : ℕ) → y < k → (x * k + y) % k ≡ y
second_of k x y h = mul-add-mod_self_right x k y ∙ mod-eq_of_lt h

pub product_fits : (x m : ℕ) → x < 65536 → m ≤ 65536 → x * m ≤ 4294967296
product_fits x m h k = omega (arith, mul-le-mul_right m (let i : x ≤ 65536 = omega arith in i))

-- a place is at most the length
pub find_le : (l : List ℕ) (x : ℕ) → find l x ≤ length l
unfolding find
find_le [] x = omega arith
find_le (y ∷ l) x = elim (ℕ_discrete y x) [
  | yes e ↦ rw (eq-eqb y x e) (omega arith)
  | no e ↦ rw (ne_eqb y x e) (omega (arith, find_le l x))
]

-- ---- no pairs

-- a part of k zeros in place of the n heads from LAST on
pub begun_filled : {n k : ℕ} {w part : List ℕ} → work_length ≤ length w → n ≤ buckets → part ≡ replicate k 0 → k ≡ n
    → BucketsBegun n w (put_mid LAST n w part)
unfolding put_to
begun_filled {n} {k} {w} {part} work few is e =
    let zeros : List ℕ = replicate n 0 in
    let long : length zeros ≡ n = length-replicate {A = ℕ} n 0 in
    let size : n ≤ length zeros = omega arith in
    let room : LAST + n ≤ length w = omega arith in
    let changed = put_within w LAST zeros n room size in
    let by : part ≡ zeros = is ∙ ap (λ (m : ℕ). replicate m 0) e in
    rw (put_mid-paste LAST n w part zeros n by refl (sym long))
    (record {
      same = changed.same;
      none = λ b h. put_in w LAST zeros n room size b h ∙ get_or-replicate n b 0 0 h;
      below = changed.below;
      above = λ p h. changed.above p (omega arith);
    })

pub none_held : {w w' : List ℕ} → work_length ≤ length w → BucketsBegun buckets w w' → (key : ℕ → ℕ → ℕ) (k : ℕ) → 0 < k → HoldsPairs key k [] w' 0
none_held long a key k some = record {
  long = omega (arith, a.same);
  room = omega arith;
  some = some;
  size = refl;
  once = once_none;
  first = λ j h. none_below_lem h;
  second = λ j h. none_below_lem h;
  lasts = λ b h. rw (a.none b h) (record { low = omega arith; hit = λ q e. absurd (omega arith); none = λ j p q e. absurd (omega arith) });
  earlier = λ j h. none_below_lem h;
}

-- ---- the search along a chain

-- p - 1 is a pair in the bucket b, or p is 0; and the pair of x and y is none of those from p on
pub record Searching (key : ℕ → ℕ → ℕ) (w : List ℕ) (count b x y p : ℕ) : Type 0 where
  pub low : p ≤ count
  pub hit : (q : ℕ) → p ≡ suc q → key_at key w q ≡ b
  pub none : (j : ℕ) → p ≤ j → j < count → get_or w (FORMER + j) 0 ≡ x → get_or w (LATTER + j) 0 ≡ y → ⊥

module _ {key : ℕ → ℕ → ℕ} {w : List ℕ} {b x y count : ℕ} (a : SeekPair key w b x y count) where
  -- the pair of x and y is in the bucket
  in_bucket : (j : ℕ) → get_or w (FORMER + j) 0 ≡ x → get_or w (LATTER + j) 0 ≡ y → key_at key w j ≡ b
  in_bucket j f g = ap (λ (z : ℕ). key z (get_or w (LATTER + j) 0)) f ∙ ap (λ (z : ℕ). key x z) g ∙ sym a.is

  pub search_low : {p : ℕ} → Searching key w count b x y p → p ≤ 4096
  search_low z = omega (arith, z.low, a.some.holds.room)

  -- the same for p above 0, where q is p - 1
  module _ {p : ℕ} (some : 0 < p) (z : Searching key w count b x y p) where
    abbrev q : ℕ
    q = p - 1

    at_pair : p ≡ suc q
    at_pair = omega arith

    -- the pair before in the chain
    before_is : Latest key w b q (get_or w (BEFORE + q) 0)
    before_is = rw (z.hit q at_pair) at (a.some.holds.earlier q (omega (arith, z.low)))

    pub search_falls : {p' : ℕ} → p' ≡ get_or w (BEFORE + q) 0 → p' < p
    search_falls e = omega (arith, before_is.low)

    pub search_next : {d : Bool} → SamePair w q x y d → d ≡ false → {p' : ℕ} → p' ≡ get_or w (BEFORE + q) 0 → Searching key w count b x y p'
    search_next is fails e =
        let l = before_is in
        rw e (record {
          low = omega (arith, l.low, z.low);
          hit = l.hit;
          none = λ j h i f g. elim (dec_lt j q) [
            | yes u ↦ l.none j h u (in_bucket j f g)
            | no u ↦ elim (ℕ_discrete j q) [
              | yes v ↦ is.no fails (ap (λ (k : ℕ). get_or w (FORMER + k) 0) (sym v) ∙ f) (ap (λ (k : ℕ). get_or w (LATTER + k) 0) (sym v) ∙ g)
              | no v ↦ z.none j (omega arith) i f g
            ]
          ];
        })

module _ {key : ℕ → ℕ → ℕ} {w : List ℕ} {x y count : ℕ} where
  -- the pair at q, by its two numbers
  pair_at : (k : ℕ) (l : List ℕ) → HoldsPairs key k l w count → (q : ℕ) → q < count → get_or w (FORMER + q) 0 ≡ x → get_or w (LATTER + q) 0 ≡ y → get_or l q 0
      ≡ x * k + y
  pair_at k l h q i e f =
      sym (div-add-mod' (get_or l q 0) k) ∙ ap (λ (z : ℕ). z * k + get_or l q 0 % k) (sym (h.first q i) ∙ e)
      ∙ ap (λ (z : ℕ). x * k + z) (sym (h.second q i) ∙ f)

  pub search_found : {b p : ℕ} → 0 < p → Searching key w count b x y p → {d : Bool} → SamePair w (p - 1) x y d → d ≡ true → PairFound key w x y count (p - 1)
  search_found {b} {p} some z is passes k l c h =
      let q = p - 1 in
      let i : q < count = omega (arith, z.low) in
      let e = is.yes passes in
      sym (ap (find l) (sym (pair_at k l h q i e.0 e.1)) ∙ h.once.place q (omega (arith, h.size)))

  pub search_end : {b p : ℕ} → p ≡ 0 → Searching key w count b x y p → PairFound key w x y count count
  search_end nil z k l c h = elim (dec_lt (find l (x * k + y)) (length l)) [
    | yes i ↦
        let q = find l (x * k + y) in
        let j : q < count = omega (arith, h.size) in
        let e = get_d_find l (x * k + y) i in
        absurd (z.none q (omega arith) j (h.first q j ∙ ap (λ (c : ℕ). c / k) e ∙ first_of k x y c)
        (h.second q j ∙ ap (λ (c : ℕ). c % k) e ∙ second_of k x y c))
    | no i ↦ omega (arith, find_le l (x * k + y), h.size)
  ]

-- ---- a pair put in

module _ (w : List ℕ) (b x y i : ℕ) (long : work_length ≤ length w) (low : b < buckets) (room : i < 4096) where
  abbrev w1 : List ℕ
  w1 = set w (FORMER + i) x

  abbrev w2 : List ℕ
  w2 = set w1 (LATTER + i) y

  abbrev w3 : List ℕ
  w3 = set w2 (BEFORE + i) (get_or w2 (LAST + b) 0)

  len1 : length w1 ≡ length w
  len1 = length-set w (FORMER + i) x

  len2 : length w2 ≡ length w
  len2 = length-set w1 (LATTER + i) y ∙ len1

  len3 : length w3 ≡ length w
  len3 = length-set w2 (BEFORE + i) (get_or w2 (LAST + b) 0) ∙ len2

  with_is : with_pair w b x y i ≡ set w3 (LAST + b) (i + 1)
  unfolding with_pair
  with_is = refl

  pub pushed_length : length (with_pair w b x y i) ≡ length w
  pushed_length = ap length with_is ∙ length-set w3 (LAST + b) (i + 1) ∙ len3

  at : (p : ℕ) → get_or (with_pair w b x y i) p 0 ≡ get_or (set w3 (LAST + b) (i + 1)) p 0
  at p = ap (λ (l : List ℕ). get_or l p 0) with_is

  pub pushed_other : (p : ℕ) → p ≢ FORMER + i → p ≢ LATTER + i → p ≢ BEFORE + i → p ≢ LAST + b → get_or (with_pair w b x y i) p 0 ≡ get_or w p 0
  pushed_other p e f g h =
      at p ∙ get_or-set_other w3 (LAST + b) p (i + 1) 0 h ∙ get_or-set_other w2 (BEFORE + i) p (get_or w2 (LAST + b) 0) 0 g
      ∙ get_or-set_other w1 (LATTER + i) p y 0 f ∙ get_or-set_other w (FORMER + i) p x 0 e

  new_first : get_or (with_pair w b x y i) (FORMER + i) 0 ≡ x
  new_first =
      at (FORMER + i) ∙ get_or-set_other w3 (LAST + b) (FORMER + i) (i + 1) 0 (λ e. omega arith)
      ∙ get_or-set_other w2 (BEFORE + i) (FORMER + i) (get_or w2 (LAST + b) 0) 0 (λ e. omega arith)
      ∙ get_or-set_other w1 (LATTER + i) (FORMER + i) y 0 (λ e. omega arith) ∙ get_or-set_same w (FORMER + i) x 0 (omega arith)

  new_second : get_or (with_pair w b x y i) (LATTER + i) 0 ≡ y
  new_second =
      at (LATTER + i) ∙ get_or-set_other w3 (LAST + b) (LATTER + i) (i + 1) 0 (λ e. omega arith)
      ∙ get_or-set_other w2 (BEFORE + i) (LATTER + i) (get_or w2 (LAST + b) 0) 0 (λ e. omega arith)
      ∙ get_or-set_same w1 (LATTER + i) y 0 (omega (arith, len1))

  new_before : get_or (with_pair w b x y i) (BEFORE + i) 0 ≡ get_or w (LAST + b) 0
  new_before =
      at (BEFORE + i) ∙ get_or-set_other w3 (LAST + b) (BEFORE + i) (i + 1) 0 (λ e. omega arith)
      ∙ get_or-set_same w2 (BEFORE + i) (get_or w2 (LAST + b) 0) 0 (omega (arith, len2))
      ∙ get_or-set_other w1 (LATTER + i) (LAST + b) y 0 (λ e. omega arith) ∙ get_or-set_other w (FORMER + i) (LAST + b) x 0 (λ e. omega arith)

  new_last : get_or (with_pair w b x y i) (LAST + b) 0 ≡ i + 1
  new_last = at (LAST + b) ∙ get_or-set_same w3 (LAST + b) (i + 1) 0 (omega (arith, len3))

  old_first : (j : ℕ) → j < i → get_or (with_pair w b x y i) (FORMER + j) 0 ≡ get_or w (FORMER + j) 0
  old_first j h = pushed_other (FORMER + j) (λ e. omega arith) (λ e. omega arith) (λ e. omega arith) (λ e. omega arith)

  old_second : (j : ℕ) → j < i → get_or (with_pair w b x y i) (LATTER + j) 0 ≡ get_or w (LATTER + j) 0
  old_second j h = pushed_other (LATTER + j) (λ e. omega arith) (λ e. omega arith) (λ e. omega arith) (λ e. omega arith)

  old_before : (j : ℕ) → j < i → get_or (with_pair w b x y i) (BEFORE + j) 0 ≡ get_or w (BEFORE + j) 0
  old_before j h = pushed_other (BEFORE + j) (λ e. omega arith) (λ e. omega arith) (λ e. omega arith) (λ e. omega arith)

  pub pushed_below : (p : ℕ) → p < FORMER → get_or (with_pair w b x y i) p 0 ≡ get_or w p 0
  pushed_below p h = pushed_other p (λ e. omega arith) (λ e. omega arith) (λ e. omega arith) (λ e. omega arith)

  pub pushed_above : (p : ℕ) → BEHIND ≤ p → get_or (with_pair w b x y i) p 0 ≡ get_or w p 0
  pushed_above p h = pushed_other p (λ e. omega arith) (λ e. omega arith) (λ e. omega arith) (λ e. omega arith)

  module _ (key : ℕ → ℕ → ℕ) (is : b ≡ key x y) where
    old_key : (j : ℕ) → j < i → key_at key (with_pair w b x y i) j ≡ key_at key w j
    old_key j h = rw (old_first j h, old_second j h)

    new_key : key_at key (with_pair w b x y i) i ≡ b
    new_key = rw (new_first, new_second) (sym is)

    -- the last of the pairs before j, as it was
    keep_latest : (z j p : ℕ) → j ≤ i → Latest key w z j p → Latest key (with_pair w b x y i) z j p
    keep_latest z j p h a = record {
      low = a.low;
      hit = λ q e. old_key q (omega (arith, a.low)) ∙ a.hit q e;
      none = λ q l m e. a.none q l m (sym (old_key q (omega arith)) ∙ e);
    }

    -- for another bucket the new pair changes nothing
    other_latest : (z p : ℕ) → (z ≡ b → ⊥) → Latest key w z i p → Latest key (with_pair w b x y i) z (i + 1) p
    other_latest z p d a = record {
      low = omega (arith, a.low);
      hit = λ q e. old_key q (omega (arith, a.low)) ∙ a.hit q e;
      none = λ q l m e. elim (dec_lt q i) [
        | yes u ↦ a.none q l u (sym (old_key q u) ∙ e)
        | no u ↦ let v : q ≡ i = omega arith in d (sym e ∙ ap (λ (j : ℕ). key_at key (with_pair w b x y i) j) v ∙ new_key)
      ];
    }

    new_latest : Latest key (with_pair w b x y i) b (i + 1) (i + 1)
    new_latest = record {
      low = omega arith;
      hit = λ q e. let v : q ≡ i = omega arith in rw v new_key;
      none = λ q l m e. absurd (omega arith);
    }

    pub pushed_holds : (k : ℕ) (l : List ℕ) → y < k → HoldsPairs key k l w i → length l ≤ find l (x * k + y)
        → HoldsPairs key k (l ++ ((x * k + y) ∷ [])) (with_pair w b x y i) (i + 1)
    pushed_holds k l c h new =
        let z = x * k + y in
        let len = length-append l (z ∷ []) in
        let size = h.size in
        let old : (j : ℕ) → j < i → get_or (l ++ (z ∷ [])) j 0 ≡ get_or l j 0 = λ j q. get_or-append l (z ∷ []) 0 j (omega arith) in
        let last : get_or (l ++ (z ∷ [])) i 0 ≡ z =
        let e : i ≡ length l + 0 = omega arith in
        ap (λ (j : ℕ). get_or (l ++ (z ∷ [])) j 0) e ∙ get_or-append-add l (z ∷ []) 0 0 in
        record {
          long = omega (arith, pushed_length);
          room = omega arith;
          some = h.some;
          size = omega arith;
          once = once_last l z h.once new;
          first = λ j q. elim (dec_lt j i) [
            | yes u ↦ old_first j u ∙ h.first j u ∙ ap (λ (c : ℕ). c / k) (sym (old j u))
            | no u ↦ let v : j ≡ i = omega arith in rw v (new_first ∙ sym (ap (λ (c : ℕ). c / k) last ∙ first_of k x y c))
          ];
          second = λ j q. elim (dec_lt j i) [
            | yes u ↦ old_second j u ∙ h.second j u ∙ ap (λ (c : ℕ). c % k) (sym (old j u))
            | no u ↦ let v : j ≡ i = omega arith in rw v (new_second ∙ sym (ap (λ (c : ℕ). c % k) last ∙ second_of k x y c))
          ];
          lasts = λ d q. elim (ℕ_discrete d b) [
            | yes e ↦ rw (e, new_last) new_latest
            | no e ↦ rw (pushed_other (LAST + d) (λ e. omega arith) (λ e. omega arith) (λ e. omega arith) (λ f. e (omega arith)))
                (other_latest d (get_or w (LAST + d) 0) e (h.lasts d q))
          ];
          earlier = λ j q. elim (dec_lt j i) [
            | yes u ↦ rw (old_key j u, old_before j u) (keep_latest (key_at key w j) j (get_or w (BEFORE + j) 0) (omega arith) (h.earlier j u))
            | no u ↦ let v : j ≡ i = omega arith in rw (v, new_key, new_before) (keep_latest b i (get_or w (LAST + b) 0) (omega arith) (h.lasts b low))
          ];
        }

-- ---- stores elsewhere

module _ {key : ℕ → ℕ → ℕ} {k : ℕ} {l w : List ℕ} {count : ℕ} (w' : List ℕ) (same : length w' ≡ length w) (h : HoldsPairs key k l w count)
    (kept : (p : ℕ) → FORMER ≤ p → p < BEHIND → get_or w' p 0 ≡ get_or w p 0) where
  first_kept : (j : ℕ) → j < count → get_or w' (FORMER + j) 0 ≡ get_or w (FORMER + j) 0
  first_kept j i = kept (FORMER + j) (omega arith) (omega (arith, h.room))

  second_kept : (j : ℕ) → j < count → get_or w' (LATTER + j) 0 ≡ get_or w (LATTER + j) 0
  second_kept j i = kept (LATTER + j) (omega arith) (omega (arith, h.room))

  key_kept : (j : ℕ) → j < count → key_at key w' j ≡ key_at key w j
  key_kept j i = rw (first_kept j i, second_kept j i)

  latest_kept : (b i p : ℕ) → i ≤ count → Latest key w b i p → Latest key w' b i p
  latest_kept b i p u a = record {
    low = a.low;
    hit = λ q e. key_kept q (omega (arith, a.low)) ∙ a.hit q e;
    none = λ j v z e. a.none j v z (sym (key_kept j (omega arith)) ∙ e);
  }

  pub holds_kept : HoldsPairs key k l w' count
  holds_kept =
      let few = h.room in
      record {
        long = omega (arith, h.long);
        room = few;
        some = h.some;
        size = h.size;
        once = h.once;
        first = λ j i. first_kept j i ∙ h.first j i;
        second = λ j i. second_kept j i ∙ h.second j i;
        lasts = λ b i. rw (kept (LAST + b) (omega arith) (omega arith)) (latest_kept b count (get_or w (LAST + b) 0) (omega arith) (h.lasts b i));
        earlier = λ j i. rw (key_kept j i, kept (BEFORE + j) (omega arith) (omega arith))
            (latest_kept (key_at key w j) j (get_or w (BEFORE + j) 0) (omega arith) (h.earlier j i));
      }
