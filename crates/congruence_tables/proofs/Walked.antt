-- Laws of the walk over the cosets: the start, a visit, and the loop of `tables`.
-- Why: after i visits the work space holds the list `cosets_to` after i visits, and the first i entries of both tables are those of the whole list, since
-- a coset that is listed keeps its place. When all have been visited, there are as many as the index says.
-- Assumes nothing.
use mathlib.Core.Path.{◌≡◌, refl, sym, ◌∙◌, ap, subst}
use mathlib.Core.List.{List, [], ◌∷◌, ◌++◌}
use Prim.Native.Nat.{ℕ, zero, suc, ◌+◌, ◌-◌, ◌≤◌, ◌<◌}
use native.Mathlib.Numerals.{add-one}
use native.Mathlib.Omega.{arith}
use lib.ListN.{length, get_or, set, take, drop, length-set}
use Rattle.matrix.specs.Matrix.{Mat, 𝟙, ◌⊗◌, mat_s, mat_r}
use Rattle.call.specs.Space.{work_length}
use Rattle.numbering.specs.Order.{add}
use Rattle.numbering.proofs.Order.{add_new}
use Rattle.numbering.specs.Table.{image_at}
use Rattle.numbering.proofs.Find.{none_below_lem}
use Rattle.right_cosets.specs.Condition.{Condition}
use Rattle.congruence.specs.Congruence.{Meets, meets}
use Rattle.congruence.specs.Index.{family_index}
use Rattle.right_cosets.specs.Cosets.{coset_in, with_coset, after_visit, cosets_to}
use Rattle.congruence.specs.Cosets.{family_cosets, family_s, family_r}
use Rattle.congruence.specs.declared.Family.{Family}
use Rattle.right_cosets.specs.Inner.Listed.{matrix_at, Extends, CosetList}
use Rattle.congruence.proofs.Meets.{decided}
use Rattle.congruence.proofs.Theorem.{families, indexes}
use Rattle.right_cosets.proofs.Listed.{unit_S, unit_R, in_le, extends_trans, in_extends, joined_in, joined_extends, joined_listed, visited_extends}
use Rattle.right_cosets.proofs.Listed.{to_more, to_listed, to_extends, to_stop, listed_index, table_length_lem, table_at}
use Rattle.congruence_tables.specs.declared.residues.Residues.{Residues}
use Rattle.congruence_tables.specs.Inner.Residues.{EntryOf, ImageBy, Stands, row_code, multiplier_of}
use Rattle.buckets.specs.Inner.Pairs.{buckets, bucket_of, BucketsBegun}
use Rattle.buckets.proofs.Chain.{none_held, holds_kept}
use Rattle.congruence_tables.specs.Inner.Held.{residues_at, Group, ColumnsReady, TakesImage, Keys, HoldsCosets}
use Rattle.congruence_tables.specs.Inner.Held.{Enters, EntersAs, Visits, VisitsTo, Started, Tabulates}
use Rattle.congruence_tables.proofs.Entries.{enters, keys_are, joined_same, joined_above, entry_new, columns_kept}
use Rattle.congruence_tables.proofs.Held.{stands_as, held_enters, Joined, joined}

-- ---- a visit

module _ {f : Family} {n : ℕ} {l : List Mat} {w : List ℕ} {count : ℕ} (h : HoldsCosets f n l w count) (i : ℕ) (low : i < count) where
  pub stands_S : (x : Residues) → ImageBy f n mat_s (residues_at f w i) x → Stands f n x (matrix_at l i ⊗ mat_s)
  stands_S x p = let s = h.stands i low in record { unit = unit_S (matrix_at l i) s.unit; entry = p.entry; is = p.is (matrix_at l i) s.is }

  pub stands_R : (x : Residues) → ImageBy f n mat_r (residues_at f w i) x → Stands f n x (matrix_at l i ⊗ mat_r)
  stands_R x p = let s = h.stands i low in record { unit = unit_R (matrix_at l i) s.unit; entry = p.entry; is = p.is (matrix_at l i) s.is }

-- S joins, and then R
module _ {f : Family} {n : ℕ} {w : List ℕ} {i count : ℕ} (low : i < count) {x y : Residues} (p : ImageBy f n mat_s (residues_at f w i) x)
    (q : ImageBy f n mat_r (residues_at f w i) y)
    {w1 w2 : List ℕ} {a b c d : ℕ} (first : Joined f n w count x w1 a b) (second : Joined f n w1 b y w2 c d) where
  pub visit_to_lem : (s r : List ℕ) → VisitsTo f n w s r i count w2 (set s i a) (set r i c) d
  visit_to_lem s r = record {
    same = second.same ∙ first.same;
    holds = λ l h. second.holds (with_coset (meets f n) l (matrix_at l i ⊗ mat_s)) (matrix_at l i ⊗ mat_r)
        (first.holds l (matrix_at l i ⊗ mat_s) h (stands_S h i low x p)) (stands_R h i low y q);
    S_is = λ l h. ap (λ (z : ℕ). set s i z) (first.place_is l (matrix_at l i ⊗ mat_s) h (stands_S h i low x p));
    R_is = λ l h. ap (λ (z : ℕ). set r i z)
        (second.place_is (with_coset (meets f n) l (matrix_at l i ⊗ mat_s)) (matrix_at l i ⊗ mat_r) (first.holds l (matrix_at l i ⊗ mat_s) h (stands_S h i low x p))
        (stands_R h i low y q));
  }

-- ---- a table filled from the front

filled_more : (t s : List ℕ) (i : ℕ) → i < length t → i < length s → set (take i t ++ drop i s) i (image_at t i) ≡ take (suc i) t ++ drop (suc i) s
filled_more [] s i h k = none_below_lem h
filled_more (x ∷ t) [] i h k = none_below_lem k
filled_more (x ∷ t) (y ∷ s) zero h k = refl
filled_more (x ∷ t) (y ∷ s) (suc i) h k = ap (λ (l : List ℕ). x ∷ l) (filled_more t s i (omega arith) (omega arith))

take_all : (t : List ℕ) → take (length t) t ≡ t
take_all [] = refl
take_all (x ∷ t) = ap (λ (l : List ℕ). x ∷ l) (take_all t)

taken : {k : ℕ} (t : List ℕ) → length t ≡ k → take k t ≡ t
taken t e = rw (← e) (take_all t)

-- ---- the loop

pub record Part (f : Family) (n : ℕ) (s₀ r₀ w s r : List ℕ) (count i : ℕ) : Type 0 where
  pub group : Group f n
  pub holds : HoldsCosets f n (cosets_to (meets f n) i) w count
  pub upto : i ≤ count
  pub room_S : family_index f n ≤ length s₀
  pub room_R : family_index f n ≤ length r₀
  pub same_S : length s ≡ length s₀
  pub same_R : length r ≡ length r₀
  pub S_is : s ≡ take i (family_s f n) ++ drop i s₀
  pub R_is : r ≡ take i (family_r f n) ++ drop i r₀

module _ (f : Family) (n : ℕ) (g : Group f n) where
  abbrev c : Condition (Meets f n)
  c = families f n

  abbrev N : ℕ
  N = family_index f n

  whole : length (family_cosets f n) ≡ N
  whole = listed_index c (decided f n) (indexes f n g.modulus.some)

  length_S : length (family_s f n) ≡ N
  unfolding family_s
  length_S = table_length_lem c (decided f n) (family_cosets f n) mat_s ∙ whole

  length_R : length (family_r f n) ≡ N
  unfolding family_r
  length_R = table_length_lem c (decided f n) (family_cosets f n) mat_r ∙ whole

  at_S : (j : ℕ) → j < N → image_at (family_s f n) j ≡ coset_in (meets f n) (family_cosets f n) (matrix_at (family_cosets f n) j ⊗ mat_s)
  unfolding family_s
  at_S j h = table_at c (decided f n) (family_cosets f n) mat_s j (rw whole h)

  at_R : (j : ℕ) → j < N → image_at (family_r f n) j ≡ coset_in (meets f n) (family_cosets f n) (matrix_at (family_cosets f n) j ⊗ mat_r)
  unfolding family_r
  at_R j h = table_at c (decided f n) (family_cosets f n) mat_r j (rw whole h)

  -- the list after i visits begins the whole list
  begins : (i : ℕ) → i ≤ N → Extends (cosets_to (meets f n) i) (family_cosets f n)
  begins i h = let e : i + (N - i) ≡ N = omega arith in rw e at (to_extends c (decided f n) i (N - i))

  -- what is listed isn't more than the index
  pub few : (i : ℕ) {w : List ℕ} {count : ℕ} → HoldsCosets f n (cosets_to (meets f n) i) w count → count ≤ N
  few i h = omega (arith, Rattle.right_cosets.proofs.Listed.listed_few c (decided f n) (indexes f n g.modulus.some) h.listed, h.size)

  module _ (i : ℕ) {w : List ℕ} {count : ℕ} (h : HoldsCosets f n (cosets_to (meets f n) i) w count) (low : i < count) where
    abbrev l : List Mat
    l = cosets_to (meets f n) i

    abbrev m : Mat
    m = matrix_at l i

    below : i < length l
    below = rw h.size low

    unit_m : Rattle.right_cosets.specs.Condition.Unit m
    unit_m = h.listed.unit i below

    next : Extends (after_visit (meets f n) l i) (family_cosets f n)
    next = rw (to_more c (decided f n) i below) at (begins (suc i) (omega (arith, few i h)))

    next_S : Extends (with_coset (meets f n) l (m ⊗ mat_s)) (family_cosets f n)
    next_S = extends_trans (joined_extends c (decided f n) (with_coset (meets f n) l (m ⊗ mat_s)) (m ⊗ mat_r)) next

    same_entry : matrix_at (family_cosets f n) i ≡ m
    same_entry = (extends_trans (joined_extends c (decided f n) l (m ⊗ mat_s)) next_S).same i below

    listed_all : CosetList (Meets f n) (family_cosets f n)
    listed_all = to_listed c (decided f n) N

    pub image_S : coset_in (meets f n) (with_coset (meets f n) l (m ⊗ mat_s)) (m ⊗ mat_s) ≡ image_at (family_s f n) i
    image_S =
        sym (in_extends c (decided f n) next_S listed_all (m ⊗ mat_s) (unit_S m unit_m) (joined_in c (decided f n) h.listed (m ⊗ mat_s) (unit_S m unit_m)))
        ∙ ap (λ (z : Mat). coset_in (meets f n) (family_cosets f n) (z ⊗ mat_s)) (sym same_entry) ∙ sym (at_S i (omega (arith, few i h)))

    pub image_R : coset_in (meets f n) (after_visit (meets f n) l i) (m ⊗ mat_r) ≡ image_at (family_r f n) i
    image_R =
        let g1 = joined_listed c (decided f n) h.listed (m ⊗ mat_s) (unit_S m unit_m) in
        sym (in_extends c (decided f n) next listed_all (m ⊗ mat_r) (unit_R m unit_m) (joined_in c (decided f n) g1 (m ⊗ mat_r) (unit_R m unit_m)))
        ∙ ap (λ (z : Mat). coset_in (meets f n) (family_cosets f n) (z ⊗ mat_r)) (sym same_entry) ∙ sym (at_R i (omega (arith, few i h)))

  -- ---- the end: all that is listed has been visited
  stopped : (i : ℕ) {w : List ℕ} → HoldsCosets f n (cosets_to (meets f n) i) w i → i ≡ N
  stopped i h =
      let e : i + (N - i) ≡ N = omega (arith, few i h) in
      let stop = to_stop c (decided f n) i (N - i) (omega (arith, h.size)) in
      let same : family_cosets f n ≡ cosets_to (meets f n) i = rw e at stop in
      sym h.size ∙ ap (λ (z : List Mat). length z) (sym same) ∙ whole

module _ {f : Family} {n : ℕ} {s₀ r₀ w s r : List ℕ} {count i : ℕ} (p : Part f n s₀ r₀ w s r count i) where
  pub part_few : count ≤ family_index f n
  part_few = few f n p.group i p.holds

  pub part_more : (i < count) → {w' s' r' : List ℕ} {count' : ℕ} → VisitsTo f n w s r i count w' s' r' count'
      → Part f n s₀ r₀ w' s' r' count' (i + 1)
  part_more low v =
      let l = cosets_to (meets f n) i in
      let h = p.holds in
      let k = part_few in
      let lS = length_S f n p.group in
      let lR = length_R f n p.group in
      let a = v.S_is l h ∙ ap (λ (z : ℕ). set s i z) (image_S f n p.group i h low) in
      let b = v.R_is l h ∙ ap (λ (z : ℕ). set r i z) (image_R f n p.group i h low) in
      record {
        group = p.group;
        holds = rw (add-one i, to_more (families f n) (decided f n) i (rw h.size low)) (v.holds l h);
        upto = omega (arith, (visited_extends (families f n) (decided f n) l i).long, h.size, (v.holds l h).size);
        room_S = p.room_S;
        room_R = p.room_R;
        same_S = rw a (length-set s i _ ∙ p.same_S);
        same_R = rw b (length-set r i _ ∙ p.same_R);
        S_is = rw (add-one i)
            (a ∙ ap (λ (z : List ℕ). set z i (image_at (family_s f n) i)) p.S_is ∙ filled_more (family_s f n) s₀ i (omega arith) (omega (arith, p.room_S)));
        R_is = rw (add-one i)
            (b ∙ ap (λ (z : List ℕ). set z i (image_at (family_r f n) i)) p.R_is ∙ filled_more (family_r f n) r₀ i (omega arith) (omega (arith, p.room_R)));
      }

  pub part_visits : i < count → Visits f n w s r i count
  part_visits low = record {
    group = p.group;
    some = record { list = cosets_to (meets f n) i; holds = p.holds };
    low = low;
    room_S = omega (arith, part_few, p.room_S, p.same_S);
    room_R = omega (arith, part_few, p.room_R, p.same_R);
  }

  ended : count ≤ i → i ≡ family_index f n
  ended h = let e : i ≡ count = omega (arith, p.upto) in
      stopped f n p.group i {w = w} (subst (λ (z : ℕ). HoldsCosets f n (cosets_to (meets f n) i) w z) (sym e) p.holds)

  pub part_end_lem : count ≤ i → count ≡ family_index f n
  part_end_lem h = let e = ended h in omega (arith, p.upto)

  pub part_holds : count ≤ i → HoldsCosets f n (family_cosets f n) w count
  part_holds h = subst (λ (k : ℕ). HoldsCosets f n (cosets_to (meets f n) k) w count) (ended h) p.holds

  pub part_S : count ≤ i → s ≡ family_s f n ++ drop (family_index f n) s₀
  part_S h = rw (ended h) at p.S_is ∙ ap (λ (t : List ℕ). t ++ drop (family_index f n) s₀) (taken (family_s f n) (length_S f n p.group))

  pub part_R : count ≤ i → r ≡ family_r f n ++ drop (family_index f n) r₀
  part_R h = rw (ended h) at p.R_is ∙ ap (λ (t : List ℕ). t ++ drop (family_index f n) r₀) (taken (family_r f n) (length_R f n p.group))

-- ---- `visit` and `tables`: what they need

module _ {f : Family} {n : ℕ} {w s r : List ℕ} {i count : ℕ} (a : Visits f n w s r i count) where
  abbrev h : HoldsCosets f n a.some.list w count
  h = a.some.holds

  pub images_S : {x : Residues} → x ≡ residues_at f w i → TakesImage f n w x
  images_S {x} e = record {
    modulus = a.group.modulus;
    long = h.long;
    columns = h.columns;
    entry = subst (λ (z : Residues). EntryOf f n z) (sym e) (h.stands i a.low).entry;
  }

  pub enters_S : {x y : Residues} → x ≡ residues_at f w i → ImageBy f n mat_s x y → Enters f n w count y
  enters_S {x} {y} e p =
      let p' : ImageBy f n mat_s (residues_at f w i) y = subst (λ (z : Residues). ImageBy f n mat_s z y) e p in
      held_enters a.group h (stands_S h i a.low y p')

  module _ {x y : Residues} (e : x ≡ residues_at f w i) (p : ImageBy f n mat_s x y) {w1 : List ℕ} {b d : ℕ} (entered : EntersAs f n w count y w1 b d) where
    first : Joined f n w count y w1 b d
    first = joined a.group entered

    p_at : ImageBy f n mat_s (residues_at f w i) y
    p_at = subst (λ (z : Residues). ImageBy f n mat_s z y) e p

    pub images_R : TakesImage f n w1 x
    images_R =
        let g = first.holds a.some.list (matrix_at a.some.list i ⊗ mat_s) h (stands_S h i a.low y p_at) in
        record { modulus = a.group.modulus; long = g.long; columns = g.columns; entry = (images_S e).entry }

    pub enters_R : {z : Residues} → ImageBy f n mat_r x z → Enters f n w1 d z
    enters_R {z} q =
        let q' : ImageBy f n mat_r (residues_at f w i) z = subst (λ (u : Residues). ImageBy f n mat_r u z) e q in
        held_enters a.group
        (first.holds a.some.list (matrix_at a.some.list i ⊗ mat_s) h (stands_S h i a.low y p_at)) (stands_R h i a.low z q')

    -- a place is a number of a listed coset
    pub place_S : b < 4096
    place_S =
        let m = matrix_at a.some.list i ⊗ mat_s in
        let st = stands_S h i a.low y p_at in
        let g = first.holds a.some.list m h st in
        omega (arith, first.place_is a.some.list m h st, in_le (families f n) (decided f n) (with_coset (meets f n) a.some.list m) m, g.size, g.room)

    module _ {z : Residues} (q : ImageBy f n mat_r x z) {w2 : List ℕ} {c k : ℕ} (also : EntersAs f n w1 d z w2 c k) where
      second : Joined f n w1 d z w2 c k
      second = joined a.group also

      q_at : ImageBy f n mat_r (residues_at f w i) z
      q_at = subst (λ (u : Residues). ImageBy f n mat_r u z) e q

      pub place_R : c < 4096
      place_R =
          let l1 = with_coset (meets f n) a.some.list (matrix_at a.some.list i ⊗ mat_s) in
          let m = matrix_at a.some.list i ⊗ mat_r in
          let st = stands_R h i a.low z q_at in
          let g1 = first.holds a.some.list (matrix_at a.some.list i ⊗ mat_s) h (stands_S h i a.low y p_at) in
          let g = second.holds l1 m g1 st in
          omega (arith, second.place_is l1 m g1 st, in_le (families f n) (decided f n) (with_coset (meets f n) l1 m) m, g.size, g.room)

      pub visited_by : {b' c' : ℕ} → b' ≡ b → c' ≡ c → VisitsTo f n w s r i count w2 (set s i b') (set r i c') k
      visited_by e1 e2 = rw (e1, e2) (visit_to_lem a.low p_at q_at first second s r)

-- ---- `begin`: the identity alone

module _ {f : Family} {n : ℕ} (a : Group f n) {w₀ w u : List ℕ} (long : work_length ≤ length w₀) (begun : BucketsBegun buckets w₀ w)
    (made : ColumnsReady f n w u)
    {x : Residues} (st : Stands f n x 𝟙) where
  nothing : Keys f n u 0 []
  nothing = holds_kept u made.same (none_held long begun (bucket_of (multiplier_of f n)) 4096 (omega arith)) (λ p h k. made.below p (omega arith))

  pub begin_enters : Enters f n u 0 x
  begin_enters = enters a nothing (omega arith) st.entry

  one_long : length (cosets_to (meets f n) 0) ≡ 1
  one_long = unfold cosets_to in refl

  one_entry : matrix_at (cosets_to (meets f n) 0) 0 ≡ 𝟙
  one_entry = unfold cosets_to in refl

  module _ {v : List ℕ} {place count : ℕ} (e : EntersAs f n u 0 x v place count) where
    one_pair_lem : add [] (row_code f x) ≡ row_code f x ∷ []
    one_pair_lem = add_new [] (row_code f x) (omega arith)

    keys_of : Keys f n v count (add [] (row_code f x))
    keys_of = keys_are a nothing (omega arith) st.entry e

    one : count ≡ 1
    one = sym keys_of.size ∙ ap length one_pair_lem

    pub begun_with : Started f n w₀ v
    begun_with = record {
      same = joined_same a nothing (omega arith) st.entry e ∙ made.same ∙ begun.same;
      holds = record {
        long = omega (arith, joined_same a nothing (omega arith) st.entry e, made.same, begun.same);
        room = omega arith;
        size = one_long;
        listed = to_listed (families f n) (decided f n) 0;
        columns = columns_kept f n u v (joined_above a nothing (omega arith) st.entry e) made.columns;
        stands = λ j h.
            let d : j ≡ 0 = omega arith in
            let new = entry_new a nothing (omega arith) st.entry e (omega (arith, one)) (ap (λ (l : List ℕ). get_or l 0 0) one_pair_lem) in
            rw d (stands_as f (matrix_at (cosets_to (meets f n) 0) 0) 𝟙 new one_entry st);
        pairs = add [] (row_code f x);
        keys = subst (λ (k : ℕ). Keys f n v k (add [] (row_code f x))) one keys_of;
      };
    }

pub part_start : {f : Family} {n : ℕ} {w w' s r : List ℕ} → Tabulates f n w s r → Started f n w w' → Part f n s r w' s r 1 0
part_start a b = record {
  group = a.group;
  holds = b.holds;
  upto = omega arith;
  room_S = a.room_S;
  room_R = a.room_R;
  same_S = refl;
  same_R = refl;
  S_is = refl;
  R_is = refl;
}
