-- The walk over the pairs: what stands after i visits (`Walked`), its start (`walked_start`), a turn (`walked_more`), and the end (`Walked-end`,
-- `walked_large`). Why: the list after i visits is that of the numbering, and begins the whole list; so a place in it is the place in the whole list, and if it
-- is longer than 3,066, so is the whole. Assumes nothing.
use mathlib.Core.Path.{◌≡◌, refl, sym, ◌∙◌, ap}
use mathlib.Core.List.{List, [], ◌∷◌}
use Prim.Native.Nat.{ℕ, suc, ◌+◌, ◌*◌, ◌-◌, ◌≤◌, ◌<◌}
use native.Mathlib.Omega.{arith}
use native.Mathlib.Decide.{dec_lt}
use lib.ListN.{length, get_or}
use native.Mathlib.Numerals.{add-one}
use Rattle.call.specs.Space.{work_length}
use Rattle.numbering.specs.Find.{find, Once}
use Rattle.numbering.specs.Order.{add, visit, order_to}
use Rattle.numbering.specs.Table.{image_at}
use Rattle.numbering.specs.Inner.Space.{S_TABLE, R_TABLE}
use Rattle.numbering.proofs.Find.{none_below_lem, once_le, get_d_in}
use Rattle.numbering.proofs.Order.{Grows, add_new, visit_grows, to_more, to_once, to_in, to_low, order_stop, numbering}
use Rattle.numbering.proofs.Table.{renamed_length, renamed_at}
use Rattle.numbering.proofs.Space.{entries_ext}
use Rattle.containment.specs.Pairs.{pair_by_s, pair_by_r, pairs_reached, pairs_s, pairs_r}
use Rattle.buckets.specs.Inner.Pairs.{buckets, bucket_of, HoldsPairs, BucketsBegun, EnterPair, PairEntered}
use Rattle.buckets.proofs.Chain.{none_held}
use Rattle.intersections.specs.Inner.Pairs.{PairTables, VisitPair, PairVisited, WalkPairs, PairsListed}
use Rattle.intersections.proofs.Images.{add_has, grows_add, grows_trans, grows_place, to_begins}

pub record Walked (a b c d : List ℕ) (m : ℕ) (w : List ℕ) (i count : ℕ) : Type 0 where
  pub multiplier : m ≤ 65536
  pub points : ℕ
  pub modulus : ℕ
  pub tables : PairTables points modulus a b c d
  pub upto : i ≤ count
  pub few : count ≤ 3066
  pub holds : (n k : ℕ) → PairTables n k a b c d → HoldsPairs (bucket_of m) k (order_to (pair_by_s n k a b c d) (pair_by_r n k a b c d) 0 i) w count
  pub S_is : (n k : ℕ) → PairTables n k a b c d → (j : ℕ) → j < i → get_or w (S_TABLE + j) 0 ≡ image_at (pairs_s n k a b c d) j
  pub R_is : (n k : ℕ) → PairTables n k a b c d → (j : ℕ) → j < i → get_or w (R_TABLE + j) 0 ≡ image_at (pairs_r n k a b c d) j

-- ---- the list after i visits, and the whole list

module _ {n k : ℕ} {a b c d : List ℕ} (t : PairTables n k a b c d) where
  abbrev σ : ℕ → ℕ
  σ = pair_by_s n k a b c d

  abbrev ρ : ℕ → ℕ
  ρ = pair_by_r n k a b c d

  abbrev to : ℕ → List ℕ
  to = order_to σ ρ 0

  abbrev order : List ℕ
  order = pairs_reached n k a b c d

  order_once : Once order
  unfolding pairs_reached
  order_once = to_once σ ρ 0 (n * k)

  pub to_few : (i : ℕ) → length (to i) ≤ length order
  unfolding pairs_reached
  to_few i = once_le (to i) order (to_once σ ρ 0 i) (to_in σ ρ 0 (n * k) t.maps i).each

  order_few : length order ≤ n * k
  unfolding pairs_reached
  order_few = (numbering σ ρ 0 (n * k) t.maps).few

  begins : (i : ℕ) → i ≤ n * k → Grows (to i) order
  unfolding pairs_reached
  begins i h = let e : i + (n * k - i) ≡ n * k = omega arith in rw e at (to_begins σ ρ i (n * k - i))

  pub stopped : (i : ℕ) → length (to i) ≡ i → to i ≡ order
  unfolding pairs_reached
  stopped i e = order_stop σ ρ 0 (n * k) t.maps i (omega (arith, to_few i, order_few)) (omega arith)

  pub length_S : length (pairs_s n k a b c d) ≡ length order
  unfolding pairs_s
  length_S = renamed_length order σ

  pub length_R : length (pairs_r n k a b c d) ≡ length order
  unfolding pairs_r
  length_R = renamed_length order ρ

  at_S : (j : ℕ) → j < length order → image_at (pairs_s n k a b c d) j ≡ find order (σ (get_or order j 0))
  unfolding pairs_s
  at_S j h = renamed_at order σ j h

  at_R : (j : ℕ) → j < length order → image_at (pairs_r n k a b c d) j ≡ find order (ρ (get_or order j 0))
  unfolding pairs_r
  at_R j h = renamed_at order ρ j h

  module _ (i : ℕ) (low : i < length (to i)) where
    abbrev l : List ℕ
    l = to i

    abbrev z : ℕ
    z = get_or l i 0

    i_low : i < length order
    i_low = omega (arith, to_few i)

    next : Grows (visit σ ρ l i) order
    next = rw (to_more σ ρ 0 i low) at (begins (suc i) (omega (arith, i_low, order_few)))

    next_S : Grows (add l (σ z)) order
    next_S = grows_trans (grows_add (add l (σ z)) (ρ z)) next

    same_z : get_or order i 0 ≡ z
    same_z = (grows_trans (grows_add l (σ z)) next_S).same i low

    pub place_S : find (add l (σ z)) (σ z) ≡ image_at (pairs_s n k a b c d) i
    place_S = sym (grows_place next_S order_once (σ z) (add_has l (σ z))) ∙ ap (λ (x : ℕ). find order (σ x)) (sym same_z) ∙ sym (at_S i i_low)

    pub place_R : find (visit σ ρ l i) (ρ z) ≡ image_at (pairs_r n k a b c d) i
    place_R = sym (grows_place next order_once (ρ z) (add_has (add l (σ z)) (ρ z))) ∙ ap (λ (x : ℕ). find order (ρ x)) (sym same_z) ∙ sym (at_R i i_low)

-- ---- the start: the pair of the two points 0 alone

module _ {w a b c d w' : List ℕ} {m : ℕ} (p : WalkPairs w a b c d m) (begun : BucketsBegun buckets w w') where
  none : (k : ℕ) → 0 < k → HoldsPairs (bucket_of m) k [] w' 0
  none = none_held p.long begun (bucket_of m)

  pub start_enters : EnterPair m w' 0 0 0
  start_enters = record {
    multiplier = p.multiplier;
    fits = omega arith;
    some = record { modulus = p.modulus; list = []; below = p.tables.some; holds = none p.modulus p.tables.some };
  }

  module _ {u : List ℕ} {place count : ℕ} (e : PairEntered (bucket_of m) w' 0 0 0 u place count) where
    started : (n k : ℕ) → PairTables n k a b c d → HoldsPairs (bucket_of m) k (order_to (pair_by_s n k a b c d) (pair_by_r n k a b c d) 0 0) u 1
    unfolding order_to
    started n k t =
        let z : 0 * k + 0 ≡ 0 = omega arith in
        let h : HoldsPairs (bucket_of m) k (add [] 0) u count = rw z at (e.holds k [] t.some (none k t.some)) in
        let g : HoldsPairs (bucket_of m) k (0 ∷ []) u count = rw (add_new [] 0 (omega arith)) at h in
        let one : count ≡ 1 = sym g.size in
        rw one at g

    pub walked_start : Walked a b c d m u 0 1
    walked_start = record {
      multiplier = p.multiplier;
      points = p.points;
      modulus = p.modulus;
      tables = p.tables;
      upto = omega arith;
      few = omega arith;
      holds = started;
      S_is = λ n k t j h. none_below_lem h;
      R_is = λ n k t j h. none_below_lem h;
    }

-- ---- a turn, and the end

module _ {a b c d w : List ℕ} {m i count : ℕ} (p : Walked a b c d m w i count) where
  pub walked_visits : i < count → VisitPair w a b c d m i count
  walked_visits low = record {
    multiplier = p.multiplier;
    points = p.points;
    modulus = p.modulus;
    list = order_to (pair_by_s p.points p.modulus a b c d) (pair_by_r p.points p.modulus a b c d) 0 i;
    tables = p.tables;
    holds = p.holds p.points p.modulus p.tables;
    low = low;
    inside =
        let s = pair_by_s p.points p.modulus a b c d in
        let r = pair_by_r p.points p.modulus a b c d in
        let l = order_to s r 0 i in
        to_low s r 0 (p.points * p.modulus) p.tables.maps i (get_or l i 0)
        (get_d_in l i (omega (arith, (p.holds p.points p.modulus p.tables).size)));
    room = p.few;
  }

  module _ {w' : List ℕ} {count' : ℕ} (low : i < count) (v : PairVisited w a b c d m i count w' count') where
    listed : {n k : ℕ} (t : PairTables n k a b c d) → i < length (order_to (pair_by_s n k a b c d) (pair_by_r n k a b c d) 0 i)
    listed {n} {k} t = omega (arith, (p.holds n k t).size)

    next_holds : (n k : ℕ) → PairTables n k a b c d → HoldsPairs (bucket_of m) k (order_to (pair_by_s n k a b c d) (pair_by_r n k a b c d) 0 (suc i)) w' count'
    next_holds n k t =
        let s = pair_by_s n k a b c d in
        let r = pair_by_r n k a b c d in
        rw (to_more s r 0 i (listed t)) (v.holds n k (order_to s r 0 i) t (p.holds n k t))

    grown : count ≤ count'
    grown =
        let n = p.points in
        let k = p.modulus in
        let s = pair_by_s n k a b c d in
        let r = pair_by_r n k a b c d in
        let h = p.holds n k p.tables in
        omega (arith, h.size, (v.holds n k (order_to s r 0 i) p.tables h).size, (visit_grows s r (order_to s r 0 i) i).long)

    pub walked_large : 3066 < count' → (n k : ℕ) → PairTables n k a b c d → 3066 < length (pairs_reached n k a b c d)
    walked_large h n k t = omega (arith, (next_holds n k t).size, to_few t (suc i))

    pub walked_more : count' ≤ 3066 → Walked a b c d m w' (i + 1) count'
    walked_more few = rw (add-one i) (record {
      multiplier = p.multiplier;
      points = p.points;
      modulus = p.modulus;
      tables = p.tables;
      upto = omega (arith, grown);
      few = few;
      holds = next_holds;
      S_is = λ n k t j h. elim (dec_lt j i) [
        | yes u ↦ v.S_kept j u ∙ p.S_is n k t j u
        | no u ↦
            let e : j ≡ i = omega arith in
            rw e (v.S_is n k (order_to (pair_by_s n k a b c d) (pair_by_r n k a b c d) 0 i) t (p.holds n k t) ∙ place_S t i (listed t))
      ];
      R_is = λ n k t j h. elim (dec_lt j i) [
        | yes u ↦ v.R_kept j u ∙ p.R_is n k t j u
        | no u ↦
            let e : j ≡ i = omega arith in
            rw e (v.R_is n k (order_to (pair_by_s n k a b c d) (pair_by_r n k a b c d) 0 i) t (p.holds n k t) ∙ place_R t i (listed t))
      ];
    })

    pub listed_large : {w₀ : List ℕ} → length w ≡ length w₀ → 3066 < count' → PairsListed w₀ a b c d w' count'
    listed_large same h = record {
      same = v.same ∙ same;
      large = λ n k t l. walked_large h n k t;
      points = λ n k t l. absurd (omega arith);
      S_is = λ n k t l. absurd (omega arith);
      R_is = λ n k t l. absurd (omega arith);
    }

  all_of : count ≤ i → (n k : ℕ) → PairTables n k a b c d → count ≡ length (pairs_reached n k a b c d)
  all_of h n k t =
      let g = p.holds n k t in
      sym g.size ∙ ap length (stopped t i (omega (arith, p.upto, g.size)))

  pub listed_all : {w₀ : List ℕ} → length w ≡ length w₀ → count ≤ i → PairsListed w₀ a b c d w count
  listed_all same h =
      let e : i ≡ count = omega (arith, p.upto) in
      record {
        same = same;
        large = λ n k t l. absurd (omega (arith, p.few));
        points = λ n k t l. all_of h n k t;
        S_is = λ n k t l.
            entries_ext S_TABLE count w (pairs_s n k a b c d) (omega (arith, p.few, (p.holds n k t).long)) (length_S t ∙ sym (all_of h n k t))
            (λ j u. p.S_is n k t j (omega arith));
        R_is = λ n k t l.
            entries_ext R_TABLE count w (pairs_r n k a b c d) (omega (arith, p.few, (p.holds n k t).long)) (length_R t ∙ sym (all_of h n k t))
            (λ j u. p.R_is n k t j (omega arith));
      }
