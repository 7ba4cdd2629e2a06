-- A visit: both images of a pair take the next numbers, if they are new (`enters_S`, `enters_R`), and their places are stored (`visited`).
-- In order: lists that grow; a visit.
-- Why: a visit adds the S image and next the R image, as the numbering does.
-- Assumes nothing.
use mathlib.Core.Path.{◌≡◌, refl, sym, ◌∙◌}
use mathlib.Core.Logic.{◌≢◌}
use mathlib.Core.List.{List, [], ◌∷◌}
use Prim.Native.Nat.{ℕ, zero, suc, ◌+◌, ◌*◌, ◌/◌, ◌%◌, ◌≤◌, ◌<◌}
use native.Mathlib.Omega.{arith}
use native.Mathlib.Nat.{mod-lt}
use native.Mathlib.Decide.{dec_lt}
use lib.ListN.{length, get_or, set, length-set, length-append, get_or-append}
use lib.Seq.{get_or-set_same, get_or-set_other}
use Rattle.call.specs.Space.{work_length}
use Rattle.numbering.specs.Find.{find, ◌∈◌, Once}
use Rattle.numbering.specs.Order.{add, visit, order_to}
use Rattle.numbering.specs.Table.{image_at}
use Rattle.numbering.specs.Inner.Space.{S_TABLE, R_TABLE}
use Rattle.numbering.proofs.Find.{get_d_find, in_last}
use Rattle.numbering.proofs.Order.{Grows, visit_grows, add_old, add_new, to_more, to_done}
use Rattle.buckets.specs.Inner.Pairs.{FORMER, LATTER, bucket_of, HoldsPairs, EnterPair, PairEntered}
use Rattle.buckets.proofs.Chain.{holds_kept}
use Rattle.containment.specs.Pairs.{both, pair_by_s, pair_by_r}
use Rattle.containment.proofs.Pairs.{first_low}
use Rattle.intersections.specs.Inner.Pairs.{PairTables, VisitPair, PairVisited}

-- ---- a list with one more

pub add_has : (l : List ℕ) (c : ℕ) → c ∈ add l c
add_has l c = elim (dec_lt (find l c) (length l)) [
  | yes i ↦ rw (add_old l c i) i
  | no i ↦ rw (add_new l c (omega arith)) (in_last l c)
]

pub grows_add : (l : List ℕ) (c : ℕ) → Grows l (add l c)
grows_add l c = elim (dec_lt (find l c) (length l)) [
  | yes i ↦ rw (add_old l c i) (record { long = omega arith; same = λ j h. refl })
  | no i ↦ rw (add_new l c (omega arith)) (record { long = omega (arith, length-append l (c ∷ [])); same = λ j h. get_or-append l (c ∷ []) 0 j h })
]

pub grows_trans : {l m o : List ℕ} → Grows l m → Grows m o → Grows l o
grows_trans a b = record { long = omega (arith, a.long, b.long); same = λ j h. b.same j (omega (arith, a.long)) ∙ a.same j h }

-- a place stays when the list grows
pub grows_place : {l m : List ℕ} → Grows l m → Once m → (x : ℕ) → x ∈ l → find m x ≡ find l x
grows_place {l} {m} g once x h =
    let j = find l x in
    let e : get_or m j 0 ≡ x = g.same j h ∙ get_d_find l x h in
    rw e at (once.place j (omega (arith, g.long)))

module _ (σ ρ : ℕ → ℕ) where
  abbrev to : ℕ → List ℕ
  to = order_to σ ρ 0

  pub to_begins : (i k : ℕ) → Grows (to i) (to (i + k))
  to_begins i zero = let e : i + 0 ≡ i = omega arith in rw e (record { long = omega arith; same = λ j h. refl })
  to_begins i (suc k) =
      let e : i + suc k ≡ suc (i + k) = omega arith in
      elim (dec_lt (i + k) (length (to (i + k)))) [
        | yes h ↦ rw (e, to_more σ ρ 0 (i + k) h) (grows_trans (to_begins i k) (visit_grows σ ρ (to (i + k)) (i + k)))
        | no h ↦ rw (e, to_done σ ρ 0 (i + k) (omega arith)) (to_begins i k)
      ]

-- ---- a visit: the pair of x and y at i, its images by S and by R entered, and their places stored

module _ {w a b c d : List ℕ} {m i count x y : ℕ} (v : VisitPair w a b c d m i count) (ex : x ≡ get_or w (FORMER + i) 0) (ey : y ≡ get_or w (LATTER + i) 0) where
  module _ (n k : ℕ) (l : List ℕ) (t : PairTables n k a b c d) (h : HoldsPairs (bucket_of m) k l w count) where
    abbrev z : ℕ
    z = get_or l i 0

    x_is : x ≡ z / k
    x_is = ex ∙ h.first i v.low

    y_is : y ≡ z % k
    y_is = ey ∙ h.second i v.low

    y_low : y < k
    y_low = omega (arith, y_is, mod-lt z h.some)

    image_S : image_at a x * k + image_at c y ≡ pair_by_s n k a b c d z
    unfolding both
    image_S = rw (x_is, y_is) refl

    image_R : image_at b x * k + image_at d y ≡ pair_by_r n k a b c d z
    unfolding both
    image_R = rw (x_is, y_is) refl

  pub x_low : x < 4096
  x_low = omega (
    arith,
    x_is v.points v.modulus v.list v.tables v.holds,
    first_low v.points v.modulus (get_or v.list i 0) v.tables.some v.inside,
    v.tables.few_first,
  )

  pub y_few : y < 4096
  y_few = omega (arith, y_low v.points v.modulus v.list v.tables v.holds, v.tables.few)

  pub enters_S : EnterPair m w (image_at a x) (image_at c y) count
  enters_S = record {
    multiplier = v.multiplier;
    fits = omega (arith, v.room);
    some = record {
      modulus = v.modulus;
      list = v.list;
      below = v.tables.low_c y (y_low v.points v.modulus v.list v.tables v.holds);
      holds = v.holds;
    };
  }

  module _ {w1 : List ℕ} {p c1 : ℕ} (e_s : PairEntered (bucket_of m) w (image_at a x) (image_at c y) count w1 p c1) where
    one : (n k : ℕ) (l : List ℕ) → PairTables n k a b c d → HoldsPairs (bucket_of m) k l w count
        → HoldsPairs (bucket_of m) k (add l (pair_by_s n k a b c d (get_or l i 0))) w1 c1
    one n k l t h = rw (image_S n k l t h) at (e_s.holds k l (t.low_c y (y_low n k l t h)) h)

    pub enters_R : EnterPair m w1 (image_at b x) (image_at d y) c1
    enters_R = record {
      multiplier = v.multiplier;
      fits = omega (arith, v.room, e_s.upto);
      some = record {
        modulus = v.modulus;
        list = add v.list (pair_by_s v.points v.modulus a b c d (get_or v.list i 0));
        below = v.tables.low_d y (y_low v.points v.modulus v.list v.tables v.holds);
        holds = one v.points v.modulus v.list v.tables v.holds;
      };
    }

    module _ {w2 : List ℕ} {q c2 : ℕ} (e_r : PairEntered (bucket_of m) w1 (image_at b x) (image_at d y) c1 w2 q c2) where
      pub p_low : p < 4096
      p_low = omega (arith, e_s.inside, e_s.upto, v.room)

      pub q_low : q < 4096
      q_low = omega (arith, e_r.inside, e_r.upto, e_s.upto, v.room)

      pub visited_long : work_length ≤ length w2
      visited_long = omega (arith, v.holds.long, e_s.same, e_r.same)

      abbrev w3 : List ℕ
      w3 = set w2 (S_TABLE + i) p

      abbrev w4 : List ℕ
      w4 = set w3 (R_TABLE + i) q

      i_few : i < 3066
      i_few = omega (arith, v.low, v.room)

      same_2 : length w2 ≡ length w
      same_2 = e_r.same ∙ e_s.same

      same_3 : length w3 ≡ length w
      same_3 = length-set w2 (S_TABLE + i) p ∙ same_2

      at_other : (j : ℕ) → j ≢ S_TABLE + i → j ≢ R_TABLE + i → get_or w4 j 0 ≡ get_or w2 j 0
      at_other j f g = get_or-set_other w3 (R_TABLE + i) j q 0 g ∙ get_or-set_other w2 (S_TABLE + i) j p 0 f

      at_S : get_or w4 (S_TABLE + i) 0 ≡ p
      at_S =
          get_or-set_other w3 (R_TABLE + i) (S_TABLE + i) q 0 (λ e. omega arith)
          ∙ get_or-set_same w2 (S_TABLE + i) p 0 (omega (arith, v.holds.long, same_2, i_few))

      at_R : get_or w4 (R_TABLE + i) 0 ≡ q
      at_R = get_or-set_same w3 (R_TABLE + i) q 0 (omega (arith, v.holds.long, same_3, i_few))

      two : (n k : ℕ) (l : List ℕ) → PairTables n k a b c d → HoldsPairs (bucket_of m) k l w count
          → HoldsPairs (bucket_of m) k (visit (pair_by_s n k a b c d) (pair_by_r n k a b c d) l i) w2 c2
      two n k l t h =
          rw (image_R n k l t h) at (e_r.holds k (add l (pair_by_s n k a b c d (get_or l i 0))) (t.low_d y (y_low n k l t h)) (one n k l t h))

      pub visited : {p' q' : ℕ} → p' ≡ p → q' ≡ q → PairVisited w a b c d m i count (set (set w2 (S_TABLE + i) p') (R_TABLE + i) q') c2
      visited ep eq =
          let few = i_few in
          rw (ep, eq) (record {
            same = length-set w3 (R_TABLE + i) q ∙ same_3;
            upto = omega (arith, e_r.upto, e_s.upto);
            S_kept = λ j u.
                at_other (S_TABLE + j) (λ e. omega arith) (λ e. omega arith) ∙ e_r.below (S_TABLE + j) (omega arith) ∙ e_s.below (S_TABLE + j) (omega arith);
            R_kept = λ j u.
                at_other (R_TABLE + j) (λ e. omega arith) (λ e. omega arith) ∙ e_r.above (R_TABLE + j) (omega arith) ∙ e_s.above (R_TABLE + j) (omega arith);
            holds = λ n k l t h. holds_kept w4 (length-set w3 (R_TABLE + i) q ∙ length-set w2 (S_TABLE + i) p) (two n k l t h)
                (λ j u f. at_other j (λ e. omega arith) (λ e. omega arith));
            S_is = λ n k l t h. at_S ∙ (rw (image_S n k l t h) at (e_s.place_is k l (t.low_c y (y_low n k l t h)) h));
            R_is = λ n k l t h.
                at_R ∙ (rw (image_R n k l t h) at (e_r.place_is k (add l (pair_by_s n k a b c d (get_or l i 0))) (t.low_d y (y_low n k l t h)) (one n k l t h)));
          })
