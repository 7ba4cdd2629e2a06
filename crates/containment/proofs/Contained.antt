-- WHEN ONE SUBGROUP LIES IN ANOTHER: `containings`. In order: a map that follows takes where a matrix leads to where it leads (`run_is`, `follows_leads`);
-- where the first condition lies in the second there is such a map (`some_follows`); pairs (`inside_one`, `one_inside`); their number (`once-full`, `as_many`);
-- the theorem. Assumes nothing.
use mathlib.Core.Path.{◌≡◌, refl, sym, ◌∙◌, ap}
use mathlib.Core.Logic.{◌↔◌}
use mathlib.Core.List.{List, [], ◌∷◌, map}
use Prim.Native.Nat.{ℕ, suc, ◌+◌, ◌*◌, ◌/◌, ◌≤◌, ◌<◌}
use native.Mathlib.Omega.{arith}
use native.Mathlib.Decide.{dec_lt, ℕ_discrete}
use lib.Dec.{ltb}
use lib.ListN.{length, get_or, length-map}
use borrow.Author.Tests.{lt-ltb, le-ltb}
use Rattle.basics.specs.Choice.{pick}
use Rattle.matrix.specs.Matrix.{Mat, ◌⊗◌, 𝟙, adj, mat_s, mat_r}
use Rattle.matrix.specs.Words.{Letter, S, Q, P}
use Rattle.matrix.specs.Euclid.{word_of}
use Rattle.matrix.specs.Action as action
use Rattle.matrix.proofs.Matrix.{det_𝟙, det_one, det_adj, det_letter}
use Rattle.numbering.specs.Find.{find, ◌∈◌, Once}
use Rattle.numbering.specs.Order.{here}
use Rattle.numbering.specs.Table.{image_at}
use Rattle.numbering.proofs.Find.{get_d_find, get_d_in, once_by, once_inj, once_below, once_below_all, in_all, pigeonhole}
use Rattle.numbering.proofs.Table.{get_d_map}
use Rattle.right_cosets.specs.Leads.{by_table_q, leads}
use Rattle.right_cosets.specs.Condition.{Unit}
use Rattle.right_cosets.specs.Cosets.{CosetsOf}
use Rattle.right_cosets.proofs.Place.{det_R}
use Rattle.right_cosets.proofs.Unique.{to, to_unit, to_leads}
use Rattle.containment.specs.Pairs.{pairs_reached}
use Rattle.containment.specs.Contained.{LiesIn, Follows, Followed, OnePartner, Containing, Containings}
use Rattle.right_cosets.proofs.Tabled.{S_low, R_low, Q_low, one_home, some_points}
use Rattle.containment.proofs.Pairs.{first_of, first_low, zero_pair_is, numbers, pair_in, LedTo, pair_led}

-- ---- a list of at most n entries that has all numbers below n has no repeats: with a place that isn't the first of its entry there would be more

module _ (l : List ℕ) (n : ℕ) (all : (x : ℕ) → x < n → x ∈ l) where
  -- the place of each number, and j for one number more
  abbrev put : ℕ → ℕ → ℕ
  put j x = pick (ltb x n) (find l x) j

  put_low : (j x : ℕ) → x < n → put j x ≡ find l x
  put_low j x h = rw (lt-ltb x n h)

  put_last : (j x : ℕ) → (x < n → ⊥) → put j x ≡ j
  put_last j x h = rw (le-ltb x n (omega arith))

  put_in : (j : ℕ) → j < length l → (x : ℕ) → put j x < length l
  put_in j h x = elim (dec_lt x n) [ yes i ↦ rw (put_low j x i) (all x i) | no i ↦ rw (put_last j x i) h ]

  module _ (j : ℕ) (later : find l (get_or l j 0) ≡ j → ⊥) where
    missed : (x : ℕ) → x < n → find l x ≡ j → ⊥
    missed x h e = later (ap (find l) (ap (λ (i : ℕ). get_or l i 0) (sym e) ∙ get_d_find l x (all x h)) ∙ e)

    put_one : (x y : ℕ) → x < suc n → y < suc n → put j x ≡ put j y → x ≡ y
    put_one x y h i e = elim (dec_lt x n) [
      | yes p ↦ elim (dec_lt y n) [
        | yes q ↦ sym (get_d_find l x (all x p)) ∙ ap (λ (z : ℕ). get_or l z 0) (sym (put_low j x p) ∙ e ∙ put_low j y q) ∙ get_d_find l y (all y q)
        | no q ↦ absurd (missed x p (sym (put_low j x p) ∙ e ∙ put_last j y q))
      ]
      | no p ↦ elim (dec_lt y n) [
        | yes q ↦ absurd (missed y q (sym (put_low j y q) ∙ sym e ∙ put_last j x p))
        | no q ↦ omega arith
      ]
    ]

  full_once : length l ≤ n → Once l
  full_once few = record {
    place = λ j h. elim (ℕ_discrete (find l (get_or l j 0)) j) [
      | yes e ↦ e
      | no e ↦ absurd (omega (arith, pigeonhole (suc n) (length l) (put j) (λ x i. put_in j h x) (put_one j e)))
    ];
  }

module _ {C D : Mat → Type 0} {n k : ℕ} {s r s' r' : List ℕ} (a : CosetsOf C n s r) (b : CosetsOf D k s' r') where
  -- ---- a map that follows

  module _ (f : ℕ → ℕ) (w : Follows n s r s' r' f) where
    by_Q : (x : ℕ) → x < n → f (by_table_q s r x) ≡ by_table_q s' r' (f x)
    by_Q x h =
        let i = S_low a x h in
        let j = R_low a (image_at s x) i in
        let l = R_low a (image_at r (image_at s x)) j in
        w.by_S (image_at r (image_at r (image_at s x))) l
        ∙ ap (image_at s') (w.by_R (image_at r (image_at s x)) j ∙ ap (image_at r') (w.by_R (image_at s x) i ∙ ap (image_at r') (w.by_S x h)))

    run_is : (l : List Letter) (x : ℕ) → x < n → f (action.run (image_at s) (by_table_q s r) x l) ≡ action.run (image_at s') (by_table_q s' r') (f x) l
    run_is [] x h = refl
    run_is (S ∷ l) x h = run_is l (image_at s x) (S_low a x h) ∙ ap (λ (z : ℕ). action.run (image_at s') (by_table_q s' r') z l) (w.by_S x h)
    run_is (Q ∷ l) x h = run_is l (by_table_q s r x) (Q_low a x h) ∙ ap (λ (z : ℕ). action.run (image_at s') (by_table_q s' r') z l) (by_Q x h)
    run_is (P ∷ l) x h =
        let i = Q_low a x h in
        run_is l (by_table_q s r (by_table_q s r x)) (Q_low a (by_table_q s r x) i)
        ∙ ap (λ (z : ℕ). action.run (image_at s') (by_table_q s' r') z l) (by_Q (by_table_q s r x) i ∙ ap (by_table_q s' r') (by_Q x h))

    follows_leads : (m : Mat) → f (leads s r m) ≡ leads s' r' m
    unfolding action.at
    follows_leads m = run_is (word_of m) 0 (some_points a) ∙ ap (λ (z : ℕ). action.run (image_at s') (by_table_q s' r') z (word_of m)) w.zero

    follows_inside : LiesIn C D
    follows_inside m u h = (b.fixes m u).0 (sym (follows_leads m) ∙ ap f ((a.fixes m u).1 h) ∙ w.zero)

  -- ---- where C lies in D, one point of the first is one of the second

  one_second : LiesIn C D → (l m : Mat) → Unit l → Unit m → leads s r l ≡ leads s r m → leads s' r' l ≡ leads s' r' m
  one_second i l m u v e = (b.cosets l m u v).1 (i (l ⊗ adj m) (det_one l (adj m) u (det_adj m ∙ v)) ((a.cosets l m u v).0 e))

  some_follows : LiesIn C D → Followed n s r s' r'
  some_follows i = record {
    to = λ x. leads s' r' (to a x);
    follows = record {
      zero = one_second i (to a 0) 𝟙 (to_unit a 0) det_𝟙 (to_leads a 0 (some_points a) ∙ sym (one_home a)) ∙ one_home b;
      by_S = λ x h.
          let m = to a x in
          let u = to_unit a x in
          one_second i (to a (image_at s x)) (m ⊗ mat_s) (to_unit a (image_at s x)) (det_one m mat_s u (det_letter S))
          (to_leads a (image_at s x) (S_low a x h) ∙ ap (image_at s) (sym (to_leads a x h)) ∙ sym (a.by_S m u)) ∙ b.by_S m u;
      by_R = λ x h.
          let m = to a x in
          let u = to_unit a x in
          one_second i (to a (image_at r x)) (m ⊗ mat_r) (to_unit a (image_at r x)) (det_one m mat_r u det_R)
          (to_leads a (image_at r x) (R_low a x h) ∙ ap (image_at r) (sym (to_leads a x h)) ∙ sym (a.by_R m u)) ∙ b.by_R m u;
    };
  }

  -- ---- pairs

  abbrev order : List ℕ
  order = pairs_reached n k s r s' r'

  inside_one : LiesIn C D → OnePartner n k s r s' r'
  inside_one i c d h l e =
      let x = pair_led a b c h in
      let y = pair_led a b d l in
      let p = x.matrix in
      let q = y.matrix in
      let ep : leads s r p ≡ c / k = sym (first_of k (leads s r p) (leads s' r' p) (b.low p x.unit)) ∙ ap (λ (z : ℕ). z / k) x.is in
      let eq : leads s r q ≡ d / k = sym (first_of k (leads s r q) (leads s' r' q) (b.low q y.unit)) ∙ ap (λ (z : ℕ). z / k) y.is in
      let f = ep ∙ e ∙ sym eq in
      sym x.is ∙ ap (λ (z : ℕ). z * k + leads s' r' p) f ∙ ap (λ (z : ℕ). leads s r q * k + z) (one_second i p q x.unit y.unit f) ∙ y.is

  one_inside : OnePartner n k s r s' r' → LiesIn C D
  one_inside o m u h =
      let some = some_points b in
      let x = leads s' r' m in
      let low = b.low m u in
      let z = (a.fixes m u).1 h in
      let c : 0 * k + x ∈ order = rw z at (pair_in a b m) in
      let d : 0 * k + 0 ∈ order = rw (zero_pair_is k) ((numbers a b).all 0 here) in
      let e = o (0 * k + x) (0 * k + 0) c d (first_of k 0 x low ∙ sym (first_of k 0 0 some)) in
      (b.fixes m u).0 (omega arith)

  -- ---- their number: the first points of the pairs are all the points

  abbrev firsts : List ℕ
  firsts = map (λ (c : ℕ). c / k) order

  long : length firsts ≡ length order
  long = length-map order (λ (c : ℕ). c / k)

  firsts_at : (j : ℕ) → j < length order → get_or firsts j 0 ≡ get_or order j 0 / k
  firsts_at j h = get_d_map (λ (c : ℕ). c / k) order j h

  firsts_low : (x : ℕ) → x ∈ firsts → x < n
  firsts_low = in_all (λ (x : ℕ). x < n) firsts (λ j h.
      let i : j < length order = omega (arith, long) in
      rw (firsts_at j i) (first_low n k (get_or order j 0) (some_points b) ((numbers a b).low (get_or order j 0) (get_d_in order j i))))

  firsts_all : (x : ℕ) → x < n → x ∈ firsts
  firsts_all x h =
      let m = to a x in
      let c = leads s r m * k + leads s' r' m in
      let i = pair_in a b m in
      let e : get_or firsts (find order c) 0 ≡ x = firsts_at (find order c) i ∙ ap (λ (z : ℕ). z / k) (get_d_find order c i)
      ∙ first_of k (leads s r m) (leads s' r' m) (b.low m (to_unit a x)) ∙ to_leads a x h in
      rw e at (get_d_in firsts (find order c) (omega (arith, long)))

  one_once : OnePartner n k s r s' r' → Once firsts
  one_once o = once_by firsts (λ i j h l e.
      let h' : i < length order = omega (arith, long) in
      let l' : j < length order = omega (arith, long) in
      once_inj order (numbers a b).once i j h' l'
      (o (get_or order i 0) (get_or order j 0) (get_d_in order i h') (get_d_in order j l') (sym (firsts_at i h') ∙ e ∙ firsts_at j l')))

  once_one : Once firsts → OnePartner n k s r s' r'
  once_one o c d h l e =
      let q = firsts_at (find order c) h ∙ ap (λ (z : ℕ). z / k) (get_d_find order c h) ∙ e
      ∙ sym (firsts_at (find order d) l ∙ ap (λ (z : ℕ). z / k) (get_d_find order d l)) in
      let z = once_inj firsts o (find order c) (find order d) (omega (arith, long)) (omega (arith, long)) q in
      sym (get_d_find order c h) ∙ ap (λ (j : ℕ). get_or order j 0) z ∙ get_d_find order d l

  one_count : OnePartner n k s r s' r' → length order ≡ n
  one_count o = omega (arith, long, once_below firsts n (one_once o) firsts_low, once_below_all firsts n firsts_all)

  count_one : length order ≡ n → OnePartner n k s r s' r'
  count_one e = once_one (full_once firsts n firsts_all (omega (arith, long)))

  pub containing : Containing C D n k s r s' r'
  containing = record {
    followed = (some_follows, λ f. follows_inside f.to f.follows);
    one_partner = (inside_one, one_inside);
    as_many = (λ i. one_count (inside_one i), λ e. one_inside (count_one e));
  }

pub containings : Containings
containings C D n k s r s' r' a b = containing a b
