-- THE LIST OF RIGHT COSETS BY MATRICES: after as many visits as the index says it has one matrix of each, and its tables are those of the right
-- cosets, numbered by the rule: `numbered_cosets`.
--
-- In order: lists of matrices that extend each other; the place of a coset in a list (`coset_in`); `with_coset`; the list after i visits; that it is closed;
-- that it isn't longer than the index; the numbering followed in the tables; the theorem.
-- Why: no two matrices of the list are in one coset, so it has at most as many as a transversal; when all of them have been visited, S and R lead
-- from listed cosets to listed ones.
-- Assumes nothing.
use mathlib.Core.Path.{◌≡◌, refl, sym, ◌∙◌, ap}
use mathlib.Core.Logic.{inl, inr}
use mathlib.Core.Bool.{Bool, true}
use mathlib.Core.List.{List, [], ◌∷◌, ◌++◌, map}
use Prim.Native.Nat.{ℕ, zero, suc, ◌+◌, ◌-◌, ◌≤◌, ◌<◌}
use native.Mathlib.Omega.{arith}
use native.Mathlib.Decide.{dec_lt}
use lib.ListN.{length, get_or, length-append, length-map}
use borrow.Author.Tests.{lt-ltb, le-ltb}
use Rattle.basics.specs.Count.{first}
use Rattle.basics.proofs.Choice.{pick_true, pick_false, clash}
use Rattle.basics.proofs.Count.{search_first, found, first_le}
use Rattle.matrix.specs.Matrix.{Mat, ◌⊗◌, 𝟙, adj, mat_s, mat_r}
use Rattle.matrix.specs.Words.{S}
use Rattle.matrix.proofs.Matrix.{det_𝟙, det_one, det_letter}
use Rattle.numbering.specs.Find.{◌∈◌, ◌∉◌}
use Rattle.numbering.specs.Order.{add, visit, order_to, up_to}
use Rattle.numbering.specs.Table.{image_at}
use Rattle.numbering.proofs.Find.{none_below_lem, in_all, pigeonhole}
use Rattle.numbering.proofs.Order as order
use Rattle.numbering.proofs.Numbered.{up_to_length, up_to_at}
use Rattle.right_cosets.specs.Condition.{Unit, Condition, Decides}
use Rattle.right_cosets.specs.Transversal.{Everything, CosetPlace, Index}
use Rattle.right_cosets.specs.Cosets.{coset_in, with_coset, after_visit, cosets_to, coset_table, CosetsOf}
use Rattle.right_cosets.specs.Inner.Listed.{matrix_at, Extends, CosetList}
use Rattle.right_cosets.proofs.First.{first_is}
use Rattle.right_cosets.proofs.Transversal.{self, flip, chain}
use Rattle.right_cosets.proofs.Place.{det_R}
use Rattle.right_cosets.proofs.Walked.{up_to_find, Walked, walked_cosets}
use Rattle.right_cosets.proofs.Unique.{cosets_count}

-- ---- lists of matrices

pub extends_refl : (l : List Mat) → Extends l l
extends_refl l = record { long = omega arith; same = λ j h. refl }

pub extends_trans : {k l m : List Mat} → Extends k l → Extends l m → Extends k m
extends_trans p q = record { long = omega (arith, p.long, q.long); same = λ j h. q.same j (omega (arith, p.long)) ∙ p.same j h }

entry_left : (l m : List Mat) (j : ℕ) → j < length l → matrix_at (l ++ m) j ≡ matrix_at l j
entry_left [] m j h = none_below_lem h
entry_left (x ∷ l) m zero h = refl
entry_left (x ∷ l) m (suc j) h = entry_left l m j (omega arith)

pub entry_last : (l : List Mat) (m : Mat) → matrix_at (l ++ (m ∷ [])) (length l) ≡ m
entry_last [] m = refl
entry_last (x ∷ l) m = entry_last l m

pub last_extends : (l : List Mat) (m : Mat) → Extends l (l ++ (m ∷ []))
last_extends l m = record { long = omega (arith, length-append l (m ∷ [])); same = entry_left l (m ∷ []) }

entry_map : (f : Mat → ℕ) (l : List Mat) (j : ℕ) → j < length l → image_at (map f l) j ≡ f (matrix_at l j)
entry_map f [] j h = none_below_lem h
entry_map f (x ∷ l) zero h = refl
entry_map f (x ∷ l) (suc j) h = entry_map f l j (omega arith)

pub unit_S : (m : Mat) → Unit m → Unit (m ⊗ mat_s)
unit_S m u = det_one m mat_s u (det_letter S)

pub unit_R : (m : Mat) → Unit m → Unit (m ⊗ mat_r)
unit_R m u = det_one m mat_r u det_R

module _ {C : Mat → Type 0} (c : Condition C) {test : Mat → Bool} (decides : Decides C test) where
  -- ---- the place of a coset

  pub in_le : (l : List Mat) (m : Mat) → coset_in test l m ≤ length l
  in_le l m = first_le (λ (k : ℕ). test (m ⊗ adj (matrix_at l k))) (length l)

  pub in_hit : (l : List Mat) (m : Mat) → coset_in test l m < length l → C (m ⊗ adj (matrix_at l (coset_in test l m)))
  in_hit l m h = (decides (m ⊗ adj (matrix_at l (coset_in test l m)))).0 (found (λ (k : ℕ). test (m ⊗ adj (matrix_at l k))) (length l) h).passes

  pub in_none : (l : List Mat) (m : Mat) → length l ≤ coset_in test l m → (k : ℕ) → k < length l → C (m ⊗ adj (matrix_at l k)) → ⊥
  in_none l m h k i e = elim (search_first (λ (k : ℕ). test (m ⊗ adj (matrix_at l k))) (length l)) [
    | inl z ↦ clash ((decides (m ⊗ adj (matrix_at l k))).1 e) (z.none k i)
    | inr z ↦ omega (arith, z.below)
  ]

  pub in_is : {l : List Mat} → CosetList C l → (m : Mat) → Unit m → (k : ℕ) → k < length l → C (m ⊗ adj (matrix_at l k)) → coset_in test l m ≡ k
  in_is {l} g m u k h e = first_is (λ (k : ℕ). test (m ⊗ adj (matrix_at l k))) (length l) k h ((decides (m ⊗ adj (matrix_at l k))).1 e)
      (λ i low t. g.apart i k low h (chain c (matrix_at l i) m (matrix_at l k) u (flip c m (matrix_at l i) ((decides (m ⊗ adj (matrix_at l i))).0 t)) e))

  -- a coset that is there stays where it is
  pub in_extends : {l l' : List Mat} → Extends l l' → CosetList C l' → (m : Mat) → Unit m → coset_in test l m < length l → coset_in test l' m ≡ coset_in test l m
  in_extends {l} {l'} x g m u h =
      let k = coset_in test l m in
      in_is g m u k (omega (arith, x.long)) (rw (x.same k h) (in_hit l m h))

  -- ---- one matrix joins

  pub joined_old : (l : List Mat) (m : Mat) → coset_in test l m < length l → with_coset test l m ≡ l
  unfolding with_coset
  joined_old l m h = pick_true _ l (l ++ (m ∷ [])) (lt-ltb _ _ h)

  pub joined_new : (l : List Mat) (m : Mat) → length l ≤ coset_in test l m → with_coset test l m ≡ l ++ (m ∷ [])
  unfolding with_coset
  joined_new l m h = pick_false _ l (l ++ (m ∷ [])) (le-ltb _ _ h)

  pub joined_extends : (l : List Mat) (m : Mat) → Extends l (with_coset test l m)
  joined_extends l m = elim (dec_lt (coset_in test l m) (length l)) [
    | yes h ↦ rw (joined_old l m h) (extends_refl l)
    | no h ↦ rw (joined_new l m (omega arith)) (last_extends l m)
  ]

  last_listed : (l : List Mat) (m : Mat) → CosetList C l → Unit m → ((k : ℕ) → k < length l → C (m ⊗ adj (matrix_at l k)) → ⊥) → CosetList C (l ++ (m ∷ []))
  last_listed l m g u new =
      let n = length-append l (m ∷ []) in
      let old = (last_extends l m).same in
      let last = entry_last l m in
      let l' = l ++ (m ∷ []) in
      let some = g.some in
      record {
        some = omega arith;
        unit = λ j h. elim (dec_lt j (length l)) [
          | yes k ↦ rw (old j k) (g.unit j k)
          | no k ↦ let e : j ≡ length l = omega arith in rw (e, last) u
        ];
        first = old 0 some ∙ g.first;
        apart = λ j k a b h. elim (dec_lt j (length l)) [
          | yes x ↦ elim (dec_lt k (length l)) [
            | yes y ↦ g.apart j k x y (rw (old j x, old k y) at h)
            | no y ↦
                let e : k ≡ length l = omega arith in
                let h' : C (matrix_at l j ⊗ adj m) = rw (old j x, e, last) at h in
                absurd (new j x (flip c (matrix_at l j) m h'))
          ]
          | no x ↦
              let e : j ≡ length l = omega arith in
              elim (dec_lt k (length l)) [
                | yes y ↦ absurd (new k y (rw (e, last, old k y) at h))
                | no y ↦ omega arith
              ]
        ];
      }

  pub joined_listed : {l : List Mat} → CosetList C l → (m : Mat) → Unit m → CosetList C (with_coset test l m)
  joined_listed {l} g m u = elim (dec_lt (coset_in test l m) (length l)) [
    | yes h ↦ rw (joined_old l m h) g
    | no h ↦ rw (joined_new l m (omega arith)) (last_listed l m g u (in_none l m (omega arith)))
  ]

  -- and then it is there
  pub joined_in : {l : List Mat} → CosetList C l → (m : Mat) → Unit m → coset_in test (with_coset test l m) m < length (with_coset test l m)
  joined_in {l} g m u = elim (dec_lt (coset_in test l m) (length l)) [
    | yes h ↦ rw (joined_old l m h) h
    | no h ↦
        let g' = last_listed l m g u (in_none l m (omega arith)) in
        let hit : C (m ⊗ adj (matrix_at (l ++ (m ∷ [])) (length l))) = rw (entry_last l m) (self c m u) in
        let low : length l < length (l ++ (m ∷ [])) = omega (arith, length-append l (m ∷ [])) in
        rw (joined_new l m (omega arith), in_is g' m u (length l) low hit) low
  ]

  -- ---- the list after i visits

  abbrev to : ℕ → List Mat
  to i = cosets_to test i

  pub to_more : (i : ℕ) → i < length (to i) → to (suc i) ≡ after_visit test (to i) i
  unfolding cosets_to
  to_more i h = pick_true _ _ _ (lt-ltb i (length (to i)) h)

  pub to_done : (i : ℕ) → length (to i) ≤ i → to (suc i) ≡ to i
  unfolding cosets_to
  to_done i h = pick_false _ _ _ (le-ltb i (length (to i)) h)

  pub visited_listed : {l : List Mat} → CosetList C l → (i : ℕ) → i < length l → CosetList C (after_visit test l i)
  visited_listed {l} g i h =
      let m = matrix_at l i in
      let u = g.unit i h in
      joined_listed (joined_listed g (m ⊗ mat_s) (unit_S m u)) (m ⊗ mat_r) (unit_R m u)

  pub visited_extends : (l : List Mat) (i : ℕ) → Extends l (after_visit test l i)
  visited_extends l i =
      let m = matrix_at l i in
      extends_trans (joined_extends l (m ⊗ mat_s)) (joined_extends (with_coset test l (m ⊗ mat_s)) (m ⊗ mat_r))

  single : CosetList C (𝟙 ∷ [])
  single = record { some = omega arith; unit = λ j h. let e : j ≡ 0 = omega arith in rw e det_𝟙; first = refl; apart = λ j k a b h. omega arith }

  pub to_listed : (i : ℕ) → CosetList C (to i)
  unfolding cosets_to
  to_listed zero = single
  to_listed (suc i) = elim (dec_lt i (length (to i))) [
    | yes h ↦ rw (to_more i h) (visited_listed (to_listed i) i h)
    | no h ↦ rw (to_done i (omega arith)) (to_listed i)
  ]

  to_next : (i : ℕ) → Extends (to i) (to (suc i))
  to_next i = elim (dec_lt i (length (to i))) [
    | yes h ↦ rw (to_more i h) (visited_extends (to i) i)
    | no h ↦ rw (to_done i (omega arith)) (extends_refl (to i))
  ]

  pub to_extends : (i k : ℕ) → Extends (to i) (to (i + k))
  to_extends i zero = let e : i + 0 ≡ i = omega arith in rw e (extends_refl (to i))
  to_extends i (suc k) = let e : i + suc k ≡ suc (i + k) = omega arith in rw e (extends_trans (to_extends i k) (to_next (i + k)))

  pub to_stop : (i k : ℕ) → length (to i) ≤ i → to (i + k) ≡ to i
  to_stop i zero h = let z : i + 0 ≡ i = omega arith in rw z
  to_stop i (suc k) h = let e = to_stop i k h in let z : i + suc k ≡ suc (i + k) = omega arith in rw z (to_done (i + k) (rw e (omega arith)) ∙ e)

  -- ---- it is closed

  -- S and R lead from the matrix m to cosets of the list l
  record Closed (l : List Mat) (m : Mat) : Type 0 where
    S_in : coset_in test l (m ⊗ mat_s) < length l
    R_in : coset_in test l (m ⊗ mat_r) < length l

  in_more : {l l' : List Mat} → Extends l l' → CosetList C l' → (m : Mat) → Unit m → coset_in test l m < length l → coset_in test l' m < length l'
  in_more x g m u h = rw (in_extends x g m u h) (omega (arith, x.long))

  closed_more : {l l' : List Mat} → Extends l l' → CosetList C l' → (m : Mat) → Unit m → Closed l m → Closed l' m
  closed_more x g m u k = record { S_in = in_more x g (m ⊗ mat_s) (unit_S m u) k.S_in; R_in = in_more x g (m ⊗ mat_r) (unit_R m u) k.R_in }

  closed_visited : {l : List Mat} → CosetList C l → (i : ℕ) → i < length l → Closed (after_visit test l i) (matrix_at l i)
  closed_visited {l} g i h =
      let m = matrix_at l i in
      let u = g.unit i h in
      let l1 = with_coset test l (m ⊗ mat_s) in
      let g1 = joined_listed g (m ⊗ mat_s) (unit_S m u) in
      record {
        S_in = in_more (joined_extends l1 (m ⊗ mat_r)) (visited_listed g i h) (m ⊗ mat_s) (unit_S m u) (joined_in g (m ⊗ mat_s) (unit_S m u));
        R_in = joined_in g1 (m ⊗ mat_r) (unit_R m u);
      }

  to_closed : (i j : ℕ) → j < i → j < length (to i) → Closed (to i) (matrix_at (to i) j)
  to_closed zero j h k = none_below_lem h
  to_closed (suc i) j h k = elim (dec_lt i (length (to i))) [
    | yes l ↦
        let g = to_listed i in
        let x = visited_extends (to i) i in
        rw (to_more i l) (elim (dec_lt j i) [
          | yes a ↦ rw (x.same j (omega arith))
              (closed_more x (visited_listed g i l) (matrix_at (to i) j) (g.unit j (omega arith)) (to_closed i j a (omega arith)))
          | no a ↦ let e : j ≡ i = omega arith in rw (e, x.same i l) (closed_visited g i l)
        ])
    | no l ↦
        let e = to_done i (omega arith) in
        let k' : j < length (to i) = rw e at k in
        rw e (to_closed i j (omega arith) k')
  ]

  -- ---- it isn't longer than the index

  module _ {n : ℕ} (index : Index Everything C n) {l : List Mat} (g : CosetList C l) where
    spot_of : (j : ℕ) → Dec (j < length l) → ℕ
    spot_of j (yes h) = (index.transversal.place (matrix_at l j) (record { unit = g.unit j h; meets = tt })).at
    spot_of j (no h) = 0

    spot_low : (j : ℕ) (x : Dec (j < length l)) → j < length l → spot_of j x < n
    unfolding spot_of
    spot_low j (yes h) k = (index.transversal.place (matrix_at l j) (record { unit = g.unit j h; meets = tt })).low
    spot_low j (no h) k = absurd (h k)

    spot_one : (j k : ℕ) (x : Dec (j < length l)) (y : Dec (k < length l)) → j < length l → k < length l → spot_of j x ≡ spot_of k y → j ≡ k
    unfolding spot_of
    spot_one j k (yes h) (yes i) a b e =
        let p = index.transversal.place (matrix_at l j) (record { unit = g.unit j h; meets = tt }) in
        let q = index.transversal.place (matrix_at l k) (record { unit = g.unit k i; meets = tt }) in
        let r = index.rep p.at in
        g.apart j k a b (chain c (matrix_at l j) r (matrix_at l k) (index.transversal.member p.at p.low).unit p.hit
        (flip c (matrix_at l k) r (rw (← e) at q.hit)))
    spot_one j k (yes h) (no i) a b e = absurd (i b)
    spot_one j k (no h) y a b e = absurd (h a)

    pub listed_few : length l ≤ n
    listed_few = pigeonhole (length l) n (λ j. spot_of j (dec_lt j (length l))) (λ j h. spot_low j (dec_lt j (length l)) h)
        (λ j k h i. spot_one j k (dec_lt j (length l)) (dec_lt k (length l)) h i)

  -- ---- the tables

  pub table_length_lem : (l : List Mat) (g : Mat) → length (coset_table test l g) ≡ length l
  unfolding coset_table
  table_length_lem l g = length-map l (λ (m : Mat). coset_in test l (m ⊗ g))

  pub table_at : (l : List Mat) (g : Mat) (j : ℕ) → j < length l → image_at (coset_table test l g) j ≡ coset_in test l (matrix_at l j ⊗ g)
  unfolding coset_table
  table_at l g j h = entry_map (λ (m : Mat). coset_in test l (m ⊗ g)) l j h

  -- ---- the theorem

  module _ {n : ℕ} (index : Index Everything C n) where
    abbrev L : List Mat
    L = cosets_to test n

    listed : CosetList C L
    listed = to_listed n

    abbrev s : List ℕ
    s = coset_table test L mat_s

    abbrev r : List ℕ
    r = coset_table test L mat_r

    closed : (j : ℕ) → j < length L → Closed L (matrix_at L j)
    closed j h = to_closed n j (omega (arith, listed_few index listed)) h

    -- one matrix joins the list as its number joins the numbering
    add_step : (l : List Mat) (m : Mat) → CosetList C l → Unit m → Extends (with_coset test l m) L → add (up_to (length l)) (coset_in test L m)
        ≡ up_to (length (with_coset test l m))
    unfolding up_to
    add_step l m g u x =
        let k = up_to_length (length l) in
        elim (dec_lt (coset_in test l m) (length l)) [
          | yes h ↦
              let y : Extends l L = extends_trans (joined_extends l m) x in
              rw (joined_old l m h, in_extends y listed m u h)
              (order.add_old (up_to (length l)) (coset_in test l m) (rw (up_to_find (length l) (coset_in test l m) h) (omega arith)))
          | no h ↦
              let new = joined_new l m (omega arith) in
              let g' : CosetList C (l ++ (m ∷ [])) = rw new at (joined_listed g m u) in
              let y : Extends (l ++ (m ∷ [])) L = rw new at x in
              let len = length-append l (m ∷ []) in
              let low : length l < length (l ++ (m ∷ [])) = omega arith in
              let at = in_is g' m u (length l) low (rw (entry_last l m) (self c m u)) in
              let e : coset_in test L m ≡ length l = in_extends y listed m u (rw at low) ∙ at in
              let out : length l ∉ up_to (length l) = elim (dec_lt (Rattle.numbering.specs.Find.find (up_to (length l)) (length l)) (length (up_to (length l)))) [
                | yes q ↦ let no : ⊥ =
                    omega (
                      arith,
                      in_all (λ (x : ℕ). x < length l) (up_to (length l)) (λ j i. rw (up_to_at (length l) j (omega arith)) (omega arith))
                          (length l) q,
                    ) in absurd no
                | no q ↦ omega arith
              ] in
              rw (e, new) (order.add_new (up_to (length l)) (length l) out ∙ (let z : length (l ++ (m ∷ [])) ≡ suc (length l) = omega arith in rw z))
        ]

    follow : (i k : ℕ) → i + k ≡ n → order_to (image_at s) (image_at r) 0 i ≡ up_to (length (to i))
    unfolding order_to cosets_to up_to
    follow zero k e = refl
    follow (suc i) k e =
        let l = to i in
        let ih = follow i (suc k) (omega arith) in
        let len = up_to_length (length l) in
        elim (dec_lt i (length l)) [
          | yes h ↦
              let g = to_listed i in
              let m = matrix_at l i in
              let u = g.unit i h in
              let x : Extends (to (suc i)) L = rw e at (to_extends (suc i) k) in
              let x2 : Extends (after_visit test l i) L = rw (to_more i h) at x in
              let x1 = extends_trans (joined_extends (with_coset test l (m ⊗ mat_s)) (m ⊗ mat_r)) x2 in
              let x0 = extends_trans (joined_extends l (m ⊗ mat_s)) x1 in
              let low : i < length L = omega (arith, x0.long) in
              let is-S : image_at s i ≡ coset_in test L (m ⊗ mat_s) = table_at L mat_s i low ∙ ap (λ (y : Mat). coset_in test L (y ⊗ mat_s)) (x0.same i h) in
              let is-R : image_at r i ≡ coset_in test L (m ⊗ mat_r) = table_at L mat_r i low ∙ ap (λ (y : Mat). coset_in test L (y ⊗ mat_r)) (x0.same i h) in
              order.to_more (image_at s) (image_at r) 0 i (rw ih (omega arith))
              ∙ ap (λ (o : List ℕ). visit (image_at s) (image_at r) o i) ih
              ∙ rw (up_to_at (length l) i h, is-S, is-R, add_step l (m ⊗ mat_s) g (unit_S m u) x1)
              (add_step (with_coset test l (m ⊗ mat_s)) (m ⊗ mat_r) (joined_listed g (m ⊗ mat_s) (unit_S m u)) (unit_R m u) x2
              ∙ ap (λ (y : List Mat). up_to (length y)) (sym (to_more i h)))
          | no h ↦ order.to_done (image_at s) (image_at r) 0 i (rw ih (omega arith)) ∙ ih ∙ ap (λ (y : List Mat). up_to (length y)) (sym (to_done i (omega arith)))
        ]

    -- all of the list is there after as many visits as it is long
    in_order_is : order_to (image_at s) (image_at r) 0 (length L) ≡ up_to (length L)
    in_order_is =
        let few = listed_few index listed in
        let i = length L in
        let k = n - i in
        let e : i + k ≡ n = omega arith in
        let x : Extends (to i) L = rw e at (to_extends i k) in
        let stop : to (i + k) ≡ to i = to_stop i k x.long in
        let same : L ≡ to i = rw e at stop in
        follow i k e ∙ ap (λ (y : List Mat). up_to (length y)) (sym same)

    walked : Walked C (length L) (matrix_at L) s r
    walked = record {
      size_S = table_length_lem L mat_s;
      size_R = table_length_lem L mat_r;
      low_S = λ j h. rw (table_at L mat_s j h) (closed j h).S_in;
      low_R = λ j h. rw (table_at L mat_r j h) (closed j h).R_in;
      some = listed.some;
      unit = listed.unit;
      first = rw listed.first c.one;
      apart = listed.apart;
      by_S = λ j h. rw (table_at L mat_s j h) (in_hit L (matrix_at L j ⊗ mat_s) (closed j h).S_in);
      by_R = λ j h. rw (table_at L mat_r j h) (in_hit L (matrix_at L j ⊗ mat_r) (closed j h).R_in);
      numbered = in_order_is;
    }

    pub listed_index : length L ≡ n
    listed_index = cosets_count c (walked_cosets c walked decides) index

    pub numbered_cosets : CosetsOf C n (coset_table test (cosets_to test n) mat_s) (coset_table test (cosets_to test n) mat_r)
    numbered_cosets = rw listed_index at (walked_cosets c walked decides)
