-- The tower step, `tower`: the products of two transversals are a transversal; and two transversals have one length, `one_length`.
-- Why: m (s r)⁻¹ = (m r⁻¹) s⁻¹. The place of m is found in two steps: r from m, and then s from m r⁻¹.
-- In order: cosets (`same`, `back`); the numbers below k n as pairs; the tower step; the length; conditions that mean the same.
-- Assumes nothing.
use mathlib.Core.Path.{◌≡◌, sym, ◌∙◌, ap}
use mathlib.Core.Logic.{◌↔◌}
use Prim.Native.Nat.{ℕ, zero, suc, ◌+◌, ◌*◌, ◌/◌, ◌%◌, ◌≤◌, ◌<◌}
use native.Mathlib.Omega.{arith}
use native.Mathlib.Nat.{mul-le-mul_right, mod-lt, div-add-mod', div-lt_iff_lt-mul, mul-add-div_right, mul-add-mod_self_right, mod-eq_of_lt, div-eq_of_lt}
use native.Mathlib.Nat.{le_antisymm}
use native.Mathlib.Decide.{dec_lt}
use Rattle.matrix.specs.Matrix.{Mat, ◌⊗◌, 𝟙, neg, adj}
use Rattle.matrix.proofs.Matrix.{⊗-assoc, ⊗-idr, ⊗-adj, adj-⊗, adj_adj, adj_product, det_one, det_adj}
use Rattle.numbering.proofs.Find.{none_below_lem, pigeonhole}
use Rattle.right_cosets.specs.Condition.{Unit, ◌within◌, Condition}
use Rattle.right_cosets.specs.Transversal.{Everything, CosetPlace, Transversal, Index}

-- step 0 rep 0 .. step 0 rep (n - 1), step 1 rep 0 .., as one sequence
abbrev pub products : ℕ → (ℕ → Mat) → (ℕ → Mat) → ℕ → Mat
products n step rep j = step (j / n) ⊗ rep (j % n)

-- ---- cosets

-- m (s r)⁻¹ = (m r⁻¹) s⁻¹
split : (m s r : Mat) → m ⊗ adj (s ⊗ r) ≡ m ⊗ adj r ⊗ adj s
split m s r = ap (λ (x : Mat). m ⊗ x) (adj_product s r) ∙ sym (⊗-assoc m (adj r) (adj s))

pub unit_over : (m r : Mat) → Unit m → Unit r → Unit (m ⊗ adj r)
unit_over m r h k = det_one m (adj r) h (det_adj r ∙ k)

-- (m s⁻¹) s = m
pub back : (m s : Mat) → Unit s → m ⊗ adj s ⊗ s ≡ m
back m s h = ⊗-assoc m (adj s) s ∙ ap (λ (x : Mat). m ⊗ x) (adj-⊗ s h) ∙ ⊗-idr m

-- (l r⁻¹) (r m⁻¹) = l m⁻¹
pub through : (l m r : Mat) → Unit r → (l ⊗ adj r) ⊗ (r ⊗ adj m) ≡ l ⊗ adj m
through l m r h = sym (⊗-assoc (l ⊗ adj r) r (adj m)) ∙ ap (λ (x : Mat). x ⊗ adj m) (back l r h)

-- (m r⁻¹)⁻¹ = r m⁻¹
pub over_adj : (m r : Mat) → adj (m ⊗ adj r) ≡ r ⊗ adj m
over_adj m r = adj_product m (adj r) ∙ ap (λ (x : Mat). x ⊗ adj m) (adj_adj r)

module _ {C : Mat → Type 0} (c : Condition C) where
  pub self : (m : Mat) → Unit m → C (m ⊗ adj m)
  self m h = rw (⊗-adj m h) c.one

  pub flip : (m r : Mat) → C (m ⊗ adj r) → C (r ⊗ adj m)
  flip m r h = rw (over_adj m r) at (c.inverse (m ⊗ adj r) h)

  pub chain : (l r m : Mat) → Unit r → C (l ⊗ adj r) → C (r ⊗ adj m) → C (l ⊗ adj m)
  chain l r m u h k = rw (through l m r u) at (c.product (l ⊗ adj r) (r ⊗ adj m) h k)

-- ---- the numbers below k n as pairs

pair_low : (i j k n : ℕ) → i < k → j < n → i * n + j < k * n
pair_low i j k n h l = omega (arith, mul-le-mul_right n h)

pair_div : (i j n : ℕ) → j < n → (i * n + j) / n ≡ i
pair_div i j n h = mul-add-div_right {m = n} (omega arith) i j ∙ omega (arith, div-eq_of_lt h)

pair_mod : (i j n : ℕ) → j < n → (i * n + j) % n ≡ j
pair_mod i j n h = mul-add-mod_self_right i n j ∙ mod-eq_of_lt h

pair_some : (j k n : ℕ) → j < k * n → 0 < n
pair_some j k zero h = none_below_lem {j = j} (omega arith)
pair_some j k (suc n) h = omega arith

-- ---- the tower step

module _ {D G G' : Mat → Type 0} (d : Condition D) (g : Condition G) (below : (m : Mat) → G m → D m) (inside : (m : Mat) → G' m → G m)
    {n k : ℕ} {rep step : ℕ → Mat} (reps : Transversal D G n rep) (steps : Transversal G G' k step) where
  product_member : (j : ℕ) → j < k * n → 0 < n → D within products n step rep j
  product_member j h l =
      let s = steps.member (j / n) ((div-lt_iff_lt-mul l).1 h) in
      let r = reps.member (j % n) (mod-lt j l) in
      record {
        unit = det_one (step (j / n)) (rep (j % n)) s.unit r.unit;
        meets = d.product (step (j / n)) (rep (j % n)) (below (step (j / n)) s.meets) r.meets;
      }

  product_place : (m : Mat) → D within m → CosetPlace G' (k * n) (products n step rep) m
  product_place m h =
      let p = reps.place m h in
      let x = m ⊗ adj (rep p.at) in
      let q = steps.place x (record { unit = unit_over m (rep p.at) h.unit (reps.member p.at p.low).unit; meets = p.hit }) in
      let some : 0 < n = omega (arith, p.low) in
      record {
        at = q.at * n + p.at;
        low = pair_low q.at p.at k n q.low p.low;
        hit = rw (pair_div q.at p.at n p.low, pair_mod q.at p.at n p.low, split m (step q.at) (rep p.at)) q.hit;
        only = λ j l c.
            let s = step (j / n) in
            let i_low = (div-lt_iff_lt-mul some).1 l in
            let e = rw (split m s (rep (j % n))) at c in
            let member = steps.member (j / n) i_low in
            let up = rw (back (m ⊗ adj (rep (j % n))) s member.unit) at (g.product (m ⊗ adj (rep (j % n)) ⊗ adj s) s (inside _ e) member.meets) in
            let r-is = p.only (j % n) (mod-lt j some) up in
            let i-is = q.only (j / n) i_low (rw r-is at e) in
            sym (div-add-mod' j n) ∙ ap (λ (y : ℕ). y * n + j % n) i-is ∙ ap (λ (y : ℕ). q.at * n + y) r-is;
      }

  pub tower : Transversal D G' (k * n) (products n step rep)
  tower = record { member = λ j h. product_member j h (pair_some j k n h); place = product_place }

-- ---- the length

module _ {D C : Mat → Type 0} (c : Condition C) {n n' : ℕ} {rep rep' : ℕ → Mat} (first : Transversal D C n rep) (other : Transversal D C n' rep') where
  -- the place in the second of a matrix of the first
  over : (j : ℕ) → j < n → CosetPlace C n' rep' (rep j)
  over j h = other.place (rep j) (first.member j h)

  spot : (j : ℕ) → Dec (j < n) → ℕ
  spot j (yes h) = (over j h).at
  spot j (no h) = 0

  spot_low : (j : ℕ) (x : Dec (j < n)) → j < n → spot j x < n'
  unfolding spot
  spot_low j (yes h) l = (over j h).low
  spot_low j (no h) l = absurd (h l)

  -- matrices of the first with one place in the second are in one coset
  spot_one : (j k : ℕ) (x : Dec (j < n)) (y : Dec (k < n)) → j < n → k < n → spot j x ≡ spot k y → j ≡ k
  unfolding spot
  spot_one j k (yes h) (yes l) a b e =
      let p = over j h in
      let q = over k l in
      let m = first.member j h in
      let r = rep' p.at in
      let meet = chain c (rep j) r (rep k) (other.member p.at p.low).unit p.hit (flip c (rep k) r (rw (← e) at q.hit)) in
      let z = first.place (rep j) m in
      z.only j a (self c (rep j) m.unit) ∙ sym (z.only k b meet)
  spot_one j k (yes h) (no l) a b e = absurd (l b)
  spot_one j k (no h) y a b e = absurd (h a)

  not_longer : n ≤ n'
  not_longer = pigeonhole n n' (λ j. spot j (dec_lt j n)) (λ j h. spot_low j (dec_lt j n) h) (λ j k h l. spot_one j k (dec_lt j n) (dec_lt k n) h l)

pub one_length : {D C : Mat → Type 0} (c : Condition C) {n n' : ℕ} {rep rep' : ℕ → Mat} → Transversal D C n rep → Transversal D C n' rep' → n ≡ n'
one_length c a b = le_antisymm (not_longer c a b) (not_longer c b a)

-- ---- indexes

pub index_tower : {D G G' : Mat → Type 0} (d : Condition D) (g : Condition G) (below : (m : Mat) → G m → D m) (inside : (m : Mat) → G' m → G m) {n k : ℕ}
    → Index D G n → Index G G' k → Index D G' (k * n)
index_tower d g below inside {n} i j = record { rep = products n j.rep i.rep; transversal = tower d g below inside i.transversal j.transversal }

pub everything : Condition Everything
everything = record { one = tt; product = λ m n h k. tt; inverse = λ m h. tt; sign = λ m h. tt }

-- ---- two conditions that mean the same

module _ {C D : Mat → Type 0} (same : (m : Mat) → C m ↔ D m) where
  pub condition_as : Condition C → Condition D
  condition_as c = record {
    one = (same 𝟙).0 c.one;
    product = λ m n h k. (same (m ⊗ n)).0 (c.product m n ((same m).1 h) ((same n).1 k));
    inverse = λ m h. (same (adj m)).0 (c.inverse m ((same m).1 h));
    sign = λ m h. (same (neg m)).0 (c.sign m ((same m).1 h));
  }

  pub index_as : {G : Mat → Type 0} {n : ℕ} → Index G C n → Index G D n
  index_as i = record {
    rep = i.rep;
    transversal = record {
      member = i.transversal.member;
      place = λ m h.
          let p = i.transversal.place m h in
          record { at = p.at; low = p.low; hit = (same _).0 p.hit; only = λ j l k. p.only j l ((same _).1 k) };
    };
  }
