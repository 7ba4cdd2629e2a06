-- The place of a matrix among the right cosets of a condition, and words followed there.
--
-- In order: S, R and Q as matrices; the place of a matrix (`place_low`, `place_same`, `same_place`); steps by S, R and Q, and words: `word_is`; S
-- twice and R three times.
-- Why: the place of m g depends on that of m only. So a word followed from the place of the identity ends at the place of its matrix.
-- Assumes nothing.
use mathlib.Core.Path.{◌≡◌, refl, sym, ◌∙◌, ap}
use mathlib.Core.Logic.{inl, inr}
use mathlib.Core.Bool.{Bool}
use mathlib.Core.List.{List, [], ◌∷◌}
use Prim.Native.Nat.{ℕ, ◌<◌}
use Rattle.matrix.specs.Matrix.{Mat, ◌⊗◌, 𝟙, neg, adj, det, mat_s, mat_t, mat_r, mat_q, ◌≈◌}
use Rattle.matrix.specs.Words.{Letter, S, Q, P, letter, value}
use Rattle.matrix.specs.Euclid.{word_of}
use Rattle.matrix.specs.Action as action
use Rattle.matrix.proofs.Matrix.{⊗-assoc, ⊗-idl, ⊗-idr, neg-⊗, ⊗-adj, adj_product, det_𝟙, det_one, det_letter, Q_Q, ≈-left}
use Rattle.matrix.proofs.Existence.{existence}
use Rattle.matrix.proofs.Sign.{det_value}
use Rattle.basics.specs.Count.{first}
use Rattle.right_cosets.specs.Condition.{Unit, Condition, Decides}
use Rattle.right_cosets.specs.Transversal.{Everything, CosetPlace, Transversal}
use Rattle.right_cosets.proofs.First.{first_is}
use Rattle.right_cosets.proofs.Transversal.{self, flip, chain}

-- ---- the cosets by the numbers of a transversal

module _ (meets : Mat → Bool) (n : ℕ) (rep : ℕ → Mat) where
  -- the coset of m: the first j below n for which m rep⁻¹ meets the condition
  abbrev pub place : Mat → ℕ
  place m = first (λ (j : ℕ). meets (m ⊗ adj (rep j))) n

  -- multiplication on the right by S and by R, as maps of these numbers
  abbrev pub by_s : ℕ → ℕ
  by_s x = place (rep x ⊗ mat_s)

  abbrev pub by_r : ℕ → ℕ
  by_r x = place (rep x ⊗ mat_r)

-- Q is S R R S up to sign
abbrev pub by_q : (σ ρ : ℕ → ℕ) → ℕ → ℕ
by_q σ ρ x = σ (ρ (ρ (σ x)))

-- ---- matrices

-- (x g) (y g)⁻¹ = x y⁻¹
pub cancel_right : (x y g : Mat) → Unit g → x ⊗ g ⊗ adj (y ⊗ g) ≡ x ⊗ adj y
cancel_right x y g u =
    ap (λ (z : Mat). x ⊗ g ⊗ z) (adj_product y g) ∙ sym (⊗-assoc (x ⊗ g) (adj g) (adj y))
    ∙ ap (λ (z : Mat). z ⊗ adj y) (⊗-assoc x g (adj g) ∙ ap (λ (z : Mat). x ⊗ z) (⊗-adj g u) ∙ ⊗-idr x)

pub adj_𝟙 : (m : Mat) → m ⊗ adj 𝟙 ≡ m
adj_𝟙 m = ap (λ (x : Mat). x ⊗ adj 𝟙) (sym (⊗-idr m)) ∙ ⊗-assoc m 𝟙 (adj 𝟙) ∙ ap (λ (x : Mat). m ⊗ x) (⊗-adj 𝟙 det_𝟙) ∙ ⊗-idr m

pub det_R : Unit mat_r
unfolding det ◌⊗◌ mat_s mat_t mat_r
det_R = refl

pub Q_is : mat_s ⊗ mat_r ⊗ mat_r ⊗ mat_s ≡ neg mat_q
unfolding ◌⊗◌ neg mat_s mat_t mat_r mat_q
Q_is = refl

S_two : mat_s ⊗ mat_s ≡ neg 𝟙
unfolding ◌⊗◌ neg mat_s 𝟙
S_two = refl

R_three : mat_r ⊗ mat_r ⊗ mat_r ≡ neg 𝟙
unfolding ◌⊗◌ neg mat_s mat_t mat_r 𝟙
R_three = refl

-- ---- what is proved here of the places

-- pl m is the place of m, and σ and ρ are steps by S and R among the n places
pub record Places (C : Mat → Type 0) (n : ℕ) (rep : ℕ → Mat) (pl : Mat → ℕ) (σ ρ : ℕ → ℕ) : Type 0 where
  pub unit_rep : (x : ℕ) → x < n → Unit (rep x)
  pub place_rep : (x : ℕ) → x < n → pl (rep x) ≡ x
  pub place_low : (m : Mat) → Unit m → pl m < n
  pub place_same : (l m : Mat) → Unit l → Unit m → C (l ⊗ adj m) → pl l ≡ pl m
  pub same_place : (l m : Mat) → Unit l → Unit m → pl l ≡ pl m → C (l ⊗ adj m)
  pub σ_is : (m : Mat) → Unit m → σ (pl m) ≡ pl (m ⊗ mat_s)
  pub ρ_is : (m : Mat) → Unit m → ρ (pl m) ≡ pl (m ⊗ mat_r)
  pub word_is : (m : Mat) → Unit m → action.run σ (by_q σ ρ) (pl 𝟙) (word_of m) ≡ pl m
  pub σσ : (x : ℕ) → x < n → σ (σ x) ≡ x
  pub ρρρ : (x : ℕ) → x < n → ρ (ρ (ρ x)) ≡ x

-- ---- the place of a matrix

module _ {C : Mat → Type 0} (c : Condition C) {meets : Mat → Bool} (decides : Decides C meets) {n : ℕ} {rep : ℕ → Mat}
    (t : Transversal Everything C n rep) where
  abbrev pl : Mat → ℕ
  pl = place meets n rep

  abbrev σ : ℕ → ℕ
  σ = by_s meets n rep

  abbrev ρ : ℕ → ℕ
  ρ = by_r meets n rep

  abbrev κ : ℕ → ℕ
  κ = by_q σ ρ

  found : (m : Mat) → Unit m → CosetPlace C n rep m
  found m u = t.place m (record { unit = u; meets = tt })

  found_is : (m : Mat) (u : Unit m) → pl m ≡ (found m u).at
  found_is m u =
      let p = found m u in
      first_is (λ (j : ℕ). meets (m ⊗ adj (rep j))) n p.at p.low ((decides (m ⊗ adj (rep p.at))).1 p.hit)
      (λ i l e. p.only i l ((decides (m ⊗ adj (rep i))).0 e))

  place_low : (m : Mat) → Unit m → pl m < n
  place_low m u = rw (found_is m u) (found m u).low

  place_hit : (m : Mat) → Unit m → C (m ⊗ adj (rep (pl m)))
  place_hit m u = rw (found_is m u) (found m u).hit

  pub place_only : (m : Mat) → Unit m → (j : ℕ) → j < n → C (m ⊗ adj (rep j)) → j ≡ pl m
  place_only m u j l h = rw (found_is m u) ((found m u).only j l h)

  unit_rep : (j : ℕ) → j < n → Unit (rep j)
  unit_rep j h = (t.member j h).unit

  -- one coset is one place
  place_same : (l m : Mat) → Unit l → Unit m → C (l ⊗ adj m) → pl l ≡ pl m
  place_same l m u w h = place_only m w (pl l) (place_low l u) (chain c m l (rep (pl l)) u (flip c l m h) (place_hit l u))

  same_place : (l m : Mat) → Unit l → Unit m → pl l ≡ pl m → C (l ⊗ adj m)
  same_place l m u w e = chain c l (rep (pl m)) m (unit_rep (pl m) (place_low m w)) (rw e at (place_hit l u)) (flip c m (rep (pl m)) (place_hit m w))

  place_rep : (x : ℕ) → x < n → pl (rep x) ≡ x
  place_rep x h = sym (place_only (rep x) (unit_rep x h) x h (self c (rep x) (unit_rep x h)))

  place-≈ : (l m : Mat) → Unit l → Unit m → l ≈ m → pl l ≡ pl m
  place-≈ l m u w (inl e) = ap pl e
  place-≈ l m u w (inr e) = place_same l m u w (rw (e, neg-⊗ m (adj m)) (c.sign (m ⊗ adj m) (self c m w)))

  -- ---- steps and words

  place_more : (m g : Mat) → Unit m → Unit g → pl (rep (pl m) ⊗ g) ≡ pl (m ⊗ g)
  place_more m g u w =
      let r = unit_rep (pl m) (place_low m u) in
      place_same (rep (pl m) ⊗ g) (m ⊗ g) (det_one (rep (pl m)) g r w) (det_one m g u w)
      (rw (cancel_right (rep (pl m)) m g w) (flip c m (rep (pl m)) (place_hit m u)))

  σ_is : (m : Mat) → Unit m → σ (pl m) ≡ pl (m ⊗ mat_s)
  σ_is m u = place_more m mat_s u (det_letter S)

  ρ_is : (m : Mat) → Unit m → ρ (pl m) ≡ pl (m ⊗ mat_r)
  ρ_is m u = place_more m mat_r u det_R

  κ_is : (m : Mat) → Unit m → κ (pl m) ≡ pl (m ⊗ mat_q)
  κ_is m u =
      let m1 = m ⊗ mat_s in
      let u1 = det_one m mat_s u (det_letter S) in
      let m2 = m1 ⊗ mat_r in
      let u2 = det_one m1 mat_r u1 det_R in
      let m3 = m2 ⊗ mat_r in
      let u3 = det_one m2 mat_r u2 det_R in
      let m4 = m3 ⊗ mat_s in
      let e : m4 ≡ m ⊗ (mat_s ⊗ mat_r ⊗ mat_r ⊗ mat_s) = simp ⊗-assoc in
      cc (σ_is m u, ρ_is m1 u1, ρ_is m2 u2, σ_is m3 u3)
      ∙ place-≈ m4 (m ⊗ mat_q) (det_one m3 mat_s u3 (det_letter S)) (det_one m mat_q u (det_letter Q)) (rw e (≈-left m (inr Q_is)))

  step_is : (y : Letter) (m : Mat) → Unit m → action.step σ κ y (pl m) ≡ pl (m ⊗ letter y)
  step_is S m u = σ_is m u
  step_is Q m u = κ_is m u
  step_is P m u = ap κ (κ_is m u) ∙ κ_is (m ⊗ mat_q) (det_one m mat_q u (det_letter Q)) ∙ ap pl (⊗-assoc m mat_q mat_q ∙ ap (λ (x : Mat). m ⊗ x) Q_Q)

  run_is : (l : List Letter) (m : Mat) → Unit m → action.run σ κ (pl m) l ≡ pl (m ⊗ value l)
  run_is [] m u = ap pl (sym (⊗-idr m))
  run_is (y ∷ l) m u = ap (λ (z : ℕ). action.run σ κ z l) (step_is y m u) ∙ run_is l (m ⊗ letter y) (det_one m (letter y) u (det_letter y))
      ∙ ap pl (⊗-assoc m (letter y) (value l))

  word_is : (m : Mat) → Unit m → action.run σ κ (pl 𝟙) (word_of m) ≡ pl m
  word_is m u =
      let e = (existence m u).1 in
      run_is (word_of m) 𝟙 det_𝟙 ∙ ap pl (⊗-idl (value (word_of m))) ∙ place-≈ (value (word_of m)) m (det_value (word_of m)) u e

  -- ---- S twice and R three times

  σσ : (x : ℕ) → x < n → σ (σ x) ≡ x
  σσ x h =
      let u = unit_rep x h in
      let e : rep x ⊗ mat_s ⊗ mat_s ≈ rep x ⊗ 𝟙 = rw (⊗-assoc (rep x) mat_s mat_s) (≈-left (rep x) (inr S_two)) in
      σ_is (rep x ⊗ mat_s) (det_one (rep x) mat_s u (det_letter S))
      ∙ place-≈ _ _ (det_one _ mat_s (det_one (rep x) mat_s u (det_letter S)) (det_letter S)) (det_one (rep x) 𝟙 u det_𝟙) e ∙ ap pl (⊗-idr (rep x))
      ∙ place_rep x h

  ρρρ : (x : ℕ) → x < n → ρ (ρ (ρ x)) ≡ x
  ρρρ x h =
      let m = rep x in
      let u = unit_rep x h in
      let u1 = det_one m mat_r u det_R in
      let u2 = det_one (m ⊗ mat_r) mat_r u1 det_R in
      let a : m ⊗ mat_r ⊗ mat_r ⊗ mat_r ≡ m ⊗ (mat_r ⊗ mat_r ⊗ mat_r) = simp ⊗-assoc in
      let e : m ⊗ mat_r ⊗ mat_r ⊗ mat_r ≈ m ⊗ 𝟙 = rw a (≈-left m (inr R_three)) in
      ap ρ (ρ_is (m ⊗ mat_r) u1) ∙ ρ_is (m ⊗ mat_r ⊗ mat_r) u2
      ∙ place-≈ _ _ (det_one (m ⊗ mat_r ⊗ mat_r) mat_r u2 det_R) (det_one m 𝟙 u det_𝟙) e ∙ ap pl (⊗-idr m) ∙ place_rep x h

  pub places : Places C n rep (place meets n rep) (by_s meets n rep) (by_r meets n rep)
  places = record {
    unit_rep = unit_rep;
    place_rep = place_rep;
    place_low = place_low;
    place_same = place_same;
    same_place = same_place;
    σ_is = σ_is;
    ρ_is = ρ_is;
    word_is = word_is;
    σσ = σσ;
    ρρρ = ρρρ;
  }
