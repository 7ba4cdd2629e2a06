-- A set that an involution σ and a map κ of order three act on, with a frame for each element and with letters that the steps write:
-- THE GROUP THAT THE LETTERS GENERATE IS THE STABILISER OF ANY START, and two matrices lead to the same element exactly where a word takes
-- one to the other. Nothing about polygons is used.
--
-- In order: elements joined by their frames (`Near`, an equivalence); the interface (`Framed`); the step equation along any word (`walk`);
-- where a matrix leads from a start (`lead`), which words on the left don't change (`lead_word`); the theorems `stabiliser`,
-- `found`, `cosets`.
--
-- Why: x·(F(x)⁻¹ F(y)) = y for all real x, y. So with lead(m) = start·(F₀⁻¹ m) each real x is lead(F(x)); where a step from x to y writes the
-- generator g, g F(y) = F(x) l leads to y, as F(y) does, and then g F(y) k and F(y) k lead to the same element, for every k.
-- Assumes nothing.
use mathlib.Core.Path.{◌≡◌, sym, ◌∙◌, ap}
use mathlib.Core.Logic.{inl, ◌↔◌}
use mathlib.Core.List.{List, [], ◌∷◌, ◌++◌}
use Prim.Native.Nat.{ℕ, zero, suc, ◌≤◌, ◌<◌}
use native.Mathlib.Omega.{arith}
use lib.ListN.{length, get_or, length-append}
use lib.IntN.{ℤ, pos, negsuc}
use Rattle.matrix.specs.Matrix.{Mat, ◌⊗◌, 𝟙, adj, det, ◌≈◌}
use Rattle.matrix.specs.Words.{Letter, letter, value}
use Rattle.matrix.specs.Euclid as Euclid
use Rattle.matrix.specs.Action.{step, run, at, Involution, OrderThree}
use Rattle.matrix.proofs.Matrix.{⊗-assoc, ⊗-idl, ⊗-idr, det_𝟙, det_adj, det_letter, det_one, ⊗-adj, adj-⊗, undo, redo, ≈-sym, ◌∙≈◌, ≈-left, ≈-right}
use Rattle.matrix.proofs.Existence.{existence}
use Rattle.matrix.proofs.Action.{at_word, at-≈, at-⊗, at_𝟙}
use Rattle.pairing.specs.Subgroup.{IsLetter, IsWord, letter_of, value_of, InH}
use Rattle.polygon.specs.Walk.{wrote}
use Rattle.polygon.specs.Theorem.{SameCoset}
use Rattle.polygon.proofs.OneCoset.{to_coset}

-- ---- words in the generators put together

pub is_word-++ : (n : ℕ) (u w : List ℤ) → IsWord n u → IsWord n w → IsWord n (u ++ w)
is_word-++ n [] w a b = b
is_word-++ n (z ∷ u) w a b = (a.0, is_word-++ n u w a.1 b)

pub word_of-++ : (gens : List Mat) (u w : List ℤ) → value_of gens (u ++ w) ≡ value_of gens u ⊗ value_of gens w
word_of-++ gens [] w = sym (⊗-idl (value_of gens w))
word_of-++ gens (z ∷ u) w = ap (λ (m : Mat). letter_of gens z ⊗ m) (word_of-++ gens u w) ∙ sym (⊗-assoc (letter_of gens z) (value_of gens u) (value_of gens w))

-- ---- elements that their frames join, wherever σ and κ act

module _ {X : Type 0} (σ κ : X → X) (F : X → Mat) where
  abbrev pub Near : X → X → Type 0
  Near x y = at σ κ x (adj (F x) ⊗ F y) ≡ y

module _ {X : Type 0} (σ κ : X → X) (F : X → Mat) (σσ : Involution σ) (κκκ : OrderThree κ) where
  -- F(x)⁻¹ F(y) followed by F(y)⁻¹ m is F(x)⁻¹ m
  pub at_chain : (x y : X) (m : Mat) → det (F x) ≡ pos 1 → det (F y) ≡ pos 1 → det m ≡ pos 1 → Near σ κ F x y → at σ κ x (adj (F x) ⊗ m)
      ≡ at σ κ y (adj (F y) ⊗ m)
  at_chain x y m dx dy dm h =
      let ax = det_adj (F x) ∙ dx in
      let ay = det_adj (F y) ∙ dy in
      let e : adj (F x) ⊗ m ≡ adj (F x) ⊗ F y ⊗ (adj (F y) ⊗ m) =
      sym (⊗-assoc (adj (F x)) (F y) (adj (F y) ⊗ m) ∙ ap (λ (n : Mat). adj (F x) ⊗ n) (undo (F y) m dy)) in
      ap (at σ κ x) e
      ∙ at-⊗ σ κ σσ κκκ x (adj (F x) ⊗ F y) (adj (F y) ⊗ m) (det_one (adj (F x)) (F y) ax dy) (det_one (adj (F y)) m ay dm)
      ∙ ap (λ (z : X). at σ κ z (adj (F y) ⊗ m)) h

  pub near_refl : (x : X) → det (F x) ≡ pos 1 → Near σ κ F x x
  near_refl x d = ap (at σ κ x) (adj-⊗ (F x) d) ∙ at_𝟙 σ κ σσ κκκ x

  pub near_trans : (x y z : X) → det (F x) ≡ pos 1 → det (F y) ≡ pos 1 → det (F z) ≡ pos 1 → Near σ κ F x y → Near σ κ F y z → Near σ κ F x z
  near_trans x y z dx dy dz h k = at_chain x y (F z) dx dy dz h ∙ k

  pub near_sym : (x y : X) → det (F x) ≡ pos 1 → det (F y) ≡ pos 1 → Near σ κ F x y → Near σ κ F y x
  near_sym x y dx dy h = sym (at_chain x y (F x) dx dy dx h) ∙ near_refl x dx

  at_letter : (l : Letter) (x : X) → at σ κ x (letter l) ≡ step σ κ l x
  at_letter l x = ap (at σ κ x) (sym (⊗-idr (letter l))) ∙ at_word σ κ σσ κκκ x (l ∷ [])

  -- a step that takes one frame to the other joins its ends
  pub near_step : (l : Letter) (x y : X) → det (F x) ≡ pos 1 → step σ κ l x ≡ y → F x ⊗ letter l ≈ F y → Near σ κ F x y
  near_step l x y d e h = at-≈ σ κ σσ κκκ x (adj (F x) ⊗ F y) (letter l) (≈-left (adj (F x)) (≈-sym h) ∙≈ inl (redo (F x) (letter l) d)) ∙ at_letter l x ∙ e

-- ---- the interface

module _ {X : Type 0} (σ κ : X → X) (F : X → Mat) (Real : X → Type 0) (gens : List Mat) (w : Letter → X → List ℤ) where
  -- the generator j + 1 is written at some step
  pub record Made (j : ℕ) : Type 0 where
    pub from : X
    pub by : Letter
    pub counts : Real from
    pub writes : w by from ≡ pos (suc j) ∷ []

  pub record Framed : Type 0 where
    pub involution : Involution σ
    pub order_three : OrderThree κ
    pub closed : (l : Letter) (x : X) → Real x → Real (step σ κ l x)
    pub unit : (x : X) → Real x → det (F x) ≡ pos 1
    pub units : (j : ℕ) → det (get_or gens j 𝟙) ≡ pos 1
    pub letters : (l : Letter) (x : X) → Real x → IsWord (length gens) (w l x)
    pub short : (l : Letter) (x : X) → length (w l x) ≤ 1
    pub promise : (l : Letter) (x : X) → Real x → F x ⊗ letter l ≈ value_of gens (w l x) ⊗ F (step σ κ l x)
    pub made : (j : ℕ) → j < length gens → Made j
    pub root : X
    pub root_real : Real root
    pub near : (x : X) → Real x → Near σ κ F root x

module _ {X : Type 0} (σ κ : X → X) (F : X → Mat) (Real : X → Type 0) (gens : List Mat) (w : Letter → X → List ℤ) (A : Framed σ κ F Real gens w) where
  abbrev σσ : Involution σ
  σσ = A.involution

  abbrev κκκ : OrderThree κ
  κκκ = A.order_three

  -- ---- along any word

  pub wrote_word : (u : List Letter) (x : X) → Real x → IsWord (length gens) (wrote σ κ w x u)
  wrote_word [] x r = tt
  wrote_word (l ∷ u) x r = is_word-++ (length gens) (w l x) (wrote σ κ w (step σ κ l x) u) (A.letters l x r) (wrote_word u (step σ κ l x) (A.closed l x r))

  pub wrote_short : (u : List Letter) (x : X) → length (wrote σ κ w x u) ≤ length u
  wrote_short [] x = omega arith
  wrote_short (l ∷ u) x = omega (arith, length-append (w l x) (wrote σ κ w (step σ κ l x) u), A.short l x, wrote_short u (step σ κ l x))

  pub run_real : (u : List Letter) (x : X) → Real x → Real (run σ κ x u)
  run_real [] x r = r
  run_real (l ∷ u) x r = run_real u (step σ κ l x) (A.closed l x r)

  pub walk : (u : List Letter) (x : X) → Real x → F x ⊗ value u ≈ value_of gens (wrote σ κ w x u) ⊗ F (run σ κ x u)
  walk [] x r = inl (⊗-idr (F x) ∙ sym (⊗-idl (F x)))
  walk (l ∷ u) x r =
      let y = step σ κ l x in
      let p = value_of gens (w l x) in
      let q = value_of gens (wrote σ κ w y u) in
      let z = F (run σ κ y u) in
      inl (sym (⊗-assoc (F x) (letter l) (value u)))
      ∙≈ ≈-right (value u) (A.promise l x r)
      ∙≈ inl (⊗-assoc p (F y) (value u))
      ∙≈ ≈-left p (walk u y (A.closed l x r))
      ∙≈ inl (sym (⊗-assoc p q z) ∙ ap (λ (m : Mat). m ⊗ z) (sym (word_of-++ gens (w l x) (wrote σ κ w y u))))

  -- ---- the values of words have determinant 1

  det_letter_of : (z : ℤ) → det (letter_of gens z) ≡ pos 1
  det_letter_of (pos zero) = det_𝟙
  det_letter_of (pos (suc j)) = A.units j
  det_letter_of (negsuc j) = det_adj (get_or gens j 𝟙) ∙ A.units j

  pub det_word_of : (u : List ℤ) → det (value_of gens u) ≡ pos 1
  det_word_of [] = det_𝟙
  det_word_of (z ∷ u) = det_one (letter_of gens z) (value_of gens u) (det_letter_of z) (det_word_of u)

  -- ---- where a matrix leads

  module _ (start : X) (real : Real start) where
    abbrev F₀ : Mat
    F₀ = F start

    d₀ : det F₀ ≡ pos 1
    d₀ = A.unit start real

    abbrev pub lead : Mat → X
    lead m = at σ κ start (adj F₀ ⊗ m)

    lead-≈ : (m n : Mat) → m ≈ n → lead m ≡ lead n
    lead-≈ m n e = at-≈ σ κ σσ κκκ start (adj F₀ ⊗ m) (adj F₀ ⊗ n) (≈-left (adj F₀) e)

    lead-⊗ : (m n : Mat) → det m ≡ pos 1 → det n ≡ pos 1 → lead (m ⊗ n) ≡ at σ κ (lead m) n
    lead-⊗ m n dm dn = ap (at σ κ start) (sym (⊗-assoc (adj F₀) m n)) ∙ at-⊗ σ κ σσ κκκ start (adj F₀ ⊗ m) n (det_one (adj F₀) m (det_adj F₀ ∙ d₀) dm) dn

    -- where m and n lead to the same element, so do m k and n k
    lead_same : (m n k : Mat) → det m ≡ pos 1 → det n ≡ pos 1 → det k ≡ pos 1 → lead m ≡ lead n → lead (m ⊗ k) ≡ lead (n ⊗ k)
    lead_same m n k dm dn dk e = lead-⊗ m k dm dk ∙ ap (λ (x : X). at σ κ x k) e ∙ sym (lead-⊗ n k dn dk)

    -- each real element is joined with the start
    pub home : (x : X) → Real x → lead (F x) ≡ x
    home x r =
        let o = A.root in
        let d = A.unit o A.root_real in
        near_trans σ κ F σσ κκκ start o x d₀ d (A.unit x r) (near_sym σ κ F σσ κκκ o start d d₀ (A.near start real)) (A.near x r)

    -- a generator on the left changes nothing
    lead_generator : (j : ℕ) (m : Mat) → j < length gens → det m ≡ pos 1 → lead (get_or gens j 𝟙 ⊗ m) ≡ lead m
    lead_generator j m h d =
        let k = A.made j h in
        let x = k.from in
        let l = k.by in
        let y = step σ κ l x in
        let g = get_or gens j 𝟙 in
        let f = F y in
        let df = A.unit y (A.closed l x k.counts) in
        let dg = A.units j in
        let dk = det_one (adj f) m (det_adj f ∙ df) d in
        let moved : F x ⊗ letter l ≈ g ⊗ f = A.promise l x k.counts ∙≈ inl
        (ap (λ (u : List ℤ). value_of gens u ⊗ f) k.writes ∙ ap (λ (n : Mat). n ⊗ f) (⊗-idr g)) in
        let there : lead (g ⊗ f) ≡ lead f =
        lead-≈ (g ⊗ f) (F x ⊗ letter l) (≈-sym moved)
        ∙ lead-⊗ (F x) (letter l) (A.unit x k.counts) (det_letter l)
        ∙ ap (λ (z : X). at σ κ z (letter l)) (home x k.counts)
        ∙ at_letter σ κ F σσ κκκ l x
        ∙ sym (home y (A.closed l x k.counts)) in
        ap lead (ap (λ (n : Mat). g ⊗ n) (sym (undo f m df)) ∙ sym (⊗-assoc g f (adj f ⊗ m)))
        ∙ lead_same (g ⊗ f) f (adj f ⊗ m) (det_one g f dg df) df dk there
        ∙ ap lead (undo f m df)

    lead_letter : (z : ℤ) (m : Mat) → IsLetter (length gens) z → det m ≡ pos 1 → lead (letter_of gens z ⊗ m) ≡ lead m
    lead_letter (pos zero) m h d = ap lead (⊗-idl m)
    lead_letter (pos (suc j)) m h d = lead_generator j m (omega arith) d
    lead_letter (negsuc j) m h d =
        let g = get_or gens j 𝟙 in
        let n = adj g ⊗ m in
        sym (lead_generator j n (omega arith) (det_one (adj g) m (det_adj g ∙ A.units j) d)) ∙ ap lead (undo g m (A.units j))

    pub lead_word : (u : List ℤ) (m : Mat) → IsWord (length gens) u → det m ≡ pos 1 → lead (value_of gens u ⊗ m) ≡ lead m
    lead_word [] m h d = ap lead (⊗-idl m)
    lead_word (z ∷ u) m h d =
        let n = value_of gens u ⊗ m in
        ap lead (⊗-assoc (letter_of gens z) (value_of gens u) m) ∙ lead_letter z n h.0 (det_one (value_of gens u) m (det_word_of u) d) ∙ lead_word u m h.1 d

    -- ---- the theorems

    -- the matrix that the walk from the start follows
    abbrev pub moved : Mat → Mat
    moved m = adj F₀ ⊗ (m ⊗ F₀)

    det_moved : (m : Mat) → det m ≡ pos 1 → det (moved m) ≡ pos 1
    det_moved m d = det_one (adj F₀) (m ⊗ F₀) (det_adj F₀ ∙ d₀) (det_one m F₀ d d₀)

    -- a walk that comes home writes a word for m
    pub found : (m : Mat) → det m ≡ pos 1 → at σ κ start (moved m) ≡ start → m ≈ value_of gens (wrote σ κ w start (Euclid.word_of (moved m)))
    unfolding at
    found m d h =
        let u = Euclid.word_of (moved m) in
        let g = value_of gens (wrote σ κ w start u) in
        let e : m ⊗ F₀ ≈ g ⊗ F₀ =
        inl (sym (undo F₀ (m ⊗ F₀) d₀))
        ∙≈ ≈-left F₀ (≈-sym (existence (moved m) (det_moved m d)).1)
        ∙≈ walk u start real
        ∙≈ inl (ap (λ (x : X). g ⊗ F x) h) in
        drop m ∙≈ ≈-right (adj F₀) e ∙≈ ≈-sym (drop g)
      where
        drop : (n : Mat) → n ≈ n ⊗ F₀ ⊗ adj F₀
        drop n = inl (sym (⊗-assoc n F₀ (adj F₀) ∙ ap (λ (k : Mat). n ⊗ k) (⊗-adj F₀ d₀) ∙ ⊗-idr n))

    pub stabiliser : (m : Mat) → det m ≡ pos 1 → InH gens m ↔ (at σ κ start (moved m) ≡ start)
    stabiliser m d = (
      (λ h.
          lead-≈ (m ⊗ F₀) (value_of gens h.word ⊗ F₀) (≈-right F₀ h.is)
          ∙ lead_word h.word F₀ h.letters d₀
          ∙ home start real),
      (λ h. record { word = wrote σ κ w start (Euclid.word_of (moved m)); letters = wrote_word (Euclid.word_of (moved m)) start real; is = found m d h }),
    )

    pub cosets : (m n : Mat) → det m ≡ pos 1 → det n ≡ pos 1 → (lead m ≡ lead n) ↔ SameCoset gens m n
    cosets m n dm dn = (
      (λ e.
          let x = n ⊗ adj m in
          let dx = det_one n (adj m) dn (det_adj m ∙ dm) in
          let k = adj m ⊗ F₀ in
          let dk = det_one (adj m) F₀ (det_adj m ∙ dm) d₀ in
          let i = (stabiliser x dx).1 (ap lead (⊗-assoc n (adj m) F₀) ∙ lead_same n m k dn dm dk (sym e) ∙ ap lead (undo m F₀ dm) ∙ home start real) in
          to_coset gens m n dm i),
      (λ c. sym (lead_word c.word m c.letters dm) ∙ lead-≈ (value_of gens c.word ⊗ m) n c.is),
    )
