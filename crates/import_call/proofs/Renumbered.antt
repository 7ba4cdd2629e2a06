-- The symbol's own coset tables are the given permutations, renumbered by the listing's rule.
-- Why: the matrices that fix point 0 are H, so the given points are the places of the matrices among the right cosets of H, and S and R are steps
-- among them (`given`). Numbered by the rule they are tables of the right cosets of H; so are the symbol's own; and there are no others.
-- In order: the points as places (`given`); the tables (`renumbered_S`, `renumbered_R`).
-- Assumes nothing.
use mathlib.Core.Path.{◌≡◌, sym, ap, ◌∙◌}
use mathlib.Core.Logic.{◌↔◌}
use mathlib.Core.List.{List, [], ◌∷◌}
use Prim.Native.Nat.{ℕ, ◌<◌}
use native.Mathlib.Decide.{dec_lt}
use lib.IntN.{ℤ, pos}
use Rattle.matrix.specs.Matrix.{Mat, ◌⊗◌, 𝟙, adj, det, mat_s, mat_p, mat_r}
use Rattle.matrix.specs.Words.{Letter, S, Q, P, value}
use Rattle.matrix.specs.Euclid as euclid
use Rattle.matrix.specs.Action as action
use Rattle.matrix.specs.Action.{Involution, OrderThree}
use Rattle.matrix.specs.Theorems.{Acts}
use Rattle.matrix.proofs.Sign.{det_value}
use Rattle.matrix.proofs.Matrix.{⊗-assoc, ⊗-idr, ⊗-adj, adj-⊗, det_one, det_adj, det_𝟙, R_is, det_letter}
use Rattle.matrix.proofs.Action.{acts}
use Rattle.pairing.specs.Subgroup.{InH}
use Rattle.pairing.specs.Generator.{generators}
use Rattle.numbering.specs.Order.{order_of, Maps, Reached, here, by_σ, by_ρ}
use Rattle.numbering.specs.Table.{renamed}
use Rattle.coset.specs.Tables.{index_of}
use Rattle.right_cosets.specs.Cosets.{CosetsOf}
use Rattle.right_cosets.proofs.Place.{det_R, Places}
use Rattle.right_cosets.proofs.Points.{places_cosets}
use Rattle.right_cosets.proofs.Unique.{cosets_index, cosets_count, cosets_unique}
use Rattle.containment.proofs.Generated.{generated}

-- ---- the given permutations

R_word : mat_r ≡ value (S ∷ P ∷ S ∷ [])
R_word = R_is ∙ ap (λ (m : Mat). mat_s ⊗ (mat_p ⊗ m)) (sym (⊗-idr mat_s))

module _ (σ ρ : ℕ → ℕ) where
  abbrev κ : ℕ → ℕ
  κ x = σ (ρ (ρ (σ x)))

  abbrev point : Mat → ℕ
  point m = action.at σ κ 0 m

  -- a matrix that leads to x
  record To (x : ℕ) : Type 0 where
    matrix : Mat
    unit : det matrix ≡ pos 1
    is : point matrix ≡ x

  module _ (n : ℕ) (maps : Maps σ ρ 0 n) (twice : Involution σ) (thrice : OrderThree ρ) where
    κ_three : OrderThree κ
    κ_three x =
        let y = ρ (ρ (σ x)) in
        let z = ρ (ρ y) in
        cc (twice y, twice z, thrice (σ x), thrice (ρ (σ x)), thrice y, thrice (ρ (ρ (ρ (σ x)))), thrice (ρ y), twice x, thrice z)

    a : Acts σ κ
    a = acts σ κ twice κ_three

    -- points stay points
    κ_low : (x : ℕ) → x < n → κ x < n
    κ_low x h = maps.σ_low _ (maps.ρ_low _ (maps.ρ_low _ (maps.σ_low x h)))

    run_low : (l : List Letter) (x : ℕ) → x < n → action.run σ κ x l < n
    run_low [] x h = h
    run_low (S ∷ l) x h = run_low l (σ x) (maps.σ_low x h)
    run_low (Q ∷ l) x h = run_low l (κ x) (κ_low x h)
    run_low (P ∷ l) x h = run_low l (κ (κ x)) (κ_low (κ x) (κ_low x h))

    point_low : (m : Mat) → point m < n
    unfolding action.at
    point_low m = run_low (euclid.word_of m) 0 maps.start_low

    word_is : (m : Mat) → action.run σ κ (point 𝟙) (euclid.word_of m) ≡ point m
    unfolding action.at
    word_is m = ap (λ (x : ℕ). action.run σ κ x (euclid.word_of m)) (a.identity 0)

    point_S : (m : Mat) → det m ≡ pos 1 → point (m ⊗ mat_s) ≡ σ (point m)
    point_S m d = a.product 0 m mat_s d (det_letter S) ∙ a.by_S (point m)

    by_R : (x : ℕ) → action.run σ κ x (S ∷ P ∷ S ∷ []) ≡ ρ x
    by_R x = cc (twice x, twice (ρ (ρ x)), twice (ρ (ρ (ρ (ρ x)))), thrice x, thrice (ρ x))

    point_R : (m : Mat) → det m ≡ pos 1 → point (m ⊗ mat_r) ≡ ρ (point m)
    point_R m d =
        ap (λ (x : Mat). point (m ⊗ x)) R_word ∙ a.product 0 m (value (S ∷ P ∷ S ∷ [])) d (det_value (S ∷ P ∷ S ∷ []))
        ∙ a.words (point m) (S ∷ P ∷ S ∷ []) ∙ by_R (point m)

    -- matrices lead to one point exactly where k m⁻¹ fixes point 0
    fixing : (m k : Mat) → det m ≡ pos 1 → det k ≡ pos 1 → (point (k ⊗ adj m) ≡ 0) ↔ (point k ≡ point m)
    fixing m k dm dk =
        let da = det_adj m ∙ dm in
        let away : k ⊗ adj m ⊗ m ≡ k = ⊗-assoc k (adj m) m ∙ ap (λ (x : Mat). k ⊗ x) (adj-⊗ m dm) ∙ ⊗-idr k in
        let forth = a.product 0 (k ⊗ adj m) m (det_one k (adj m) dk da) dm in
        let back = a.product 0 k (adj m) dk da in
        let home = a.product 0 m (adj m) dm da in (
          λ e. ap point (sym away) ∙ forth ∙ ap (λ (x : ℕ). action.at σ κ x m) e,
          λ e. back ∙ ap (λ (x : ℕ). action.at σ κ x (adj m)) e ∙ sym home ∙ ap point (⊗-adj m dm) ∙ a.identity 0,
        )

    to : {x : ℕ} → Reached σ ρ 0 x → To x
    to here = record { matrix = 𝟙; unit = det_𝟙; is = a.identity 0 }
    to (by_σ h) =
        let l = to h in
        record { matrix = l.matrix ⊗ mat_s; unit = det_one l.matrix mat_s l.unit (det_letter S); is = point_S l.matrix l.unit ∙ ap σ l.is }
    to (by_ρ h) =
        let l = to h in
        record { matrix = l.matrix ⊗ mat_r; unit = det_one l.matrix mat_r l.unit det_R; is = point_R l.matrix l.unit ∙ ap ρ l.is }

    module _ (all : (x : ℕ) → x < n → Reached σ ρ 0 x) (v : ℕ) (t : List ℤ) (s r : List ℕ)
        (own : CosetsOf (InH (generators v t)) (index_of v t) s r) (group : (m : Mat) → det m ≡ pos 1 → InH (generators v t) m ↔ (point m ≡ 0)) where
      -- a matrix for each point
      chosen : (x : ℕ) → Dec (x < n) → Mat
      chosen x (yes h) = (to (all x h)).matrix
      chosen x (no h) = 𝟙

      chosen_is : (x : ℕ) (d : Dec (x < n)) → x < n → (det (chosen x d) ≡ pos 1) × (point (chosen x d) ≡ x)
      unfolding chosen
      chosen_is x (yes h) l = ((to (all x h)).unit, (to (all x h)).is)
      chosen_is x (no h) l = absurd (h l)

      given : Places (InH (generators v t)) n (λ (x : ℕ). chosen x (dec_lt x n)) point σ ρ
      given = record {
        unit_rep = λ x h. (chosen_is x (dec_lt x n) h).0;
        place_rep = λ x h. (chosen_is x (dec_lt x n) h).1;
        place_low = λ m d. point_low m;
        place_same = λ l m dl dm h. (fixing m l dm dl).0 ((group (l ⊗ adj m) (det_one l (adj m) dl (det_adj m ∙ dm))).0 h);
        same_place = λ l m dl dm e. (group (l ⊗ adj m) (det_one l (adj m) dl (det_adj m ∙ dm))).1 ((fixing m l dm dl).1 e);
        σ_is = λ m d. sym (point_S m d);
        ρ_is = λ m d. sym (point_R m d);
        word_is = λ m d. word_is m;
        σσ = λ x h. twice x;
        ρρρ = λ x h. thrice x;
      }

      -- ---- the tables

      abbrev order : List ℕ
      order = order_of σ ρ 0 n

      renumbered : CosetsOf (InH (generators v t)) n (renamed order σ) (renamed order ρ)
      renumbered = rw (a.identity 0) at (places_cosets given)

      pub index_is_lem : n ≡ index_of v t
      index_is_lem = cosets_count (generated (generators v t)) renumbered (cosets_index own)

      tables : (s ≡ renamed order σ) × (r ≡ renamed order ρ)
      tables = cosets_unique (generated (generators v t)) (rw (sym index_is_lem) at own) renumbered

      pub renumbered_S : s ≡ renamed order σ
      renumbered_S = tables.0

      pub renumbered_R : r ≡ renamed order ρ
      renumbered_R = tables.1
