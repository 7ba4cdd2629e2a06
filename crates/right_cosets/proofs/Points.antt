-- THE THEOREM on the numbered right cosets of a condition: `places_cosets`, for any points that are places of the matrices, with any maps that
-- are steps by S and R among them; and `cosets_are`, where the condition is decided and the points are the numbers of a transversal.
--
-- In order: the maps, and that every point is reached; words in the tables; the theorem; the condition that is decided.
-- Not here: the place of a matrix, and words followed among the places (proofs/Place.antt).
-- Assumes nothing.
use mathlib.Core.Path.{◌≡◌, refl, sym, ◌∙◌, ap}
use mathlib.Core.Logic.{◌↔◌}
use mathlib.Core.Bool.{Bool}
use mathlib.Core.List.{List, [], ◌∷◌}
use Prim.Native.Nat.{ℕ, ◌<◌}
use native.Mathlib.Omega.{arith}
use native.Mathlib.Nat.{le_antisymm}
use lib.ListN.{length, get_or}
use Rattle.matrix.specs.Matrix.{Mat, ◌⊗◌, 𝟙, adj, mat_s, mat_r}
use Rattle.matrix.specs.Words.{Letter, S, Q, P}
use Rattle.matrix.specs.Euclid.{word_of}
use Rattle.matrix.specs.Action as action
use Rattle.matrix.proofs.Matrix.{det_𝟙, det_one, det_letter}
use Rattle.numbering.specs.Find.{find, ◌∈◌}
use Rattle.numbering.specs.Order.{order_of, up_to, Maps, Reached, here, by_σ, by_ρ, Numbering}
use Rattle.numbering.specs.Table.{image_at, renamed, Natural, Injective}
use Rattle.numbering.proofs.Find.{get_d_find, get_d_in, once_below_all}
use Rattle.numbering.proofs.Order.{numbering}
use Rattle.numbering.proofs.Table.{undone, permutes, renaming}
use Rattle.numbering.proofs.Numbered.{numbered}
use Rattle.right_cosets.specs.Condition.{Unit, Condition, Decides}
use Rattle.right_cosets.specs.Transversal.{Everything, Transversal}
use Rattle.right_cosets.specs.Leads.{by_table_q, leads, IsReached}
use Rattle.right_cosets.specs.Cosets.{CosetsOf}
use Rattle.right_cosets.proofs.Place.{place, by_s, by_r, by_q, adj_𝟙, det_R, Places, places}

module _ {C : Mat → Type 0} {n : ℕ} {rep : ℕ → Mat} {pl : Mat → ℕ} {σ ρ : ℕ → ℕ} (all : Places C n rep pl σ ρ) where
  open all use {unit_rep, place_rep, place_low, place_same, same_place, σ_is, ρ_is, word_is, σσ, ρρρ}

  abbrev κ : ℕ → ℕ
  κ = by_q σ ρ

  -- ---- the maps; every point is reached

  maps : Maps σ ρ (pl 𝟙) n
  maps = record {
    start_low = place_low 𝟙 det_𝟙;
    σ_low = λ x h.
        let u = unit_rep x h in
        rw (ap σ (sym (place_rep x h)) ∙ σ_is (rep x) u) (place_low (rep x ⊗ mat_s) (det_one (rep x) mat_s u (det_letter S)));
    ρ_low = λ x h.
        let u = unit_rep x h in
        rw (ap ρ (sym (place_rep x h)) ∙ ρ_is (rep x) u) (place_low (rep x ⊗ mat_r) (det_one (rep x) mat_r u det_R));
  }

  word_reached : (l : List Letter) (x : ℕ) → Reached σ ρ (pl 𝟙) x → Reached σ ρ (pl 𝟙) (action.run σ κ x l)
  word_reached [] x r = r
  word_reached (S ∷ l) x r = word_reached l (σ x) (by_σ r)
  word_reached (Q ∷ l) x r = word_reached l (κ x) (by_σ (by_ρ (by_ρ (by_σ r))))
  word_reached (P ∷ l) x r = word_reached l (κ (κ x)) (by_σ (by_ρ (by_ρ (by_σ (by_σ (by_ρ (by_ρ (by_σ r))))))))

  abbrev list : List ℕ
  list = order_of σ ρ (pl 𝟙) n

  numbers : Numbering σ ρ (pl 𝟙) n list
  numbers = numbering σ ρ (pl 𝟙) n maps

  listed : (x : ℕ) → x < n → x ∈ list
  listed x h = numbers.all x (rw (word_is (rep x) (unit_rep x h) ∙ place_rep x h) at (word_reached (word_of (rep x)) (pl 𝟙) here))

  size_is : length list ≡ n
  size_is = le_antisymm numbers.few (once_below_all list n listed)

  -- ---- words in the tables

  abbrev s : List ℕ
  s = renamed list σ

  abbrev r : List ℕ
  r = renamed list ρ

  abbrev number : ℕ → ℕ
  number x = find list x

  natural_S : Natural list σ s
  natural_S = (renaming σ ρ (pl 𝟙) n maps).S

  natural_R : Natural list ρ r
  natural_R = (renaming σ ρ (pl 𝟙) n maps).R

  q_step : (x : ℕ) → x < n → by_table_q s r (number x) ≡ number (κ x)
  q_step x h =
      let a = maps.σ_low x h in
      let b = maps.ρ_low (σ x) a in
      let d = maps.ρ_low (ρ (σ x)) b in
      cc (
        natural_S.step x (listed x h),
        natural_R.step (σ x) (listed (σ x) a),
        natural_R.step (ρ (σ x)) (listed (ρ (σ x)) b),
        natural_S.step (ρ (ρ (σ x))) (listed (ρ (ρ (σ x))) d),
      )

  κ_low : (x : ℕ) → x < n → κ x < n
  κ_low x h = maps.σ_low _ (maps.ρ_low _ (maps.ρ_low _ (maps.σ_low x h)))

  step_low : (y : Letter) (x : ℕ) → x < n → action.step σ κ y x < n
  step_low S x h = maps.σ_low x h
  step_low Q x h = κ_low x h
  step_low P x h = κ_low (κ x) (κ_low x h)

  step_number : (y : Letter) (x : ℕ) → x < n → action.step (image_at s) (by_table_q s r) y (number x) ≡ number (action.step σ κ y x)
  step_number S x h = natural_S.step x (listed x h)
  step_number Q x h = q_step x h
  step_number P x h = ap (by_table_q s r) (q_step x h) ∙ q_step (κ x) (κ_low x h)

  run_number : (l : List Letter) (x : ℕ) → x < n → action.run (image_at s) (by_table_q s r) (number x) l ≡ number (action.run σ κ x l)
  run_number [] x h = refl
  run_number (y ∷ l) x h = ap (λ (z : ℕ). action.run (image_at s) (by_table_q s r) z l) (step_number y x h) ∙ run_number l (action.step σ κ y x) (step_low y x h)

  zero_is : number (pl 𝟙) ≡ 0
  zero_is = ap number (sym numbers.first) ∙ numbers.once.place 0 numbers.some

  leads_is : (m : Mat) → Unit m → leads s r m ≡ number (pl m)
  unfolding action.at
  leads_is m u =
      ap (λ (z : ℕ). action.run (image_at s) (by_table_q s r) z (word_of m)) (sym zero_is)
      ∙ run_number (word_of m) (pl 𝟙) (place_low 𝟙 det_𝟙) ∙ ap number (word_is m u)

  -- points with one number are one point
  number_one : (x y : ℕ) → x < n → y < n → number x ≡ number y → x ≡ y
  number_one x y h k e = sym (get_d_find list x (listed x h)) ∙ ap (λ (j : ℕ). get_or list j 0) e ∙ get_d_find list y (listed y k)

  -- ---- the theorem

  same_coset : (l m : Mat) → Unit l → Unit m → (leads s r l ≡ leads s r m) ↔ C (l ⊗ adj m)
  same_coset l m u w = (
    (λ e. same_place l m u w (number_one (pl l) (pl m) (place_low l u) (place_low m w) (sym (leads_is l u) ∙ e ∙ leads_is m w))),
    (λ h. leads_is l u ∙ ap number (place_same l m u w h) ∙ sym (leads_is m w)),
  )

  leads_one : leads s r 𝟙 ≡ 0
  leads_one = leads_is 𝟙 det_𝟙 ∙ zero_is

  fixing : (m : Mat) → Unit m → (leads s r m ≡ 0) ↔ C m
  fixing m u = let e = same_coset m 𝟙 u det_𝟙 in (
    (λ z. rw (adj_𝟙 m) at (e.0 (z ∙ sym leads_one))),
    (λ h. e.1 (rw (adj_𝟙 m) h) ∙ leads_one),
  )

  injective_S : Injective list σ
  injective_S = undone list σ σ (λ x h. σσ x (numbers.low x h))

  injective_R : Injective list ρ
  injective_R = undone list ρ (λ x. ρ (ρ x)) (λ x h. ρρρ x (numbers.low x h))

  entry_low : (j : ℕ) → j < n → get_or list j 0 < n
  entry_low j h = numbers.low (get_or list j 0) (get_d_in list j (omega (arith, size_is)))

  number_entry : (j : ℕ) → j < n → number (get_or list j 0) ≡ j
  number_entry j h = numbers.once.place j (omega (arith, size_is))

  twice_is : (j : ℕ) → j < n → image_at s (image_at s j) ≡ j
  twice_is j h =
      let x = get_or list j 0 in
      let l = entry_low j h in
      rw (number_entry j h) at (ap (image_at s) (natural_S.step x (listed x l)) ∙ natural_S.step (σ x) (listed (σ x) (maps.σ_low x l)) ∙ ap number (σσ x l))

  thrice_is : (j : ℕ) → j < n → image_at r (image_at r (image_at r j)) ≡ j
  thrice_is j h =
      let x = get_or list j 0 in
      let l = entry_low j h in
      let k = maps.ρ_low x l in
      rw (number_entry j h) at (
      ap (λ (z : ℕ). image_at r (image_at r z)) (natural_R.step x (listed x l)) ∙ ap (image_at r) (natural_R.step (ρ x) (listed (ρ x) k))
      ∙ natural_R.step (ρ (ρ x)) (listed (ρ (ρ x)) (maps.ρ_low (ρ x) k)) ∙ ap number (ρρρ x l))

  step_S : (m : Mat) → Unit m → leads s r (m ⊗ mat_s) ≡ image_at s (leads s r m)
  step_S m u =
      leads_is (m ⊗ mat_s) (det_one m mat_s u (det_letter S)) ∙ ap number (sym (σ_is m u)) ∙ sym (natural_S.step (pl m) (listed (pl m) (place_low m u)))
      ∙ ap (image_at s) (sym (leads_is m u))

  step_R : (m : Mat) → Unit m → leads s r (m ⊗ mat_r) ≡ image_at r (leads s r m)
  step_R m u =
      leads_is (m ⊗ mat_r) (det_one m mat_r u det_R) ∙ ap number (sym (ρ_is m u)) ∙ sym (natural_R.step (pl m) (listed (pl m) (place_low m u)))
      ∙ ap (image_at r) (sym (leads_is m u))

  all_led : (j : ℕ) → j < n → IsReached s r j
  all_led j h =
      let x = get_or list j 0 in
      let u = unit_rep x (entry_low j h) in
      record { matrix = rep x; unit = u; is = leads_is (rep x) u ∙ ap number (place_rep x (entry_low j h)) ∙ number_entry j h }

  in_order_is : order_of (image_at s) (image_at r) 0 n ≡ up_to n
  in_order_is = rw size_is at (numbered σ ρ (pl 𝟙) n maps)

  pub places_cosets : CosetsOf C n (renamed (order_of σ ρ (pl 𝟙) n) σ) (renamed (order_of σ ρ (pl 𝟙) n) ρ)
  places_cosets = record {
    size_S = natural_S.long ∙ size_is;
    size_R = natural_R.long ∙ size_is;
    permutes_S = permutes list σ s numbers.once natural_S injective_S;
    permutes_R = permutes list ρ r numbers.once natural_R injective_R;
    twice = twice_is;
    thrice = thrice_is;
    low = λ m u. rw (leads_is m u) (omega (arith, listed (pl m) (place_low m u), size_is));
    by_S = step_S;
    by_R = step_R;
    fixes = fixing;
    cosets = same_coset;
    reached = all_led;
    numbered = in_order_is;
  }

-- ---- the cosets of a condition that is decided, by number, and the tables

module _ (meets : Mat → Bool) (n : ℕ) (rep : ℕ → Mat) where
  abbrev pub order : List ℕ
  order = order_of (by_s meets n rep) (by_r meets n rep) (place meets n rep 𝟙) n

  unfoldable pub table_s : List ℕ
  table_s = renamed order (by_s meets n rep)

  unfoldable pub table_r : List ℕ
  table_r = renamed order (by_r meets n rep)

module _ {C : Mat → Type 0} (c : Condition C) {meets : Mat → Bool} (decides : Decides C meets) {n : ℕ} {rep : ℕ → Mat}
    (t : Transversal Everything C n rep) where
  pub cosets_are : CosetsOf C n (table_s meets n rep) (table_r meets n rep)
  unfolding table_s table_r
  cosets_are = places_cosets (places c decides t)
