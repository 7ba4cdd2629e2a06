-- THE TABLES OF THE PAIRS are those of the right cosets of both conditions: `intersections`.
-- In order: a pair and its number; one step of both; a word followed in both (`run_is`); the tables of the pairs that are reached; the theorem.
-- Why: a matrix leads to the pair of the points that it leads to, so two matrices lead to one pair exactly where they are in one coset of each.
-- Assumes nothing.
use mathlib.Core.Path.{◌≡◌, refl, sym, ◌∙◌, ap}
use mathlib.Core.Logic.{◌↔◌}
use mathlib.Core.List.{List, [], ◌∷◌}
use Prim.Native.Nat.{ℕ, ◌+◌, ◌*◌, ◌/◌, ◌%◌, ◌<◌}
use native.Mathlib.Omega.{arith}
use native.Mathlib.Nat.{mod-lt, mod-eq_of_lt, div-eq_of_lt, div-add-mod', div-lt_iff_lt-mul, mul-add-div_right, mul-add-mod_self_right, mul-le-mul_right}
use lib.ListN.{length, get_or}
use Rattle.matrix.specs.Matrix.{Mat, ◌⊗◌, 𝟙, adj, mat_s, mat_r}
use Rattle.matrix.specs.Words.{Letter, S, Q, P}
use Rattle.matrix.specs.Euclid.{word_of}
use Rattle.matrix.specs.Action as action
use Rattle.matrix.proofs.Matrix.{det_𝟙, det_one, det_letter}
use Rattle.numbering.specs.Find.{find, ◌∈◌}
use Rattle.numbering.specs.Order.{order_of, up_to, Maps, Reached, here, by_σ, by_ρ, Numbering}
use Rattle.numbering.specs.Table.{image_at, Injective, Renaming}
use Rattle.numbering.proofs.Find.{get_d_find, get_d_in}
use Rattle.numbering.proofs.Order.{numbering}
use Rattle.numbering.proofs.Table.{renaming, undone, permutes}
use Rattle.numbering.proofs.Numbered.{numbered}
use Rattle.right_cosets.specs.Leads.{by_table_q, leads, IsReached}
use Rattle.right_cosets.specs.Condition.{Unit}
use Rattle.right_cosets.specs.Cosets.{CosetsOf}
use Rattle.right_cosets.proofs.Place.{det_R}
use Rattle.right_cosets.proofs.Tabled.{S_low, R_low, one_home, some_points}
use Rattle.containment.specs.Pairs.{both, pair_by_s, pair_by_r, pairs_reached, pairs_s, pairs_r, pairs_t, ◌and◌, Intersection, Intersections}

-- ---- a pair and its number

pub first_of : (k x y : ℕ) → y < k → (x * k + y) / k ≡ x
first_of k x y h = mul-add-div_right {m = k} (omega arith) x y ∙ omega (arith, div-eq_of_lt h)

pub second_of : (k x y : ℕ) → y < k → (x * k + y) % k ≡ y
second_of k x y h = mul-add-mod_self_right x k y ∙ mod-eq_of_lt h

pub pair_low : (n k x y : ℕ) → x < n → y < k → x * k + y < n * k
pair_low n k x y h i = omega (arith, mul-le-mul_right k h)

pub first_low : (n k c : ℕ) → 0 < k → c < n * k → c / k < n
first_low n k c h i = (div-lt_iff_lt-mul {k = k} {x = c} {y = n} h).1 i

pub zero_pair_is : (k : ℕ) → 0 * k + 0 ≡ 0
zero_pair_is k = omega arith

-- ---- one step of both

pub both_is : (k : ℕ) (f g : ℕ → ℕ) (x y : ℕ) → y < k → both k f g (x * k + y) ≡ f x * k + g y
unfolding both
both_is k f g x y h = rw (first_of k x y h, second_of k x y h)

both_at : (k : ℕ) (f g : ℕ → ℕ) (c : ℕ) → both k f g c ≡ f (c / k) * k + g (c % k)
unfolding both
both_at k f g c = refl

-- a step that stays inside both stays inside the pairs
both_low : (n k : ℕ) (f g : ℕ → ℕ) → 0 < k → ((x : ℕ) → x < n → f x < n) → ((y : ℕ) → y < k → g y < k) → (c : ℕ) → c < n * k → both k f g c < n * k
both_low n k f g some a b c h = rw (both_at k f g c) (pair_low n k (f (c / k)) (g (c % k)) (a (c / k) (first_low n k c some h)) (b (c % k) (mod-lt c some)))

-- ---- the pairs

module _ {C D : Mat → Type 0} {n k : ℕ} {s r s' r' : List ℕ} (a : CosetsOf C n s r) (b : CosetsOf D k s' r') where
  abbrev σ : ℕ → ℕ
  σ = pair_by_s n k s r s' r'

  abbrev ρ : ℕ → ℕ
  ρ = pair_by_r n k s r s' r'

  some : 0 < k
  some = some_points b

  pub maps : Maps σ ρ 0 (n * k)
  maps = record {
    start_low = omega (arith, pair_low n k 0 0 (some_points a) some);
    σ_low = both_low n k (image_at s) (image_at s') some (S_low a) (S_low b);
    ρ_low = both_low n k (image_at r) (image_at r') some (R_low a) (R_low b);
  }

  S_is : (x y : ℕ) → y < k → σ (x * k + y) ≡ image_at s x * k + image_at s' y
  S_is = both_is k (image_at s) (image_at s')

  R_is : (x y : ℕ) → y < k → ρ (x * k + y) ≡ image_at r x * k + image_at r' y
  R_is = both_is k (image_at r) (image_at r')

  S_twice : (c : ℕ) → c < n * k → σ (σ c) ≡ c
  S_twice c h =
      let x = c / k in
      let y = c % k in
      let l = mod-lt c some in
      ap σ (both_at k (image_at s) (image_at s') c) ∙ S_is (image_at s x) (image_at s' y) (S_low b y l)
      ∙ ap (λ (z : ℕ). z * k + image_at s' (image_at s' y)) (a.twice x (first_low n k c some h)) ∙ ap (λ (z : ℕ). x * k + z) (b.twice y l) ∙ div-add-mod' c k

  R_thrice : (c : ℕ) → c < n * k → ρ (ρ (ρ c)) ≡ c
  R_thrice c h =
      let x = c / k in
      let y = c % k in
      let l = mod-lt c some in
      let l' = R_low b y l in
      ap (λ (z : ℕ). ρ (ρ z)) (both_at k (image_at r) (image_at r') c) ∙ ap ρ (R_is (image_at r x) (image_at r' y) l')
      ∙ R_is (image_at r (image_at r x)) (image_at r' (image_at r' y)) (R_low b (image_at r' y) l')
      ∙ ap (λ (z : ℕ). z * k + image_at r' (image_at r' (image_at r' y))) (a.thrice x (first_low n k c some h)) ∙ ap (λ (z : ℕ). x * k + z) (b.thrice y l)
      ∙ div-add-mod' c k

  abbrev order : List ℕ
  order = pairs_reached n k s r s' r'

  abbrev p_s : List ℕ
  p_s = pairs_s n k s r s' r'

  abbrev p_r : List ℕ
  p_r = pairs_r n k s r s' r'

  abbrev p_t : List ℕ
  p_t = pairs_t n k s r s' r'

  pub numbers : Numbering σ ρ 0 (n * k) order
  unfolding pairs_reached
  numbers = numbering σ ρ 0 (n * k) maps

  pub names : Renaming σ ρ order p_s p_r p_t
  unfolding pairs_reached pairs_s pairs_r pairs_t
  names = renaming σ ρ 0 (n * k) maps

  abbrev number : ℕ → ℕ
  number c = find order c

  zero_is : number 0 ≡ 0
  zero_is = ap number (sym numbers.first) ∙ numbers.once.place 0 numbers.some

  zero_in : 0 ∈ order
  zero_in = numbers.all 0 here

  -- ---- a word followed in the tables of the pairs

  -- the pair of x and y is reached
  In : ℕ → ℕ → Type 0
  In x y = (y < k) × (x * k + y ∈ order)

  in_S : (x y : ℕ) → In x y → In (image_at s x) (image_at s' y)
  unfolding In
  in_S x y h = (S_low b y h.0, rw (S_is x y h.0) at (numbers.σ_closed (x * k + y) h.1))

  in_R : (x y : ℕ) → In x y → In (image_at r x) (image_at r' y)
  unfolding In
  in_R x y h = (R_low b y h.0, rw (R_is x y h.0) at (numbers.ρ_closed (x * k + y) h.1))

  in_Q : (x y : ℕ) → In x y → In (by_table_q s r x) (by_table_q s' r' y)
  in_Q x y h =
      in_S (image_at r (image_at r (image_at s x))) (image_at r' (image_at r' (image_at s' y)))
      (in_R (image_at r (image_at s x)) (image_at r' (image_at s' y)) (in_R (image_at s x) (image_at s' y) (in_S x y h)))

  abbrev number_of : ℕ → ℕ → ℕ
  number_of x y = number (x * k + y)

  step_S : (x y : ℕ) → In x y → image_at p_s (number_of x y) ≡ number_of (image_at s x) (image_at s' y)
  unfolding In
  step_S x y h = names.S.step (x * k + y) h.1 ∙ ap number (S_is x y h.0)

  step_R : (x y : ℕ) → In x y → image_at p_r (number_of x y) ≡ number_of (image_at r x) (image_at r' y)
  unfolding In
  step_R x y h = names.R.step (x * k + y) h.1 ∙ ap number (R_is x y h.0)

  step_Q : (x y : ℕ) → In x y → by_table_q p_s p_r (number_of x y) ≡ number_of (by_table_q s r x) (by_table_q s' r' y)
  step_Q x y h =
      let i = in_S x y h in
      let j = in_R (image_at s x) (image_at s' y) i in
      let l = in_R (image_at r (image_at s x)) (image_at r' (image_at s' y)) j in
      ap (λ (z : ℕ). image_at p_s (image_at p_r (image_at p_r z))) (step_S x y h) ∙ ap (λ (z : ℕ). image_at p_s (image_at p_r z)) (step_R (image_at s x) (image_at s' y) i)
      ∙ ap (image_at p_s) (step_R (image_at r (image_at s x)) (image_at r' (image_at s' y)) j)
      ∙ step_S (image_at r (image_at r (image_at s x))) (image_at r' (image_at r' (image_at s' y))) l

  abbrev run : ℕ → List Letter → ℕ
  run = action.run (image_at p_s) (by_table_q p_s p_r)

  -- it leads to the number of the pair of where it leads
  record Runs (l : List Letter) (x y : ℕ) : Type 0 where
    in_pairs : In (action.run (image_at s) (by_table_q s r) x l) (action.run (image_at s') (by_table_q s' r') y l)
    is : run (number_of x y) l ≡ number_of (action.run (image_at s) (by_table_q s r) x l) (action.run (image_at s') (by_table_q s' r') y l)

  run_is : (l : List Letter) (x y : ℕ) → In x y → Runs l x y
  run_is [] x y h = record { in_pairs = h; is = refl }
  run_is (S ∷ l) x y h =
      let e = run_is l (image_at s x) (image_at s' y) (in_S x y h) in
      record { in_pairs = e.in_pairs; is = ap (λ (z : ℕ). run z l) (step_S x y h) ∙ e.is }
  run_is (Q ∷ l) x y h =
      let e = run_is l (by_table_q s r x) (by_table_q s' r' y) (in_Q x y h) in
      record { in_pairs = e.in_pairs; is = ap (λ (z : ℕ). run z l) (step_Q x y h) ∙ e.is }
  run_is (P ∷ l) x y h =
      let i = in_Q x y h in
      let e = run_is l (by_table_q s r (by_table_q s r x)) (by_table_q s' r' (by_table_q s' r' y)) (in_Q (by_table_q s r x) (by_table_q s' r' y) i) in
      record {
        in_pairs = e.in_pairs;
        is = ap (λ (z : ℕ). run z l) (ap (by_table_q p_s p_r) (step_Q x y h) ∙ step_Q (by_table_q s r x) (by_table_q s' r' y) i) ∙ e.is;
      }

  start_in : In 0 0
  unfolding In
  start_in = (some, rw (zero_pair_is k) zero_in)

  -- ---- matrices

  abbrev first : Mat → ℕ
  first m = leads s r m

  abbrev second : Mat → ℕ
  second m = leads s' r' m

  leads_in : (m : Mat) → In (first m) (second m)
  unfolding action.at
  leads_in m = (run_is (word_of m) 0 0 start_in).in_pairs

  leads_is : (m : Mat) → leads p_s p_r m ≡ number_of (first m) (second m)
  unfolding action.at
  leads_is m = ap (λ (z : ℕ). run z (word_of m)) (sym (ap number (zero_pair_is k) ∙ zero_is)) ∙ (run_is (word_of m) 0 0 start_in).is

  second_low : (m : Mat) → second m < k
  unfolding In
  second_low m = (leads_in m).0

  pub pair_in : (m : Mat) → first m * k + second m ∈ order
  unfolding In
  pair_in m = (leads_in m).1

  pair_of : (m : Mat) → get_or order (leads p_s p_r m) 0 ≡ first m * k + second m
  pair_of m = ap (λ (j : ℕ). get_or order j 0) (leads_is m) ∙ get_d_find order (first m * k + second m) (pair_in m)

  -- one pair is one point of each
  parts : (l m : Mat) → leads p_s p_r l ≡ leads p_s p_r m → (first l ≡ first m) × (second l ≡ second m)
  parts l m e =
      let q = sym (pair_of l) ∙ ap (λ (j : ℕ). get_or order j 0) e ∙ pair_of m in (
        sym (first_of k (first l) (second l) (second_low l)) ∙ ap (λ (c : ℕ). c / k) q ∙ first_of k (first m) (second m) (second_low m),
        sym (second_of k (first l) (second l) (second_low l)) ∙ ap (λ (c : ℕ). c % k) q ∙ second_of k (first m) (second m) (second_low m),
      )

  whole : (l m : Mat) → first l ≡ first m → second l ≡ second m → leads p_s p_r l ≡ leads p_s p_r m
  whole l m e f = leads_is l ∙ ap (λ (x : ℕ). number_of x (second l)) e ∙ ap (λ (y : ℕ). number_of (first m) y) f ∙ sym (leads_is m)

  one_pair_lem : (l m : Mat) → Unit l → Unit m → (leads p_s p_r l ≡ leads p_s p_r m) ↔ (C and D) (l ⊗ adj m)
  one_pair_lem l m u v =
      let f = a.cosets l m u v in
      let g = b.cosets l m u v in
      (λ e. let p = parts l m e in (f.0 p.0, g.0 p.1), λ h. whole l m (f.1 h.0) (g.1 h.1))

  zero_pair : (m : Mat) → (leads p_s p_r m ≡ 0) ↔ ((first m ≡ 0) × (second m ≡ 0))
  zero_pair m = (
    λ e.
        let q : first m * k + second m ≡ 0 * k + 0 = sym (pair_of m) ∙ ap (λ (j : ℕ). get_or order j 0) e ∙ numbers.first ∙ sym (zero_pair_is k) in (
          sym (first_of k (first m) (second m) (second_low m)) ∙ ap (λ (c : ℕ). c / k) q ∙ first_of k 0 0 some,
          sym (second_of k (first m) (second m) (second_low m)) ∙ ap (λ (c : ℕ). c % k) q ∙ second_of k 0 0 some,
        ),
    λ h. leads_is m ∙ ap (λ (x : ℕ). number_of x (second m)) h.0 ∙ ap (λ (y : ℕ). number_of 0 y) h.1 ∙ ap number (zero_pair_is k) ∙ zero_is,
  )

  home : (m : Mat) → Unit m → (leads p_s p_r m ≡ 0) ↔ (C and D) m
  home m u =
      let z = zero_pair m in
      let f = a.fixes m u in
      let g = b.fixes m u in
      (λ e. let p = z.0 e in (f.0 p.0, g.0 p.1), λ h. z.1 (f.1 h.0, g.1 h.1))

  by_S : (m : Mat) → Unit m → leads p_s p_r (m ⊗ mat_s) ≡ image_at p_s (leads p_s p_r m)
  by_S m u =
      leads_is (m ⊗ mat_s) ∙ ap (λ (x : ℕ). number_of x (second (m ⊗ mat_s))) (a.by_S m u) ∙ ap (λ (y : ℕ). number_of (image_at s (first m)) y) (b.by_S m u)
      ∙ sym (step_S (first m) (second m) (leads_in m)) ∙ ap (image_at p_s) (sym (leads_is m))

  by_R : (m : Mat) → Unit m → leads p_s p_r (m ⊗ mat_r) ≡ image_at p_r (leads p_s p_r m)
  by_R m u =
      leads_is (m ⊗ mat_r) ∙ ap (λ (x : ℕ). number_of x (second (m ⊗ mat_r))) (a.by_R m u) ∙ ap (λ (y : ℕ). number_of (image_at r (first m)) y) (b.by_R m u)
      ∙ sym (step_R (first m) (second m) (leads_in m)) ∙ ap (image_at p_r) (sym (leads_is m))

  -- some matrix leads to each pair that is reached
  pub record LedTo (c : ℕ) : Type 0 where
    pub matrix : Mat
    pub unit : Unit matrix
    pub is : leads s r matrix * k + leads s' r' matrix ≡ c

  -- both leads of a product
  more_S : (m : Mat) → Unit m → first (m ⊗ mat_s) * k + second (m ⊗ mat_s) ≡ σ (first m * k + second m)
  more_S m u =
      ap (λ (x : ℕ). x * k + second (m ⊗ mat_s)) (a.by_S m u) ∙ ap (λ (y : ℕ). image_at s (first m) * k + y) (b.by_S m u)
      ∙ sym (S_is (first m) (second m) (second_low m))

  more_R : (m : Mat) → Unit m → first (m ⊗ mat_r) * k + second (m ⊗ mat_r) ≡ ρ (first m * k + second m)
  more_R m u =
      ap (λ (x : ℕ). x * k + second (m ⊗ mat_r)) (a.by_R m u) ∙ ap (λ (y : ℕ). image_at r (first m) * k + y) (b.by_R m u)
      ∙ sym (R_is (first m) (second m) (second_low m))

  led : (c : ℕ) → Reached σ ρ 0 c → LedTo c
  led _ here = record { matrix = 𝟙; unit = det_𝟙; is = ap (λ (x : ℕ). x * k + second 𝟙) (one_home a) ∙ ap (λ (y : ℕ). 0 * k + y) (one_home b) ∙ zero_pair_is k }
  led _ (by_σ {x} h) = let e = led x h in record {
    matrix = e.matrix ⊗ mat_s;
    unit = det_one e.matrix mat_s e.unit (det_letter S);
    is = more_S e.matrix e.unit ∙ ap σ e.is;
  }
  led _ (by_ρ {x} h) = let e = led x h in record {
    matrix = e.matrix ⊗ mat_r;
    unit = det_one e.matrix mat_r e.unit det_R;
    is = more_R e.matrix e.unit ∙ ap ρ e.is;
  }

  -- ---- the theorem

  listed_low : (j : ℕ) → j < length order → get_or order j 0 < n * k
  listed_low j h = numbers.low (get_or order j 0) (get_d_in order j h)

  place : (i j : ℕ) → i < length order → j < length order → get_or order i 0 ≡ get_or order j 0 → i ≡ j
  place i j h l e = sym (numbers.once.place i h) ∙ ap number e ∙ numbers.once.place j l

  table_twice : (j : ℕ) → j < length order → image_at p_s (image_at p_s j) ≡ j
  table_twice j h =
      let l = names.S.low j h in
      place (image_at p_s (image_at p_s j)) j (names.S.low (image_at p_s j) l) h
      (names.S.back (image_at p_s j) l ∙ ap σ (names.S.back j h) ∙ S_twice (get_or order j 0) (listed_low j h))

  table_thrice : (j : ℕ) → j < length order → image_at p_r (image_at p_r (image_at p_r j)) ≡ j
  table_thrice j h =
      let l = names.R.low j h in
      let l' = names.R.low (image_at p_r j) l in
      place (image_at p_r (image_at p_r (image_at p_r j))) j (names.R.low (image_at p_r (image_at p_r j)) l') h
      (names.R.back (image_at p_r (image_at p_r j)) l' ∙ ap ρ (names.R.back (image_at p_r j) l ∙ ap ρ (names.R.back j h))
      ∙ R_thrice (get_or order j 0) (listed_low j h))

  injective_S : Injective order σ
  injective_S = undone order σ σ (λ c h. S_twice c (numbers.low c h))

  injective_R : Injective order ρ
  injective_R = undone order ρ (λ c. ρ (ρ c)) (λ c h. R_thrice c (numbers.low c h))

  pub pair_led : (c : ℕ) → c ∈ order → LedTo c
  pair_led c h = led c (numbers.only c h)

  all_led : (j : ℕ) → j < length order → IsReached p_s p_r j
  all_led j h =
      let e = pair_led (get_or order j 0) (get_d_in order j h) in
      record { matrix = e.matrix; unit = e.unit; is = leads_is e.matrix ∙ ap number e.is ∙ numbers.once.place j h }

  in_order_is : order_of (image_at p_s) (image_at p_r) 0 (length order) ≡ up_to (length order)
  unfolding pairs_reached pairs_s pairs_r
  in_order_is = numbered σ ρ 0 (n * k) maps

  pub intersection : Intersection C D n k s r s' r'
  intersection = record {
    cosets = record {
      size_S = names.S.long;
      size_R = names.R.long;
      permutes_S = permutes order σ p_s numbers.once names.S injective_S;
      permutes_R = permutes order ρ p_r numbers.once names.R injective_R;
      twice = table_twice;
      thrice = table_thrice;
      low = λ m u. rw (leads_is m) (pair_in m);
      by_S = by_S;
      by_R = by_R;
      fixes = home;
      cosets = one_pair_lem;
      reached = all_led;
      numbered = in_order_is;
    };
    T_is = names.T_is;
    pair = λ m u. pair_of m;
  }

pub intersections : Intersections
intersections C D n k s r s' r' a b = intersection a b
