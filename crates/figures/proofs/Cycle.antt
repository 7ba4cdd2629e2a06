-- The cycles of a permutation: `width_is`, and that lying in one cycle is an equivalence.
-- Why: the walk from x can't be n + 1 different points, so two of its points agree; a permutation can be walked backwards from
-- there, so x itself comes back.
-- In order: `times`; `steps_to`; `iterates`; the return; the points of a cycle, each once; `cycle_sym` and `cycle_trans`; `onto`.
-- Assumes nothing.
use mathlib.Core.Path.{◌≡◌, refl, sym, ap, ◌∙◌}
use mathlib.Core.Logic.{◌≢◌}
use mathlib.Core.List.{List, [], ◌∷◌, ◌++◌}
use Prim.Native.Nat.{ℕ, zero, suc, ◌+◌, ◌-◌, ◌≤◌, ◌<◌}
use native.Mathlib.Omega.{arith}
use native.Mathlib.Decide.{dec_lt, ℕ_discrete}
use lib.ListN.{length, get_or}
use borrow.Author.Tests.{eq-eqb, ne_eqb}
use Rattle.numbering.specs.Find.{find, ◌∈◌, Once}
use Rattle.numbering.specs.Table.{image_at, Permutes}
use Rattle.figures.specs.Cusps.{times, steps_to, width, iterates, cycle, Width}
use Rattle.numbering.proofs.Find.{none_below_lem, get_d_find, get_d_in, once_by, pigeonhole}

-- ---- k steps
module _ (t : List ℕ) where
  pub times_add : (a b x : ℕ) → times t (a + b) x ≡ times t b (times t a x)
  unfolding times
  times_add zero b x = let e : 0 + b ≡ b = omega arith in rw e
  times_add (suc a) b x = let e : suc a + b ≡ suc (a + b) = omega arith in rw e (times_add a b (image_at t x))

  pub times_last : (k x : ℕ) → times t (suc k) x ≡ image_at t (times t k x)
  unfolding times
  times_last zero x = refl
  times_last (suc k) x = times_last k (image_at t x)

  -- ---- the steps to x
  steps_hit : (x k y : ℕ) → y ≡ x → steps_to x t (suc k) y ≡ 0
  unfolding steps_to
  steps_hit x k y e = rw (steps_to, eq-eqb y x e)

  steps_miss : (x k y : ℕ) → (y ≡ x → ⊥) → steps_to x t (suc k) y ≡ suc (steps_to x t k (image_at t y))
  unfolding steps_to
  steps_miss x k y e = rw (steps_to, ne_eqb y x e)

  steps_end : (x k y : ℕ) → steps_to x t k y < k → times t (steps_to x t k y) y ≡ x
  unfolding steps_to times
  steps_end x zero y h = none_below_lem h
  steps_end x (suc k) y h = elim (ℕ_discrete y x) [
    | yes e ↦ rw (steps_hit x k y e) e
    | no e ↦ let m = steps_miss x k y e in rw m (steps_end x k (image_at t y) (omega arith))
  ]

  steps_before : (x k y j : ℕ) → j < steps_to x t k y → times t j y ≢ x
  unfolding steps_to times
  steps_before x zero y j h = none_below_lem h
  steps_before x (suc k) y zero h = elim (ℕ_discrete y x) [
    | yes e ↦ let m = steps_hit x k y e in let no : ⊥ = omega arith in absurd no
    | no e ↦ e
  ]
  steps_before x (suc k) y (suc j) h = elim (ℕ_discrete y x) [
    | yes e ↦ let m = steps_hit x k y e in let no : ⊥ = omega arith in absurd no
    | no e ↦ let m = steps_miss x k y e in steps_before x k (image_at t y) j (omega arith)
  ]

  -- ---- the points of a walk
  pub run_length_lem : (k x : ℕ) → length (iterates t k x) ≡ k
  unfolding iterates
  run_length_lem zero x = refl
  run_length_lem (suc k) x = ap suc (run_length_lem k (image_at t x))

  pub run_at : (k x j : ℕ) → j < k → get_or (iterates t k x) j 0 ≡ times t j x
  unfolding iterates times
  run_at zero x j h = none_below_lem h
  run_at (suc k) x zero h = refl
  run_at (suc k) x (suc j) h = run_at k (image_at t x) j (omega arith)

  pub run_more : (k x : ℕ) → iterates t (suc k) x ≡ iterates t k x ++ (times t k x ∷ [])
  unfolding iterates times
  run_more zero x = refl
  run_more (suc k) x = ap (λ (l : List ℕ). x ∷ l) (run_more k (image_at t x))

  pub cycle_length : (x : ℕ) → length (cycle t x) ≡ width t x
  cycle_length x = run_length_lem (width t x) x

  pub cycle_at : (x j : ℕ) → j < width t x → get_or (cycle t x) j 0 ≡ times t j x
  cycle_at x j h = run_at (width t x) x j h

-- ---- permutations
-- where x comes from
pub record Preimage (t : List ℕ) (x : ℕ) : Type 0 where
  pub from : ℕ
  pub low : from < length t
  pub image : image_at t from ≡ x

module _ {t : List ℕ} (p : Permutes t) where
  pub times_low : (k x : ℕ) → x < length t → times t k x < length t
  unfolding times
  times_low zero x h = h
  times_low (suc k) x h = times_low k (image_at t x) (p.low x h)

  pub times_one : (k x y : ℕ) → x < length t → y < length t → times t k x ≡ times t k y → x ≡ y
  unfolding times
  times_one zero x y a b e = e
  times_one (suc k) x y a b e = p.one x y a b (times_one k (image_at t x) (image_at t y) (p.low x a) (p.low y b) e)

  module _ {x : ℕ} (h : x < length t) where
    -- two equal points of the walk make a return
    comes_back : (j k : ℕ) → j < k → times t j x ≡ times t k x → times t (k - j) x ≡ x
    comes_back j k l e =
        let d : (k - j) + j ≡ k = omega arith in
        times_one j (times t (k - j) x) x (times_low (k - j) x h) h (sym (times_add t (k - j) j x) ∙ ap (λ (i : ℕ). times t i x) d ∙ sym e)

    -- points of the walk that never came back would be too many
    steps_low : steps_to x t (length t) (image_at t x) < length t
    unfolding times
    steps_low = let n = length t in elim (dec_lt (steps_to x t n (image_at t x)) n) [
      | yes k ↦ k
      | no k ↦
          let never : (j : ℕ) → j < n → times t (suc j) x ≢ x = λ j a. steps_before t x n (image_at t x) j (omega arith) in
          let apart : (j m : ℕ) → j < m → m < suc n → times t j x ≢ times t m x = λ j m a b e.
          let q : suc (m - j - 1) ≡ m - j = omega arith in
          never (m - j - 1) (omega arith) (rw q (comes_back j m a e)) in
          let no : ⊥ = omega (
            arith,
            pigeonhole (suc n) n (λ j. times t j x) (λ j a. times_low j x h) (λ j m a b e.
                elim (dec_lt j m) [
                  | yes l ↦ absurd (apart j m l b e)
                  | no l ↦ elim (dec_lt m j) [ yes g ↦ absurd (apart m j g a (sym e)) | no g ↦ omega arith ]
                ]),
          ) in
          absurd no
    ]

    pub width_le : width t x ≤ length t
    unfolding width
    width_le = steps_low

    pub width_is : Width t x (width t x)
    unfolding width times
    width_is = record {
      some = omega arith;
      back = steps_end t x (length t) (image_at t x) steps_low;
      first = later;
    }
      where
        later : (j : ℕ) → 0 < j → j < suc (steps_to x t (length t) (image_at t x)) → times t j x ≢ x
        later zero a b = none_below_lem a
        later (suc j) a b = steps_before t x (length t) (image_at t x) j (omega arith)

    pub cycle_once : Once (cycle t x)
    cycle_once =
        let e = cycle_length t x in
        let apart : (j m : ℕ) → j < m → m < width t x
        → times t j x ≢ times t m x = λ j m a b d. width_is.first (m - j) (omega arith) (omega arith) (comes_back j m a d) in
        once_by (cycle t x) (λ j m a b d.
        let d' = sym (cycle_at t x j (omega arith)) ∙ d ∙ cycle_at t x m (omega arith) in
        elim (dec_lt j m) [
          | yes l ↦ absurd (apart j m l (omega arith) d')
          | no l ↦ elim (dec_lt m j) [ yes g ↦ absurd (apart m j g (omega arith) (sym d')) | no g ↦ omega arith ]
        ])

    -- a point of the cycle is reached in as many steps as its place says
    pub cycle_reached : {y : ℕ} → y ∈ cycle t x → times t (find (cycle t x) y) x ≡ y
    cycle_reached {y} i = sym (cycle_at t x (find (cycle t x) y) (omega (arith, cycle_length t x))) ∙ get_d_find (cycle t x) y i

    cycle_has : (j : ℕ) → j < width t x → times t j x ∈ cycle t x
    cycle_has j a = rw (cycle_at t x j a) at (get_d_in (cycle t x) j (omega (arith, cycle_length t x)))

    pub cycle_self : x ∈ cycle t x
    unfolding times
    cycle_self = cycle_has 0 width_is.some

    cycle_step : (y : ℕ) → y ∈ cycle t x → image_at t y ∈ cycle t x
    unfolding times
    cycle_step y i =
        let j = find (cycle t x) y in
        let l = cycle_length t x in
        let e = times_last t j x ∙ ap (image_at t) (cycle_reached i) in
        elim (dec_lt (suc j) (width t x)) [
          | yes a ↦ rw e at (cycle_has (suc j) a)
          | no a ↦
              let w : suc j ≡ width t x = omega arith in
              let b = sym e ∙ ap (λ (k : ℕ). times t k x) w ∙ width_is.back in
              rw b cycle_self
        ]

    pub cycle_times : (k y : ℕ) → y ∈ cycle t x → times t k y ∈ cycle t x
    unfolding times
    cycle_times zero y i = i
    cycle_times (suc k) y i = cycle_times k (image_at t y) (cycle_step y i)

    pub cycle_low : {y : ℕ} → y ∈ cycle t x → y < length t
    cycle_low {y} i = rw (cycle_reached i) at (times_low (find (cycle t x) y) x h)

  pub cycle_sym : (x y : ℕ) → x < length t → y ∈ cycle t x → x ∈ cycle t y
  cycle_sym x y h i =
      let j = find (cycle t x) y in
      let l = cycle_length t x in
      let d : j + (width t x - j) ≡ width t x = omega arith in
      let e = ap (times t (width t x - j)) (sym (cycle_reached h i)) ∙ sym (times_add t j (width t x - j) x) ∙ ap (λ (k : ℕ). times t k x) d
      ∙ (width_is h).back in
      let g = cycle_low h i in
      rw e at (cycle_times g (width t x - j) y (cycle_self g))

  pub cycle_trans : (x y z : ℕ) → x < length t → y ∈ cycle t x → z ∈ cycle t y → z ∈ cycle t x
  cycle_trans x y z h i j = rw (cycle_reached (cycle_low h i) j) at (cycle_times h (find (cycle t y) z) y i)

  -- a permutation meets every place: the last step of the cycle of x comes from where x comes from
  pub onto : (x : ℕ) → x < length t → Preimage t x
  onto x h =
      let w = width_is h in
      let k = width t x - 1 in
      let e : suc k ≡ width t x = omega (arith, w.some) in
      record { from = times t k x; low = times_low k x h; image = sym (times_last t k x) ∙ ap (λ (j : ℕ). times t j x) e ∙ w.back }
