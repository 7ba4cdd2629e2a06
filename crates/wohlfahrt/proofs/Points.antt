-- Tables of right cosets as an action of the matrices on all numbers: what is no point of the tables stays where it is.
--
--   by_t s r j         where T leads from j: S first and then R
--   table_t s r        the table of T
--   width_of s r j      the width of the cusp of j
--
-- In order: T by the tables; the tables' points and the other numbers; matrices lead as in the tables; powers of T by the table of T;
-- the widths, and the level.
-- Assumes nothing.
use mathlib.Core.Path.{◌≡◌, refl, sym, ◌∙◌, ap}
use mathlib.Core.Logic.{inl, inr}
use mathlib.Core.List.{List, [], ◌∷◌}
use Prim.Native.Nat.{ℕ, zero, suc, ◌+◌, ◌≤◌, ◌<◌, ◌∣◌}
use native.Mathlib.Omega.{arith}
use native.Mathlib.Decide.{dec_lt}
use lib.ListN.{length, get_or, length-map}
use lib.IntN.{ℤ, pos}
use Rattle.matrix.specs.Matrix.{Mat, ◌⊗◌, 𝟙, mat_s, mat_p, mat_t}
use Rattle.matrix.specs.Words.{Letter, S, Q, P, value}
use Rattle.matrix.specs.Euclid.{word_of}
use Rattle.matrix.specs.Action as action
use Rattle.matrix.specs.Action.{Involution, OrderThree}
use Rattle.matrix.specs.Theorems.{Acts}
use Rattle.matrix.proofs.Matrix.{⊗-idr, det_𝟙, T_is}
use Rattle.matrix.proofs.Action.{acts}
use Rattle.numbering.specs.Table.{image_at, ◌then_table◌, Permutes}
use Rattle.numbering.proofs.Table.{then_length, then_at}
use Rattle.figures.specs.Cusps.{times, width, cusps, widths}
use Rattle.figures.specs.LevelOf.{LeastMultiple}
use Rattle.figures.proofs.LevelOf.{lcm_of_is}
use Rattle.figures.proofs.Cusps.{cusps_are}
use Rattle.right_cosets.specs.Leads.{by_table_q, leads}
use Rattle.right_cosets.specs.Cosets.{CosetsOf}
use Rattle.cusp_record.specs.Record.{cusp_of, cusp_width}
use Rattle.cusp_record.proofs.Record.{round, k_low, then_permutes}
use Rattle.permutations.specs.Pair.{image}
use Rattle.congruence.proofs.Factor.{dvd_mult}
use Rattle.wohlfahrt.specs.IsCongruence.{ContainsGamma, IsCongruence, table_level}
use Rattle.wohlfahrt.proofs.Powers.{upper}
use Rattle.wohlfahrt.proofs.Acting.{Wide, Inside, Alone, Everywhere, alone_at, at_upper-+, at_zero_lem, fixed_mult}

-- ---- T on all numbers

T_value : upper (pos 1) ≡ value (P ∷ S ∷ [])
unfolding upper mat_t
T_value = T_is ∙ ap (λ (m : Mat). mat_p ⊗ m) (sym (⊗-idr mat_s))

module _ (s r : List ℕ) where
  -- Q is S R⁻¹ S
  abbrev pub point_q : ℕ → ℕ
  point_q j = image s (image r (image r (image s j)))

  abbrev pub by_t : ℕ → ℕ
  by_t j = image r (image s j)

  abbrev pub table_t : List ℕ
  table_t = s then_table r

  abbrev pub width_of : ℕ → ℕ
  width_of j = cusp_width table_t (cusp_of table_t j)

  module _ (σσ : Involution (image s)) (ρρρ : OrderThree (image r)) where
    κκκ : OrderThree point_q
    κκκ x =
        let y = image r (image r (image s x)) in
        let z = image r (image r y) in
        cc (σσ y, σσ z, ρρρ (image s x), ρρρ (image r (image s x)), ρρρ y, ρρρ (image r (image r (image r (image s x)))), ρρρ (image r y), σσ x, ρρρ z)

    acts_on : Acts (image s) point_q
    acts_on = acts (image s) point_q σσ κκκ

    one_T : (j : ℕ) → action.at (image s) point_q j (upper (pos 1)) ≡ by_t j
    one_T j = ap (action.at (image s) point_q j) T_value ∙ acts_on.words j (P ∷ S ∷ []) ∙ run_T
      where
        run_T : image s (point_q (point_q j)) ≡ image r (image s j)
        run_T =
            let y = image r (image r (image s j)) in
            cc (σσ y, ρρρ (image s j), σσ (image r (image r y)))

-- ---- a table's points, and the other numbers

get_d_in : (l : List ℕ) (j x y : ℕ) → j < length l → get_or l j x ≡ get_or l j y
get_d_in [] j x y h = let no : ⊥ = omega arith in absurd no
get_d_in (z ∷ l) zero x y h = refl
get_d_in (z ∷ l) (suc j) x y h = get_d_in l j x y (omega arith)

get_d_out : (l : List ℕ) (j x : ℕ) → length l ≤ j → get_or l j x ≡ x
get_d_out [] j x h = refl
get_d_out (z ∷ l) zero x h = let no : ⊥ = omega arith in absurd no
get_d_out (z ∷ l) (suc j) x h = get_d_out l j x (omega arith)

module _ {C : Mat → Type 0} {n : ℕ} {s r : List ℕ} (c : CosetsOf C n s r) where
  pub S_in : (j : ℕ) → j < n → image s j ≡ image_at s j
  S_in j h = get_d_in s j j 0 (omega (arith, c.size_S))

  pub R_in : (j : ℕ) → j < n → image r j ≡ image_at r j
  R_in j h = get_d_in r j j 0 (omega (arith, c.size_R))

  pub S_out : (j : ℕ) → n ≤ j → image s j ≡ j
  S_out j h = get_d_out s j j (omega (arith, c.size_S))

  pub R_out : (j : ℕ) → n ≤ j → image r j ≡ j
  R_out j h = get_d_out r j j (omega (arith, c.size_R))

  pub S_low : (j : ℕ) → j < n → image_at s j < n
  S_low j h = omega (arith, c.permutes_S.low j (omega (arith, c.size_S)), c.size_S)

  pub R_low : (j : ℕ) → j < n → image_at r j < n
  R_low j h = omega (arith, c.permutes_R.low j (omega (arith, c.size_R)), c.size_R)

  pub S_twice : Involution (image s)
  S_twice j = elim (dec_lt j n) [
    | yes h ↦ ap (image s) (S_in j h) ∙ S_in (image_at s j) (S_low j h) ∙ c.twice j h
    | no h ↦ ap (image s) (S_out j (omega arith)) ∙ S_out j (omega arith)
  ]

  pub R_thrice : OrderThree (image r)
  R_thrice j = elim (dec_lt j n) [
    | yes h ↦
        let k = image_at r j in
        let l = R_low j h in
        ap (λ (z : ℕ). image r (image r z)) (R_in j h) ∙ ap (image r) (R_in k l) ∙ R_in (image_at r k) (R_low k l) ∙ c.thrice j h
    | no h ↦ let e = R_out j (omega arith) in ap (λ (z : ℕ). image r (image r z)) e ∙ ap (image r) e ∙ e
  ]

  pub acting : Acts (image s) (point_q s r)
  acting = acts_on s r S_twice R_thrice

  -- ---- matrices lead as in the tables

  Q_in : (j : ℕ) → j < n → point_q s r j ≡ by_table_q s r j
  Q_in j h =
      let j₁ = image_at s j in
      let l₁ = S_low j h in
      let j₂ = image_at r j₁ in
      let l₂ = R_low j₁ l₁ in
      ap (λ (z : ℕ). image s (image r (image r z))) (S_in j h) ∙ ap (λ (z : ℕ). image s (image r z)) (R_in j₁ l₁)
      ∙ ap (image s) (R_in j₂ l₂) ∙ S_in (image_at r j₂) (R_low j₂ l₂)

  Q_low : (j : ℕ) → j < n → by_table_q s r j < n
  Q_low j h = S_low _ (R_low _ (R_low _ (S_low j h)))

  pub alone_out : (j : ℕ) → n ≤ j → Alone (image s) (point_q s r) j
  alone_out j h =
      let e = S_out j h in
      let f = R_out j h in
      record {
        by_σ = e;
        by_κ = ap (λ (z : ℕ). image s (image r (image r z))) e ∙ ap (λ (z : ℕ). image s (image r z)) f ∙ ap (image s) f ∙ e;
      }

  run_same : (w : List Letter) (j : ℕ) → j < n → action.run (image s) (point_q s r) j w ≡ action.run (image_at s) (by_table_q s r) j w
  run_same [] j h = refl
  run_same (S ∷ w) j h = ap (λ (z : ℕ). action.run (image s) (point_q s r) z w) (S_in j h) ∙ run_same w (image_at s j) (S_low j h)
  run_same (Q ∷ w) j h = ap (λ (z : ℕ). action.run (image s) (point_q s r) z w) (Q_in j h) ∙ run_same w (by_table_q s r j) (Q_low j h)
  run_same (P ∷ w) j h =
      let k = by_table_q s r j in
      let l = Q_low j h in
      ap (λ (z : ℕ). action.run (image s) (point_q s r) z w) (ap (point_q s r) (Q_in j h) ∙ Q_in k l) ∙ run_same w (by_table_q s r k) (Q_low k l)

  pub some_point : 0 < n
  some_point = omega (arith, c.low 𝟙 det_𝟙)

  pub at_leads : (m : Mat) → action.at (image s) (point_q s r) 0 m ≡ leads s r m
  unfolding action.at
  at_leads m = run_same (word_of m) 0 some_point

  pub everywhere : Everywhere (image s) (point_q s r) 0
  everywhere j = elim (dec_lt j n) [
    | yes h ↦ let t = c.reached j h in inl (record { matrix = t.matrix; unit = t.unit; is = at_leads t.matrix ∙ t.is })
    | no h ↦ inr (alone_out j (omega arith))
  ]

  pub inside_of : (i : IsCongruence C) → Inside (image s) (point_q s r) i.modulus 0
  inside_of i m u g = at_leads m ∙ (c.fixes m u).1 (i.contains m u g)

  pub contains_of : (m : ℕ) → Inside (image s) (point_q s r) m 0 → ContainsGamma C m
  contains_of m inside k u g = (c.fixes k u).0 (sym (at_leads k) ∙ inside k u g)

  -- ---- powers of T by the table of T

  pub size_T : length (table_t s r) ≡ n
  size_T = then_length s r ∙ c.size_S

  pub permutes_T : Permutes (table_t s r)
  permutes_T = then_permutes c.permutes_S c.permutes_R (c.size_R ∙ sym c.size_S)

  T_low : (j : ℕ) → j < n → image_at (table_t s r) j < n
  T_low j h = omega (arith, permutes_T.low j (omega (arith, size_T)), size_T)

  T_in : (j : ℕ) → j < n → by_t s r j ≡ image_at (table_t s r) j
  T_in j h = ap (image r) (S_in j h) ∙ R_in (image_at s j) (S_low j h) ∙ sym (then_at s r j (omega (arith, c.size_S)))

  one_step : (j : ℕ) → action.at (image s) (point_q s r) j (upper (pos 1)) ≡ by_t s r j
  one_step j = one_T s r S_twice R_thrice j

  pub times_is : (k j : ℕ) → j < n → action.at (image s) (point_q s r) j (upper (pos k)) ≡ times (table_t s r) k j
  unfolding times
  times_is zero j h = at_zero_lem acting j
  times_is (suc k) j h =
      let e : suc k ≡ 1 + k = omega arith in
      ap (λ (z : ℕ). action.at (image s) (point_q s r) j (upper (pos z))) e ∙ at_upper-+ acting (pos 1) (pos k) j
      ∙ ap (λ (z : ℕ). action.at (image s) (point_q s r) z (upper (pos k))) (one_step j ∙ T_in j h) ∙ times_is k (image_at (table_t s r) j) (T_low j h)

  pub out_T : (z : ℤ) (j : ℕ) → n ≤ j → action.at (image s) (point_q s r) j (upper z) ≡ j
  out_T z j h = alone_at acting (alone_out j h) (upper z)

  -- ---- the widths, and the level

  pub width_fixes : (j : ℕ) → j < n → action.at (image s) (point_q s r) j (upper (pos (width_of s r j))) ≡ j
  width_fixes j h = times_is (width_of s r j) j h ∙ round permutes_T j (omega (arith, size_T))

  pub level_is : LeastMultiple (widths (table_t s r)) (table_level s r)
  level_is = lcm_of_is (widths (table_t s r)) (record { each = (cusps_are permutes_T).positive })

  pub level_some : 0 < table_level s r
  level_some = level_is.some

  pub width_divides : (j : ℕ) → j < n → width_of s r j ∣ table_level s r
  width_divides j h =
      let k = cusp_of (table_t s r) j in
      let low : k < length (cusps (table_t s r)) = k_low permutes_T j (omega (arith, size_T)) in
      level_is.each k (rw (length-map (cusps (table_t s r)) (width (table_t s r))) low)

  pub wide_level : Wide (image s) (point_q s r) (table_level s r)
  wide_level j = elim (dec_lt j n) [
    | yes h ↦ fixed_mult acting j (width_of s r j) (width_fixes j h) (pos (table_level s r)) (dvd_mult (width_divides j h))
    | no h ↦ out_T (pos (table_level s r)) j (omega arith)
  ]
