-- Numbers in two cells and the five numbers of a side: what the small functions show, and what is read back.
--
-- In order: numbers in two cells (`number_is`); a side's numbers written (`cell_set_lem`) and read back (`cell_num`,
-- `cell_den`, `cell_pt`, `cell_other`); the left end of the first side to do.
-- Assumes nothing.
use mathlib.Core.Path.{◌≡◌, refl, sym, ◌∙◌, ap}
use mathlib.Core.Logic.{◌⊎◌, inl, inr}
use mathlib.Core.Bool.{Bool, true, false, not, ◌||◌}
use mathlib.Core.List.{List, [], ◌∷◌}
use Prim.Native.Nat.{ℕ, zero, suc, ◌+◌, ◌-◌, ◌*◌, ◌/◌, ◌%◌, ◌≤◌, ◌<◌}
use native.Mathlib.Omega.{arith}
use native.Mathlib.Decide.{dec_lt, ℕ_discrete}
use lib.Dec.{eqb}
use lib.ListN.{length, get_or, set, length-set, get_or-eq_default}
use lib.Seq.{get_or-set_same, get_or-set_other}
use borrow.Author.Tests.{eq-eqb, ne_eqb}
use Rattle.basics.specs.Choice.{pick}
use Rattle.basics.proofs.Choice.{pick_true, pick_false}
use Rattle.permutations.specs.Pair.{image}
use Rattle.import_rule.specs.Fixed.{by_q}
use Rattle.import_sides.specs.Inner.Work.{HELD, DONE, TODO, cell_place, two_cells, point_at, cell_set, left_end_num, left_end_den, closed_in}

-- ---- numbers in two cells

pub number_is : (w : List ℕ) (at high low : ℕ) → high ≡ get_or w at 0 → low ≡ get_or w (at + 1) 0 → high < 65536 → low < 65536
    → (high * 65536 + low ≡ two_cells w at) × (high * 65536 + low < 4294967296)
unfolding two_cells
number_is w at high low a b h k = (cc, omega arith)

pub number_same : (w w' : List ℕ) (at : ℕ) → get_or w' at 0 ≡ get_or w at 0 → get_or w' (at + 1) 0 ≡ get_or w (at + 1) 0 → two_cells w' at ≡ two_cells w at
unfolding two_cells
number_same w w' at a b = cc

-- ---- the five numbers of a side

pub cell_set_lem : (w y x : List ℕ) (at e d m : ℕ) → y ≡ set (set w at (e / 65536)) (at + 1) (e % 65536)
    → x ≡ set (set y (at + 2) (d / 65536)) (at + 2 + 1) (d % 65536) → set x (at + 4) m ≡ cell_set w at e d m
unfolding cell_set
cell_set_lem w y x at e d m p q = cc (p, q)

pub put_length : (w y : List ℕ) (at e : ℕ) → y ≡ set (set w at (e / 65536)) (at + 1) (e % 65536) → length y ≡ length w
put_length w y at e p = ap length p ∙ length-set (set w at (e / 65536)) (at + 1) (e % 65536) ∙ length-set w at (e / 65536)

pub cell_length : (w : List ℕ) (at e d m : ℕ) → length (cell_set w at e d m) ≡ length w
unfolding cell_set
cell_length w at e d m = simp length-set

pub cell_other : (w : List ℕ) (at e d m j : ℕ) → (j < at) ⊎ (at + 5 ≤ j) → get_or (cell_set w at e d m) j 0 ≡ get_or w j 0
unfolding cell_set
cell_other w at e d m j o =
    let w1 = set w at (e / 65536) in
    let w2 = set w1 (at + 1) (e % 65536) in
    let w3 = set w2 (at + 2) (d / 65536) in
    let w4 = set w3 (at + 2 + 1) (d % 65536) in
    get_or-set_other w4 (at + 4) j m 0 (away 4 (omega arith))
    ∙ get_or-set_other w3 (at + 2 + 1) j (d % 65536) 0 (λ q. away 3 (omega arith) (q ∙ three))
    ∙ get_or-set_other w2 (at + 2) j (d / 65536) 0 (away 2 (omega arith))
    ∙ get_or-set_other w1 (at + 1) j (e % 65536) 0 (away 1 (omega arith))
    ∙ get_or-set_other w at j (e / 65536) 0 (λ q. away 0 (omega arith) (q ∙ none))
  where
    three : at + 2 + 1 ≡ at + 3
    three = omega arith

    none : at ≡ at + 0
    none = omega arith

    away : (i : ℕ) → i < 5 → j ≡ at + i → ⊥
    away i h q = elim o [ inl a ↦ omega arith | inr a ↦ omega arith ]

module _ (w : List ℕ) (at e d m : ℕ) (room : at + 5 ≤ length w) where
  abbrev w1 : List ℕ
  w1 = set w at (e / 65536)

  abbrev w2 : List ℕ
  w2 = set w1 (at + 1) (e % 65536)

  abbrev w3 : List ℕ
  w3 = set w2 (at + 2) (d / 65536)

  abbrev w4 : List ℕ
  w4 = set w3 (at + 2 + 1) (d % 65536)

  size : (i : ℕ) → i ≤ 4 → at + i < length w
  size i h = omega arith

  at_0 : get_or (cell_set w at e d m) at 0 ≡ e / 65536
  unfolding cell_set
  at_0 =
      get_or-set_other w4 (at + 4) at m 0 (λ q. omega arith) ∙ get_or-set_other w3 (at + 2 + 1) at (d % 65536) 0 (λ q. omega arith)
      ∙ get_or-set_other w2 (at + 2) at (d / 65536) 0 (λ q. omega arith)
      ∙ get_or-set_other w1 (at + 1) at (e % 65536) 0 (λ q. omega arith) ∙ get_or-set_same w at (e / 65536) 0 (omega arith)

  at_1 : get_or (cell_set w at e d m) (at + 1) 0 ≡ e % 65536
  unfolding cell_set
  at_1 =
      get_or-set_other w4 (at + 4) (at + 1) m 0 (λ q. omega arith) ∙ get_or-set_other w3 (at + 2 + 1) (at + 1) (d % 65536) 0 (λ q. omega arith)
      ∙ get_or-set_other w2 (at + 2) (at + 1) (d / 65536) 0 (λ q. omega arith)
      ∙ get_or-set_same w1 (at + 1) (e % 65536) 0 (rw (length-set w at (e / 65536)) (omega arith))

  at_2 : get_or (cell_set w at e d m) (at + 2) 0 ≡ d / 65536
  unfolding cell_set
  at_2 =
      get_or-set_other w4 (at + 4) (at + 2) m 0 (λ q. omega arith) ∙ get_or-set_other w3 (at + 2 + 1) (at + 2) (d % 65536) 0 (λ q. omega arith)
      ∙ get_or-set_same w2 (at + 2) (d / 65536) 0 (rw (length-set w1 (at + 1) (e % 65536), length-set w at (e / 65536)) (omega arith))

  at_3 : get_or (cell_set w at e d m) (at + 2 + 1) 0 ≡ d % 65536
  unfolding cell_set
  at_3 =
      get_or-set_other w4 (at + 4) (at + 2 + 1) m 0 (λ q. omega arith)
      ∙ get_or-set_same w3 (at + 2 + 1) (d % 65536) 0
      (rw (length-set w2 (at + 2) (d / 65536), length-set w1 (at + 1) (e % 65536), length-set w at (e / 65536)) (omega arith))

  pub cell_num : two_cells (cell_set w at e d m) at ≡ e
  unfolding two_cells
  cell_num = omega (arith, at_0, at_1)

  pub cell_den : two_cells (cell_set w at e d m) (at + 2) ≡ d
  unfolding two_cells
  cell_den = omega (arith, at_2, at_3)

  pub cell_pt : point_at (cell_set w at e d m) at ≡ m
  unfolding cell_set
  cell_pt = get_or-set_same w4 (at + 4) m 0 (rw
      (length-set w3 (at + 2 + 1) (d % 65536), length-set w2 (at + 2) (d / 65536), length-set w1 (at + 1) (e % 65536), length-set w at (e / 65536))
      (omega arith))

-- ---- the left end of the first side to do

pub left_none : (w : List ℕ) (d : ℕ) → d ≡ 0 → (999999999 ≡ left_end_num w d) × (0 ≡ left_end_den w d)
left_none w d e = (
  sym (pick_true (eqb d 0) 999999999 (two_cells w (cell_place DONE (d - 1))) (eq-eqb d 0 e)),
  sym
      (pick_true (eqb d 0) 0 (two_cells w (cell_place DONE (d - 1) + 2)) (eq-eqb d 0 e)),
)

pub left_some : (w : List ℕ) (d : ℕ) → (d ≡ 0 → ⊥) → (two_cells w (cell_place DONE (d - 1)) ≡ left_end_num w d)
    × (two_cells w (cell_place DONE (d - 1) + 2) ≡ left_end_den w d)
left_some w d h = (
  sym (pick_false (eqb d 0) 999999999 (two_cells w (cell_place DONE (d - 1))) (ne_eqb d 0 h)),
  sym
      (pick_false (eqb d 0) 0 (two_cells w (cell_place DONE (d - 1) + 2)) (ne_eqb d 0 h)),
)

-- ---- the test of a side

module _ (σ κ : ℕ → ℕ) (w : List ℕ) (m q : ℕ) (e : q ≡ κ m) where
  pub closed_odd : q ≡ m → true ≡ closed_in σ κ w m
  closed_odd t = sym (ap (λ (b : Bool). b || not (eqb (get_or w (HELD + σ m) 0) 0)) (eq-eqb (κ m) m (sym e ∙ t)))

  pub closed_held : (q ≡ m → ⊥) → (x : ℕ) → x ≡ σ m → not (eqb (get_or w (HELD + x) 0) 0) ≡ closed_in σ κ w m
  closed_held f x d = ap (λ (y : ℕ). not (eqb (get_or w (HELD + y) 0) 0)) d
      ∙ sym (ap (λ (b : Bool). b || not (eqb (get_or w (HELD + σ m) 0) 0)) (ne_eqb (κ m) m (λ z. f (e ∙ z))))
