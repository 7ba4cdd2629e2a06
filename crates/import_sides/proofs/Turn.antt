-- What the functions of one turn show.
--
-- In order: the limit as the code tests it (`within_low`, `within_high`, `within_both`, `within_tells`); the table HELD after a split
-- (`held_length`).
-- Assumes nothing.
use mathlib.Core.Path.{◌≡◌, refl, sym, ◌∙◌, ap}
use mathlib.Core.Bool.{Bool, true, false, ◌&&◌}
use mathlib.Core.List.{List}
use Prim.Native.Nat.{ℕ, ◌+◌, ◌-◌, ◌*◌, ◌≤◌, ◌<◌}
use native.Mathlib.Omega.{arith}
use lib.Dec.{leb, eqb}
use lib.ListN.{length, set, length-set}
use borrow.Author.Tests.{le-leb, lt-leb, leb-true, eq-eqb, ne_eqb}
use Rattle.basics.specs.Choice.{pick}
use Rattle.basics.proofs.Choice.{and_left, and_right, pick_true, pick_false}
use Rattle.import_sides.specs.Inner.Work.{held_set, cell_set, top_point, split_by, start_by, start_in}
use Rattle.import_sides.proofs.Cells.{cell_length}

and_false : (a b : Bool) → b ≡ false → (a && b) ≡ false
and_false true b e = e
and_false false b e = refl

module _ (e c : ℕ) where
  abbrev Test : Bool
  Test = leb 1000000000 e && leb e 3000000000 && leb c 1000000000

  pub within_low : e < 1000000000 → false ≡ Test
  within_low h = sym (ap (λ (b : Bool). b && leb e 3000000000 && leb c 1000000000) (lt-leb 1000000000 e h))

  pub within_high : 3000000000 < e → false ≡ Test
  within_high h = sym (ap (λ (b : Bool). b && leb c 1000000000) (and_false (leb 1000000000 e) (leb e 3000000000) (lt-leb e 3000000000 h)))

  pub within_both : 1000000000 ≤ e → e ≤ 3000000000 → leb c 1000000000 ≡ Test
  within_both h k = sym (ap (λ (b : Bool). b && leb e 3000000000 && leb c 1000000000) (le-leb 1000000000 e h)
      ∙ ap (λ (b : Bool). b && leb c 1000000000) (le-leb e 3000000000 k))

  pub within_tells : Test ≡ true → (1000000000 ≤ e) × (e ≤ 3000000000) × (c ≤ 1000000000)
  within_tells t =
      let a = and_left (leb 1000000000 e && leb e 3000000000) (leb c 1000000000) t in (
        leb-true 1000000000 e (and_left (leb 1000000000 e) (leb e 3000000000) a),
        leb-true e 3000000000
            (and_right (leb 1000000000 e) (leb e 3000000000) a),
        leb-true c 1000000000 (and_right (leb 1000000000 e && leb e 3000000000) (leb c 1000000000) t),
      )

pub held_length : (w : List ℕ) (x m a b : ℕ) → length (held_set w x m a b) ≡ length w
held_length w x m a b = simp length-set

-- the sums that the code forms
pub sums : (x x' y y' : ℕ) → x ≡ x' → y ≡ y' → x + y ≡ x' + y'
sums x x' y y' p q = cc (p, q)

module _ (σ κ : ℕ → ℕ) (w : List ℕ) (k e e' c c' : ℕ) (p : e ≡ e') (q : c ≡ c') where
  pub split_eq : split_by σ κ w k (e - 1000000000) c ≡ split_by σ κ w k (e' - 1000000000) c'
  split_eq = rw (p, q) refl

  pub fits_eq : (leb 1000000000 e && leb e 3000000000 && leb c 1000000000) ≡ (leb 1000000000 e' && leb e' 3000000000 && leb c' 1000000000)
  fits_eq = rw (p, q) refl

pub low_is : (x y n : ℕ) → x ≡ y → y < n → x < n
low_is x y n e h = omega arith

-- the split, as the code puts it together
pub split_by_lem : (σ κ : ℕ → ℕ) (w h x : List ℕ) (k e c m p q a b : ℕ) → m ≡ top_point w k → p ≡ κ m → q ≡ κ p → a ≡ σ p → b ≡ σ q → h ≡ held_set w 0 m a b
    → x ≡ cell_set (set h (20480 + 5 * (k - 1) + 4) b) (20480 + 5 * k) e c a → x ≡ split_by σ κ w k e c
split_by_lem σ κ w h x k e c m p q a b em ep eq ea eb eh ex =
    let fa : a ≡ σ (κ (top_point w k)) = ea ∙ ap σ (ep ∙ ap κ em) in
    let fb : b ≡ σ (κ (κ (top_point w k))) = eb ∙ ap σ (eq ∙ ap κ (ep ∙ ap κ em)) in
    ex ∙ ap (λ (y : List ℕ). cell_set (set y (20480 + 5 * (k - 1) + 4) b) (20480 + 5 * k) e c a) eh
    ∙ ap (λ (y : ℕ). cell_set (set (held_set w 0 y a b) (20480 + 5 * (k - 1) + 4) b) (20480 + 5 * k) e c a) em
    ∙ ap (λ (y : ℕ). cell_set (set (held_set w 0 (top_point w k) y b) (20480 + 5 * (k - 1) + 4) b) (20480 + 5 * k) e c y) fa
    ∙ ap (λ (y : ℕ). cell_set (set (held_set w 0 (top_point w k) (σ (κ (top_point w k))) y) (20480 + 5 * (k - 1) + 4) y) (20480 + 5 * k) e c (σ (κ (top_point w k))))
    fb

-- ---- the start, as the code puts it together

module _ (σ κ : ℕ → ℕ) (w w' : List ℕ) (o q : ℕ) (eo : o ≡ σ 0) (eq : q ≡ κ 0) where
  pub start_low : q ≡ 0 → (x y p2 p1 : ℕ) → x ≡ κ o → y ≡ κ x → p2 ≡ σ x → p1 ≡ σ y → w' ≡ start_by w 999999999 1000000000 p2 p1 0 → w' ≡ start_in σ κ w
  start_low z x y p2 p1 ex ey e2 e1 e =
      let f2 : p2 ≡ σ (κ (σ 0)) = e2 ∙ ap σ (ex ∙ ap κ eo) in
      let f1 : p1 ≡ σ (κ (κ (σ 0))) = e1 ∙ ap σ (ey ∙ ap κ (ex ∙ ap κ eo)) in
      e ∙ ap (λ (a : ℕ). start_by w 999999999 1000000000 a p1 0) f2 ∙ ap (λ (a : ℕ). start_by w 999999999 1000000000 (σ (κ (σ 0))) a 0) f1
      ∙ sym (pick_true (eqb (κ 0) 0) (start_by w 999999999 1000000000 (σ (κ (σ 0))) (σ (κ (κ (σ 0)))) 0)
      (start_by w 1000000000 1000000001 (σ 0) (σ (κ 0)) (σ (κ (κ 0)))) (eq-eqb (κ 0) 0 (sym eq ∙ z)))

  pub start_high : (q ≡ 0 → ⊥) → (y p1 p0 : ℕ) → y ≡ κ q → p1 ≡ σ q → p0 ≡ σ y → w' ≡ start_by w 1000000000 1000000001 o p1 p0 → w' ≡ start_in σ κ w
  start_high z y p1 p0 ey e1 e0 e =
      let f1 : p1 ≡ σ (κ 0) = e1 ∙ ap σ eq in
      let f0 : p0 ≡ σ (κ (κ 0)) = e0 ∙ ap σ (ey ∙ ap κ eq) in
      e ∙ ap (λ (a : ℕ). start_by w 1000000000 1000000001 a p1 p0) eo ∙ ap (λ (a : ℕ). start_by w 1000000000 1000000001 (σ 0) a p0) f1
      ∙ ap (λ (a : ℕ). start_by w 1000000000 1000000001 (σ 0) (σ (κ 0)) a) f0
      ∙ sym (pick_false (eqb (κ 0) 0) (start_by w 999999999 1000000000 (σ (κ (σ 0))) (σ (κ (κ (σ 0)))) 0)
      (start_by w 1000000000 1000000001 (σ 0) (σ (κ 0)) (σ (κ (κ 0)))) (ne_eqb (κ 0) 0 (λ t. z (eq ∙ t))))

pub three_cells : (w h x y z : List ℕ) (e2 e1 p2 p1 p0 : ℕ) → h ≡ held_set w 1 p2 p1 p0 → x ≡ cell_set h 20480 1000000001 0 p0 → y ≡ cell_set x (20480 + 5) e1 1 p1
    → z ≡ cell_set y (20480 + 10) e2 1 p2 → z ≡ start_by w e2 e1 p2 p1 p0
three_cells w h x y z e2 e1 p2 p1 p0 a b c d =
    d ∙ ap (λ (t : List ℕ). cell_set t (20480 + 10) e2 1 p2)
    (c ∙ ap (λ (t : List ℕ). cell_set t (20480 + 5) e1 1 p1) (b ∙ ap (λ (t : List ℕ). cell_set t 20480 1000000001 0 p0) a))

-- what the loop's turn keeps of the length
pub low_less : (x n m : ℕ) → x < n → n ≤ 3066 → m ≡ 4096 → x < m
low_less x n m h k e = omega arith

pub start_length : (σ κ : ℕ → ℕ) (w w' : List ℕ) → w' ≡ start_in σ κ w → length w' ≡ length w
start_length σ κ w w' e = ap length e ∙ go (eqb (κ 0) 0)
  where
    by : (e2 e1 p2 p1 p0 : ℕ) → length (start_by w e2 e1 p2 p1 p0) ≡ length w
    by e2 e1 p2 p1 p0 =
        cell_length (cell_set (cell_set (held_set w 1 p2 p1 p0) 20480 1000000001 0 p0) (20480 + 5) e1 1 p1) (20480 + 10) e2 1 p2
        ∙ cell_length (cell_set (held_set w 1 p2 p1 p0) 20480 1000000001 0 p0) (20480 + 5) e1 1 p1
        ∙ cell_length (held_set w 1 p2 p1 p0) 20480 1000000001 0 p0
        ∙ simp length-set

    go : (b : Bool) → length (pick b (start_by w 999999999 1000000000 (σ (κ (σ 0))) (σ (κ (κ (σ 0)))) 0)
        (start_by w 1000000000 1000000001 (σ 0) (σ (κ 0)) (σ (κ (κ 0))))) ≡ length w
    go true = by 999999999 1000000000 (σ (κ (σ 0))) (σ (κ (κ (σ 0)))) 0
    go false = by 1000000000 1000000001 (σ 0) (σ (κ 0)) (σ (κ (κ 0)))
