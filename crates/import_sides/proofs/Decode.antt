-- Numerators as naturals: x stands for x - l. Sums, their sizes, and the limit as the code tests it.
-- Assumes nothing.
use mathlib.Core.Path.{◌≡◌, refl, sym, ◌∙◌, ap}
use mathlib.Core.Bool.{Bool, true, false, ◌&&◌}
use mathlib.Core.List.{List, [], ◌∷◌}
use Prim.Native.Nat.{ℕ, zero, suc, ◌+◌, ◌-◌, ◌*◌, ◌≤◌, ◌<◌}
use native.Mathlib.Omega.{arith}
use native.Mathlib.Decide.{dec_lt}
use lib.Dec.{leb, lit≤}
use lib.IntN.{ℤ, pos, negsuc, neg_ℤ, nat_abs, ◌+ℤ◌, ◌-ℤ◌, +ℤ-neg_ℤ_cancel}
use borrow.Author.Tests.{le-leb, leb-true}
use Rattle.matrix.proofs.Integer.{abs_neg}
use Rattle.matrix.proofs.Ring.{Exp, con, var, ◌⊕◌, ◌⊙◌, ⊖◌, ring}
use Rattle.basics.proofs.Choice.{and_left, and_right}
use Rattle.import_rule.specs.Side.{Vertex, vertex, mediant, fits, limit, minus_infinity}
use Rattle.import_sides.specs.Inner.Work.{two_cells, end_at, last_in, left_end_num, left_end_den, sum_num, sum_den, top_fits, cell_place, DONE, TODO}
use Rattle.import_sides.proofs.Cells.{left_none, left_some}
use Rattle.import_rule.proofs.Theorem.{same_test}

pub diff_above : (x y : ℕ) → y ≤ x → pos x -ℤ pos y ≡ pos (x - y)
diff_above x y h =
    let e : x ≡ (x - y) + y = omega arith in
    ap (λ (k : ℕ). pos k -ℤ pos y) e ∙ +ℤ-neg_ℤ_cancel (pos (x - y)) (pos y)

pub diff_below : (x y : ℕ) → x ≤ y → pos x -ℤ pos y ≡ neg_ℤ (pos (y - x))
diff_below x y h =
    let e : y ≡ x + (y - x) = omega arith in
    ap (λ (k : ℕ). pos x -ℤ pos k) e ∙ ring (pos x ∷ pos (y - x) ∷ []) (var 0 ⊕ ⊖ (var 0 ⊕ var 1)) (⊖ var 1) tt

pub abs_diff : (x y : ℕ) → nat_abs (pos x -ℤ pos y) ≡ (x - y) + (y - x)
abs_diff x y = elim (dec_lt x y) [
  | yes h ↦ ap nat_abs (diff_below x y (omega arith)) ∙ abs_neg (pos (y - x)) ∙ omega arith
  | no h ↦ ap nat_abs (diff_above x y (omega arith)) ∙ omega arith
]

module _ (l a b : ℕ) where
  pub sum_is : (pos a -ℤ pos l) +ℤ (pos b -ℤ pos l) ≡ pos (a + b) -ℤ pos (l + l)
  sum_is = ring (pos a ∷ pos b ∷ pos l ∷ []) ((var 0 ⊕ ⊖ var 2) ⊕ (var 1 ⊕ ⊖ var 2)) ((var 0 ⊕ var 1) ⊕ ⊖ (var 2 ⊕ var 2)) tt

  -- the code of the sum
  pub sum_code : l ≤ a + b → pos (a + b - l) -ℤ pos l ≡ (pos a -ℤ pos l) +ℤ (pos b -ℤ pos l)
  sum_code h =
      let e : a + b ≡ (a + b - l) + l = omega arith in
      ring (pos (a + b - l) ∷ pos l ∷ []) (var 0 ⊕ ⊖ var 1) ((var 0 ⊕ var 1) ⊕ ⊖ (var 1 ⊕ var 1)) tt
      ∙ ap (λ (k : ℕ). pos k -ℤ pos (l + l)) (sym e) ∙ sym sum_is

  pub size_is : nat_abs ((pos a -ℤ pos l) +ℤ (pos b -ℤ pos l)) ≡ (a + b - (l + l)) + (l + l - (a + b))
  size_is = ap nat_abs sum_is ∙ abs_diff (a + b) (l + l)

-- ---- the limit

three : (l s : ℕ) → (leb l s && leb s (3 * l)) ≡ leb ((s - (l + l)) + (l + l - s)) l
three l s = same_test (leb l s && leb s (3 * l)) (leb ((s - (l + l)) + (l + l - s)) l) there back
  where
    there : (leb l s && leb s (3 * l)) ≡ true → leb ((s - (l + l)) + (l + l - s)) l ≡ true
    there e =
        let a = leb-true l s (and_left (leb l s) (leb s (3 * l)) e) in
        let b = leb-true s (3 * l) (and_right (leb l s) (leb s (3 * l)) e) in
        le-leb ((s - (l + l)) + (l + l - s)) l (omega arith)

    back : leb ((s - (l + l)) + (l + l - s)) l ≡ true → (leb l s && leb s (3 * l)) ≡ true
    back e =
        let a = leb-true ((s - (l + l)) + (l + l - s)) l e in
        ap (λ (x : Bool). x && leb s (3 * l)) (le-leb l s (omega arith)) ∙ le-leb s (3 * l) (omega arith)

pub fits_code : (l a b d : ℕ) → (leb l (a + b) && leb (a + b) (3 * l) && leb d l) ≡ (leb (nat_abs ((pos a -ℤ pos l) +ℤ (pos b -ℤ pos l))) l && leb d l)
fits_code l a b d = ap (λ (x : Bool). x && leb d l) (three l (a + b)) ∙ ap (λ (x : ℕ). leb x l && leb d l) (sym (size_is l a b))

-- ---- the left end of the first side to do

vertex_eq : {a a' : ℤ} {b b' : ℕ} → a ≡ a' → b ≡ b' → vertex a b ≡ vertex a' b'
vertex_eq p q = λ i. vertex (p i) (q i)

pub last_code : (w : List ℕ) (d : ℕ) → last_in w d ≡ vertex (pos (left_end_num w d) -ℤ pos limit) (left_end_den w d)
last_code w zero =
    let k = left_none w 0 refl in
    vertex_eq (sym (diff_below 999999999 limit (lit≤ tt)) ∙ ap (λ (x : ℕ). pos x -ℤ pos limit) k.0) k.1
last_code w (suc d) =
    let k = left_some w (suc d) (λ e. omega arith) in
    let e : suc d - 1 ≡ d = omega arith in
    vertex_eq (ap (λ (x : ℕ). pos (two_cells w (cell_place DONE x)) -ℤ pos limit) (sym e) ∙ ap (λ (x : ℕ). pos x -ℤ pos limit) k.0)
    (ap (λ (x : ℕ). two_cells w (cell_place DONE x + 2)) (sym e) ∙ k.1)

pub fits_in_lem : (w : List ℕ) (d k : ℕ) → top_fits w d k ≡ fits (mediant (last_in w d) (end_at w (cell_place TODO (k - 1))))
fits_in_lem w d k =
    fits_code limit (left_end_num w d) (two_cells w (cell_place TODO (k - 1))) (sum_den w d k)
    ∙ ap (λ (x : Vertex). fits (mediant x (end_at w (cell_place TODO (k - 1))))) (sym (last_code w d))
