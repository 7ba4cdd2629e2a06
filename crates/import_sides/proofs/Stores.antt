-- Stores one after the other, and the right end of the cell that a link leads to.
-- Assumes nothing.
use mathlib.Core.Path.{◌≡◌, sym, ◌∙◌, ap}
use mathlib.Core.List.{List}
use Prim.Native.Nat.{ℕ, ◌+◌, ◌-◌, ◌*◌, ◌<◌}
use native.Mathlib.Omega.{arith}
use lib.Dec.{eqb}
use lib.ListN.{length, set, length-set}
use borrow.Author.Tests.{eq-eqb, ne_eqb}
use Rattle.basics.proofs.Choice.{pick_true, pick_false}
use Rattle.permutations.specs.Pair.{image, Pair}
use Rattle.import_rule.specs.Fixed.{by_q}
use Rattle.permutations.proofs.Images.{low_S}
use Rattle.import_rule.proofs.Images.{low_Q}
use Rattle.import_sides.specs.Inner.Work.{HELD, TODO, cell_place, two_cells, point_at, cell_set}
use Rattle.import_sides.proofs.Cells.{cell_length}
use Rattle.import_sides.specs.Inner.Cells.{LINK, QUEUE, link_at, low_num, low_den, held_by, linked, queued, split_cell, begun}

pub two_stores : (w w1 w2 : List ℕ) (i x j y : ℕ) → w1 ≡ set w i x → w2 ≡ set w1 j y → w2 ≡ set (set w i x) j y
two_stores w w1 w2 i x j y a b = b ∙ ap (λ (z : List ℕ). set z j y) a

pub three_stores : (w w1 w2 w3 : List ℕ) (i x j y k z : ℕ) → w1 ≡ set w i x → w2 ≡ set w1 j y → w3 ≡ set w2 k z → w3 ≡ set (set (set w i x) j y) k z
three_stores w w1 w2 w3 i x j y k z a b c = c ∙ ap (λ (v : List ℕ). set v k z) (two_stores w w1 w2 i x j y a b)

pub store_length : (w w1 : List ℕ) (i x : ℕ) → w1 ≡ set w i x → length w1 ≡ length w
store_length w w1 i x a = ap length a ∙ length-set w i x

pub low_none : (w : List ℕ) (l : ℕ) → l ≡ 0 → (999999999 ≡ low_num w l) × (0 ≡ low_den w l)
low_none w l e = (
  sym (pick_true (eqb l 0) 999999999 (two_cells w (cell_place TODO (l - 1))) (eq-eqb l 0 e)),
  sym
      (pick_true (eqb l 0) 0 (two_cells w (cell_place TODO (l - 1) + 2)) (eq-eqb l 0 e)),
)

pub low_some : (w : List ℕ) (l : ℕ) → (l ≡ 0 → ⊥) → (two_cells w (cell_place TODO (l - 1)) ≡ low_num w l) × (two_cells w (cell_place TODO (l - 1) + 2) ≡ low_den w l)
low_some w l h = (
  sym (pick_false (eqb l 0) 999999999 (two_cells w (cell_place TODO (l - 1))) (ne_eqb l 0 h)),
  sym
      (pick_false (eqb l 0) 0 (two_cells w (cell_place TODO (l - 1) + 2)) (ne_eqb l 0 h)),
)

-- ---- the start

pub begun_is : (w w1 w2 w3 : List ℕ) (p2 p1 p0 : ℕ) → p2 ≡ point_at w (cell_place TODO 2) → p1 ≡ point_at w (cell_place TODO 1) → p0 ≡ point_at w (cell_place TODO 0)
    → w1 ≡ set (set (set w (HELD + p2) 3) (HELD + p1) 2) (HELD + p0) 1 → w2 ≡ set (set (set w1 (LINK + 0) 2) (LINK + 1) 3) (LINK + 2) 0
    → w3 ≡ set (set (set w2 (QUEUE + 0) p2) (QUEUE + 1) p1) (QUEUE + 2) p0 → w3 ≡ begun w
begun_is w w1 w2 w3 p2 p1 p0 e2 e1 e0 a b c =
    c ∙ ap (λ (x : List ℕ). set (set (set x (QUEUE + 0) p2) (QUEUE + 1) p1) (QUEUE + 2) p0)
    (b ∙ ap (λ (x : List ℕ). set (set (set x (LINK + 0) 2) (LINK + 1) 3) (LINK + 2) 0) a)
    ∙ (λ i. set (set (set (set (set (set (set (set (set w (HELD + e2 i) 3) (HELD + e1 i) 2) (HELD + e0 i) 1) (LINK + 0) 2) (LINK + 1) 3) (LINK + 2) 0)
    (QUEUE + 0) (e2 i)) (QUEUE + 1) (e1 i)) (QUEUE + 2) (e0 i))

-- ---- a split, as the code puts it together

-- the points of the two parts
pub split_low : (s r : List ℕ) → Pair s r → (m p q a b : ℕ) → m < length s → p ≡ by_q (image s) (image r) m → q ≡ by_q (image s) (image r) p
    → a ≡ image s p → b ≡ image s q → (a < 4096) × (b < 4096)
split_low s r h m p q a b l ep eq ea eb =
    let u = low_Q s r h m p l ep in
    let v = low_Q s r h p q u eq in
    let x = (low_S s r h p a u ea).0 in
    let y = (low_S s r h q b v eb).0 in
    let t = h.most in
    (omega arith, omega arith)

pub split_is : (σ κ : ℕ → ℕ) (w h x y z v : List ℕ) (c k e d m p q a b l : ℕ) → m ≡ point_at w (cell_place TODO c) → p ≡ κ m → q ≡ κ p → a ≡ σ p → b ≡ σ q
    → l ≡ link_at w c
    → h ≡ held_by w m a b (k + 1) (c + 1) → x ≡ set h (cell_place TODO c + 4) b → y ≡ cell_set x (cell_place TODO k) e d a → z ≡ linked y c k l
    → v ≡ queued z (2 * k - 3) a b
    → v ≡ split_cell σ κ w c k e d
split_is σ κ w h x y z v c k e d m p q a b l em ep eq ea eb el eh ex ey ez ev =
    let fa : a ≡ σ (κ (point_at w (cell_place TODO c))) = ea ∙ ap σ (ep ∙ ap κ em) in
    let fb : b ≡ σ (κ (κ (point_at w (cell_place TODO c)))) = eb ∙ ap σ (eq ∙ ap κ (ep ∙ ap κ em)) in
    ev ∙ ap (λ (t : List ℕ). queued t (2 * k - 3) a b)
    (ez ∙ ap (λ (t : List ℕ). linked t c k l)
    (ey ∙ ap (λ (t : List ℕ). cell_set t (cell_place TODO k) e d a) (ex ∙ ap (λ (t : List ℕ). set t (cell_place TODO c + 4) b) eh)))
    ∙ (λ i. queued (linked (cell_set (set (held_by w (em i) (fa i) (fb i) (k + 1) (c + 1)) (cell_place TODO c + 4) (fb i)) (cell_place TODO k) e d (fa i)) c k
    (el i))
    (2 * k - 3) (fa i) (fb i))

pub split_same : (σ κ : ℕ → ℕ) (w : List ℕ) (c k e d : ℕ) → length (split_cell σ κ w c k e d) ≡ length w
split_same σ κ w c k e d =
    let m = point_at w (cell_place TODO c) in
    let a = σ (κ m) in
    let b = σ (κ (κ m)) in
    let w1 = held_by w m a b (k + 1) (c + 1) in
    let w2 = set w1 (cell_place TODO c + 4) b in
    let w3 = cell_set w2 (cell_place TODO k) e d a in
    let p : length (held_by w m a b (k + 1) (c + 1)) ≡ length w = simp length-set in
    let q : length (queued (linked w3 c k (link_at w c)) (2 * k - 3) a b) ≡ length w3 = simp length-set in
    q ∙ cell_length w2 (cell_place TODO k) e d a ∙ length-set w1 (cell_place TODO c + 4) b ∙ p
