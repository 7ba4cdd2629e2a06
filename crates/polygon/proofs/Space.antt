-- Laws of the tables in the work space.
--
-- In order: a table after a store in it, and after one elsewhere (`table_set`, `table_below`, `table_above`, `table_at`); the stack after a store elsewhere,
-- a push, a pop (`cells_same`, `cells_push`, `cells_pop`); frames.
-- Assumes nothing.
use mathlib.Core.Path.{◌≡◌, refl, ◌∙◌, ap}
use mathlib.Core.List.{List, [], ◌∷◌}
use Prim.Native.Nat.{ℕ, zero, suc, ◌+◌, ◌-◌, ◌≤◌, ◌<◌}
use native.Mathlib.Numerals.{add-one}
use native.Mathlib.Omega.{arith}
use lib.ListN.{length, get_or, set, take, drop, length-set, length-take, length-drop}
use lib.Seq.{get_or-set_same, get_or-set_other, drop-set-add, drop-set-lt, take-set-lt, take-set-le, get_or-take, get_or-drop}
use Rattle.polygon.specs.Cut.{cell}
use Rattle.polygon.specs.Inner.Space.{FLIP, STACK, HANDLE, CutFrame}
use Rattle.call.specs.Space.{entries}
use Rattle.polygon.specs.Inner.Scanning.{cells_in}

-- ---- a table

pub table_set : (off n : ℕ) (w : List ℕ) (p x : ℕ) → p < n → entries off n (set w (off + p) x) ≡ set (entries off n w) p x
table_set off n w p x h = ap (take n) (drop-set-add off w p x) ∙ take-set-lt n (drop off w) p x h

pub table_below : (off n : ℕ) (w : List ℕ) (i x : ℕ) → i < off → entries off n (set w i x) ≡ entries off n w
table_below off n w i x h = ap (take n) (drop-set-lt off w i x h)

pub table_above : (off n : ℕ) (w : List ℕ) (i x : ℕ) → off + n ≤ i → entries off n (set w i x) ≡ entries off n w
table_above off n w i x h =
    let e : i ≡ off + (i - off) = omega arith in
    ap (λ (k : ℕ). take n (drop off (set w k x))) e ∙ ap (take n) (drop-set-add off w (i - off) x) ∙ take-set-le n (drop off w) (i - off) x (omega arith)

pub table_at : (off n : ℕ) (w : List ℕ) (p d : ℕ) → p < n → get_or (entries off n w) p d ≡ get_or w (off + p) d
table_at off n w p d h = get_or-take n (drop off w) p d h ∙ get_or-drop off w p d

pub table_length_lem : (off n : ℕ) (w : List ℕ) → off + n ≤ length w → length (entries off n w) ≡ n
table_length_lem off n w h = length-take n (drop off w) ∙ simp length-drop (omega arith)

-- within a list the default doesn't matter
pub get_d_any : (l : List ℕ) (i d e : ℕ) → i < length l → get_or l i d ≡ get_or l i e
get_d_any [] i d e h = absurd (omega arith)
get_d_any (x ∷ l) zero d e h = refl
get_d_any (x ∷ l) (suc i) d e h = get_d_any l i d e (omega arith)

-- ---- the stack

pub cells_same : (w w' : List ℕ) (n : ℕ) → ((j : ℕ) → j < n → get_or w' (STACK + j) 0 ≡ get_or w (STACK + j) 0)
    → ((j : ℕ) → j < n → get_or w' (HANDLE + j) 0 ≡ get_or w (HANDLE + j) 0)
    → cells_in w' n ≡ cells_in w n
unfolding cells_in
cells_same w w' zero h k = refl
cells_same w w' (suc n) h k =
    let a = h n (omega arith) in
    let b = k n (omega arith) in
    let r = cells_same w w' n (λ j l. h j (omega arith)) (λ j l. k j (omega arith)) in
    cc

-- a store below the stack
pub cells_below : (w : List ℕ) (n i x : ℕ) → i < 28672 → cells_in (set w i x) n ≡ cells_in w n
cells_below w n i x h = cells_same w (set w i x) n (λ j l. get_or-set_other w i (STACK + j) x 0 (λ e. omega arith))
    (λ j l. get_or-set_other w i (HANDLE + j) x 0 (λ e. omega arith))

pub cells_push : (w : List ℕ) (n y h : ℕ) → n < 1024 → 32768 ≤ length w → cells_in (set (set w (STACK + n) y) (HANDLE + n) h) (n + 1) ≡ cell y h ∷ cells_in w n
unfolding cells_in
cells_push w n y h k long =
    let w₁ = set w (STACK + n) y in
    let a : get_or (set w₁ (HANDLE + n) h) (STACK + n) 0 ≡ y = get_or-set_other w₁ (HANDLE + n) (STACK + n) h 0 (λ e. omega arith)
    ∙ get_or-set_same w (STACK + n) y 0 (omega arith) in
    let b : get_or (set w₁ (HANDLE + n) h) (HANDLE + n) 0 ≡ h = get_or-set_same w₁ (HANDLE + n) h 0 (omega (arith, length-set w (STACK + n) y)) in
    let r = cells_same w (set w₁ (HANDLE + n) h) n
    (λ j l. get_or-set_other w₁ (HANDLE + n) (STACK + j) h 0 (λ e. omega arith) ∙ get_or-set_other w (STACK + n) (STACK + j) y 0 (λ e. omega arith))
    (λ j l. get_or-set_other w₁ (HANDLE + n) (HANDLE + j) h 0 (λ e. omega arith) ∙ get_or-set_other w (STACK + n) (HANDLE + j) y 0 (λ e. omega arith)) in
    rw (add-one, cells_in) (cc)

pub cells_pop : (w : List ℕ) (n : ℕ) → 1 ≤ n → cells_in w n ≡ cell (get_or w (STACK + (n - 1)) 0) (get_or w (HANDLE + (n - 1)) 0) ∷ cells_in w (n - 1)
unfolding cells_in
cells_pop w zero h = absurd (omega arith)
cells_pop w (suc n) h = let e : suc n - 1 ≡ n = omega arith in rw e

pub cells_none : (w : List ℕ) → cells_in w 0 ≡ []
unfolding cells_in
cells_none w = refl

-- ---- lengths and frames

-- as long as what was long enough
pub still : {a b : ℕ} → a ≡ b → 32768 ≤ b → 32768 ≤ a
still e h = rw e h

pub frame_refl : (w : List ℕ) → CutFrame w w
frame_refl w = record { same = refl; low = λ k h. refl; middle = λ k h l. refl; high = λ k h. refl }

pub frame_trans : (a b c : List ℕ) → CutFrame a b → CutFrame b c → CutFrame a c
frame_trans a b c f g = record {
  same = g.same ∙ f.same;
  low = λ k h. g.low k h ∙ f.low k h;
  middle = λ k h l. g.middle k h l ∙ f.middle k h l;
  high = λ k h. g.high k h ∙ f.high k h;
}

-- a store in the table of other sides
pub frame_flip : (a b : List ℕ) (p x : ℕ) → CutFrame a b → p < 4096 → CutFrame a (set b (FLIP + p) x)
frame_flip a b p x f h = record {
  same = length-set b (FLIP + p) x ∙ f.same;
  low = λ k l. get_or-set_other b (FLIP + p) k x 0 (λ e. omega arith) ∙ f.low k l;
  middle = λ k l m. get_or-set_other b (FLIP + p) k x 0 (λ e. omega arith) ∙ f.middle k l m;
  high = λ k l. get_or-set_other b (FLIP + p) k x 0 (λ e. omega arith) ∙ f.high k l;
}

-- a store in the stack
pub frame_stack : (a b : List ℕ) (i x : ℕ) → CutFrame a b → 28672 ≤ i → i < 30720 → CutFrame a (set b i x)
frame_stack a b i x f h g = record {
  same = length-set b i x ∙ f.same;
  low = λ k l. get_or-set_other b i k x 0 (λ e. omega arith) ∙ f.low k l;
  middle = λ k l m. get_or-set_other b i k x 0 (λ e. omega arith) ∙ f.middle k l m;
  high = λ k l. get_or-set_other b i k x 0 (λ e. omega arith) ∙ f.high k l;
}
