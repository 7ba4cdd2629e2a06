-- Laws for the functions that cut the polygon in the work space: one for each place of their loops.
--
-- In order: denominators and the top of the stack as they are read; whether the top is a mediant (`ready_at`); one vertex: the state between two
-- triangles (`Mid`) with its start, turn and end; the scan over all vertices (`Part`); the cut (`cut_left`).
-- Assumes nothing.
use mathlib.Core.Path.{◌≡◌, refl, sym, ◌∙◌, ap, subst}
use mathlib.Core.Bool.{Bool, true, false}
use mathlib.Core.List.{List, [], ◌∷◌}
use Prim.Native.Nat.{ℕ, zero, suc, ◌+◌, ◌-◌, ◌*◌, ◌≤◌, ◌<◌}
use native.Mathlib.Numerals.{add-one}
use native.Mathlib.Omega.{arith}
use native.Mathlib.Decide.{ℕ_discrete}
use lib.Dec.{eqb, T}
use lib.ListN.{length, get_or, set, replicate, length-set, length-replicate, get_or-replicate}
use lib.Seq.{get_or-set_same, get_or-set_other, ext_get_or, paste, paste-zero, paste-suc}
use lib.IntN.{ℤ, pos, nat_abs}
use lib.Signed.{non_neg}
use borrow.Author.Count.{below_more}
use borrow.Author.Tests.{eq-eqb, ne_eqb}
use Rattle.matrix.specs.Matrix.{nth}
use Rattle.basics.specs.Choice.{pick}
use Rattle.basics.specs.Count.{first}
use Rattle.symbol.specs.Check.{is_zero}
use Rattle.symbol.specs.Symbol.{IsSymbol}
use Rattle.polygon.specs.Cut.{outer, places, den, Cell, cell, below, handle, Scan, scan, attach, push, pushed, scanned, flip_of, under_zero}
use Rattle.polygon.specs.Inner.Space.{FLIP, STACK, HANDLE, joined, CutFrame}
use Rattle.call.specs.Space.{entries}
use Rattle.polygon.specs.Inner.Scanning.{cells_in, scan_in, ready_of, Cells, ScanRoom, Settled, Cleared, Scanned, CutLeft}
use Rattle.polygon.proofs.Space.{table_set, table_above, table_at, table_length_lem, cells_below, cells_push, cells_pop, cells_none, frame_refl}
use Rattle.polygon.proofs.Space.{frame_trans, frame_flip, frame_stack, still}

-- ---- denominators

sign_of : (z : ℤ) (n : ℕ) → z ≡ pos n → T (non_neg z)
sign_of z n e = rw e tt

-- vertex y, read at its place
pub record Denominator (t : List ℤ) (y : ℕ) (z : ℤ) : Type 0 where
  pub sign : T (non_neg z)
  pub is : nat_abs z ≡ den t y
  pub high : nat_abs z ≤ 1000000000

pub den_at : (t : List ℤ) (v y : ℕ) → IsSymbol v t → (y ≡ 0 → ⊥) → y ≤ v → Denominator t y (nth t (2 * (y - 1) + 1))
den_at t v zero ok n h = absurd (n refl)
den_at t v (suc i) ok n h =
    let e : suc i - 1 ≡ i = omega arith in
    let d = ok.denoms i (omega arith) in
    rw e (record { sign = sign_of (nth t (2 * i + 1)) (nat_abs (nth t (2 * i + 1))) d.2; is = refl; high = d.1 })

-- ---- the top of the stack

pub below_at : (w : List ℕ) (n : ℕ) → (n ≡ 0 → ⊥) → below (cells_in w n) ≡ get_or w (STACK + (n - 1)) 0
below_at w n h = ap below (cells_pop w n (omega arith))

pub handle_at : (w : List ℕ) (n : ℕ) → (n ≡ 0 → ⊥) → handle (cells_in w n) ≡ get_or w (HANDLE + (n - 1)) 0
handle_at w n h = ap handle (cells_pop w n (omega arith))

pub below_none : (w : List ℕ) (n : ℕ) → n ≡ 0 → below (cells_in w n) ≡ 0
below_none w n e = ap (λ (k : ℕ). below (cells_in w k)) e ∙ ap below (cells_none w)

pub handle_none : (w : List ℕ) (n : ℕ) → n ≡ 0 → handle (cells_in w n) ≡ 0
handle_none w n e = ap (λ (k : ℕ). handle (cells_in w k)) e ∙ ap handle (cells_none w)

-- vertices on the stack are vertices of the symbol
pub below_low : (v : ℕ) (w : List ℕ) (n k : ℕ) → Cells v w n → k ≤ n → below (cells_in w k) ≤ v
below_low v w n zero c h = rw (cells_none w) (omega arith)
below_low v w n (suc k) c h =
    let e : suc k - 1 ≡ k = omega arith in
    rw (below_at w (suc k) (λ z. omega arith), e) (c.vertices k (omega arith))

pub handle_low : (v : ℕ) (w : List ℕ) (n : ℕ) → Cells v w n → handle (cells_in w n) < places v
handle_low v w zero c = rw (cells_none w) (omega arith)
handle_low v w (suc k) c =
    let e : suc k - 1 ≡ k = omega arith in
    rw (handle_at w (suc k) (λ z. omega arith), e) (c.handles k (omega arith))

-- ---- whether the top is a mediant

pub ready_at : (t : List ℤ) (w : List ℕ) (n y : ℕ) → (n ≡ 0 → ⊥)
    → ready_of t (cells_in w n) y ≡ eqb (den t (below (cells_in w n))) (den t (below (cells_in w (n - 1))) + den t y)
unfolding ready_of
ready_at t w n y h = rw (cells_pop w n (omega arith))

pub ready_none : (t : List ℤ) (w : List ℕ) (n y : ℕ) → n ≡ 0 → ready_of t (cells_in w n) y ≡ false
unfolding ready_of
ready_none t w n y e = rw (e, cells_none w)

pub ready_some : (t : List ℤ) (w : List ℕ) (n y : ℕ) → ready_of t (cells_in w n) y ≡ true → 1 ≤ n
unfolding ready_of cells_in
ready_some t w zero y e = let z : ◌≡◌ {A = ℕ} 0 1 = cc in absurd (omega arith)
ready_some t w (suc n) y e = omega arith

push_no : (t : List ℤ) (l : List Cell) (a : List ℕ) (m h y : ℕ) → ready_of t l y ≡ false → push t l a m h y ≡ scan a m (cell y h ∷ l)
unfolding ready_of
push_no t [] a m h y e = refl
push_no t (c ∷ l) a m h y e = rw e

push_yes : (t : List ℤ) (c : Cell) (l : List Cell) (a : List ℕ) (m h y : ℕ) → ready_of t (c ∷ l) y ≡ true
    → push t (c ∷ l) a m h y ≡ push t l (attach a m c.under h) (m + 1) (3 * m) y
unfolding ready_of
push_yes t c l a m h y e = rw e

-- ---- one vertex

-- between two triangles: what is left to push is what there was
pub record Mid (t : List ℤ) (v : ℕ) (w₀ : List ℕ) (i n₀ m₀ : ℕ) (w : List ℕ) (n m h : ℕ) : Type 0 where
  pub frame : CutFrame w₀ w
  pub long : 32768 ≤ length w
  pub most : v ≤ 1023
  pub next : i < v
  pub cells : Cells v w n
  pub count : n + m ≡ i
  pub low : h < places v
  pub rest : push t (cells_in w n) (entries FLIP (places v) w) m h (suc i) ≡ pushed t (scan_in v w₀ n₀ m₀) (outer v i) (suc i)

cells_flip : (v : ℕ) (w : List ℕ) (n p x : ℕ) → Cells v w n → p < 4096 → Cells v (set w (FLIP + p) x) n
cells_flip v w n p x c h = record {
  vertices = λ j l. rw (get_or-set_other w (FLIP + p) (STACK + j) x 0 (λ e. omega arith)) (c.vertices j l);
  handles = λ j l. rw (get_or-set_other w (FLIP + p) (HANDLE + j) x 0 (λ e. omega arith)) (c.handles j l);
}

cells_less : (v : ℕ) (w : List ℕ) (n k : ℕ) → Cells v w n → k ≤ n → Cells v w k
cells_less v w n k c h = record { vertices = λ j l. c.vertices j (omega arith); handles = λ j l. c.handles j (omega arith) }

-- two positions joined, seen in the table and on the stack
table_joined : (v : ℕ) (w : List ℕ) (p q : ℕ) → p < places v → q < places v → entries FLIP (places v) (joined w p q)
    ≡ set (set (entries FLIP (places v) w) p q) q p
table_joined v w p q h k = table_set 4096 (places v) (set w (FLIP + p) q) q p k ∙ ap (λ (l : List ℕ). set l q p) (table_set 4096 (places v) w p q h)

cells_joined : (w : List ℕ) (n p q : ℕ) → p < 4096 → q < 4096 → cells_in (joined w p q) n ≡ cells_in w n
cells_joined w n p q h k = cells_below (set w (FLIP + p) q) n (FLIP + q) p (omega arith) ∙ cells_below w n (FLIP + p) q (omega arith)

frame_joined : (a b : List ℕ) (p q : ℕ) → CutFrame a b → p < 4096 → q < 4096 → CutFrame a (joined b p q)
frame_joined a b p q f h k = frame_flip a (set b (FLIP + p) q) q p (frame_flip a b p q f h) k

cells_in_joined : (v : ℕ) (w : List ℕ) (n p q : ℕ) → Cells v w n → p < 4096 → q < 4096 → Cells v (joined w p q) n
cells_in_joined v w n p q c h k = cells_flip v (set w (FLIP + p) q) n q p (cells_flip v w n p q c h) k

pub length_joined : (w : List ℕ) (p q : ℕ) → length (joined w p q) ≡ length w
length_joined w p q = length-set (set w (FLIP + p) q) (FLIP + q) p ∙ length-set w (FLIP + p) q

module _ (t : List ℤ) (v : ℕ) (w₀ : List ℕ) (i n₀ m₀ : ℕ) (room : ScanRoom t v w₀ i n₀ m₀) where
  pub mid_start : Mid t v w₀ i n₀ m₀ w₀ n₀ m₀ (outer v i)
  mid_start = record {
    frame = frame_refl w₀;
    long = room.long;
    most = room.symbol.most;
    next = room.next;
    cells = room.cells;
    count = room.count;
    low =
        let b = room.next in omega arith;
    rest = refl;
  }

  -- a triangle
  pub mid_step : (w : List ℕ) (n m h hl : ℕ) → Mid t v w₀ i n₀ m₀ w n m h → ready_of t (cells_in w n) (i + 1) ≡ true → hl ≡ get_or w (HANDLE + (n - 1)) 0
      → Mid t v w₀ i n₀ m₀ (joined (joined w (3 * m + 1) hl) (3 * m + 2) h) (n - 1) (m + 1) (3 * m)
  mid_step w n m h hl d r₀ e =
      let r : ready_of t (cells_in w n) (suc i) ≡ true = ap (ready_of t (cells_in w n)) (sym (add-one i)) ∙ r₀ in
      let some = ready_some t w n (suc i) r in
      let size = room.symbol.most in
      let next = room.next in
      let count = d.count in
      let low = d.low in
      let at : get_or w (HANDLE + (n - 1)) 0 < places v = d.cells.handles (n - 1) (omega arith) in
      let kl : hl < places v = omega arith in
      let w₁ = joined w (3 * m + 1) hl in
      let a = table_joined v w (3 * m + 1) hl (omega arith) kl in
      let b = table_joined v w₁ (3 * m + 2) h (omega arith) low in
      let p = cells_joined w (n - 1) (3 * m + 1) hl (omega arith) (omega arith) in
      let q = cells_joined w₁ (n - 1) (3 * m + 2) h (omega arith) (omega arith) in
      let pop = cells_pop w n some in
      let r' : ready_of t (cell (get_or w (STACK + (n - 1)) 0) (get_or w (HANDLE + (n - 1)) 0) ∷ cells_in w (n - 1)) (suc i) ≡ true = rw pop at r in
      record {
        frame = frame_joined w₀ w₁ (3 * m + 2) h (frame_joined w₀ w (3 * m + 1) hl d.frame (omega arith) (omega arith)) (omega arith) (omega arith);
        long = still (length_joined w₁ (3 * m + 2) h ∙ length_joined w (3 * m + 1) hl) d.long;
        most = d.most;
        next = d.next;
        cells = cells_less v (joined w₁ (3 * m + 2) h) n (n - 1)
            (cells_in_joined v w₁ n (3 * m + 2) h (cells_in_joined v w n (3 * m + 1) hl d.cells (omega arith) (omega arith)) (omega arith) (omega arith))
            (omega arith);
        count = omega arith;
        low = omega arith;
        rest =
            rw (q, p, b, a, e)
            (sym (push_yes t (cell (get_or w (STACK + (n - 1)) 0) (get_or w (HANDLE + (n - 1)) 0)) (cells_in w (n - 1))
            (entries FLIP (places v) w) m h (suc i) r')
            ∙ ap (λ (l : List Cell). push t l (entries FLIP (places v) w) m h (suc i)) (sym pop)
            ∙ d.rest);
      }

  -- the same for what two calls leave
  pub mid_turn : (w w₁ w₂ : List ℕ) (n m h hl : ℕ) → Mid t v w₀ i n₀ m₀ w n m h → ready_of t (cells_in w n) (i + 1) ≡ true → hl ≡ get_or w (HANDLE + (n - 1)) 0
      → w₁ ≡ joined w (3 * m + 1) hl → w₂ ≡ joined w₁ (3 * m + 2) h → Mid t v w₀ i n₀ m₀ w₂ (n - 1) (m + 1) (3 * m)
  mid_turn w w₁ w₂ n m h hl d r e f g = rw (g, f) (mid_step w n m h hl d r e)

  -- the vertex itself
  pub mid_end : (w : List ℕ) (n m h : ℕ) → Mid t v w₀ i n₀ m₀ w n m h → ready_of t (cells_in w n) (i + 1) ≡ false
      → Settled t v w₀ i n₀ m₀ (set (set w (STACK + n) (i + 1)) (HANDLE + n) h) (n + 1) m
  mid_end w n m h d r₀ =
      let r : ready_of t (cells_in w n) (suc i) ≡ false = ap (ready_of t (cells_in w n)) (sym (add-one i)) ∙ r₀ in
      let size = room.symbol.most in
      let next = room.next in
      let count = d.count in
      let long = d.long in
      let w₁ = set w (STACK + n) (suc i) in
      let w₂ = set w₁ (HANDLE + n) h in
      let cells = cells_push w n (suc i) h (omega arith) long in
      let flips = table_above 4096 (places v) w₁ (HANDLE + n) h (omega arith) ∙ table_above 4096 (places v) w (STACK + n) (suc i) (omega arith) in
      rw (add-one i) (record {
        frame = frame_stack w₀ w₁ (HANDLE + n) h (frame_stack w₀ w (STACK + n) (suc i) d.frame (omega arith) (omega arith)) (omega arith) (omega arith);
        cells = cells_pushed w n (suc i) h d.cells (omega arith) long (omega arith) d.low;
        count = omega (arith, count);
        is = rw (cells, flips) (sym (push_no t (cells_in w n) (entries FLIP (places v) w) m h (suc i) r) ∙ d.rest);
      })
    where
      cells_pushed : (w : List ℕ) (n y h : ℕ) → Cells v w n → n < 1024 → 32768 ≤ length w → y ≤ v → h < places v
          → Cells v (set (set w (STACK + n) y) (HANDLE + n) h) (n + 1)
      cells_pushed w n y h c k long a b =
          let w₁ = set w (STACK + n) y in
          let l₁ = length-set w (STACK + n) y in
          let e : get_or (set w₁ (HANDLE + n) h) (STACK + n) 0 ≡ y = get_or-set_other w₁ (HANDLE + n) (STACK + n) h 0 (λ e. omega arith)
          ∙ get_or-set_same w (STACK + n) y 0 (omega arith) in
          let f : get_or (set w₁ (HANDLE + n) h) (HANDLE + n) 0 ≡ h = get_or-set_same w₁ (HANDLE + n) h 0 (omega arith) in
          record {
            vertices = below_more _ n (λ j l. rw (
              get_or-set_other w₁ (HANDLE + n) (STACK + j) h 0 (λ e. omega arith),
              get_or-set_other w (STACK + n)
                  (STACK + j) y 0 (λ e. omega arith),
            ) (c.vertices j l)) (omega arith);
            handles = below_more _ n (λ j l. rw (
              get_or-set_other w₁ (HANDLE + n) (HANDLE + j) h 0 (λ e. omega arith),
              get_or-set_other w (STACK + n)
                  (HANDLE + j) y 0 (λ e. omega arith),
            ) (c.handles j l)) (omega arith);
          }

-- ---- the table of other sides cleared up to k

pub record ClearedTo (w₀ w : List ℕ) (k : ℕ) : Type 0 where
  pub frame : CutFrame w₀ w
  pub zeros : (j : ℕ) → j < k → get_or w (FLIP + j) 0 ≡ 0

pub cleared_none : (w : List ℕ) → ClearedTo w w 0
cleared_none w = record { frame = frame_refl w; zeros = λ j h. absurd (omega arith) }

pub cleared_more : (w₀ w : List ℕ) (k : ℕ) → ClearedTo w₀ w k → k < 4096 → 32768 ≤ length w₀ → ClearedTo w₀ (set w (FLIP + k) 0) (suc k)
cleared_more w₀ w k c h long =
    let e = get_or-set_same w (FLIP + k) 0 0 (omega (arith, c.frame.same)) in
    record {
      frame = frame_flip w₀ w k 0 c.frame h;
      zeros = λ i h. below_more _ k (λ j l. get_or-set_other w (FLIP + k) (FLIP + j) 0 0 (λ z. omega arith) ∙ c.zeros j l) e i (omega arith);
    }

-- n numbers filled with 0, of which j are looked at
pub cleared_to : (w : List ℕ) (n j : ℕ) → j ≤ n → n ≤ 4096 → 32768 ≤ length w → ClearedTo w (paste w FLIP (replicate n 0) j) j
cleared_to w n zero h k l = subst (λ (x : List ℕ). ClearedTo w x 0) (paste-zero w FLIP (replicate n 0)) (cleared_none w)
cleared_to w n (suc j) h k l =
    let s : List ℕ = replicate n 0 in
    let e = paste-suc w FLIP s j 0 (omega arith) (omega (arith, length-replicate {A = ℕ} n 0)) in
    let z : get_or s j 0 ≡ 0 = get_or-replicate n j 0 0 (omega arith) in
    subst (λ (x : List ℕ). ClearedTo w x (suc j)) (ap (λ (b : ℕ). set (paste w FLIP s j) (FLIP + j) b) (sym z) ∙ e)
    (cleared_more w (paste w FLIP s j) j (cleared_to w n j (omega arith) k l) (omega arith) l)

pub cleared_all : (v : ℕ) (w₀ w : List ℕ) (k : ℕ) → ClearedTo w₀ w k → 4 * v + 1 ≤ k → Cleared v w₀ w
cleared_all v w₀ w k c h = record { frame = c.frame; zeros = λ j l. c.zeros j (omega arith) }

-- ---- the scan over all vertices

pub record Part (t : List ℤ) (v z : ℕ) (w₀ w : List ℕ) (n m under i : ℕ) : Type 0 where
  pub frame : CutFrame w₀ w
  pub long : 32768 ≤ length w
  pub cells : Cells v w n
  pub count : n + m ≡ i
  pub high : i ≤ v
  pub is : scan_in v w n m ≡ scanned v t i
  pub noted : z < i → under ≡ handle (scanned v t (suc z)).stack

zeros_are : (v : ℕ) (w : List ℕ) → 32768 ≤ length w → v ≤ 1023 → ((k : ℕ) → k < places v → get_or w (FLIP + k) 0 ≡ 0) → entries FLIP (places v) w
    ≡ replicate (places v) 0
zeros_are v w long most h =
    let l = table_length_lem 4096 (places v) w (omega arith) in
    let r = length-replicate {A = ℕ} (places v) 0 in
    ext_get_or 0 (entries FLIP (places v) w) (replicate (places v) 0) (l ∙ sym r)
    (λ i b. table_at 4096 (places v) w i 0 (omega arith) ∙ h i (omega arith) ∙ sym (get_or-replicate {A = ℕ} (places v) i 0 0 (omega arith)))

pub part_none : (t : List ℤ) (v z : ℕ) (w : List ℕ) (u : ℕ) → 32768 ≤ length w → v ≤ 1023 → ((k : ℕ) → k < places v → get_or w (FLIP + k) 0 ≡ 0)
    → Part t v z w w 0 0 u 0
part_none t v z w u long most h = record {
  frame = frame_refl w;
  long = long;
  cells = record { vertices = λ j l. absurd (omega arith); handles = λ j l. absurd (omega arith) };
  count = omega arith;
  high = omega arith;
  is = rw (zeros_are v w long most h, cells_none w) refl;
  noted = λ l. absurd (omega arith);
}

pub part_room : (t : List ℤ) (v z : ℕ) (w₀ w : List ℕ) (n m u i : ℕ) → IsSymbol v t → Part t v z w₀ w n m u i → i < v → ScanRoom t v w i n m
part_room t v z w₀ w n m u i ok p h = record { symbol = ok; long = p.long; cells = p.cells; next = h; count = p.count }

pub part_more : (t : List ℤ) (v z : ℕ) (w₀ w : List ℕ) (n m u i : ℕ) → Part t v z w₀ w n m u i → i < v → (w' : List ℕ) (n' m' u' : ℕ)
    → Settled t v w i n m w' n' m' → u' ≡ pick (eqb i z) (handle (cells_in w' n')) u
    → Part t v z w₀ w' n' m' u' (i + 1)
part_more t v z w₀ w n m u i p h w' n' m' u' s e =
    let is : scan_in v w' n' m' ≡ scanned v t (suc i) = s.is ∙ ap (λ (x : Scan). pushed t x (outer v i) (suc i)) p.is in
    rw (add-one i) (record {
      frame = frame_trans w₀ w w' p.frame s.frame;
      long = still s.frame.same p.long;
      cells = s.cells;
      count = s.count;
      high = omega arith;
      is = is;
      noted = λ l. elim (ℕ_discrete i z) [
        | yes k ↦ e ∙ ap (λ (b : Bool). pick b (handle (cells_in w' n')) u) (eq-eqb i z k) ∙ ap (λ (x : Scan). handle x.stack) is
            ∙ ap (λ (x : ℕ). handle (scanned v t (suc x)).stack) k
        | no k ↦ e ∙ ap (λ (b : Bool). pick b (handle (cells_in w' n')) u) (ne_eqb i z k) ∙ p.noted (omega arith)
      ];
    })

pub part_all : (t : List ℤ) (v z : ℕ) (w₀ w : List ℕ) (n m u i : ℕ) → Part t v z w₀ w n m u i → v ≤ i → Scanned t v z w₀ w n u
part_all t v z w₀ w n m u i p h =
    let count = p.count in
    let high = p.high in
    let e : i ≡ v = omega arith in
    let f : v - n ≡ m = omega arith in
    record {
      frame = p.frame;
      cells = p.cells;
      count = omega arith;
      is = ap (scan_in v w n) f ∙ p.is ∙ ap (scanned v t) e;
      under = λ l. p.noted (omega arith);
    }

-- ---- the cut

pub cut_left : (t : List ℤ) (v z : ℕ) (w w₁ w₂ w₃ : List ℕ) (n r h : ℕ) → v ≤ 1023 → Cleared v w w₁ → Scanned t v z w₁ w₂ n r → z ≡ first (is_zero t) v → z < v
    → h ≡ handle (cells_in w₂ n) → w₃ ≡ joined w₂ (outer v v) h → CutLeft t v w w₃ r
unfolding flip_of under_zero
cut_left t v z w w₁ w₂ w₃ n r h most c s ez low eh e =
    let k : h < places v = rw eh (handle_low v w₂ n s.cells) in
    let flips = ap (λ (x : Scan). x.flips) s.is in
    let hs = ap (λ (x : Scan). handle x.stack) s.is in
    rw e (record {
      frame = frame_joined w w₂ (outer v v) h (frame_trans w w₁ w₂ c.frame s.frame) (omega arith) (omega arith);
      flips = table_joined v w₂ (outer v v) h (omega arith) k ∙ rw (eh, flips, hs) refl;
      under = s.under low ∙ ap (λ (x : ℕ). handle (scanned v t (suc x)).stack) ez;
    })
