-- What is read where, after a side was split in its cell.
--   Splits w c k m a b    what a split asks for
--
-- In order: lengths (`held_long`, `joined_long`, `queued_long`, `split_long`); each table after the split: LABEL (`read_label`), HELD
-- (`held_a`, `held_b`, `held_m`, `held_other`), the cells (`end_old`, `end_new`, `pt_own`, `pt_new`, `pt_other`), LINK (`link_own`, `link_new`,
-- `link_other`), QUEUE (`queue_a`, `queue_b`, `queue_other`).
-- Assumes nothing.
use mathlib.Core.Path.{◌≡◌, sym, ◌∙◌, ap}
use mathlib.Core.Logic.{◌⊎◌, inl, inr}
use mathlib.Core.List.{List}
use Prim.Native.Nat.{ℕ, suc, ◌+◌, ◌-◌, ◌*◌, ◌≤◌, ◌<◌}
use native.Mathlib.Omega.{arith}
use native.Mathlib.Decide.{dec_lt}
use lib.ListN.{length, get_or, set, length-set}
use lib.Seq.{get_or-set_same, get_or-set_other}
use lib.IntN.{pos, ◌-ℤ◌}
use Rattle.import_rule.specs.Side.{vertex, limit}
use Rattle.import_sides.specs.Inner.Work.{LABEL, HELD, DONE, TODO, cell_place, end_at, point_at, cell_set}
use Rattle.import_sides.proofs.Cells.{number_same, cell_length, cell_other, cell_num, cell_den, cell_pt}
use Rattle.import_sides.proofs.Held.{vertex_eq}
use Rattle.import_sides.specs.Inner.Cells.{LINK, QUEUE, link_at, held_at, queue_at, held_by, linked, queued}

pub held_long : (w : List ℕ) (m a b x y : ℕ) → length (held_by w m a b x y) ≡ length w
held_long w m a b x y = simp length-set

pub joined_long : (w : List ℕ) (c k l : ℕ) → length (linked w c k l) ≡ length w
joined_long w c k l = simp length-set

pub queued_long : (w : List ℕ) (t a b : ℕ) → length (queued w t a b) ≡ length w
queued_long w t a b = simp length-set

-- what a split asks for: of the side in cell c, with the point m, where there are k sides and the parts have the points a and b
pub record Splits (w : List ℕ) (c k m a b : ℕ) : Type 0 where
  pub long : 32768 ≤ length w
  pub c_low : c < 1024
  pub k_low : k < 1024
  pub some : 3 ≤ k
  pub m_low : m < 4096
  pub a_low : a < 4096
  pub b_low : b < 4096
  pub differ : ¬ (c ≡ k)

module _ (w : List ℕ) (c k e d m a b l : ℕ) (f : Splits w c k m a b) where
  abbrev w1 : List ℕ
  w1 = held_by w m a b (k + 1) (c + 1)

  abbrev w2 : List ℕ
  w2 = set w1 (cell_place TODO c + 4) b

  abbrev w3 : List ℕ
  w3 = cell_set w2 (cell_place TODO k) e d a

  abbrev w4 : List ℕ
  w4 = linked w3 c k l

  abbrev pub now : List ℕ
  now = queued w4 (2 * k - 3) a b

  long1 : length w1 ≡ length w
  long1 = held_long w m a b (k + 1) (c + 1)

  long2 : length w2 ≡ length w
  long2 = length-set w1 (cell_place TODO c + 4) b ∙ long1

  long3 : length w3 ≡ length w
  long3 = cell_length w2 (cell_place TODO k) e d a ∙ long2

  long4 : length w4 ≡ length w
  long4 = joined_long w3 c k l ∙ long3

  pub split_long : length now ≡ length w
  split_long = queued_long w4 (2 * k - 3) a b ∙ long4

  -- through the tables above
  read4 : (j : ℕ) → j < QUEUE → get_or now j 0 ≡ get_or w4 j 0
  read4 j h =
      get_or-set_other (set w4 (QUEUE + (2 * k - 3)) a) (QUEUE + (2 * k - 3) + 1) j b 0 (λ z. omega arith)
      ∙ get_or-set_other w4 (QUEUE + (2 * k - 3)) j a 0 (λ z. omega arith)

  read3 : (j : ℕ) → j < LINK → get_or now j 0 ≡ get_or w3 j 0
  read3 j h =
      read4 j (omega arith) ∙ get_or-set_other (set w3 (LINK + k) l) (LINK + c) j (k + 1) 0 (λ z. omega arith)
      ∙ get_or-set_other w3 (LINK + k) j l 0 (λ z. omega arith)

  -- outside of the new cell
  read2 : (j : ℕ) → j < LINK → (j < cell_place TODO k) ⊎ (cell_place TODO k + 5 ≤ j) → get_or now j 0 ≡ get_or w2 j 0
  read2 j h o = read3 j h ∙ cell_other w2 (cell_place TODO k) e d a j o

  -- outside of HELD
  away : (j x : ℕ) → x < 4096 → (j < HELD) ⊎ (DONE ≤ j) → ¬ (j ≡ HELD + x)
  away j x h (inl o) q = omega arith
  away j x h (inr o) q = omega arith

  read1 : (j : ℕ) → (j < HELD) ⊎ (DONE ≤ j) → get_or w1 j 0 ≡ get_or w j 0
  read1 j o =
      get_or-set_other (set (set w (HELD + m) 0) (HELD + a) (k + 1)) (HELD + b) j (c + 1) 0 (away j b f.b_low o)
      ∙ get_or-set_other (set w (HELD + m) 0) (HELD + a) j (k + 1) 0 (away j a f.a_low o)
      ∙ get_or-set_other w (HELD + m) j 0 0 (away j m f.m_low o)

  pub read_label : (x : ℕ) → x < 4096 → get_or now (LABEL + x) 0 ≡ get_or w (LABEL + x) 0
  read_label x h =
      read2 (LABEL + x) (omega arith) (inl (omega arith)) ∙ get_or-set_other w1 (cell_place TODO c + 4) (LABEL + x) b 0 (λ z. omega arith)
      ∙ read1 (LABEL + x) (inl (omega arith))

  -- ---- HELD

  held1 : (x : ℕ) → x < 4096 → held_at now x ≡ held_at w1 x
  held1 x h = read2 (HELD + x) (omega arith) (inl (omega arith)) ∙ get_or-set_other w1 (cell_place TODO c + 4) (HELD + x) b 0 (λ z. omega arith)

  pub held_b : (x : ℕ) → x ≡ b → held_at now x ≡ suc c
  held_b x q =
      ap (held_at now) q ∙ held1 b f.b_low
      ∙ get_or-set_same (set (set w (HELD + m) 0) (HELD + a) (k + 1)) (HELD + b) (c + 1) 0
      (rw (length-set (set w (HELD + m) 0) (HELD + a) (k + 1), length-set w (HELD + m) 0) (omega arith)) ∙ omega arith

  pub held_a : (x : ℕ) → ¬ (x ≡ b) → x ≡ a → held_at now x ≡ suc k
  held_a x nb q =
      let h : x < 4096 = omega arith in
      held1 x h
      ∙ get_or-set_other (set (set w (HELD + m) 0) (HELD + a) (k + 1)) (HELD + b) (HELD + x) (c + 1) 0 (λ z. nb (omega arith))
      ∙ ap (λ (y : ℕ). get_or (set (set w (HELD + m) 0) (HELD + a) (k + 1)) (HELD + y) 0) q
      ∙ get_or-set_same (set w (HELD + m) 0) (HELD + a) (k + 1) 0 (rw (length-set w (HELD + m) 0) (omega arith)) ∙ omega arith

  pub held_m : (x : ℕ) → ¬ (x ≡ b) → ¬ (x ≡ a) → x ≡ m → held_at now x ≡ 0
  held_m x nb na q =
      let h : x < 4096 = omega arith in
      held1 x h
      ∙ get_or-set_other (set (set w (HELD + m) 0) (HELD + a) (k + 1)) (HELD + b) (HELD + x) (c + 1) 0 (λ z. nb (omega arith))
      ∙ get_or-set_other (set w (HELD + m) 0) (HELD + a) (HELD + x) (k + 1) 0 (λ z. na (omega arith))
      ∙ ap (λ (y : ℕ). get_or (set w (HELD + m) 0) (HELD + y) 0) q
      ∙ get_or-set_same w (HELD + m) 0 0 (omega arith)

  pub held_other : (x : ℕ) → x < 4096 → ¬ (x ≡ b) → ¬ (x ≡ a) → ¬ (x ≡ m) → held_at now x ≡ held_at w x
  held_other x h nb na nm =
      held1 x h
      ∙ get_or-set_other (set (set w (HELD + m) 0) (HELD + a) (k + 1)) (HELD + b) (HELD + x) (c + 1) 0 (λ z. nb (omega arith))
      ∙ get_or-set_other (set w (HELD + m) 0) (HELD + a) (HELD + x) (k + 1) 0 (λ z. na (omega arith))
      ∙ get_or-set_other w (HELD + m) (HELD + x) 0 0 (λ z. nm (omega arith))

  -- ---- the cells

  -- a number of a cell other than the new one
  in_cell : (x i : ℕ) → x < 1024 → ¬ (x ≡ k) → i < 5 → (cell_place TODO x + i < cell_place TODO k) ⊎ (cell_place TODO k + 5 ≤ cell_place TODO x + i)
  in_cell x i h n g = elim (dec_lt x k) [ yes y ↦ inl (omega arith) | no y ↦ inr (omega arith) ]

  cell_read : (x i : ℕ) → x < 1024 → ¬ (x ≡ k) → i < 5 → ¬ (cell_place TODO x + i ≡ cell_place TODO c + 4)
      → get_or now (cell_place TODO x + i) 0 ≡ get_or w (cell_place TODO x + i) 0
  cell_read x i h n g q =
      read2 (cell_place TODO x + i) (omega arith) (in_cell x i h n g) ∙ get_or-set_other w1 (cell_place TODO c + 4) (cell_place TODO x + i) b 0 q
      ∙ read1 (cell_place TODO x + i) (inr (omega arith))

  first_number : (x : ℕ) → x < 1024 → ¬ (x ≡ k) → get_or now (cell_place TODO x) 0 ≡ get_or w (cell_place TODO x) 0
  first_number x h n =
      let z : cell_place TODO x + 0 ≡ cell_place TODO x = omega arith in
      ap (λ (j : ℕ). get_or now j 0) (sym z) ∙ cell_read x 0 h n (omega arith) (λ q. omega arith) ∙ ap (λ (j : ℕ). get_or w j 0) z

  pub end_old : (x : ℕ) → x < 1024 → ¬ (x ≡ k) → end_at now (cell_place TODO x) ≡ end_at w (cell_place TODO x)
  end_old x h n =
      let z : cell_place TODO x + 2 + 1 ≡ cell_place TODO x + 3 = omega arith in
      vertex_eq (ap (λ (y : ℕ). pos y -ℤ pos limit)
      (number_same w now (cell_place TODO x) (first_number x h n) (cell_read x 1 h n (omega arith) (λ q. omega arith))))
      (number_same w now (cell_place TODO x + 2) (cell_read x 2 h n (omega arith) (λ q. omega arith))
      (ap (λ (j : ℕ). get_or now j 0) z ∙ cell_read x 3 h n (omega arith) (λ q. omega arith) ∙ ap (λ (j : ℕ). get_or w j 0) (sym z)))

  pub pt_other : (x : ℕ) → x < 1024 → ¬ (x ≡ k) → ¬ (x ≡ c) → point_at now (cell_place TODO x) ≡ point_at w (cell_place TODO x)
  pt_other x h n q = cell_read x 4 h n (omega arith) (λ z. q (omega arith))

  pub pt_own : point_at now (cell_place TODO c) ≡ b
  pt_own =
      read2 (cell_place TODO c + 4) (omega arith) (in_cell c 4 f.c_low f.differ (omega arith))
      ∙ get_or-set_same w1 (cell_place TODO c + 4) b 0 (rw long1 (omega arith))

  room : cell_place TODO k + 5 ≤ length w2
  room = rw long2 (omega arith)

  pub pt_new : point_at now (cell_place TODO k) ≡ a
  pt_new = read3 (cell_place TODO k + 4) (omega arith) ∙ cell_pt w2 (cell_place TODO k) e d a room

  pub end_new : end_at now (cell_place TODO k) ≡ vertex (pos e -ℤ pos limit) d
  end_new =
      vertex_eq (ap (λ (y : ℕ). pos y -ℤ pos limit)
      (number_same w3 now (cell_place TODO k) (read3 (cell_place TODO k) (omega arith)) (read3 (cell_place TODO k + 1) (omega arith))
      ∙ cell_num w2 (cell_place TODO k) e d a room))
      (number_same w3 now (cell_place TODO k + 2) (read3 (cell_place TODO k + 2) (omega arith)) (read3 (cell_place TODO k + 2 + 1) (omega arith))
      ∙ cell_den w2 (cell_place TODO k) e d a room)

  -- ---- LINK

  link2 : (x : ℕ) → x < 1024 → link_at w3 x ≡ link_at w x
  link2 x h =
      cell_other w2 (cell_place TODO k) e d a (LINK + x) (inr (omega arith)) ∙ get_or-set_other w1 (cell_place TODO c + 4) (LINK + x) b 0 (λ z. omega arith)
      ∙ read1 (LINK + x) (inr (omega arith))

  pub link_own : link_at now c ≡ suc k
  link_own =
      read4 (LINK + c) (omega arith) ∙ get_or-set_same (set w3 (LINK + k) l) (LINK + c) (k + 1) 0 (rw (length-set w3 (LINK + k) l, long3) (omega arith))
      ∙ omega arith

  pub link_new : link_at now k ≡ l
  link_new =
      read4 (LINK + k) (omega arith) ∙ get_or-set_other (set w3 (LINK + k) l) (LINK + c) (LINK + k) (k + 1) 0 (λ z. f.differ (omega arith))
      ∙ get_or-set_same w3 (LINK + k) l 0 (rw long3 (omega arith))

  pub link_other : (x : ℕ) → x < 1024 → ¬ (x ≡ c) → ¬ (x ≡ k) → link_at now x ≡ link_at w x
  link_other x h nc nk =
      read4 (LINK + x) (omega arith) ∙ get_or-set_other (set w3 (LINK + k) l) (LINK + c) (LINK + x) (k + 1) 0 (λ z. nc (omega arith))
      ∙ get_or-set_other w3 (LINK + k) (LINK + x) l 0 (λ z. nk (omega arith)) ∙ link2 x h

  -- ---- QUEUE

  pub queue_other : (x : ℕ) → x < 2 * k - 3 → queue_at now x ≡ queue_at w x
  queue_other x h =
      get_or-set_other (set w4 (QUEUE + (2 * k - 3)) a) (QUEUE + (2 * k - 3) + 1) (QUEUE + x) b 0 (λ z. omega arith)
      ∙ get_or-set_other w4 (QUEUE + (2 * k - 3)) (QUEUE + x) a 0 (λ z. omega arith)
      ∙ get_or-set_other (set w3 (LINK + k) l) (LINK + c) (QUEUE + x) (k + 1) 0 (λ z. omega arith)
      ∙ get_or-set_other w3 (LINK + k) (QUEUE + x) l 0 (λ z. omega arith)
      ∙ cell_other w2 (cell_place TODO k) e d a (QUEUE + x) (inr (omega arith)) ∙ get_or-set_other w1 (cell_place TODO c + 4) (QUEUE + x) b 0 (λ z. omega arith)
      ∙ read1 (QUEUE + x) (inr (omega arith))

  pub queue_a : queue_at now (2 * k - 3) ≡ a
  queue_a =
      get_or-set_other (set w4 (QUEUE + (2 * k - 3)) a) (QUEUE + (2 * k - 3) + 1) (QUEUE + (2 * k - 3)) b 0 (λ z. omega arith)
      ∙ get_or-set_same w4 (QUEUE + (2 * k - 3)) a 0 (rw long4 (omega arith))

  pub queue_b : queue_at now (2 * k - 3 + 1) ≡ b
  queue_b =
      let z : QUEUE + (2 * k - 3 + 1) ≡ QUEUE + (2 * k - 3) + 1 = omega arith in
      ap (λ (j : ℕ). get_or now j 0) z
      ∙ get_or-set_same (set w4 (QUEUE + (2 * k - 3)) a) (QUEUE + (2 * k - 3) + 1) b 0 (rw (length-set w4 (QUEUE + (2 * k - 3)) a, long4) (omega arith))
