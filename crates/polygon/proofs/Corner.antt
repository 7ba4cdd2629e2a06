-- Turns within a triangle: with matrices (`turning`), as arithmetic on the remainder by 3 (`corner_is`), and as the step by Q and by Q⁻¹ of a
-- position (`forth_is`, `back_is`), and so with the frames of a cut (`frame_turns`).
-- Why: there are three corners, so a turn leads to one of them only.
-- Assumes nothing.
use mathlib.Core.Path.{◌≡◌, refl, sym, ◌∙◌, ap}
use mathlib.Core.Bool.{Bool, true, false}
use Prim.Native.Nat.{ℕ, zero, suc, ◌+◌, ◌*◌, ◌-◌, ◌%◌, ◌<◌}
use native.Mathlib.Omega.{arith}
use lib.IntN.{ℤ, pos, ◌+ℤ◌, ◌*ℤ◌, +ℤ_idl, +ℤ_idr, *ℤ-zero}
use mir.Val.{bool_byte}
use Rattle.matrix.specs.Matrix.{Mat, ◌⊗◌, adj, mat_q, mat_p}
use Rattle.matrix.proofs.Integer.{*-one}
use Rattle.matrix.proofs.Matrix.{⊗-assoc, Q_Q}
use Rattle.polygon.specs.Cut.{corners}
use Rattle.polygon.specs.Step.{turn_q}
use Rattle.polygon.specs.Corner.{Apex, left, middle, right, edge_from, edge_to, TurnsTo, FrameTurns, Turning}
use Rattle.polygon.proofs.Flip.{turn_last, turn_next, c0, c1, c2, which}

pub turning : Turning
unfolding ◌⊗◌ adj mat_q mat_p
turning m =
    let zero_one : (x y : ℤ) → x *ℤ pos 0 +ℤ y *ℤ pos 1 ≡ y = λ x y. rw (*ℤ-zero x, *-one y) (+ℤ_idl y) in
    let one-zero : (x y : ℤ) → x *ℤ pos 1 +ℤ y *ℤ pos 0 ≡ x = λ x y. rw (*ℤ-zero y, *-one x) (+ℤ_idr x) in
    (rw (zero_one m.a m.b, zero_one m.c m.d), rw (one-zero m.a m.b, one-zero m.c m.d))

-- ---- the arithmetic

pub corner_is : (b : Bool) (c : ℕ) → c < 3 → TurnsTo b c ((c + 1 + bool_byte b) % 3)
corner_is false zero h = refl
corner_is false (suc zero) h = refl
corner_is false (suc (suc zero)) h = refl
corner_is true zero h = refl
corner_is true (suc zero) h = refl
corner_is true (suc (suc zero)) h = refl
corner_is b (suc (suc (suc c))) h = absurd (omega arith)

-- ---- a turn leads to one corner only

begun : Apex → ℕ
begun left = 0
begun middle = 1
begun right = 2

ended : Apex → ℕ
ended right = 0
ended left = 1
ended middle = 2

edge_from_is : (c : ℕ) → c < 3 → begun (edge_from c) ≡ c
unfolding begun
edge_from_is zero h = refl
edge_from_is (suc zero) h = refl
edge_from_is (suc (suc zero)) h = refl
edge_from_is (suc (suc (suc c))) h = absurd (omega arith)

edge_to_is : (c : ℕ) → c < 3 → ended (edge_to c) ≡ c
unfolding ended
edge_to_is zero h = refl
edge_to_is (suc zero) h = refl
edge_to_is (suc (suc zero)) h = refl
edge_to_is (suc (suc (suc c))) h = absurd (omega arith)

pub one_corner : (b : Bool) (c d d' : ℕ) → d < 3 → d' < 3 → TurnsTo b c d → TurnsTo b c d' → d ≡ d'
one_corner false c d d' h h' t t' = sym (edge_to_is d h) ∙ ap ended (t ∙ sym t') ∙ edge_to_is d' h'
one_corner true c d d' h h' t t' = sym (edge_from_is d h) ∙ ap begun (t ∙ sym t') ∙ edge_from_is d' h'

-- so it is the remainder
pub by_remainder : (b : Bool) (c d : ℕ) → c < 3 → d < 3 → TurnsTo b c d → d ≡ (c + 1 + bool_byte b) % 3
by_remainder b c d k h t = one_corner b c d ((c + 1 + bool_byte b) % 3) h (omega arith) t (corner_is b c k)

-- ---- the steps of a position

module _ (v p d : ℕ) (h : p < corners v) (low : d < 3) where
  pub forth_is : TurnsTo false (p % 3) d → p - p % 3 + d ≡ turn_q v p
  forth_is t =
      let e = by_remainder false (p % 3) d (omega arith) low t in
      elim (which p) [
        | c0 z ↦ omega arith ∙ sym (turn_next v p h (omega arith))
        | c1 z ↦ omega arith ∙ sym (turn_next v p h (omega arith))
        | c2 z ↦ omega arith ∙ sym (turn_last v p h z)
      ]

  pub back_is : TurnsTo true (p % 3) d → p - p % 3 + d ≡ turn_q v (turn_q v p)
  back_is t =
      let e = by_remainder true (p % 3) d (omega arith) low t in
      elim (which p) [
        | c0 z ↦ omega arith ∙ sym (ap (turn_q v) (turn_next v p h (omega arith)) ∙ turn_next v (p + 1) (omega arith) (omega arith))
        | c1 z ↦ omega arith ∙ sym (ap (turn_q v) (turn_next v p h (omega arith)) ∙ turn_last v (p + 1) (omega arith) (omega arith))
        | c2 z ↦ omega arith ∙ sym (ap (turn_q v) (turn_last v p h z) ∙ turn_next v (p - 2) (omega arith) (omega arith))
      ]

-- a turn stays among the corners
turn_low : (v p : ℕ) → p < corners v → turn_q v p < corners v
turn_low v p h = elim (which p) [
  | c0 z ↦ rw (turn_next v p h (omega arith)) (omega arith)
  | c1 z ↦ rw (turn_next v p h (omega arith)) (omega arith)
  | c2 z ↦ rw (turn_last v p h z) (omega arith)
]

-- ---- the frames

pub frame_turns : FrameTurns
frame_turns v t frame g k c d h hc hd false z =
    let p = 3 * k + c in
    let e : p % 3 ≡ c = omega arith in
    let f = forth_is v p d (omega arith) hd (rw e z) in
    g.turn_Q p (omega arith) ∙ ap frame (sym f ∙ omega arith)
frame_turns v t frame g k c d h hc hd true z =
    let p = 3 * k + c in
    let e : p % 3 ≡ c = omega arith in
    let f = back_is v p d (omega arith) hd (rw e z) in
    let q = turn_q v p in
    let low : q < corners v = turn_low v p (omega arith) in
    ap (λ (m : Mat). frame p ⊗ m) (sym Q_Q) ∙ sym (⊗-assoc (frame p) mat_q mat_q) ∙ ap (λ (m : Mat). m ⊗ mat_q) (g.turn_Q p (omega arith)) ∙ g.turn_Q q low
    ∙ ap frame (sym f ∙ omega arith)
