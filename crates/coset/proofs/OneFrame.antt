-- THE FRAMES OF A SYMBOL ARE ONE FUNCTION: two that have what `Signs` says of frames agree at every place (`one_frame`).
--
-- Why: the outer faces have the frames of their sides. Beyond corner 0 of a triangle lies the last side or a triangle of a higher number, and S takes
-- the frame there to the one here, sign included; Q takes it to the other two corners. So the triangles agree, from the highest number down.
-- Assumes nothing.
use mathlib.Core.Path.{◌≡◌, sym, ◌∙◌, ap, subst}
use mathlib.Core.Logic.{inl, inr}
use mathlib.Core.List.{List}
use Prim.Native.Nat.{ℕ, zero, suc, ◌+◌, ◌*◌, ◌-◌, ◌/◌, ◌%◌, ◌≤◌, ◌<◌}
use native.Mathlib.Omega.{arith}
use native.Mathlib.Decide.{dec_lt}
use lib.IntN.{ℤ}
use Rattle.matrix.specs.Matrix.{Mat, ◌⊗◌, mat_s, mat_q}
use Rattle.polygon.specs.Cut.{corners, outer, places, flip}
use Rattle.polygon.specs.Step.{turn_q}
use Rattle.polygon.proofs.Flip.{which, c0, c1, c2, turn_next}
use Rattle.signs.specs.Sign.{with_sign}
use Rattle.signs.specs.Step.{flip_sign}
use Rattle.signs.specs.Theorem.{Signs}
use Rattle.signs.proofs.Sign.{sign_back}

module _ {v : ℕ} {t : List ℤ} (f g : Signs v t) where
  abbrev Same : ℕ → Type 0
  Same p = f.frame p ≡ g.frame p

  face_same : (i : ℕ) → Same (outer v i)
  face_same i = f.cut.sides i ∙ sym (g.cut.sides i)

  -- from the other side of the edge
  over : (p : ℕ) → p < places v → Same (flip v t p) → Same p
  over p h e =
      let q = flip v t p in
      let low = f.cut.within p h in
      let back : flip v t q ≡ p = f.cut.flips p in
      let s = flip_sign v t q in
      let a : f.frame q ⊗ mat_s ≡ with_sign s (f.frame p) = f.turn_S q low ∙ ap (λ (x : ℕ). with_sign s (f.frame x)) back in
      let b : g.frame q ⊗ mat_s ≡ with_sign s (g.frame p) = g.turn_S q low ∙ ap (λ (x : ℕ). with_sign s (g.frame x)) back in
      sign_back s (f.frame q ⊗ mat_s) (f.frame p) a ∙ ap (λ (m : Mat). with_sign s (m ⊗ mat_s)) e
      ∙ sym (sign_back s (g.frame q ⊗ mat_s) (g.frame p) b)

  -- to the next corner
  onward : (p : ℕ) → p < corners v → (p % 3 ≡ 2 → ⊥) → Same p → Same (p + 1)
  onward p h n e =
      subst Same (turn_next v p h n) (sym (f.cut.turn_Q p h) ∙ ap (λ (m : Mat). m ⊗ mat_q) e ∙ g.cut.turn_Q p h)

  -- from corner 0 of its triangle to p
  within : (p : ℕ) → p < corners v → Same (3 * (p / 3)) → Same p
  within p h e = elim (which p) [
    | c0 z ↦ (let k : 3 * (p / 3) ≡ p = omega arith in subst Same k e)
    | c1 z ↦ (let k : 3 * (p / 3) + 1 ≡ p = omega arith in subst Same k (onward (3 * (p / 3)) (omega arith) (λ n. omega arith) e))
    | c2 z ↦
        (let k : 3 * (p / 3) + 1 + 1 ≡ p = omega arith in
        subst Same k (onward (3 * (p / 3) + 1) (omega arith) (λ n. omega arith) (onward (3 * (p / 3)) (omega arith) (λ n. omega arith) e)))
  ]

  abbrev Down : ℕ → Type 0
  Down n = (k : ℕ) → k < v - 1 → v - 1 - k ≤ n → Same (3 * k)

  step : (n : ℕ) → Down n → Down (suc n)
  step n d k h m =
      let q = flip v t (3 * k) in
      let a = f.cut.above k h in
      over (3 * k) (omega arith)
      (elim a.1 [
        | inl low ↦ within q low (d (q / 3) (omega arith) (omega (arith, a.0)))
        | inr e ↦ subst Same (sym e) (face_same v)
      ])

  down : (n : ℕ) → Down n
  down zero k h m = absurd (omega arith)
  down (suc n) k h m = step n (down n) k h m

  pub one_frame : (p : ℕ) → p < places v → Same p
  one_frame p h = elim (dec_lt p (corners v)) [
    | yes l ↦ within p l (down (v - 1) (p / 3) (omega arith) (omega arith))
    | no l ↦ (let e : outer v (p - corners v) ≡ p = omega arith in subst Same e (face_same (p - corners v)))
  ]
