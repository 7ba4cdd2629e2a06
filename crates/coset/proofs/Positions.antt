-- THE POSITIONS OF AN ACCEPTED SYMBOL have what specs/Positions.antt promises (`positions`).
--
-- In order: a turn changes nothing of what turns write (`turn_writes`, `back_writes`); the equation of a step (`step_equation`, and
-- `crossing_equation` by what the tables of steps hold, `turn_equation` for Q and Q⁻¹), of a walk (`walk_equation`); `positions`.
-- Why: turns write at outer faces only, and there they stay; the equation of a walk is the sign of the matrix against its word times the
-- equation of the word.
-- Assumes nothing.
use mathlib.Core.Path.{◌≡◌, sym, ◌∙◌, ap}
use mathlib.Core.Bool.{Bool, true, false}
use mathlib.Core.List.{List, []}
use Prim.Native.Nat.{ℕ, ◌+◌, ◌≤◌, ◌<◌}
use native.Mathlib.Omega.{arith}
use native.Mathlib.Decide.{dec_lt}
use lib.ListN.{length}
use lib.IntN.{ℤ, pos}
use borrow.Author.Tests.{lt-ltb}
use Rattle.basics.specs.Choice.{pick}
use Rattle.matrix.specs.Matrix.{Mat, ◌⊗◌, det}
use Rattle.matrix.specs.Words.{Letter, S, Q, P, letter, value}
use Rattle.matrix.specs.Euclid.{word_of}
use Rattle.symbol.specs.Symbol.{IsSymbol}
use Rattle.pairing.specs.Generator.{generators, is_leader}
use Rattle.pairing.specs.Subgroup.{value_of}
use Rattle.polygon.specs.Cut.{corners}
use Rattle.polygon.specs.Step.{Real, step_s, turn_q, written}
use Rattle.polygon.specs.Walk.{ends, writes}
use Rattle.polygon.proofs.Flip.{Cutting, cutting, turn_face}
use Rattle.polygon.proofs.Steps.{turn_in}
use Rattle.polygon.proofs.Followed.{followed_turned, followed_upright, followed_unit}
use Rattle.polygon.proofs.SymbolFacts.{length_generators, count_most}
use Rattle.polygon.proofs.Polygon.{polygon}
use Rattle.signs.specs.Sign.{plus, ◌·◌, with_sign, matrix_sign}
use Rattle.signs.specs.Step.{step_sign, walk_sign}
pub use Rattle.signs.proofs.Sign.{·-plus}
use Rattle.signs.proofs.Sign.{sign_sign, sign_right}
use Rattle.signs.proofs.Word.{matrix_signs}
use Rattle.signs.proofs.Query.{signs}
use Rattle.normal_forms.proofs.Forms.{normal_forms}
use Rattle.coset.specs.Positions.{FrameEquation, StepEquation, most_generators, Positions}
use Rattle.coset.proofs.OneFrame.{one_frame}

module _ (v : ℕ) (t : List ℤ) (ok : IsSymbol v t) where
  -- ---- what turns write

  abbrev C : Cutting v t
  C = cutting v t ok

  silent_Q : (p : ℕ) → p < corners v → written v t Q p ≡ []
  unfolding written
  silent_Q p h = rw (lt-ltb p (corners v) h)

  silent_P : (p : ℕ) → p < corners v → written v t P p ≡ []
  unfolding written
  silent_P p h = rw (lt-ltb p (corners v) h)

  turn_writes : (p : ℕ) → written v t Q (turn_q v p) ≡ written v t Q p
  turn_writes p = elim (dec_lt p (corners v)) [
    | yes h ↦ silent_Q (turn_q v p) (turn_in v t ok C p h) ∙ sym (silent_Q p h)
    | no h ↦ ap (written v t Q) (turn_face v p (omega arith))
  ]

  back_writes : (p : ℕ) → written v t P (turn_q v (turn_q v p)) ≡ written v t P p
  back_writes p = elim (dec_lt p (corners v)) [
    | yes h ↦ silent_P (turn_q v (turn_q v p)) (turn_in v t ok C (turn_q v p) (turn_in v t ok C p h)) ∙ sym (silent_P p h)
    | no h ↦ (let e = turn_face v p (omega arith) in ap (λ (x : ℕ). written v t P (turn_q v x)) e ∙ ap (written v t P) e)
  ]

  -- ---- equations

  pub step_equation : (x : Letter) (p : ℕ) → Real v t p → StepEquation v t x p (step_sign v t x p) (written v t x p)
  step_equation x p r = record { frames = signs v t ok; is = (signs v t ok).promise x p r }

  -- S as the tables have it
  pub crossing_equation : (p q : ℕ) (l : List ℤ) (s : Bool) → Real v t p → q ≡ step_s v t p → l ≡ written v t S p → s ≡ step_sign v t S p
      → FrameEquation v t p (letter S) s l q
  crossing_equation p q l s r a b c = rw (a, b, c) (step_equation S p r)

  -- a turn by Q, or by Q⁻¹ where `inverse` holds
  pub turn_equation : (inverse : Bool) (p : ℕ) (l : List ℤ) → Real v t p → l ≡ written v t (pick inverse P Q) p
      → StepEquation v t (pick inverse P Q) p plus l
  unfolding step_sign
  turn_equation true p l r e = rw e (step_equation P p r)
  turn_equation false p l r e = rw e (step_equation Q p r)

  walk_equation : (m : Mat) (p : ℕ) → det m ≡ pos 1 → Real v t p
      → FrameEquation v t p m (matrix_sign m · walk_sign v t p (word_of m)) (writes v t p (word_of m)) (ends v t p (word_of m))
  walk_equation m p d r =
      let g = signs v t ok in
      let l = word_of m in
      let a = matrix_sign m in
      let b = walk_sign v t p l in
      let x = value_of (generators v t) (writes v t p l) ⊗ g.frame (ends v t p l) in
      record {
        frames = g;
        is = ap (λ (n : Mat). g.frame p ⊗ n) (matrix_signs m d) ∙ sign_right a (g.frame p) (value l) ∙ ap (with_sign a) (g.walk l p r)
            ∙ sign_sign a b x;
      }

  few_generators : length (generators v t) ≤ most_generators
  few_generators = omega (arith, length_generators v t, count_most (is_leader v t) (v + 1), ok.most)

pub positions : {v : ℕ} {t : List ℤ} → IsSymbol v t → Positions v t
positions {v} {t} ok = record {
  polygon = polygon v t ok;
  signs = signs v t ok;
  normal_forms = normal_forms v t ok;
  one_frame = one_frame;
  matrix_signs = matrix_signs;
  steps = step_equation v t ok;
  walks = walk_equation v t ok;
  turn_writes = turn_writes v t ok;
  back_writes = back_writes v t ok;
  followed_round = followed_turned v t;
  followed_upright = followed_upright v t;
  followed_unit = followed_unit v t;
  few_generators = few_generators v t ok;
}
