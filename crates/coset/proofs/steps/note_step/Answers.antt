-- `note_step` stores where S leads from p, what it writes with the sign of the step (`sign_step`), and where a turn leads then; what is noted below p
-- stays, so now it is noted below p + 1 (`prepared_more`). All four numbers fit 16 bits (`step_low`, `letter_most`, `turn_low`). Assumes nothing.
use native.Mathlib.Omega.{arith}
use mathlib.Core.Path.{◌∙◌, ap}
use mathlib.Core.Bool.{true, false}
use Prim.Native.Nat.{ℕ}
use lib.IntN.{ℤ, pos, ◌-ℤ◌}
use lib.ListN.{length-set}
use mir.Facts.{to_z-of_z}
use mir.Syntax.{w16}
use Rattle.polygon.specs.Inner.Tables.{letters_of}
use Rattle.signs.specs.Sign.{◌·◌}
use Rattle.signs.specs.Step.{left_to_right, frame_sign, crossing_sign}
use Rattle.coset.proofs.Noted.{letter_most, sign_step, step_low, turn_low, noted_long, prepared_more}
use borrow.Author.Rules.{rules}
use Rattle.coset.proofs.steps.note_step.Goals as goal

pub coded-code-requires : goal.coded-code-requires
coded-code-requires c =
    let s = c in
    let e = to_z-of_z {w = w16} {z = c.letter_s-letter.result} (record { sfits = c.letter_s-letter.type_inv }) in
    rw e (letter_most s.args.v s.args.t.now s.requires.0.tables.symbol s.args.p c.letter_s-letter.result s.requires.2 c.letter_s-letter.ensures)

pub overflow_cast-w : goal.overflow_cast-w
overflow_cast-w c =
    let s = c in
    omega (
      arith,
      step_low s.args.v s.args.t.now s.requires.0.tables.symbol s.args.p c.step_s-to.result s.requires.2
          c.step_s-to.ensures,
      s.requires.0.tables.symbol.most,
    )

pub bounds-w-p-2 : goal.bounds-w-p-2
bounds-w-p-2 c =
    let s = c in
    simp length-set (omega (arith, s.requires.1, s.requires.0.tables.symbol.most, s.requires.0.tables.long))

pub overflow_cast-w-2 : goal.overflow_cast-w-2
overflow_cast-w-2 c =
    let s = c in
    let to = c.step_s-to in
    omega (
      arith,
      turn_low s.args.v s.args.t.now s.requires.0.tables.symbol s.args.p to.result s.requires.2 to.ensures false
          c.turn-forth.result c.turn-forth.ensures,
      s.requires.0.tables.symbol.most,
    )

pub bounds-w-p-3 : goal.bounds-w-p-3
bounds-w-p-3 c =
    let s = c in
    simp length-set (omega (arith, s.requires.1, s.requires.0.tables.symbol.most, s.requires.0.tables.long))

pub overflow_cast-w-3 : goal.overflow_cast-w-3
overflow_cast-w-3 c =
    let s = c in
    let to = c.step_s-to in
    omega (
      arith,
      turn_low s.args.v s.args.t.now s.requires.0.tables.symbol s.args.p to.result s.requires.2 to.ensures true
          c.turn-back.result c.turn-back.ensures,
      s.requires.0.tables.symbol.most,
    )

pub bounds-w-p-4 : goal.bounds-w-p-4
bounds-w-p-4 c =
    let s = c in
    simp length-set (omega (arith, s.requires.1, s.requires.0.tables.symbol.most, s.requires.0.tables.long))

pub returns : goal.returns
returns c =
    let s = c in
    let to = c.step_s-to in
    let l = c.letter_s-letter in
    let k = c.coded-code in
    let f = c.turn-forth in
    let b = c.turn-back in
    let y = c.with_sign-both in
    let x = c.sign_of_step-sign in
    let e = to_z-of_z {w = w16} {z = l.result} (record { sfits = l.type_inv }) in
    let told = ap (λ (z : ℤ). frame_sign s.args.v s.args.p · frame_sign s.args.v to.result
    · crossing_sign (letters_of z) (left_to_right s.args.v s.args.p)) e in (
      prepared_more s.requires.0 s.requires.1 to.result y.result f.result b.result l.result to.ensures
          (omega (arith, y.ensures.0, k.ensures.0))
          (ap (λ (n : ℕ). pos n -ℤ pos 1024) y.ensures.0 ∙ k.ensures.1 ∙ e) l.ensures
          (y.ensures.1 ∙ x.ensures ∙ told ∙ sign_step s.args.v s.args.t.now s.args.p to.result l.result to.ensures l.ensures)
          f.ensures b.ensures,
      noted_long s.requires.0 s.requires.1 to.result y.result f.result b.result,
    )
