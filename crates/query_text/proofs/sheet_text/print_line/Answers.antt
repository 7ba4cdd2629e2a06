-- `print_line` meets its contract: a number that is not 0 is that of a refusal, and else the line names a word. Assumes nothing.
use mathlib.Core.Path.{◌≡◌, ap, ◌∙◌}
use mathlib.Core.List.{List}
use Prim.Native.Nat.{ℕ, ◌+◌, ◌*◌, ◌≤◌}
use native.Mathlib.Omega.{arith}
use lib.IntN.{ℤ, pos, nat_abs}
use lib.Signed.{le_z}
use lib.ListN.{length}
use mir.Syntax.{w64}
use mir.Facts.{to_z-of_z}
use Rattle.matrix.specs.Matrix.{nth}
use Rattle.decimal.proofs.Placing.{puts_as}
use Rattle.word.specs.Answer.{part_of}
use Rattle.query_text.specs.Inner.SheetTable.{named_word, used}
use Rattle.query_text.proofs.SheetPrinting.{refused_line, word_bytes, word_used, signs_apart}
use Rattle.query_text.proofs.sheet_text.print_line.Goals.{After-word_part-word, Start}
use Rattle.query_text.proofs.sheet_text.print_line.Goals as goal

-- the line names a word
module _ (m : After-word_part-word) where
  abbrev start : Start
  start = (goal.at.After-word_part-word m).Start

  abbrev l : List ℤ
  l = start.args.line.now

  abbrev letters : List ℤ
  letters = start.args.letters.now

  number_is : m.unsigned_abs-number.result ≡ nat_abs (nth l 0)
  number_is = m.unsigned_abs-number.ensures.value
      ∙ ap nat_abs (to_z-of_z {w = w64} {z = nth l 0} (record { sfits = m.unsigned_abs-arg-1.given }))

  no_number : m.unsigned_abs-number.result ≡ 0
  no_number = m.if-number-ne0.false

  from_is : m.unsigned_abs-place.result ≡ nat_abs (nth l 1)
  from_is = m.unsigned_abs-place.ensures.value
      ∙ ap nat_abs (to_z-of_z {w = w64} {z = nth l 1} (record { sfits = m.unsigned_abs-arg-2-1.given }))

  count_is : m.unsigned_abs-n.result ≡ nat_abs (nth l 2)
  count_is = m.unsigned_abs-n.ensures.value ∙ ap nat_abs (to_z-of_z {w = w64} {z = nth l 2} (record { sfits = m.unsigned_abs-arg-3-1.given }))

  word_is : m.word_part-word.result.now ≡ named_word l letters
  word_is =
      m.word_part-word.ensures
      ∙ ap (λ (n : ℕ). part_of letters n m.unsigned_abs-n.result) from_is
      ∙ ap (part_of letters (nat_abs (nth l 1))) count_is

  used_is : used l letters ≡ length m.word_part-word.result.now
  used_is = word_used l letters number_is no_number word_is

  room : start.args.at + (7 * length m.word_part-word.result.now + 27) ≤ length start.args.out.now
  room = omega (arith, used_is, start.requires.1)

pub returns-then-number-ne0 : goal.returns-then-number-ne0
returns-then-number-ne0 c =
    let s = c in
    let l = s.args.line.now in
    let number = c.unsigned_abs-number.ensures.value
    ∙ ap nat_abs (to_z-of_z {w = w64} {z = nth l 0}
    (record { sfits = c.unsigned_abs-arg-1.given })) in
    let place = c.unsigned_abs-place.ensures.value
    ∙ ap nat_abs (to_z-of_z {w = w64} {z = nth l 1} (record { sfits = c.unsigned_abs-arg-2-1.given })) in
    let p = c.line_of.ensures in record {
      puts = puts_as (refused_line l s.args.letters.now c.unsigned_abs-number.result
          c.unsigned_abs-place.result number place c.if-number-ne0.true) p.0;
      upper_bound = omega (arith, p.1);
    }

pub word_line-requires : goal.word_line-requires
word_line-requires c = room (goal.at.word_line-requires c).After-word_part-word

pub returns : goal.returns
returns c =
    let w = (goal.at.returns c).After-word_part-word in
    let sign = nth c.args.line.now 3 in
    let p = rw (to_z-of_z {w = w64} {z = sign} (record { sfits = omega arith })) at c.word_line.ensures in
    record {
      puts = puts_as (word_bytes (l w) (letters w) (number_is w) (no_number w) (word_is w) (le_z (pos 0) sign) (signs_apart sign)) p.0;
      upper_bound = omega (arith, p.1, used_is w);
    }
