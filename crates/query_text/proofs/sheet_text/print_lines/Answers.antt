use mathlib.Core.Path.{◌≡◌, ap, ◌∙◌}
use mathlib.Core.List.{List}
use Prim.Native.Nat.{ℕ, suc, ◌+◌, ◌-◌, ◌*◌, ◌≤◌, ◌<◌}
use native.Mathlib.Nat.{add-sub_cancel_left}
use native.Mathlib.Numerals.{add-one}
use native.Mathlib.Omega.{arith}
use lib.IntN.{ℤ}
use lib.ListN.{length, take, drop, length-drop}
use lib.Seq.{length-take-le}
use Rattle.decimal.proofs.Placing.{puts_as}
use Rattle.sheets.specs.Sheet.{line_in}
use Rattle.query_text.specs.Inner.SheetTable.{used, printed_rows, used_to}
use Rattle.query_text.proofs.SheetPrinting.{printing_none, printing_more}
use Rattle.query_text.proofs.sheet_text.print_lines.Goals.{At-loop-i, Start}
use Rattle.query_text.proofs.sheet_text.print_lines.Goals as goal

pub loop-i-init : goal.loop-i-init
loop-i-init c = printing_none _ _ _

-- the next line, as the code lends it, and room for it
module _ (l : At-loop-i) where
  abbrev start : Start
  start = (goal.at.At-loop-i l).Start

  abbrev part : List ℤ
  part = take (4 * l.loop-i.i + 4 - 4 * l.loop-i.i) (drop (4 * l.loop-i.i) start.args.lines.now)

  part_is : part ≡ line_in start.args.lines.now l.loop-i.i
  part_is = ap (λ (j : ℕ). take j (drop (4 * l.loop-i.i) start.args.lines.now)) (add-sub_cancel_left (4 * l.loop-i.i) 4)

  module _ (h : l.loop-i.i < start.args.n) where
    four_long : length part ≡ 4
    four_long =
        ap length part_is
        ∙ length-take-le 4 (drop (4 * l.loop-i.i) start.args.lines.now)
        (omega (arith, length-drop (4 * l.loop-i.i) start.args.lines.now, start.requires.table))

    one_more : l.loop-i.end + (7 * used part start.args.letters.now + 50) ≤ length l.loop-i.out
    unfolding used_to
    one_more = omega (
      arith,
      ap (λ (x : List ℤ). used x start.args.letters.now) part_is,
      l.loop-i.invariant.most,
      l.loop-i.invariant.same,
      start.requires.few,
      start.requires.word_space (suc l.loop-i.i) (omega arith),
      start.requires.out_long,
    )

pub print_line-end-requires : goal.print_line-end-requires
print_line-end-requires c =
    let l = (goal.at.print_line-end-requires c).At-loop-i in
    (four_long l c.loop-i-test.true, one_more l c.loop-i-test.true)

pub loop-i-preserved : goal.loop-i-preserved
loop-i-preserved c =
    let e = c.print_line-end.ensures in
    let l = (goal.at.loop-i-preserved c).At-loop-i in
    printing_more l.loop-i.invariant (part_is l) e.puts e.upper_bound
    (omega (arith, e.upper_bound, one_more l c.loop-i-test.true)) (l.loop-i.i + 1) (add-one l.loop-i.i)

pub shape_of-out : goal.shape_of-out
shape_of-out c = c.loop-i.invariant.same

pub returns : goal.returns
returns c =
    let l = c in
    let s = l in
    let end : l.loop-i.i ≡ s.args.n = omega arith in
    puts_as (ap (printed_rows s.args.lines.now s.args.letters.now) end) l.loop-i.invariant.puts
