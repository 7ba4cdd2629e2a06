-- `give_sheet` meets its contract: too few numbers, a number of entries that is no sheet, or all of them, which fit. Assumes nothing.
use mathlib.Core.Path.{◌≡◌, refl, sym, ◌∙◌}
use mathlib.Core.Bool.{false}
use Prim.Native.Nat.{◌-◌}
use native.Mathlib.Omega.{arith}
use lib.ListN.{length}
use Rattle.text.specs.Inner.Inside.{left_by}
use Rattle.sheets.specs.Sheet.{bad_count}
use Rattle.query_text.proofs.SheetReadings.{few_numbers, bad_entries, all_numbers, entries_most}
use Rattle.query_text.proofs.sheet_text.give_sheet.Goals as goal

pub returns-then-count-wanted : goal.returns-then-count-wanted
unfolding left_by
returns-then-count-wanted c = let s = c in (few_numbers s.args.wanted s.args.count (length s.args.text.now) c.if-count-wanted.true, refl)

pub returns-then-is_bad_count : goal.returns-then-is_bad_count
unfolding left_by
returns-then-is_bad_count c = let s = c in (
  bad_entries s.args.wanted s.args.count (length s.args.text.now) c.if-count-wanted.false
      (sym c.is_bad_count.ensures ∙ c.if-is_bad_count.true),
  refl,
)

pub fill-requires : goal.fill-requires
fill-requires c =
    let s = c in
    let e : bad_count (s.args.count - s.args.wanted) ≡ false = sym c.is_bad_count.ensures ∙ c.if-is_bad_count.false in
    (s.requires.0, omega (arith, s.requires.1), omega (arith, entries_most (s.args.count - s.args.wanted) e, s.requires.2, s.requires.3))

pub returns : goal.returns
unfolding left_by
returns c = let s = c in (
  all_numbers s.args.wanted s.args.count (length s.args.text.now) c.if-count-wanted.false
      (sym c.is_bad_count.ensures ∙ c.if-is_bad_count.false),
  c.fill.ensures,
)
