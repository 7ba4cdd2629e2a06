-- `print_text` meets its contract: each answer of `read_sheet` has its bytes. Assumes nothing.
use Rattle.std.specs.Prelude.{Ok, Err}
use mathlib.Core.Path.{◌≡◌, sym, ap, ◌∙◌, subst}
use mathlib.Core.List.{List}
use Prim.Native.Nat.{ℕ}
use native.Mathlib.Omega.{arith}
use lib.IntN.{ℤ}
use lib.ListN.{take}
use lib.Seq.{take_all}
use Rattle.text.specs.Piece.{pieces, numbers}
use Rattle.text.proofs.OnceRead.{Standing, stands}
use Rattle.decimal.proofs.Placing.{puts_as}
use Rattle.query_text.specs.Printed.{sheet_reading, printed}
use Rattle.query_text.specs.Inner.SheetTable.{SheetNumbers}
use Rattle.query_text.proofs.SheetReadings.{Whole, whole_reading}
use Rattle.query_text.proofs.SheetAnswers.{by_reading_lem}
use Rattle.query_text.proofs.sheet_text.print_text.Goals.{After-read_sheet, In-Ok, Start}
use Rattle.query_text.proofs.sheet_text.print_text.Goals as goal

-- the numbers that were read
module _ (d : In-Ok) where
  abbrev read : After-read_sheet
  read = (goal.at.In-Ok d).After-read_sheet

  abbrev start : Start
  start = (goal.at.After-read_sheet read).Start

  abbrev all : List ℤ
  all = numbers (pieces start.args.text.now)

  abbrev count : ℕ
  count = d.in-Ok.k

  numbered : Ok count ≡ sheet_reading start.args.longer start.args.text.now
  numbered = sym d.in-Ok.is ∙ read.read_sheet.ensures.0

  whole : Whole all count
  whole = whole_reading start.args.longer start.args.text.now count (sym numbered)

  abbrev stood : List ℤ
  stood = read.read_sheet.new.ns

  standing : Standing all 5119 count stood
  standing =
      stands start.args.ns.now (omega (arith, whole.all, whole.symbol.whole)) whole.most (omega (arith, whole.all)) read.read_sheet.ensures.1
      d.in-Ok.is

  whole_front : SheetNumbers (take count stood)
  whole_front = subst SheetNumbers (sym (standing.front ∙ take_all count all (omega (arith, whole.all)))) whole.symbol

pub slice_bounds-print_sheet-end : goal.slice_bounds-print_sheet-end
slice_bounds-print_sheet-end c = (standing (goal.at.slice_bounds-print_sheet-end c).In-Ok).inside

pub slice_bounds-print_sheet-end-in-Ok : goal.slice_bounds-print_sheet-end-in-Ok
slice_bounds-print_sheet-end-in-Ok c = (standing (goal.at.slice_bounds-print_sheet-end-in-Ok c).In-Ok).long

pub print_sheet-requires : goal.print_sheet-requires
print_sheet-requires c =
    let d = c in
    (whole_front (goal.at.print_sheet-requires c).In-Ok, (start (goal.at.print_sheet-requires c).In-Ok).requires.1)

pub returns-in-Err : goal.returns-in-Err
returns-in-Err c =
    let a = c in
    let r = a in
    let s = r in
    let x = Err a.in-Err.refusal in
    let e = sym a.in-Err.is ∙ r.read_sheet.ensures.0 in
    puts_as (by_reading_lem s.args.longer s.args.text.now x e) c.refusal_line.ensures

pub returns-in-Ok : goal.returns-in-Ok
returns-in-Ok c =
    let l = c in
    let d = l in
    let s = start (goal.at.returns-in-Ok c).In-Ok in
    puts_as (ap printed (standing (goal.at.returns-in-Ok c).In-Ok).front ∙ by_reading_lem s.args.longer s.args.text.now (Ok (count (goal.at.returns-in-Ok c).In-Ok)) (numbered (goal.at.returns-in-Ok c).In-Ok)) l.print_sheet.ensures
