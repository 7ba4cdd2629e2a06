-- `to_cycles_text`: the tables that the text asks for stand where the export is made from them. Assumes nothing.
use mathlib.Core.Path.{◌≡◌, sym, ◌∙◌}
use mathlib.Core.Bool.{Bool}
use mathlib.Core.List.{List}
use native.Mathlib.Omega.{arith}
use Prim.Native.Nat.{ℕ, ◌≤◌}
use lib.ListN.{take}
use lib.Seq.{length-take-le}
use Rattle.decimal.proofs.Placing.{puts_as}
use Rattle.symbol_texts.specs.ImportAnswer.{Request, tables, request_of}
use Rattle.symbol_texts.specs.Inner.ImportSpaces.{TablesRead}
use Rattle.symbol_texts.proofs.ImportAnswering.{read_refused}
use Rattle.cycle_texts.proofs.ToCyclesPrinting.{line_as}
use Rattle.cycle_texts.proofs.to_cycles_text.to_cycles_text.Goals.{After-read_tables-read, In-Ok, Start}
use Rattle.cycle_texts.proofs.to_cycles_text.to_cycles_text.Goals as goal

-- after `read_tables`
module _ (d : After-read_tables-read) where
  abbrev start : Start
  start = (goal.at.After-read_tables-read d).Start

  abbrev text : List ℕ
  text = start.args.text.now

  abbrev longer : Bool
  longer = start.args.longer

  abbrev asked : Request
  asked = request_of longer text

  abbrev s' : List ℕ
  s' = d.read_tables-read.new.s

  abbrev r' : List ℕ
  r' = d.read_tables-read.new.r

  left : TablesRead asked start.args.s.now start.args.r.now d.read_tables-read.result s' r'
  left = d.read_tables-read.ensures.tables_read

-- the tables that were read
module _ (k : In-Ok) where
  abbrev called : After-read_tables-read
  called = (goal.at.In-Ok k).After-read_tables-read

  abbrev n : ℕ
  n = k.in-Ok.n

  few : n ≤ 3066
  few = (left called).most n k.in-Ok.is

  stand : tables (take n (s' called)) (take n (r' called)) ≡ asked called
  stand = (left called).fronts n k.in-Ok.is

pub slice_bounds-export_line-end : goal.slice_bounds-export_line-end
slice_bounds-export_line-end c = omega (arith, few (goal.at.slice_bounds-export_line-end c).In-Ok, (start (called (goal.at.slice_bounds-export_line-end c).In-Ok)).requires.1)

pub slice_bounds-export_line-end-in-Ok : goal.slice_bounds-export_line-end-in-Ok
slice_bounds-export_line-end-in-Ok c =
    let k = c in
    sym (length-take-le (n (goal.at.slice_bounds-export_line-end-in-Ok c).In-Ok) (s' (called (goal.at.slice_bounds-export_line-end-in-Ok c).In-Ok)) (omega (arith, few (goal.at.slice_bounds-export_line-end-in-Ok c).In-Ok, (start (called (goal.at.slice_bounds-export_line-end-in-Ok c).In-Ok)).requires.1)))

pub slice_bounds-export_line-end-in-Ok-2 : goal.slice_bounds-export_line-end-in-Ok-2
slice_bounds-export_line-end-in-Ok-2 c = let k = c in omega (arith, few (goal.at.slice_bounds-export_line-end-in-Ok-2 c).In-Ok, (start (called (goal.at.slice_bounds-export_line-end-in-Ok-2 c).In-Ok)).requires.2)

pub slice_bounds-export_line-end-in-Ok-3 : goal.slice_bounds-export_line-end-in-Ok-3
slice_bounds-export_line-end-in-Ok-3 c =
    let k = c in
    sym (length-take-le (n (goal.at.slice_bounds-export_line-end-in-Ok-3 c).In-Ok) (r' (called (goal.at.slice_bounds-export_line-end-in-Ok-3 c).In-Ok)) (omega (arith, few (goal.at.slice_bounds-export_line-end-in-Ok-3 c).In-Ok, (start (called (goal.at.slice_bounds-export_line-end-in-Ok-3 c).In-Ok)).requires.2)))

pub returns-in-Err : goal.returns-in-Err
returns-in-Err c =
    let k = c in
    let d = k in
    let e = read_refused (asked (goal.at.returns-in-Err c).After-read_tables-read) k.in-Err.refusal (sym k.in-Err.is ∙ (left (goal.at.returns-in-Err c).After-read_tables-read).answered) in
    puts_as (line_as (longer (goal.at.returns-in-Err c).After-read_tables-read) (text (goal.at.returns-in-Err c).After-read_tables-read) e) c.refusal_line.ensures

pub returns-in-Ok : goal.returns-in-Ok
returns-in-Ok c =
    let k = c in
    let d = called (goal.at.returns-in-Ok c).In-Ok in
    puts_as (line_as (longer d) (text d) (stand (goal.at.returns-in-Ok c).In-Ok)) c.export_line.ensures
