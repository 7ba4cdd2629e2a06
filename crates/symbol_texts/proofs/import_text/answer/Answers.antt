-- `answer` meets its contract: the tables that the text asks for stand where the import reads them. Assumes nothing.
use mathlib.Core.Path.{◌≡◌, sym, ◌∙◌}
use mathlib.Core.Bool.{Bool}
use mathlib.Core.List.{List}
use native.Mathlib.Omega.{arith}
use Prim.Native.Nat.{ℕ, ◌≤◌}
use lib.ListN.{length, take, replicate}
use lib.Seq.{length-take-le}
use Rattle.decimal.proofs.Placing.{puts_as}
use Rattle.import_rule.specs.Order.{Order}
use Rattle.import_symbol.specs.Answer.{order_by}
use Rattle.symbol_texts.specs.ImportAnswer.{Request, tables, request_of}
use Rattle.symbol_texts.specs.Inner.ImportSpaces.{TablesRead}
use Rattle.symbol_texts.proofs.ImportAnswering.{lines_as, read_refused}
use Rattle.symbol_texts.proofs.import_text.answer.Goals.{After-read_tables-read, In-Ok, Start}
use Rattle.symbol_texts.proofs.import_text.answer.Goals as goal

-- after `read_tables`
module _ (d : After-read_tables-read) where
  abbrev start : Start
  start = (goal.at.After-read_tables-read d).Start

  abbrev text : List ℕ
  text = start.args.text.now

  abbrev longer : Bool
  longer = start.args.longer

  abbrev order : Order
  order = order_by start.args.wide

  abbrev asked : Request
  asked = request_of longer text

  abbrev s' : List ℕ
  s' = d.read_tables-read.new.s

  abbrev r' : List ℕ
  r' = d.read_tables-read.new.r

  left : TablesRead asked (replicate 3066 0) (replicate 3066 0) d.read_tables-read.result s' r'
  left = d.read_tables-read.ensures.tables_read

-- the tables that were read
module _ (k : In-Ok) where
  abbrev called : After-read_tables-read
  called = (goal.at.In-Ok k).After-read_tables-read

  abbrev n : ℕ
  n = k.in-Ok.n

  few : n ≤ 3066
  few = (left called).most n k.in-Ok.is

  stand : tables (take n (s' called)) (take n (r' called)) ≡ asked called
  stand = (left called).fronts n k.in-Ok.is

  front_S : length (take n (s' called)) ≡ n
  front_S = length-take-le n (s' called) (omega (arith, few, k.s-2-1.given))

  front_R : length (take n (r' called)) ≡ n
  front_R = length-take-le n (r' called) (omega (arith, few, k.r-2-1.given))

pub slice_bounds-s-end : goal.slice_bounds-s-end
slice_bounds-s-end c = omega (arith, few (goal.at.slice_bounds-s-end c).In-Ok, c.s-2-1.given)

pub slice_bounds-import_lines-end : goal.slice_bounds-import_lines-end
slice_bounds-import_lines-end c = sym (front_S (goal.at.slice_bounds-import_lines-end c).In-Ok)

pub slice_bounds-r-end : goal.slice_bounds-r-end
slice_bounds-r-end c = let k = c in omega (arith, few (goal.at.slice_bounds-r-end c).In-Ok, k.r-2-1.given)

pub slice_bounds-import_lines-end-in-Ok : goal.slice_bounds-import_lines-end-in-Ok
slice_bounds-import_lines-end-in-Ok c = sym (front_R (goal.at.slice_bounds-import_lines-end-in-Ok c).In-Ok)

pub returns-in-Err : goal.returns-in-Err
returns-in-Err c =
    let k = c in
    let d = k in
    let e = read_refused (asked (goal.at.returns-in-Err c).After-read_tables-read) k.in-Err.refusal (sym k.in-Err.is ∙ (left (goal.at.returns-in-Err c).After-read_tables-read).answered) in
    puts_as (lines_as (longer (goal.at.returns-in-Err c).After-read_tables-read) (text (goal.at.returns-in-Err c).After-read_tables-read) (order (goal.at.returns-in-Err c).After-read_tables-read) e) c.refusal_line.ensures

pub returns-in-Ok : goal.returns-in-Ok
returns-in-Ok c =
    let k = c in
    let d = called (goal.at.returns-in-Ok c).In-Ok in
    puts_as (lines_as (longer d) (text d) (order d) (stand (goal.at.returns-in-Ok c).In-Ok)) c.import_lines.ensures
