-- `read_tables` meets its contract: what the text asks for is known by the answer of `read_input`, and a text that is refused leaves the tables as they
-- were. Assumes nothing.
use Rattle.std.specs.Prelude.{Err}
use mathlib.Core.Path.{◌≡◌, ◌∙◌}
use mathlib.Core.Bool.{Bool}
use native.Mathlib.Omega.{arith}
use mathlib.Core.List.{List}
use Prim.Native.Nat.{ℕ}
use Rattle.text.specs.Piece.{pieces, numbers}
use Rattle.text.proofs.OnceRead.{Standing, told, input_numbers, by_input, by_standing}
use Rattle.text.proofs.Exits.{handed_out}
use Rattle.symbol_texts.specs.ImportAnswer.{tables_in, import_format, refused, request_of}
use Rattle.symbol_texts.specs.Inner.ImportSpaces.{numbers_left}
use Rattle.symbol_texts.proofs.ImportAnswering.{numbers_by, tables_none, tables_as}
use Rattle.symbol_texts.proofs.import_text.read_tables.Goals.{After-read_input, In_ok-k, Start}
use Rattle.symbol_texts.proofs.import_text.read_tables.Goals as goal

-- after `read_input`: what is left of the numbers
module _ (d : After-read_input) where
  abbrev start : Start
  start = (goal.at.After-read_input d).Start

  abbrev text : List ℕ
  text = start.args.text.now

  abbrev longer : Bool
  longer = start.args.longer

  numbers_are : d.read_input.new.out ≡ numbers_left longer text start.args.numbers.now
  numbers_are =
      d.read_input.ensures.1
      ∙ numbers_by longer text d.read_input.result
      (told longer import_format text start.args.numbers.now start.requires.0 d.read_input.ensures) start.args.numbers.now

-- the numbers that were read
module _ (k : In_ok-k) where
  abbrev called : After-read_input
  called = (goal.at.In_ok-k k).After-read_input

  abbrev count : ℕ
  count = k.in_ok-k.k

  standing : Standing (numbers (pieces (text called))) 6133 count called.read_input.new.out
  standing =
      let s = start called in
      input_numbers (longer called) import_format (text called) s.args.numbers.now s.requires.0 called.read_input.ensures (omega arith) count
      k.in_ok-k.was

pub slice_bounds-fill_tables-end : goal.slice_bounds-fill_tables-end
slice_bounds-fill_tables-end c = (standing (goal.at.slice_bounds-fill_tables-end c).In_ok-k).inside

pub slice_bounds-fill_tables-end-2 : goal.slice_bounds-fill_tables-end-2
slice_bounds-fill_tables-end-2 c = (standing (goal.at.slice_bounds-fill_tables-end-2 c).In_ok-k).long

pub fill_tables-requires : goal.fill_tables-requires
fill_tables-requires c =
    let h = standing (goal.at.fill_tables-requires c).In_ok-k in
    (omega (arith, h.long, h.some_one), omega (arith, h.long, h.fitting), c.requires.1, c.requires.2)

pub returns-in_err-k : goal.returns-in_err-k
unfolding request_of
returns-in_err-k c =
    let d = (goal.at.returns-in_err-k c).After-read_input in
    let s = start d in
    let f = c.in_err-k.field-0.0 in record {
      numbers_after = numbers_are d;
      tables_read = rw (handed_out c.from_residual.result c.from_residual.ensures.1)
          (tables_as
          (by_input (longer d) import_format (text d) s.args.numbers.now s.requires.0 d.read_input.ensures tables_in refused
          (Err f) c.in_err-k.was)
          (tables_none f s.args.s.now s.args.r.now));
    }

pub returns : goal.returns
unfolding request_of
returns c =
    let k = (goal.at.returns c).In_ok-k in
    let d = called k in
    let s = start d in record {
      numbers_after = numbers_are d;
      tables_read = tables_as
          (by_standing (longer d) import_format (text d) s.args.numbers.now s.requires.0 d.read_input.ensures tables_in refused (omega arith) (count k)
          c.in_ok-k.was) c.fill_tables.ensures;
    }
