-- `exchange_text`: each answer of `read_symbol` has its lines (`by_input`, `by_standing`). Assumes nothing.
use Prim.Native.Nat.{ℕ}
use native.Mathlib.Omega.{arith}
use Rattle.text.specs.Piece.{pieces, numbers}
use Rattle.text.specs.Line.{refusal_line}
use Rattle.text.proofs.OnceRead.{Standing, input_numbers, by_input, by_standing}
use Rattle.decimal.proofs.Placing.{puts_as}
use Rattle.symbol_texts.specs.ExchangeAnswer.{exchange_lines_of, exchange_format, exchanged_text}
use Rattle.symbol_texts.proofs.exchange_text.exchange_text.Goals.{After-read_symbol-read, In-Ok}
use Rattle.symbol_texts.proofs.exchange_text.exchange_text.Goals as goal

-- the numbers of the text, k of them
module _ (d : In-Ok) where
  abbrev read : After-read_symbol-read
  read = (goal.at.In-Ok d).After-read_symbol-read

  abbrev k : ℕ
  k = d.in-Ok.k

  standing : Standing (numbers (pieces read.args.text.now)) 3073 k read.read_symbol-read.new.out
  standing =
      input_numbers read.args.longer exchange_format read.args.text.now read.args.numbers.now read.requires.0 read.read_symbol-read.ensures (omega arith) k
      d.in-Ok.is

pub slice_bounds-exchange_numbers-end : goal.slice_bounds-exchange_numbers-end
slice_bounds-exchange_numbers-end c = (standing (goal.at.slice_bounds-exchange_numbers-end c).In-Ok).inside

pub slice_bounds-exchange_numbers-end-in-Ok : goal.slice_bounds-exchange_numbers-end-in-Ok
slice_bounds-exchange_numbers-end-in-Ok c = (standing (goal.at.slice_bounds-exchange_numbers-end-in-Ok c).In-Ok).long

pub returns-in-Err : goal.returns-in-Err
unfolding exchanged_text
returns-in-Err c =
    puts_as (by_input c.args.longer exchange_format c.args.text.now c.args.numbers.now c.requires.0 c.read_symbol-read.ensures exchange_lines_of
    refusal_line _ c.in-Err.is) c.refusal_line.ensures

pub returns-in-Ok : goal.returns-in-Ok
unfolding exchanged_text
returns-in-Ok c =
    puts_as (by_standing c.args.longer exchange_format c.args.text.now c.args.numbers.now c.requires.0 c.read_symbol-read.ensures
    exchange_lines_of refusal_line (omega arith) _ c.in-Ok.is) c.exchange_numbers.ensures
