-- `reply_text` meets its contract: each answer of `read_symbol` has its line (`by_input`, `by_standing`). Assumes nothing.
use Rattle.std.specs.Prelude.{Err}
use Prim.Native.Nat.{ℕ}
use native.Mathlib.Omega.{arith}
use Rattle.text.specs.Piece.{pieces, numbers}
use Rattle.text.specs.Line.{refusal_line}
use Rattle.text.proofs.OnceRead.{Standing, input_numbers, by_input, by_standing}
use Rattle.decimal.proofs.Placing.{puts_as}
use Rattle.query_text.specs.Reply.{replied_to, query_format, reply_of}
use Rattle.query_text.proofs.reply_text.Goals.{After-read_symbol, In-Ok, Start}
use Rattle.query_text.proofs.reply_text.Goals as goal

abbrev begun : After-read_symbol → Start
begun r = (goal.at.After-read_symbol r).Start

-- the numbers that were read
module _ (d : In-Ok) where
  abbrev read : After-read_symbol
  read = (goal.at.In-Ok d).After-read_symbol

  abbrev s : Start
  s = begun read

  abbrev k : ℕ
  k = d.in-Ok.k

  standing : Standing (numbers (pieces s.args.text.now)) 3079 k read.read_symbol.new.out
  standing =
      input_numbers s.args.longer query_format s.args.text.now s.args.numbers.now s.requires.0 read.read_symbol.ensures (omega arith) k
      d.in-Ok.is

pub slice_bounds-reply_numbers-end : goal.slice_bounds-reply_numbers-end
slice_bounds-reply_numbers-end c = (standing (goal.at.slice_bounds-reply_numbers-end c).In-Ok).inside

pub slice_bounds-reply_numbers-end-in-Ok : goal.slice_bounds-reply_numbers-end-in-Ok
slice_bounds-reply_numbers-end-in-Ok c = (standing (goal.at.slice_bounds-reply_numbers-end-in-Ok c).In-Ok).long

pub returns-in-Err : goal.returns-in-Err
unfolding reply_of
returns-in-Err c =
    let a = c in
    let r = (goal.at.returns-in-Err c).After-read_symbol in
    let b = begun r in
    puts_as (by_input b.args.longer query_format b.args.text.now b.args.numbers.now b.requires.0 r.read_symbol.ensures replied_to refusal_line
    (Err a.in-Err.refusal) a.in-Err.is) c.refusal_line.ensures

pub returns-in-Ok : goal.returns-in-Ok
unfolding reply_of
returns-in-Ok c =
    let l = c in
    let d = l in
    let b = s (goal.at.returns-in-Ok c).In-Ok in
    puts_as (by_standing b.args.longer query_format b.args.text.now b.args.numbers.now b.requires.0 (read (goal.at.returns-in-Ok c).In-Ok).read_symbol.ensures replied_to
    refusal_line (omega arith) (k (goal.at.returns-in-Ok c).In-Ok) d.in-Ok.is) l.reply_numbers.ensures
