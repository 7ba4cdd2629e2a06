-- `answer` meets its contract: what the text asks for is known by the answer of `read_input`. Assumes nothing.
use Rattle.std.specs.Prelude.{Ok, Err}
use mathlib.Core.Path.{◌≡◌, refl}
use mathlib.Core.Bool.{Bool}
use native.Mathlib.Omega.{arith}
use mathlib.Core.List.{List}
use Prim.Native.Nat.{ℕ}
use lib.IntN.{pos}
use lib.ListN.{take, replicate}
use Rattle.call.specs.declared.refusal.Refusal.{Refusal}
use Rattle.text.specs.Piece.{pieces, numbers}
use Rattle.text.proofs.OnceRead.{Standing, input_numbers, by_input, by_standing}
use Rattle.decimal.proofs.Placing.{puts_as}
use Rattle.symbol_texts.specs.NamedAnswer.{named_format, refused, group_in, group_request}
use Rattle.symbol_texts.proofs.NamedAsked.{lines_as}
use Rattle.symbol_texts.proofs.named_text.answer.Goals.{After-read_input-read}
use Rattle.symbol_texts.proofs.named_text.answer.Goals as goal

-- what the text asks for, by what was read
module _ (d : After-read_input-read) where
  abbrev text : List ℕ
  text = d.args.text.now

  abbrev longer : Bool
  longer = d.args.longer

  asks_refused : (f : Refusal) → d.read_input-read.result ≡ Err f → refused f ≡ group_request longer text
  unfolding group_request
  asks_refused f e = by_input longer named_format text (replicate 2 (pos 0)) refl d.read_input-read.ensures group_in refused (Err f) e

  module _ (k : ℕ) (e : d.read_input-read.result ≡ Ok k) where
    standing : Standing (numbers (pieces text)) 2 k d.read_input-read.new.out
    standing = input_numbers longer named_format text (replicate 2 (pos 0)) refl d.read_input-read.ensures (omega arith) k e

    asks : group_in (take k d.read_input-read.new.out) ≡ group_request longer text
    unfolding group_request
    asks = by_standing longer named_format text (replicate 2 (pos 0)) refl d.read_input-read.ensures group_in refused (omega arith) k e

pub slice_bounds-numbers-end : goal.slice_bounds-numbers-end
slice_bounds-numbers-end c = (standing (goal.at.slice_bounds-numbers-end c).After-read_input-read _ c.in-Ok.is).inside

pub slice_bounds-group_numbers-end : goal.slice_bounds-group_numbers-end
slice_bounds-group_numbers-end c = (standing (goal.at.slice_bounds-group_numbers-end c).After-read_input-read _ c.in-Ok.is).long

pub returns-in-Err : goal.returns-in-Err
returns-in-Err c =
    let d = (goal.at.returns-in-Err c).After-read_input-read in
    puts_as (lines_as (longer d) (text d) (asks_refused d _ c.in-Err.is)) c.refusal_line.ensures

pub returns-in-Ok : goal.returns-in-Ok
returns-in-Ok c =
    let d = (goal.at.returns-in-Ok c).After-read_input-read in
    puts_as (lines_as (longer d) (text d) (asks d _ c.in-Ok.is)) c.group_numbers.ensures
