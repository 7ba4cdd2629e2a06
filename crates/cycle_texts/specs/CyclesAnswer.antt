-- WHAT THE JOB `cycles` WRITES, byte for byte. `longer`: the input goes on behind the text, which is the 65,536
-- bytes that fit into the buffer.
--
--   cycles_read text          the answer of `read_cycles` in the program's own tables, which have room for every pair
--   cut_by end v              the answer to an input that goes on, by what is said of the part that is judged, which
--                             ends before the offset `end`: 12 for an index out of range, 27 with a place inside that
--                             part, and else 27 with the place 65,536
--   cycles_answer longer text  the answer to an input
--   cycles_text longer text   the bytes for an input
--   CyclesPrinted text longer bytes   what the bytes mean. Of a text: the place where it leaves the form; a number that
--                             is no index; a text of the form, whose tables have a fault, or which the import reads
--                             from the bytes as a pair of permutations. Of an input that goes on behind the text: the
--                             refusal by `read_cycles` of every text that begins so, whatever follows; or 27 with the
--                             place 65,536, where the pieces before the run of digits at the end can be completed
use Rattle.std.specs.Prelude.{◌≡◌, Bool, true, false, List, ◌++◌, ℕ, ltb, length, Err}
use Rattle.basics.specs.Choice.{pick}
use Rattle.call.specs.Refusal.{Filled}
use Rattle.call.specs.declared.refusal.Refusal.TheVariants.{PointCount, BadCycles}
use Rattle.call.specs.declared.refusal.Refusal.{Refusal}
use Rattle.call.specs.Inner.Fills.{made_if}
use Rattle.text.specs.Reading.{text_most}
use Rattle.text.specs.Line.{refusal_line}
use Rattle.cycle_notation.specs.Piece.{cycle_pieces, without_offsets}
use Rattle.cycle_notation.specs.Form.{Completes}
use Rattle.cycle_notation.specs.Place.{WrongAt}
use Rattle.cycle_notation.specs.Verdict.{Read, Verdict, reads, index_out, leaves, IndexOut}
use Rattle.cycle_notation.specs.Inner.Reader.{verdict_of}
use Rattle.cycle_reading.specs.Reading.{cycles_check, read_s, read_r, table_of_s}
use Rattle.cycle_reading.specs.Reading.{table_of_r, RightAs, GoodPair, PairFault}
use Rattle.symbol_texts.specs.Pair.{pair_text, PairReadBack, pair_lines_by}
use Rattle.cycle_texts.specs.Cut.{without_run, judged_text}

abbrev pub cycles_read : List ℕ → Filled
cycles_read text = made_if (length (read_s text)) (cycles_check text)

abbrev pub cut_by : ℕ → Verdict → Filled
cut_by end (leaves place) = Err (BadCycles (pick (ltb place end) place text_most))
cut_by end index_out = Err PointCount
cut_by end (reads q) = Err (BadCycles text_most)

abbrev pub cycles_answer : Bool → List ℕ → Filled
cycles_answer longer text =
    let t = judged_text longer text in
    pick longer (cut_by (length t) (verdict_of t)) (cycles_read t)

unfoldable pub cycles_text : Bool → List ℕ → List ℕ
cycles_text longer text =
    let t = judged_text longer text in
    pair_lines_by (cycles_answer longer text) (read_s t) (read_r t)

-- ---- what it means

pub data CyclesPrinted (text : List ℕ) : Bool → List ℕ → Type 0 where
  leaves_form : (place : ℕ) → ¬ IndexOut (without_offsets (cycle_pieces text)) → WrongAt text place
      → CyclesPrinted text false (refusal_line (BadCycles place))
  no_index : IndexOut (without_offsets (cycle_pieces text)) → CyclesPrinted text false (refusal_line PointCount)
  no_pair : (q : Read) → RightAs text q → (f : Refusal) → PairFault (table_of_s q) (table_of_r q) f
      → CyclesPrinted text false (refusal_line f)
  pair_printed : (q : Read) → GoodPair text q
      → PairReadBack (table_of_s q) (table_of_r q) (pair_text (table_of_s q) (table_of_r q))
      → CyclesPrinted text false (pair_text (table_of_s q) (table_of_r q))
  whatever_follows : (f : Refusal) → ((rest : List ℕ) → cycles_check (text ++ rest) ≡ Err f)
      → CyclesPrinted text true (refusal_line f)
  goes_on : Completes (without_offsets (cycle_pieces (without_run text)))
      → CyclesPrinted text true (refusal_line (BadCycles text_most))
