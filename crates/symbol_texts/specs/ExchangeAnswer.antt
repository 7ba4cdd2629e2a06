-- WHAT THE JOB `exchange` WRITES, byte for byte (docs/CONVENTIONS.md, 16).
--
--   exchange_lines v t x y          the exchanged symbol as `import` prints one, or the refusal's line
--   exchange_symbol, first_label, second_label
--                                   the symbol's table and the two labels in the numbers ns of a text, of which the
--                                   labels are the last two
--   exchange_lines_of ns            the lines for the numbers ns. Where v is out of range a text hands on v alone:
--                                   refusal 1
--   exchange_format                 v from 1 to 1,023, then 3v + 1 numbers and two labels
--   exchanged_text longer text      the bytes for a text
--   ExchangePrinted ns bytes        where the exchange is made, it is the trade of its labels, and the bytes are read
--                                   as the exchanged symbol
--   ExchangePrintMeans ..           that holds for every text whose numbers pass the checks
use Rattle.std.specs.Prelude.{◌≡◌, Bool, List, ℕ, ◌-◌, ◌+◌, ◌≤◌, ltb, ℤ, length, take, drop, Ok}
use Rattle.matrix.specs.Matrix.{nth}
use Rattle.basics.specs.Choice.{pick}
use Rattle.call.specs.declared.refusal.Refusal.TheVariants.{BadVertexCount}
use Rattle.text.specs.Piece.{pieces, numbers}
use Rattle.text.specs.Reading.{input_of, input_gives, count_in}
use Rattle.text.specs.declared.Format.{Format}
use Rattle.text.specs.Line.{refusal_line, answer_lines}
use Rattle.symbol_texts.specs.ImportAnswer.{symbol_lines}
use Rattle.symbol_texts.specs.ReadBack.{ReadBack}
use Rattle.partner_exchange.specs.Exchange.{exchanged}
use Rattle.partner_exchange.specs.Theorem.{Trade}
use Rattle.partner_exchange.specs.Answer.{exchange_check}

unfoldable pub exchange_lines : (v : ℕ) → List ℤ → (x y : ℤ) → List ℕ
exchange_lines v t x y =
    let c = exchange_check v t x y in
    answer_lines c (symbol_lines v (exchanged v t x y))

-- ---- the numbers of a text

abbrev pub exchange_symbol : List ℤ → List ℤ
exchange_symbol ns = take (length ns - 3) (drop 1 ns)

abbrev pub first_label : List ℤ → ℤ
first_label ns = nth ns (length ns - 2)

abbrev pub second_label : List ℤ → ℤ
second_label ns = nth ns (length ns - 2 + 1)

unfoldable pub exchange_lines_of : List ℤ → List ℕ
exchange_lines_of ns =
    pick (ltb (length ns) 4) (refusal_line BadVertexCount)
    (exchange_lines (count_in ns) (exchange_symbol ns) (first_label ns) (second_label ns))

-- ---- the text

abbrev pub exchange_format : Format
exchange_format = record { least = 1; most = 1023; each = 3; more = 4 }

unfoldable pub exchanged_text : Bool → List ℕ → List ℕ
exchanged_text longer text = input_gives exchange_format 3073 exchange_lines_of refusal_line longer text

-- ---- what it means

pub record ExchangePrinted (ns : List ℤ) (bytes : List ℕ) : Type 0 where
  pub trade : Trade (count_in ns) (exchange_symbol ns) (first_label ns) (second_label ns)
  pub read_back :
      ReadBack (count_in ns) (exchanged (count_in ns) (exchange_symbol ns) (first_label ns) (second_label ns))
      bytes

abbrev pub ExchangePrintMeans : (longer : Bool) (text bytes : List ℕ) → Type 0
ExchangePrintMeans longer text bytes =
    (k : ℕ) →
    let ns = take k (numbers (pieces text)) in
    4 ≤ k → input_of longer exchange_format text 3073 ≡ Ok k
    → exchange_check (count_in ns) (exchange_symbol ns) (first_label ns) (second_label ns) ≡ Ok tt
    → ExchangePrinted ns bytes
