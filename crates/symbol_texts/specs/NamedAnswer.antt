-- WHAT THE JOB `named` WRITES, byte for byte: the symbol of a congruence group, by its family's number and N.
--
--   named_format            the family's number from 0 to 2, and then N
--   GroupRequest            what a text asks for: a group by its family's number and N; or it is refused before that
--   group_in ns             what the numbers handed on ask for: a family's number alone is none of a family, and that
--                           is refusal 20
--   group_request longer t  what a text asks for
--   made_by order k n       the answer for a group: 20, 21, then 16, or the number of vertices; every symbol has room
--   is_over a                whether an answer is refusal 16
--   order_for k n           the order of the symbol that is printed: the leftmost open side is split, but where that is
--                           refused with 16 the one open longest
--   group_lines k n         the lines for a group: the symbol, or the refusal's line
--   request_lines a         the lines for what is asked
--   named_bytes longer t    the bytes for a text
--   NamedPrinted, NamedPrintMeans     what is printed for a group is read, by the rule of 19, as a symbol of it,
--                           wherever one is made
use Rattle.std.specs.Prelude.{◌≡◌, Bool, List, ℕ, ltb, eqb, ℤ, length, Ok}
use Rattle.basics.specs.Choice.{pick}
use Rattle.matrix.specs.Matrix.{nth}
use Rattle.call.specs.Refusal.{◌or_else◌, answer_number, refusal_number, Filled}
use Rattle.call.specs.declared.refusal.Refusal.TheVariants.{BadLevel, EntryTooLarge}
use Rattle.call.specs.declared.refusal.Refusal.{Refusal}
use Rattle.call.specs.Inner.Fills.{made_if}
use Rattle.text.specs.Reading.{input_gives, vertex_count}
use Rattle.text.specs.declared.Format.{Format}
use Rattle.text.specs.Line.{refusal_line}
use Rattle.import_rule.specs.Order.{Order, leftmost, longest_open}
use Rattle.import_symbol.specs.Answer.{check16, ruled_table}
use Rattle.import_call.specs.Import.{needed_vertices}
use Rattle.congruence.specs.Cosets.{family_r}
use Rattle.symbol_texts.specs.ImportAnswer.{lines_by}
use Rattle.symbol_texts.specs.ReadBack.{ReadBack}
use Rattle.named_groups.specs.Group.{family_of, group_check}
use Rattle.named_groups.specs.Answer.{named_rule, NamedSymbol}

abbrev pub named_format : Format
named_format = record { least = 0; most = 2; each = 0; more = 2 }

pub data GroupRequest : Type 0 where
  group : (k n : ℕ) → GroupRequest
  refused : Refusal → GroupRequest

-- a negative N is out of range as 0 is
unfoldable pub group_in : List ℤ → GroupRequest
group_in ns =
    pick (ltb (length ns) 2) (refused BadLevel) (group (vertex_count (nth ns 0)) (vertex_count (nth ns 1)))

unfoldable pub group_request : Bool → List ℕ → GroupRequest
group_request longer text = input_gives named_format 2 group_in refused longer text

abbrev pub made_by : Order → (k n : ℕ) → Filled
made_by order k n =
    made_if (needed_vertices (family_r (family_of k) n)) (group_check k n or_else check16 (named_rule order k n))

abbrev pub is_over : Filled → Bool
is_over a = eqb (answer_number a) (refusal_number (EntryTooLarge 0))

abbrev pub order_for : (k n : ℕ) → Order
order_for k n = pick (is_over (made_by leftmost k n)) longest_open leftmost

unfoldable pub group_lines : (k n : ℕ) → List ℕ
group_lines k n = lines_by (made_by (order_for k n) k n) (ruled_table (named_rule (order_for k n) k n))

abbrev pub request_lines : GroupRequest → List ℕ
request_lines (group k n) = group_lines k n
request_lines (refused f) = refusal_line f

unfoldable pub named_bytes : Bool → List ℕ → List ℕ
named_bytes longer text = request_lines (group_request longer text)

pub record NamedPrinted (k n v : ℕ) (bytes : List ℕ) : Type 0 where
  pub symbol : NamedSymbol (family_of k) n v (ruled_table (named_rule (order_for k n) k n))
  pub read_back : ReadBack v (ruled_table (named_rule (order_for k n) k n)) bytes

abbrev pub NamedPrintMeans : GroupRequest → (bytes : List ℕ) → Type 0
NamedPrintMeans a bytes =
    (k n v : ℕ) → a ≡ group k n → made_by (order_for k n) k n ≡ Ok v → NamedPrinted k n v bytes
