-- What the rule gives, as a refusal and a table.
--
--   order_by wide         the order of the rule, or of the wide rule
--   check16 g            16, with the side that can't be split, where the rule gives no symbol
--   ruled_table g        the symbol's table
use Rattle.std.specs.Prelude.{Bool, List, [], ℤ, Ok, Err}
use Rattle.call.specs.Refusal.{Checked}
use Rattle.call.specs.declared.refusal.Refusal.TheVariants.{EntryTooLarge}
use Rattle.basics.specs.Choice.{pick}
use Rattle.import_rule.specs.Order.{Order, leftmost, longest_open}
use Rattle.import_rule.specs.Symbol.{Ruled, made, over}

abbrev pub order_by : Bool → Order
order_by wide = pick wide longest_open leftmost

abbrev pub check16 : Ruled → Checked
check16 (made v t) = Ok tt
check16 (over i) = Err (EntryTooLarge i)

abbrev pub ruled_table : Ruled → List ℤ
ruled_table (made v t) = t
ruled_table (over i) = []
