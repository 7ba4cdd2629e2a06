-- Where a symbol that was made for a group stands.
--
--   SymbolFront k n a t      where the answer a is a number of vertices, the table of the symbol stands at the front
--                            of t
use Rattle.std.specs.Prelude.{◌≡◌, List, ℕ, ◌+◌, ◌*◌, ℤ, take, Ok}
use Rattle.call.specs.Refusal.{Filled}
use Rattle.import_symbol.specs.Answer.{ruled_table}
use Rattle.named_groups.specs.Group.{family_of}
use Rattle.named_groups.specs.Answer.{named_rule, NamedSymbol}
use Rattle.symbol_texts.specs.NamedAnswer.{order_for}

pub record SymbolFront (k n : ℕ) (a : Filled) (t : List ℤ) : Type 0 where
  pub symbol : (v : ℕ) → a ≡ Ok v → NamedSymbol (family_of k) n v (ruled_table (named_rule (order_for k n) k n))
  pub front : (v : ℕ) → a ≡ Ok v → take (3 * v + 1) t ≡ ruled_table (named_rule (order_for k n) k n)
