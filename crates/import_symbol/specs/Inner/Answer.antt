-- The answer of `grow`, for an accepted pair whose symbol has room, and what it leaves in the result space.
--
--   ruled_answer g       the answer to what the rule gives: so many vertices, or 16 with the side
--   ruled_left g a out   what is left in the result space: the table at its front, or all as it was
use Rattle.std.specs.Prelude.{List, ◌++◌, ◌+◌, ◌*◌, drop, ℤ, Ok, Err}
use Rattle.call.specs.Refusal.{Filled}
use Rattle.call.specs.declared.refusal.Refusal.TheVariants.{EntryTooLarge}
use Rattle.import_rule.specs.Symbol.{Ruled, made, over}
use Rattle.import_symbol.specs.Answer.{ruled_table}

abbrev pub ruled_answer : Ruled → Filled
ruled_answer (made v t) = Ok v
ruled_answer (over i) = Err (EntryTooLarge i)

abbrev pub ruled_left : Ruled → Filled → List ℤ → List ℤ
ruled_left g (Ok v) out = ruled_table g ++ drop (3 * v + 1) out
ruled_left g (Err f) out = out
