-- WHAT THE PROGRAM `index_table` WRITES, byte for byte: the constant table of the index of Γ0(n), as a source file of
-- the engine.
--
--   constant_head     `pub const INDEX: [u16; 1000] = [` and a line feed
--   constant_tail     `];` and a line feed
--   entry_line n      four spaces, the index of Γ0(n), a comma and a line feed
--   entry_lines k     the lines for n from 1 to k
--   constant_lines    all of them
use Rattle.std.specs.Prelude.{List, [], ◌++◌, ℕ, zero, suc}
use Rattle.decimal.specs.Ascii.{ascii}
use Rattle.decimal.specs.Decimal.{digits}
use Rattle.congruence.specs.Index.{index0}

abbrev pub constant_head : List ℕ
constant_head = ascii "pub const INDEX: [u16; 1000] = [\n"

abbrev pub constant_tail : List ℕ
constant_tail = ascii "];\n"

unfoldable pub entry_line : ℕ → List ℕ
entry_line n = ascii "    " ++ (digits (index0 n) ++ ascii ",\n")

unfoldable pub entry_lines : ℕ → List ℕ
entry_lines zero = []
entry_lines (suc k) = entry_lines k ++ entry_line (suc k)

unfoldable pub constant_lines : List ℕ
constant_lines = constant_head ++ (entry_lines 1000 ++ constant_tail)
