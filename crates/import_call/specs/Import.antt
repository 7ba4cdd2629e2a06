-- THE CALLS `import`, `import_wide` AND `import_length`: their refusals in order, what they leave, and what that means.
--
--   needed_vertices r    the number of vertices that a symbol for tables of S and R has, from the table r of R alone:
--                        (index - e3)/3 + 1, where the index is the number of points, and R fixes e3 of them
--   needed_length r      the length of its table, 3v + 1
--   symbol_into order s r out   what follows the work space: 11 by that length, then 16, then the table of the symbol
--                        that the rule gives under the order, at the front of out
--   import_steps         12 to 15, the work space, and then this
--   numbering s r        the points, by the number that the listing's rule gives them
--   SymbolOfPair s r v t the pair is a passport, and t is the table of a symbol of v vertices that generates precisely
--                        the matrices that fix point 0. It has (index - e3)/3 + 1 vertices, where 3 divides index - e3
--                        (`thirds`); its index is the number of points, and its own coset tables are the given
--                        permutations, renumbered by the listing's rule
--   import_call order    the exported call: by the rule under `leftmost`, by the wide rule under `longest_open`; 0 says
--                        that the table of such a symbol stands at the front of the result space, of as many vertices
--                        as the place says
--   LengthOfImport s r n the pair is a passport, and 3 divides index - e3, whether or not a symbol is made; and of
--                        imports by every order, with the work space that they ask for: into a space of n numbers or
--                        more the symbol's table goes, of just n numbers, or the answer is 16; a shorter space is
--                        refused with 11 and n
--   import_length_call   the exported call: 12 to 15, or that length
use Rattle.std.specs.Prelude.{◌≡◌, List, ◌++◌, ℕ, ◌+◌, ◌-◌, ◌*◌, ◌/◌, ◌≤◌, ◌<◌, length, take, ℤ, Err}
use Rattle.call.specs.declared.refusal.Refusal.TheVariants.{TooShort}
use Rattle.call.specs.Space.{work_length}
use Rattle.call.specs.Call.{Lent, Step, length_check, asks, work, result_in, at_front, verdict, Contract}
use Rattle.numbering.specs.Order.{order_of}
use Rattle.numbering.specs.Table.{renamed}
use Rattle.figures.specs.Cusps.{fixed_points}
use Rattle.coset.specs.Tables.{index_of, table_s, table_r}
use Rattle.permutations.specs.Pair.{image}
use Rattle.import_rule.specs.Fixed.{by_q}
use Rattle.import_rule.specs.Order.{Order}
use Rattle.import_rule.specs.Symbol.{made, ruled_by}
use Rattle.import_rule.specs.Theorem.{Precisely}
use Rattle.import_symbol.specs.Answer.{check16, ruled_table}
use Rattle.permutations.specs.Check.{pair_check, Passport}

abbrev pub needed_vertices : (r : List ℕ) → ℕ
needed_vertices r = (length r - fixed_points r) / 3 + 1

abbrev pub needed_length : (r : List ℕ) → ℕ
needed_length r = 3 * needed_vertices r + 1

-- ---- the import

abbrev pub symbol_into : Order → (s r : List ℕ) → Lent (List ℤ) → List Step
symbol_into order s r out =
    asks (length_check (needed_length r) (length out.entry.now)) ++ asks (check16 (ruled_by order s r))
    ++ result_in (at_front (ruled_table (ruled_by order s r)) out.entry.now) out

abbrev pub import_steps : Order → (s r : List ℕ) → Lent (List ℕ) → Lent (List ℤ) → List Step
import_steps order s r w out = asks (pair_check s r) ++ work w ++ symbol_into order s r out

abbrev pub numbering : (s r : List ℕ) → List ℕ
numbering s r = order_of (image s) (image r) 0 (length s)

pub record SymbolOfPair (s r : List ℕ) (v : ℕ) (t : List ℤ) : Type 0 where
  pub passport : Passport s r
  pub precisely : Precisely (image s) (by_q (image s) (image r)) v t
  pub vertices : v ≡ needed_vertices r
  pub thirds : 3 * (v - 1) + fixed_points r ≡ length r
  pub index : length s ≡ index_of v t
  pub S_table : table_s v t ≡ renamed (numbering s r) (image s)
  pub R_table : table_r v t ≡ renamed (numbering s r) (image r)

abbrev pub import_call : Order → (s r : List ℕ) → Lent (List ℕ) → Lent (List ℤ) → Contract
import_call order s r w out = record {
  steps = import_steps order s r w out;
  count = needed_vertices r;
  Says = λ number place. number ≡ 0 → SymbolOfPair s r place (take (3 * place + 1) out.exit.now);
}

-- ---- the length alone

pub record LengthOfImport (s r : List ℕ) (n : ℕ) : Type 0 where
  pub passport : Passport s r
  pub needed : n ≡ needed_length r
  pub thirds : 3 * (needed_vertices r - 1) + fixed_points r ≡ length r
  pub takes : (order : Order) (v : ℕ) (t : List ℤ) → ruled_by order s r ≡ made v t → (n ≡ 3 * v + 1) × (n ≡ length t)
  pub enough : (order : Order) (w : Lent (List ℕ)) (out : Lent (List ℤ)) → work_length ≤ length w.entry.now
      → n ≤ length out.entry.now → verdict (import_steps order s r w out) ≡ check16 (ruled_by order s r)
  pub fewer : (order : Order) (w : Lent (List ℕ)) (out : Lent (List ℤ)) → work_length ≤ length w.entry.now
      → length out.entry.now < n → verdict (import_steps order s r w out) ≡ Err (TooShort n)

abbrev pub import_length_call : (s r : List ℕ) → Contract
import_length_call s r = record {
  steps = asks (pair_check s r);
  count = needed_length r;
  Says = λ number place. number ≡ 0 → LengthOfImport s r place;
}
