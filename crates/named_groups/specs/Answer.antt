-- The calls on groups with names: their refusals in order, what they leave, and what that means. k is the family's
-- number.
--
--   NamedTables k n j        the tables of S and R are those of the right cosets of the group, j points numbered by the
--                            listing's rule
--   named_tables_steps       20, 21, then the work space, then the spaces for S and R
--   named_tables_call        the exported call
--   named_rule order k n     what the rule gives for the group's tables, under an order
--   NamedSymbol f n v t      the symbol generates precisely the matrices that meet the condition; its own tables are
--                            these, which pass 12 to 15, and it has (index - e3)/3 + 1 vertices, where 3 divides
--                            index - e3
--   named_symbol_steps       20, 21, then the work space, then the result space by the length of the table, then 16;
--                            by the rule under `leftmost`, by the wide rule under `longest_open`
--   named_symbol_call        the exported call: 0 says that the table of such a symbol stands at the front of the
--                            result space, of as many vertices as the place says
--   ruled_closes, ruled_word, ruled_sign  whether the walk over the symbol that the rule gives comes home, the word
--                                         that
--                            it writes, and its sign
--   named_query_steps        THE STEPS OF A QUERY on a group with a name: 20, 21, then 8 and 9, then the work space,
--                            then 16, then 10, then the word space, in which it leaves its word
--   ruled_steps, ruled_if    those from 16 on, and the answer by their verdict
--   named_query_by           the answer of a query, by the lengths of its spaces
use Rattle.std.specs.Prelude.{◌≡◌, ◌↔◌, Bool, true, false, List, [], ◌++◌, ℕ, ◌+◌, ◌-◌, ◌*◌, length, take, ℤ}
use Rattle.matrix.specs.Matrix.{Mat, of_list}
use Rattle.call.specs.Space.{work_length}
use Rattle.call.specs.Refusal.{Checked, Answer}
use Rattle.call.specs.Call.{Lent, Step, asks, work, length_check, stores, verdict, Contract}
use Rattle.symbol.specs.Symbol.{IsSymbol}
use Rattle.pairing.specs.Generator.{generators}
use Rattle.pairing.specs.Subgroup.{InH}
use Rattle.figures.specs.Cusps.{fixed_points}
use Rattle.coset.specs.Tables.{index_of, table_s, table_r}
use Rattle.right_cosets.specs.Condition.{Unit}
use Rattle.congruence.specs.Congruence.{Meets}
use Rattle.congruence.specs.Index.{family_index}
use Rattle.congruence.specs.Cosets.{family_s, family_r}
use Rattle.right_cosets.specs.Cosets.{CosetsOf}
use Rattle.congruence.specs.declared.Family.{Family}
use Rattle.import_rule.specs.Order.{Order}
use Rattle.import_rule.specs.Symbol.{Ruled, made, over, ruled_by}
use Rattle.import_symbol.specs.Answer.{check16}
use Rattle.permutations.specs.Check.{Passport}
use Rattle.import_call.specs.Import.{needed_vertices, symbol_into}
use Rattle.word.specs.Answer.{matrices_check, closes, found_word, found_sign, walk_checks, word_steps, word_if}
use Rattle.word.specs.declared.FoundWord.{FoundWord}
use Rattle.named_groups.specs.Group.{family_of, group_check}

-- ---- the tables

pub record NamedTables (k n j : ℕ) : Type 0 where
  pub count : j ≡ family_index (family_of k) n
  pub cosets : CosetsOf (Meets (family_of k) n) (family_index (family_of k) n) (family_s (family_of k) n)
      (family_r (family_of k) n)

abbrev pub named_tables_steps : (k n : ℕ) (w s r : Lent (List ℕ)) → List Step
named_tables_steps k n w s r =
    asks (group_check k n) ++ work w ++ stores (family_s (family_of k) n) s ++ stores (family_r (family_of k) n) r

abbrev pub named_tables_call : (k n : ℕ) (w s r : Lent (List ℕ)) → Contract
named_tables_call k n w s r = record {
  steps = named_tables_steps k n w s r;
  count = family_index (family_of k) n;
  Says = λ number place. number ≡ 0 → NamedTables k n place;
}

-- ---- the symbol

abbrev pub named_rule : Order → (k n : ℕ) → Ruled
named_rule order k n = ruled_by order (family_s (family_of k) n) (family_r (family_of k) n)

pub record NamedSymbol (f : Family) (n v : ℕ) (t : List ℤ) : Type 0 where
  pub symbol : IsSymbol v t
  pub group : (m : Mat) → Unit m → InH (generators v t) m ↔ Meets f n m
  pub index : index_of v t ≡ family_index f n
  pub S_table : table_s v t ≡ family_s f n
  pub R_table : table_r v t ≡ family_r f n
  pub passport : Passport (family_s f n) (family_r f n)
  pub vertices : v ≡ needed_vertices (family_r f n)
  pub thirds : 3 * (v - 1) + fixed_points (family_r f n) ≡ family_index f n

abbrev pub named_symbol_steps : Order → (k n : ℕ) → Lent (List ℕ) → Lent (List ℤ) → List Step
named_symbol_steps order k n w out =
    asks (group_check k n) ++ work w ++ symbol_into order (family_s (family_of k) n) (family_r (family_of k) n) out

abbrev pub named_symbol_call : Order → (k n : ℕ) → Lent (List ℕ) → Lent (List ℤ) → Contract
named_symbol_call order k n w out = record {
  steps = named_symbol_steps order k n w out;
  count = needed_vertices (family_r (family_of k) n);
  Says = λ number place. number ≡ 0 → NamedSymbol (family_of k) n place (take (3 * place + 1) out.exit.now);
}

-- ---- a query

abbrev pub ruled_closes : Ruled → (a b : List ℤ) → Bool
ruled_closes (made v t) a b = closes v t (of_list a) (of_list b)
ruled_closes (over i) a b = false

abbrev pub ruled_word : Ruled → (a b : List ℤ) → List ℤ
ruled_word (made v t) a b = found_word v t (of_list a) (of_list b)
ruled_word (over i) a b = []

abbrev pub ruled_sign : Ruled → (a b : List ℤ) → Bool
ruled_sign (made v t) a b = found_sign v t (of_list a) (of_list b)
ruled_sign (over i) a b = true

abbrev pub ruled_steps : Ruled → (a b : List ℤ) → Lent (List ℤ) → (start : ℕ) → List Step
ruled_steps rule a b out start =
    asks (check16 rule) ++ word_steps (ruled_closes rule a b) (ruled_word rule a b) out start

abbrev pub named_query_steps : Order → (k n : ℕ) (a b : List ℤ) → Lent (List ℕ) → Lent (List ℤ) → (start : ℕ)
    → List Step
named_query_steps order k n a b w out start =
    asks (group_check k n) ++ asks (matrices_check a b) ++ work w ++ ruled_steps (named_rule order k n) a b out start

abbrev pub ruled_if : Ruled → (a b : List ℤ) (start : ℕ) → Checked → (Answer FoundWord)
ruled_if rule a b start = word_if start (length (ruled_word rule a b)) (ruled_sign rule a b)

abbrev pub ruled_checks : Ruled → (a b : List ℤ) (start room : ℕ) → List Step
ruled_checks rule a b start room =
    asks (check16 rule) ++ walk_checks (ruled_closes rule a b) (ruled_word rule a b) start room

abbrev pub named_query_by : Order → (k n : ℕ) (a b : List ℤ) (work room start : ℕ) → (Answer FoundWord)
named_query_by order k n a b work room start =
    ruled_if (named_rule order k n) a b start
    (verdict (asks (group_check k n) ++ asks (matrices_check a b) ++ asks (length_check work_length work)
    ++ ruled_checks (named_rule order k n) a b start room))
