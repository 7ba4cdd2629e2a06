-- A TOWER: symbols in one lent table t, each with the number of an entry listed before that should contain it, or -1
-- for none. For each entry come the named entry, v, and the symbol's table. Entries are counted from 0; n is how many
-- there are.
--
--   or_zero x              x, or 0 where it is negative, which as a v is out of range as well
--   entry_named l         the entry that is named by the entry with which the numbers l begin
--   entry_vertices l      its v
--   entry_table last l    its symbol's table: the next 3v + 1 numbers or the fewer left, and for the last entry all
--                         that are left
--   entry_check last l    its checks 1 to 7; 2 with place 0 where there is no v
--   from_entry t e        the numbers from entry e on
--   named_at, vertices_at, table_at   the same of entry e
--   symbols_check n t e   the checks of the first e entries, in listing order
--   listed_before x e     x is -1, or an entry before e
--   named_check n t       25 with the first entry that names one not listed before it (`unlisted`)
--   claim_holds n t e x   x is no entry, or the subgroup of the entry x contains that of the entry e
--   claims_check n t      26 with the first entry whose claim is false (`claim_fails`)
use Rattle.std.specs.Prelude.{Ok, Err}
use Rattle.std.specs.Prelude.{Bool, true, not, List, ℕ, zero, suc, ◌+◌, ◌*◌, ltb, eqb, length, take, drop, ℤ, pos, negsuc}
use Rattle.matrix.specs.Matrix.{nth}
use Rattle.basics.specs.Choice.{pick}
use Rattle.basics.specs.Count.{first}
use Rattle.call.specs.Refusal.{◌or_else◌, Checked}
use Rattle.call.specs.declared.refusal.Refusal.TheVariants.{TableLength, NotListedBefore, FalseClaim}
use Rattle.symbol.specs.Check.{refuse_at, symbol_check}
use Rattle.containment.specs.TwoSymbols.{contained}

abbrev pub or_zero : ℤ → ℕ
or_zero (pos n) = n
or_zero (negsuc n) = 0

-- ---- an entry

abbrev pub entry_named : List ℤ → ℤ
entry_named l = nth l 0

abbrev pub entry_vertices : List ℤ → ℕ
entry_vertices l = or_zero (nth l 1)

abbrev pub entry_table : (last : Bool) → List ℤ → List ℤ
entry_table last l = pick last (drop 2 l) (take (3 * entry_vertices l + 1) (drop 2 l))

abbrev pub entry_check : (last : Bool) → List ℤ → Checked
entry_check last l =
    pick (ltb (length l) 2) (Err (TableLength 0)) (symbol_check (entry_vertices l) (entry_table last l))

-- ---- all entries: each but the last takes two numbers and the 3v + 1 of its table

unfoldable pub from_entry : List ℤ → ℕ → List ℤ
from_entry t zero = t
from_entry t (suc e) = let l = from_entry t e in drop (3 * entry_vertices l + 3) l

abbrev pub named_at : List ℤ → ℕ → ℤ
named_at t e = entry_named (from_entry t e)

abbrev pub vertices_at : List ℤ → ℕ → ℕ
vertices_at t e = entry_vertices (from_entry t e)

abbrev pub table_at : ℕ → List ℤ → ℕ → List ℤ
table_at n t e = entry_table (eqb (suc e) n) (from_entry t e)

unfoldable pub symbols_check : (n : ℕ) → List ℤ → (e : ℕ) → Checked
symbols_check n t zero = Ok tt
symbols_check n t (suc e) = symbols_check n t e or_else entry_check (eqb (suc e) n) (from_entry t e)

-- ---- 25

abbrev pub listed_before : ℤ → ℕ → Bool
listed_before (pos j) e = ltb j e
listed_before (negsuc k) e = eqb k 0

abbrev pub unlisted : List ℤ → ℕ → Bool
unlisted t e = not (listed_before (named_at t e) e)

abbrev pub named_check : ℕ → List ℤ → Checked
named_check n t = refuse_at (first (unlisted t) n) n NotListedBefore

-- ---- 26

abbrev pub claim_holds : ℕ → List ℤ → ℕ → ℤ → Bool
claim_holds n t e (pos j) = contained (vertices_at t e) (table_at n t e) (vertices_at t j) (table_at n t j)
claim_holds n t e (negsuc k) = true

abbrev pub claim_fails : ℕ → List ℤ → ℕ → Bool
claim_fails n t e = not (claim_holds n t e (named_at t e))

abbrev pub claims_check : ℕ → List ℤ → Checked
claims_check n t = refuse_at (first (claim_fails n t) n) n FalseClaim
