-- Where entries begin and end in the table.
--
--   EntriesWhole t e    each of the first e entries has the two numbers and the 3v + 1 of its table
--   StartsAt t e p      entry e begins at p
--   EndsAt last l k     the table of the entry with which l begins ends at k
--   ClaimReady n t w    all entries have symbols, every name is listed before, and the work space is long enough
use Rattle.std.specs.Prelude.{◌≡◌, Bool, List, ℕ, ◌+◌, ◌*◌, ◌-◌, ◌≤◌, ◌<◌, length, take, drop, ℤ}
use Rattle.call.specs.Space.{work_length}
use Rattle.towers.specs.Tower.{entry_table, from_entry, vertices_at}
use Rattle.towers.specs.Meaning.{AreSymbols, NameListed}

pub record EntriesWhole (t : List ℤ) (e : ℕ) : Type 0 where
  pub fits : (i : ℕ) → i < e → 3 * vertices_at t i + 3 ≤ length (from_entry t i)

pub record StartsAt (t : List ℤ) (e p : ℕ) : Type 0 where
  pub inside : p ≤ length t
  pub rest : drop p t ≡ from_entry t e

pub record EndsAt (last : Bool) (l : List ℤ) (k : ℕ) : Type 0 where
  pub low : 2 ≤ k
  pub high : k ≤ length l
  pub table : take (k - 2) (drop 2 l) ≡ entry_table last l

pub record ClaimReady (n : ℕ) (t : List ℤ) (w : List ℕ) : Type 0 where
  pub symbols : AreSymbols n t
  pub listed : (e : ℕ) → e < n → NameListed t e
  pub work : work_length ≤ length w
