-- The place of a number in a list. One notion carries all of the numbering: being listed, being new, and having no
-- repeats.
--     find l x      the first place of x in l; the length of l where x is not there
--     x ∈ l         x is in l
--     x ∉ l         x is not in l, as a fact that `omega` reads
--     is_in l x     whether x is in l
--     Once l        l has no repeats: the entry at the place j has the place j
-- The laws are in proofs/Find.antt.
use Rattle.std.specs.Prelude.{◌≡◌, Bool, List, [], ◌∷◌, ℕ, suc, ◌≤◌, ◌<◌, length, get_or, eqb, ltb}
use Rattle.basics.specs.Choice.{pick}

infix 4 ◌∈◌ ◌∉◌
unfoldable pub find : List ℕ → ℕ → ℕ
find [] x = 0
find (y ∷ l) x = pick (eqb y x) 0 (suc (find l x))

abbrev pub ◌∈◌ : ℕ → List ℕ → Type 0
x ∈ l = find l x < length l

abbrev pub ◌∉◌ : ℕ → List ℕ → Type 0
x ∉ l = length l ≤ find l x

abbrev pub is_in : List ℕ → ℕ → Bool
is_in l x = ltb (find l x) (length l)

pub record Once (l : List ℕ) : Type 0 where
  pub place : (j : ℕ) → j < length l → find l (get_or l j 0) ≡ j
