-- The table of a permutation that is given by cycles: points count from 1 in the text and from 0 in the table.
--
--     behind_in f c x  the point behind x in c, whose points go round to f; x itself where c does not have it
--     turned_by c x    the point behind x in the cycle c, round to the first
--     image_by cs x    where the cycles cs lead from x: to the point behind it in its cycle, round to the first; x
--                      itself where no cycle has it
--     tabled f n       f 0 to f (n - 1)
--     cycle_table n cs  the table of the permutation of n points with the cycles cs
use Rattle.std.specs.Prelude.{List, [], ◌∷◌, ◌++◌, ℕ, zero, suc, ◌-◌, eqb}
use Rattle.basics.specs.Choice.{pick}
use Rattle.numbering.specs.Find.{is_in}

unfoldable pub behind_in : ℕ → List ℕ → ℕ → ℕ
behind_in f [] x = x
behind_in f (a ∷ []) x = pick (eqb a x) f x
behind_in f (a ∷ b ∷ c) x = pick (eqb a x) b (behind_in f (b ∷ c) x)

abbrev pub turned_by : List ℕ → ℕ → ℕ
turned_by [] x = x
turned_by (f ∷ c) x = behind_in f (f ∷ c) x

unfoldable pub image_by : List (List ℕ) → ℕ → ℕ
image_by [] x = x
image_by (c ∷ cs) x = pick (is_in c x) (turned_by c x) (image_by cs x)

unfoldable pub tabled : (ℕ → ℕ) → ℕ → List ℕ
tabled f zero = []
tabled f (suc n) = tabled f n ++ (f n ∷ [])

abbrev pub cycle_table : ℕ → List (List ℕ) → List ℕ
cycle_table n cs = tabled (λ (i : ℕ). image_by cs (suc i) - 1) n
