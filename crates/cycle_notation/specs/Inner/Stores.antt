-- A table made by stores, link by link.
--
--     links_stored f c t  t with a store for each point of c: the next point of c, and f for the last
--     cycles_stored cs t  the same for all cycles, each round to its first point
--     identity n         the table that moves nothing
--     last_of a c         the last of the points a and then c
use Rattle.std.specs.Prelude.{List, [], ◌∷◌, ℕ, ◌-◌, set}
use Rattle.cycle_notation.specs.Table.{tabled}

unfoldable pub links_stored : ℕ → List ℕ → List ℕ → List ℕ
links_stored f [] t = t
links_stored f (a ∷ []) t = set t (a - 1) (f - 1)
links_stored f (a ∷ b ∷ c) t = links_stored f (b ∷ c) (set t (a - 1) (b - 1))

abbrev pub turned_in : List ℕ → List ℕ → List ℕ
turned_in [] t = t
turned_in (f ∷ c) t = links_stored f (f ∷ c) t

unfoldable pub cycles_stored : List (List ℕ) → List ℕ → List ℕ
cycles_stored [] t = t
cycles_stored (c ∷ cs) t = cycles_stored cs (turned_in c t)

unfoldable pub identity : ℕ → List ℕ
identity n = tabled (λ (i : ℕ). i) n

abbrev pub last_of : ℕ → List ℕ → ℕ
last_of a [] = a
last_of a (b ∷ c) = last_of b c
