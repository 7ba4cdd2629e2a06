-- Searching, counting and listing the naturals below n that pass a test.
--
--   first test n     the smallest i < n that passes, or n where none does
--   count test n     how many i < n pass
--   those test n     the i < n that pass, in ascending order
use Rattle.std.specs.Prelude.{Bool, List, [], ◌∷◌, ◌++◌, ℕ, zero, suc, ◌+◌, ltb}
use Rattle.basics.specs.Choice.{pick}

abbrev pub first : (ℕ → Bool) → ℕ → ℕ
first test zero = zero
first test (suc n) = let k = first test n in pick (ltb k n) k (pick (test n) n (suc n))

abbrev pub count : (ℕ → Bool) → ℕ → ℕ
count test zero = zero
count test (suc n) = count test n + pick (test n) 1 0

abbrev pub those : (ℕ → Bool) → ℕ → List ℕ
those test zero = []
those test (suc n) = those test n ++ pick (test n) (n ∷ []) []
