-- The bytes of an export, as `3 (1,2);(1,3,2)`.
--
--     behind_commas xs       the numbers xs in decimal form, each behind a comma
--     cycle_bytes c          a cycle: its points with commas between them, in brackets; `()` without points
--     cycles_bytes cs        cycles one after another
--     permutation_bytes cs   a permutation by its cycles: these, and `()` for the identity, which has none
--     export_of s r           the tables s and r: the index, one blank, S, a semicolon, R
-- Decimal forms have no zeros in front (`digits`, crate `decimal`).
use Rattle.std.specs.Prelude.{List, [], ◌∷◌, ◌++◌, ℕ, length}
use Rattle.decimal.specs.Ascii.{ascii}
use Rattle.decimal.specs.Decimal.{digits}
use Rattle.cycle_writing.specs.Cycles.{cycles_of}

unfoldable pub behind_commas : List ℕ → List ℕ
behind_commas [] = []
behind_commas (x ∷ xs) = 44 ∷ (digits x ++ behind_commas xs)

unfoldable pub cycle_bytes : List ℕ → List ℕ
cycle_bytes [] = ascii "()"
cycle_bytes (x ∷ xs) = 40 ∷ (digits x ++ (behind_commas xs ++ (41 ∷ [])))

unfoldable pub cycles_bytes : List (List ℕ) → List ℕ
cycles_bytes [] = []
cycles_bytes (c ∷ cs) = cycle_bytes c ++ cycles_bytes cs

unfoldable pub permutation_bytes : List (List ℕ) → List ℕ
permutation_bytes [] = cycle_bytes []
permutation_bytes (c ∷ cs) = cycles_bytes (c ∷ cs)

unfoldable pub export_of : (s r : List ℕ) → List ℕ
export_of s r = digits (length s) ++ (32 ∷ (permutation_bytes (cycles_of s) ++ (59 ∷ permutation_bytes (cycles_of r))))
