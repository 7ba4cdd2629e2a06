-- The bytes that split a text, and the runs between them.
--     is_blank b    b is a space (32), a line feed (10) or a carriage return (13)
--     until_blank t  the bytes of t before its first blank byte, or all of t where it has none
--     unbroken t    t has no blank byte
use Rattle.std.specs.Prelude.{ℕ, Bool, true, false, not, ◌&&◌, ◌||◌, List, [], ◌∷◌, eqb}

unfoldable pub is_blank : ℕ → Bool
is_blank b = eqb b 32 || eqb b 10 || eqb b 13

unfoldable pub until_blank : List ℕ → List ℕ
until_blank [] = []
until_blank (b ∷ t) = elim (is_blank b) [ true ↦ [] | false ↦ b ∷ until_blank t ]

unfoldable pub unbroken : List ℕ → Bool
unbroken [] = true
unbroken (b ∷ t) = not (is_blank b) && unbroken t
