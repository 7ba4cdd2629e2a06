-- Lines of text: a name and numbers behind it.
--     natural n                  the natural number n as an integer
--     spaced zs                  the numbers zs in decimal form, a space in front of each
--     line name zs               the name, the numbers and a line feed
--     refusal_line f             the one line for what is refused: the number and the place
--     answer_lines c l           the lines l where the checks c accept, else the line for what they refuse
use Rattle.std.specs.Prelude.{List, [], ◌∷◌, ◌++◌, ℕ, ℤ, pos, Ok, Err}
use Rattle.call.specs.declared.refusal.Refusal.{Refusal}
use Rattle.decimal.specs.Ascii.{ascii}
use Rattle.decimal.specs.Decimal.{decimal_of}
use Rattle.call.specs.Refusal.{refusal_number, refusal_place, Checked}

abbrev pub natural : ℕ → ℤ
natural n = pos n

unfoldable pub spaced : List ℤ → List ℕ
spaced [] = []
spaced (z ∷ zs) = (32 ∷ decimal_of z) ++ spaced zs

unfoldable pub line : List ℕ → List ℤ → List ℕ
line name zs = name ++ (spaced zs ++ (10 ∷ []))

unfoldable pub refusal_line : Refusal → List ℕ
refusal_line f = line (ascii "refused") (natural (refusal_number f) ∷ natural (refusal_place f) ∷ [])

abbrev pub answer_lines : Checked → List ℕ → List ℕ
answer_lines (Ok tt) l = l
answer_lines (Err f) l = refusal_line f
