-- Γ0(2) drawn: a line at 0, an arc with centre and radius 1/2, a line at 1; the box from 0 to 1, of height 1/2. The definitions, computed.
-- Assumes nothing.
use mathlib.Core.Path.{◌≡◌, refl}
use mathlib.Core.Bool.{false}
use mathlib.Core.List.{List, [], ◌∷◌}
use lib.IntN.{ℤ, pos, negsuc}
use lib.Ieee.{Float, fin, div, of_int, sub, add, lt}
use Rattle.drawing.specs.Quotient.{quotient, float_of}
use Rattle.drawing.specs.Extreme.{least_of, greatest_of}
use Rattle.drawing.specs.Bounding.{box_to}
use Rattle.drawing.specs.Answer.{drawn_rows, box_numbers}

gamma0_2 : List ℤ
gamma0_2 = pos 0 ∷ pos 1 ∷ pos 1 ∷ pos 1 ∷ pos 1 ∷ negsuc 1 ∷ pos 1 ∷ []

none : Float
none = fin false 0 (pos 0)

one : Float
one = fin false 1 (pos 0)

half : Float
half = fin false 1 (negsuc 0)

two : Float
two = fin false 1 (pos 1)

rows : drawn_rows 2 gamma0_2 3 ≡ none ∷ none ∷ none ∷ one ∷ one ∷ half ∷ half ∷ two ∷ none ∷ one ∷ none ∷ one ∷ []
unfolding gamma0_2 none one half two drawn_rows quotient float_of div of_int
rows = refl

box : box_numbers (box_to 2 gamma0_2 3) ≡ none ∷ one ∷ none ∷ half ∷ []
unfolding gamma0_2 none one half least_of greatest_of quotient float_of div of_int sub add lt
box = refl
