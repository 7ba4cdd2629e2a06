-- The steps of the walk (docs/CONVENTIONS.md, 7).
--
--   odd_at v t i       whether side i is odd
--   real v t p         whether p is a position of docs/CONVENTIONS.md: a corner, or the outer face of an odd side
--   Real v t p         that it is. The outer faces of the other sides are counted as positions, and no walk gets there
--   step_s v t p       where S leads from p. Beyond the edge lies flip p: a corner, or the outer face of some side i. S
--                      goes there where that is real; through an even side it stays, and through a free one it lands
--                      under the partner of i
--   turn_q v p         where Q leads from p: to the next corner of the triangle; an outer face stays
--   written v t x p    the letters that x writes at p, one at most, with j the number of the generator of the side that
--                      is met: S out through an even side j, through the first side of a free pair -j, through the
--                      second j; Q at the outer face of an odd side j, and Q⁻¹ there -j
--   turned v t         whether the last side starts at 0/1 and is not odd
--   start_of v t       where the walk starts: on the edge from 0 to infinity, or where `turned` holds on the edge from
--                      infinity to 0
--   start_frame v t    the matrix of that edge, up to sign: the identity, or S
--   origin_of v t      the position that stands for the coset H, whose frame lies in H: the start, or its image under S
use Rattle.std.specs.Prelude.{◌≡◌, Bool, true, not, ◌&&◌, ◌||◌, List, [], ◌∷◌, ℕ, ◌+◌, ◌-◌, ◌%◌, ltb, eqb}
use Rattle.std.specs.Prelude.{ℤ, pos, negsuc, neg_ℤ}
use Rattle.matrix.specs.Matrix.{Mat, 𝟙, mat_s}
use Rattle.matrix.specs.Words.{Letter, S, Q, P}
use Rattle.basics.specs.Choice.{pick}
use Rattle.symbol.specs.Table.{pairing_entry}
use Rattle.symbol.specs.Check.{is_zero, eq_z}
use Rattle.pairing.specs.Generator.{partner, pairing_at, generator_number}
use Rattle.symbol.specs.declared.Pairing.{Pairing}
use Rattle.symbol.specs.declared.Pairing.TheVariants.{Even, Odd, Free, Bad}
use Rattle.polygon.specs.Cut.{corners, outer, flip, under_zero}

abbrev pub odd_at : ℕ → List ℤ → ℕ → Bool
odd_at v t i = eq_z (pairing_entry v t i) (negsuc 2)

unfoldable pub real : ℕ → List ℤ → ℕ → Bool
real v t p = ltb p (corners v) || odd_at v t (p - corners v)

abbrev pub Real : ℕ → List ℤ → ℕ → Type 0
Real v t p = real v t p ≡ true

-- out through a side: p stays, q goes out, r lands under the partner
abbrev pub cross_by : Pairing → ℕ → ℕ → ℕ → ℕ
cross_by Even p q r = p
cross_by Odd p q r = q
cross_by (Free l) p q r = r
cross_by Bad p q r = p

-- S from p, beyond whose edge lies q
abbrev pub across : ℕ → List ℤ → ℕ → ℕ → ℕ
across v t p q =
    let i = q - corners v in
    pick (ltb q (corners v)) q (cross_by (pairing_at v t i) p q (flip v t (outer v (partner v t i))))

unfoldable pub step_s : ℕ → List ℤ → ℕ → ℕ
step_s v t p = pick (real v t p) (across v t p (flip v t p)) p

unfoldable pub turn_q : ℕ → ℕ → ℕ
turn_q v p = pick (ltb p (corners v)) (pick (eqb (p % 3) 2) (p - 2) (p + 1)) p

-- one letter, the number j or its negative
abbrev pub forth : ℕ → List ℤ
forth j = pos j ∷ []

abbrev pub back : ℕ → List ℤ
back j = neg_ℤ (pos j) ∷ []

-- S out through side i, whose partner is k
abbrev pub crossed : Pairing → ℕ → ℕ → ℕ → List ℤ
crossed Even i k j = forth j
crossed Odd i k j = []
crossed (Free l) i k j = pick (ltb i k) (back j) (forth j)
crossed Bad i k j = []

-- nothing at a corner q, and what f gives at the outer face of a side
abbrev pub at_side : ℕ → ℕ → (ℕ → List ℤ) → List ℤ
at_side v q f = pick (ltb q (corners v)) [] (f (q - corners v))

unfoldable pub written : ℕ → List ℤ → Letter → ℕ → List ℤ
written v t S p =
    at_side v (flip v t p) (λ (i : ℕ). crossed (pairing_at v t i) i (partner v t i) (generator_number v t i))
written v t Q p = at_side v p (λ (i : ℕ). forth (generator_number v t i))
written v t P p = at_side v p (λ (i : ℕ). back (generator_number v t i))

abbrev pub turned : ℕ → List ℤ → Bool
turned v t = is_zero t (v - 1) && not (odd_at v t v)

unfoldable pub start_of : ℕ → List ℤ → ℕ
start_of v t = pick (turned v t) (under_zero v t) (flip v t (under_zero v t))

unfoldable pub start_frame : ℕ → List ℤ → Mat
start_frame v t = pick (turned v t) mat_s 𝟙

unfoldable pub origin_of : ℕ → List ℤ → ℕ
origin_of v t = pick (turned v t) (step_s v t (start_of v t)) (start_of v t)
