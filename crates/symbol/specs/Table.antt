-- A symbol as it lies in the lent table: 2v vertex entries, then v + 1 pairings.
--
--   numer t i, denom t i     numerator and denominator of the vertex i, counted from 0 to v - 1
--   pairing_entries v t      the part of the table behind the vertex entries
--   pairing_entry v t i      what stands for the pairing of side i, counted from 0 to v
--   Side, side a b c d       a side from a/b on the left to c/d on the right
--   left_num, left_den, right_num, right_den  the ends of side i: -1/0 stands before the first vertex, 1/0 after the
--                            last
--   side_at v t i            side i with these ends
--   frame s                  the side's frame, (c a; d b)
--   gap s                    c b - a d, which is 1 where the two ends are neighbours
--   carried n x m            n x m⁻¹, for matrices of determinant 1
--   Pairing                  Even, Odd, Free with its label, or Bad
--   pairing_of v x           the pairing that x stands for in a symbol of v vertices: -2 even, -3 odd, 1 to v + 1 a
--                            free label
use Rattle.std.specs.Prelude.{List, ℕ, zero, suc, ◌+◌, ◌*◌, ltb, drop, ℤ, pos, negsuc, ◌-ℤ◌, ◌*ℤ◌}
use Rattle.matrix.specs.Matrix.{Mat, mat, ◌⊗◌, adj, nth}
use Rattle.basics.specs.Choice.{pick}
use Rattle.symbol.specs.declared.Side.{Side}
use Rattle.symbol.specs.declared.Pairing.{Pairing}
use Rattle.symbol.specs.declared.Pairing.TheVariants.{Even, Odd, Free, Bad}

abbrev pub numer : List ℤ → ℕ → ℤ
numer t i = nth t (2 * i)

abbrev pub denom : List ℤ → ℕ → ℤ
denom t i = nth t (2 * i + 1)

abbrev pub pairing_entries : ℕ → List ℤ → List ℤ
pairing_entries v t = drop (2 * v) t

abbrev pub pairing_entry : ℕ → List ℤ → ℕ → ℤ
pairing_entry v t i = nth (pairing_entries v t) i

abbrev pub side : ℤ → ℤ → ℤ → ℤ → Side
side a b c d = record { a = a; b = b; c = c; d = d }

-- numerator and denominator of the left end of side i, and of its right end
abbrev pub left_num : List ℤ → ℕ → ℤ
left_num t zero = negsuc 0
left_num t (suc i) = numer t i

abbrev pub left_den : List ℤ → ℕ → ℤ
left_den t zero = pos 0
left_den t (suc i) = denom t i

abbrev pub right_num : ℕ → List ℤ → ℕ → ℤ
right_num v t i = pick (ltb i v) (numer t i) (pos 1)

abbrev pub right_den : ℕ → List ℤ → ℕ → ℤ
right_den v t i = pick (ltb i v) (denom t i) (pos 0)

abbrev pub side_at : ℕ → List ℤ → ℕ → Side
side_at v t i = side (left_num t i) (left_den t i) (right_num v t i) (right_den v t i)

abbrev pub frame : Side → Mat
frame s = mat s.c s.a s.d s.b

abbrev pub gap : Side → ℤ
gap s = s.c *ℤ s.b -ℤ s.a *ℤ s.d

abbrev pub carried : Mat → Mat → Mat → Mat
carried n x m = n ⊗ x ⊗ adj m

abbrev pub pairing_of : ℕ → ℤ → Pairing
pairing_of v (pos zero) = Bad
pairing_of v (pos (suc l)) = pick (ltb l (v + 1)) (Free (suc l)) Bad
pairing_of v (negsuc zero) = Bad
pairing_of v (negsuc (suc zero)) = Even
pairing_of v (negsuc (suc (suc zero))) = Odd
pairing_of v (negsuc (suc (suc (suc n)))) = Bad
