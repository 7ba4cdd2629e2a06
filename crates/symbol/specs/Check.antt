-- The checks 1 to 7 of docs/CONVENTIONS.md, in their order, each with its place. Every later call cites `symbol_check`.
--
--   refuse b f            refused with f where b holds
--   refuse_at i n f       refused at i, the first place that fails, where it is below n
--   eq_z                  whether two whole numbers are equal
--   out_of_range, apart, is_zero, unpaired_in  what 3, 4, 5 and 6 look for: an entry out of range, ends of a side that
--                         are no neighbours, a vertex 0/1, a side that is neither even nor odd nor one of two with its
--                         label; `sides`, `sides_in` count the sides with a label, `unpaired_by` judges by that count
--   is_odd, lacks_odd     a side is odd; one vertex and no odd side
--   check1 .. check7      the seven checks; the last two are on the pairings alone
--   symbol_check v t      all of them, in order: the first fault counts
use Rattle.std.specs.Prelude.{Bool, true, false, not, ◌&&◌, ◌||◌, List, ℕ, ◌+◌, ◌*◌, ◌%◌, leb, ltb, eqb, length}
use Rattle.std.specs.Prelude.{ℤ, pos, negsuc, nat_abs, Ok, Err}
use Rattle.matrix.specs.Matrix.{nth}
use Rattle.matrix.specs.Euclid.{positive}
use Rattle.basics.specs.Choice.{pick}
use Rattle.basics.specs.Count.{first, count}
use Rattle.symbol.specs.Table.{numer, denom, pairing_entries, side_at, gap, pairing_of}
use Rattle.symbol.specs.declared.Pairing.{Pairing}
use Rattle.symbol.specs.declared.Pairing.TheVariants.{Even, Odd, Free, Bad}
use Rattle.call.specs.declared.refusal.Refusal.{Refusal}
use Rattle.call.specs.Refusal.{◌or_else◌, Checked}
use Rattle.call.specs.declared.refusal.Refusal.TheVariants.{BadVertexCount, TableLength, VertexEntry, NotNeighbours}
use Rattle.call.specs.declared.refusal.Refusal.TheVariants.{NoZero, BadPairing, NoOddSide}

-- refused where b holds
abbrev pub refuse : Bool → Refusal → Checked
refuse b f = pick b (Err f) (Ok tt)

-- refused at the first i < n that fails
abbrev pub refuse_at : ℕ → ℕ → (ℕ → Refusal) → Checked
refuse_at i n f = refuse (ltb i n) (f i)

abbrev pub eq_z : ℤ → ℤ → Bool
eq_z (pos m) (pos n) = eqb m n
eq_z (pos m) (negsuc n) = false
eq_z (negsuc m) (pos n) = false
eq_z (negsuc m) (negsuc n) = eqb m n

-- 1: v is from 1 to 1,023
abbrev pub check1 : ℕ → Checked
check1 v = refuse (not (leb 1 v && leb v 1023)) BadVertexCount

-- 2: the table has 3v + 1 entries
abbrev pub check2 : ℕ → List ℤ → Checked
check2 v t = refuse (not (eqb (length t) (3 * v + 1))) (TableLength (length t))

-- 3: numerators, at even places, from -10⁹ to 10⁹; denominators, at odd places, from 1 to 10⁹
abbrev pub out_of_range : List ℤ → ℕ → Bool
out_of_range t i = not (leb (nat_abs (nth t i)) 1000000000 && (eqb (i % 2) 0 || positive (nth t i)))

abbrev pub check3 : ℕ → List ℤ → Checked
check3 v t = refuse_at (first (out_of_range t) (2 * v)) (2 * v) VertexEntry

-- 4: the ends of each side are neighbours
abbrev pub apart : ℕ → List ℤ → ℕ → Bool
apart v t i = not (eq_z (gap (side_at v t i)) (pos 1))

abbrev pub check4 : ℕ → List ℤ → Checked
check4 v t = refuse_at (first (apart v t) (v + 1)) (v + 1) NotNeighbours

-- 5: some vertex is 0/1
abbrev pub is_zero : List ℤ → ℕ → Bool
is_zero t i = eq_z (numer t i) (pos 0) && eq_z (denom t i) (pos 1)

abbrev pub check5 : ℕ → List ℤ → Checked
check5 v t = refuse (not (ltb (first (is_zero t) v) v)) NoZero

-- 6: each pairing is even, odd, or a free label that two sides have
abbrev pub sides_in : ℕ → List ℤ → ℤ → ℕ
sides_in v p x = count (λ (k : ℕ). eq_z (nth p k) x) (v + 1)

abbrev pub sides : ℕ → List ℤ → ℤ → ℕ
sides v t x = sides_in v (pairing_entries v t) x

abbrev pub unpaired_by : Pairing → ℕ → Bool
unpaired_by Even n = false
unpaired_by Odd n = false
unpaired_by (Free l) n = not (eqb n 2)
unpaired_by Bad n = true

abbrev pub unpaired_in : ℕ → List ℤ → ℕ → Bool
unpaired_in v p i = unpaired_by (pairing_of v (nth p i)) (sides_in v p (nth p i))

abbrev pub check6 : ℕ → List ℤ → Checked
check6 v p = refuse_at (first (unpaired_in v p) (v + 1)) (v + 1) BadPairing

-- 7: with one vertex some side is odd
abbrev pub is_odd : List ℤ → ℕ → Bool
is_odd p i = eq_z (nth p i) (negsuc 2)

abbrev pub lacks_odd : ℕ → List ℤ → Bool
lacks_odd v p = eqb v 1 && not (is_odd p 0 || is_odd p 1)

abbrev pub check7 : ℕ → List ℤ → Checked
check7 v p = refuse (lacks_odd v p) NoOddSide

abbrev pub symbol_check : ℕ → List ℤ → Checked
symbol_check v t =
    check1 v or_else check2 v t or_else check3 v t or_else check4 v t or_else check5 v t or_else check6 v
    (pairing_entries v t) or_else check7 v (pairing_entries v t)
