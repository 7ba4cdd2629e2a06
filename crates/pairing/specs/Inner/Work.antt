-- The tables of the generator code in the work space.
--
--   FIRST + l       one more than the first side with the free label l, or 0 where none was met yet
--   PARTNER + i     the partner of the free side i
--   met l i w       w after side i with the label l was met
--   met_by q i w    the same for the pairing q of side i: nothing changes unless it is free
--   seen p l i      what FIRST + l holds when the first i sides were met
--   AllPaired v p       each side of the pairings p is even, odd, or one of the two sides of a label
--   PairedTo v p i w    w holds the tables of the first i sides of the pairings p
--   FirstsBounded v w   what w remembers of labels are sides
--   Partnered v p w     w holds every free side's partner
--   PartnersReady, put_row, RowsTo, SideListed  listing the generators, side by side
use Rattle.std.specs.Prelude.{◌≡◌, Bool, false, List, ◌++◌, ℕ, ◌+◌, ◌-◌, ◌*◌, ◌<◌, ◌≤◌, ltb, eqb, ℤ, pos}
use Rattle.std.specs.Prelude.{length, get_or, set, take, drop}
use Rattle.matrix.specs.Matrix.{nth}
use Rattle.basics.specs.Choice.{pick}
use Rattle.call.specs.Space.{work_length}
use Rattle.basics.specs.Count.{first, count, those}
use Rattle.symbol.specs.Table.{pairing_entries, pairing_of}
use Rattle.symbol.specs.Check.{eq_z, unpaired_in}
use Rattle.symbol.specs.Symbol.{IsSymbol}
use Rattle.pairing.specs.Generator.{partner_in, is_leader, generator_rows}
use Rattle.symbol.specs.declared.Pairing.{Pairing}
use Rattle.symbol.specs.declared.Pairing.TheVariants.{Even, Odd, Free, Bad}

abbrev pub FIRST : ℕ
FIRST = 4096

abbrev pub PARTNER : ℕ
PARTNER = 30720

abbrev pub met : ℕ → ℕ → List ℕ → List ℕ
met l i w =
    let k = get_or w (FIRST + l) 0 in
    pick (eqb k 0) (set w (FIRST + l) (i + 1)) (set (set w (PARTNER + i) (k - 1)) (PARTNER + (k - 1)) i)

abbrev pub met_by : Pairing → ℕ → List ℕ → List ℕ
met_by Even i w = w
met_by Odd i w = w
met_by (Free l) i w = met l i w
met_by Bad i w = w

-- side k has the label l
abbrev pub labelled : List ℤ → ℕ → ℕ → Bool
labelled p l k = eq_z (nth p k) (pos l)

abbrev pub seen : List ℤ → ℕ → ℕ → ℕ
seen p l i = pick (ltb (first (labelled p l) i) i) (first (labelled p l) i + 1) 0

-- check 6 passed
pub record AllPaired (v : ℕ) (p : List ℤ) : Type 0 where
  pub long : v + 1 ≤ length p
  pub none : (i : ℕ) → i < v + 1 → unpaired_in v p i ≡ false

pub record PairedTo (v : ℕ) (p : List ℤ) (i : ℕ) (w : List ℕ) : Type 0 where
  pub long : work_length ≤ length w
  pub firsts : (l : ℕ) → 1 ≤ l → l ≤ v + 1 → get_or w (FIRST + l) 0 ≡ seen p l i
  pub partners : (j l : ℕ) → j < i → pairing_of v (nth p j) ≡ Free l → partner_in v p j < i → get_or w (PARTNER + j) 0
      ≡ partner_in v p j

pub record Partnered (v : ℕ) (p : List ℤ) (w : List ℕ) : Type 0 where
  pub long : work_length ≤ length w
  pub partners : (j l : ℕ) → j ≤ v → pairing_of v (nth p j) ≡ Free l → get_or w (PARTNER + j) 0 ≡ partner_in v p j

-- what is remembered of a label is at most 1,024
pub record FirstsBounded (v : ℕ) (w : List ℕ) : Type 0 where
  pub bound : (l : ℕ) → 1 ≤ l → l ≤ v + 1 → get_or w (FIRST + l) 0 ≤ 1024

-- ---- listing the generators

-- a symbol, the part of its table with the pairings, and a work space that holds the partners
pub record PartnersReady (v : ℕ) (t p : List ℤ) (w : List ℕ) : Type 0 where
  pub symbol : IsSymbol v t
  pub part : p ≡ pairing_entries v t
  pub partnered : Partnered v p w

-- five numbers in place of those that stood at 5 n
abbrev pub put_row : ℕ → List ℤ → List ℤ → List ℤ
put_row n r out = take (5 * n) out ++ r ++ drop (5 * n + 5) out

-- the generators of the first i sides stand in front
pub record RowsTo (v : ℕ) (t : List ℤ) (i n : ℕ) (out out' : List ℤ) : Type 0 where
  pub number : n ≡ count (is_leader v t) i
  pub table : out' ≡ generator_rows v t (those (is_leader v t) i) ++ drop (5 * n) out

-- side i was listed, if it leads: whatever stood behind the rows at the start
pub record SideListed (v : ℕ) (t : List ℤ) (i n r : ℕ) (out out' : List ℤ) : Type 0 where
  pub more : (first : List ℤ) → RowsTo v t i n first out → RowsTo v t (i + 1) r first out'
  pub long : length out' ≡ length out
