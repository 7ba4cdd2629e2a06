-- Symbols that differ in their labels only: the same vertices, and the same pairings after the free labels are
-- renumbered by their leftmost side.
--
--   relabelled v t i        the pairing of side i after that: -2, -3, or the number of the label, counted from 1 by
--                           leftmost sides
--   Relabelled v t v' t'    as many vertices, the same ones, and equal pairings after relabelling
--   RelabelledSame          [relabelled-same] such symbols have the same generators, one by one, so that the call tells
--                           0 and 1, yes, where its work space is long enough; proofs/Means.antt has the proof
use Rattle.std.specs.Prelude.{◌≡◌, Bool, false, List, ℕ, ◌+◌, ◌*◌, ◌<◌, ◌≤◌, ltb, ℤ, pos, length}
use Rattle.matrix.specs.Matrix.{nth}
use Rattle.basics.specs.Choice.{pick}
use Rattle.basics.specs.Count.{count}
use Rattle.symbol.specs.Table.{pairing_entry}
use Rattle.symbol.specs.Symbol.{IsSymbol}
use Rattle.pairing.specs.Generator.{partner, pairing_at, generators}
use Rattle.symbol.specs.declared.Pairing.{Pairing}
use Rattle.symbol.specs.declared.Pairing.TheVariants.{Even, Odd, Free, Bad}
use Rattle.call.specs.Space.{work_length}
use Rattle.call.specs.Call.{Lent, number_of, place_of}
use Rattle.containment.specs.Same.{same_call}

-- whether side i is the leftmost side of a free label
abbrev pub first_side_by : Pairing → ℕ → ℕ → Bool
first_side_by Even i k = false
first_side_by Odd i k = false
first_side_by (Free l) i k = ltb i k
first_side_by Bad i k = false

abbrev pub first_of_label : ℕ → List ℤ → ℕ → Bool
first_of_label v t i = first_side_by (pairing_at v t i) i (partner v t i)

-- the number of the label whose leftmost side is i
abbrev pub label_number : ℕ → List ℤ → ℕ → ℕ
label_number v t i = count (first_of_label v t) i + 1

abbrev pub relabelled_by : Pairing → ℤ → ℕ → ℤ
relabelled_by Even x n = x
relabelled_by Odd x n = x
relabelled_by (Free l) x n = pos n
relabelled_by Bad x n = x

abbrev pub relabelled : ℕ → List ℤ → ℕ → ℤ
relabelled v t i =
    relabelled_by (pairing_at v t i) (pairing_entry v t i)
    (label_number v t (pick (ltb i (partner v t i)) i (partner v t i)))

pub record Relabelled (v : ℕ) (t : List ℤ) (v' : ℕ) (t' : List ℤ) : Type 0 where
  pub count : v ≡ v'
  pub vertices : (i : ℕ) → i < 2 * v → nth t i ≡ nth t' i
  pub pairings : (i : ℕ) → i ≤ v → relabelled v t i ≡ relabelled v' t' i

abbrev pub RelabelledSame : Type 0
RelabelledSame = (v : ℕ) (t : List ℤ) (v' : ℕ) (t' : List ℤ) → IsSymbol v t → IsSymbol v' t' → Relabelled v t v' t'
    → (generators v t ≡ generators v' t')
    × ((w : Lent (List ℕ)) → work_length ≤ length w.entry.now
    → (number_of (same_call v t v' t' w) ≡ 0) × (place_of (same_call v t v' t' w) ≡ 1))
