-- The generators of a symbol.
--
--   partner v t i         the other side with the free label of side i
--   is_leader v t i       whether side i is the leftmost side of its generator
--   leaders v t           those sides, from the left
--   generator_number v t i  the number, from 1, of the generator that side i belongs to
--   generator v t i       the generator that side i leads: even M S M⁻¹, odd M Q M⁻¹, free N S M⁻¹ with N the partner's
--                         frame
--   generators v t        the list of generators; number j, counted from 1, belongs to the j-th leading side
--   kind_of                1 free, 2 even, 3 odd
--   generator_table v t   for each generator its kind and its four entries, one after another
--   Generates v t         what a list that was made means: the table is a symbol, and each generator has determinant 1,
--                         so that its adjugate is its inverse
--   generators_call       checks 1 to 7, the work space, the generators; it counts them
use Rattle.std.specs.Prelude.{◌≡◌, Bool, true, false, not, ◌&&◌, List, [], ◌∷◌, ◌++◌, map, ℕ, ◌+◌, ◌<◌, ltb, eqb}
use Rattle.std.specs.Prelude.{ℤ, pos, length, get_or}
use Rattle.matrix.specs.Matrix.{nth, Mat, ◌⊗◌, 𝟙, det, adj, mat_s, mat_q, to_list}
use Rattle.basics.specs.Choice.{pick}
use Rattle.basics.specs.Count.{first, count, those}
use Rattle.symbol.specs.Table.{pairing_entries, pairing_entry, side_at, frame, carried, pairing_of}
use Rattle.call.specs.Call.{Lent, asks, work, stores, Contract}
use Rattle.symbol.specs.Check.{eq_z, symbol_check}
use Rattle.symbol.specs.Symbol.{IsSymbol}
use Rattle.symbol.specs.declared.Pairing.{Pairing}
use Rattle.symbol.specs.declared.Pairing.TheVariants.{Even, Odd, Free, Bad}

abbrev pub partner_in : ℕ → List ℤ → ℕ → ℕ
partner_in v p i = first (λ (k : ℕ). not (eqb k i) && eq_z (nth p k) (nth p i)) (v + 1)

abbrev pub partner : ℕ → List ℤ → ℕ → ℕ
partner v t i = partner_in v (pairing_entries v t) i

-- what side i is paired as
abbrev pub pairing_at : ℕ → List ℤ → ℕ → Pairing
pairing_at v t i = pairing_of v (pairing_entry v t i)

abbrev pub is_leader_by : Pairing → ℕ → ℕ → Bool
is_leader_by Even i k = true
is_leader_by Odd i k = true
is_leader_by (Free l) i k = ltb i k
is_leader_by Bad i k = false

abbrev pub is_leader_in : ℕ → List ℤ → ℕ → Bool
is_leader_in v p i = is_leader_by (pairing_of v (nth p i)) i (partner_in v p i)

abbrev pub is_leader : ℕ → List ℤ → ℕ → Bool
is_leader v t i = is_leader_in v (pairing_entries v t) i

abbrev pub leaders : ℕ → List ℤ → List ℕ
leaders v t = those (is_leader v t) (v + 1)

abbrev pub generator_number : ℕ → List ℤ → ℕ → ℕ
generator_number v t i = count (is_leader v t) (pick (is_leader v t i) i (partner v t i)) + 1

abbrev pub frame_at : ℕ → List ℤ → ℕ → Mat
frame_at v t i = frame (side_at v t i)

abbrev pub generator_by : Pairing → Mat → Mat → Mat
generator_by Even m n = carried m mat_s m
generator_by Odd m n = carried m mat_q m
generator_by (Free l) m n = carried n mat_s m
generator_by Bad m n = 𝟙

abbrev pub generator : ℕ → List ℤ → ℕ → Mat
generator v t i = generator_by (pairing_at v t i) (frame_at v t i) (frame_at v t (partner v t i))

abbrev pub generators : ℕ → List ℤ → List Mat
generators v t = map (generator v t) (leaders v t)

abbrev pub kind_of : Pairing → ℕ
kind_of Even = 2
kind_of Odd = 3
kind_of (Free l) = 1
kind_of Bad = 0

abbrev pub generator_row : ℕ → List ℤ → ℕ → List ℤ
generator_row v t i = pos (kind_of (pairing_at v t i)) ∷ to_list (generator v t i)

abbrev pub generator_rows : ℕ → List ℤ → List ℕ → List ℤ
generator_rows v t [] = []
generator_rows v t (i ∷ l) = generator_row v t i ++ generator_rows v t l

abbrev pub generator_table : ℕ → List ℤ → List ℤ
generator_table v t = generator_rows v t (leaders v t)

pub record Generates (v : ℕ) (t : List ℤ) : Type 0 where
  pub symbol : IsSymbol v t
  pub unit : (j : ℕ) → j < length (generators v t) → det (get_or (generators v t) j 𝟙) ≡ pos 1
  pub inverse :
      (j : ℕ) → j < length (generators v t) → adj (get_or (generators v t) j 𝟙) ⊗ get_or (generators v t) j 𝟙 ≡ 𝟙

-- ---- the call

abbrev pub generators_call : (v : ℕ) → List ℤ → Lent (List ℕ) → Lent (List ℤ) → Contract
generators_call v t w out = record {
  steps = asks (symbol_check v t) ++ work w ++ stores (generator_table v t) out;
  count = length (leaders v t);
  Says = λ number place. number ≡ 0 → Generates v t;
}
