-- THE CALL `cusps`: its steps, and what it means (docs/CONVENTIONS.md, 4.5).
--
--   cusp_column, step_column v t   the cusps and the steps of the symbol's cosets
--   cusp_reached v t m        the cusp of the coset H m, by the column: where m sends infinity
--   times_t m n               m T^n
--   OneCusp v t a b           for some n, a T^n and b lie in one right coset of H: a∞ and b∞ are H-equivalent
--   CuspMeaning v t           the symbol means what its tables mean; its columns of cusps and of steps keep the
--                             standing rule; and two matrices have one cusp in the column exactly when they have one
--                             under H
--   cusps_call                checks 1 to 7, the work space, the cusps and the steps; it counts the cosets, and its 11
--                             tells the index. Result spaces of 4,090 entries are enough for every symbol
--                             (`SymbolSays`, in the crate coset)
use Rattle.std.specs.Prelude.{◌≡◌, ◌↔◌, List, [], ◌∷◌, ◌++◌, ℕ, zero, suc, ℤ, pos}
use Rattle.call.specs.Call.{Lent, asks, work, stores, Contract}
use Rattle.symbol.specs.Check.{symbol_check}
use Rattle.matrix.specs.Matrix.{Mat, ◌⊗◌, det, mat_t}
use Rattle.pairing.specs.Generator.{generators}
use Rattle.coset.specs.Positions.{SameCoset}
use Rattle.numbering.specs.Table.{image_at}
use Rattle.right_cosets.specs.Leads.{leads}
use Rattle.coset.specs.Tables.{index_of, table_s, table_r, table_t}
use Rattle.coset.specs.Answer.{Meaning, SymbolSays}
use Rattle.cusp_record.specs.Record.{cusp_table, step_table, CosetRecord}

abbrev pub cusp_column : ℕ → List ℤ → List ℕ
cusp_column v t = cusp_table (table_t v t)

abbrev pub step_column : ℕ → List ℤ → List ℕ
step_column v t = step_table (table_t v t)

abbrev pub cusp_reached : ℕ → List ℤ → Mat → ℕ
cusp_reached v t m = image_at (cusp_column v t) (leads (table_s v t) (table_r v t) m)

abbrev pub times_t : Mat → ℕ → Mat
times_t m zero = m
times_t m (suc n) = times_t (m ⊗ mat_t) n

pub record OneCusp (v : ℕ) (t : List ℤ) (a b : Mat) : Type 0 where
  pub steps : ℕ
  pub joined : SameCoset (generators v t) (times_t a steps) b

pub record CuspMeaning (v : ℕ) (t : List ℤ) : Type 0 where
  pub tables : Meaning v t
  pub rule : CosetRecord (table_s v t) (table_r v t) (table_t v t) (cusp_column v t) (step_column v t)
  pub one_cusp :
      (a b : Mat) → det a ≡ pos 1 → det b ≡ pos 1 → (cusp_reached v t a ≡ cusp_reached v t b) ↔ OneCusp v t a b

abbrev pub cusps_call : (v : ℕ) → List ℤ → (w cusps steps : Lent (List ℕ)) → Contract
cusps_call v t w cusps steps = record {
  steps = asks (symbol_check v t) ++ work w ++ stores (cusp_column v t) cusps ++ stores (step_column v t) steps;
  count = index_of v t;
  Says = λ number place. SymbolSays (CuspMeaning v t) v t w (index_of v t) (cusps ∷ steps ∷ []) number place;
}
