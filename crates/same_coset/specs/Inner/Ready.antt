-- What the inner functions of the crate ask for, and give.
--
--   Shares n w a b r     r is whether a and b lead to one point, in the coset tables of whatever symbol has its tables
--                        by place in w
--   pair_shared v t a b  the answer for a pair where the symbol is accepted and the work space is long enough: 8, 9,
--                        yes or no
--   PairShared n w a b r r is that answer, for whatever symbol has its tables by place in w
--   LineFits r           the numbers of the line of r fit 64 signed bits
--   PairsShared n w p k lines lines'    the lines of the first k pairs, in place of what stood there, for whatever
--                                       symbol has its tables by place in w
--   PairsReady v t p w   the call passes its checks, and the work space is long enough
use Rattle.std.specs.Prelude.{◌≡◌, Bool, false, List, ◌++◌, ℕ, ◌*◌, ◌^◌, ◌≤◌, ◌<◌, eqb, length, drop, ℤ, Err}
use Rattle.matrix.specs.Matrix.{of_list}
use Rattle.call.specs.Space.{work_length}
use Rattle.call.specs.declared.refusal.Refusal.{Refusal}
use Rattle.call.specs.Call.{asks, verdict}
use Rattle.call.specs.Inner.Fills.{decided}
use Rattle.call.specs.Refusal.{Decision, refusal_number, refusal_place}
use Rattle.symbol.specs.Symbol.{IsSymbol}
use Rattle.coset.specs.Tables.{table_s, table_r}
use Rattle.right_cosets.specs.Leads.{leads}
use Rattle.word.specs.Answer.{matrices_check, closes}
use Rattle.same_coset.specs.Inner.Places.{SymbolPlaces}
use Rattle.same_coset.specs.Pairs.{ragged, coset_lines}

abbrev pub Shares : ℕ → List ℕ → (a b : List ℤ) → Bool → Type 0
Shares n w a b r = (v : ℕ) (t : List ℤ) (w₀ : List ℕ) → IsSymbol v t → SymbolPlaces v t w₀ w n
    → r ≡ eqb (leads (table_s v t) (table_r v t) (of_list a)) (leads (table_s v t) (table_r v t) (of_list b))

abbrev pub pair_shared : (v : ℕ) (t a b : List ℤ) → Decision
pair_shared v t a b = decided (closes v t (of_list a) (of_list b)) (verdict (asks (matrices_check a b)))

abbrev pub PairShared : ℕ → List ℕ → (a b : List ℤ) → Decision → Type 0
PairShared n w a b r = (v : ℕ) (t : List ℤ) (w₀ : List ℕ) → IsSymbol v t → SymbolPlaces v t w₀ w n
    → r ≡ pair_shared v t a b

pub record LineFits (r : Decision) : Type 0 where
  pub refused : (f : Refusal) → r ≡ Err f → (refusal_number f < 2 ^ 63) × (refusal_place f < 2 ^ 63)

abbrev pub PairsShared : ℕ → List ℕ → (p : List ℤ) (k : ℕ) → (lines lines' : List ℤ) → Type 0
PairsShared n w p k lines lines' = (v : ℕ) (t : List ℤ) (w₀ : List ℕ) → IsSymbol v t → SymbolPlaces v t w₀ w n
    → lines' ≡ coset_lines v t p (length w) k ++ drop (2 * k) lines

pub record PairsReady (v : ℕ) (t p : List ℤ) (w : List ℕ) : Type 0 where
  pub symbol : IsSymbol v t
  pub count : ragged (length p) ≡ false
  pub work : work_length ≤ length w
