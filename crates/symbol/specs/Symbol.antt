-- What an accepted symbol is, in the words of the field: the meaning of the seven checks.
--
--   ZeroAt, FreeLabel    a vertex that is 0/1; a label from 1 to v + 1 that two sides have
--   IsSymbol v t         v finite vertices with their pairings make a Farey symbol
--   SymbolVerdict v t r  r is the answer of the checks, and it is that the symbol is accepted exactly when it is one
--
-- proofs/Accepted.antt, `accepted`: the checks accept exactly the symbols.
use Rattle.std.specs.Prelude.{◌≡◌, ◌⊎◌, ◌↔◌, List, ℕ, ◌+◌, ◌*◌, ◌≤◌, ◌<◌, length, ℤ, pos, negsuc, nat_abs, Ok}
use Rattle.matrix.specs.Matrix.{det}
use Rattle.symbol.specs.Table.{numer, denom, pairing_entry, side_at, frame}
use Rattle.symbol.specs.Check.{sides, symbol_check}
use Rattle.call.specs.Refusal.{Checked}

-- a vertex that is 0/1
pub record ZeroAt (v : ℕ) (t : List ℤ) : Type 0 where
  pub at : ℕ
  pub below : at < v
  pub num : numer t at ≡ pos 0
  pub den : denom t at ≡ pos 1

-- a free label that exactly two sides have
pub record FreeLabel (v : ℕ) (t : List ℤ) (x : ℤ) : Type 0 where
  pub label : ℕ
  pub is : x ≡ pos label
  pub low : 1 ≤ label
  pub high : label ≤ v + 1
  pub twice : sides v t x ≡ 2

pub record IsSymbol (v : ℕ) (t : List ℤ) : Type 0 where
  pub some : 1 ≤ v
  pub most : v ≤ 1023
  pub long : length t ≡ 3 * v + 1
  pub numers : (i : ℕ) → i < v → nat_abs (numer t i) ≤ 1000000000
  pub denoms : (i : ℕ) → i < v → (1 ≤ nat_abs (denom t i)) × (nat_abs (denom t i) ≤ 1000000000)
      × (denom t i ≡ pos (nat_abs (denom t i)))
  pub neighbours : (i : ℕ) → i ≤ v → det (frame (side_at v t i)) ≡ pos 1
  pub zero : ZeroAt v t
  pub pairings : (i : ℕ) → i ≤ v → (pairing_entry v t i ≡ negsuc 1) ⊎ (pairing_entry v t i ≡ negsuc 2)
      ⊎ FreeLabel v t (pairing_entry v t i)
  pub odd : v ≡ 1 → (pairing_entry v t 0 ≡ negsuc 2) ⊎ (pairing_entry v t 1 ≡ negsuc 2)

pub record SymbolVerdict (v : ℕ) (t : List ℤ) (r : Checked) : Type 0 where
  pub returned : r ≡ symbol_check v t
  pub means : (r ≡ Ok tt) ↔ IsSymbol v t
