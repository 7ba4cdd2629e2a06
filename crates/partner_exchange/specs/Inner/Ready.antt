-- What the functions of `partner_exchange` ask.
--
--   label_test p x skip k    whether the side k has the pairing x, in the pairings p; the side `skip` is passed over
--   Exchangeable v t x y     a symbol with two labels that may be exchanged
use Rattle.std.specs.Prelude.{◌≡◌, Bool, true, not, ◌&&◌, List, ℕ, eqb, ℤ}
use Rattle.matrix.specs.Matrix.{nth}
use Rattle.symbol.specs.Table.{pairing_entries}
use Rattle.symbol.specs.Check.{eq_z}
use Rattle.symbol.specs.Symbol.{IsSymbol}
use Rattle.partner_exchange.specs.Exchange.{is_free_label}

abbrev pub label_test : List ℤ → ℤ → ℕ → ℕ → Bool
label_test p x skip k = not (eqb k skip) && eq_z (nth p k) x

pub record Exchangeable (v : ℕ) (t : List ℤ) (x y : ℤ) : Type 0 where
  pub symbol : IsSymbol v t
  pub free_x : is_free_label v (pairing_entries v t) x ≡ true
  pub free_y : is_free_label v (pairing_entries v t) y ≡ true
  pub apart : x ≡ y → ⊥
