-- WHAT AN EXCHANGE OF PARTNERS DOES, for every symbol and every two of its free labels. The proof is `trades`, in
-- proofs/Theorem.antt.
--
--   TwoSides v t x a b    the sides a and b, in this order, are those with the label x, and there are no others
--   Trade v t x y         the theorem, in these parts:
--     before       the table t is a symbol, x and y are labels of two sides each, and differ
--     after        the exchanged table is a symbol: the checks accept it. No vertex entry and no side but the two
--                  second ones has changed; the first sides of x and y have their labels still, and the second ones
--                  have each other's
--     stays        the index, e2 and e3
--     again        exchanged once more, it is t EXACTLY where the first side of each label stands before the second
--                  side of the other; and two more exchanges always bring an exchanged table back. (1 1 2 2 becomes 1 2
--                  2 1 and then 1 2 1 2, since the side that was the second of label 1 has become the first of label 2;
--                  from there on 1 2 2 1 and 1 2 1 2 change into each other.)
--     turned       it doesn't matter which of the two labels is named first
use Rattle.std.specs.Prelude.{◌≡◌, ◌⊎◌, ◌↔◌, List, ℕ, ◌*◌, ◌≤◌, ◌<◌, ℤ}
use Rattle.matrix.specs.Matrix.{nth}
use Rattle.symbol.specs.Table.{pairing_entry}
use Rattle.symbol.specs.Symbol.{IsSymbol, FreeLabel}
use Rattle.coset.specs.Answer.{figures_of}
use Rattle.partner_exchange.specs.Exchange.{first_side, second_side, exchanged}

pub record TwoSides (v : ℕ) (t : List ℤ) (x : ℤ) (a b : ℕ) : Type 0 where
  pub ordered : a < b
  pub within : b ≤ v
  pub first : pairing_entry v t a ≡ x
  pub second : pairing_entry v t b ≡ x
  pub only : (i : ℕ) → i ≤ v → pairing_entry v t i ≡ x → (i ≡ a) ⊎ (i ≡ b)

pub record Trade (v : ℕ) (t : List ℤ) (x y : ℤ) : Type 0 where
  -- before
  pub symbol : IsSymbol v t
  pub free_x : FreeLabel v t x
  pub free_y : FreeLabel v t y
  pub sides_x : TwoSides v t x (first_side v t x) (second_side v t x)
  pub sides_y : TwoSides v t y (first_side v t y) (second_side v t y)
  pub apart : x ≡ y → ⊥
  -- after
  pub accepted : IsSymbol v (exchanged v t x y)
  pub vertices : (i : ℕ) → i < 2 * v → nth (exchanged v t x y) i ≡ nth t i
  pub first_x : pairing_entry v (exchanged v t x y) (first_side v t x) ≡ x
  pub first_y : pairing_entry v (exchanged v t x y) (first_side v t y) ≡ y
  pub second_x : pairing_entry v (exchanged v t x y) (second_side v t x) ≡ y
  pub second_y : pairing_entry v (exchanged v t x y) (second_side v t y) ≡ x
  pub others : (i : ℕ) → (i ≡ second_side v t x → ⊥) → (i ≡ second_side v t y → ⊥) → pairing_entry v (exchanged v t x y) i
      ≡ pairing_entry v t i
  -- stays
  pub index : (figures_of v (exchanged v t x y)).index ≡ (figures_of v t).index
  pub e2 : (figures_of v (exchanged v t x y)).e2 ≡ (figures_of v t).e2
  pub e3 : (figures_of v (exchanged v t x y)).e3 ≡ (figures_of v t).e3
  -- again
  pub twice : (exchanged v (exchanged v t x y) x y ≡ t)
      ↔ ((first_side v t x < second_side v t y) × (first_side v t y < second_side v t x))
  pub thrice : exchanged v (exchanged v (exchanged v t x y) x y) x y ≡ exchanged v t x y
  -- turned
  pub turned : exchanged v t y x ≡ exchanged v t x y
