-- What the upper crates get in the work space, and ask the steps with.
--
--   PolygonTables t v w  w holds the other side of each position, the partners and the generator numbers of the symbol
--                        t
--   Built t v w r        what building them leaves: the tables, and the start as the result r
--   letters_of z         the word of one letter z, and the empty word for 0
use Rattle.std.specs.Prelude.{◌≡◌, List, [], ◌∷◌, ℕ, zero, suc, ◌≤◌, length, ℤ, pos, negsuc}
use Rattle.symbol.specs.Symbol.{IsSymbol}
use Rattle.polygon.specs.Cut.{places, flip_of}
use Rattle.polygon.specs.Step.{start_of}
use Rattle.polygon.specs.Inner.Space.{FLIP}
use Rattle.call.specs.Space.{entries}
use Rattle.polygon.specs.Inner.Partners.{PartnersHeld, Numbered}

pub record PolygonTables (t : List ℤ) (v : ℕ) (w : List ℕ) : Type 0 where
  pub symbol : IsSymbol v t
  pub long : 32768 ≤ length w
  pub flips : entries FLIP (places v) w ≡ flip_of v t
  pub partnered : PartnersHeld t v w
  pub numbered : Numbered t v w

pub record Built (t : List ℤ) (v : ℕ) (w : List ℕ) (r : ℕ) : Type 0 where
  pub tables : PolygonTables t v w
  pub start : r ≡ start_of v t

abbrev pub letters_of : ℤ → List ℤ
letters_of (pos zero) = []
letters_of (pos (suc n)) = pos (suc n) ∷ []
letters_of (negsuc n) = negsuc n ∷ []
