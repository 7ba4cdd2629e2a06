-- `trades`: WHAT AN EXCHANGE OF PARTNERS DOES, put together; the figures that stay (`index_after`, `e2_after`, `e3_after`), since odd and even sides are
-- as many as before. Assumes nothing.
use mathlib.Core.Path.{◌≡◌, sym, ◌∙◌, ap}
use mathlib.Core.List.{List}
use Prim.Native.Nat.{ℕ, ◌+◌}
use lib.IntN.{ℤ, negsuc}
use Rattle.symbol.specs.Symbol.{IsSymbol}
use Rattle.polygon.specs.Cut.{corners}
use Rattle.polygon.proofs.Polygon.{polygon}
use Rattle.figures.specs.Cusps.{fixed_points}
use Rattle.coset.specs.Tables.{index_of, table_s, table_r}
use Rattle.coset.proofs.OddSides.{odd_sides}
use Rattle.coset.proofs.EvenSides.{even_sides}
use Rattle.partner_exchange.specs.Exchange.{first_side, second_side, with_label, exchanged}
use Rattle.partner_exchange.specs.Theorem.{Trade}
use Rattle.partner_exchange.specs.Inner.Ready.{Exchangeable}
use Rattle.partner_exchange.proofs.Sides.{label_sides}
use Rattle.partner_exchange.proofs.Labelled.{kept, either_first}
use Rattle.partner_exchange.proofs.Trade.{Pair, label_natural, u_a, u_b, u_c, u_d, b_d, count_after_lem, same_vertex, symbol_after}
use Rattle.partner_exchange.proofs.Again.{back, forth, thrice}

module _ (v : ℕ) (t : List ℤ) (x y : ℤ) (a b c d : ℕ) (p : Pair v t x y a b c d) where
  abbrev u : List ℤ
  u = with_label v (with_label v t b y) d x

  ok : IsSymbol v u
  ok = symbol_after v t x y a b c d p

  index_after : index_of v u ≡ index_of v t
  index_after = ap (λ (n : ℕ). corners v + n) (count_after_lem v t x y a b c d p (negsuc 2) (label_natural p.free_x 2) (label_natural p.free_y 2))

  e2_after : fixed_points (table_s v u) ≡ fixed_points (table_s v t)
  e2_after =
      even_sides v u ok (polygon v u ok)
      ∙ count_after_lem v t x y a b c d p (negsuc 1) (label_natural p.free_x 1) (label_natural p.free_y 1)
      ∙ sym (even_sides v t p.symbol (polygon v t p.symbol))

  e3_after : fixed_points (table_r v u) ≡ fixed_points (table_r v t)
  e3_after =
      odd_sides v u (polygon v u ok)
      ∙ count_after_lem v t x y a b c d p (negsuc 2) (label_natural p.free_x 2) (label_natural p.free_y 2)
      ∙ sym (odd_sides v t (polygon v t p.symbol))

pub exchange_pair : {v : ℕ} {t : List ℤ} {x y : ℤ} → Exchangeable v t x y
    → Pair v t x y (first_side v t x) (second_side v t x) (first_side v t y) (second_side v t y)
exchange_pair {v} {t} {x} {y} e =
    let sx = label_sides v t x e.symbol e.free_x in
    let sy = label_sides v t y e.symbol e.free_y in
    record { symbol = e.symbol; free_x = sx.0; free_y = sy.0; sides_x = sx.1; sides_y = sy.1; apart = e.apart }

pub trades : {v : ℕ} {t : List ℤ} {x y : ℤ} → Exchangeable v t x y → Trade v t x y
unfolding exchanged
trades {v} {t} {x} {y} e =
    let p = exchange_pair e in
    let a = first_side v t x in
    let b = second_side v t x in
    let c = first_side v t y in
    let d = second_side v t y in
    record {
      symbol = p.symbol;
      free_x = p.free_x;
      free_y = p.free_y;
      sides_x = p.sides_x;
      sides_y = p.sides_y;
      apart = p.apart;
      accepted = symbol_after v t x y a b c d p;
      vertices = same_vertex v t x y a b c d p;
      first_x = u_a v t x y a b c d p;
      first_y = u_c v t x y a b c d p;
      second_x = u_b v t x y a b c d p;
      second_y = u_d v t x y a b c d p;
      others = kept v t b d x y;
      index = index_after v t x y a b c d p;
      e2 = e2_after v t x y a b c d p;
      e3 = e3_after v t x y a b c d p;
      twice = (forth v t x y a b c d p, λ h. back v t x y a b c d p h.0 h.1);
      thrice = thrice v t x y a b c d p;
      turned = either_first v t b d x y (b_d v t x y a b c d p);
    }
