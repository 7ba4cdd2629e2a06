-- The genus of tables of S and R is a number: `tables_genus`.
-- Why: S has (n + e2)/2 cycles and R has (n + 2 e3)/3 of them, and the cycles of T are the cusps; six times the Riemann–Hurwitz formula is that of the
-- genus.
-- Assumes nothing.
use mathlib.Core.List.{List}
use Prim.Native.Nat.{ℕ}
use native.Mathlib.Omega.{arith}
use lib.ListN.{length, length-map}
use Rattle.numbering.specs.Table.{◌then_table◌}
use Rattle.figures.specs.Cusps.{fixed_points, width, cusps}
use Rattle.figures.proofs.GenusOf.{genus_is}
use Rattle.figures.specs.Genus.{CosetPair, GenusFormula, TablesGenus}
use Rattle.figures.proofs.RiemannHurwitz.{riemann_hurwitz}
use Rattle.figures.proofs.Orders.{order_two, order_three}

module _ {s r : List ℕ} (c : CosetPair s r) where
  abbrev u : List ℕ
  u = s then_table r

  pub genus_formula : GenusFormula s r
  genus_formula =
      let a = c.transitive in
      let g = riemann_hurwitz a in
      record {
        genus = g.genus;
        formula = omega (arith, g.formula, a.as_many, order_two a.permutes_S c.twice, order_three a.permutes_R c.thrice);
      }

  pub tables_genus : TablesGenus s r
  tables_genus =
      let g = genus_formula in
      record {
        formula = g;
        figure = record {
          genus = g.genus;
          is = rw (length-map (cusps u) (width u)) ((genus_is (length s) (fixed_points s) (fixed_points r) (length (cusps u))).found g.genus g.formula);
        };
      }
