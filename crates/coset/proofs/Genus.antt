-- The genus of an accepted symbol is a number: `symbol_genus`.
-- Why: in tables of right cosets S twice and R three times move nothing, and the rule numbers all points, so that they are reached from 0. So such tables
-- are a pair as the theorem on the genus takes them (`cosets_pair`), and a symbol's are such tables.
-- Assumes nothing.
use mathlib.Core.Path.{sym, ap, ◌∙◌}
use mathlib.Core.List.{List}
use Prim.Native.Nat.{ℕ}
use native.Mathlib.Omega.{arith}
use lib.IntN.{ℤ}
use Rattle.matrix.specs.Matrix.{Mat}
use Rattle.polygon.specs.Theorem.{Polygon}
use Rattle.numbering.specs.Table.{◌then_table◌}
use Rattle.right_cosets.specs.Cosets.{CosetsOf}
use Rattle.right_cosets.proofs.Tabled.{some_points}
use Rattle.figures.specs.FiguresOf.{figures_in}
use Rattle.figures.specs.Genus.{CosetPair, HasGenus}
use Rattle.figures.proofs.Transitive.{numbered_transitive}
use Rattle.figures.proofs.Genus.{tables_genus}
use Rattle.coset.specs.Tables.{table_s, table_r, index_of}
use Rattle.coset.specs.Answer.{figures_of}
use Rattle.coset.proofs.Theorem.{cosets_are}

pub cosets_pair : {C : Mat → Type 0} {n : ℕ} {s r : List ℕ} → CosetsOf C n s r → CosetPair s r
cosets_pair g = record {
  transitive = numbered_transitive (some_points g) g.size_S g.size_R g.permutes_S g.permutes_R g.numbered;
  twice = λ x h. g.twice x (omega (arith, g.size_S));
  thrice = λ x h. g.thrice x (omega (arith, g.size_R));
}

pub symbol_genus : (v : ℕ) (t : List ℤ) → Polygon v t → HasGenus (figures_of v t).genus
symbol_genus v t g =
    let s = table_s v t in
    let r = table_r v t in
    let c = cosets_are v t g in
    let h = (tables_genus (cosets_pair c.of_H)).figure in
    record {
      genus = h.genus;
      is = ap (λ (u : List ℕ). (figures_in (index_of v t) s r u).genus) c.T_is
          ∙ ap (λ (k : ℕ). (figures_in k s r (s then_table r)).genus) (sym c.of_H.size_S) ∙ h.is;
    }
