-- The figures of tables are what they should be: `table_figures`, from the theorems of `figures` on one cycle, the genus and the least
-- common multiple.
-- Assumes nothing.
use Rattle.std.specs.Prelude.{Ok}
use mathlib.Core.Path.{◌≡◌, refl, sym, ap, ◌∙◌}
use mathlib.Core.List.{List}
use Prim.Native.Nat.{ℕ, ◌<◌}
use native.Mathlib.Omega.{arith}
use lib.ListN.{length, get_or, length-map}
use Rattle.numbering.specs.Table.{Permutes}
use Rattle.numbering.proofs.Find.{get_d_in}
use Rattle.numbering.proofs.Table.{get_d_map}
use Rattle.numbering.proofs.Those.{those_low}
use Rattle.figures.specs.Cusps.{fixed_points, width, smallest, cusps, widths, Cusps}
use Rattle.figures.specs.FiguresOf.{figures_in}
use Rattle.figures.specs.LevelOf.{lcm_of}
use Rattle.figures.proofs.Cycle.{width_is}
use Rattle.figures.proofs.GenusOf.{genus_is}
use Rattle.figures.proofs.LevelOf.{lcm_of_is, fitting_yes, fitting_no, value_fits}
use Rattle.coset.specs.TableFigures.{TableFigures}

pub table_figures : (n : ℕ) (s r u : List ℕ) → n ≡ length s → Permutes u → Cusps u
    → TableFigures s r u (figures_in n s r u)
table_figures n s r u long p c =
    let g = genus_is n (fixed_points s) (fixed_points r) (length (widths u)) in
    let m = lcm_of (widths u) in
    record {
      points = long;
      fixed_S = refl;
      fixed_R = refl;
      cusp_count = length-map (cusps u) (width u);
      as_many = length-map (cusps u) (width u);
      width = λ j h. rw (get_d_map (width u) (cusps u) j h) (width_is p (those_low (smallest u) (length u) (get_or (cusps u) j 0) (get_d_in (cusps u) j h)));
      genus_is = λ k. (g.right k, g.found k);
      no_genus_is = λ no. g.none (λ k e. no k (g.found k e));
      least = lcm_of_is (widths u) (record { each = c.positive });
      level_is = λ k. ((λ e. value_fits m k (sym e)), (λ q. sym (fitting_yes m (omega (arith, q.0, q.1))) ∙ ap Ok (sym q.0)));
      no_level = λ h. sym (fitting_no m h);
    }
