-- WHAT THE FIGURES ARE (docs/CONVENTIONS.md, 5), of tables s, r and u of S, R and T. The proof is `table_figures`, in
-- proofs/TableFigures.antt.
--
--   TableFigures s r u f     the figures f are those of the tables, in these parts:
--     counts     as many points as its index, of which S fixes e2 and R fixes e3; as many cusps as it says
--     widths     there is one width for each cusp, and the width at place j is the length of the cycle of the cusp at
--                place j: so many steps of T lead from that point back to it, and no fewer
--     genus      it is the g with 12 g = 12 + index - 3 e2 - 4 e3 - 6 cusps; it is refused with 18 where there is none,
--                which is so for no symbol (`Meaning`, in Answer.antt)
--     level      it is the least common multiple of the widths (each width divides it, and it divides whatever they all
--                divide); it is refused with 17 where that is 2^64 or more
use Rattle.std.specs.Prelude.{◌≡◌, ◌↔◌, List, ℕ, ◌+◌, ◌*◌, ◌<◌, ◌≤◌, length, Ok, Err}
use Rattle.call.specs.declared.refusal.Refusal.TheVariants.{LevelTooLarge, NoGenus}
use Rattle.numbering.specs.Table.{image_at}
use Rattle.figures.specs.Cusps.{fixed_points, cusps, widths, Width}
use Rattle.figures.specs.declared.FigureRecord.{FigureRecord}
use Rattle.figures.specs.LevelOf.{lcm_of, TOO_LARGE, LeastMultiple}

pub record TableFigures (s r u : List ℕ) (f : FigureRecord) : Type 0 where
  -- counts
  pub points : f.index ≡ length s
  pub fixed_S : f.e2 ≡ fixed_points s
  pub fixed_R : f.e3 ≡ fixed_points r
  pub cusp_count : f.cusps ≡ length (cusps u)
  -- widths
  pub as_many : length (widths u) ≡ length (cusps u)
  pub width : (j : ℕ) → j < length (cusps u) → Width u (image_at (cusps u) j) (image_at (widths u) j)
  -- genus
  pub genus_is : (g : ℕ) → (f.genus ≡ Ok g) ↔ (12 * g + 3 * f.e2 + 4 * f.e3 + 6 * f.cusps ≡ 12 + f.index)
  pub no_genus_is : ((g : ℕ) → f.genus ≡ Ok g → ⊥) → f.genus ≡ Err NoGenus
  -- level
  pub least : LeastMultiple (widths u) (lcm_of (widths u))
  pub level_is : (m : ℕ) → (f.level ≡ Ok m) ↔ ((m ≡ lcm_of (widths u)) × (m < TOO_LARGE))
  pub no_level : TOO_LARGE ≤ lcm_of (widths u) → f.level ≡ Err LevelTooLarge
