-- ALL FIGURES of tables of S, R and T (docs/CONVENTIONS.md, 5).
--     figures_in n s r u    those of n points with the tables s, r and u: index, e2, e3, cusps, genus (or 18, which is
--                           so for no symbol), level (or 17)
use Rattle.std.specs.Prelude.{List, ℕ, length}
use Rattle.figures.specs.Cusps.{fixed_points, widths}
use Rattle.figures.specs.GenusOf.{genus_of}
use Rattle.figures.specs.LevelOf.{level_of}
use Rattle.figures.specs.declared.FigureRecord.{FigureRecord}

abbrev pub figures_in : (n : ℕ) → (s r u : List ℕ) → FigureRecord
figures_in n s r u =
    let e2 = fixed_points s in
    let e3 = fixed_points r in
    let k = length (widths u) in
    record { index = n; e2 = e2; e3 = e3; cusps = k; genus = genus_of n e2 e3 k; level = level_of (widths u) }
