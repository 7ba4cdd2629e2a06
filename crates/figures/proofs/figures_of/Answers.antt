-- `figures::figures_of` meets its contract: each figure is the answer of the function that counts it.
-- Assumes nothing.
use native.Mathlib.Omega.{arith}
use Rattle.numbering.specs.Inner.Space.{S_TABLE, R_TABLE}
use Rattle.call.specs.Space.{entries}
use Rattle.figures.specs.Inner.Scan.{held_t}
use Rattle.figures.proofs.Scan.{fixed_few, all_figures}
use Rattle.figures.proofs.Filled.{widths_table}
use Rattle.figures.proofs.figures_of.Goals as goal

pub level_of-level-requires : goal.level_of-level-requires
level_of-level-requires c =
    let pre = c.requires in
    let cusp-widths = c.cusp_widths-cusps in
    widths_table pre cusp-widths.ensures

pub genus_of-genus-requires : goal.genus_of-genus-requires
genus_of-genus-requires c =
    let args = c.args in
    let pre = c.requires in
    let fixed-points = c.fixed_points-e2 in
    let fixed-points2 = c.fixed_points-e3 in
    let cusp-widths = c.cusp_widths-cusps in
    let a = fixed_few S_TABLE args.n args.w.now (omega (arith, pre.long, pre.room)) in
    let b = fixed_few R_TABLE args.n args.w.now (omega (arith, pre.long, pre.room)) in
    let x = fixed-points.ensures in
    let y = fixed-points2.ensures in
    let r = pre.room in
    let k = cusp-widths.ensures.few in
    (omega arith, omega arith, omega arith, omega arith)

pub returns : goal.returns
returns c =
    let fixed-points = c.fixed_points-e2 in
    let fixed-points2 = c.fixed_points-e3 in
    let cusp-widths = c.cusp_widths-cusps in
    let n = c.args.n in
    let w = c.args.w.now in
    let level = rw cusp-widths.ensures.table at c.level_of-level.ensures in
    record {
      figures =
          all_figures n (entries S_TABLE n w) (entries R_TABLE n w) (held_t n w)
          fixed-points.ensures fixed-points2.ensures cusp-widths.ensures.count c.genus_of-genus.ensures level;
      cusps_are = cusp-widths.ensures;
    }
