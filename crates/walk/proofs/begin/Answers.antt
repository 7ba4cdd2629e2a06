-- `begin` writes the first power of Q exactly where the rows of m agree, for the word of m begins with one exactly then (`begun_head`); where
-- they don't, all of the word is still to come (`begun_tail`). Assumes nothing.
use native.Mathlib.Omega.{arith}
use mathlib.Core.Path.{refl, sym, ◌∙◌}
use Prim.Native.Nat.{◌+◌, ◌^◌}
use Rattle.matrix.specs.Matrix.{of_list}
use Rattle.coset.proofs.Positions.{positions}
use Rattle.walk.proofs.Onward.{whole_sound, whole_proper, sound_more, begun_tail, begun_head, stepped_long}
use Rattle.walk.proofs.begin.Goals as goal

pub power-requires : goal.power-requires
power-requires c =
    let s = c in
    let e = c.whole-way.ensures in
    let m = of_list s.args.m in (
      s.requires.0,
      sound_more (2 ^ 63) (2 ^ 63 + 1) (omega arith) (whole_sound m s.requires.2 s.requires.3 s.requires.1 e.0 e.1 e.2),
      whole_proper m s.requires.2
          c.whole-way.result e.0 (sym c.rows_agree.ensures ∙ c.if-rows_agree.true),
    )

pub returns-then-rows_agree : goal.returns-then-rows_agree
returns-then-rows_agree c =
    let s = c in
    let g = (positions s.requires.0.prepared.tables.symbol).polygon in
    let e = c.whole-way.ensures in
    let f = c.power.ensures in
    let m = of_list s.args.m in (
      begun_head g m s.requires.2 s.requires.3 s.requires.1 e.0 e.1 e.2 e.3
          (sym c.rows_agree.ensures ∙ c.if-rows_agree.true) f.0 f.1,
      stepped_long g f.0,
    )

pub returns : goal.returns
returns c =
    let s = c in
    let g = (positions s.requires.0.prepared.tables.symbol).polygon in
    let e = c.whole-way.ensures in
    let m = of_list s.args.m in
    (begun_tail g m s.requires.2 s.requires.3 s.requires.1 e.0 e.1 e.2 e.3 (sym c.rows_agree.ensures ∙ c.if-rows_agree.false), refl)
