use mathlib.Core.Path.{◌≡◌}
use Prim.Native.Nat.{◌+◌}
use native.Mathlib.Omega.{arith}
use native.Mathlib.Numerals.{add-one}
use borrow.Author.Rules.{rules}
use Rattle.matrix.specs.Matrix.{nth}
use Rattle.symbol.specs.Table.{pairing_of}
use Rattle.pairing.specs.Inner.Work.{met_by}
use Rattle.pairing.proofs.Partners.{met_more, paired_all, all_paired}
use Rattle.pairing.proofs.partner.pair_sides.Goals as goal

pub loop-i-preserved : goal.loop-i-preserved
loop-i-preserved c =
    let v = c.args.v in
    let p = c.args.p.now in
    let i = c.loop-i.i in
    let e : c.pair_side.new.w ≡ met_by (pairing_of v (nth p i)) i c.loop-i.w = search rules in
    rw (add-one, e) (met_more v c.requires.0 p (all_paired v p c.requires.1) i (omega arith) c.loop-i.w c.loop-i.invariant)

pub returns : goal.returns
returns c =
    let v = c.args.v in
    let p = c.args.p.now in
    let e : c.loop-i.i ≡ v + 1 = omega arith in
    (paired_all v p (all_paired v p c.requires.1) c.loop-i.w (rw e at c.loop-i.invariant), c.loop-i.auto.w)
