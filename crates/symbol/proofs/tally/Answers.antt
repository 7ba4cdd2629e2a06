use native.Mathlib.Numerals.{add-one}
use Rattle.matrix.specs.Matrix.{nth}
use Rattle.matrix.proofs.Bounds.{kept}
use Rattle.symbol.proofs.Marking.{tallied_more}
use Rattle.symbol.proofs.tally.Goals as goal

pub loop-i-init : goal.loop-i-init
loop-i-init c = c.requires.2

pub loop-i-preserved : goal.loop-i-preserved
loop-i-preserved c =
    let p = c.args.p.now in
    let i = c.loop-i.i in
    rw add-one (tallied_more c.args.v p i c.loop-i.marks _ c.loop-i.invariant
    (rw (kept (nth p i) c.note-arg-1.given) at c.note.ensures))
