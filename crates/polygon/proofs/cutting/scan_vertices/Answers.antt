use native.Mathlib.Omega.{arith}
use Rattle.polygon.proofs.Space.{still}
use Rattle.polygon.proofs.Scanning.{part_none, part_room, part_more, part_all}
use Rattle.polygon.proofs.cutting.scan_vertices.Goals as goal

pub loop-i-init : goal.loop-i-init
loop-i-init c = part_none c.args.t.now c.args.v c.args.z c.args.w.now 0 c.requires.1 c.requires.0.most c.requires.2

pub settle-progress-requires : goal.settle-progress-requires
settle-progress-requires c =
    let l = c.loop-i in
    part_room c.args.t.now c.args.v c.args.z c.args.w.now l.w l.progress.n l.progress.m l.under l.i c.requires.0 l.invariant (omega arith)

pub noted-under-requires : goal.noted-under-requires
noted-under-requires c =
    let e = c.settle-progress.ensures in
    (omega (arith, e.count, c.requires.0.most), still e.frame.same c.loop-i.invariant.long)

pub loop-i-preserved : goal.loop-i-preserved
loop-i-preserved c =
    let l = c.loop-i in
    part_more c.args.t.now c.args.v c.args.z c.args.w.now l.w l.progress.n l.progress.m l.under l.i l.invariant
    (omega arith) _ _ _ _ c.settle-progress.ensures c.noted-under.ensures

pub returns : goal.returns
returns c =
    let l = c.loop-i in
    part_all c.args.t.now c.args.v c.args.z c.args.w.now l.w l.progress.n l.progress.m l.under l.i l.invariant (omega arith)
