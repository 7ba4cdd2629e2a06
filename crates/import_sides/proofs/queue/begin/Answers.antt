-- `begin` makes nine stores. Assumes nothing.
use Rattle.import_sides.proofs.Stores.{begun_is}
use borrow.Author.Rules.{rules}
use Rattle.import_sides.proofs.queue.begin.Goals as goal

pub returns : goal.returns
returns c =
    let p = c in
    let a = p in
    let b = a in
    let d = b in
    let e = d in
    let f = e in
    let s = f in
    begun_is s.args.w.now _ _ _ _ _ _ f.point_at-p2.ensures.0 e.point_at-p1.ensures.0 d.point_at-p0.ensures.0 b.put_three.ensures
    a.put_three-2.ensures p.put_three-3.ensures
