-- `put_three` makes three stores. Assumes nothing.
use Rattle.import_sides.proofs.Stores.{three_stores}
use borrow.Author.Rules.{rules}
use Rattle.import_sides.proofs.queue.put_three.Goals as goal

pub returns : goal.returns
returns c =
    let p = c in
    let a = p in
    let b = a in
    let s = b in
    three_stores s.args.w.now _ _ _ _ _ _ _ _ _ b.store.ensures a.store-2.ensures p.store-3.ensures
