-- `join` makes two stores. Assumes nothing.
use Rattle.import_sides.proofs.Stores.{two_stores}
use borrow.Author.Rules.{rules}
use Rattle.import_sides.proofs.queue.join.Goals as goal

pub returns : goal.returns
returns c =
    let p = c in
    let a = p in
    let s = a in
    two_stores s.args.w.now _ _ _ _ _ _ a.store.ensures p.store-2.ensures
