-- `write_vertex` reads the right end of side i among the sides done, and stores its numerator at 2 i and its denominator behind it
-- (`vertex_stored`). Assumes nothing.
use Rattle.import_symbol.proofs.Stored.{vertex_stored}
use Prim.Native.Nat.{◌+◌, ◌*◌}
use mathlib.Core.Path.{◌≡◌, refl, sym, ◌∙◌, ap}
use Rattle.matrix.proofs.Bounds.{kept}
use borrow.Author.Rules.{rules}
use Rattle.import_symbol.proofs.write.write_vertex.Goals as goal

pub returns : goal.returns
returns c =
    let s = c in
    vertex_stored s.args.w.now (12288 + 5 * s.args.i) s.args.i _ _ _ _ s.args.out.now _ _
    c.number_at-e.ensures.0
    c.number_at-c.ensures.0
    c.numerator-a.ensures c.signed-b.ensures
    c.numerator-a.type_inv c.signed-b.type_inv
    c.store_entry.ensures c.store_entry-2.ensures
