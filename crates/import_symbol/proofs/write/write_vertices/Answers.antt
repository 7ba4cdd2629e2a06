use Rattle.import_symbol.proofs.Stored.{vertices_more, vertices_length}
use mathlib.Core.Path.{◌≡◌, refl, sym, ◌∙◌, ap}
use native.Mathlib.Omega.{arith}
use native.Mathlib.Numerals.{add-one}
use mathlib.Core.List.{◌++◌}
use lib.ListN.{drop, length}
use Prim.Native.Nat.{◌+◌, ◌-◌, ◌*◌, ◌≤◌}
use Rattle.import_symbol.specs.Inner.Writing.{vertices_to}
use borrow.Author.Rules.{rules}
use Rattle.import_symbol.proofs.write.write_vertices.Goals as goal

pub loop-i-init : goal.loop-i-init
loop-i-init c = (search rules, refl)

pub write_vertex-requires : goal.write_vertex-requires
write_vertex-requires c =
    let l = c.loop-i in
    let s = c in
    let z = s.requires in
    (omega (arith, z.0), z.1, omega (arith, z.2, vertices_length s.args.w.now _ l.out l.i l.invariant.1 (omega (arith, z.2))))

pub loop-i-preserved : goal.loop-i-preserved
loop-i-preserved c =
    let l = c.loop-i in
    let s = c in
    let z = s.requires in
    (search rules, rw add-one (vertices_more s.args.w.now _ l.out _ l.i l.invariant.1 (omega (arith, z.2)) c.write_vertex.ensures))

pub shape_of-out : goal.shape_of-out
shape_of-out c =
    let l = c.loop-i in
    let s = c in
    let z = s.requires in
    vertices_length s.args.w.now s.args.out.now l.out l.i l.invariant.1 (omega (arith, z.2))

pub returns : goal.returns
returns c = let l = c.loop-i in let s = c in let e : l.i ≡ s.args.v = omega arith in rw e at l.invariant.1
