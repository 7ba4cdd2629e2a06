use mathlib.Core.Path.{◌≡◌, refl, sym, ◌∙◌}
use Prim.Native.Nat.{◌+◌, ◌-◌, ◌≤◌, ◌<◌}
use native.Mathlib.Omega.{arith}
use lib.ListN.{length, length-set}
use Rattle.polygon.specs.Cut.{places}
use Rattle.coset.specs.Inner.Work.{FilledS}
use Rattle.numbering.specs.Inner.Space.{SIGMA}
use Rattle.coset.proofs.Work.{image_low, moved_none, moved_more, moved_all}
use borrow.Author.Rules.{rules}
use Rattle.coset.proofs.arrange.fill_s.Goals as goal

pub loop-p-init : goal.loop-p-init
loop-p-init c = (moved_none c.requires, search rules, search rules)

pub image_s-q-requires : goal.image_s-q-requires
image_s-q-requires c = let l = c in (l.loop-p.invariant.0.tables, c.loop-p-test.true)

pub overflow_cast-w : goal.overflow_cast-w
overflow_cast-w c =
    let i = c in
    let l = i in
    omega (arith, c.image_s-q.ensures, image_low l.loop-p.p l.loop-p.invariant.0.tables i.loop-p-test.true, l.loop-p.invariant.0.tables.symbol.most)

pub loop-p-preserved : goal.loop-p-preserved
loop-p-preserved c =
    let i = c in
    let l = i in (
      moved_more l.loop-p.p c.image_s-q.result l.loop-p.invariant.0 i.loop-p-test.true c.image_s-q.ensures,
      omega arith,
      length-set l.loop-p.w
          (SIGMA + l.loop-p.p) c.image_s-q.result ∙ l.loop-p.invariant.2,
    )

pub returns : goal.returns
returns c =
    let l = c in
    (moved_all l.loop-p.p l.loop-p.invariant.0 (omega (arith, l.loop-p.invariant.1, c.loop-p-test.false)), l.loop-p.invariant.2)
