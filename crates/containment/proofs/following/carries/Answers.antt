-- `carries`: what is noted is forced (`carried_not`, `carried`). Assumes nothing.
use borrow.Author.Rules.{rules}
use mathlib.Core.Path.{sym, ◌∙◌}
use native.Mathlib.Omega.{arith}
use Rattle.containment.proofs.Corners.{carried_not, carried}
use Rattle.containment.proofs.following.carries.Goals as goal

pub returns-then-z-y : goal.returns-then-z-y
returns-then-z-y c =
    let a5 = c in
    let a7 = c in
    let s = c in
    let b = s.requires.0 in
    let v = s.args.v in
    let t = s.args.t.now in
    let n = s.args.n in
    let u = s.args.u.now in
    let d = a5.descend.ensures in (
      carried_not v t n u b.symbol b.tables.symbol d.0 s.requires.1 a7.climb-root.ensures.0 (λ e. c.if-z-y.true (c.index-z.ensures ∙ e)),
      d.0.tables,
      d.1,
    )

pub all_agree-requires : goal.all_agree-requires
all_agree-requires c =
    let s = c in
    let b = s.requires.0 in
    let v = s.args.v in
    let t = s.args.t.now in
    let n = s.args.n in
    let u = s.args.u.now in
    let d = c.descend.ensures in
    (record { symbol = b.symbol; steps = b.steps; tables = d.0.tables }, λ p h. d.0.real p (omega arith) h)

pub returns : goal.returns
returns c =
    let a2 = c in
    let a3 = c in
    let a7 = c in
    let a9 = c in
    let s = c in
    let b = s.requires.0 in
    let v = s.args.v in
    let t = s.args.t.now in
    let n = s.args.n in
    let u = s.args.u.now in
    let d = a7.descend.ensures in (
      carried v t n u b.symbol b.tables.symbol d.0 a9.climb-root.ensures.0 (sym a3.index-z.ensures ∙ a2.if-z-y.false) c.all_agree.ensures,
      d.0.tables,
      d.1,
    )
