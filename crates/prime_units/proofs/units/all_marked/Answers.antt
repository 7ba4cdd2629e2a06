use mathlib.Core.Path.{refl}
use Rattle.numbering.proofs.Find.{true_false}
use Prim.Native.Nat.{◌-◌}
use native.Mathlib.Omega.{arith}
use Rattle.prime_units.proofs.Marks.{Through, through_start, through_more, through_end}
use borrow.Author.Rules.{rules}
use Rattle.prime_units.proofs.units.all_marked.Goals as goal

pub loop-u-init : goal.loop-u-init
loop-u-init c = through_start c.args.p c.args.q c.args.w.now

pub returns-then-lacks : goal.returns-then-lacks
returns-then-lacks c = λ e. true_false e refl

pub loop-u-preserved : goal.loop-u-preserved
loop-u-preserved c = through_more c.loop-u.invariant (c.lacks.ensures c.if-lacks.false)

pub returns : goal.returns
returns c = λ e. through_end c.loop-u.invariant (omega arith)
