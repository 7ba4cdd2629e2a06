use mathlib.Core.Path.{◌≡◌, ◌∙◌}
use mathlib.Core.Bool.{true}
use native.Mathlib.Omega.{arith}
use lib.ListN.{length}
use Rattle.call.specs.declared.refusal.Refusal.TheVariants.{TableEntry}
use Rattle.basics.proofs.Count.{clear_zero}
use Rattle.permutations.specs.Check.{bad_entry}
use Rattle.permutations.proofs.Marks.{seen_none, bad_high, bad_seen, refuse_last, accept_last}
use Rattle.permutations.proofs.entries.check_table.Goals.{then-t-x-via-then-t-x, then-t-x-via-else-t-x+then-seen-x}
use Rattle.permutations.proofs.entries.check_table.Goals as goal

pub loop-i-init : goal.loop-i-init
loop-i-init c = (seen_none c.args.t.now, clear_zero (bad_entry c.args.t.now))

pub returns-then-t-x : goal.returns-then-t-x
returns-then-t-x c =
    let t = c.args.t.now in
    let i = c.loop-i.i in
    let bad : bad_entry t i ≡ true = elim c.then-t-x.branch [
      | then-t-x-via-then-t-x w ↦ bad_high t i (rw c.wide-x.ensures at w.if-t-x.true)
      | then-t-x-via-else-t-x+then-seen-x w ↦
          bad_seen t c.loop-i.seen i c.loop-i.invariant.0 c.requires (rw c.wide-x.ensures at w.if-t-x.false) ∙ (rw c.wide-x.ensures at w.if-seen-x.true)
    ] in
    refuse_last (bad_entry t) (length t) TableEntry i (omega arith) c.loop-i.invariant.1 bad

pub returns : goal.returns
returns c =
    let all : c.loop-i.i ≡ length c.args.t.now = omega arith in
    accept_last (bad_entry c.args.t.now) (length c.args.t.now) TableEntry (rw all at c.loop-i.invariant.1)
