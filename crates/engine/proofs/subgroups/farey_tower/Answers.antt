-- `farey_tower` meets its contract: it tells the answer of `tower`. Assumes nothing.
use mathlib.Core.Path.{refl}
use Rattle.call.proofs.Laws.{call_checked}
use Rattle.towers.proofs.Says.{tower_says}
use borrow.Author.Rules.{rules}
use Rattle.engine.proofs.Numbers.{tower_numbered}
use Rattle.engine.proofs.subgroups.farey_tower.Goals as goal

pub returns : goal.returns
returns c =
    let q = c.tower in
    let s = c in
    call_checked _ (tower_numbered s.args.count s.args.t.now s.args.w.now q.new.w)
    (tower_says s.args.count s.args.t.now s.args.w.now q.new.w) refl q.ensures
    c.of_checked-said.ensures.0 c.of_checked-said.ensures.1
