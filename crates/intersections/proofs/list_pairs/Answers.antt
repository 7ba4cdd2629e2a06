use borrow.Author.Rules.{rules}
use mathlib.Core.Path.{◌≡◌, refl, ◌∙◌}
use Prim.Native.Nat.{◌-◌}
use native.Mathlib.Omega.{arith}
use lib.ListN.{length}
use Rattle.intersections.proofs.Walk.{Walked, start_enters, walked_start, walked_visits, walked_more, listed_large, listed_all}
use Rattle.intersections.proofs.list_pairs.Goals as goal

pub enter-requires : goal.enter-requires
enter-requires c =
    let at = c in
    start_enters at.requires at.begin.ensures

pub loop-i-init : goal.loop-i-init
loop-i-init c =
    let pushed = c in
    let at = pushed in
    (walked_start at.requires at.begin.ensures pushed.enter.ensures, refl)

pub visit-count-requires : goal.visit-count-requires
visit-count-requires c =
    walked_visits c.loop-i.invariant.0 (omega arith)

pub returns-then-count-gt-MOST : goal.returns-then-count-gt-MOST
returns-then-count-gt-MOST c =
    let at = c in
    let loop = at.loop-i in
    listed_large loop.invariant.0 (omega arith) at.visit-count.ensures (loop.invariant.1 ∙ search rules) (omega arith)

pub loop-i-preserved : goal.loop-i-preserved
loop-i-preserved c =
    let at = c in
    let loop = at.loop-i in
    (walked_more loop.invariant.0 (omega arith) at.visit-count.ensures (omega arith), at.visit-count.ensures.same ∙ loop.invariant.1)

pub returns : goal.returns
returns c =
    let loop = c.loop-i in
    listed_all loop.invariant.0 (loop.invariant.1 ∙ search rules) (omega arith)
