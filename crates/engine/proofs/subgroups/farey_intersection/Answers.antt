-- `farey_intersection` meets its contract: it tells the answer of `intersection`. Assumes nothing.
use mathlib.Core.List.{List}
use Prim.Native.Nat.{ℕ}
use denote.MutBor.{MutBor}
use Rattle.call.specs.Call.{Lent}
use Rattle.call.proofs.Laws.{call_made}
use Rattle.intersections.proofs.Means.{intersection_says}
use borrow.Author.Rules.{rules}
use lib.ListN.{length}
use Rattle.containment.specs.TwoSymbols.{common_cosets, common_s, common_r, common_t}
use Rattle.engine.proofs.Numbers.{common_numbered}
use Rattle.engine.proofs.subgroups.farey_intersection.Goals as goal

pub returns : goal.returns
returns c =
    let earlier = c in
    let q = c.intersection in
    let s = earlier in
    let as_lent : MutBor (List ℕ) → Lent (List ℕ) = λ x. record { entry = x; exit = x } in
    let v = s.args.v in
    let t = s.args.t.now in
    let m = s.args.m in
    let u = s.args.u.now in
    call_made _ (common_numbered v t s.args.w.now m u (length (common_cosets v t m u)) (length (common_s v t m u)) (length (common_r v t m u))
    (length (common_t v t m u)) s.args.s.now s.args.r.now s.args.k.now)
    (intersection_says s.args.v s.args.t.now s.args.m s.args.u.now (as_lent s.args.w) (as_lent s.args.s)
    (as_lent s.args.r)
    (as_lent s.args.k)) q.ensures c.of_filled-said.ensures.0 c.of_filled-said.ensures.1
