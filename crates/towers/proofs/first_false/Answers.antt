use mathlib.Core.Path.{refl, sym, ◌∙◌, ap}
use mathlib.Core.Bool.{not}
use native.Mathlib.Omega.{arith}
use native.Mathlib.Numerals.{add-one}
use borrow.Author.Rules.{rules}
use Rattle.basics.proofs.Count.{clear_zero, clear_more, clear_less, first_clear, first_hit}
use Rattle.towers.specs.Tower.{claim_fails}
use Rattle.towers.proofs.first_false.Goals as goal

pub loop-i-init : goal.loop-i-init
loop-i-init c = let s = c in clear_zero (claim_fails s.args.n s.args.t.now)

pub claim_holds-requires : goal.claim_holds-requires
claim_holds-requires c =
    let l = c in
    let s = l in
    let r = s.requires in
    (record { symbols = r.symbols; listed = r.listed; work = omega (arith, r.work, l.loop-i.auto.w) }, omega arith)

pub returns-then-not-claim_holds : goal.returns-then-not-claim_holds
returns-then-not-claim_holds c =
    let l = c in
    let s = l in
    sym (first_hit (claim_fails s.args.n s.args.t.now) l.loop-i.i s.args.n (omega arith) l.loop-i.invariant
    (ap not (sym c.claim_holds.ensures ∙ c.if-not-claim_holds.true)))

pub loop-i-preserved : goal.loop-i-preserved
loop-i-preserved c =
    let l = c in
    let s = l in
    rw add-one (clear_more (claim_fails s.args.n s.args.t.now) l.loop-i.i l.loop-i.invariant
    (ap not (sym c.claim_holds.ensures ∙ c.if-not-claim_holds.false)))

pub returns : goal.returns
returns c =
    sym (first_clear (claim_fails c.args.n c.args.t.now) c.args.n (clear_less (claim_fails c.args.n c.args.t.now) c.args.n c.loop-i.i c.loop-i-test.false c.loop-i.invariant))
