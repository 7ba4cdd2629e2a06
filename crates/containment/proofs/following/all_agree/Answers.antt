use borrow.Author.Rules.{rules}
use mathlib.Core.Path.{◌≡◌, refl, sym, ◌∙◌}
use mathlib.Core.Bool.{true}
use Prim.Native.Nat.{ℕ, ◌-◌, ◌≤◌, ◌<◌}
use native.Mathlib.Omega.{arith}
use borrow.Author.Count.{below_more}
use Rattle.basics.proofs.Choice.{clash}
use Rattle.containment.specs.Inner.Following.{agrees_at}
use Rattle.containment.proofs.following.all_agree.Goals as goal

pub loop-p-init : goal.loop-p-init
loop-p-init c = (λ j h. absurd (omega arith), omega arith)

pub agrees-requires : goal.agrees-requires
agrees-requires c =
    let l = c in
    let s = c in
    (s.requires.0, c.loop-p-test.true, s.requires.1 l.loop-p.p c.loop-p-test.true)

pub returns-then-not-agrees : goal.returns-then-not-agrees
returns-then-not-agrees c =
    let a2 = c in
    let l = c in
    let a = c in
    record {
      yes = λ e. clash e refl;
      no = λ e. record { at = l.loop-p.p; low = a2.loop-p-test.true; differs = sym a.agrees.ensures ∙ c.if-not-agrees.true };
    }

pub loop-p-preserved : goal.loop-p-preserved
loop-p-preserved c =
    let l = c in
    let a = c in (
      below_more _ l.loop-p.p l.loop-p.invariant.0 (sym a.agrees.ensures ∙ c.if-not-agrees.false),
      omega (arith, c.loop-p-test.true),
    )

pub returns : goal.returns
returns c =
    let l = c in
    record { yes = λ e j h. l.loop-p.invariant.0 j (omega (arith, c.loop-p-test.false)); no = λ e. clash refl e }
