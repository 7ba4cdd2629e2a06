use mathlib.Core.Path.{◌≡◌, sym, ◌∙◌}
use Prim.Native.Nat.{◌+◌, ◌-◌}
use native.Mathlib.Omega.{arith}
use Rattle.cycle_texts.proofs.Cutting.{run_begin, run_step, run_found, run_none}
use Rattle.cycle_texts.proofs.cycles_text.last_run.Goals as goal

pub loop-at-init : goal.loop-at-init
loop-at-init c = run_begin c.args.text.now

pub loop-at-preserved : goal.loop-at-preserved
loop-at-preserved c =
    let l = c.loop-at in
    run_step c.args.text.now l.at (omega arith) l.auto.at l.invariant (sym c.digit.ensures ∙ c.if-not-digit.false)

pub returns-then-not-digit : goal.returns-then-not-digit
returns-then-not-digit c =
    let l = c.loop-at in
    let same : l.at - 1 + 1 ≡ l.at = omega arith in
    rw same (run_found c.args.text.now l.at (omega arith) l.auto.at l.invariant (sym c.digit.ensures ∙ c.if-not-digit.true))

pub returns : goal.returns
returns c =
    let l = c.loop-at in
    let none : l.at ≡ 0 = omega arith in
    rw none at (run_none c.args.text.now l.at none l.invariant)
