-- `judged_end` meets its contract, by what the run of digits at the end says. Assumes nothing.
use Rattle.cycle_texts.proofs.Cutting.{judged_whole, judged_cut, judged_over}
use Rattle.cycle_texts.proofs.cycles_text.judged_end.Goals as goal

pub returns-then-run-le3066 : goal.returns-then-run-le3066
returns-then-run-le3066 c =
    let d = c in
    let l = d in
    let s = l in
    judged_cut s.args.longer s.args.text.now l.last_run-at.result d.digits_at-run.result l.if-longer.true
    l.last_run-at.ensures d.digits_at-run.ensures c.if-run-le3066.true

pub returns-else-run-le3066 : goal.returns-else-run-le3066
returns-else-run-le3066 c =
    let d = c in
    let l = d in
    let s = l in
    judged_over s.args.longer s.args.text.now l.last_run-at.result d.digits_at-run.result l.if-longer.true
    l.last_run-at.ensures d.digits_at-run.ensures c.if-run-le3066.false

pub returns-else-longer : goal.returns-else-longer
returns-else-longer c = let s = c in judged_whole s.args.longer s.args.text.now c.if-longer.false
