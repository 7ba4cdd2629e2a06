-- `farey_figures` meets its contract: in each arm the answer tells the verdict of the checks (`run_figured`, `run_unfigured`), by which number, place and
-- the eight numbers are those of the contract. Assumes nothing.
use mathlib.Core.Path.{sym, ap, ◌∙◌}
use Rattle.call.specs.Refusal.{answer_number, answer_place, Checked}
use Rattle.call.specs.Call.{if_accepted}
use Rattle.call.proofs.Laws.{call}
use Rattle.coset.specs.Answer.{figures_of, figure_numbers}
use Rattle.coset.proofs.Answer.{run_figured, run_unfigured, figures_are, figures_says}
use borrow.Author.Rules.{rules}
use mathlib.Core.List.{[]}
use Rattle.engine.proofs.Numbers.{one_numbered}
use Rattle.engine.proofs.Lent.{lent_to}
use Rattle.engine.proofs.tables.farey_figures.Goals as goal

pub returns-in-Err : goal.returns-in-Err
returns-in-Err c =
    let q = c.figures-answer in
    let s = c in
    let v = s.args.v in
    let t = s.args.t.now in
    let e = (run_unfigured q.ensures c.in-Err.refusal c.in-Err.is).is in
    let left = ap (λ (x : Checked). if_accepted x (figure_numbers (figures_of v t)) s.args.out.now) (sym e) in
    call _ (one_numbered v t s.args.w.now [] tt)
    (figures_says v t (lent_to s.args.w _) (lent_to s.args.out _) (q.ensures.leaves.0, (left, tt))) (q.ensures.leaves.0, (left, tt))
    (c.number.ensures ∙ ap (λ (x : Checked). answer_number x) (sym e)) (c.place.ensures ∙ ap (λ (x : Checked). if_accepted x 0 (answer_place x)) (sym e))

pub returns-in-Ok : goal.returns-in-Ok
returns-in-Ok c =
    let q = c.figures-answer in
    let s = c in
    let v = s.args.v in
    let t = s.args.t.now in
    let e = (run_figured q.ensures c.in-Ok.f c.in-Ok.is).is in
    let left = c.of_figures.ensures ∙ ap figure_numbers (figures_are q.ensures c.in-Ok.f c.in-Ok.is)
    ∙ ap (λ (x : Checked). if_accepted x (figure_numbers (figures_of v t)) s.args.out.now) (sym e) in
    call _ (one_numbered v t s.args.w.now [] tt)
    (figures_says v t (lent_to s.args.w _) (lent_to s.args.out _) (q.ensures.leaves.0, (left, tt))) (q.ensures.leaves.0, (left, tt))
    (ap (λ (x : Checked). answer_number x) (sym e)) (ap (λ (x : Checked). if_accepted x 0 (answer_place x)) (sym e))
