-- `farey_preview` meets its contract: in each arm the answer tells the verdict of the checks (`run_figured`, `run_unfigured`), by which number, place, the
-- widths and the eight numbers are those of the contract. Assumes nothing.
use mathlib.Core.Path.{sym, ap, ◌∙◌}
use lib.ListN.{length}
use mir.Facts.{to_z-of_z}
use Rattle.call.specs.Refusal.{answer_number, answer_place, Checked}
use Rattle.figures.specs.declared.FigureRecord.{FigureRecord}
use Rattle.call.specs.Call.{if_accepted}
use Rattle.call.proofs.Laws.{call}
use Rattle.coset.specs.Answer.{widths_of, figures_of, figure_numbers}
use Rattle.coset.proofs.Answer.{run_figured, run_unfigured, figures_are}
use Rattle.partner_exchange.specs.Exchange.{exchanged}
use Rattle.partner_exchange.proofs.Answered.{exchange_numbered, preview_says}
use borrow.Author.Rules.{rules}
use Rattle.partner_exchange.specs.Answer.{exchange_check}
use Rattle.engine.proofs.Numbers.{widths_numbered}
use Rattle.engine.proofs.Lent.{lent_to}
use Rattle.engine.proofs.exchanging.farey_preview.Goals as goal

pub returns-in-Err : goal.returns-in-Err
returns-in-Err c =
    let q = c.preview-answer in
    let s = c in
    let v = s.args.v in
    let t = s.args.t.now in
    let x = s.args.x in
    let y = s.args.y in
    let u = exchanged v t x y in
    let g = rw (to_z-of_z s.ranges.x, to_z-of_z s.ranges.y) at q.ensures in
    let e = (run_unfigured g c.in-Err.refusal c.in-Err.is).is in
    let left = ap (λ (a : Checked). if_accepted a (figure_numbers (figures_of v u)) s.args.out.now) (sym e) in
    let says = preview_says v t x y (lent_to s.args.w _) (lent_to s.args.widths _) (lent_to s.args.out _)
    (g.leaves.0, (g.leaves.1.0, (left, tt))) in
    call _ (widths_numbered (exchange_check v t x y) (exchange_numbered v t x y) s.args.w.now (length (widths_of v u)) s.args.widths.now)
    says (g.leaves.0, (g.leaves.1.0, (left, tt)))
    (c.number.ensures ∙ ap (λ (a : Checked). answer_number a) (sym e)) (c.place.ensures ∙ ap (λ (a : Checked). if_accepted a (length (widths_of v u)) (answer_place a)) (sym e))

pub returns-in-Ok : goal.returns-in-Ok
returns-in-Ok c =
    let q = c.preview-answer in
    let s = c in
    let v = s.args.v in
    let t = s.args.t.now in
    let x = s.args.x in
    let y = s.args.y in
    let u = exchanged v t x y in
    let g = rw (to_z-of_z s.ranges.x, to_z-of_z s.ranges.y) at q.ensures in
    let e = (run_figured g c.in-Ok.f c.in-Ok.is).is in
    let same = figures_are g c.in-Ok.f c.in-Ok.is in
    let left = c.of_figures.ensures ∙ ap figure_numbers same
    ∙ ap (λ (a : Checked). if_accepted a (figure_numbers (figures_of v u)) s.args.out.now) (sym e) in
    let says = preview_says v t x y (lent_to s.args.w _) (lent_to s.args.widths _) (lent_to s.args.out _)
    (g.leaves.0, (g.leaves.1.0, (left, tt))) in
    call _ (widths_numbered (exchange_check v t x y) (exchange_numbered v t x y) s.args.w.now (length (widths_of v u)) s.args.widths.now)
    says (g.leaves.0, (g.leaves.1.0, (left, tt)))
    (ap (λ (a : Checked). answer_number a) (sym e))
    (ap (λ (f : FigureRecord). f.cusps) same ∙ ap (λ (a : Checked). if_accepted a (length (widths_of v u)) (answer_place a)) (sym e))
