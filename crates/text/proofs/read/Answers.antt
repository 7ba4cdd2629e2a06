-- `text::read` meets its contract: the length, then the survey of the pieces, then the count. Assumes nothing.
use mathlib.Core.Path.{refl, sym, ◌∙◌}
use lib.ListN.{length}
use Rattle.text.specs.Piece.{pieces}
use Rattle.text.specs.Inner.Inside.{left_by}
use Rattle.text.proofs.Answers.{survey_all, read_long, read_bad, read_counted}
use borrow.Author.Rules.{rules}
use Rattle.text.proofs.Exits.{handed_out, mapped_ok, mapped_err}
use Rattle.call.specs.declared.refusal.Refusal.TheVariants.{BadText}
use Rattle.text.proofs.read.Goals as goal

pub returns-then-text-gt-TEXT_MOST : goal.returns-then-text-gt-TEXT_MOST
unfolding left_by
returns-then-text-gt-TEXT_MOST c = let a = c.args in
    (read_long a.format a.text.now (length a.out.now) c.if-text-gt-TEXT_MOST.true, refl)

pub count_and_give-requires : goal.count_and_give-requires
count_and_give-requires c = survey_all (pieces c.args.text.now) c.in_ok-count.count
    (sym (mapped_ok _ c.survey_of.result c.map_err.result c.map_err.ensures.cases c.in_ok-count.count c.in_ok-count.was)
    ∙ c.survey_of.ensures)

pub returns-in_err-count : goal.returns-in_err-count
unfolding left_by
returns-in_err-count c = let a = c.args in
    let m = mapped_err BadText c.survey_of.result c.map_err.result c.map_err.ensures.cases (λ e d h. search rules)
    c.in_err-count.field-0.0 c.in_err-count.was in
    rw (handed_out c.from_residual.result c.from_residual.ensures.1, m.2) (
      read_bad a.format a.text.now (length a.out.now) c.if-text-gt-TEXT_MOST.false m.0
          (sym m.1 ∙ c.survey_of.ensures),
      refl,
    )

pub returns : goal.returns
returns c = let a = c.args in
    let all = survey_all (pieces a.text.now) c.in_ok-count.count
    (sym (mapped_ok _ c.survey_of.result c.map_err.result c.map_err.ensures.cases c.in_ok-count.count c.in_ok-count.was)
    ∙ c.survey_of.ensures) in (
      c.count_and_give.ensures.0 ∙ read_counted a.format a.text.now (length a.out.now)
          c.if-text-gt-TEXT_MOST.false all.0,
      c.count_and_give.ensures.1,
    )
