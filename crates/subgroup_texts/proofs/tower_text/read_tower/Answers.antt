-- `read_tower` meets its contract: the length, then the survey of the pieces, then the first number. Assumes nothing.
use mathlib.Core.Path.{refl, sym, ap, ◌∙◌}
use mathlib.Core.Bool.{Bool, ◌||◌}
use lib.Dec.{ltb}
use lib.ListN.{length}
use borrow.Author.Rules.{rules}
use borrow.Author.Tests.{lt-ltb}
use Rattle.call.specs.declared.refusal.Refusal.TheVariants.{BadText}
use Rattle.text.specs.Piece.{pieces}
use Rattle.text.specs.Reading.{text_most}
use Rattle.text.specs.Inner.Inside.{left_by}
use Rattle.text.proofs.Answers.{survey_all}
use Rattle.text.proofs.Exits.{handed_out, mapped_ok, mapped_err}
use native.Mathlib.Omega.{arith}
use Rattle.subgroup_texts.proofs.TowerPieces.{pieces_half}
use Rattle.subgroup_texts.proofs.TowerReadings.{too_long, survey_bad, survey_good}
use Rattle.subgroup_texts.proofs.tower_text.read_tower.Goals.{then-longer-via-then-longer, then-longer-via-else-longer+then-text-gt-TEXT_MOST}
use Rattle.subgroup_texts.proofs.tower_text.read_tower.Goals as goal

pub returns-then-longer : goal.returns-then-longer
unfolding left_by
returns-then-longer c = let t = c.args.text.now in
    elim c.then-longer.branch [
      | then-longer-via-then-longer w ↦ (too_long c.args.longer t (ap (λ (b : Bool). b || ltb text_most (length t)) w.if-longer.true), refl)
      | then-longer-via-else-longer+then-text-gt-TEXT_MOST w ↦ (
        too_long c.args.longer t (ap (λ (b : Bool). b || ltb text_most (length t)) w.if-longer.false
            ∙ lt-ltb text_most (length t) w.if-text-gt-TEXT_MOST.true),
        refl,
      )
    ]

pub read_entries-requires : goal.read_entries-requires
read_entries-requires c =
    let k = survey_all (pieces c.args.text.now) c.in_ok-count.count
    (sym (mapped_ok _ c.survey_of.result c.map_err.result c.map_err.ensures.cases c.in_ok-count.count c.in_ok-count.was)
    ∙ c.survey_of.ensures) in
    (k.0, k.1, omega (arith, pieces_half c.args.text.now, k.1, c.requires, c.if-text-gt-TEXT_MOST.false))

pub returns-in_err-count : goal.returns-in_err-count
unfolding left_by
returns-in_err-count c =
    let m = mapped_err BadText c.survey_of.result c.map_err.result c.map_err.ensures.cases (λ e d h. search rules)
    c.in_err-count.field-0.0 c.in_err-count.was in
    rw (handed_out c.from_residual.result c.from_residual.ensures.1, m.2) (
      survey_bad c.args.longer c.args.text.now c.if-longer.false c.if-text-gt-TEXT_MOST.false m.0
          (sym m.1 ∙ c.survey_of.ensures),
      refl,
    )

pub returns : goal.returns
returns c =
    let k = survey_all (pieces c.args.text.now) c.in_ok-count.count
    (sym (mapped_ok _ c.survey_of.result c.map_err.result c.map_err.ensures.cases c.in_ok-count.count c.in_ok-count.was)
    ∙ c.survey_of.ensures) in (
      c.read_entries.ensures.0
          ∙ survey_good c.args.longer c.args.text.now c.if-longer.false c.if-text-gt-TEXT_MOST.false k.0,
      c.read_entries.ensures.1,
    )
