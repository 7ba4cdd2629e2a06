-- `note_place` notes the step where p is a position; where it isn't one there is nothing to note below p + 1 that wasn't below p
-- (`prepared_skip`). Assumes nothing.
use mathlib.Core.Path.{refl, sym, ◌∙◌}
use Rattle.coset.proofs.Noted.{prepared_skip}
use borrow.Author.Rules.{rules}
use Rattle.coset.proofs.steps.note_place.Goals as goal

pub note_step-requires : goal.note_step-requires
note_step-requires c =
    let s = c in
    (s.requires.0, s.requires.1, sym c.is_real.ensures ∙ c.if-is_real.true)

pub returns : goal.returns
returns c =
    let s = c in
    (prepared_skip s.requires.0 s.requires.1 (sym c.is_real.ensures ∙ c.if-is_real.false), refl)
