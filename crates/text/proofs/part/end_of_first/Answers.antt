-- `end_of_first` meets its contract: the first piece is v, and the piece behind those that v wants is where the text
-- ends that begins with v. Assumes nothing.
use mathlib.Core.Path.{◌≡◌, sym, ap, ◌∙◌}
use native.Mathlib.Omega.{arith}
use mir.Syntax.{w64}
use mir.Facts.{to_z-of_z}
use Rattle.text.specs.Reading.{wanted}
use Rattle.text.proofs.Walks.{walked_start, walked_sound}
use Rattle.text.proofs.Ends.{end_none, end_any, end_behind, end_all}
use Rattle.text.proofs.part.end_of_first.Goals.{After-wanted_for}
use Rattle.text.proofs.part.end_of_first.Goals as goal

-- where v is known: the count wanted is v's
told : (w : After-wanted_for) → w.wanted_for.result ≡ wanted w.args.format w.in-Some.first.value
told w =
    w.wanted_for.ensures
    ∙ ap (wanted w.args.format) (to_z-of_z {w = w64} {z = w.in-Some.first.value} (record { sfits = omega arith }))

pub next_number-requires : goal.next_number-requires
next_number-requires c = let w = walked_start c.args.text.now in (w.inside, walked_sound w c.requires.0)

pub returns-in_default : goal.returns-in_default
returns-in_default c = end_none c.args.format c.args.text.now c.in_default.ensures

pub returns-in-Some-wanted_for : goal.returns-in-Some-wanted_for
returns-in-Some-wanted_for c = let a = c.args in
    c.place.ensures ∙ end_behind a.format a.text.now c.in-Some.ensures c.in-Some-wanted_for.k
    (sym c.in-Some-wanted_for.is ∙ told (goal.at.returns-in-Some-wanted_for c).After-wanted_for) (omega arith)

pub returns-in_default-wanted_for : goal.returns-in_default-wanted_for
returns-in_default-wanted_for c = let a = c.args in
    end_all a.format a.text.now c.in-Some.ensures c.in-Some-wanted_for.k
    (sym c.in-Some-wanted_for.is ∙ told (goal.at.returns-in_default-wanted_for c).After-wanted_for) (omega arith)

pub returns-in_default-wanted_for-2 : goal.returns-in_default-wanted_for-2
returns-in_default-wanted_for-2 c = let a = c.args in
    end_any a.format a.text.now c.in-Some.ensures
    (sym c.in_default-wanted_for.is ∙ told (goal.at.returns-in_default-wanted_for-2 c).After-wanted_for)
