-- `two_lines` meets its contract: the first number of each text is its v, and the others are its table (`symbols_as`). Assumes nothing.
use mathlib.Core.Path.{◌≡◌, ap, ◌∙◌}
use mathlib.Core.List.{List}
use lib.IntN.{ℤ, pos}
use lib.ListN.{get_or}
use mir.Syntax.{w64}
use mir.Facts.{to_z-of_z}
use Rattle.text.specs.Reading.{vertex_count, count_in}
use Rattle.decimal.proofs.Placing.{puts_as}
use Rattle.subgroup_texts.proofs.SameLines.{rest_part}
use Rattle.subgroup_texts.proofs.SameReadings.{symbols_as}
use Rattle.subgroup_texts.proofs.two_texts.two_lines.Goals.{After-vertex_count-n, Start}
use Rattle.subgroup_texts.proofs.two_texts.two_lines.Goals as goal

-- where both are known
module _ (n : After-vertex_count-n) where
  abbrev start : Start
  start = (goal.at.After-vertex_count-n n).Start

  abbrev one : List ℤ
  one = start.args.one.now

  abbrev other : List ℤ
  other = start.args.other.now

  first : n.vertex_count-v.result ≡ count_in one
  first =
      n.vertex_count-v.ensures
      ∙ ap vertex_count (to_z-of_z {w = w64} {z = get_or one 0 (pos 0)} (record { sfits = n.vertex_count-arg-1.given }))

  second : n.vertex_count-n.result ≡ count_in other
  second =
      n.vertex_count-n.ensures
      ∙ ap vertex_count (to_z-of_z {w = w64} {z = get_or other 0 (pos 0)} (record { sfits = n.vertex_count-arg-2-1.given }))

pub returns-in-Same : goal.returns-in-Same
returns-in-Same c =
    let l = c in
    let k = l in
    let n = k in
    puts_as (symbols_as k.in-Same.is (one (goal.at.returns-in-Same c).After-vertex_count-n) (other (goal.at.returns-in-Same c).After-vertex_count-n) (first (goal.at.returns-in-Same c).After-vertex_count-n) (rest_part 1 (one (goal.at.returns-in-Same c).After-vertex_count-n)) (second (goal.at.returns-in-Same c).After-vertex_count-n) (rest_part 1 (other (goal.at.returns-in-Same c).After-vertex_count-n))) l.same_lines.ensures

pub returns-in-Intersection : goal.returns-in-Intersection
returns-in-Intersection c =
    let l = c in
    let k = l in
    let n = k in
    puts_as (symbols_as k.in-Intersection.is (one (goal.at.returns-in-Intersection c).After-vertex_count-n) (other (goal.at.returns-in-Intersection c).After-vertex_count-n) (first (goal.at.returns-in-Intersection c).After-vertex_count-n) (rest_part 1 (one (goal.at.returns-in-Intersection c).After-vertex_count-n)) (second (goal.at.returns-in-Intersection c).After-vertex_count-n) (rest_part 1 (other (goal.at.returns-in-Intersection c).After-vertex_count-n)))
    l.intersection_lines.ensures
