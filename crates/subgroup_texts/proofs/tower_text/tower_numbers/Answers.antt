-- `tower_numbers` meets its contract: the first number counts the entries, and the others are the table. Assumes nothing.
use mathlib.Core.Path.{◌≡◌, ap, ◌∙◌}
use mathlib.Core.List.{List}
use Prim.Native.Nat.{ℕ, ◌≤◌}
use native.Mathlib.Omega.{arith}
use lib.IntN.{nat_abs}
use lib.ListN.{length, replicate, length-replicate}
use Rattle.call.specs.Space.{work_length}
use Rattle.matrix.specs.Matrix.{nth}
use Rattle.matrix.proofs.Bounds.{kept}
use Rattle.decimal.proofs.Placing.{puts_as}
use Rattle.subgroup_texts.specs.TowerAnswer.{entries_in}
use Rattle.subgroup_texts.proofs.TowerLines.{numbers_line}
use Rattle.subgroup_texts.proofs.tower_text.tower_numbers.Goals.{After-unsigned_abs-entries}
use Rattle.subgroup_texts.proofs.tower_text.tower_numbers.Goals as goal

-- the program's work space
abbrev fresh : List ℕ
fresh = replicate 32768 0

long : work_length ≤ length fresh
long = omega (arith, length-replicate {A = ℕ} 32768 0)

-- how many entries there are
counted : (n : After-unsigned_abs-entries) → n.unsigned_abs-entries.result ≡ entries_in n.args.ns.now
counted n = n.unsigned_abs-entries.ensures.value ∙ ap nat_abs (kept (nth n.args.ns.now 0) n.unsigned_abs-arg-1.given)

pub returns : goal.returns
returns c =
    let l = c in
    let k = l in
    let n = k in
    puts_as (numbers_line n.args.ns.now (counted (goal.at.returns c).After-unsigned_abs-entries) fresh k.tower-answer.new.w k.tower-answer.ensures long)
    l.tower_line.ensures
