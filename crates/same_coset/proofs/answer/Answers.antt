-- `answer` makes the tables by place, compares two places by them (`found_is`), and clears the work space. Assumes nothing.
use mathlib.Core.Path.{◌∙◌, ap}
use Rattle.call.specs.Space.{zeros}
use mathlib.Core.Bool.{Bool}
use Rattle.std.specs.Prelude.{Ok}
use Rattle.call.specs.Refusal.{Decision}
use Rattle.same_coset.proofs.Single.{found_is}
use Rattle.same_coset.proofs.answer.Goals as goal

pub prepare-n-requires : goal.prepare-n-requires
prepare-n-requires c = let q = c.requires in (q.symbol, q.work)

pub share-shared-requires : goal.share-shared-requires
share-shared-requires c =
    let q = c.requires in
    let g = c.prepare-n.ensures in
    (g.prepared, record { entries = q.entries_A; unit = q.unit_A }, record { entries = q.entries_B; unit = q.unit_B })

pub returns : goal.returns
returns c =
    let s = c in
    let share = c.share-shared in
    let g = c.prepare-n.ensures in record {
      value = ap {B = Decision} (λ (b : Bool). Ok b)
          (found_is s.requires share.result (share.ensures s.args.v s.args.t.now s.args.w.now s.requires.symbol g));
      w_after = c.clear.ensures ∙ ap zeros g.same;
    }
