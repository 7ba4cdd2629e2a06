-- `named_groups::check` meets its contract: its arms are those of `group_check`.
-- Assumes nothing.
use Rattle.named_groups.proofs.Checked.{verdict_as, check_family, check_some, check_most, check_few, check_accepts, index_by}
use native.Mathlib.Omega.{arith}
use Rattle.named_groups.proofs.check.Goals.{then-k-gt2-via-then-k-gt2, then-k-gt2-via-else-k-gt2+then-n-lt1}
use Rattle.named_groups.proofs.check.Goals.{then-k-gt2-via-else-k-gt2+else-n-lt1+then-n-gt1000}
use Rattle.named_groups.proofs.check.Goals as goal

pub returns-then-k-gt2 : goal.returns-then-k-gt2
returns-then-k-gt2 c = elim c.then-k-gt2.branch [
  | then-k-gt2-via-then-k-gt2 w ↦ verdict_as (check_family c.args.k c.args.n (omega arith))
  | then-k-gt2-via-else-k-gt2+then-n-lt1 w ↦ verdict_as (check_some c.args.k c.args.n (omega arith) (omega arith))
  | then-k-gt2-via-else-k-gt2+else-n-lt1+then-n-gt1000 w ↦
      verdict_as (check_most c.args.k c.args.n (omega arith) (omega arith) (omega arith))
]

pub returns-then-family_index-gt3066 : goal.returns-then-family_index-gt3066
returns-then-family_index-gt3066 c =
    let args = c.args in
    let e = index_by args.k args.n c.family_index.ensures c.family_of.ensures in
    verdict_as (check_few args.k args.n (omega arith) (omega arith) (omega arith) (omega (arith, e)))

pub returns : goal.returns
returns c =
    let args = c.args in
    let e = index_by args.k args.n c.family_index.ensures c.family_of.ensures in
    verdict_as (check_accepts args.k args.n (record { named = omega arith; some = omega arith; most = omega arith; few = omega (arith, e) }))
