use borrow.Author.Rules.{rules}
use mathlib.Core.Path.{◌≡◌, refl, ◌∙◌}
use Prim.Native.Nat.{◌-◌}
use native.Mathlib.Omega.{arith}
use lib.ListN.{length}
use Rattle.congruence_tables.proofs.Walked.{Part, part_start, part_few, part_visits, part_more, part_end_lem, part_S, part_R, part_holds}
use Rattle.congruence_tables.proofs.begin.Reads as begin-reads
use Rattle.congruence_tables.proofs.visit.Reads as visit-reads
use Rattle.congruence_tables.proofs.tables.Goals as goal

pub visit-count-requires : goal.visit-count-requires
visit-count-requires c = part_visits c.loop-i.invariant.0 (omega arith)

pub loop-i-preserved : goal.loop-i-preserved
loop-i-preserved c =
    let loop = c.loop-i in
    let visit = c.visit-count in
    (part_more loop.invariant.0 (omega arith) visit.ensures, visit.ensures.same ∙ loop.invariant.1)

pub returns : goal.returns
returns c =
    let inv = c.loop-i.invariant.0 in
    record {
      value = part_end_lem inv (omega arith);
      s_after = part_S inv (omega arith);
      r_after = part_R inv (omega arith);
      holds_cosets = part_holds inv (omega arith);
    }
