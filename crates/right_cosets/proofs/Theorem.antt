-- Proofs of the theorems of specs/Theorems.antt. Assumes nothing.
use Rattle.right_cosets.specs.Cosets.{CosetsOf}
use Rattle.right_cosets.specs.Theorems.{OneIndex, NumberedCosets, OneTable}
use Rattle.right_cosets.proofs.Transversal.{one_length}
use Rattle.right_cosets.proofs.Unique.{cosets_count, cosets_index, cosets_unique}
use Rattle.right_cosets.proofs.Listed.{numbered_cosets}

pub one_index : OneIndex
one_index D C c n n' i j = one_length c i.transversal j.transversal

pub numbered : NumberedCosets
numbered C c test decides n index = numbered_cosets c decides index

pub one_table : OneTable
one_table C c n n' s r s' r' a b =
    let e = cosets_count c a (cosets_index b) in
    let b' : CosetsOf C n s' r' = rw e b in
    let u = cosets_unique c a b' in
    (e, (u.0, u.1))
