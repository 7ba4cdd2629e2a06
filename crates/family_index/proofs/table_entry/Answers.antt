-- `family_index::table_entry` meets its contract: the table passes the test, which is computed here over all its entries. Assumes nothing.
use mathlib.Core.Path.{refl}
use Rattle.congruence.specs.Index.{divisor_from}
use Rattle.family_index.specs.Inner.Test.{index_by, right_from}
use Rattle.family_index.proofs.table_entry.Goals as goal

pub entry_of-requires : goal.entry_of-requires
unfolding right_from index_by divisor_from
entry_of-requires c = (c.requires.some, c.requires.most, refl)

pub returns : goal.returns
returns c =
    let e = c.entry_of.ensures in
    record { value = e.0; gamma0entry = e.1; upper_bound = e.2 }
