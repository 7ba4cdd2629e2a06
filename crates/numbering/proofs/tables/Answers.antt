-- `numbering::tables` meets its contract: the numbering, and three tables put one after another.
-- Assumes nothing.
use Rattle.numbering.proofs.Marks.{tables_S, tables_R, tables_T, tables_are}
use Rattle.numbering.proofs.tables.Goals as goal

pub rename-requires : goal.rename-requires
rename-requires c = tables_S c.requires c.number-n.ensures

pub rename-requires-2 : goal.rename-requires-2
rename-requires-2 c =
    let pre = c.requires in
    let number = c.number-n in
    let rename = c.rename in
    tables_R pre number.ensures rename.ensures

pub compose-requires : goal.compose-requires
compose-requires c =
    let pre = c.requires in
    let number = c.number-n in
    let rename = c.rename in
    let rename2 = c.rename-2 in
    tables_T pre number.ensures rename.ensures rename2.ensures

pub returns : goal.returns
returns c =
    let earlier = c in
    let pre = earlier.requires in
    let number = earlier.number-n in
    let rename = c.rename in
    let rename2 = c.rename-2 in
    let compose = c.compose in
    tables_are pre number.ensures rename.ensures rename2.ensures compose.ensures
