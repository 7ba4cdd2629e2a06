-- `numbering::rename` meets its contract: the images of what is listed are put, and their numbers over them.
-- Assumes nothing.
use Rattle.numbering.proofs.Marks.{rename_first, rename_second, rename_both}
use Rattle.numbering.proofs.rename.Goals as goal

pub compose-requires : goal.compose-requires
compose-requires c = rename_first c.requires

pub compose-requires-2 : goal.compose-requires-2
compose-requires-2 c = rename_second c.requires c.compose.ensures

pub returns : goal.returns
returns c =
    let compose = c.compose in
    rename_both c.requires compose.ensures c.compose-2.ensures
