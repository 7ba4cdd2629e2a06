-- `signed` keeps a number below 2⁶³. Assumes nothing.
use mir.Syntax.{w64}
use mir.Facts.{to_z_pos}
use Rattle.sheets.proofs.signed.Goals as goal

pub returns : goal.returns
returns c = to_z_pos w64 c.requires
