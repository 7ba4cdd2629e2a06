-- `put_two` stores two numbers side by side, which is a line (`two_stores`). Assumes nothing.
use native.Mathlib.Omega.{arith}
use lib.ListN.{length-set}
use mir.Facts.{to_z-of_z}
use Rattle.sheets.proofs.Rows.{two_stores}
use Rattle.sheets.proofs.put_two.Goals as goal

pub bounds-lines-i-2 : goal.bounds-lines-i-2
bounds-lines-i-2 c = simp length-set (omega arith)

pub returns : goal.returns
returns c =
    rw (to_z-of_z c.ranges.a, to_z-of_z c.ranges.b)
    (two_stores c.args.lines.now c.args.i c.args.a c.args.b c.requires)
