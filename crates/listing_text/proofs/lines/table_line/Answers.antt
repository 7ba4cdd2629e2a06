-- `lines::table_line` meets its contract: the part of the work space is the table. Assumes nothing.
use mathlib.Core.Path.{◌≡◌}
use native.Mathlib.Omega.{arith}
use Prim.Native.Nat.{◌+◌, ◌-◌}
use Rattle.numbering.proofs.Space.{entries_length}
use Rattle.listing_text.proofs.lines.table_line.Goals as goal

pub returns : goal.returns
returns c =
    let s = c in
    let a = s.args in
    let same : a.off + a.n - a.off ≡ a.n = omega arith in
    let e = rw same at c.line_of.ensures in
    (e.0, omega (arith, e.1, entries_length a.off a.n a.w.now s.requires.0))
