-- `denominator` is 0 for vertex 0, which is -1/0, and else an entry of the table. In an accepted symbol that lies from 1 to 10⁹, so that it
-- is the same number without a sign (`den_at`). Assumes nothing.
use Prim.Native.Nat.{◌*◌, ◌-◌, ◌+◌}
use native.Mathlib.Omega.{arith}
use lib.ListN.{get_or}
use lib.IntN.{pos}
use mir.Facts.{to_z-of_z}
use mir.Syntax.{w64}
use Rattle.polygon.proofs.Scanning.{den_at}
use Rattle.polygon.proofs.reading.denominator.Goals as goal

pub overflow_cast-result : goal.overflow_cast-result
overflow_cast-result c = let s = c in
    let z = get_or s.args.t.now (2 * (s.args.y - 1) + 1) (pos 0) in
    let d = den_at s.args.t.now s.args.v s.args.y s.requires.0 c.if-y-eq0.false s.requires.1 in
    let e = to_z-of_z {w = w64} {z = z} (record { sfits = c.x-1.given }) in
    (rw e d.sign, rw e (omega (arith, d.high)))

pub returns : goal.returns
returns c = let s = c in
    let z = get_or s.args.t.now (2 * (s.args.y - 1) + 1) (pos 0) in
    let d = den_at s.args.t.now s.args.v s.args.y s.requires.0 c.if-y-eq0.false s.requires.1 in
    let e = to_z-of_z {w = w64} {z = z} (record { sfits = c.x-1.given }) in
    (rw e d.is, rw e d.high)
