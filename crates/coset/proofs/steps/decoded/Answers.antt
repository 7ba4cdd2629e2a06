-- `decoded` takes 1024 from a code of at most 2048; the difference fits 16 signed bits (`decoded_fits`). Assumes nothing.
use native.Mathlib.Omega.{arith}
use mir.Syntax.{w16}
use mir.Facts.{to_z-of_z, to_z_pos}
use Rattle.coset.proofs.Noted.{decoded_fits}
use borrow.Author.Rules.{rules}
use Rattle.coset.proofs.steps.decoded.Goals as goal

pub overflow_sub-result : goal.overflow_sub-result
overflow_sub-result c =
    let h = c.requires in
    rw (to_z_pos w16 {n = c.args.code} (omega (arith, h))) (decoded_fits c.args.code h)

pub returns : goal.returns
returns c =
    let h = c.requires in
    rw (to_z_pos w16 {n = c.args.code} (omega (arith, h))) (to_z-of_z (decoded_fits c.args.code h))
