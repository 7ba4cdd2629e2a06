-- `block` writes S and a power of Q in one stride, which is the two steps with a way between them that the code doesn't make (`strode`).
-- No difference is below 0, since more than S is left (`row_takes`). Assumes nothing.
use native.Mathlib.Omega.{arith}
use mathlib.Core.Path.{refl}
use Prim.Native.Nat.{◌+◌}
use lib.Dec.{ltb}
use Rattle.basics.specs.Choice.{pick}
use Rattle.matrix.specs.Words.{S, Q, P}
use Rattle.coset.proofs.Positions.{positions}
use Rattle.walk.specs.Inner.Way.{form_of}
use Rattle.walk.proofs.Forms.{properly, row_takes}
use Rattle.walk.proofs.Stride.{landed, put_long, strode}
use Rattle.walk.proofs.block.Goals as goal

pub put_q-more-requires : goal.put_q-more-requires
put_q-more-requires c =
    let put = c in
    let led = put in
    let s = led in
    let g = (positions s.requires.0.prepared.tables.symbol).polygon in
    let a = s.args.way in
    let p = a.at in
    let e = put.put_s-count.ensures in (
      record { prepared = s.requires.0.prepared; room = omega (arith, s.requires.0.room, put_long e) },
      landed g (pick (ltb (a.p + a.q) (a.r + a.s)) P Q) p led.block_end-to.result s.requires.1.real led.block_end-to.ensures,
      omega (arith, e.count, g.short S p, s.requires.1.few),
    )

pub take-requires : goal.take-requires
take-requires c =
    let put = c in
    let led = put in
    let s = led in
    let f = form_of s.args.way in
    row_takes _ f s.requires.1.apart (properly f s.requires.2) refl

pub returns : goal.returns
returns c =
    let put = c in
    let first = put in
    let led = first in
    let s = led in
    let x = c.sign_of_s in
    strode (positions s.requires.0.prepared.tables.symbol) s.requires.1 s.requires.2 _ led.block_end-to.result x.result
    c.times-crossed.result c.times-sign.result refl first.put_s-count.ensures put.put_q-more.ensures led.block_end-to.ensures
    x.ensures.value c.times-crossed.ensures c.times-sign.ensures c.take.ensures
