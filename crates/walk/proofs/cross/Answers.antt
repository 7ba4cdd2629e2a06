-- `cross` is one S: the rows change places, and the letter, the position and the sign are what the tables of steps say (`stepped`, `sign_S`). Assumes nothing.
use mathlib.Core.Path.{refl, subst}
use mathlib.Core.Bool.{Bool}
use Rattle.matrix.specs.Words.{S, letter}
use Rattle.coset.specs.Positions.{step_s, written, FrameEquation}
use Rattle.walk.proofs.Told.{sign_S}
use Rattle.walk.proofs.Letters.{stepped}
use Rattle.walk.proofs.cross.Goals as goal

pub returns : goal.returns
returns c =
    let s = c in
    let v = s.args.v in
    let t = s.args.t.now in
    let p = s.args.way.at in
    let x = c.sign_of_s in (
      stepped c.put_s-count.ensures c.next-to.ensures
          (sign_S v t s.args.way.sign p c.times-sign.result x.result x.ensures.value c.times-sign.ensures)
          (subst (λ (b : Bool). FrameEquation v t p (letter S) b (written v t S p) (step_s v t p)) x.ensures.value x.ensures.step_equation),
      refl,
    )
