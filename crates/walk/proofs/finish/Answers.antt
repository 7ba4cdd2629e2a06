-- `finish` has two cases, for a form that isn't proper is that of the identity, and the word is over (`ended_none`), or that of S, and S is
-- its last letter (`ended_S`). Assumes nothing.
use Rattle.walk.specs.Inner.Way.{form_of}
use native.Mathlib.Omega.{arith}
use Rattle.coset.proofs.Positions.{positions}
use Rattle.walk.proofs.Forms.{improper}
use Rattle.walk.proofs.Onward.{ended_none, ended_S}
use Rattle.walk.proofs.finish.Goals as goal

pub returns-then-way-eq0 : goal.returns-then-way-eq0
returns-then-way-eq0 c =
    let s = c in
    ended_none (positions s.requires.0.prepared.tables.symbol).polygon s.requires.1 c.if-way-eq0.true

pub returns : goal.returns
returns c =
    let s = c in
    ended_S (positions s.requires.0.prepared.tables.symbol).polygon s.requires.1 (omega (arith, c.if-way-eq0.false))
    (improper (form_of s.args.way) s.requires.2 (omega (arith, c.if-way-eq0.false))) c.cross.ensures.0
