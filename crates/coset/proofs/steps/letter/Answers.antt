-- `letter` reads the code at p and decodes it. A real position is below `places v`, so its code is one of those noted, and `StepsReady` says
-- which letter it stands for. Assumes nothing.
use native.Mathlib.Omega.{arith}
use mathlib.Core.Path.{◌∙◌, ap}
use Rattle.polygon.specs.Inner.Tables.{letters_of}
use Rattle.polygon.proofs.Flip.{real_in}
use mir.Facts.{to_z-of_z}
use mir.Syntax.{w16}
use Rattle.coset.proofs.steps.letter.Goals as goal

pub overflow_add-p : goal.overflow_add-p
overflow_add-p c =
    let s = c in
    omega (arith, real_in s.args.v s.args.t.now s.requires.0.tables.symbol s.args.p s.requires.1, s.requires.0.tables.symbol.most)

pub offset_bounds-w-p : goal.offset_bounds-w-p
offset_bounds-w-p c =
    let s = c in
    omega (arith, real_in s.args.v s.args.t.now s.requires.0.tables.symbol s.args.p s.requires.1, s.requires.0.tables.symbol.most)

pub bounds-w-p : goal.bounds-w-p
bounds-w-p c =
    let s = c in
    omega (
      arith,
      real_in s.args.v s.args.t.now s.requires.0.tables.symbol s.args.p s.requires.1,
      s.requires.0.tables.symbol.most,
      s.requires.0.tables.long,
    )

pub decoded-requires : goal.decoded-requires
decoded-requires c =
    let s = c in
    s.requires.0.codes s.args.p (real_in s.args.v s.args.t.now s.requires.0.tables.symbol s.args.p s.requires.1) s.requires.1

pub returns : goal.returns
returns c =
    let s = c in
    ap letters_of (to_z-of_z {w = w16} {z = c.decoded.result} (record { sfits = c.decoded.type_inv }) ∙ c.decoded.ensures)
    ∙ s.requires.0.letters s.args.p (real_in s.args.v s.args.t.now s.requires.0.tables.symbol s.args.p s.requires.1) s.requires.1
