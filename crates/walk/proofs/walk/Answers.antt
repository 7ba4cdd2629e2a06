use native.Mathlib.Omega.{arith}
use mathlib.Core.Path.{refl, sym, ◌∙◌}
use Rattle.coset.proofs.Positions.{positions}
use Rattle.walk.proofs.Onward.{going_none, going_more, walked}
use Rattle.walk.proofs.walk.Goals as goal

pub loop-out-init : goal.loop-out-init
loop-out-init c =
    (going_none c.begin-way.ensures.0.sound, refl)

pub is_proper-requires : goal.is_proper-requires
is_proper-requires c =
    omega (arith, c.loop-out.invariant.0.sound.few)

pub block-way-requires : goal.block-way-requires
block-way-requires c =
    let s = c in
    let l = c in (
      record {
        prepared = s.requires.0.prepared;
        room =
            omega (arith, s.requires.0.room, c.begin-way.ensures.1, l.loop-out.invariant.1);
      },
      l.loop-out.invariant.0.sound,
      sym
          c.is_proper.ensures ∙ c.loop-out-test.true,
    )

pub loop-out-smaller : goal.loop-out-smaller
loop-out-smaller c =
    c.block-way.ensures.1

pub loop-out-preserved : goal.loop-out-preserved
loop-out-preserved c = (
  going_more c.loop-out.invariant.0 c.block-way.ensures.0,
  c.block-way.ensures.2
      ∙ c.loop-out.invariant.1,
)

pub finish-requires : goal.finish-requires
finish-requires c =
    let s = c in
    let l = c in (
      record {
        prepared = s.requires.0.prepared;
        room =
            omega (arith, s.requires.0.room, c.begin-way.ensures.1, l.loop-out.invariant.1);
      },
      l.loop-out.invariant.0.sound,
      sym
          c.is_proper.ensures ∙ c.loop-out-test.false,
    )

pub returns : goal.returns
returns c =
    let s = c in
    walked (positions s.requires.0.prepared.tables.symbol) s.requires.2 s.requires.1
    c.begin-way.ensures.0 c.loop-out.invariant.0
    c.finish.ensures
