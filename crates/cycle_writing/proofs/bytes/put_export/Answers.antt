-- The parts of an export, one after another.
use native.Mathlib.Omega.{arith}
use Rattle.cycle_writing.proofs.Sizes.{export_size}
use Rattle.cycle_writing.proofs.Placed.{export_put}
use Rattle.cycle_writing.proofs.bytes.put_export.Goals as goal

pub put_number-index-requires : goal.put_number-index-requires
put_number-index-requires c = omega (arith, c.requires.2, export_size c.args.s.now c.args.r.now)

pub put-blank-requires : goal.put-blank-requires
put-blank-requires c =
    omega (arith, c.requires.2, export_size c.args.s.now c.args.r.now, c.put_number-index.ensures.end_is)

pub put_permutation-first-requires : goal.put_permutation-first-requires
put_permutation-first-requires c = (
  c.requires.0,
  omega (
    arith,
    c.requires.2,
    export_size c.args.s.now c.args.r.now,
    c.put_number-index.ensures.end_is,
    c.put-blank.ensures.end_is,
  ),
)

pub put-semicolon-requires : goal.put-semicolon-requires
put-semicolon-requires c =
    omega (
      arith,
      c.requires.2,
      export_size c.args.s.now c.args.r.now,
      c.put_number-index.ensures.end_is,
      c.put-blank.ensures.end_is,
      c.put_permutation-first.ensures.end_is,
    )

pub put_permutation-requires : goal.put_permutation-requires
put_permutation-requires c = (
  c.requires.1,
  omega (
    arith,
    c.requires.2,
    export_size c.args.s.now c.args.r.now,
    c.put_number-index.ensures.end_is,
    c.put-blank.ensures.end_is,
    c.put_permutation-first.ensures.end_is,
    c.put-semicolon.ensures.end_is,
  ),
)

pub returns : goal.returns
returns c =
    export_put c.args.s.now c.args.r.now c.put_number-index.ensures c.put-blank.ensures c.put_permutation-first.ensures
    c.put-semicolon.ensures c.put_permutation.ensures
