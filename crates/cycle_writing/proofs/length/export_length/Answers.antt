use native.Mathlib.Omega.{arith}
use Rattle.cycle_writing.proofs.Sizes.{export_size}
use Rattle.cycle_writing.proofs.length.export_length.Goals as goal

pub returns : goal.returns
returns c =
    omega (
      arith,
      export_size c.args.s.now c.args.r.now,
      c.permutation_length-second.ensures,
      c.permutation_length-first.ensures,
      c.digit_count-index.ensures,
    )
