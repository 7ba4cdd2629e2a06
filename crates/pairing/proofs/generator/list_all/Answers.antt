use Prim.Native.Nat.{suc, ◌+◌}
use native.Mathlib.Omega.{arith}
use Rattle.pairing.specs.Generator.{is_leader}
use Rattle.basics.proofs.Count.{count_le, count_yes, count_mono}
use Rattle.pairing.proofs.generator.list_all.Goals as goal

pub list_side-n-requires : goal.list_side-n-requires
list_side-n-requires c =
    let test = is_leader c.args.v c.args.t.now in
    let r = c.loop-i.invariant in
    let i = c.loop-i.i in (
      c.requires.0,
      omega arith,
      omega (arith, r.number, count_le test i),
      λ e. omega (arith, r.number, count_yes test i e, count_mono test (suc i) (c.args.v + 1) (omega arith), c.loop-i.auto.out, c.requires.1),
    )
