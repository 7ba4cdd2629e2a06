use native.Mathlib.Omega.{arith}
use mathlib.Core.Path.{sym, ◌∙◌}
use Rattle.permutations.proofs.Answering.{passport_of}
use Rattle.cycle_writing.proofs.Theorem.{short_S, short_R}
use Rattle.cycle_writing.proofs.Answers.{accepted, all_there}
use Rattle.cycle_writing.proofs.write_cycles.Goals as goal

pub export_length-n-requires : goal.export_length-n-requires
export_length-n-requires c = let s = c.args.s.now in
    let r = c.args.r.now in
    let p = passport_of s r (sym c.check.ensures.returned ∙ c.in_ok-check.was) in (short_S s r p, short_R s r p)

pub put_export-requires : goal.put_export-requires
put_export-requires c = let s = c.args.s.now in
    let r = c.args.r.now in
    let p = passport_of s r (sym c.check.ensures.returned ∙ c.in_ok-check.was) in
    (short_S s r p, short_R s r p, omega (arith, c.if-out-n.false, c.export_length-n.ensures))

pub returns : goal.returns
returns c =
    accepted c.args.s.now c.args.r.now c.args.out.now _ (sym c.check.ensures.returned ∙ c.in_ok-check.was)
    (all_there c.args.s.now c.args.r.now c.args.out.now c.put_export.ensures (omega (arith, c.if-out-n.false, c.export_length-n.ensures)))
