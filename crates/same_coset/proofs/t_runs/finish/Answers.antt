-- `finish` is the last run of T, by its sign and its length. Assumes nothing.
use mathlib.Core.Path.{refl, ◌∙◌}
use Rattle.same_coset.proofs.Signed.{kept, from_zero}
use Rattle.same_coset.proofs.t_runs.finish.Goals as goal

pub returns : goal.returns
returns c = c.slide.ensures ∙ rw (c.size.ensures, kept c.args.x.b c.requires.1.b_low, from_zero c.args.x.b) refl
