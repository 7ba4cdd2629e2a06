-- `figures::lcm_of` meets its contract: the divisor of a positive number is positive. Assumes nothing.
use Rattle.figures.proofs.LevelOf.{gcd_some}
use Rattle.figures.proofs.lcm_of.Goals as goal

pub nonzero_div-q : goal.nonzero_div-q
nonzero_div-q c = rw c.gcd_of.ensures (gcd_some c.args.a c.args.b c.requires.0)
