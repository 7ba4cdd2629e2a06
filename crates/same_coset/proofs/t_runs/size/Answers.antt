-- `size` fits 32 bits. Assumes nothing.
use mathlib.Core.Path.{◌≡◌}
use native.Mathlib.Omega.{arith}
use lib.IntN.{nat_abs}
use borrow.Author.Rules.{rules}
use Rattle.same_coset.proofs.t_runs.size.Goals as goal

pub overflow_cast-result : goal.overflow_cast-result
overflow_cast-result c = let e : c.unsigned_abs.result ≡ nat_abs c.args.x = search rules in record { fits = omega (arith, e, c.requires) }
