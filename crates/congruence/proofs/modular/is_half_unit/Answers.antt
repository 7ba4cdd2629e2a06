-- `congruence::modular::is_half_unit` meets its contract: u is counted exactly when it isn't above n / 2 and its common divisor with n is 1.
-- Assumes nothing.
use native.Mathlib.Omega.{arith}
use Rattle.congruence.proofs.Units.{half_common}
use Rattle.congruence.proofs.modular.is_half_unit.Goals as goal

pub returns-then-u-n : goal.returns-then-u-n
returns-then-u-n c = half_common c.requires.0.some (omega arith) c.common_divisor.ensures
