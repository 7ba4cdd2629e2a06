-- The entries below `i` are their places.
use Rattle.std.proofs.Common.{◌≡◌, ◌<◌, ℕ, length, get_or}
use Rattle.cycle_reading.proofs.fill_identity.Given as goal

abbrev pub invariant-loop-i : goal.invariant-loop-i
invariant-loop-i l = record { long : length l.table ≡ 3066; done : (k : ℕ) → k < l.i → get_or l.table k 0 ≡ k }
