-- What the search for a generating unit finds.
--
--   FoundUnit q r      r .g and r.h generate the units modulo q, unless r .h is 0
use Rattle.std.specs.Prelude.{ℕ, ◌<◌}
use Rattle.congruence_decision.specs.Units.{Generating}
use Rattle.prime_units.specs.declared.units.Found.{Found}

abbrev pub FoundUnit : (q : ℕ) → Found → Type 0
FoundUnit q r = 0 < r.h → Generating q r.g r.h
