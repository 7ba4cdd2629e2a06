-- The phases of a permutation as the code has them, and what is behind each mark: the next phase, or why the permutation
-- doesn't go on.
--
--     is_quiet, takes_point    whether a blank, or a point, may stand in a phase
--     behind_blank .. at_semicolon    what is behind each mark
--     first_of_r semi          the phase that R begins in
use Rattle.std.specs.Prelude.{Bool, true, false, Result, Ok, Err}
use Rattle.basics.specs.Choice.{pick}
use Rattle.cycle_reading.specs.declared.phases.Phase.{Phase}
use Rattle.cycle_reading.specs.declared.phases.Phase.TheVariants.{Start, Opened, Empty, Point, Wanted, Closed}
use Rattle.cycle_reading.specs.declared.phases.Stop.{Stop}
use Rattle.cycle_reading.specs.declared.phases.Stop.TheVariants.{Over, Lost}

abbrev pub first_of_r : (semi : Bool) → Phase
first_of_r semi = pick semi Start Opened

abbrev pub is_quiet : Phase → Bool
is_quiet Start = true
is_quiet Opened = false
is_quiet Empty = true
is_quiet Point = false
is_quiet Wanted = false
is_quiet Closed = true

abbrev pub takes_point : Phase → Bool
takes_point Start = false
takes_point Opened = true
takes_point Empty = false
takes_point Point = false
takes_point Wanted = true
takes_point Closed = false

abbrev pub behind_blank : Phase → Result Phase Stop
behind_blank ph = pick (is_quiet ph) (Ok ph) (Err Lost)

abbrev pub behind_opening : (semi room : Bool) → Phase → Result Phase Stop
behind_opening semi room Start = Ok Opened
behind_opening semi room Opened = Err Lost
behind_opening semi room Empty = pick semi (Err Lost) (Err Over)
behind_opening semi room Point = Err Lost
behind_opening semi room Wanted = Err Lost
behind_opening semi room Closed = pick semi (pick room (Ok Wanted) (Err Lost)) (Err Over)

abbrev pub behind_closing : Phase → Result Phase Stop
behind_closing Start = Err Lost
behind_closing Opened = Ok Empty
behind_closing Empty = Err Lost
behind_closing Point = Ok Closed
behind_closing Wanted = Err Lost
behind_closing Closed = Err Lost

abbrev pub behind_comma : (room : Bool) → Phase → Result Phase Stop
behind_comma room Start = Err Lost
behind_comma room Opened = Err Lost
behind_comma room Empty = Err Lost
behind_comma room Point = pick room (Ok Wanted) (Err Lost)
behind_comma room Wanted = Err Lost
behind_comma room Closed = Err Lost

abbrev pub at_semicolon : (semi : Bool) → Phase → Stop
at_semicolon semi ph = pick semi (pick (is_quiet ph) Over Lost) Lost
