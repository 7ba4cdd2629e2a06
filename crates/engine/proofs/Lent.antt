-- What a call is lent, as its promise names it: the reference at entry, and what it holds at exit. For laws whose statement doesn't determine it.
-- Assumes nothing.
use denote.Ref.{MutBor, at_last}
use Rattle.call.specs.Call.{Lent}

abbrev pub lent_to : {X : Type 0} → MutBor X → X → Lent X
lent_to x y = record { entry = x; exit = at_last x y }
