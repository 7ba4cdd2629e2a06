-- `mark`: one more mark. Assumes nothing.
use Rattle.prime_units.proofs.Marks.{marking_more, marked_within}
use borrow.Author.Rules.{rules}
use Rattle.prime_units.proofs.units.mark.Goals as goal

pub returns : goal.returns
returns c = record { marking = marking_more c.requires.0 c.args.x c.requires.1 c.requires.2; changed_within = marked_within c.requires.0 c.args.x c.requires.1 }
