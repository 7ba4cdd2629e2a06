-- `first_beyond` goes over the entries. The loop's invariant: those below i are at most `most` in size. Assumes nothing.
use Rattle.basics.proofs.Count.{Clear}
use Rattle.word.specs.Answer.{beyond}
use Rattle.word.proofs.first_beyond.Given as goal

abbrev pub invariant-loop-i : goal.invariant-loop-i
invariant-loop-i l = Clear (beyond l.most l.entries) l.i
