-- `sign_of_frame`: by the corner inside a triangle (`frame_low`), and at an outer face by whether it is the last side's (`frame_high`). Assumes nothing.
use Rattle.coset.proofs.Noted.{frame_low, frame_high}
use borrow.Author.Rules.{rules}
use Rattle.coset.proofs.steps.sign_of_frame.Goals as goal

pub returns-then-p-b : goal.returns-then-p-b
returns-then-p-b c = frame_low c.args.v c.args.p c.if-p-b.true

pub returns : goal.returns
returns c = frame_high c.args.v c.args.p c.if-p-b.false
