-- `text::give` meets its contract: the space is tested before `fill` writes. Assumes nothing.
use mathlib.Core.Path.{refl}
use borrow.Author.Tests.{lt-ltb, le-ltb}
use lib.ListN.{length}
use Rattle.text.specs.Reading.{answer}
use Rattle.text.specs.Inner.Inside.{left_by}
use Rattle.text.proofs.give.Goals as goal

pub returns-then-out-k : goal.returns-then-out-k
unfolding answer left_by
returns-then-out-k c = let a = c.args in
    (rw (lt-ltb (length a.out.now) a.k c.if-out-k.true), refl)

pub returns : goal.returns
unfolding answer left_by
returns c = let a = c.args in
    (rw (le-ltb (length a.out.now) a.k c.if-out-k.false), c.fill.ensures)
