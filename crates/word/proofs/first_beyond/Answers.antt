-- The entries that the loop has passed are no larger than `most`, and the one at which it ends is larger. Assumes nothing.
use mathlib.Core.Path.{◌≡◌, sym, ap}
use mathlib.Core.Bool.{not}
use native.Mathlib.Numerals.{add-one}
use native.Mathlib.Omega.{arith}
use lib.IntN.{nat_abs}
use lib.ListN.{length}
use borrow.Author.Tests.{le-leb, lt-leb}
use Rattle.matrix.specs.Matrix.{nth}
use Rattle.basics.proofs.Count.{clear_zero, clear_more, first_clear, first_hit}
use Rattle.word.specs.Answer.{beyond}
use borrow.Author.Rules.{rules}
use Rattle.word.proofs.first_beyond.Goals as goal

pub loop-i-init : goal.loop-i-init
loop-i-init c = clear_zero (beyond c.args.most c.args.entries.now)

pub returns-then-most-unsigned_abs : goal.returns-then-most-unsigned_abs
returns-then-most-unsigned_abs c =
    let size : c.unsigned_abs.result ≡ nat_abs (nth c.args.entries.now c.loop-i.i) = search rules in
    sym (first_hit (beyond c.args.most c.args.entries.now) c.loop-i.i (length c.args.entries.now) c.loop-i-test.true c.loop-i.invariant
    (ap not (lt-leb (nat_abs (nth c.args.entries.now c.loop-i.i)) c.args.most (omega arith))))

pub loop-i-preserved : goal.loop-i-preserved
loop-i-preserved c =
    let size : c.unsigned_abs.result ≡ nat_abs (nth c.args.entries.now c.loop-i.i) = search rules in
    rw add-one (clear_more (beyond c.args.most c.args.entries.now) c.loop-i.i c.loop-i.invariant
    (ap not (le-leb (nat_abs (nth c.args.entries.now c.loop-i.i)) c.args.most (omega arith))))

pub returns : goal.returns
returns c =
    let end : c.loop-i.i ≡ length c.args.entries.now = omega arith in
    sym (first_clear (beyond c.args.most c.args.entries.now) (length c.args.entries.now) (rw end at c.loop-i.invariant))
