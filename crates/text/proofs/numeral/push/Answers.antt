-- `text::push` meets its contract: a number past `most / 10` goes past `most` with any digit behind. Assumes nothing.
use Rattle.std.specs.Prelude.{Some}
use borrow.Author.Tests.{le-leb, lt-leb}
use native.Mathlib.Omega.{arith}
use Rattle.text.proofs.Numbers.{digit_yes, digit_low, digit_high}
use Prim.Native.Nat.{◌+◌, ◌*◌, ◌-◌, ℕ}
use mathlib.Core.Path.{ap}
use Rattle.text.proofs.numeral.push.Goals as goal

pub returns-then-b-lt48 : goal.returns-then-b-lt48
returns-then-b-lt48 c = rw (digit_low c.args.b c.if-b-lt48.true)

pub returns-then-b-gt57 : goal.returns-then-b-gt57
returns-then-b-gt57 c = rw (digit_high c.args.b c.if-b-gt57.true)

pub returns-then-most-m : goal.returns-then-most-m
returns-then-most-m c = let a = c.args in
    rw (digit_yes a.b c.if-b-lt48.false c.if-b-gt57.false, lt-leb (a.m * 10 + (a.b - 48)) a.most (omega arith))

pub returns-then-most-n : goal.returns-then-most-n
returns-then-most-n c = let a = c.args in
    rw (
      digit_yes a.b c.if-b-lt48.false c.if-b-gt57.false,
      lt-leb (a.m * 10 + (a.b - 48)) a.most
          (omega arith),
    )

pub returns : goal.returns
returns c = let a = c.args in
    rw (
      digit_yes a.b c.if-b-lt48.false c.if-b-gt57.false,
      le-leb (a.m * 10 + (a.b - 48)) a.most
          (omega arith),
    ) (ap (λ (k : ℕ). Some (a.m * 10 + k)) c.from.ensures)
