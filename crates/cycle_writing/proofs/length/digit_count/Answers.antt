use native.Mathlib.Omega.{arith}
use Rattle.cycle_writing.proofs.Sizes.{one_digit, two_digits, three_digits, four_digits}
use Rattle.cycle_writing.proofs.length.digit_count.Goals as goal

pub returns-in-0-to-9 : goal.returns-in-0-to-9
returns-in-0-to-9 c = (one_digit c.args.n (omega (arith, c.in-0-to-9)), omega arith)

pub returns-in-10-to-99 : goal.returns-in-10-to-99
returns-in-10-to-99 c = (two_digits c.args.n (omega (arith, c.in-10-to-99)) (omega (arith, c.in-10-to-99)), omega arith)

pub returns-in-100-to-999 : goal.returns-in-100-to-999
returns-in-100-to-999 c = (three_digits c.args.n (omega (arith, c.in-100-to-999)) (omega (arith, c.in-100-to-999)), omega arith)

pub returns-in_default : goal.returns-in_default
returns-in_default c = (four_digits c.args.n (omega (arith, c.in_default)) (omega arith), omega arith)
