-- What `admit` and `admit_both` answer.
--
--   work_check work         refused with 11 where the work space is too short
--   admitted_of v t work    the refusals 1 to 7, then the work space
--   both_admitted v t v' t' work    the refusals 1 to 7 of the first symbol, then those of the second, then the work
--                                   space
use Rattle.std.specs.Prelude.{List, ℕ, ltb, ℤ, Ok, Err}
use Rattle.basics.specs.Choice.{pick}
use Rattle.call.specs.Space.{work_length}
use Rattle.call.specs.Refusal.{◌or_else◌, Checked}
use Rattle.call.specs.declared.refusal.Refusal.TheVariants.{TooShort}
use Rattle.symbol.specs.Check.{symbol_check}

abbrev pub work_check : ℕ → Checked
work_check work = pick (ltb work work_length) (Err (TooShort work_length)) (Ok tt)

abbrev pub admitted_of : ℕ → List ℤ → ℕ → Checked
admitted_of v t work = symbol_check v t or_else work_check work

abbrev pub both_admitted : (v : ℕ) (t : List ℤ) (v' : ℕ) (t' : List ℤ) (work : ℕ) → Checked
both_admitted v t v' t' work = symbol_check v t or_else admitted_of v' t' work
