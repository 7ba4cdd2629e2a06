-- A call's answer as a value, which functions return to each other.
--
--   Fills steps by a          a is the answer that `by` gives for the verdict of the steps, which leave what they say
--   made_if n, decided b        the answers of calls that fill spaces, and of calls that decide, from a verdict
--   decision_place              what a call that decides tells as its place: 1 for yes, 0 for no, or the refusal's
use Rattle.std.specs.Prelude.{◌≡◌, Bool, List, ℕ, Ok, Err}
use Rattle.call.specs.Refusal.{refusal_place, Checked, Filled, Decision}
use Rattle.call.specs.Call.{Step, verdict, Leaves, bit}

pub record Fills {A : Type 0} (steps : List Step) (by : Checked → A) (a : A) : Type 0 where
  pub answer : a ≡ by (verdict steps)
  pub leaves : Leaves steps

abbrev pub made_if : ℕ → Checked → Filled
made_if n (Ok tt) = Ok n
made_if n (Err f) = Err f

abbrev pub decided : Bool → Checked → Decision
decided b (Ok tt) = Ok b
decided b (Err f) = Err f

abbrev pub decision_place : Decision → ℕ
decision_place (Ok b) = bit b
decision_place (Err f) = refusal_place f
