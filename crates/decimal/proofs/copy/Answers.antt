-- `decimal::copy` meets its contract: the test says whether the bytes fit. Assumes nothing.
use Rattle.std.specs.Prelude.{Err}
use mathlib.Core.Path.{refl, ap, ◌∙◌}
use native.Mathlib.Omega.{arith}
use Prim.Native.Nat.{ℕ}
use lib.ListN.{length}
use Rattle.call.specs.declared.refusal.Refusal.TheVariants.{TooShort}
use Rattle.std.specs.Prelude.{Ok}
use Rattle.decimal.specs.Writing.{standing}
use Rattle.decimal.proofs.Places.{written_short, written_to}
use Rattle.decimal.proofs.copy.Goals as goal

pub returns-then-out-end : goal.returns-then-out-end
unfolding standing
returns-then-out-end c = let a = c.args in (
  ap (λ (n : ℕ). Err (TooShort n)) c.saturating_add-end.ensures ∙ written_short (length a.bytes.now) (length a.out.now) a.at (omega arith),
  refl,
)

pub returns : goal.returns
unfolding standing
returns c = let a = c.args in
    (ap (λ (n : ℕ). Ok n) c.put.ensures.end_is ∙ written_to (length a.bytes.now) (length a.out.now) a.at (omega arith), c.put.ensures.left)
