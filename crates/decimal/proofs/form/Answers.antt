-- `decimal::form` meets its contract: the digits of the magnitude, with a minus in front of them where n is negative.
-- Assumes nothing.
use mathlib.Core.Path.{ap, ◌∙◌}
use mathlib.Core.List.{◌∷◌, List}
use native.Mathlib.Omega.{arith}
use lib.ListN.{length-set}
use Rattle.decimal.proofs.Decimals.{form_minus, form_plain}
use Rattle.decimal.proofs.Places.{front_store}
use Prim.Native.Nat.{ℕ}
use Rattle.decimal.specs.Decimal.{digits}
use lib.IntN.{nat_abs}
use mir.Facts.{to_z-of_z}
use Rattle.decimal.proofs.form.Goals as goal

pub returns-then-n-lt0 : goal.returns-then-n-lt0
returns-then-n-lt0 c = let d = c.digits_back-first in
    let e = c.size.ensures ∙ ap nat_abs (to_z-of_z c.ranges.n) in (
      front_store d.new.buffer d.result 45 (omega arith) (omega arith) ∙ ap (λ (t : List ℕ). 45 ∷ t) (d.ensures.0 ∙ ap digits e)
          ∙ form_minus c.ranges.n c.if-n-lt0.true,
      omega arith,
      length-set d.new.buffer _ _ ∙ d.ensures.3,
    )

pub returns : goal.returns
returns c = let d = c.digits_back-first in
    let e = c.size.ensures ∙ ap nat_abs (to_z-of_z c.ranges.n) in
    (d.ensures.0 ∙ ap digits e ∙ form_plain c.ranges.n c.if-n-lt0.false, d.ensures.2, d.ensures.3)
