use mathlib.Core.Path.{◌≡◌, sym, ap, ◌∙◌}
use mathlib.Core.List.{◌∷◌}
use Prim.Native.Nat.{◌+◌, ◌-◌, ℕ, ◌/◌, ◌%◌}
use native.Mathlib.Omega.{arith}
use lib.ListN.{drop, length-set}
use Rattle.decimal.specs.Decimal.{digits}
use Rattle.decimal.proofs.Decimals.{in_front, last, digits_last, digits_more}
use Rattle.decimal.proofs.Places.{front_store, tenth}
use Rattle.decimal.proofs.digits_back.Goals as goal

pub loop-rest-preserved : goal.loop-rest-preserved
loop-rest-preserved c = let l = c.loop-rest in
    let t = tenth (l.at - 1) l.rest (omega arith) l.invariant.3 in
    let s = front_store l.buffer l.at (last l.rest) (omega arith) (omega arith) in (
      l.invariant.0 ∙ digits_more l.rest (drop l.at l.buffer) (omega arith)
          ∙ ap (in_front (l.rest / 10)) (sym s),
      omega arith,
      omega arith,
      t.1,
      length-set l.buffer _ _ ∙ l.invariant.4,
    )

pub returns : goal.returns
unfolding digits
returns c = let l = c.loop-rest in
    let s = front_store l.buffer l.at (48 + l.rest) (omega arith) (omega arith) in
    let one : l.rest % 10 ≡ l.rest = omega arith in
    let d = digits_last l.rest (drop l.at l.buffer) (omega arith) ∙ ap (λ (x : ℕ). (48 + x) ∷ drop l.at l.buffer) one in
    (s ∙ sym (l.invariant.0 ∙ d), omega arith, omega arith, length-set l.buffer _ _ ∙ l.invariant.4)
