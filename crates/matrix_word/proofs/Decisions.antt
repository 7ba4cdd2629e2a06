-- A decision from a verdict: what yes and no say of it (`yes_by`, `no_by`), and of the number in which it is told (`bit_one`, `bit_zero`).
-- Assumes nothing.
use Rattle.std.specs.Prelude.{Ok, Err}
use mathlib.Core.Path.{◌≡◌, refl}
use mathlib.Core.Bool.{Bool, true, false}
use native.Mathlib.Omega.{arith}
use Rattle.call.specs.Refusal.{Checked}
use Rattle.call.specs.Call.{bit}
use Rattle.call.specs.Inner.Fills.{decided}

pub yes_by : (k : Bool) (c : Checked) → decided k c ≡ Ok true → (c ≡ Ok tt) × (k ≡ true)
yes_by true (Ok tt) e = (refl, refl)
yes_by false (Ok tt) e = cc
yes_by k (Err f) e = cc

pub no_by : (k : Bool) (c : Checked) → decided k c ≡ Ok false → (c ≡ Ok tt) × (k ≡ false)
no_by true (Ok tt) e = cc
no_by false (Ok tt) e = (refl, refl)
no_by k (Err f) e = cc

pub bit_one : (k : Bool) → bit k ≡ 1 → k ≡ true
bit_one true e = refl
bit_one false e = absurd (omega (arith, e))

pub bit_zero : (k : Bool) → bit k ≡ 0 → k ≡ false
bit_zero true e = absurd (omega (arith, e))
bit_zero false e = refl

pub off : (k : Bool) → (k ≡ true → ⊥) → k ≡ false
off true h = absurd (h refl)
off false h = refl
