-- THE NUMBERS OF REFUSALS: where the refusals that a call raises have numbers above 0, a number 0 says that nothing was refused.
--     Among low high c            if the checks' answer c is a refusal, its number is from low to high
--     among_first                 the first refusal of two checks
--     accepted-zero, zero-accepted     what a number 0 then says
-- Assumes nothing.
use Rattle.std.specs.Prelude.{Ok, Err}
use mathlib.Core.Path.{◌≡◌, refl, ap}
use Prim.Native.Nat.{ℕ, ◌<◌, ◌≤◌}
use native.Mathlib.Omega.{arith}
use Rattle.call.specs.Refusal.{◌or_else◌, answer_number, refusal_number, Checked}

abbrev pub Among : (low high : ℕ) → Checked → Type 0
Among low high (Ok tt) = Unit {0}
Among low high (Err f) = (low ≤ refusal_number f) × (refusal_number f ≤ high)

pub among_first : (low high : ℕ) (c d : Checked) → Among low high c → Among low high d → Among low high (c or_else d)
among_first low high (Ok tt) d h k = k
among_first low high (Err f) d h k = h

pub accepted_zero : (c : Checked) → c ≡ Ok tt → answer_number c ≡ 0
accepted_zero c e = ap (λ (x : Checked). answer_number x) e

pub zero_accepted : (low high : ℕ) (c : Checked) → 0 < low → Among low high c → answer_number c ≡ 0 → c ≡ Ok tt
zero_accepted low high (Ok tt) l h e = refl
zero_accepted low high (Err f) l h e = absurd (omega (arith, l, h.0, e))
