-- A refusal is no other answer: `refused_made`, and of checks `refused_accepted`. Assumes nothing.
use mathlib.Core.Path.{◌≡◌}
use Prim.Native.Nat.{ℕ}
use native.Mathlib.Omega.{arith}
use Rattle.std.specs.Prelude.{Ok, Err}
use Rattle.call.specs.Refusal.{Answer, Checked}
use Rattle.call.specs.declared.refusal.Refusal.{Refusal}

pub refused_made : {A B : Type 0} {f : Refusal} {x : B} → ◌≡◌ {A = Answer B} (Err f) (Ok x) → A
refused_made e = let z : ◌≡◌ {A = ℕ} 0 1 = cc in absurd (omega arith)

pub refused_accepted : {A : Type 0} {f : Refusal} → ◌≡◌ {A = Checked} (Err f) (Ok tt) → A
refused_accepted e = refused_made e
