-- THE ANSWER OF A DRAWING tells the verdict of the checks: what was made where they pass (`made_verdict`, `made_box`), and their refusal
-- otherwise (`refused_verdict`). Assumes nothing.
use Rattle.std.specs.Prelude.{Ok, Err}
use mathlib.Core.Path.{◌≡◌, refl, ap}
use Prim.Native.Nat.{ℕ}
use native.Mathlib.Omega.{arith}
use Rattle.call.specs.declared.refusal.Refusal.{Refusal}
use Rattle.call.specs.Refusal.{Checked, Answer}
use Rattle.drawing.specs.Inner.Ready.{drawn}
use Rattle.drawing.specs.declared.BoundingBox.{BoundingBox}

abbrev box_in : BoundingBox → (Answer BoundingBox) → BoundingBox
box_in b (Ok x) = x
box_in b (Err f) = b

abbrev refusal_in : Refusal → (Answer BoundingBox) → Refusal
refusal_in f (Ok x) = f
refusal_in f (Err g) = g

module _ (b : BoundingBox) where
  pub made_verdict : (c : Checked) (x : BoundingBox) → drawn b c ≡ Ok x → c ≡ Ok tt
  made_verdict (Ok tt) x e = refl
  made_verdict (Err f) x e = let z : ◌≡◌ {A = ℕ} 0 1 = cc in absurd (omega arith)

  pub made_box : (c : Checked) (x : BoundingBox) → drawn b c ≡ Ok x → b ≡ x
  made_box (Ok tt) x e = ap (box_in b) e
  made_box (Err f) x e = let z : ◌≡◌ {A = ℕ} 0 1 = cc in absurd (omega arith)

  pub refused_verdict : (c : Checked) (f : Refusal) → drawn b c ≡ Err f → c ≡ Err f
  refused_verdict (Ok tt) f e = let z : ◌≡◌ {A = ℕ} 0 1 = cc in absurd (omega arith)
  refused_verdict (Err g) f e = ap (λ (x : (Answer BoundingBox)). Err (refusal_in f x)) e
