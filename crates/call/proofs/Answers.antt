-- Checks one after another: both pass (`both_pass`, `pass_both`), the first refuses (`first_refuses`), or it passes and the next one counts
-- (`then_next`). Assumes nothing.
use Rattle.std.specs.Prelude.{Ok, Err}
use mathlib.Core.Path.{◌≡◌, refl, sym, ap, ◌∙◌}
use Rattle.call.specs.Refusal.{◌or_else◌, Checked}
use Rattle.call.specs.declared.refusal.Refusal.{Refusal}
use Rattle.call.proofs.Apart.{refused_accepted}

pub both_pass : (c d : Checked) → (c or_else d) ≡ Ok tt → (c ≡ Ok tt) × (d ≡ Ok tt)
both_pass (Ok tt) d e = (refl, e)
both_pass (Err f) d e = refused_accepted e

pub pass_both : (c d : Checked) → c ≡ Ok tt → d ≡ Ok tt → (c or_else d) ≡ Ok tt
pass_both c d p q = ap (λ (x : Checked). x or_else d) p ∙ q

pub first_refuses : (c d : Checked) (f : Refusal) → c ≡ Err f → Err f ≡ (c or_else d)
first_refuses c d f e = sym (ap (λ (x : Checked). x or_else d) e)

pub then_next : (c d : Checked) → c ≡ Ok tt → d ≡ (c or_else d)
then_next c d e = sym (ap (λ (x : Checked). x or_else d) e)
