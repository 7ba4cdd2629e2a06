-- WHAT AN ANSWER TELLS OF THE STEPS: a caller that looks at the answer of a function knows their verdict.
--
--   run_told                the run, where the answer tells the verdict
--   run-made, run-refused   the answers of calls that fill spaces: something was made, or a refusal
--   made_count              as many things as the call counts
-- Assumes nothing.
use Rattle.std.specs.Prelude.{Ok, Err}
use mathlib.Core.Path.{◌≡◌, refl, sym, subst, ◌∙◌}
use mathlib.Core.List.{List}
use Prim.Native.Nat.{ℕ}
use Rattle.call.specs.declared.refusal.Refusal.{Refusal}
use Rattle.call.specs.Refusal.{Checked, Filled}
use Rattle.call.proofs.Apart.{refused_made}
use Rattle.call.specs.Call.{Step, verdict, LeavesFrom}
use Rattle.call.specs.Inner.Fills.{Fills, made_if}
use Rattle.call.proofs.Laws.{Run}

pub run_told : {A : Type 0} {by : Checked → A} {a : A} {steps : List Step} (d : Checked) → Fills steps by a → ((c : Checked) → a ≡ by c → c ≡ d) → Run steps d
run_told {by} {a} {steps} d g h =
    let e = h (verdict steps) g.answer in
    record { is = e; leaves = subst (λ (c : Checked). LeavesFrom (Ok tt) c steps) e g.leaves }

module _ (n : ℕ) {a : Filled} where
  accepted_by_made : (k : ℕ) → a ≡ Ok k → (c : Checked) → a ≡ made_if n c → c ≡ Ok tt
  accepted_by_made k e (Ok tt) h = refl
  accepted_by_made k e (Err f) h = refused_made (sym h ∙ e)

  refused_by_refused : (f : Refusal) → a ≡ Err f → (c : Checked) → a ≡ made_if n c → c ≡ Err f
  refused_by_refused f e (Ok tt) h = refused_made (sym e ∙ h)
  refused_by_refused f e (Err g) h = cc

  counted : (k : ℕ) → a ≡ Ok k → (c : Checked) → a ≡ made_if n c → k ≡ n
  counted k e (Ok tt) h = cc
  counted k e (Err f) h = refused_made (sym h ∙ e)

module _ {n : ℕ} {a : Filled} {steps : List Step} (g : Fills steps (made_if n) a) where
  pub run_made : (k : ℕ) → a ≡ Ok k → Run steps (Ok tt)
  run_made k e = run_told (Ok tt) g (accepted_by_made n k e)

  pub run_refused : (f : Refusal) → a ≡ Err f → Run steps (Err f)
  run_refused f e = run_told (Err f) g (refused_by_refused n f e)

  pub made_count : (k : ℕ) → a ≡ Ok k → k ≡ n
  made_count k e = counted n k e (verdict steps) g.answer
