-- THE ANSWER TO A NAME, from that of the job that it finds (`by_job`): no other job has this name. Where it finds none, nothing is done (`by_none`).
-- Assumes nothing.
use mathlib.Core.Path.{◌≡◌, subst}
use mathlib.Core.List.{List}
use Prim.Native.Nat.{ℕ}
use native.Mathlib.Omega.{arith}
use Rattle.text.specs.Input.{AnswersInput}
use Rattle.text.specs.declared.input.Input.{Input}
use Rattle.text.proofs.InputText.{answer_within}
use Rattle.farey.specs.Jobs.{FindsJob, bytes_of, MeansOf, AnswersName}
use Rattle.farey.specs.declared.Job.{Job}
use Rattle.std.specs.Prelude.{Option, None, Some}
use Rattle.farey.proofs.Names.{one_job}

found_as : (name : List ℕ) (f g : Option Job) → FindsJob name f → f ≡ g → FindsJob name g
found_as name f g finds h = subst (FindsJob name) h finds

pub by_job : (name : List ℕ) {buffer : List ℕ} {e : ℕ} {out out' : List ℕ} {input : Input} (f : Option Job) → FindsJob name f → (k : Job) → f ≡ Some k
    → AnswersInput (bytes_of k) (MeansOf k) buffer e out out' input → AnswersName name buffer e out out' input
by_job name {buffer} {e} {out} {out'} {input} f finds k h a = record {
  job = λ j is.
      let same = one j (one_job name (Some k) (Some j) is_found is) in
      subst (λ (i : Job). AnswersInput (bytes_of i) (MeansOf i) buffer e out out' input) same a;
  no_job = λ none. absurd (none k is_found);
  inside = answer_within a;
}
  where
    is_found : FindsJob name (Some k)
    is_found = found_as name f (Some k) finds h

    one : (j : Job) → Some k ≡ Some j → k ≡ j
    one j q = cc

pub by_none : (name : List ℕ) {buffer : List ℕ} {e : ℕ} {out out' : List ℕ} {input : Input} (f : Option Job) → FindsJob name f → f ≡ None
    → e ≡ 0 → out' ≡ out → AnswersName name buffer e out out' input
by_none name f finds h z same =
    let none = found_as name f None finds h in
    record { job = λ j is. absurd (none j is); no_job = λ n. (z, same); inside = omega (arith, z) }
