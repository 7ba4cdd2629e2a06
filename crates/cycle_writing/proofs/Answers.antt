-- The steps of the call, run.
--     put_steps, export_run   the steps of `write_cycles` behind the checks, and all of them, by what stands in the result space before and after
--     all_there, accepted     an accepted pair whose export has room, and the whole call
--     export_means            where nothing is refused, an export stands at the front of the result space
--     enough_room             a result space of 65,536 bytes is enough for every passport
-- Assumes nothing.
use Rattle.std.specs.Prelude.{Ok}
use mathlib.Core.Path.{◌≡◌, refl, sym, ap, subst, ◌∙◌}
use mathlib.Core.List.{List, [], ◌∷◌, ◌++◌}
use Prim.Native.Nat.{ℕ, ◌+◌, ◌≤◌}
use native.Mathlib.Omega.{arith}
use lib.ListN.{length, take, drop}
use lib.Seq.{take_at}
use Rattle.call.specs.Refusal.{◌or_else◌, Checked, Filled}
use Rattle.call.specs.Call.{Step, Asks, Gives, length_check, at_front, verdict, if_accepted, Leaves}
use Rattle.call.specs.Inner.Fills.{Fills, made_if}
use Rattle.call.proofs.Answers.{both_pass, pass_both}
use Rattle.call.proofs.Laws.{Numbered, run_end, run_pass, run_write, room_long, fills_as, ran, above_room, above_among}
use Rattle.permutations.specs.Check.{pair_check, Passport}
use Rattle.permutations.proofs.Accepted.{accepted as passes}
use Rattle.permutations.proofs.Answering.{passport_of}
use Rattle.permutations.proofs.Numbers.{pairs_among}
use Rattle.decimal.specs.Writing.{bytes_placed}
use Rattle.decimal.specs.Writing.{Puts}
use Rattle.cycle_writing.specs.Bytes.{export_of}
use Rattle.cycle_writing.specs.Export.{Exported}
use Rattle.cycle_writing.proofs.Theorem.{exported}

module _ (s r out out' : List ℕ) where
  abbrev pub put_steps : List Step
  put_steps = Asks (length_check (length (export_of s r)) (length out)) ∷ Gives (at_front (export_of s r) out) out out' ∷ []

  abbrev pub export_run : List Step
  export_run = Asks (pair_check s r) ∷ put_steps

  pub numbered : Numbered export_run
  numbered = (above_among 12 15 (pair_check s r) (omega arith) (pairs_among s r), (above_room (length (export_of s r)) (length out), tt))

  pub accepted : pair_check s r ≡ Ok tt → {a : Filled} → Fills put_steps (made_if (length (export_of s r))) a
      → Fills export_run (made_if (length (export_of s r))) a
  accepted e g = fills_as (run_pass (pair_check s r) put_steps e (ran g)) g.answer

  pub export_means : Leaves export_run → verdict export_run ≡ Ok tt → Exported s r (take (length (export_of s r)) out')
  export_means l e =
      let left : out' ≡ at_front (export_of s r) out = l.0 ∙ ap (λ (c : Checked). if_accepted c (at_front (export_of s r) out) out) e in
      let front = ap (take (length (export_of s r))) left ∙ take_at (export_of s r) (drop (length (export_of s r)) out) (length (export_of s r)) refl in
      subst (λ (t : List ℕ). Exported s r t) (sym front)
      (exported s r (passport_of s r (both_pass (pair_check s r) (verdict put_steps) e).0))

module _ (s r out : List ℕ) where
  pub all_there : {e : ℕ} {out' : List ℕ} → Puts (export_of s r) 0 e out out' → length (export_of s r) ≤ length out
      → Fills (put_steps s r out out') (made_if (length (export_of s r))) (Ok e)
  unfolding bytes_placed
  all_there {e} {out'} p h =
      let q : e ≡ length (export_of s r) = omega (arith, p.end_is) in
      let z : 0 + length (export_of s r) ≡ length (export_of s r) = omega arith in
      let l = p.left ∙ ap (λ (k : ℕ). export_of s r ++ drop k out) z in
      fills_as (run_write (export_of s r) out (length (export_of s r)) refl [] out' h l run_end) (ap Ok q)

  pub enough_room : (out' : List ℕ) → Passport s r → 65536 ≤ length out → verdict (export_run s r out out') ≡ Ok tt
  enough_room out' p h =
      let m = (exported s r p).most in
      pass_both (pair_check s r) (verdict (put_steps s r out out')) ((passes s r).1 p)
      (ap (λ (c : Checked). c or_else (Ok tt)) (room_long (length (export_of s r)) (length out) (omega arith)))
