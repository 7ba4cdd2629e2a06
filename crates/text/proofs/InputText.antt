-- An answer to an input, by what was read, and the end of an input's text.
--     puts_prints            bytes put at the front of a slice that keeps its length are printed
--     prints_as              the same bytes in other words
--     when-read, when-failed    the two cases of `AnswersInput`
--     answer_within          an answer ends within the slice
--     ends_at, ends-all      the two cases of `TextEnds`
-- Assumes nothing.
use Prim.Native.Nat.{ℕ, ◌≤◌}
use native.Mathlib.Omega.{arith}
use mathlib.Core.Path.{◌≡◌, refl, sym, subst, ap, ◌∙◌}
use mathlib.Core.Bool.{Bool}
use mathlib.Core.List.{List, ◌++◌}
use lib.ListN.{length, take, drop}
use lib.Seq.{length-take-le, take_all}
use Rattle.text.specs.Inner.TextEnds.{TextEnds}
use Rattle.decimal.specs.Writing.{bytes_placed, Puts}
use Rattle.text.specs.Input.{Prints, AnswersInput, was_read, not_read}
use Rattle.text.specs.declared.input.Input.{Input}
use Rattle.text.specs.declared.input.Input.TheVariants as input
use Rattle.decimal.proofs.Placing.{puts_within}

pub puts_prints : {bytes : List ℕ} {e : ℕ} {out out' : List ℕ} → Puts bytes 0 e out out' → length out' ≡ length out → Prints bytes e out out'
unfolding bytes_placed
puts_prints {bytes} {e} {out} {out'} p l = record {
  end_is = omega (arith, p.end_is);
  inside = omega (arith, puts_within p (omega arith) l, l);
  left = p.left ∙ ap (λ (n : ℕ). bytes ++ drop n out) (sym p.end_is);
}

pub prints_as : {a b : List ℕ} {e : ℕ} {out out' : List ℕ} → a ≡ b → Prints a e out out' → Prints b e out out'
prints_as {a} {b} {e} {out} {out'} h f = rw (← h) f

module _ {bytes_of : Bool → List ℕ → List ℕ} {Means : Bool → List ℕ → List ℕ → Type 0} {buffer : List ℕ} {e : ℕ} {out out' : List ℕ} where
  pub when_read : {i : Input} {n end : ℕ} {longer : Bool} → i ≡ input.Read n longer → TextEnds n buffer end
      → Prints (bytes_of longer (take end buffer)) e out out'
      → ((t : List ℕ) → Means longer t (bytes_of longer t)) → AnswersInput bytes_of Means buffer e out out' i
  when_read {i} {n} {end} {longer} told t p means =
      rw told (was_read n longer (subst (λ (x : List ℕ). Prints (bytes_of longer x) e out out') t.same p) (means (take n buffer)))

  pub when_failed : {i : Input} → i ≡ input.Failed → e ≡ 0 → out' ≡ out → AnswersInput bytes_of Means buffer e out out' i
  when_failed told n l = rw told (not_read n l)

  pub answer_within : {i : Input} → AnswersInput bytes_of Means buffer e out out' i → e ≤ length out'
  answer_within (was_read n longer p means) = p.inside
  answer_within (not_read n l) = omega arith

pub ends_at : (n : ℕ) (buffer : List ℕ) → n ≤ length buffer → TextEnds n buffer n
ends_at n buffer h = record { inside = h; long = sym (length-take-le n buffer h); same = refl }

pub ends_all : (n : ℕ) (buffer : List ℕ) → length buffer ≤ n → TextEnds n buffer (length buffer)
ends_all n buffer h = record {
  inside = omega arith;
  long = sym (length-take-le (length buffer) buffer (omega arith));
  same = take_all (length buffer) buffer (omega arith) ∙ sym (take_all n buffer h);
}
