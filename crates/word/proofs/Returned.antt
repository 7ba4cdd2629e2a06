-- What an answer with a word says: it names the word that the walk writes, from the start place on, and the word fits.
--
-- In order: an answer that is a word comes from a verdict without refusal (`named_by`); the law (`names_word`); the part that the answer names is the
-- word (`part_found`), which is no longer than the space (`word_most`).
-- Assumes nothing.
use Rattle.std.specs.Prelude.{Ok, Err}
use mathlib.Core.Path.{◌≡◌, refl, ◌∙◌, ap}
use mathlib.Core.Bool.{Bool, true, not}
use mathlib.Core.List.{List}
use Prim.Native.Nat.{ℕ, ◌-◌, ◌≤◌}
use native.Mathlib.Omega.{arith}
use lib.Dec.{leb}
use lib.ListN.{length}
use lib.IntN.{ℤ}
use borrow.Author.Tests.{leb-true, not-false}
use Rattle.matrix.specs.Matrix.{of_list}
use Rattle.call.specs.Space.{work_length}
use Rattle.basics.proofs.Choice.{and_left, and_right}
use Rattle.call.specs.Refusal.{◌or_else◌, Checked, Answer}
use Rattle.call.specs.declared.refusal.Refusal.TheVariants.{NoWord, TooShort}
use Rattle.call.proofs.Answers.{both_pass}
use Rattle.call.specs.Call.{length_check}
use Rattle.symbol.specs.Check.{refuse, symbol_check}
use Rattle.symbol.proofs.Accepted.{passes}
use Rattle.word.specs.Answer.{placed, matrices_check, closes, found_word, found_sign, word_fits, word_if, query_of, part_of, word_at, query_place}
use Rattle.word.specs.declared.FoundWord.{FoundWord}
use Rattle.word.proofs.Claim.{part_placed}

abbrev start_in : Answer FoundWord → ℕ
start_in (Ok u) = u.start
start_in (Err f) = 0

module _ (s n : ℕ) (sign : Bool) where
  abbrev Is : Answer FoundWord → Type 0
  Is r = Ok (word_at s n sign) ≡ r

  record Named (k : ℕ) (q : Bool) (start : ℕ) (c : Checked) : Type 0 where
    pub place_is : s ≡ start
    pub length_is : n ≡ k
    pub passed : c ≡ Ok tt

  named_by : (k : ℕ) (q : Bool) (start : ℕ) (c : Checked) → Is (word_if start k q c) → Named k q start c
  named_by k q start (Ok tt) e = record { place_is = ap start_in e; length_is = ap query_place e; passed = refl }
  named_by k q start (Err f) e = let z : ◌≡◌ {A = ℕ} 0 1 = cc in absurd (omega arith)

  module _ (v : ℕ) (t a b : List ℤ) (work start : ℕ) (out : List ℤ) (e : Is (query_of v t a b work (length out) start)) where
    abbrev word : List ℤ
    word = found_word v t (of_list a) (of_list b)

    abbrev none : Checked
    none = refuse (not (closes v t (of_list a) (of_list b))) NoWord

    abbrev space : Checked
    space = refuse (not (word_fits start (length word) (length out))) (TooShort (length word))

    abbrev all : Checked
    all = symbol_check v t or_else matrices_check a b or_else length_check work_length work or_else none or_else space or_else (Ok tt)

    names_word : Named (length word) (found_sign v t (of_list a) (of_list b)) start all
    names_word = named_by (length word) (found_sign v t (of_list a) (of_list b)) start all e

    fitting : word_fits start (length word) (length out) ≡ true
    fitting =
        let p = both_pass (symbol_check v t) (matrices_check a b or_else length_check work_length work or_else none or_else space or_else (Ok tt))
        names_word.passed in
        let q = both_pass (matrices_check a b) (length_check work_length work or_else none or_else space or_else (Ok tt)) p.1 in
        let r = both_pass (length_check work_length work) (none or_else space or_else (Ok tt)) q.1 in
        let k = both_pass none (space or_else (Ok tt)) r.1 in
        let l = both_pass space (Ok tt) k.1 in
        not-false (word_fits start (length word) (length out)) (passes (not (word_fits start (length word) (length out))) (TooShort (length word)) l.0)

    pub part_found : part_of (placed s word out) s n ≡ word
    part_found =
        let h = names_word in
        let in_it = leb-true start (length out) (and_left (leb start (length out)) (leb (length word) (length out - start)) fitting) in
        let enough = leb-true (length word) (length out - start) (and_right (leb start (length out)) (leb (length word) (length out - start)) fitting) in
        ap (λ (k : ℕ). part_of (placed k word out) k n) h.place_is
        ∙ ap (λ (k : ℕ). part_of (placed start word out) start k) h.length_is
        ∙ part_placed start word out in_it enough

    pub word_most : length word ≤ length out
    word_most = omega (
      arith,
      leb-true (length word) (length out - start)
          (and_right (leb start (length out)) (leb (length word) (length out - start)) fitting),
    )
