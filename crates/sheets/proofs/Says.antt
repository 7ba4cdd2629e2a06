-- What a line of a sheet says, in the table and the word space that the sheet leaves: `line_says`. First for one query whose word, if it is one, stands in
-- a word space out₁ that may have changed since (`word_query`, `word_sign_lem`, `refused_query`). Assumes nothing.
use Rattle.std.specs.Prelude.{Ok, Err}
use mathlib.Core.Path.{◌≡◌, refl, sym, ap, subst, ◌∙◌}
use mathlib.Core.Logic.{inl, inr}
use mathlib.Core.Bool.{Bool}
use mathlib.Core.List.{List, ◌++◌}
use Prim.Native.Nat.{ℕ, ◌<◌}
use native.Mathlib.Omega.{arith}
use lib.Dec.{eqb}
use lib.ListN.{length}
use lib.IntN.{ℤ, pos}
use borrow.Author.Tests.{ne_eqb}
use Rattle.basics.proofs.Choice.{pick_false}
use Rattle.matrix.specs.Matrix.{of_list, ◌⊗◌, ◌≈◌}
use Rattle.coset.specs.Positions.{with_sign}
use Rattle.pairing.specs.Generator.{generators}
use Rattle.pairing.specs.Subgroup.{IsWord, value_of}
use Rattle.call.specs.Refusal.{refusal_number, Answer, Checked, outcome, refusal_place, answer_place}
use Rattle.call.specs.declared.refusal.Refusal.TheVariants.{TooShort}
use Rattle.call.specs.declared.refusal.Refusal.{Refusal}
use Rattle.word.specs.Answer.{found_word, found_sign, sign_number, part_of, word_at}
use Rattle.word.specs.Claim.{ValidQuery, NormalWord, Answered, Claim, QuerySays, SignSays}
use Rattle.word.specs.declared.FoundWord.{FoundWord}
use Rattle.word.proofs.Claim.{outcome_number}
use Rattle.sheets.specs.Sheet.{space_at, answer_at, line_of, lines_to}
use Rattle.sheets.specs.Meaning.{place_in, LineSays}
use Rattle.sheets.proofs.Said.{unit_of, with_scaled, ten_none, eleven, never_zero}
use Rattle.sheets.proofs.Spaces.{line_means}
use Rattle.sheets.proofs.Lines.{line_there}

module _ {v : ℕ} {t a b : List ℤ} {w : List ℕ} {out : List ℤ} {start : ℕ} {r : Answer FoundWord} {out' : List ℤ} (c : Claim v t a b w out start r out') (out₁ : List ℤ)
    (stands : (s n : ℕ) (sign : Bool) → r ≡ Ok (word_at s n sign) → part_of out₁ s n ≡ found_word v t (of_list a) (of_list b)) where
  abbrev word : List ℤ
  word = found_word v t (of_list a) (of_list b)

  module _ (s n : ℕ) (sign : Bool) (e : r ≡ Ok (word_at s n sign)) where
    none_refused : outcome r ≡ Ok tt
    none_refused = ap outcome e

    asked : ValidQuery v t a b w
    asked = c.asked (inl (outcome_number r none_refused))

    answered : Answered v t (of_list a) (of_list b) word (found_sign v t (of_list a) (of_list b)) out start r out'
    answered = c.answered asked

    there : word ≡ part_of out₁ s n
    there = sym (stands s n sign e)

    pub word_query : QuerySays v t a b w s 0 n out₁
    word_query = record {
      none = λ z. absurd (omega (arith, z));
      asked = λ z. asked;
      letters = λ z. subst (IsWord (length (generators v t))) there (answered.letters (inl none_refused));
      product = λ z. subst (λ (x : List ℤ). value_of (generators v t) x ⊗ of_list a ≈ of_list b) there (answered.product (inl none_refused));
      normal = λ z. subst (NormalWord v t (of_list a) (of_list b)) there (answered.normal (inl none_refused));
      short = λ z q. absurd (omega (arith, z));
    }

    same_sign : found_sign v t (of_list a) (of_list b) ≡ sign
    same_sign =
        let both = sym (answered.names none_refused) ∙ e in
        let u : word_at start (length word) (found_sign v t (of_list a) (of_list b)) ≡ word_at s n sign = cc in
        ap (λ (x : FoundWord). x.plus) u

    pub word_sign_lem : SignSays v t a b s 0 n (sign_number sign) out₁
    word_sign_lem = record {
      unit = λ z. unit_of sign refl;
      exact = λ z.
          subst (λ (x : List ℤ). value_of (generators v t) x ⊗ of_list a ≡ with_sign (found_sign v t (of_list a) (of_list b)) (of_list b)) there
          (answered.exact (inl none_refused))
          ∙ ap (λ (x : Bool). with_sign x (of_list b)) same_sign
          ∙ with_scaled sign (of_list b);
    }

  module _ (f : Refusal) (e : r ≡ Err f) where
    is_f : outcome r ≡ Err f
    is_f = ap outcome e

    never : refusal_number f ≡ 0 → ⊥
    never = never_zero r f c e

    place_is : (s : ℕ) → place_in (refusal_number f) (refusal_place f) s ≡ refusal_place f
    place_is s = pick_false (eqb (refusal_number f) 0) s (refusal_place f) (ne_eqb (refusal_number f) 0 never)

    told : (s : ℕ) → refusal_number f ≡ refusal_number (TooShort 0) → ValidQuery v t a b w → (length word ≡ place_in (refusal_number f) (refusal_place f) s)
        × NormalWord v t (of_list a) (of_list b) word
    told s z q =
        let y = eleven (c.answered q) (outcome_number r is_f ∙ z) in
        let at : refusal_place f ≡ length word = ap (λ (x : Checked). answer_place x) (sym is_f ∙ y) in
        (sym (place_is s ∙ at), (c.answered q).normal (inr y))

    pub refused_query : (s n : ℕ) → QuerySays v t a b w s (refusal_number f) (place_in (refusal_number f) (refusal_place f) n) out₁
    refused_query s n = record {
      none = λ z. (let k = outcome_number r is_f ∙ z in let q = c.asked (inr k) in (q, ten_none (c.answered q) k));
      asked = λ z. absurd (never z);
      letters = λ z. absurd (never z);
      product = λ z. absurd (never z);
      normal = λ z. absurd (never z);
      short = told n;
    }

    pub refused_sign : (s n : ℕ) (x : ℤ) → SignSays v t a b s (refusal_number f) n x out₁
    refused_sign s n x = record { unit = λ z. absurd (never z); exact = λ z. absurd (never z) }

-- ---- the line of the pair i

module _ (v : ℕ) (t p : List ℤ) (w : List ℕ) (out : List ℤ) (n : ℕ) (rest : List ℤ) (i : ℕ) (h : i < n) where
  abbrev table : List ℤ
  table = lines_to v t p (length w) out n ++ rest

  abbrev letters : List ℤ
  letters = (space_at v t p (length w) out n).letters

  says_by : (x : Answer FoundWord) → answer_at v t p (length w) out i ≡ x → LineSays v t p w table letters i
  says_by (Ok u) e =
      let m = line_means v t p w out n i h in
      record {
        number = 0;
        second = u.start;
        third = u.letters;
        sign = sign_number u.plus;
        line = line_there v t p (length w) out n i rest h ∙ ap line_of e;
        query = word_query m.claim letters m.stands u.start u.letters u.plus e;
        signed = word_sign_lem m.claim letters m.stands u.start u.letters u.plus e;
      }
  says_by (Err f) e =
      let m = line_means v t p w out n i h in
      record {
        number = refusal_number f;
        second = refusal_place f;
        third = 0;
        sign = pos 0;
        line = line_there v t p (length w) out n i rest h ∙ ap line_of e;
        query = refused_query m.claim letters m.stands f e (refusal_place f) 0;
        signed = refused_sign m.claim letters m.stands f e (refusal_place f) 0 (pos 0);
      }

  pub line_says : LineSays v t p w table letters i
  line_says = says_by (answer_at v t p (length w) out i) refl
