-- WHAT THE ANSWERS FOR ONE MATRIX MEAN, for every symbol, matrix, space and start place. M is the matrix, H the group
-- that the symbol's generators generate.
--
--   ValidMatrix v t m w     the call gets to its walk: the symbol is accepted, the work space is long enough, the
--                           entries of M are from -10¹⁸ to 10¹⁸, and its determinant is 1
--   MatrixClaim             said of the answer r and of the word space out' that the call leaves: a word, or 'none', is
--                           answered only where the call gets to its walk, and 11 only there or for the work space; and
--                           where it gets there, it is the answer of the pair query from the identity to M (`Answered`)
--   MatrixSays              the same by what the exported call returns, its number n and the place or the word's
--                           length:
--     none                  10 means that M isn't in H: no word of any length has the value M up to sign
--     asked, product        0 that the letters from the start place on have the value M up to sign
--     normal                and are the only reduced word that has, and no word that has is shorter
--     short                 11, where the call gets to its walk, that M is in H, and the place is the length of that
--                           word, in full
--   MatrixSignSays          what the call with a sign says of it where it returns 0: it is 1 or -1, and the value of
--                           those letters is that times M
--   MemberMeans v t m w r   what the decision r means: yes exactly where the call gets to its walk and M is in H, no
--                           exactly where it does and M isn't; and yes exactly where M leads from point 0 of the coset
--                           tables back to it
--   MemberSays              the same by what the exported call returns
--   matrix_word_call, signed_matrix_word_call, member_call  THE EXPORTED CALLS
use Rattle.std.specs.Prelude.{◌≡◌, ◌⊎◌, ◌↔◌, List, ◌++◌, ℕ, ◌≤◌, length, ℤ, pos, negsuc, Ok, true, false}
use Rattle.matrix.specs.Matrix.{det, ◌≈◌, of_list}
use Rattle.matrix.specs.Bounds.{Small}
use Rattle.call.specs.Refusal.{answer_number, refusal_number, Decision, Answer}
use Rattle.call.specs.declared.refusal.Refusal.TheVariants.{NoWord, TooShort}
use Rattle.call.specs.Space.{work_length}
use Rattle.call.specs.Call.{Lent, result_in, bit, Contract}
use Rattle.call.specs.Inner.Fills.{decision_place}
use Rattle.symbol.specs.Symbol.{IsSymbol}
use Rattle.pairing.specs.Generator.{generators}
use Rattle.pairing.specs.Subgroup.{value_of, InH}
use Rattle.coset.specs.Positions.{NormalForm}
use Rattle.coset.specs.Tables.{table_s, table_r}
use Rattle.right_cosets.specs.Leads.{leads}
use Rattle.word.specs.Answer.{part_of, sign_number}
use Rattle.word.specs.Claim.{Answered, ShortWork, Tells, scaled}
use Rattle.word.specs.declared.FoundWord.{FoundWord}
use Rattle.matrix_word.specs.Answer.{most_entry, identity_rows, is_member, member_word, member_sign}
use Rattle.matrix_word.specs.Answer.{member_steps, member_of, matrix_word_steps, matrix_word_of}

pub record ValidMatrix (v : ℕ) (t m : List ℤ) (w : List ℕ) : Type 0 where
  pub symbol : IsSymbol v t
  pub work : work_length ≤ length w
  pub entries : Small most_entry (of_list m)
  pub unit : det (of_list m) ≡ pos 1

-- ---- a word

pub record MatrixClaim (v : ℕ) (t m : List ℤ) (w : List ℕ) (out : List ℤ) (start : ℕ) (r : Answer FoundWord)
    (out' : List ℤ) : Type 0 where
  pub asked : (answer_number r ≡ 0) ⊎ (answer_number r ≡ refusal_number NoWord) → ValidMatrix v t m w
  pub short : (n : ℕ) → answer_number r ≡ refusal_number (TooShort n) → ValidMatrix v t m w ⊎ ShortWork w r
  pub answered : ValidMatrix v t m w
      → Answered v t (of_list identity_rows) (of_list m) (member_word v t m) (member_sign v t m) out start r out'

pub record MatrixSays (v : ℕ) (t m : List ℤ) (w : List ℕ) (start n place : ℕ) (out' : List ℤ) : Type 0 where
  pub none : n ≡ refusal_number NoWord → ValidMatrix v t m w × (InH (generators v t) (of_list m) → ⊥)
  pub asked : n ≡ 0 → ValidMatrix v t m w
  pub product : n ≡ 0 → value_of (generators v t) (part_of out' start place) ≈ of_list m
  pub normal : n ≡ 0 → NormalForm v t (of_list m) (part_of out' start place)
  pub short : n ≡ refusal_number (TooShort 0) → ValidMatrix v t m w
      → InH (generators v t) (of_list m) × (place ≡ length (member_word v t m))
      × NormalForm v t (of_list m) (member_word v t m)

pub record MatrixSignSays (v : ℕ) (t m : List ℤ) (start n place : ℕ) (sign : ℤ) (out' : List ℤ) : Type 0 where
  pub unit : n ≡ 0 → (sign ≡ pos 1) ⊎ (sign ≡ negsuc 0)
  pub exact : n ≡ 0 → value_of (generators v t) (part_of out' start place) ≡ scaled sign (of_list m)

-- ---- yes or no

pub record MemberMeans (v : ℕ) (t m : List ℤ) (w : List ℕ) (r : Decision) : Type 0 where
  pub yes : (r ≡ Ok true) ↔ (ValidMatrix v t m w × InH (generators v t) (of_list m))
  pub no : (r ≡ Ok false) ↔ (ValidMatrix v t m w × (InH (generators v t) (of_list m) → ⊥))
  pub points : ValidMatrix v t m w → (r ≡ Ok true) ↔ (leads (table_s v t) (table_r v t) (of_list m) ≡ 0)

pub record MemberSays (v : ℕ) (t m : List ℤ) (w : List ℕ) (n place : ℕ) : Type 0 where
  pub asked : n ≡ 0 → ValidMatrix v t m w
  pub yes : n ≡ 0 → (place ≡ 1) ↔ InH (generators v t) (of_list m)
  pub no : n ≡ 0 → (place ≡ 0) ↔ (InH (generators v t) (of_list m) → ⊥)

-- ---- the calls

abbrev pub matrix_word_call : (v : ℕ) (t m : List ℤ) → Lent (List ℕ) → Lent (List ℤ) → (start : ℕ) → Contract
matrix_word_call v t m w out start = record {
  steps = matrix_word_steps v t m w out start;
  count = length (member_word v t m);
  Says = λ number place.
      let r = matrix_word_of v t m (length w.entry.now) (length out.entry.now) start in
      Tells r number place × MatrixClaim v t m w.entry.now out.entry.now start r out.exit.now
      × MatrixSays v t m w.entry.now start number place out.exit.now;
}

abbrev pub signed_matrix_word_call : (v : ℕ) (t m : List ℤ) → Lent (List ℕ) → Lent (List ℤ) → (start : ℕ) → Lent ℤ
    → Contract
signed_matrix_word_call v t m w out start sign = record {
  steps = matrix_word_steps v t m w out start ++ result_in (sign_number (member_sign v t m)) sign;
  count = length (member_word v t m);
  Says = λ number place.
      (matrix_word_call v t m w out start).Says number place
      × MatrixSignSays v t m start number place sign.exit.now out.exit.now;
}

abbrev pub member_call : (v : ℕ) (t m : List ℤ) → Lent (List ℕ) → Contract
member_call v t m w = record {
  steps = member_steps v t m w;
  count = bit (is_member v t m);
  Says = λ number place.
      let r = member_of v t m (length w.entry.now) in
      (number ≡ answer_number r) × (place ≡ decision_place r) × MemberMeans v t m w.entry.now r
      × MemberSays v t m w.entry.now number place;
}
