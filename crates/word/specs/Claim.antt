-- THE CLAIM: WHAT A PAIR QUERY ANSWERS, for every symbol, pair, space and start place. It is said of the query's answer
-- r and of the word space out' that the query leaves; the proof is `answered`, in proofs/Claim.antt. A and B are the
-- two matrices, and `word` and `sign` stand for `found_word v t A B` and `found_sign v t A B`, which depend on the
-- symbol, A and B alone. A word that is returned is no refusal, 'none' is refusal 10, and a word that doesn't fit is
-- refusal 11.
--
--   ValidQuery v t a b w    the query gets to its walk: the symbol is accepted, the work space is long enough, whatever
--                           stands in it, the entries of A and B are from -1,000,000 to 1,000,000, and both
--                           determinants are 1
--   SameRightCoset v t m n  some product of the symbol's generators and their inverses, of whatever length, times m is
--                           n up to sign
--   Fits start n room       the start place isn't past the end, and at least n letters lie from there to the end
--   Found word r            a word is found: it is returned, or refused with 11 and its true length, by the word space
--   NormalWord v t m n w    w is the normal form of what takes m to n up to sign (request 2026-12): a word in the
--                           generators and their inverses that does so, reduced, the only reduced word that does so,
--                           and no word that does so is shorter
--   Answered                the claim, in these parts:
--     found                 a word is found exactly when some product of generators and inverses times A is B up to
--                           sign
--     points                and exactly when A and B lead from point 0 to the same point of the coset tables of S and
--                           R: the same right coset
--     letters, product      the word found is such a product, with the letter j for generator j and -j for its inverse
--     normal                IT IS THE ONLY REDUCED WORD for B A⁻¹ up to sign, and no word for it is shorter; so the
--                           length told with 11 is the shortest
--     exact                 WITH ITS SIGN: the word times A is the sign times B, where plus stands for 1 and minus for
--                           -1; an equation of matrices
--     walked                WHERE THE SIGN COMES FROM: the equation of the walk that the query makes. The frame of the
--                           start times the matrix that is followed is the sign times the word times the frame of where
--                           the walk ends, whether it comes home or not
--     signs                 and the equation of each of its steps: the frame times the letter is the step's sign times
--                           what is written times the frame of where the step leads (`Signs`, in the crate signs)
--     none                  otherwise the answer is 10, place 0, and only then: 'none' means that there is no such
--                           product
--     returned, short       the word found is returned exactly when it fits, and else refused with 11 and its true
--                           length
--     names, stands         a word that is returned stands where the answer says, from the start place on, and all else
--                           is as before; the answer tells its sign
--     untouched             any other answer leaves the word space as it was, whatever stood in it
--     bound, sixteen        the word has at most two letters more than the alternating word of B A⁻¹, and each fits 16
--                           signed bits
--   ShortWork w r           the work space is too short, and the query is refused for it
--   Claim                   a word, or 'none', is answered only where the query gets to its walk, and 11 only there or
--                           for the work space; and where it gets there, this is what it answers
--   QuerySays               the same by what the exported call returns, its number n and the place or the word's
--                           length: 10 means that the query got to its walk and there is no such product; 0 that the
--                           letters from the start place on are such a product, its normal form; and 11, where the
--                           query gets to its walk, tells the length of that form
--   scaled z m              the matrix m with every entry multiplied by z
--   SignSays                what the exported call with a sign says of it where it returns 0: it is 1 or -1, and those
--                           letters times A are that times B
--   Tells r number place    number and place are those of the answer r
--   query_call              THE EXPORTED CALL: the steps of a query, the number of letters, and what it says
--   signed_query_call       the same with the sign as one more result
use Rattle.std.specs.Prelude.{Ok, Err}
use Rattle.std.specs.Prelude.{◌≡◌, Bool, ◌⊎◌, ◌↔◌, List, ◌++◌, ℕ, ◌+◌, ◌-◌, ◌≤◌, ◌<◌, length, get_or, ℤ, pos, negsuc}
use Rattle.std.specs.Prelude.{nat_abs, ◌*ℤ◌}
use Rattle.matrix.specs.Matrix.{Mat, mat, ◌⊗◌, adj, det, ◌≈◌, of_list}
use Rattle.matrix.specs.Bounds.{Small}
use Rattle.matrix.specs.Euclid as euclid
use Rattle.call.specs.Refusal.{answer_number, refusal_number, Answer, outcome}
use Rattle.call.specs.declared.refusal.Refusal.TheVariants.{NoWord, TooShort}
use Rattle.call.specs.Space.{work_length}
use Rattle.symbol.specs.Symbol.{IsSymbol}
use Rattle.pairing.specs.Generator.{generators}
use Rattle.pairing.specs.Subgroup.{IsWord, value_of}
use Rattle.coset.specs.Positions.{SameCoset, start_of, followed, walk_ends, with_sign, Signs, FrameEquation, Reduced}
use Rattle.coset.specs.Tables.{table_s, table_r}
use Rattle.right_cosets.specs.Leads.{leads}
use Rattle.call.specs.Call.{Lent, result_in, Contract}
use Rattle.word.specs.Answer.{placed, query_place, found_word, found_sign, query_steps, query_of, part_of, word_at}
use Rattle.word.specs.Answer.{sign_number}
use Rattle.word.specs.declared.FoundWord.{FoundWord}

pub record ValidQuery (v : ℕ) (t a b : List ℤ) (w : List ℕ) : Type 0 where
  pub symbol : IsSymbol v t
  pub work : work_length ≤ length w
  pub entries_A : Small 1000000 (of_list a)
  pub entries_B : Small 1000000 (of_list b)
  pub unit_A : det (of_list a) ≡ pos 1
  pub unit_B : det (of_list b) ≡ pos 1

abbrev pub SameRightCoset : ℕ → List ℤ → Mat → Mat → Type 0
SameRightCoset v t m n = SameCoset (generators v t) m n

pub record Fits (start n room : ℕ) : Type 0 where
  pub inside : start ≤ room
  pub enough : n ≤ room - start

abbrev pub Found : List ℤ → Answer FoundWord → Type 0
Found word r = (outcome r ≡ Ok tt) ⊎ (outcome r ≡ Err (TooShort (length word)))

pub record NormalWord (v : ℕ) (t : List ℤ) (m n : Mat) (w : List ℤ) : Type 0 where
  pub letters : IsWord (length (generators v t)) w
  pub takes : value_of (generators v t) w ⊗ m ≈ n
  pub reduced : Reduced v t w
  pub only : (j : SameRightCoset v t m n) → Reduced v t j.word → j.word ≡ w
  pub shortest : (j : SameRightCoset v t m n) → length w ≤ length j.word

pub record Answered (v : ℕ) (t : List ℤ) (A B : Mat) (word : List ℤ) (sign : Bool) (out : List ℤ) (start : ℕ)
    (r : Answer FoundWord) (out' : List ℤ) : Type 0 where
  pub found : Found word r ↔ SameRightCoset v t A B
  pub points : Found word r ↔ (leads (table_s v t) (table_r v t) A ≡ leads (table_s v t) (table_r v t) B)
  pub letters : Found word r → IsWord (length (generators v t)) word
  pub product : Found word r → value_of (generators v t) word ⊗ A ≈ B
  pub normal : Found word r → NormalWord v t A B word
  pub exact : Found word r → value_of (generators v t) word ⊗ A ≡ with_sign sign B
  pub walked : FrameEquation v t (start_of v t) (followed v t (B ⊗ adj A)) sign word (walk_ends v t (B ⊗ adj A))
  pub signs : Signs v t
  pub none : (outcome r ≡ Err NoWord) ↔ (SameRightCoset v t A B → ⊥)
  pub returned : (outcome r ≡ Ok tt) ↔ (SameRightCoset v t A B × Fits start (length word) (length out))
  pub short : (outcome r ≡ Err (TooShort (length word)))
      ↔ (SameRightCoset v t A B × (Fits start (length word) (length out) → ⊥))
  pub names : outcome r ≡ Ok tt → r ≡ Ok (word_at start (length word) sign)
  pub stands : outcome r ≡ Ok tt → (out' ≡ placed start word out) × (part_of out' start (length word) ≡ word)
  pub untouched : (outcome r ≡ Ok tt → ⊥) → out' ≡ out
  pub bound : length word ≤ length (euclid.word_of (B ⊗ adj A)) + 2
  pub sixteen : (i : ℕ) → i < length word → nat_abs (get_or word i (pos 0)) ≤ 1024

abbrev pub ShortWork : List ℕ → Answer FoundWord → Type 0
ShortWork w r = (length w < work_length) × (outcome r ≡ Err (TooShort work_length))

pub record Claim (v : ℕ) (t a b : List ℤ) (w : List ℕ) (out : List ℤ) (start : ℕ) (r : Answer FoundWord)
    (out' : List ℤ) : Type 0 where
  pub asked : (answer_number r ≡ 0) ⊎ (answer_number r ≡ refusal_number NoWord) → ValidQuery v t a b w
  pub short : (n : ℕ) → answer_number r ≡ refusal_number (TooShort n) → ValidQuery v t a b w ⊎ ShortWork w r
  pub answered : ValidQuery v t a b w
      → Answered v t (of_list a) (of_list b) (found_word v t (of_list a) (of_list b))
      (found_sign v t (of_list a) (of_list b)) out start r out'

pub record QuerySays (v : ℕ) (t a b : List ℤ) (w : List ℕ) (start n place : ℕ) (out' : List ℤ) : Type 0 where
  pub none : n ≡ refusal_number NoWord → ValidQuery v t a b w × (SameRightCoset v t (of_list a) (of_list b) → ⊥)
  pub asked : n ≡ 0 → ValidQuery v t a b w
  pub letters : n ≡ 0 → IsWord (length (generators v t)) (part_of out' start place)
  pub product : n ≡ 0 → value_of (generators v t) (part_of out' start place) ⊗ of_list a ≈ of_list b
  pub normal : n ≡ 0 → NormalWord v t (of_list a) (of_list b) (part_of out' start place)
  pub short : n ≡ refusal_number (TooShort 0) → ValidQuery v t a b w
      → (length (found_word v t (of_list a) (of_list b)) ≡ place)
      × NormalWord v t (of_list a) (of_list b) (found_word v t (of_list a) (of_list b))

abbrev pub scaled : ℤ → Mat → Mat
scaled z m = mat (z *ℤ m.a) (z *ℤ m.b) (z *ℤ m.c) (z *ℤ m.d)

pub record SignSays (v : ℕ) (t a b : List ℤ) (start n place : ℕ) (sign : ℤ) (out' : List ℤ) : Type 0 where
  pub unit : n ≡ 0 → (sign ≡ pos 1) ⊎ (sign ≡ negsuc 0)
  pub exact : n ≡ 0 → value_of (generators v t) (part_of out' start place) ⊗ of_list a ≡ scaled sign (of_list b)

-- ---- the calls

abbrev pub Tells : Answer FoundWord → (number place : ℕ) → Type 0
Tells r number place = (number ≡ answer_number r) × (place ≡ query_place r)

abbrev pub query_call : (v : ℕ) (t a b : List ℤ) → Lent (List ℕ) → Lent (List ℤ) → (start : ℕ) → Contract
query_call v t a b w out start = record {
  steps = query_steps v t a b w out start;
  count = length (found_word v t (of_list a) (of_list b));
  Says = λ number place.
      let r = query_of v t a b (length w.entry.now) (length out.entry.now) start in
      Tells r number place × Claim v t a b w.entry.now out.entry.now start r out.exit.now
      × QuerySays v t a b w.entry.now start number place out.exit.now;
}

abbrev pub signed_query_call : (v : ℕ) (t a b : List ℤ) → Lent (List ℕ) → Lent (List ℤ) → (start : ℕ) → Lent ℤ
    → Contract
signed_query_call v t a b w out start sign = record {
  steps = query_steps v t a b w out start ++ result_in (sign_number (found_sign v t (of_list a) (of_list b))) sign;
  count = length (found_word v t (of_list a) (of_list b));
  Says = λ number place.
      (query_call v t a b w out start).Says number place
      × SignSays v t a b start number place sign.exit.now out.exit.now;
}
