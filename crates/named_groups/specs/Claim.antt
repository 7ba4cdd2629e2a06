-- WHAT A QUERY ON A GROUP WITH A NAME SAYS, for every family, N, pair, space and start place, under the rule and under
-- the wide rule. It rests on the claim of the pair query (word/specs/Claim.antt).
--
--   ValidNamedQuery k n a b w    the query gets past all that comes before 16: 20 and 21, 8 and 9, and the work space
--   NamedAnswered            where the rule gives a symbol, the claim of a pair query on that symbol; and a word is
--                            found exactly when B A⁻¹ meets the condition of the group, and otherwise the answer is 10
--   RuleMakes order k n      the rule gives a symbol of the group
--   NamedClaim               a word, or 'none', is answered only where the query gets past those checks and the rule
--                            gives a symbol, and 11 only there or for the work space; and there this is what it
--                            answers. Where the rule gives none, the answer is 16
--   NamedQuerySays           by what the exported call returns, its number and the place or the word's length: 10 means
--                            that the query got past its checks and B A⁻¹ doesn't meet the condition; 0 that it does,
--                            and that the letters from the start place on are a product that takes A to B, its normal
--                            form; and 11, where the query gets past its checks and the rule gives a symbol, tells the
--                            length of that form
--   NamedSignSays            what the exported call with a sign says of it where it returns 0: it is 1 or -1, and those
--                            letters times A are that times B
--   named_query_call         THE EXPORTED CALLS, by the rule and by the wide rule: the steps of a query, the number of
--                            letters, and what it says
--   named_signed_query_call  the same with the sign as one more result
use Rattle.std.specs.Prelude.{◌≡◌, ◌⊎◌, ◌↔◌, List, ◌++◌, ℕ, ◌≤◌, length, ℤ, Err}
use Rattle.matrix.specs.Matrix.{Mat, ◌⊗◌, adj, ◌≈◌, of_list}
use Rattle.matrix.specs.Bounds.{Small}
use Rattle.call.specs.Refusal.{answer_number, refusal_number, Answer, outcome}
use Rattle.call.specs.declared.refusal.Refusal.TheVariants.{NoWord, TooShort, EntryTooLarge}
use Rattle.call.specs.Space.{work_length}
use Rattle.pairing.specs.Generator.{generators}
use Rattle.pairing.specs.Subgroup.{IsWord, value_of}
use Rattle.right_cosets.specs.Condition.{Unit}
use Rattle.congruence.specs.Congruence.{Meets}
use Rattle.congruence.specs.declared.Family.{Family}
use Rattle.import_rule.specs.Order.{Order}
use Rattle.import_rule.specs.Symbol.{made, over}
use Rattle.call.specs.Call.{Lent, result_in, Contract}
use Rattle.word.specs.Answer.{found_word, found_sign, part_of, sign_number}
use Rattle.word.specs.Claim.{Found, NormalWord, Answered, ShortWork, SignSays, Tells}
use Rattle.word.specs.declared.FoundWord.{FoundWord}
use Rattle.named_groups.specs.Group.{family_of, NamedGroup}
use Rattle.named_groups.specs.Answer.{named_rule, NamedSymbol, ruled_word, ruled_sign, named_query_steps}
use Rattle.named_groups.specs.Answer.{named_query_by}

pub record ValidNamedQuery (k n : ℕ) (a b : List ℤ) (w : List ℕ) : Type 0 where
  pub group : NamedGroup k n
  pub work : work_length ≤ length w
  pub entries_A : Small 1000000 (of_list a)
  pub entries_B : Small 1000000 (of_list b)
  pub unit_A : Unit (of_list a)
  pub unit_B : Unit (of_list b)

pub record NamedAnswered (f : Family) (n v : ℕ) (t : List ℤ) (A B : Mat) (out : List ℤ) (start : ℕ)
    (r : Answer FoundWord) (out' : List ℤ) : Type 0 where
  pub symbol : NamedSymbol f n v t
  pub claim : Answered v t A B (found_word v t A B) (found_sign v t A B) out start r out'
  pub found : Found (found_word v t A B) r ↔ Meets f n (B ⊗ adj A)
  pub none : (outcome r ≡ Err NoWord) ↔ (Meets f n (B ⊗ adj A) → ⊥)

-- the rule gives a symbol
pub record RuleMakes (order : Order) (k n : ℕ) : Type 0 where
  pub vertices : ℕ
  pub table : List ℤ
  pub is : named_rule order k n ≡ made vertices table

pub record NamedClaim (order : Order) (k n : ℕ) (a b : List ℤ) (w : List ℕ) (out : List ℤ) (start : ℕ)
    (r : Answer FoundWord) (out' : List ℤ) : Type 0 where
  pub asked : (answer_number r ≡ 0) ⊎ (answer_number r ≡ refusal_number NoWord)
      → ValidNamedQuery k n a b w × RuleMakes order k n
  pub short : (m : ℕ) → answer_number r ≡ refusal_number (TooShort m)
      → (ValidNamedQuery k n a b w × RuleMakes order k n) ⊎ ShortWork w r
  pub answered : ValidNamedQuery k n a b w → (v : ℕ) (t : List ℤ) → named_rule order k n ≡ made v t
      → NamedAnswered (family_of k) n v t (of_list a) (of_list b) out start r out'
  pub over : ValidNamedQuery k n a b w → (i : ℕ) → named_rule order k n ≡ over i → outcome r ≡ Err (EntryTooLarge i)

pub record NamedQuerySays (order : Order) (k n : ℕ) (a b : List ℤ) (w : List ℕ) (start number place : ℕ)
    (out' : List ℤ) : Type 0 where
  pub asked : (number ≡ 0) ⊎ (number ≡ refusal_number NoWord) → ValidNamedQuery k n a b w × RuleMakes order k n
  pub none : number ≡ refusal_number NoWord → Meets (family_of k) n (of_list b ⊗ adj (of_list a)) → ⊥
  pub some : number ≡ 0 → Meets (family_of k) n (of_list b ⊗ adj (of_list a))
  pub letters : number ≡ 0 → (v : ℕ) (t : List ℤ) → named_rule order k n ≡ made v t
      → IsWord (length (generators v t)) (part_of out' start place)
  pub product : number ≡ 0 → (v : ℕ) (t : List ℤ) → named_rule order k n ≡ made v t
      → value_of (generators v t) (part_of out' start place) ⊗ of_list a ≈ of_list b
  pub normal : number ≡ 0 → (v : ℕ) (t : List ℤ) → named_rule order k n ≡ made v t
      → NormalWord v t (of_list a) (of_list b) (part_of out' start place)
  pub short : number ≡ refusal_number (TooShort 0) → ValidNamedQuery k n a b w → (v : ℕ) (t : List ℤ)
      → named_rule order k n ≡ made v t
      → (length (found_word v t (of_list a) (of_list b)) ≡ place)
      × NormalWord v t (of_list a) (of_list b) (found_word v t (of_list a) (of_list b))

abbrev pub NamedSignSays : (order : Order) (k n : ℕ) (a b : List ℤ) (start number place : ℕ) (sign : ℤ) (out' : List ℤ)
    → Type 0
NamedSignSays order k n a b start number place sign out' =
    (v : ℕ) (t : List ℤ) → named_rule order k n ≡ made v t → SignSays v t a b start number place sign out'

-- ---- the calls

abbrev pub named_query_call : Order → (k n : ℕ) (a b : List ℤ) → Lent (List ℕ) → Lent (List ℤ) → (start : ℕ) → Contract
named_query_call order k n a b w out start = record {
  steps = named_query_steps order k n a b w out start;
  count = length (ruled_word (named_rule order k n) a b);
  Says = λ number place.
      let r = named_query_by order k n a b (length w.entry.now) (length out.entry.now) start in
      Tells r number place × NamedClaim order k n a b w.entry.now out.entry.now start r out.exit.now
      × NamedQuerySays order k n a b w.entry.now start number place out.exit.now;
}

abbrev pub named_signed_query_call : Order → (k n : ℕ) (a b : List ℤ) → Lent (List ℕ) → Lent (List ℤ) → (start : ℕ)
    → Lent ℤ → Contract
named_signed_query_call order k n a b w out start sign = record {
  steps = named_query_steps order k n a b w out start
      ++ result_in (sign_number (ruled_sign (named_rule order k n) a b)) sign;
  count = length (ruled_word (named_rule order k n) a b);
  Says = λ number place.
      (named_query_call order k n a b w out start).Says number place
      × NamedSignSays order k n a b start number place sign.exit.now out.exit.now;
}
