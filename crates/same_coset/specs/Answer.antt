-- WHETHER A AND B SHARE A COSET (docs/CONVENTIONS.md, 17), by the definitions of the pair query itself
-- (word/specs/Answer.antt, Claim.antt): yes precisely where the query would find a word, given enough space, and no
-- where it gives 10.
--
--   same_coset_steps v t a b w  THE STEPS: the checks 1 to 7, then 8 and 9, then the work space
--   same_coset_of v t a b work  the answer: yes where the walk of the query comes home, or no; or the refusal
--   CosetMeans v t a b w r      what the answer r means, in these parts:
--     yes, no               the query gets to its walk, and some product of generators and inverses takes A to B up to
--                           sign, or none does
--     points                yes exactly where A and B lead from point 0 to the same point of the coset tables
--     word                  yes exactly where the query returns a word, in every word space in which it fits
--     none                  no exactly where the query gives 10, in every word space
--   SharedSays              the same by what the exported call returns, its number n and the place
--   same_coset_call         THE EXPORTED CALL: these steps, 1 for yes and 0 for no, and what it says
use Rattle.std.specs.Prelude.{◌≡◌, ◌↔◌, true, false, List, ◌++◌, ℕ, length, ℤ, Ok, Err}
use Rattle.matrix.specs.Matrix.{of_list}
use Rattle.call.specs.Space.{work_length}
use Rattle.call.specs.Refusal.{answer_number, Decision, outcome}
use Rattle.call.specs.declared.refusal.Refusal.TheVariants.{NoWord}
use Rattle.call.specs.Call.{Lent, Step, asks, work, length_check, verdict, bit, Contract}
use Rattle.call.specs.Inner.Fills.{decided, decision_place}
use Rattle.symbol.specs.Check.{symbol_check}
use Rattle.coset.specs.Tables.{table_s, table_r}
use Rattle.right_cosets.specs.Leads.{leads}
use Rattle.word.specs.Answer.{matrices_check, closes, found_word, query_of}
use Rattle.word.specs.Claim.{ValidQuery, SameRightCoset, Fits}

abbrev pub same_coset_steps : (v : ℕ) (t a b : List ℤ) → Lent (List ℕ) → List Step
same_coset_steps v t a b w = asks (symbol_check v t) ++ asks (matrices_check a b) ++ work w

abbrev pub same_coset_of : (v : ℕ) (t a b : List ℤ) (work : ℕ) → Decision
same_coset_of v t a b work =
    decided (closes v t (of_list a) (of_list b))
    (verdict (asks (symbol_check v t) ++ asks (matrices_check a b) ++ asks (length_check work_length work)))

pub record CosetMeans (v : ℕ) (t a b : List ℤ) (w : List ℕ) (r : Decision) : Type 0 where
  pub yes : (r ≡ Ok true) ↔ (ValidQuery v t a b w × SameRightCoset v t (of_list a) (of_list b))
  pub no : (r ≡ Ok false) ↔ (ValidQuery v t a b w × (SameRightCoset v t (of_list a) (of_list b) → ⊥))
  pub points : ValidQuery v t a b w
      → (r ≡ Ok true) ↔ (leads (table_s v t) (table_r v t) (of_list a) ≡ leads (table_s v t) (table_r v t) (of_list b))
  pub word : (out : List ℤ) (start : ℕ) → Fits start (length (found_word v t (of_list a) (of_list b))) (length out)
      → (r ≡ Ok true) ↔ (outcome (query_of v t a b (length w) (length out) start) ≡ Ok tt)
  pub none : (out : List ℤ) (start : ℕ)
      → (r ≡ Ok false) ↔ (outcome (query_of v t a b (length w) (length out) start) ≡ Err NoWord)

pub record SharedSays (v : ℕ) (t a b : List ℤ) (w : List ℕ) (n place : ℕ) : Type 0 where
  pub asked : n ≡ 0 → ValidQuery v t a b w
  pub yes : n ≡ 0 → (place ≡ 1) ↔ SameRightCoset v t (of_list a) (of_list b)
  pub no : n ≡ 0 → (place ≡ 0) ↔ (SameRightCoset v t (of_list a) (of_list b) → ⊥)

abbrev pub same_coset_call : (v : ℕ) (t a b : List ℤ) → Lent (List ℕ) → Contract
same_coset_call v t a b w = record {
  steps = same_coset_steps v t a b w;
  count = bit (closes v t (of_list a) (of_list b));
  Says = λ number place.
      let r = same_coset_of v t a b (length w.entry.now) in
      (number ≡ answer_number r) × (place ≡ decision_place r) × CosetMeans v t a b w.entry.now r
      × SharedSays v t a b w.entry.now number place;
}
