-- THE STARRED INSTANCES (docs/CONVENTIONS.md, 12), all of them, as one table over the definitions that the public calls
-- promise.
--
--   Question               a public call with what it is lent: a symbol of v vertices in the table t, matrices a and b,
--                          permutations s and r; the length of the work space; what stands in the result spaces
--   InstanceAnswer         the number and place of a refusal, both 0 where nothing is refused; and rows of numbers:
--                          what the call returns, and then what it leaves in each result space
--   refuses n p rows       the refusal n at the place p
--   says f rows            the refusal f, or none
--   held x                 a space that holds x; `symbol_steps`: the checks 1 to 7, and then the work space, by its
--                          length
--   gives rows             no refusal
--   index_is n             no refusal, and the index n
--   word sign l            no refusal, and the word l with its sign, which fills the lent space
--   answer_to q            THE ANSWER TO q, by those definitions alone
--   Instance, q answers a  what is asked, and what docs/CONVENTIONS.md says
--   instances              THE TABLE, in the order of docs/CONVENTIONS.md, and behind it two that tell the rules of
--                          import apart; instance_at i is the one at the place i
--   equal_answers a b        whether the two are the same, number by number
--   holds x, all_hold l    whether the answer is what docs/CONVENTIONS.md says, at x, and at all of l: tests that
--                          compute
--   Holds x                that it is
--
-- proofs/Instances.antt: `all_hold_lem`, that `all_hold instances` computes to true; `each`, that so each answer is what
-- docs/CONVENTIONS.md says.
use Rattle.std.specs.Prelude.{Result, Ok, Err}
use Rattle.std.specs.Prelude.{◌≡◌, Bool, true, false, ◌&&◌, List, [], ◌∷◌, ◌++◌, map, ℕ, eqb, length, get_or, replicate, ℤ, pos, negsuc}
use Rattle.matrix.specs.Matrix.{of_list}
use Rattle.call.specs.Space.{work_length}
use Rattle.symbol.specs.Check as symbol
use Rattle.symbol.specs.Check.{eq_z}
use Rattle.call.specs.Call.{Lent, Step, length_check, asks, stores, at_front, verdict, if_accepted}
use Rattle.pairing.specs.Generator.{generator_table}
use Rattle.call.specs.declared.refusal.Refusal.{Refusal}
use Rattle.coset.specs.Tables.{table_s, table_r, table_t}
use Rattle.coset.specs.Answer.{figures_of}
use Rattle.call.specs.Inner.Fills.{decided}
use Rattle.call.specs.Refusal.{Checked, Decision, answer_number, answer_place, outcome}
use Rattle.containment.specs.Group.{same_tables}
use Rattle.signs.specs.Sign.{plus, minus}
use Rattle.word.specs.Answer.{query_of, found_word, sign_number, word_left, part_of}
use Rattle.word.specs.declared.FoundWord.{FoundWord}
use Rattle.import_rule.specs.Order.{Order, leftmost, longest_open}
use Rattle.import_rule.specs.Symbol.{ruled_by}
use Rattle.import_symbol.specs.Answer.{check16, ruled_table}
use Rattle.permutations.specs.Check.{pair_check}
use Rattle.import_call.specs.Import.{needed_vertices, needed_length}

-- ---- what is asked

pub data Question : Type 0 where
  -- symbol's `check`
  check : (v : ℕ) (t : List ℤ) → Question
  -- the index among coset's `figures`
  index : (v : ℕ) (t : List ℤ) (work : ℕ) → Question
  -- pairing's `generators`
  generators : (v : ℕ) (t : List ℤ) (work : ℕ) (out : List ℤ) → Question
  -- coset's `tables`
  tables : (v : ℕ) (t : List ℤ) (work : ℕ) (s r u : List ℕ) → Question
  -- word's `query`: the sign, and `word_part` of what it answers
  query : (v : ℕ) (t a b : List ℤ) (work : ℕ) (out : List ℤ) (start : ℕ) → Question
  -- containment's `same`
  same : (v : ℕ) (t : List ℤ) (v' : ℕ) (t' : List ℤ) (work : ℕ) → Question
  -- permutations' `import`, and `import_wide`
  import importWide : (s r : List ℕ) (work : ℕ) (out : List ℤ) → Question

-- ---- what is answered

pub record InstanceAnswer : Type 0 where
  pub number : ℕ
  pub place : ℕ
  pub rows : List (List ℤ)

abbrev pub refuses : ℕ → ℕ → List (List ℤ) → InstanceAnswer
refuses n p l = record { number = n; place = p; rows = l }

abbrev pub gives : List (List ℤ) → InstanceAnswer
gives l = refuses 0 0 l

abbrev pub index_is : ℕ → InstanceAnswer
index_is n = gives ((pos n ∷ []) ∷ [])

abbrev pub word : Bool → List ℤ → InstanceAnswer
word sign l = gives ((sign_number sign ∷ []) ∷ l ∷ l ∷ [])

-- what the checks c say, and rows
abbrev pub says : Checked → List (List ℤ) → InstanceAnswer
says c l = refuses (answer_number c) (answer_place c) l

-- a space that holds x
abbrev pub held : {X : Type 0} → X → Lent X
held x = record {
  entry = record { ref_ptr = (0, 0); ghost_name = 0; now = x };
  exit = record { ref_ptr = (0, 0); ghost_name = 0; now = x };
}

-- the steps with which the calls on a symbol begin: checks 1 to 7, and then the work space, by its length
abbrev pub symbol_steps : (v : ℕ) → List ℤ → (work : ℕ) → List Step
symbol_steps v t work = asks (symbol.symbol_check v t) ++ asks (length_check work_length work)

-- the word that an answer names, in the word space that the call leaves
abbrev pub word_in : Result FoundWord Refusal → List ℤ → List ℤ
word_in (Ok u) out = part_of out u.start u.letters
word_in (Err f) out = []

-- its sign
abbrev pub sign_given : Result FoundWord Refusal → List ℤ
sign_given (Ok u) = sign_number u.plus ∷ []
sign_given (Err f) = []

-- the number of vertices, and the result space that an import leaves: its checks are those of `import_steps`, in order
abbrev pub import_says : Order → (s r : List ℕ) (work : ℕ) (out : List ℤ) → InstanceAnswer
import_says order s r work out =
    let g = ruled_by order s r in
    let c = verdict (asks (pair_check s r) ++ asks (length_check work_length work)
    ++ asks (length_check (needed_length r) (length out)) ++ asks (check16 g)) in
    let vertices = pos (needed_vertices r) ∷ [] in
    says c (if_accepted c vertices [] ∷ if_accepted c (at_front (ruled_table g) out) out ∷ [])

-- 1 for yes, 0 for no
abbrev pub yes_in : Decision → List ℤ
yes_in (Ok true) = pos 1 ∷ []
yes_in (Ok false) = pos 0 ∷ []
yes_in (Err f) = []

abbrev pub answer_to : Question → InstanceAnswer
answer_to (check v t) = says (symbol.symbol_check v t) []
answer_to (index v t work) =
    let c = verdict (symbol_steps v t work) in
    says c (if_accepted c (index_is (figures_of v t).index).rows [])
answer_to (generators v t work out) =
    let l = generator_table v t in
    let c = verdict (symbol_steps v t work ++ stores l (held out)) in
    says c (if_accepted c (at_front l out) out ∷ [])
answer_to (tables v t work s r u) =
    let x = table_s v t in
    let y = table_r v t in
    let z = table_t v t in
    let c = verdict (symbol_steps v t work ++ stores x (held s) ++ stores y (held r) ++ stores z (held u)) in
    says c
    (map pos (if_accepted c (at_front x s) s) ∷ map pos (if_accepted c (at_front y r) r)
    ∷ map pos (if_accepted c (at_front z u) u) ∷ [])
answer_to (query v t a b work out start) =
    let r = query_of v t a b work (length out) start in
    let left = word_left r (found_word v t (of_list a) (of_list b)) out in
    says (outcome r) (sign_given r ∷ word_in r left ∷ left ∷ [])
answer_to (same v t v' t' work) =
    let c = verdict (asks (symbol.symbol_check v t) ++ symbol_steps v' t' work) in
    let a = decided (same_tables v t v' t') c in
    says (outcome a) (yes_in a ∷ [])
answer_to (import s r work out) = import_says leftmost s r work out
answer_to (importWide s r work out) = import_says longest_open s r work out

-- ---- the symbols and matrices of the table

-- 0/1, pairings -2 -3
abbrev pub whole : List ℤ
whole = pos 0 ∷ pos 1 ∷ negsuc 1 ∷ negsuc 2 ∷ []

-- 0/1, pairings -3 -3
abbrev pub two_odd : List ℤ
two_odd = pos 0 ∷ pos 1 ∷ negsuc 2 ∷ negsuc 2 ∷ []

-- 0/1, pairings -2 -2
abbrev pub two_even : List ℤ
two_even = pos 0 ∷ pos 1 ∷ negsuc 1 ∷ negsuc 1 ∷ []

-- 0/1, pairings 1 1
abbrev pub one_pair : List ℤ
one_pair = pos 0 ∷ pos 1 ∷ pos 1 ∷ pos 1 ∷ []

-- 0/1, 1/1, 2/1, pairings 1 2 2 1
abbrev pub Γ2 : List ℤ
Γ2 = pos 0 ∷ pos 1 ∷ pos 1 ∷ pos 1 ∷ pos 2 ∷ pos 1 ∷ pos 1 ∷ pos 2 ∷ pos 2 ∷ pos 1 ∷ []

-- 0/1, 1/1, pairings 1 -2 1
abbrev pub Γ0_2 : List ℤ
Γ0_2 = pos 0 ∷ pos 1 ∷ pos 1 ∷ pos 1 ∷ pos 1 ∷ negsuc 1 ∷ pos 1 ∷ []

-- -1/1, 0/1, pairings 1 -2 1
abbrev pub Γ0_2_moved : List ℤ
Γ0_2_moved = negsuc 0 ∷ pos 1 ∷ pos 0 ∷ pos 1 ∷ pos 1 ∷ negsuc 1 ∷ pos 1 ∷ []

abbrev pub I : List ℤ
I = pos 1 ∷ pos 0 ∷ pos 0 ∷ pos 1 ∷ []

abbrev pub -I : List ℤ
-I = negsuc 0 ∷ pos 0 ∷ pos 0 ∷ negsuc 0 ∷ []

abbrev pub S : List ℤ
S = pos 0 ∷ negsuc 0 ∷ pos 1 ∷ pos 0 ∷ []

abbrev pub T : List ℤ
T = pos 1 ∷ pos 1 ∷ pos 0 ∷ pos 1 ∷ []

abbrev pub -T : List ℤ
-T = negsuc 0 ∷ negsuc 0 ∷ pos 0 ∷ negsuc 0 ∷ []

-- S and R of twelve points
abbrev pub twelve_s : List ℕ
twelve_s = 7 ∷ 5 ∷ 4 ∷ 8 ∷ 2 ∷ 1 ∷ 9 ∷ 0 ∷ 3 ∷ 6 ∷ 11 ∷ 10 ∷ []

abbrev pub twelve_r : List ℕ
twelve_r = 2 ∷ 8 ∷ 10 ∷ 5 ∷ 6 ∷ 7 ∷ 11 ∷ 3 ∷ 9 ∷ 1 ∷ 0 ∷ 4 ∷ []

-- a space of n numbers, all 0
abbrev pub lent : ℕ → List ℤ
lent n = replicate n (pos 0)

abbrev pub lent_table : ℕ → List ℕ
lent_table n = replicate n 0

-- ---- the table

pub record Instance : Type 0 where
  pub question : Question
  pub expected : InstanceAnswer

infix 4 ◌answers◌
abbrev pub ◌answers◌ : Question → InstanceAnswer → Instance
q answers a = record { question = q; expected = a }

abbrev pub instances : List Instance
instances =
    -- v = 1, 0/1, pairings -2 -3: index 1, and I to S: word 1
    (index 1 whole work_length answers index_is 1)
    ∷ (query 1 whole I S work_length (lent 1) 0 answers word plus (pos 1 ∷ []))
    -- -3 -3: index 2, S 1 0, R 0 1 (and T, which is S and then R)
    ∷ (index 1 two_odd work_length answers index_is 2)
    ∷ (tables 1 two_odd work_length (lent_table 2) (lent_table 2) (lent_table 2) answers gives
    (map pos (1 ∷ 0 ∷ []) ∷ map pos (0 ∷ 1 ∷ []) ∷ map pos (1 ∷ 0 ∷ []) ∷ []))
    -- -2 -2 and 1 1: refusal 7
    ∷ (check 1 two_even answers refuses 7 0 [])
    ∷ (check 1 one_pair answers refuses 7 0 [])
    -- 0/1, 1/1, 2/1 with 1 2 2 1: index 6, the free generators (1 2; 0 1), (3 -2; 2 -1), each behind its kind
    ∷ (index 3 Γ2 work_length answers index_is 6)
    ∷ (generators 3 Γ2 work_length (lent 10) answers gives
    ((pos 1 ∷ pos 1 ∷ pos 2 ∷ pos 0 ∷ pos 1 ∷ pos 1 ∷ pos 3 ∷ negsuc 1 ∷ pos 2 ∷ negsuc 0 ∷ []) ∷ []))
    -- S 1 0 4 5 2 3, R 2 3 5 4 1 0, T 3 2 1 0 5 4
    ∷ (tables 3 Γ2 work_length (lent_table 6) (lent_table 6) (lent_table 6) answers gives
    (map pos (1 ∷ 0 ∷ 4 ∷ 5 ∷ 2 ∷ 3 ∷ []) ∷ map pos (2 ∷ 3 ∷ 5 ∷ 4 ∷ 1 ∷ 0 ∷ []) ∷ map pos (3 ∷ 2 ∷ 1 ∷ 0 ∷ 5 ∷ 4 ∷ [])
    ∷ []))
    -- in Γ0(2), I to T: word 1 (with plus, unless minus is said)
    ∷ (query 2 Γ0_2 I T work_length (lent 1) 0 answers word plus (pos 1 ∷ []))
    -- I to -T: word 1 with minus
    ∷ (query 2 Γ0_2 I -T work_length (lent 1) 0 answers word minus (pos 1 ∷ []))
    -- I to (1 0; 2 1): 2 1
    ∷ (query 2 Γ0_2 I (pos 1 ∷ pos 0 ∷ pos 2 ∷ pos 1 ∷ []) work_length (lent 2) 0 answers word plus (pos 2 ∷ pos 1 ∷ []))
    -- S to (1 -1; 1 0): 1
    ∷ (query 2 Γ0_2 S (pos 1 ∷ negsuc 0 ∷ pos 1 ∷ pos 0 ∷ []) work_length (lent 1) 0 answers word plus (pos 1 ∷ []))
    -- I to S: 10, and the lent space as it was
    ∷ (query 2 Γ0_2 I S work_length (lent 1) 0 answers refuses 10 0 ([] ∷ [] ∷ lent 1 ∷ []))
    -- I to I and to -I: the empty word, with minus for -I, space 0 enough
    ∷ (query 2 Γ0_2 I I work_length (lent 0) 0 answers word plus [])
    ∷ (query 2 Γ0_2 I -I work_length (lent 0) 0 answers word minus [])
    -- S 1 0 2, R 2 0 1 gives back the symbol above
    ∷ (import (1 ∷ 0 ∷ 2 ∷ []) (2 ∷ 0 ∷ 1 ∷ []) work_length (lent 7) answers gives ((pos 2 ∷ []) ∷ Γ0_2 ∷ []))
    -- -1/1, 0/1 with 1 -2 1 generates Γ0(2) too; Γ(2) is another group
    ∷ (same 2 Γ0_2_moved 2 Γ0_2 work_length answers gives ((pos 1 ∷ []) ∷ []))
    ∷ (same 2 Γ0_2 3 Γ2 work_length answers gives ((pos 0 ∷ []) ∷ []))
    -- behind those of docs/CONVENTIONS.md: twelve points for which the two rules of import give two symbols, each of
    -- five vertices: -3, -2, -1, 0, 1 with 1 2 3 3 2 1, and -2, -1, 0, 1/2, 1 with 1 2 2 1 3 3
    ∷ (import twelve_s twelve_r work_length (lent 16) answers gives ((pos 5 ∷ []) ∷
    (negsuc 2 ∷ pos 1 ∷ negsuc 1 ∷ pos 1 ∷ negsuc 0 ∷ pos 1 ∷ pos 0 ∷ pos 1 ∷ pos 1 ∷ pos 1 ∷ pos 1 ∷ pos 2 ∷ pos 3
    ∷ pos 3 ∷ pos 2 ∷ pos 1 ∷ []) ∷ []))
    ∷ (importWide twelve_s twelve_r work_length (lent 16) answers gives ((pos 5 ∷ []) ∷
    (negsuc 1 ∷ pos 1 ∷ negsuc 0 ∷ pos 1 ∷ pos 0 ∷ pos 1 ∷ pos 1 ∷ pos 2 ∷ pos 1 ∷ pos 1 ∷ pos 1 ∷ pos 2 ∷ pos 2 ∷ pos 1
    ∷ pos 3 ∷ pos 3 ∷ []) ∷ []))
    ∷ []

-- the instance at the place i of the table, counted from 0; past its end, a symbol without vertices: refusal 1
abbrev pub instance_at : ℕ → Instance
instance_at i = get_or instances i (check 0 [] answers refuses 1 0 [])

-- ---- the test

abbrev pub same_list : {A : Type 0} → (A → A → Bool) → List A → List A → Bool
same_list equal [] [] = true
same_list equal [] (y ∷ m) = false
same_list equal (x ∷ l) [] = false
same_list equal (x ∷ l) (y ∷ m) = equal x y && same_list equal l m

abbrev pub equal_answers : InstanceAnswer → InstanceAnswer → Bool
equal_answers a b = eqb a.number b.number &&
    (eqb a.place b.place && same_list (same_list eq_z) a.rows b.rows)

abbrev pub holds : Instance → Bool
holds x = equal_answers (answer_to x.question) x.expected

abbrev pub all_hold : List Instance → Bool
all_hold [] = true
all_hold (x ∷ l) = holds x && all_hold l

abbrev pub Holds : Instance → Type 0
Holds x = answer_to x.question ≡ x.expected
