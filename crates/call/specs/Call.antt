-- A CALL, SAID ONCE: its steps in the order of its refusals. This one list gives the number and the place that the
-- call tells, and what it leaves in every space that it is lent.
--
--   Lent X              what a lent reference holds, at entry and at exit
--   Step                one step of a call:
--     Asks c            a check of the input, or of the length of a space
--     Clears w w'       the work space: zeros after the call if no step up to this one refuses, else as it was
--     Gives x y y'      a result: x after the call if no step of the whole call refuses, else as it was
--   length_check n m    11, with the length n that is needed, where the length m is less
--   asks c              the check c
--   work w              the work space w: 11 where it is too short, and it is cleared
--   result_in x y       the result x in y, whose length is known or asked for by a step of its own
--   at_front l out      the list l in place of as many entries at the front of out
--   stores l out        l at the front of the space out: 11 with the length of l where out is too short
--   stores_rows k n l out   the same of n rows of k entries: 11 with n where out doesn't hold as many whole rows
--   verdict steps       the first refusal of the steps, or that none refuses
--   if_accepted c x y   x where the checks c accept, else y
--   LeavesFrom, Leaves steps    what the steps leave in their spaces
--   Contract            a call: its steps, the count that it tells, and what its number and place say of the input
--   number_of, place_of   what the call tells: 0 and the count, or the number and the place of the refusal
--   Call p number place THE PROMISE OF AN EXPORTED CALL that returns the number and writes the place; a number 0 says
--                       that no step refuses
--   filled_place a      what a call that fills a space tells as its place: how many things it made, or the refusal's
--   bit b               1 for yes, 0 for no
use Rattle.std.specs.Prelude.{◌≡◌, Bool, true, false, List, [], ◌∷◌, ◌++◌, ℕ, ◌/◌, ltb, length, drop, Ok, Err}
use Rattle.std.specs.Borrow.{MutBor}
use denote.Triple.Both.{Both}
use Rattle.basics.specs.Choice.{pick}
use Rattle.call.specs.Space.{work_length, zeros}
use Rattle.call.specs.Refusal.{◌or_else◌, answer_number, answer_place, refusal_place, Checked, Filled}
use Rattle.call.specs.declared.refusal.Refusal.TheVariants.{TooShort}

abbrev pub Lent : Type 0 → Type 0
Lent X = Both (MutBor X) (MutBor X)

-- ---- steps

pub data Step : Type 1 where
  Asks : Checked → Step
  Clears : (before after : List ℕ) → Step
  Gives : {X : Type 0} → (made before after : X) → Step

abbrev pub length_check : (needed has : ℕ) → Checked
length_check needed has = pick (ltb has needed) (Err (TooShort needed)) (Ok tt)

abbrev pub asks : Checked → List Step
asks c = Asks c ∷ []

abbrev pub work : Lent (List ℕ) → List Step
work w = asks (length_check work_length (length w.entry.now)) ++ Clears w.entry.now w.exit.now ∷ []

abbrev pub result_in : {X : Type 0} → X → Lent X → List Step
result_in made y = Gives made y.entry.now y.exit.now ∷ []

abbrev pub at_front : {A : Type 0} → List A → List A → List A
at_front made out = made ++ drop (length made) out

abbrev pub stores : {A : Type 0} → List A → Lent (List A) → List Step
stores made out =
    asks (length_check (length made) (length out.entry.now)) ++ result_in (at_front made out.entry.now) out

abbrev pub stores_rows : {A : Type 0} (size rows : ℕ) → List A → Lent (List A) → List Step
stores_rows size rows made out =
    asks (length_check rows (length out.entry.now / size)) ++ result_in (at_front made out.entry.now) out

-- ---- what they refuse, in their order, and what they leave

abbrev pub verdict : List Step → Checked
verdict [] = Ok tt
verdict (Asks c ∷ l) = c or_else verdict l
verdict (Clears before after ∷ l) = verdict l
verdict (Gives made before after ∷ l) = verdict l

abbrev pub if_accepted : {X : Type 0} → Checked → X → X → X
if_accepted (Ok tt) x y = x
if_accepted (Err f) x y = y

-- `so` is the verdict of the steps before, `whole` that of the whole call
abbrev pub LeavesFrom : (so whole : Checked) → List Step → Type 0
LeavesFrom so whole [] = Unit {0}
LeavesFrom so whole (Asks c ∷ l) = LeavesFrom (so or_else c) whole l
LeavesFrom so whole (Clears before after ∷ l) =
    (after ≡ if_accepted so (zeros (length before)) before) × LeavesFrom so whole l
LeavesFrom so whole (Gives made before after ∷ l) = (after ≡ if_accepted whole made before) × LeavesFrom so whole l

abbrev pub Leaves : List Step → Type 0
Leaves steps = LeavesFrom (Ok tt) (verdict steps) steps

-- ---- the promise

pub record Contract : Type 1 where
  pub steps : List Step
  pub count : ℕ
  pub Says : (number place : ℕ) → Type 0

abbrev pub number_of : Contract → ℕ
number_of p = answer_number (verdict p.steps)

abbrev pub place_of : Contract → ℕ
place_of p = if_accepted (verdict p.steps) p.count (answer_place (verdict p.steps))

pub record Call (p : Contract) (number place : ℕ) : Type 0 where
  pub number_is : number ≡ number_of p
  pub place_is : place ≡ place_of p
  pub zero_accepts : number ≡ 0 → verdict p.steps ≡ Ok tt
  pub leaves : Leaves p.steps
  pub says : p.Says number place

abbrev pub filled_place : Filled → ℕ
filled_place (Ok n) = n
filled_place (Err f) = refusal_place f

abbrev pub bit : Bool → ℕ
bit true = 1
bit false = 0
