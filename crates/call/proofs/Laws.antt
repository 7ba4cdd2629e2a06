-- THE LAWS OF CALLS, once for all of them.
--
--   Untouched steps         every space of the steps is as it was
--   Run steps c             the steps have the verdict c and leave what they then leave; `run-..` builds it step by step from the last one:
--     run_end               no step is left
--     run-stop, run-pass    the first check refuses, and all is as it was; or it passes
--     run_join              two checks that were made as one
--     run_clear             the work space was cleared
--     run-put, run-keep     a result was put where nothing is refused, and is as it was where something is
--   room_short, room_long   what the length of a space refuses; room_held, room_lacks   what its check tells of the length
--   run-work, short-work    the work space is long enough, or too short; `admit_stop`, `admit_pass`: checks and then the work space
--   run-write, run-hold, short_write     a list at the front of a space: written, held back by a later refusal, refused for want of room
--   fills_as, answer_is, ran           a function's answer, from its run; the run of a function that was called, from its answer
--   Numbered steps          the checks of the steps have refusals with numbers above 0; then a number 0 says that nothing is refused (`accepted_by`)
--   made_says               what a number 0 says, from what acceptance means
--   call-made, call-decided, call-checked     the exported call, from the answer of the call beneath it
-- Assumes nothing.
use Rattle.std.specs.Prelude.{Ok, Err}
use mathlib.Core.Path.{◌≡◌, refl, sym, ap, subst, ◌∙◌}
use mathlib.Core.Bool.{Bool, true, false}
use mathlib.Core.List.{List, [], ◌∷◌, ◌++◌}
use Prim.Native.Nat.{ℕ, ◌<◌, ◌≤◌}
use native.Mathlib.Omega.{arith}
use lib.Dec.{ltb}
use lib.ListN.{length, drop}
use borrow.Author.Tests.{lt-ltb, le-ltb, ltb-true, ltb-false}
use Rattle.basics.specs.Choice.{pick}
use Rattle.call.specs.Space.{work_length, zeros}
use Rattle.call.specs.Refusal.{◌or_else◌, answer_number, answer_place, refusal_number, Checked, Filled, Decision}
use Rattle.call.specs.declared.refusal.Refusal.TheVariants.{TooShort}
use Rattle.call.specs.declared.refusal.Refusal.{Refusal}
use Rattle.call.proofs.Answers.{both_pass}
use Rattle.call.proofs.Apart.{refused_accepted}
use Rattle.call.proofs.Numbered.{Among}
use Rattle.call.specs.Call.{Step, Asks, Clears, Gives, length_check, verdict, if_accepted, LeavesFrom, Leaves, Contract, number_of, place_of, Call}
use Rattle.call.specs.Call.{filled_place, bit}
use Rattle.call.specs.Inner.Fills.{Fills, made_if, decided, decision_place}

-- ---- nothing is touched

abbrev pub Untouched : List Step → Type 0
Untouched [] = Unit {0}
Untouched (Asks c ∷ l) = Untouched l
Untouched (Clears before after ∷ l) = (after ≡ before) × Untouched l
Untouched (Gives made before after ∷ l) = (after ≡ before) × Untouched l

untouched : (f : Refusal) (l : List Step) → Untouched l → LeavesFrom (Err f) (Err f) l
untouched f [] h = tt
untouched f (Asks c ∷ l) h = untouched f l h
untouched f (Clears before after ∷ l) h = (h.0, untouched f l h.1)
untouched f (Gives made before after ∷ l) h = (h.0, untouched f l h.1)

-- a refusal leaves everything as it was
pub kept : (f : Refusal) (l : List Step) → LeavesFrom (Err f) (Err f) l → Untouched l
kept f [] h = tt
kept f (Asks c ∷ l) h = kept f l h
kept f (Clears before after ∷ l) h = (h.0, kept f l h.1)
kept f (Gives made before after ∷ l) h = (h.0, kept f l h.1)

-- ---- a run of the steps

pub record Run (steps : List Step) (c : Checked) : Type 0 where
  pub is : verdict steps ≡ c
  pub leaves : LeavesFrom (Ok tt) c steps

pub run_end : Run [] (Ok tt)
run_end = record { is = refl; leaves = tt }

pub run_stop : (f : Refusal) (c : Checked) (l : List Step) → c ≡ Err f → Untouched l → Run (Asks c ∷ l) (Err f)
run_stop f c l e h = record {
  is = ap (λ (d : Checked). d or_else verdict l) e;
  leaves = subst (λ (d : Checked). LeavesFrom d (Err f) l) (sym e) (untouched f l h);
}

pub run_pass : {d : Checked} (c : Checked) (l : List Step) → c ≡ Ok tt → Run l d → Run (Asks c ∷ l) d
run_pass {d} c l e k = record {
  is = ap (λ (x : Checked). x or_else verdict l) e ∙ k.is;
  leaves = subst (λ (x : Checked). LeavesFrom x d l) (sym e) k.leaves;
}

-- two checks are one
pub run_join : {x : Checked} (c d : Checked) (l : List Step) → Run (Asks (c or_else d) ∷ l) x → Run (Asks c ∷ Asks d ∷ l) x
run_join (Ok tt) d l r = record { is = r.is; leaves = r.leaves }
run_join (Err f) d l r = record { is = r.is; leaves = r.leaves }

pub run_clear : {d : Checked} (before after : List ℕ) (l : List Step) → after ≡ zeros (length before) → Run l d → Run (Clears before after ∷ l) d
run_clear before after l e k = record { is = k.is; leaves = (e, k.leaves) }

module _ {X : Type 0} (x before after : X) (l : List Step) where
  pub run_put : after ≡ x → Run l (Ok tt) → Run (Gives x before after ∷ l) (Ok tt)
  run_put e k = record { is = k.is; leaves = (e, k.leaves) }

  pub run_keep : (f : Refusal) → after ≡ before → Run l (Err f) → Run (Gives x before after ∷ l) (Err f)
  run_keep f e k = record { is = k.is; leaves = (e, k.leaves) }

-- ---- lengths of spaces

pub room_short : (needed has : ℕ) → has < needed → length_check needed has ≡ Err (TooShort needed)
room_short needed has h = rw (lt-ltb has needed h)

pub room_long : (needed has : ℕ) → needed ≤ has → length_check needed has ≡ Ok tt
room_long needed has h = rw (le-ltb has needed h)

-- what the check of a length tells
pub room_held : (needed has : ℕ) → length_check needed has ≡ Ok tt → needed ≤ has
room_held needed has e = go (ltb has needed) refl e
  where
    go : (b : Bool) → ltb has needed ≡ b → ◌≡◌ {A = Checked} (pick b (Err (TooShort needed)) (Ok tt)) (Ok tt) → needed ≤ has
    go true q d = refused_accepted d
    go false q d = ltb-false has needed q

pub room_lacks : (needed has : ℕ) {f : Refusal} → length_check needed has ≡ Err f → (has < needed) × (f ≡ TooShort needed)
room_lacks needed has {f} e = go (ltb has needed) refl e
  where
    go : (b : Bool) → ltb has needed ≡ b → ◌≡◌ {A = Checked} (pick b (Err (TooShort needed)) (Ok tt)) (Err f)
        → (has < needed) × (f ≡ TooShort needed)
    go true q d = (ltb-true has needed q, cc)
    go false q d = refused_accepted (sym d)

-- the work space
module _ (w : List ℕ) (l : List Step) where
  pub run_work : {d : Checked} (w' : List ℕ) → work_length ≤ length w → w' ≡ zeros (length w) → Run l d
      → Run (Asks (length_check work_length (length w)) ∷ Clears w w' ∷ l) d
  run_work w' h e k = run_pass (length_check work_length (length w)) (Clears w w' ∷ l) (room_long work_length (length w) h) (run_clear w w' l e k)

  pub short_work : length w < work_length → Untouched l → Run (Asks (length_check work_length (length w)) ∷ Clears w w ∷ l) (Err (TooShort work_length))
  short_work h u = run_stop (TooShort work_length) (length_check work_length (length w)) (Clears w w ∷ l) (room_short work_length (length w) h) (refl, u)

  -- checks, and then the work space
  pub admit_pass : {d : Checked} (c : Checked) (w' : List ℕ) → Ok tt ≡ (c or_else length_check work_length (length w)) → w' ≡ zeros (length w) → Run l d
      → Run (Asks c ∷ Asks (length_check work_length (length w)) ∷ Clears w w' ∷ l) d
  admit_pass c w' e z k =
      let both = both_pass c (length_check work_length (length w)) (sym e) in
      let space = Clears w w' ∷ l in
      run_pass c (Asks (length_check work_length (length w)) ∷ space) both.0
      (run_pass (length_check work_length (length w)) space both.1 (run_clear w w' l z k))

  pub admit_stop : (c : Checked) (w' : List ℕ) (f : Refusal) → Err f ≡ (c or_else length_check work_length (length w)) → w' ≡ w → Untouched l
      → Run (Asks c ∷ Asks (length_check work_length (length w)) ∷ Clears w w' ∷ l) (Err f)
  admit_stop c w' f e same u = go c refl e
    where
      go : (x : Checked) → c ≡ x → Err f ≡ (x or_else length_check work_length (length w))
          → Run (Asks c ∷ Asks (length_check work_length (length w)) ∷ Clears w w' ∷ l) (Err f)
      go (Err g) q z = run_stop f c (Asks (length_check work_length (length w)) ∷ Clears w w' ∷ l) (q ∙ sym z) (same, u)
      go (Ok tt) q z =
          run_pass c (Asks (length_check work_length (length w)) ∷ Clears w w' ∷ l) q
          (run_stop f (length_check work_length (length w)) (Clears w w' ∷ l) (sym z) (same, u))

-- a list of n entries at the front of a space
module _ {A : Type 0} (x out : List A) (n : ℕ) (long : length x ≡ n) (l : List Step) where
  fits : n ≤ length out → length_check (length x) (length out) ≡ Ok tt
  fits h = subst (λ (k : ℕ). length_check k (length out) ≡ Ok tt) (sym long) (room_long n (length out) h)

  pub run_write : (out' : List A) → n ≤ length out → out' ≡ x ++ drop n out → Run l (Ok tt)
      → Run (Asks (length_check (length x) (length out)) ∷ Gives (x ++ drop (length x) out) out out' ∷ l) (Ok tt)
  run_write out' h e k =
      run_pass (length_check (length x) (length out)) (Gives (x ++ drop (length x) out) out out' ∷ l) (fits h)
      (run_put (x ++ drop (length x) out) out out' l (subst (λ (m : ℕ). out' ≡ x ++ drop m out) (sym long) e) k)

  pub run_hold : (f : Refusal) → n ≤ length out → Run l (Err f)
      → Run (Asks (length_check (length x) (length out)) ∷ Gives (x ++ drop (length x) out) out out ∷ l) (Err f)
  run_hold f h k =
      run_pass (length_check (length x) (length out)) (Gives (x ++ drop (length x) out) out out ∷ l) (fits h)
      (run_keep (x ++ drop (length x) out) out out l f refl k)

  pub short_write : length out < n → Untouched l
      → Run (Asks (length_check (length x) (length out)) ∷ Gives (x ++ drop (length x) out) out out ∷ l) (Err (TooShort n))
  short_write h u =
      run_stop (TooShort n) (length_check (length x) (length out)) (Gives (x ++ drop (length x) out) out out ∷ l)
      (subst (λ (k : ℕ). length_check k (length out) ≡ Err (TooShort n)) (sym long) (room_short n (length out) h)) (refl, u)

-- ---- numbers

abbrev pub Above : Checked → Type 0
Above (Ok tt) = Unit {0}
Above (Err f) = 0 < refusal_number f

abbrev pub Numbered : List Step → Type 0
Numbered [] = Unit {0}
Numbered (Asks c ∷ l) = Above c × Numbered l
Numbered (Clears before after ∷ l) = Numbered l
Numbered (Gives made before after ∷ l) = Numbered l

pub above_room : (needed has : ℕ) → Above (length_check needed has)
above_room needed has = go (ltb has needed)
  where
    go : (b : Bool) → Above (pick b (Err (TooShort needed)) (Ok tt))
    go true = omega arith
    go false = tt

pub above_among : (low high : ℕ) (c : Checked) → 0 < low → Among low high c → Above c
above_among low high (Ok tt) l h = tt
above_among low high (Err f) l h = omega (arith, l, h.0)

above_both : (c d : Checked) → Above c → Above d → Above (c or_else d)
above_both (Ok tt) d h k = k
above_both (Err f) d h k = h

pub above : (l : List Step) → Numbered l → Above (verdict l)
above [] h = tt
above (Asks c ∷ l) h = above_both c (verdict l) h.0 (above l h.1)
above (Clears before after ∷ l) h = above l h
above (Gives made before after ∷ l) h = above l h

-- a number 0 says that nothing is refused
pub accepted_by : (l : List Step) → Numbered l → answer_number (verdict l) ≡ 0 → verdict l ≡ Ok tt
accepted_by l h z = go (verdict l) (above l h) z
  where
    go : (c : Checked) → Above c → answer_number c ≡ 0 → c ≡ Ok tt
    go (Ok tt) k z = refl
    go (Err f) k z = absurd (omega (arith, k, z))

-- a number that a check doesn't give comes from the steps after it
pub past : (low high k : ℕ) (c d : Checked) → Among low high c → high < k → answer_number (c or_else d) ≡ k
    → (c ≡ Ok tt) × (answer_number d ≡ k)
past low high k (Ok tt) d h l e = (refl, e)
past low high k (Err f) d h l e = absurd (omega (arith, h.1, l, e))

pub past_room : (needed has k : ℕ) (d : Checked) → 11 < k → answer_number (length_check needed has or_else d) ≡ k → answer_number d ≡ k
past_room needed has k d l e = go (ltb has needed) e
  where
    go : (b : Bool) → answer_number (pick b (Err (TooShort needed)) (Ok tt) or_else d) ≡ k → answer_number d ≡ k
    go true z = absurd (omega (arith, l, z))
    go false z = z

pub made_says : (p : Contract) (M : ℕ → Type 0) → Numbered p.steps → (verdict p.steps ≡ Ok tt → M p.count) → number_of p ≡ 0 → M (place_of p)
made_says p M h m = go (verdict p.steps) (above p.steps h) m
  where
    go : (c : Checked) → Above c → (c ≡ Ok tt → M p.count) → answer_number c ≡ 0 → M (if_accepted c p.count (answer_place c))
    go (Ok tt) k m z = m refl
    go (Err f) k m z = absurd (omega (arith, k, z))

-- ---- from a run to an answer, and from an answer to the exported call

pub fills_as : {A : Type 0} {by : Checked → A} {a : A} {steps : List Step} {c : Checked} → Run steps c → a ≡ by c → Fills steps by a
fills_as {by} {a} {steps} r e = record {
  answer = e ∙ ap by (sym r.is);
  leaves = subst (λ (d : Checked). LeavesFrom (Ok tt) d steps) (sym r.is) r.leaves;
}

-- the same answer by another name
pub answer_is : {A : Type 0} {by : Checked → A} {a b : A} {steps : List Step} → b ≡ a → Fills steps by a → Fills steps by b
answer_is e g = record { answer = e ∙ g.answer; leaves = g.leaves }

-- a function that another one calls ran its steps
pub ran : {A : Type 0} {by : Checked → A} {a : A} {steps : List Step} → Fills steps by a → Run steps (verdict steps)
ran g = record { is = refl; leaves = g.leaves }

made_number : (n : ℕ) (c : Checked) → answer_number (made_if n c) ≡ answer_number c
made_number n (Ok tt) = refl
made_number n (Err f) = refl

made_place : (n : ℕ) (c : Checked) → filled_place (made_if n c) ≡ if_accepted c n (answer_place c)
made_place n (Ok tt) = refl
made_place n (Err f) = refl

decided_number : (b : Bool) (c : Checked) → answer_number (decided b c) ≡ answer_number c
decided_number true (Ok tt) = refl
decided_number false (Ok tt) = refl
decided_number b (Err f) = refl

decided_place : (b : Bool) (c : Checked) → decision_place (decided b c) ≡ if_accepted c (bit b) (answer_place c)
decided_place true (Ok tt) = refl
decided_place false (Ok tt) = refl
decided_place b (Err f) = refl

checked_place : (c : Checked) → answer_place c ≡ if_accepted c 0 (answer_place c)
checked_place (Ok tt) = refl
checked_place (Err f) = refl

-- `says` is shown of the contract alone, for every input, and so is that its refusals have numbers above 0
module _ (p : Contract) (numbered : Numbered p.steps) (says : p.Says (number_of p) (place_of p)) {number place : ℕ} where
  pub call : Leaves p.steps → number ≡ number_of p → place ≡ place_of p → Call p number place
  call l n k = record {
    number_is = n;
    place_is = k;
    zero_accepts = λ z. accepted_by p.steps numbered (sym n ∙ z);
    leaves = l;
    says = subst (λ (x : ℕ). p.Says x place) (sym n) (subst (λ (x : ℕ). p.Says (number_of p) x) (sym k) says);
  }

  pub call_made : {a : Filled} → Fills p.steps (made_if p.count) a → number ≡ answer_number a → place ≡ filled_place a → Call p number place
  call_made g n k =
      let c = verdict p.steps in
      call g.leaves (n ∙ ap (λ (x : Filled). answer_number x) g.answer ∙ made_number p.count c)
      (k ∙ ap filled_place g.answer ∙ made_place p.count c)

  pub call_decided : (b : Bool) {a : Decision} → p.count ≡ bit b → Fills p.steps (decided b) a → number ≡ answer_number a
      → place ≡ decision_place a → Call p number place
  call_decided b is g n k =
      let c = verdict p.steps in
      call g.leaves (n ∙ ap (λ (x : Decision). answer_number x) g.answer ∙ decided_number b c)
      (k ∙ ap decision_place g.answer ∙ decided_place b c ∙ sym (ap (λ (m : ℕ). if_accepted c m (answer_place c)) is))

  pub call_checked : {a : Checked} → p.count ≡ 0 → Fills p.steps (λ (x : Checked). x) a → number ≡ answer_number a
      → place ≡ answer_place a → Call p number place
  call_checked is g n k =
      let c = verdict p.steps in
      call g.leaves (n ∙ ap (λ (x : Checked). answer_number x) g.answer)
      (k ∙ ap (λ (x : Checked). answer_place x) g.answer ∙ checked_place c ∙ sym (ap (λ (m : ℕ). if_accepted c m (answer_place c)) is))
