-- What the number and the place of a tower say (`tower_says`): the verdict of the call's steps is `tower_of` (`verdict_is`), of which it holds (`answer_says`),
-- and which is `tower_checks` where the work space is long enough (`with_space`). Assumes nothing.
use Rattle.std.specs.Prelude.{Ok, Err}
use mathlib.Core.Path.{◌≡◌, refl, sym, ap, subst, ◌∙◌}
use mathlib.Core.Bool.{Bool, true, false}
use mathlib.Core.List.{List}
use Prim.Native.Nat.{ℕ, zero, suc, ◌≤◌}
use native.Mathlib.Omega.{arith}
use lib.Dec.{ltb, eqb}
use lib.IntN.{ℤ}
use lib.ListN.{length}
use borrow.Author.Tests.{le-ltb, eq-eqb, ne_eqb}
use Rattle.basics.specs.Choice.{pick}
use Rattle.basics.specs.Count.{first}
use Rattle.basics.proofs.Choice.{pick_true, pick_false}
use Rattle.call.specs.Refusal.{◌or_else◌, answer_number, answer_place, Checked, refusal_place}
use Rattle.call.specs.declared.refusal.Refusal.TheVariants.{TooShort, NotListedBefore, FalseClaim}
use Rattle.call.proofs.Told.{told_apart}
use Rattle.call.proofs.Apart.{refused_accepted}
use Rattle.call.proofs.Numbered.{Among, among_first}
use Rattle.call.specs.Space.{work_length}
use Rattle.call.specs.Call.{verdict, if_accepted}
use Rattle.symbol.proofs.Accepted.{pass, among_refuse}
use Rattle.pairing.specs.Inner.Admitted.{work_check}
use Rattle.towers.specs.Tower.{symbols_check, named_check, claim_fails, claims_check}
use Rattle.towers.specs.Meaning.{TowerSays}
use Rattle.towers.specs.Answer.{count_check, claim_steps, tower_checks}
use Rattle.towers.proofs.Means.{entries_check, tower_of, TowerMeans, entries_among, tower_means}

says_by : (n : ℕ) (t : List ℤ) (work : ℕ) (r : Checked) → Among 1 26 r → TowerMeans n t work r
    → TowerSays n t work (answer_number r) (answer_place r)
says_by n t work (Ok tt) a m = record {
  few = λ e. m.few refl;
  passes = λ e. m.passes refl;
  true_passes = λ h s w. refl;
  not_listed = λ e. absurd (omega (arith, e));
  false_claim_is = λ e. absurd (omega (arith, e));
}
says_by n t work (Err f) a m = record {
  few = λ e. absurd (omega (arith, a.0, e));
  passes = λ e. absurd (omega (arith, a.0, e));
  true_passes = λ h s w. refused_accepted (m.true_passes h s w);
  not_listed = λ e. m.not_listed (refusal_place f) (ap Err (told_apart f (NotListedBefore (refusal_place f)) e refl));
  false_claim_is = λ e. m.false_claim_is (refusal_place f) (ap Err (told_apart f (FalseClaim (refusal_place f)) e refl));
}

among_unless : (b : Bool) (c : Checked) → Among 1 26 c → Among 1 26 (pick b (Ok tt) c)
among_unless true c a = tt
among_unless false c a = a

wider : (c : Checked) → Among 1 25 c → Among 1 26 c
wider (Ok tt) a = tt
wider (Err f) a = (a.0, omega (arith, a.1))

-- what a tower is refused with has a number from 1 to 26
pub tower_among : (n : ℕ) (t : List ℤ) (work : ℕ) → Among 1 26 (tower_of n t work)
tower_among n t work =
    let later = work_check work or_else claims_check n t in
    let i = first (claim_fails n t) n in
    among_first 1 26 (entries_check n t) (pick (eqb n 0) (Ok tt) later) (wider (entries_check n t) (entries_among n t))
    (among_unless (eqb n 0) later
    (among_first 1 26 (work_check work) (claims_check n t) (among_refuse 1 26 (ltb work work_length) (TooShort work_length) (omega arith) (omega arith))
    (among_refuse 1 26 (ltb i n) (FalseClaim i) (omega arith) (omega arith))))

pub answer_says : (n : ℕ) (t : List ℤ) (work : ℕ) → TowerSays n t work (answer_number (tower_of n t work)) (answer_place (tower_of n t work))
answer_says n t work = says_by n t work (tower_of n t work) (tower_among n t work) (tower_means n t work)

-- ---- the steps of the call

placed : (c : Checked) → answer_place c ≡ if_accepted c 0 (answer_place c)
placed (Ok tt) = refl
placed (Err f) = refl

or_accepted : (c : Checked) → (c or_else (Ok tt)) ≡ c
or_accepted (Ok tt) = refl
or_accepted (Err f) = refl

grouped : (a b c : Checked) → ((a or_else b) or_else c) ≡ (a or_else b or_else c)
grouped (Ok tt) b c = refl
grouped (Err f) b c = refl

behind_is : (n : ℕ) (t : List ℤ) (w w' : List ℕ) → verdict (claim_steps n t w w') ≡ pick (eqb n 0) (Ok tt) (work_check (length w) or_else claims_check n t)
behind_is zero t w w' = sym (pick_true (eqb 0 0) (Ok tt) (work_check (length w) or_else claims_check 0 t) (eq-eqb 0 0 refl))
behind_is (suc n) t w w' =
    let later = work_check (length w) or_else claims_check (suc n) t in
    ap (λ (c : Checked). work_check (length w) or_else c) (or_accepted (claims_check (suc n) t))
    ∙ sym (pick_false (eqb (suc n) 0) (Ok tt) later (ne_eqb (suc n) 0 (λ e. omega (arith, e))))

-- the verdict of the call, whose work space held w and then w'
abbrev pub tower_verdict : (n : ℕ) (t : List ℤ) (w w' : List ℕ) → Checked
tower_verdict n t w w' = count_check n or_else symbols_check n t n or_else named_check n t or_else verdict (claim_steps n t w w')

pub verdict_is : (n : ℕ) (t : List ℤ) (w w' : List ℕ) → tower_verdict n t w w' ≡ tower_of n t (length w)
verdict_is n t w w' =
    let later = verdict (claim_steps n t w w') in
    ap (λ (c : Checked). count_check n or_else c) (sym (grouped (symbols_check n t n) (named_check n t) later))
    ∙ sym (grouped (count_check n) (symbols_check n t n or_else named_check n t) later)
    ∙ ap (λ (c : Checked). entries_check n t or_else c) (behind_is n t w w')

pub tower_says : (n : ℕ) (t : List ℤ) (w w' : List ℕ) → let all = tower_verdict n t w w' in
    TowerSays n t (length w) (answer_number all) (if_accepted all 0 (answer_place all))
tower_says n t w w' =
    let all = tower_verdict n t w w' in
    subst (TowerSays n t (length w) (answer_number all)) (placed all)
    (subst (λ (c : Checked). TowerSays n t (length w) (answer_number c) (answer_place c)) (sym (verdict_is n t w w'))
    (answer_says n t (length w)))

-- ---- a work space that is long enough

pub with_space : (n : ℕ) (t : List ℤ) (work : ℕ) → work_length ≤ work → tower_of n t work ≡ tower_checks n t
with_space n t work h =
    ap (λ (c : Checked). entries_check n t or_else c) (by_count n)
    ∙ grouped (count_check n) (symbols_check n t n or_else named_check n t) (claims_check n t)
    ∙ ap (λ (c : Checked). count_check n or_else c) (grouped (symbols_check n t n) (named_check n t) (claims_check n t))
  where
    by_count : (k : ℕ) → pick (eqb k 0) (Ok tt) (work_check work or_else claims_check k t) ≡ claims_check k t
    by_count zero =
        pick_true (eqb 0 0) (Ok tt) (work_check work or_else claims_check 0 t) (eq-eqb 0 0 refl)
        ∙ sym (pick_false (ltb (first (claim_fails 0 t) 0) 0) (Err (FalseClaim (first (claim_fails 0 t) 0))) (Ok tt)
        (le-ltb (first (claim_fails 0 t) 0) 0 (omega arith)))
    by_count (suc k) =
        pick_false (eqb (suc k) 0) (Ok tt) (work_check work or_else claims_check (suc k) t) (ne_eqb (suc k) 0 (λ e. omega (arith, e)))
        ∙ ap (λ (c : Checked). c or_else claims_check (suc k) t) (pass (ltb work work_length) (TooShort work_length) (le-ltb work work_length h))
