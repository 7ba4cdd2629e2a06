-- THE ORDER OF REFUSALS of a query, whatever its first checks `ok` and those of its matrices `next` are and whatever follows: `ok`, `next` (of a pair 8 and
-- 9), then the work space.
--
-- In order: what 8 and 9 refuse (`pair_large`, `pair_A`, `pair_B`) and pass (`pair_passes`, `passed_by`), and their numbers (`pair_among`); the run of two
-- checks, the work space and what follows, one law for each way out (`by_first_lem`, `by_second_lem`, `by_short`, `by_long`); which way it was (`reaches`), and what
-- is then found (`reached`); what the number of the answer says of the checks (`gets_asked`, `gets_short`).
-- Assumes nothing.
use Rattle.call.specs.Refusal.{answer_number, refusal_number, outcome, ◌or_else◌, Checked, Answer}
use Rattle.std.specs.Prelude.{Ok, Err}
use mathlib.Core.Path.{◌≡◌, refl, sym, ◌∙◌, ap, subst}
use mathlib.Core.Logic.{◌⊎◌, inl, inr}
use mathlib.Core.Bool.{Bool, true, false, not}
use mathlib.Core.List.{List, ◌∷◌}
use Prim.Native.Nat.{ℕ, ◌≤◌, ◌<◌}
use native.Mathlib.Omega.{arith}
use native.Mathlib.Decide.{dec_lt}
use lib.Dec.{ltb}
use lib.ListN.{length}
use lib.IntN.{ℤ}
use borrow.Author.Tests.{lt-ltb, le-ltb, ltb-false, not-false}
use Rattle.basics.specs.Count.{first}
use Rattle.call.specs.Space.{work_length, zeros}
use Rattle.call.specs.declared.refusal.Refusal.TheVariants.{MatrixEntry, BadDeterminant, NoWord, TooShort}
use Rattle.call.specs.declared.refusal.Refusal.{Refusal}
use Rattle.call.proofs.Answers.{both_pass, first_refuses, then_next}
use Rattle.call.proofs.Numbered.{Among, among_first}
use Rattle.call.specs.Call.{Step, Asks, Clears, length_check}
use Rattle.call.proofs.Laws.{Untouched, Run, run_stop, run_pass, run_work, short_work, room_short, room_long}
use Rattle.symbol.specs.Check.{refuse, refuse_at}
use Rattle.symbol.proofs.Accepted.{passes, among_refuse}
use Rattle.word.specs.Answer.{large, unit, matrices_check, word_if}
use Rattle.word.specs.Claim.{ShortWork}
use Rattle.word.specs.declared.FoundWord.{FoundWord}
use Rattle.word.proofs.Claim.{outcome_number}

-- ---- the pair

pub record Passed (a b : List ℤ) : Type 0 where
  pub entries : 8 ≤ first (large a b) 8
  pub A : unit a ≡ true
  pub B : unit b ≡ true

module _ (a b : List ℤ) where
  abbrev i : ℕ
  i = first (large a b) 8

  abbrev nine : Checked
  nine = refuse (not (unit a)) (BadDeterminant 0) or_else refuse (not (unit b)) (BadDeterminant 1)

  pub passed_by : matrices_check a b ≡ Ok tt → Passed a b
  passed_by e =
      let p = both_pass (refuse_at i 8 MatrixEntry) nine e in
      let q = both_pass (refuse (not (unit a)) (BadDeterminant 0)) (refuse (not (unit b)) (BadDeterminant 1)) p.1 in
      record {
        entries = ltb-false i 8 (passes (ltb i 8) (MatrixEntry i) p.0);
        A = not-false (unit a) (passes (not (unit a)) (BadDeterminant 0) q.0);
        B = not-false (unit b) (passes (not (unit b)) (BadDeterminant 1) q.1);
      }

  pub pair_large : i < 8 → Err (MatrixEntry i) ≡ matrices_check a b
  pair_large h = rw (lt-ltb i 8 h)

  pub pair_A : 8 ≤ i → unit a ≡ false → Err (BadDeterminant 0) ≡ matrices_check a b
  pair_A h e = rw (le-ltb i 8 h, e)

  pub pair_B : 8 ≤ i → unit a ≡ true → unit b ≡ false → Err (BadDeterminant 1) ≡ matrices_check a b
  pair_B h e f = rw (le-ltb i 8 h, e, f)

  pub pair_passes : Passed a b → Ok tt ≡ matrices_check a b
  pair_passes p = rw (le-ltb i 8 p.entries, p.A, p.B)

  pub pair_among : Among 8 9 (matrices_check a b)
  pair_among =
      among_first 8 9 (refuse_at i 8 MatrixEntry) nine (among_refuse 8 9 (ltb i 8) (MatrixEntry i) (omega arith) (omega arith))
      (among_first 8 9 (refuse (not (unit a)) (BadDeterminant 0)) (refuse (not (unit b)) (BadDeterminant 1))
      (among_refuse 8 9 (not (unit a)) (BadDeterminant 0) (omega arith) (omega arith))
      (among_refuse 8 9 (not (unit b)) (BadDeterminant 1) (omega arith) (omega arith)))

-- ---- the run of two checks, the work space and the steps after it

module _ (ok next : Checked) (w : List ℕ) (rest : List Step) where
  abbrev worked : List ℕ → List Step
  worked w' = Asks (length_check work_length (length w)) ∷ Clears w w' ∷ rest

  abbrev pub Runs : List ℕ → Checked → Type 0
  Runs w' c = Run (Asks ok ∷ Asks next ∷ worked w') c

  pub by_first_lem : (f : Refusal) → ok ≡ Err f → Untouched rest → Runs w (Err f)
  by_first_lem f e u = run_stop f ok (Asks next ∷ worked w) e (refl, u)

  module _ (e : ok ≡ Ok tt) where
    pub by_second_lem : (f : Refusal) → next ≡ Err f → Untouched rest → Runs w (Err f)
    by_second_lem f g u = run_pass ok (Asks next ∷ worked w) e (run_stop f next (worked w) g (refl, u))

    module _ (g : next ≡ Ok tt) where
      pub by_short : length w < work_length → Untouched rest → Runs w (Err (TooShort work_length))
      by_short k u = run_pass ok (Asks next ∷ worked w) e (run_pass next (worked w) g (short_work w rest k u))

      pub by_long : {c : Checked} (w' : List ℕ) → work_length ≤ length w → w' ≡ zeros (length w) → Run rest c → Runs w' c
      by_long w' k z r = run_pass ok (Asks next ∷ worked w') e (run_pass next (worked w') g (run_work w rest w' k z r))

-- ---- which way it was

module _ (ok next found : Checked) (w : List ℕ) where
  abbrev space : Checked
  space = length_check work_length (length w)

  abbrev pub in_order : Checked
  in_order = ok or_else next or_else space or_else found

  -- all checks were passed, and the answer is what was found
  pub record Gets : Type 0 where
    pub accepted : ok ≡ Ok tt
    pub passed : next ≡ Ok tt
    pub work : work_length ≤ length w
    pub is : in_order ≡ found

  pub record Short : Type 0 where
    pub low : length w < work_length
    pub is : in_order ≡ Err (TooShort work_length)

  -- the first checks refused, or the next
  pub data Stopped : Type 0 where
    checked : (f : Refusal) → ok ≡ Err f → in_order ≡ Err f → Stopped
    second : (f : Refusal) → next ≡ Err f → in_order ≡ Err f → Stopped

  pub reached : ok ≡ Ok tt → next ≡ Ok tt → work_length ≤ length w → in_order ≡ found
  reached e g k =
      sym (then_next space found (room_long work_length (length w) k) ∙ then_next next (space or_else found) g
      ∙ then_next ok (next or_else space or_else found) e)

  pub reaches : Gets ⊎ Short ⊎ Stopped
  reaches = go ok refl next refl
    where
      go : (c : Checked) → ok ≡ c → (d : Checked) → next ≡ d → Gets ⊎ Short ⊎ Stopped
      go (Err f) e d g = inr (inr (checked f e (sym (first_refuses ok (next or_else space or_else found) f e))))
      go (Ok tt) e (Err f) g =
          inr (inr (second f g
          (sym (first_refuses next (space or_else found) f g ∙ then_next ok (next or_else space or_else found) e))))
      go (Ok tt) e (Ok _) g = elim (dec_lt (length w) work_length) [
        | yes k ↦ inr (inl (record {
          low = k;
          is = sym (first_refuses space found (TooShort work_length) (room_short work_length (length w) k) ∙ then_next next (space or_else found) g
              ∙ then_next ok (next or_else space or_else found) e);
        }))
        | no k ↦ (
            let h : work_length ≤ length w = omega arith in
            inl (record { accepted = e; passed = g; work = h; is = reached e g h })
            )
      ]

-- ---- what the number of an answer says of the checks

-- the refusal of a check: none of the numbers that the walk and the spaces give
abbrev pub Before : Refusal → Type 0
Before f = (refusal_number f ≡ 0 → ⊥) × (refusal_number f ≡ refusal_number NoWord → ⊥) × (refusal_number f ≡ refusal_number (TooShort 0) → ⊥)

pub before_ten : (low high : ℕ) (c : Checked) → 0 < low → high < 10 → Among low high c → (f : Refusal) → c ≡ Err f → Before f
before_ten low high c l h k f e =
    let z = subst (Among low high) e k in
    (λ y. omega (arith, l, z.0, y), λ y. omega (arith, h, z.1, y), λ y. omega (arith, h, z.1, y))

module _ (ok next found : Checked) (w : List ℕ) {Valid : Type 0} (valid : ok ≡ Ok tt → next ≡ Ok tt → work_length ≤ length w → Valid)
    (of_ok : (f : Refusal) → ok ≡ Err f → Before f) (of_next : (f : Refusal) → next ≡ Err f → Before f) (start n : ℕ) (sign : Bool) {r : Answer FoundWord}
    (e : r ≡ word_if start n sign (in_order ok next found w)) where
  by : {c : Checked} → in_order ok next found w ≡ c → outcome r ≡ outcome (word_if start n sign c)
  by z = ap outcome (e ∙ ap (word_if start n sign) z)

  pub gets_asked : (answer_number r ≡ 0) ⊎ (answer_number r ≡ refusal_number NoWord) → Valid
  gets_asked h = elim (reaches ok next found w) [
    | inl g ↦ valid g.accepted g.passed g.work
    | inr (inl s) ↦ elim h [ inl z ↦ absurd (omega (arith, outcome_number r (by s.is), z)) | inr z ↦ absurd (omega (arith, outcome_number r (by s.is), z)) ]
    | inr (inr (checked f q s)) ↦ stopped f (of_ok f q) (outcome_number r (by s))
    | inr (inr (second f q s)) ↦ stopped f (of_next f q) (outcome_number r (by s))
  ]
    where
      stopped : (f : Refusal) → Before f → answer_number r ≡ refusal_number f → Valid
      stopped f b i = elim h [ inl z ↦ absurd (b.0 (sym i ∙ z)) | inr z ↦ absurd (b.1 (sym i ∙ z)) ]

  pub gets_short : (k : ℕ) → answer_number r ≡ refusal_number (TooShort k) → Valid ⊎ ShortWork w r
  gets_short k z = elim (reaches ok next found w) [
    | inl g ↦ inl (valid g.accepted g.passed g.work)
    | inr (inl s) ↦ inr (s.low, by s.is)
    | inr (inr (checked f q s)) ↦ absurd ((of_ok f q).2 (sym (outcome_number r (by s)) ∙ z))
    | inr (inr (second f q s)) ↦ absurd ((of_next f q).2 (sym (outcome_number r (by s)) ∙ z))
  ]
