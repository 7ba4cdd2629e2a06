-- THE CHECKS FOR ONE MATRIX: what 28 and 9 refuse (`entry_refused`, `unit_refused`) and pass (`matrix_passes`, `passed_matrix`, `matrix_passed`), and their
-- numbers (`matrix_numbers`, `matrix_among`); the run of a call that asks `admit` first (`stop_admitted`, `run_admitted`), and what it gets to (`admitted`).
-- Assumes nothing.
use Rattle.std.specs.Prelude.{Ok, Err}
use mathlib.Core.Path.{◌≡◌, refl, sym, ◌∙◌, ap}
use mathlib.Core.Logic.{◌⊎◌, inl, inr}
use mathlib.Core.Bool.{Bool, true, false, not}
use mathlib.Core.List.{List, ◌∷◌}
use Prim.Native.Nat.{ℕ, ◌≤◌, ◌<◌}
use native.Mathlib.Omega.{arith}
use lib.Dec.{leb, ltb}
use lib.ListN.{length}
use lib.IntN.{ℤ, pos, nat_abs}
use borrow.Author.Tests.{lt-ltb, le-ltb, ltb-false, le-leb, leb-true, not-false}
use Rattle.basics.specs.Count.{first}
use Rattle.basics.proofs.Count.{Clear, first_clear, clear_first, first_le}
use Rattle.matrix.specs.Matrix.{nth, of_list, det}
use Rattle.matrix.specs.Bounds.{Small}
use Rattle.call.specs.Space.{work_length, zeros}
use Rattle.call.specs.Refusal.{◌or_else◌, refusal_number, Checked}
use Rattle.call.specs.declared.refusal.Refusal.TheVariants.{LargeEntry, BadDeterminant}
use Rattle.call.specs.declared.refusal.Refusal.{Refusal}
use Rattle.call.specs.Call.{Step, Asks, Clears, length_check}
use Rattle.call.proofs.Answers.{both_pass}
use Rattle.call.proofs.Numbered.{Among, among_first}
use Rattle.call.proofs.Laws.{Untouched, Run, run_join, admit_stop, admit_pass, room_held}
use Rattle.symbol.specs.Check.{refuse, refuse_at, symbol_check}
use Rattle.symbol.proofs.Accepted.{accepted, passes, among_refuse}
use Rattle.word.specs.Answer.{unit}
use Rattle.word.proofs.Pair.{small_at, unit_is, is_unit}
use Rattle.matrix_word.specs.Answer.{most_entry, oversized, matrix_check}
use Rattle.matrix_word.specs.Claim.{ValidMatrix}
use Rattle.matrix_word.specs.Inner.Ready.{matrix_admitted}

-- ---- 28 and 9

module _ (m : List ℤ) where
  abbrev i : ℕ
  i = first (oversized m) 4

  abbrev nine : Checked
  nine = refuse (not (unit m)) (BadDeterminant 0)

  pub oversized_by : (j : ℕ) (x : ℤ) (r : Bool) → x ≡ nth m j → r ≡ leb (nat_abs x) most_entry → oversized m j ≡ not r
  oversized_by j x r e f = ap not (sym (f ∙ ap (λ (y : ℤ). leb (nat_abs y) most_entry) e))

  within : Clear (oversized m) 4 → (j : ℕ) → j < 4 → nat_abs (nth m j) ≤ most_entry
  within c j h = leb-true (nat_abs (nth m j)) most_entry (not-false (leb (nat_abs (nth m j)) most_entry) (c.none j h))

  pub small_of : 4 ≤ i → Small most_entry (of_list m)
  small_of h =
      let k = first_le (oversized m) 4 in
      let z : first (oversized m) 4 ≡ 4 = omega arith in
      let c = clear_first (oversized m) 4 z in
      record { in_a = within c 0 (omega arith); in_b = within c 1 (omega arith); in_c = within c 2 (omega arith); in_d = within c 3 (omega arith) }

  of_small : Small most_entry (of_list m) → 4 ≤ i
  of_small s =
      let c : Clear (oversized m) 4 = record { none = λ j h. ap not (le-leb (nat_abs (nth m j)) most_entry (small_at most_entry m s j h)) } in
      omega (arith, first_clear (oversized m) 4 c)

  pub entry_refused : i < 4 → Err (LargeEntry i) ≡ matrix_check m
  entry_refused h = rw (lt-ltb i 4 h)

  pub unit_refused : 4 ≤ i → unit m ≡ false → Err (BadDeterminant 0) ≡ matrix_check m
  unit_refused h e = rw (le-ltb i 4 h, e)

  pub matrix_passes : 4 ≤ i → unit m ≡ true → Ok tt ≡ matrix_check m
  matrix_passes h e = rw (le-ltb i 4 h, e)

  pub matrix_passed : Small most_entry (of_list m) → det (of_list m) ≡ pos 1 → matrix_check m ≡ Ok tt
  matrix_passed s d = sym (matrix_passes (of_small s) (is_unit m d))

  pub passed_matrix : matrix_check m ≡ Ok tt → Small most_entry (of_list m) × (det (of_list m) ≡ pos 1)
  passed_matrix e =
      let p = both_pass (refuse_at i 4 LargeEntry) nine e in (
        small_of (ltb-false i 4 (passes (ltb i 4) (LargeEntry i) p.0)),
        unit_is m (not-false (unit m) (passes (not (unit m)) (BadDeterminant 0) p.1)),
      )

  pub matrix_among : Among 9 28 (matrix_check m)
  matrix_among =
      among_first 9 28 (refuse_at i 4 LargeEntry) nine (among_refuse 9 28 (ltb i 4) (LargeEntry i) (omega arith) (omega arith))
      (among_refuse 9 28 (not (unit m)) (BadDeterminant 0) (omega arith) (omega arith))

  pub matrix_numbers : (f : Refusal) → matrix_check m ≡ Err f → (refusal_number f ≡ 28) ⊎ (refusal_number f ≡ 9)
  matrix_numbers f e = go (ltb i 4) (not (unit m)) e
    where
      go : (b c : Bool) → (refuse b (LargeEntry i) or_else refuse c (BadDeterminant 0)) ≡ Err f → (refusal_number f ≡ 28) ⊎ (refusal_number f ≡ 9)
      go true c e = inl (let z : LargeEntry i ≡ f = cc in sym (ap (λ (g : Refusal). refusal_number g) z))
      go false true e = inr (let z : BadDeterminant 0 ≡ f = cc in sym (ap (λ (g : Refusal). refusal_number g) z))
      go false false e = absurd (let z : ◌≡◌ {A = ℕ} 0 1 = cc in omega arith)

-- ---- a call that asks `admit` first

apart : (c d e : Checked) → (c or_else d or_else e) ≡ ((c or_else d) or_else e)
apart (Ok tt) d e = refl
apart (Err f) d e = refl

module _ (v : ℕ) (t m : List ℤ) (w w' : List ℕ) (l : List Step) where
  abbrev space : Checked
  space = length_check work_length (length w)

  abbrev admitting : List Step
  admitting = Asks (symbol_check v t) ∷ Asks (matrix_check m) ∷ Asks space ∷ Clears w w' ∷ l

  pub stop_admitted : (f : Refusal) → Err f ≡ matrix_admitted v t m (length w) → w' ≡ w → Untouched l → Run admitting (Err f)
  stop_admitted f e same u =
      run_join (symbol_check v t) (matrix_check m) (Asks space ∷ Clears w w' ∷ l)
      (admit_stop w l (symbol_check v t or_else matrix_check m) w' f (e ∙ apart (symbol_check v t) (matrix_check m) space) same u)

  pub run_admitted : {d : Checked} → Ok tt ≡ matrix_admitted v t m (length w) → w' ≡ zeros (length w) → Run l d → Run admitting d
  run_admitted e z k =
      run_join (symbol_check v t) (matrix_check m) (Asks space ∷ Clears w w' ∷ l)
      (admit_pass w l (symbol_check v t or_else matrix_check m) w' (e ∙ apart (symbol_check v t) (matrix_check m) space) z k)

pub admitted : (v : ℕ) (t m : List ℤ) (w : List ℕ) → Ok tt ≡ matrix_admitted v t m (length w) → ValidMatrix v t m w
admitted v t m w e =
    let space = length_check work_length (length w) in
    let p = both_pass (symbol_check v t) (matrix_check m or_else space) (sym e) in
    let q = both_pass (matrix_check m) space p.1 in
    let k = passed_matrix m q.0 in
    record { symbol = (accepted v t).0 p.0; work = room_held work_length (length w) q.1; entries = k.0; unit = k.1 }
