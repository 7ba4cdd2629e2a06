-- The tables that were read, checked and put into the result spaces.
--     table_steps, given_run, read_run    the steps of `give` and `read_cycles`, by what stands in the result spaces before and after
--     reads_in, front_long                a text that was read has an index up to 3,066, and tables long enough
-- Assumes nothing.
use Rattle.std.specs.Prelude.{Ok, Err}
use mathlib.Core.Path.{◌≡◌, refl, sym, ap, subst, ◌∙◌}
use mathlib.Core.Bool.{Bool, true, false}
use mathlib.Core.List.{List, [], ◌∷◌}
use Prim.Native.Nat.{ℕ, ◌≤◌}
use native.Mathlib.Omega.{arith}
use lib.Dec.{leb, ltb}
use lib.ListN.{length, take}
use lib.Seq.{length-take-le}
use borrow.Author.Tests.{leb-true}
use Rattle.basics.specs.Count.{first}
use Rattle.basics.proofs.Choice.{and_left, and_right}
use Rattle.call.specs.Refusal.{◌or_else◌, refusal_number, Checked, Filled}
use Rattle.call.specs.declared.refusal.Refusal.TheVariants.{TableEntry, WrongOrder, Unreached}
use Rattle.call.specs.declared.refusal.Refusal.{Refusal}
use Rattle.call.specs.Call.{Step, Asks, Gives, length_check, at_front}
use Rattle.symbol.specs.Check.{refuse}
use Rattle.permutations.specs.Check.{bad_entry, check13, check14, check15, twice_moved, thrice_moved, not_reached, pair_check}
use Rattle.permutations.proofs.Answering.{count_passed}
use Rattle.cycle_notation.specs.Form.{in_range}
use Rattle.cycle_notation.specs.Verdict.{Read, Verdict, reads, VerdictMeans, right, no_index, wrong}
use Rattle.cycle_notation.specs.Inner.Reader.{verdict_of}
use Rattle.cycle_notation.specs.Inner.Stores.{identity}
use Rattle.cycle_notation.proofs.Wrong.{verdict_means}
use Rattle.cycle_notation.proofs.Stores.{length_stored, length_tabled}
use Rattle.cycle_reading.specs.Reading.{cycles_check, read_s, read_r, RightAs}
use Rattle.cycle_reading.specs.Inner.PartRun.{made}
use Rattle.cycle_reading.specs.Inner.Front.{VerdictRead}

clash : {X : Type 0} → ◌≡◌ {A = ℕ} 0 1 → X
clash e = absurd (omega arith)

-- ---- tables given

abbrev pub table_steps : (a b s r s' r' : List ℕ) → List Step
table_steps a b s r s' r' =
    Asks (length_check (length a) (length s)) ∷ Gives (at_front a s) s s' ∷ Asks (length_check (length b) (length r)) ∷ Gives (at_front b r) r r' ∷ []

abbrev pub given_run : (a b s r s' r' : List ℕ) → List Step
given_run a b s r s' r' = Asks (pair_check a b) ∷ table_steps a b s r s' r'

-- ---- the fault of a pair of tables of one length in range is one of 13 to 15

abbrev pub FaultNumber : Checked → Type 0
FaultNumber (Err f) = (13 ≤ refusal_number f) × (refusal_number f ≤ 15)
FaultNumber (Ok tt) = Unit {0}

fault_at : (b : Bool) (f : Refusal) → (13 ≤ refusal_number f) × (refusal_number f ≤ 15) → FaultNumber (refuse b f)
fault_at true f h = h
fault_at false f h = tt

module _ (t : List ℕ) where
  fault_13 : FaultNumber (check13 t)
  fault_13 = fault_at (ltb (first (bad_entry t) (length t)) (length t)) (TableEntry (first (bad_entry t) (length t))) (omega arith, omega arith)

  fault_14 : (moved : List ℕ → ℕ → Bool) → FaultNumber (check14 moved t)
  fault_14 moved = fault_at (ltb (first (moved t) (length t)) (length t)) (WrongOrder (first (moved t) (length t))) (omega arith, omega arith)

fault_15 : (s r : List ℕ) → FaultNumber (check15 s r)
fault_15 s r = fault_at (ltb (first (not_reached s r) (length s)) (length s)) (Unreached (first (not_reached s r) (length s))) (omega arith, omega arith)

fault_else : (c d : Checked) → FaultNumber c → FaultNumber d → FaultNumber (c or_else d)
fault_else (Err f) d h k = h
fault_else (Ok tt) d h k = k

pub pair_fault : (s r : List ℕ) → 1 ≤ length s → length s ≤ 3066 → length r ≡ length s → FaultNumber (pair_check s r)
pair_fault s r a b e =
    subst FaultNumber (count_passed s r a b e)
    (fault_else (check13 s) (check13 r or_else check14 twice_moved s or_else check14 thrice_moved r or_else check15 s r) (fault_13 s)
    (fault_else (check13 r) (check14 twice_moved s or_else check14 thrice_moved r or_else check15 s r) (fault_13 r)
    (fault_else (check14 twice_moved s) (check14 thrice_moved r or_else check15 s r) (fault_14 s twice_moved)
    (fault_else (check14 thrice_moved r) (check15 s r) (fault_14 r thrice_moved) (fault_15 s r)))))

-- ---- what was read

abbrev pub read_run : (t s r s' r' : List ℕ) → List Step
read_run t s r s' r' = Asks (cycles_check t) ∷ table_steps (read_s t) (read_r t) s r s' r'

pub range_of : (n : ℕ) → in_range n ≡ true → (1 ≤ n) × (n ≤ 3066)
range_of n e = (leb-true 1 n (and_left _ _ e), leb-true n 3066 (and_right (leb 1 n) _ e))

length_made : (cs : List (List ℕ)) → length (made cs) ≡ 3066
unfolding identity
length_made cs = length_stored cs (identity 3066) ∙ length_tabled (λ (i : ℕ). i) 3066

reads_same : {a b : ℕ} → ◌≡◌ {A = Filled} (Ok a) (Ok b) → a ≡ b
reads_same e = cc

module _ (t : List ℕ) (A B : List ℕ) (o : Filled) (read : VerdictRead (verdict_of t) o A B) where
  -- what was read of a text that is right
  pub record ReadAs (n : ℕ) : Type 0 where
    pub q : Read
    pub verdict : verdict_of t ≡ reads q
    pub is_right : RightAs t q
    pub index : n ≡ q.index
    pub S_is : A ≡ made q.of_s
    pub R_is : B ≡ made q.of_r

  pub read_as_lem : (n : ℕ) → o ≡ Ok n → ReadAs n
  read_as_lem n e = go (verdict_of t) refl (verdict_means t) read
    where
      go : (v : Verdict) → verdict_of t ≡ v → VerdictMeans t v → VerdictRead v o A B → ReadAs n
      go v w (right q h) k = record {
        q = q;
        verdict = w;
        is_right = h;
        index = reads_same (sym e ∙ k.returned);
        S_is = k.kept.0;
        R_is = k.kept.1;
      }
      go v w (no_index i) k = let z = sym e ∙ k.returned in clash (cc)
      go v w (wrong p i u) k = let z = sym e ∙ k.returned in clash (cc)

  reads_low : (n : ℕ) → o ≡ Ok n → n ≤ 3066
  reads_low n e = let x = read_as_lem n e in let h = range_of x.q.index x.is_right.index in omega (arith, x.index, h.1)

  reads_long : (n : ℕ) → o ≡ Ok n → (length A ≡ 3066) × (length B ≡ 3066)
  reads_long n e = let x = read_as_lem n e in (ap length x.S_is ∙ length_made x.q.of_s, ap length x.R_is ∙ length_made x.q.of_r)

  pub reads_in : (n : ℕ) → o ≡ Ok n → (n ≤ length A) × (n ≤ length B)
  reads_in n e = let l = reads_long n e in let h = reads_low n e in (omega (arith, l.0), omega (arith, l.1))

  pub front_long : (n : ℕ) → o ≡ Ok n → (n ≡ length (take n A)) × (n ≡ length (take n B))
  front_long n e = let h = reads_in n e in (sym (length-take-le n A h.0), sym (length-take-le n B h.1))
