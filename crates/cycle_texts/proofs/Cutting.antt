-- The part of a text that is judged, as the code finds it, and the refusal of an input that goes on.
--     run_begin, run_step, run_found, run_none    the loop back over the digits at the end of a text
--     judged_whole, judged_cut, judged_over       where the part that is judged ends
--     stays_27, past_end                the refusal by the test that the code makes
--     pair_cut                          one of the refusals 13 to 15 is 27 with the place 65,536
--     read_as_lem, tables_left              the answer of `read_cycles` and what it leaves, in tables of the program's length
--     answer_whole                      the answer to an input that does not go on
-- Assumes nothing.
use mathlib.Core.Path.{◌≡◌, refl, sym, ap, ◌∙◌}
use mathlib.Core.Bool.{Bool, true, false}
use mathlib.Core.List.{List, [], ◌∷◌, ◌++◌}
use Prim.Native.Nat.{ℕ, suc, ◌-◌, ◌≤◌, ◌<◌}
use native.Mathlib.Omega.{arith}
use lib.Dec.{ltb}
use lib.ListN.{length, take, drop, get_or}
use lib.Seq.{take-length, take-suc, length-take-le, drop-append_seam}
use borrow.Author.Tests.{lt-ltb, le-ltb}
use Rattle.basics.proofs.Choice.{pick_true, pick_false}
use Rattle.call.specs.Refusal.{refusal_number, Checked, Filled}
use Rattle.call.specs.declared.refusal.Refusal.TheVariants.{BadVertexCount, TableLength, VertexEntry, NotNeighbours, NoZero, BadPairing, NoOddSide}
use Rattle.call.specs.declared.refusal.Refusal.TheVariants.{MatrixEntry, BadDeterminant, NoWord, TooShort, PointCount, TableEntry, WrongOrder}
use Rattle.call.specs.declared.refusal.Refusal.TheVariants.{Unreached, EntryTooLarge, LevelTooLarge, NoGenus, BadText, BadLevel, LargeIndex}
use Rattle.call.specs.declared.refusal.Refusal.TheVariants.{TooLargeToDraw, NotFreeLabel, LargeIntersection, NotListedBefore, FalseClaim, BadCycles, LargeEntry}
use Rattle.call.specs.declared.refusal.Refusal.{Refusal}
use Rattle.call.specs.Call.{if_accepted, at_front}
use Rattle.call.specs.Inner.Fills.{Fills, made_if}
use Rattle.text.specs.Reading.{text_most}
use Rattle.cycle_notation.specs.Piece.{digit_byte, run_value}
use Rattle.cycle_reading.specs.Reading.{cycles_check, read_s, read_r}
use Rattle.cycle_reading.proofs.Filling.{read_run}
use Rattle.cycle_reading.proofs.Answered.{enough_room}
use Rattle.cycle_reading.specs.Inner.Hand.{DigitsRead}
use Rattle.cycle_reading.specs.declared.Digits.{Digits}
use Rattle.cycle_texts.specs.Cut.{without_run, last_run, over_most, judged_text}
use Rattle.cycle_texts.specs.CyclesAnswer.{cycles_read, cycles_answer}
use Rattle.cycle_texts.specs.Inner.Ends.{RunBegins, JudgedTo, cut_refusal, CyclesLeave}
use Rattle.cycle_texts.proofs.CyclesRuns.{split_run, digit_more, other_more}

-- ---- back over the digits

pub run_begin : (t : List ℕ) → without_run t ≡ without_run (take (length t) t)
run_begin t = ap without_run (sym (take-length t))

module _ (t : List ℕ) (at : ℕ) (low : 0 < at) (high : at ≤ length t) where
  one_less : take at t ≡ take (at - 1) t ++ (get_or t (at - 1) 0 ∷ [])
  one_less =
      let n : suc (at - 1) ≡ at = omega arith in
      ap (λ (k : ℕ). take k t) (sym n) ∙ take-suc t (at - 1) 0 (omega arith)

  pub run_step : without_run t ≡ without_run (take at t) → digit_byte (get_or t (at - 1) 0) ≡ true → without_run t ≡ without_run (take (at - 1) t)
  run_step e d = e ∙ ap without_run one_less ∙ digit_more (take (at - 1) t) (get_or t (at - 1) 0) d

  pub run_found : without_run t ≡ without_run (take at t) → digit_byte (get_or t (at - 1) 0) ≡ false → RunBegins t at
  run_found e d = record {
    inside = high;
    whole = e ∙ ap without_run one_less ∙ other_more (take (at - 1) t) (get_or t (at - 1) 0) d ∙ sym one_less;
  }

pub run_none : (t : List ℕ) (at : ℕ) → at ≡ 0 → without_run t ≡ without_run (take at t) → RunBegins t at
unfolding without_run
run_none t at z e = record { inside = omega arith; whole = e ∙ ap (λ (k : ℕ). without_run (take k t)) z ∙ ap (λ (k : ℕ). take k t) (sym z) }

-- ---- the part that is judged

run_at : (t : List ℕ) (at : ℕ) → RunBegins t at → drop at t ≡ last_run t
run_at t at b =
    let n : at ≡ length (without_run t) = sym (ap length b.whole ∙ length-take-le at t b.inside) in
    ap (λ (k : ℕ). drop k t) n ∙ ap (drop (length (without_run t))) (sym (split_run t)) ∙ drop-append_seam (without_run t) (last_run t)

pub judged_whole : (longer : Bool) (t : List ℕ) → longer ≡ false → JudgedTo longer t (length t)
unfolding judged_text
judged_whole longer t e = record {
  inside = omega arith;
  long = sym (length-take-le (length t) t (omega arith));
  same = take-length t ∙ sym (pick_false longer _ t e);
}

module _ (longer : Bool) (t : List ℕ) (at : ℕ) (r : Digits) (go : longer ≡ true) (b : RunBegins t at) (d : DigitsRead t at r) where
  said : run_value 0 (drop at t) ≡ run_value 0 (last_run t)
  said = ap (run_value 0) (run_at t at b)

  pub judged_cut : r.value ≤ 3066 → JudgedTo longer t at
  unfolding judged_text
  judged_cut h =
      let small : run_value 0 (last_run t) ≤ 3066 = omega (arith, d.value_is, said) in
      record {
        inside = b.inside;
        long = sym (length-take-le at t b.inside);
        same = sym b.whole ∙ sym (pick_true longer _ t go ∙ pick_false (over_most t) t (without_run t) (le-ltb 3066 (run_value 0 (last_run t)) small));
      }

  pub judged_over : 3066 < r.value → JudgedTo longer t (length t)
  unfolding judged_text
  judged_over h =
      let big : 3066 < run_value 0 (last_run t) = omega (arith, d.value_is, said) in
      record {
        inside = omega arith;
        long = sym (length-take-le (length t) t (omega arith));
        same = take-length t ∙ sym (pick_true longer _ t go ∙ pick_true (over_most t) t (without_run t) (lt-ltb 3066 (run_value 0 (last_run t)) big));
      }

-- ---- the refusal

-- one of the refusals 13 to 15
pub pair_cut : (end : ℕ) (f : Refusal) → 13 ≤ refusal_number f → refusal_number f ≤ 15 → cut_refusal end f ≡ BadCycles text_most
pair_cut end BadVertexCount l h = refl
pair_cut end (TableLength n) l h = refl
pair_cut end (VertexEntry n) l h = refl
pair_cut end (NotNeighbours n) l h = refl
pair_cut end NoZero l h = refl
pair_cut end (BadPairing n) l h = refl
pair_cut end NoOddSide l h = refl
pair_cut end (MatrixEntry n) l h = refl
pair_cut end (BadDeterminant n) l h = refl
pair_cut end NoWord l h = refl
pair_cut end (TooShort n) l h = refl
pair_cut end PointCount l h = absurd (omega arith)
pair_cut end (TableEntry n) l h = refl
pair_cut end (WrongOrder n) l h = refl
pair_cut end (Unreached n) l h = refl
pair_cut end (EntryTooLarge n) l h = refl
pair_cut end LevelTooLarge l h = refl
pair_cut end NoGenus l h = refl
pair_cut end (BadText n) l h = refl
pair_cut end BadLevel l h = refl
pair_cut end LargeIndex l h = refl
pair_cut end (TooLargeToDraw n) l h = refl
pair_cut end (NotFreeLabel n) l h = refl
pair_cut end LargeIntersection l h = refl
pair_cut end (NotListedBefore n) l h = refl
pair_cut end (FalseClaim n) l h = refl
pair_cut end (BadCycles n) l h = absurd (omega arith)
pair_cut end (LargeEntry n) l h = refl

-- a place inside the part that is judged, and one past it
pub stays_27 : (end p : ℕ) → p < end → BadCycles p ≡ cut_refusal end (BadCycles p)
stays_27 end p h = sym (pick_true (ltb p end) _ _ (lt-ltb p end h))

pub past_end : (end p : ℕ) → end ≤ p → BadCycles text_most ≡ cut_refusal end (BadCycles p)
past_end end p h = sym (pick_false (ltb p end) _ _ (le-ltb p end h))

-- ---- the answer

module _ (text s r s' r' : List ℕ) {t : List ℕ} {f : Filled} (et : t ≡ text) (es : length s ≡ 3066) (er : length r ≡ 3066)
    (g : Fills (read_run t s r s' r') (made_if (length (read_s t))) f) where
  pub read_as_lem : f ≡ cycles_read text
  read_as_lem = g.answer ∙ ap (made_if (length (read_s t))) (enough_room t s r s' r' (omega arith) (omega arith)) ∙ ap cycles_read et

  pub tables_left : (longer : Bool) (whole : List ℕ) → text ≡ judged_text longer whole → CyclesLeave longer whole s r s' r'
  tables_left longer whole e =
      let c = enough_room t s r s' r' (omega arith) (omega arith) in
      record {
        S_left = g.leaves.0 ∙ ap (λ (x : Checked). if_accepted x (at_front (read_s t) s) s) c
            ∙ ap (λ (x : List ℕ). if_accepted (cycles_check x) (at_front (read_s x) s) s) (et ∙ e);
        R_left = g.leaves.1.0 ∙ ap (λ (x : Checked). if_accepted x (at_front (read_r t) r) r) c
            ∙ ap (λ (x : List ℕ). if_accepted (cycles_check x) (at_front (read_r x) r) r) (et ∙ e);
      }

pub answer_whole : (longer : Bool) (text : List ℕ) (a : Filled) → a ≡ cycles_read (judged_text longer text) → longer ≡ false → a ≡ cycles_answer longer text
answer_whole longer text a e h = e ∙ sym (pick_false longer _ _ h)
