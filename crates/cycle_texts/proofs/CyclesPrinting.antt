-- The lines for a text in cycle notation.
--     Made, made_pair   where tables come out: they are a pair of permutations of as many points as the answer says
--     answer_cut        the answer to an input that goes on, as the code makes it
--     front_of          the tables stand at the front of the lent ones
--     pair_as, fits_as  the text of a pair, and that it fits, for equal tables
--     lines_by_lem      the lines for an answer
--     printed           what the bytes mean
-- Assumes nothing.
use Rattle.std.specs.Prelude.{Ok, Err}
use mathlib.Core.Path.{◌≡◌, refl, sym, ap, subst, ◌∙◌}
use mathlib.Core.Bool.{Bool, true, false}
use mathlib.Core.List.{List, [], ◌++◌, append-nil}
use Prim.Native.Nat.{ℕ, ◌<◌}
use lib.Dec.{ltb}
use lib.ListN.{length, take, drop}
use lib.Seq.{take_at}
use borrow.Author.Tests.{lt-ltb, le-ltb, ltb-true}
use Rattle.basics.specs.Choice.{pick}
use Rattle.basics.proofs.Choice.{pick_true, pick_false}
use Rattle.call.specs.Refusal.{Checked, Filled}
use Rattle.call.specs.declared.refusal.Refusal.TheVariants.{PointCount, BadCycles}
use Rattle.call.specs.declared.refusal.Refusal.{Refusal}
use Rattle.call.proofs.Apart.{refused_accepted, refused_made}
use Rattle.call.specs.Call.{if_accepted, at_front}
use Rattle.call.specs.Inner.Fills.{made_if}
use Rattle.text.specs.Reading.{text_most}
use Rattle.text.specs.Line.{refusal_line}
use Rattle.permutations.specs.Check.{pair_check, Passport}
use Rattle.permutations.proofs.Accepted.{accepted}
use Rattle.cycle_notation.specs.Piece.{run_value}
use Rattle.cycle_notation.specs.Verdict.{Read, Verdict, reads, index_out, leaves, VerdictMeans, right, no_index, wrong}
use Rattle.cycle_notation.specs.Inner.Reader.{verdict_of}
use Rattle.cycle_notation.proofs.Wrong.{verdict_means}
use Rattle.cycle_reading.specs.Reading.{table_of_s, table_of_r, check_by, cycles_check, read_table, read_s, read_r, RightAs}
use Rattle.cycle_reading.proofs.Filling.{FaultNumber}
use Rattle.cycle_reading.proofs.Answered.{even, fault}
use Rattle.symbol_texts.specs.Pair.{pair_text, pair_lines_by}
use Rattle.symbol_texts.specs.Inner.PairFits.{PairFits}
use Rattle.symbol_texts.proofs.PairLines.{pair_fits}
use Rattle.symbol_texts.proofs.PairReadBack.{pair_read_back}
use Rattle.cycle_texts.specs.Cut.{without_run, last_run, over_most, judged_text}
use Rattle.cycle_texts.specs.CyclesAnswer as answer
use Rattle.cycle_texts.specs.CyclesAnswer.{cycles_read, cut_by, cycles_answer, cycles_text, CyclesPrinted}
use Rattle.cycle_texts.specs.Inner.Ends.{cut_answer}
use Rattle.cycle_texts.proofs.CyclesRuns.{pieces_split}
use Rattle.cycle_texts.proofs.Onward.{Fate, out_already, lost_already, open_short, open_right, fate, Sealed, sealed_out, sealed_at, sealed_by_run}
use Rattle.cycle_texts.proofs.Cutting.{pair_cut}

-- ---- where tables come out

pub record Made (text : List ℕ) (n : ℕ) : Type 0 where
  pub check : cycles_check text ≡ Ok tt
  pub S_long : length (read_s text) ≡ n
  pub R_long : length (read_r text) ≡ n
  pub passport : Passport (read_s text) (read_r text)

made_read : (text : List ℕ) (n : ℕ) → cycles_read text ≡ Ok n → Made text n
made_read text n e =
    let x = ok (cycles_check text) e in
    record { check = x.0; S_long = x.1; R_long = even text ∙ x.1; passport = good (verdict_of text) x.0 }
  where
    made_index : {k m : ℕ} → ◌≡◌ {A = Filled} (Ok k) (Ok m) → k ≡ m
    made_index e = cc

    ok : (c : Checked) → made_if (length (read_s text)) c ≡ Ok n → (c ≡ Ok tt) × (length (read_s text) ≡ n)
    ok (Ok tt) z = (refl, made_index z)
    ok (Err f) z = refused_made z

    good : (v : Verdict) → check_by v ≡ Ok tt → Passport (read_table table_of_s v) (read_table table_of_r v)
    good (leaves place) z = refused_accepted z
    good index_out z = refused_accepted z
    good (reads q) z = (accepted (table_of_s q) (table_of_r q)).0 z

cut_never : {X : Type 0} (end : ℕ) (v : Verdict) (n : ℕ) → cut_by end v ≡ Ok n → X
cut_never end (leaves place) n e = refused_made e
cut_never end index_out n e = refused_made e
cut_never end (reads q) n e = refused_made e

pub made_pair : (longer : Bool) (text : List ℕ) (n : ℕ) → cycles_answer longer text ≡ Ok n → Made (judged_text longer text) n
made_pair true text n e = cut_never (length (judged_text true text)) (verdict_of (judged_text true text)) n e
made_pair false text n e = made_read (judged_text false text) n e

-- what the code makes of the answer to the part that is judged
cut_verdict : (end : ℕ) (t : List ℕ) (v : Verdict) → VerdictMeans t v
    → cut_answer end (made_if (length (read_table table_of_s v)) (check_by v)) ≡ cut_by end v
cut_verdict end t (leaves place) m = by_place (ltb place end)
  where
    by_place : (b : Bool) → ◌≡◌ {A = Filled} (Err (pick b (BadCycles place) (BadCycles text_most))) (Err (BadCycles (pick b place text_most)))
    by_place true = refl
    by_place false = refl
cut_verdict end t index_out m = refl
cut_verdict end t (reads q) (right _ h) = go (pair_check (table_of_s q) (table_of_r q)) refl
  where
    go : (c : Checked) → pair_check (table_of_s q) (table_of_r q) ≡ c
        → cut_answer end (made_if (length (table_of_s q)) c) ≡ Err (BadCycles text_most)
    go (Err f) e =
        let k : FaultNumber (Err f) = subst FaultNumber e (fault t q h) in
        ap Err (pair_cut end f k.0 k.1)
    go (Ok tt) e = refl

pub answer_cut : (longer : Bool) (text : List ℕ) (end : ℕ) (a : Filled) → end ≡ length (judged_text longer text) → a ≡ cycles_read (judged_text longer text)
    → longer ≡ true
    → cut_answer end a ≡ cycles_answer longer text
answer_cut longer text end a n e h =
    ap (cut_answer end) e
    ∙ cut_verdict end (judged_text longer text) (verdict_of (judged_text longer text)) (verdict_means (judged_text longer text))
    ∙ ap (λ (k : ℕ). cut_by k (verdict_of (judged_text longer text))) n
    ∙ sym (pick_true longer _ _ h)

-- the table at the front of what is left
pub front_of : (c : Checked) (n : ℕ) (t out out' : List ℕ) → c ≡ Ok tt → length t ≡ n → out' ≡ if_accepted c (at_front t out) out
    → take n out' ≡ t
front_of c n t out out' e l h =
    ap (take n) (h ∙ ap (λ (x : Checked). if_accepted x (at_front t out) out) e) ∙ take_at t (drop (length t) out) n l

pub pair_as : {s s' r r' : List ℕ} → s ≡ s' → r ≡ r' → pair_text s r ≡ pair_text s' r'
pair_as e f = cc

pub fits_as : {s s' r r' : List ℕ} → s ≡ s' → r ≡ r' → PairFits s' r' → PairFits s r
fits_as {s} {s'} {r} {r'} e f p = rw (e, f) p

pub lines_by_lem : (longer : Bool) (text : List ℕ) (a : Filled) → a ≡ cycles_answer longer text
    → pair_lines_by a (read_s (judged_text longer text)) (read_r (judged_text longer text)) ≡ cycles_text longer text
unfolding cycles_text
lines_by_lem longer text a e = ap (λ (x : Filled). pair_lines_by x (read_s (judged_text longer text)) (read_r (judged_text longer text))) e

-- ---- what the bytes mean

module _ (text : List ℕ) where
  as_printed : {longer : Bool} {bytes bytes' : List ℕ} → bytes ≡ bytes' → CyclesPrinted text longer bytes' → CyclesPrinted text longer bytes
  as_printed {longer} {bytes} {bytes'} e p = rw e p

  -- of a text

  abbrev checked_lines : Read → Checked → List ℕ
  checked_lines q c = pair_lines_by (made_if (length (table_of_s q)) c) (table_of_s q) (table_of_r q)

  by_check : (q : Read) → RightAs text q → (c : Checked) → pair_check (table_of_s q) (table_of_r q) ≡ c → CyclesPrinted text false (checked_lines q c)
  by_check q h (Err f) e =
      let k : FaultNumber (Err f) = subst FaultNumber e (fault text q h) in
      answer.no_pair q h f (record {
        first = e;
        low = k.0;
        high = k.1;
        none = λ p. refused_accepted (sym e ∙ (accepted (table_of_s q) (table_of_r q)).1 p);
      })
  by_check q h (Ok tt) e =
      let p = (accepted (table_of_s q) (table_of_r q)).0 e in
      answer.pair_printed q (record { right = h; passport = p }) (pair_read_back (table_of_s q) (table_of_r q) (pair_fits (table_of_s q) (table_of_r q) p))

  by_verdict : (v : Verdict) → VerdictMeans text v
      → CyclesPrinted text false (pair_lines_by (made_if (length (read_table table_of_s v)) (check_by v)) (read_table table_of_s v) (read_table table_of_r v))
  by_verdict (leaves place) (wrong _ n w) = answer.leaves_form place n w
  by_verdict index_out (no_index o) = answer.no_index o
  by_verdict (reads q) (right _ h) = by_check q h (pair_check (table_of_s q) (table_of_r q)) refl

  -- of an input that goes on behind it

  abbrev cut_lines : List ℕ → Verdict → List ℕ
  cut_lines t v = pair_lines_by (cut_by (length t) v) (read_s t) (read_r t)

  follows : {v : Verdict} (f : Refusal) → check_by v ≡ Err f → ((rest : List ℕ) → verdict_of (text ++ rest) ≡ v)
      → CyclesPrinted text true (refusal_line f)
  follows {v} f said all = answer.whatever_follows f (λ rest. ap check_by (all rest) ∙ said)

  by_place : (t : List ℕ) (place : ℕ) → place < length t → ((rest : List ℕ) → verdict_of (text ++ rest) ≡ leaves place)
      → CyclesPrinted text true (cut_lines t (leaves place))
  by_place t place l all =
      as_printed (ap (λ (k : ℕ). refusal_line (BadCycles k)) (pick_true (ltb place (length t)) place text_most (lt-ltb place (length t) l)))
      (follows (BadCycles place) refl all)

  by_fate : (v : Verdict) → Fate (without_run text) v → CyclesPrinted text true (cut_lines (without_run text) v)
  by_fate v (out_already all) = follows PointCount refl (λ rest. all (text ++ rest) _ (pieces_split text rest))
  by_fate v (lost_already place l all) = by_place (without_run text) place l (λ rest. all (text ++ rest) _ (pieces_split text rest))
  by_fate v (open_short place l c) =
      as_printed (ap (λ (k : ℕ). refusal_line (BadCycles k))
      (pick_false (ltb place (length (without_run text))) place text_most (le-ltb place (length (without_run text)) l)))
      (answer.goes_on c)
  by_fate v (open_right q c) = answer.goes_on c

  by_seal : (v : Verdict) → Sealed text v → CyclesPrinted text true (cut_lines text v)
  by_seal v (sealed_out all) = follows PointCount refl all
  by_seal v (sealed_at place l all) = by_place text place l all

  seal_said : (v : Verdict) → Sealed text v → v ≡ verdict_of text
  seal_said v (sealed_out all) = sym (all []) ∙ ap verdict_of (append-nil text)
  seal_said v (sealed_at place l all) = sym (all []) ∙ ap verdict_of (append-nil text)

  cut_printed : (o : Bool) → over_most text ≡ o
      → CyclesPrinted text true (cut_lines (pick o text (without_run text)) (verdict_of (pick o text (without_run text))))
  cut_printed true e =
      let s = sealed_by_run text (ltb-true 3066 (run_value 0 (last_run text)) e) (verdict_of (without_run text))
      (fate (without_run text) _ (verdict_means (without_run text))) in
      subst (λ (v : Verdict). CyclesPrinted text true (cut_lines text v)) (seal_said s.verdict s.is) (by_seal s.verdict s.is)
  cut_printed false e = by_fate (verdict_of (without_run text)) (fate (without_run text) _ (verdict_means (without_run text)))

  pub printed : (longer : Bool) (bytes : List ℕ) → bytes ≡ cycles_text longer text → CyclesPrinted text longer bytes
  unfolding cycles_text judged_text
  printed true bytes e = as_printed e (cut_printed (over_most text) refl)
  printed false bytes e = as_printed e (by_verdict (verdict_of text) (verdict_means text))
