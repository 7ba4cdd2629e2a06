-- A text that was read: its tables are checked and stand in the result spaces, or why not.
--     cycles_read_lem  the steps of `read_cycles`, run, for a text that was read
--     even, most      the tables that are read have one length, of 3,066 at most
--     one_reading     a right text has the tables of each of its readings
--     read_means      what number and place of the call mean
--     read_returns    a right text whose tables are a good pair is read as it says
--     means_only      what number and place mean allows no others
--     enough_room     result spaces of 3,066 entries are enough for every text
-- Assumes nothing.
use Rattle.std.specs.Prelude.{Ok, Err}
use mathlib.Core.Path.{◌≡◌, refl, sym, ap, subst, ◌∙◌}
use mathlib.Core.Logic.{◌⊎◌, inl, inr}
use mathlib.Core.List.{List, [], ◌∷◌}
use Prim.Native.Nat.{ℕ, suc, ◌-◌, ◌≤◌, ◌<◌}
use native.Mathlib.Omega.{arith}
use native.Mathlib.Decide.{dec_lt}
use lib.ListN.{length, take, drop}
use lib.Seq.{take_at}
use Rattle.call.specs.Refusal.{◌or_else◌, answer_number, answer_place, Checked, Filled}
use Rattle.call.specs.declared.refusal.Refusal.TheVariants.{TooShort, PointCount, BadCycles}
use Rattle.call.specs.declared.refusal.Refusal.{Refusal}
use Rattle.call.specs.Call.{Asks, length_check, at_front, verdict, if_accepted, Leaves}
use Rattle.call.specs.Inner.Fills.{Fills, made_if}
use Rattle.call.proofs.Apart.{refused_accepted}
use Rattle.call.proofs.Laws.{room_short, room_long}
use Rattle.permutations.specs.Check.{pair_check}
use Rattle.permutations.proofs.Accepted.{accepted}
use Rattle.cycle_notation.specs.Form.{Disjoint, points_of}
use Rattle.cycle_notation.specs.Verdict.{Read, Verdict, reads, index_out, leaves, VerdictMeans, right, no_index, wrong}
use Rattle.cycle_notation.specs.Table.{image_by, cycle_table}
use Rattle.cycle_notation.specs.Inner.Reader.{verdict_of}
use Rattle.cycle_notation.proofs.Only.{verdict_only}
use Rattle.cycle_notation.proofs.Wrong.{verdict_means}
use Rattle.cycle_notation.proofs.Stores.{stored_table, length_tabled}
use Rattle.cycle_reading.specs.Reading as reading
use Rattle.cycle_reading.specs.Reading.{table_of_s, table_of_r, check_by, cycles_check, read_table, read_s, read_r, RightAs, OneReading, GoodPair, ReadCyclesMean}
use Rattle.cycle_reading.specs.Inner.PartRun.{made}
use Rattle.cycle_reading.specs.Inner.Front.{VerdictRead}
use Rattle.cycle_reading.proofs.Filling.{read_as_lem, range_of, pair_fault, FaultNumber, table_steps, given_run, read_run}

-- ---- from the tables that the reader left

module _ (t : List ℕ) (A B : List ℕ) (o : Filled) (read : VerdictRead (verdict_of t) o A B) (s r : List ℕ) where
  front_is : (n : ℕ) (q : Read) (l : List ℕ) (cs : List (List ℕ)) → n ≡ q.index → l ≡ made cs → q.index ≤ 3066 → Disjoint q.index [] (points_of cs)
      → take n l ≡ cycle_table q.index cs
  front_is n q l cs e el m d = ap (λ (k : ℕ). take k l) e ∙ ap (take q.index) el ∙ stored_table q.index 3066 cs m d

  pub cycles_read_lem : (n : ℕ) → o ≡ Ok n → {f : Filled} {s' r' : List ℕ}
      → Fills (given_run (take n A) (take n B) s r s' r') (made_if (length (take n A))) f → Fills (read_run t s r s' r') (made_if (length (read_s t))) f
  cycles_read_lem n e {f} {s'} {r'} g =
      let x = read_as_lem t A B o read n e in
      let most = (range_of x.q.index x.is_right.index).1 in
      let S_is = front_is n x.q A x.q.of_s x.index x.S_is most x.is_right.points_S in
      let R_is = front_is n x.q B x.q.of_r x.index x.R_is most x.is_right.points_R in
      subst (λ (v : Verdict). Fills (Asks (check_by v) ∷ table_steps (read_table table_of_s v) (read_table table_of_r v) s r s' r')
      (made_if (length (read_table table_of_s v))) f) (sym x.verdict)
      (subst (λ (b : List ℕ). Fills (given_run (table_of_s x.q) b s r s' r') (made_if (length (table_of_s x.q))) f) R_is
      (subst (λ (a : List ℕ). Fills (given_run a (take n B) s r s' r') (made_if (length a)) f) S_is g))

-- ---- the lengths of the tables

module _ (q : Read) where
  pub long_S : length (table_of_s q) ≡ q.index
  long_S = length_tabled (λ (i : ℕ). image_by q.of_s (suc i) - 1) q.index

  pub long_R : length (table_of_r q) ≡ q.index
  long_R = length_tabled (λ (i : ℕ). image_by q.of_r (suc i) - 1) q.index

module _ (t : List ℕ) where
  pub even : length (read_r t) ≡ length (read_s t)
  even = go (verdict_of t)
    where
      go : (v : Verdict) → length (read_table table_of_r v) ≡ length (read_table table_of_s v)
      go (leaves place) = refl
      go index_out = refl
      go (reads q) = long_R q ∙ sym (long_S q)

  pub most : length (read_s t) ≤ 3066
  most = go (verdict_of t) (verdict_means t)
    where
      go : (v : Verdict) → VerdictMeans t v → length (read_table table_of_s v) ≤ 3066
      go (leaves place) m = omega arith
      go index_out m = omega arith
      go (reads q) (right _ h) = omega (arith, long_S q, (range_of q.index h.index).1)

pub fault : (t : List ℕ) (q : Read) → RightAs t q → FaultNumber (pair_check (table_of_s q) (table_of_r q))
fault t q h =
    let i = range_of q.index h.index in
    pair_fault (table_of_s q) (table_of_r q) (rw (long_S q) i.0) (rw (long_S q) i.1) (long_R q ∙ sym (long_S q))

-- a right text is read as it says
right_read : (t : List ℕ) (q : Read) → RightAs t q → verdict_of t ≡ reads q
right_read t q h = sym (verdict_only t (reads q) (right q h))

pub one_reading : OneReading
one_reading t q h = let e = right_read t q h in (ap (read_table table_of_s) e, ap (read_table table_of_r) e)

-- ---- the verdict of the steps

module _ (t s r s' r' : List ℕ) where
  abbrev room_R : Checked
  room_R = length_check (length (read_r t)) (length r) or_else (Ok tt)

  abbrev rooms : Checked
  rooms = length_check (length (read_s t)) (length s) or_else room_R

  abbrev said : Checked
  said = verdict (read_run t s r s' r')

  stops : (f : Refusal) → cycles_check t ≡ Err f → said ≡ Err f
  stops f e = ap (λ (c : Checked). c or_else rooms) e

  goes_on : cycles_check t ≡ Ok tt → said ≡ rooms
  goes_on e = ap (λ (c : Checked). c or_else rooms) e

  short_S : length s < length (read_s t) → rooms ≡ Err (TooShort (length (read_s t)))
  short_S h = ap (λ (c : Checked). c or_else room_R) (room_short (length (read_s t)) (length s) h)

  first_fits : length (read_s t) ≤ length s → rooms ≡ room_R
  first_fits h = ap (λ (c : Checked). c or_else room_R) (room_long (length (read_s t)) (length s) h)

  short_R : length (read_s t) ≤ length s → length r < length (read_s t) → rooms ≡ Err (TooShort (length (read_s t)))
  short_R h k =
      first_fits h
      ∙ ap (λ (c : Checked). c or_else (Ok tt))
      (subst (λ (n : ℕ). length_check n (length r) ≡ Err (TooShort (length (read_s t)))) (sym (even t))
      (room_short (length (read_s t)) (length r) k))

  both_fit : length (read_s t) ≤ length s → length (read_s t) ≤ length r → rooms ≡ Ok tt
  both_fit h k =
      first_fits h
      ∙ ap (λ (c : Checked). c or_else (Ok tt))
      (subst (λ (n : ℕ). length_check n (length r) ≡ Ok tt) (sym (even t)) (room_long (length (read_s t)) (length r) k))

  either_short : (length s < length (read_s t)) ⊎ (length r < length (read_s t)) → rooms ≡ Err (TooShort (length (read_s t)))
  either_short (inl h) = short_S h
  either_short (inr k) = elim (dec_lt (length s) (length (read_s t))) [ yes h ↦ short_S h | no h ↦ short_R (omega arith) k ]

  pub enough_room : 3066 ≤ length s → 3066 ≤ length r → said ≡ cycles_check t
  enough_room h k = ap (λ (c : Checked). cycles_check t or_else c) (both_fit (omega (arith, most t)) (omega (arith, most t))) ∙ last (cycles_check t)
    where
      last : (c : Checked) → (c or_else (Ok tt)) ≡ c
      last (Ok tt) = refl
      last (Err f) = refl

  -- ---- what number and place mean

  abbrev Meant : Checked → ℕ → Type 0
  Meant c n = ReadCyclesMean t (length s) (length r) s' r' (answer_number c) (if_accepted c n (answer_place c))

  meant : (c : Checked) (n : ℕ) → said ≡ c → length (read_s t) ≡ n → Meant c n → Meant said (length (read_s t))
  meant c n e k m = subst (λ (x : Checked). Meant x (length (read_s t))) (sym e) (subst (Meant c) (sym k) m)

  module _ (l : Leaves (read_run t s r s' r')) where
    -- the tables of a text that is right
    module _ (q : Read) (w : verdict_of t ≡ reads q) (h : RightAs t q) where
      size : length (read_s t) ≡ q.index
      size = ap (λ (v : Verdict). length (read_table table_of_s v)) w ∙ long_S q

      size_R : length (read_r t) ≡ q.index
      size_R = even t ∙ size

      check_is : cycles_check t ≡ pair_check (table_of_s q) (table_of_r q)
      check_is = ap check_by w

      front_S : said ≡ Ok tt → take q.index s' ≡ table_of_s q
      front_S e =
          ap (take q.index) (l.0 ∙ ap (λ (c : Checked). if_accepted c (at_front (read_s t) s) s) e)
          ∙ take_at (read_s t) (drop (length (read_s t)) s) q.index size ∙ ap (read_table table_of_s) w

      front_R : said ≡ Ok tt → take q.index r' ≡ table_of_r q
      front_R e =
          ap (take q.index) (l.1.0 ∙ ap (λ (c : Checked). if_accepted c (at_front (read_r t) r) r) e)
          ∙ take_at (read_r t) (drop (length (read_r t)) r) q.index size_R ∙ ap (read_table table_of_r) w

      no_room : GoodPair t q → cycles_check t ≡ Ok tt → (length s < q.index) ⊎ (length r < q.index)
          → rooms ≡ Err (TooShort (length (read_s t))) → Meant said (length (read_s t))
      no_room g e k z =
          meant (Err (TooShort q.index)) (length (read_s t)) (goes_on e ∙ z ∙ ap (λ (n : ℕ). Err (TooShort n)) size) refl
          (reading.no_room q g k)

      by_room : GoodPair t q → cycles_check t ≡ Ok tt → Meant said (length (read_s t))
      by_room g e = elim (dec_lt (length s) (length (read_s t))) [
        | yes a ↦ no_room g e (inl (omega (arith, size))) (short_S a)
        | no a ↦ elim (dec_lt (length r) (length (read_s t))) [
          | yes b ↦ no_room g e (inr (omega (arith, size))) (short_R (omega arith) b)
          | no b ↦ (let z = goes_on e ∙ both_fit (omega arith) (omega arith) in
              meant (Ok tt) q.index z size
              (reading.tables_made q g (omega (arith, size)) (omega (arith, size)) (front_S z) (front_R z)))
        ]
      ]

      by_check : (c : Checked) → pair_check (table_of_s q) (table_of_r q) ≡ c → Meant said (length (read_s t))
      by_check (Err f) e =
          let k : FaultNumber (Err f) = subst FaultNumber e (fault t q h) in
          meant (Err f) (length (read_s t)) (stops f (check_is ∙ e)) refl
          (reading.no_pair q h f (record {
            first = e;
            low = k.0;
            high = k.1;
            none = λ p. refused_accepted (sym e ∙ (accepted (table_of_s q) (table_of_r q)).1 p);
          }))
      by_check (Ok tt) e = by_room (record { right = h; passport = (accepted (table_of_s q) (table_of_r q)).0 e }) (check_is ∙ e)

    pub read_means : Meant said (length (read_s t))
    read_means = go (verdict_of t) refl (verdict_means t)
      where
        go : (v : Verdict) → verdict_of t ≡ v → VerdictMeans t v → Meant said (length (read_s t))
        go (leaves place) w (wrong _ i u) =
            meant (Err (BadCycles place)) (length (read_s t)) (stops (BadCycles place) (ap check_by w)) refl (reading.leaves_form place i u)
        go index_out w (no_index i) =
            meant (Err PointCount) (length (read_s t)) (stops PointCount (ap check_by w)) refl (reading.no_index i)
        go (reads q) w (right _ h) = by_check q w h (pair_check (table_of_s q) (table_of_r q)) refl

  -- ---- the other way

  -- a right text with a good pair, and room for its tables: they are what is read
  pub record Returned (q : Read) : Type 0 where
    pub answer : verdict (read_run t s r s' r') ≡ Ok tt
    pub S_is : read_s t ≡ table_of_s q
    pub R_is : read_r t ≡ table_of_r q

  good_check : (q : Read) → GoodPair t q → cycles_check t ≡ Ok tt
  good_check q g = ap check_by (right_read t q g.right) ∙ (accepted (table_of_s q) (table_of_r q)).1 g.passport

  good_size : (q : Read) → GoodPair t q → length (read_s t) ≡ q.index
  good_size q g = ap (λ (v : Verdict). length (read_table table_of_s v)) (right_read t q g.right) ∙ long_S q

  pub read_returns : (q : Read) → GoodPair t q → q.index ≤ length s → q.index ≤ length r → Returned q
  read_returns q g a b = record {
    answer = goes_on (good_check q g) ∙ both_fit (omega (arith, good_size q g)) (omega (arith, good_size q g));
    S_is = ap (read_table table_of_s) (right_read t q g.right);
    R_is = ap (read_table table_of_r) (right_read t q g.right);
  }

  abbrev Told : (number place : ℕ) → Type 0
  Told number place = (number ≡ answer_number said) × (place ≡ if_accepted said (length (read_s t)) (answer_place said))

  told : (c : Checked) (n : ℕ) → said ≡ c → length (read_s t) ≡ n → Told (answer_number c) (if_accepted c n (answer_place c))
  told c n e k = (
    ap (λ (x : Checked). answer_number x) (sym e),
    ap (λ (m : ℕ). if_accepted c m (answer_place c)) (sym k)
        ∙ ap (λ (x : Checked). if_accepted x (length (read_s t)) (answer_place x)) (sym e),
  )

  shorter : (q : Read) → length (read_s t) ≡ q.index → (length s < q.index) ⊎ (length r < q.index)
      → (length s < length (read_s t)) ⊎ (length r < length (read_s t))
  shorter q e (inl h) = inl (omega arith)
  shorter q e (inr h) = inr (omega arith)

  pub means_only : (number place : ℕ) → ReadCyclesMean t (length s) (length r) s' r' number place → Told number place
  means_only number place (reading.leaves_form _ i w) =
      told (Err (BadCycles place)) (length (read_s t))
      (stops (BadCycles place) (ap check_by (sym (verdict_only t (leaves place) (wrong place i w))))) refl
  means_only number place (reading.no_index i) =
      told (Err PointCount) (length (read_s t)) (stops PointCount (ap check_by (sym (verdict_only t index_out (no_index i))))) refl
  means_only number place (reading.no_pair q h f k) =
      told (Err f) (length (read_s t)) (stops f (ap check_by (right_read t q h) ∙ k.first)) refl
  means_only number place (reading.no_room q g k) =
      told (Err (TooShort q.index)) (length (read_s t))
      (goes_on (good_check q g) ∙ either_short (shorter q (good_size q g) k) ∙ ap (λ (n : ℕ). Err (TooShort n)) (good_size q g)) refl
  means_only number place (reading.tables_made q g a b es er) = told (Ok tt) q.index (read_returns q g a b).answer (good_size q g)
