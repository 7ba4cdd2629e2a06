-- What a text gives, by the answers of `read`, and what is written.
--     outcome                    a text that isn't too long, by what the first text's reading gives
--     PartRead, part_as          one of the two texts was read, however the code lends it
--     second_is                  the second text, as the code lends it
--     few, enough                whether the first text has more than v
--     counts, no_counts          the counts of the numbers that are handed on
--     too_long                   a text that is too long
--     not_longer                 a text that fits into the buffer
--     lines_as                   the lines of what is asked, by what the reading gives
--     refused_as, symbols_as     those for a refusal, and for two symbols
-- Assumes nothing.
use Rattle.std.specs.Prelude.{Ok, Err}
use mathlib.Core.Path.{◌≡◌, refl, sym, ap, ◌∙◌}
use mathlib.Core.Bool.{Bool, true, false, ◌||◌}
use mathlib.Core.List.{List}
use Prim.Native.Nat.{ℕ, ◌-◌, ◌≤◌, ◌<◌}
use native.Mathlib.Omega.{arith}
use lib.Dec.{ltb}
use lib.IntN.{ℤ}
use lib.ListN.{length, take, drop}
use borrow.Author.Tests.{lt-ltb, le-ltb}
use Rattle.basics.proofs.Choice.{pick_true, pick_false}
use Rattle.call.specs.Refusal.{Filled, Answer}
use Rattle.call.specs.declared.refusal.Refusal.TheVariants.{BadText, BadVertexCount}
use Rattle.call.specs.declared.refusal.Refusal.{Refusal}
use Rattle.text.specs.Piece.{pieces, numbers}
use Rattle.text.specs.Reading.{text_most, reading_of, symbol_format, count_in}
use Rattle.text.specs.Line.{refusal_line}
use Rattle.text.specs.Inner.Inside.{left_by}
use Rattle.text.proofs.OnceRead.{Standing, read_numbers}
use Rattle.decimal.specs.Writing.{Puts}
use Rattle.decimal.proofs.Placing.{puts_as}
use Rattle.subgroup_texts.specs.SameAnswer.{cut_at, first_text, second_text, first_reading, second_reading, TwoSymbols, two, none, by_second, by_first}
use Rattle.subgroup_texts.specs.SameAnswer.{table_in, two_symbols, same_bytes}
use Rattle.subgroup_texts.specs.IntersectionAnswer.{intersection_bytes}
use Rattle.subgroup_texts.specs.Inner.TwoTexts.{symbols_by, CountsWithin, ReadsTwo, lines_for_two, lines_of_two, bytes_of_two}
use Rattle.subgroup_texts.specs.declared.two_texts.Asked.{Asked}
use Rattle.subgroup_texts.specs.declared.two_texts.Asked.TheVariants as asked
use Rattle.subgroup_texts.proofs.SameLines.{rest_part}

-- ---- a text that isn't too long

module _ (t : List ℕ) (h : length t ≤ 65536) (r : Filled) (e : r ≡ first_reading t) where
  given_by : by_first t r ≡ two_symbols false t
  unfolding two_symbols
  given_by =
      ap (by_first t) e ∙ sym (pick_false (ltb text_most (length t)) (none (BadText text_most)) (by_first t (first_reading t)) (le-ltb text_most (length t) h))

  pub outcome : {ns ms : List ℤ} (q : (Answer (ℕ × ℕ))) → symbols_by q ns ms ≡ by_first t r → ((k j : ℕ) → q ≡ Ok (k, j) → CountsWithin k j)
      → ReadsTwo false t q ns ms
  outcome q f w = record { gives = f ∙ given_by; within = w }

-- ---- the readings, as the code makes them

-- a text x that was read, however the code lends it
pub record PartRead (x : List ℕ) (r : Filled) (out : List ℤ) : Type 0 where
  pub told : r ≡ reading_of symbol_format x 3071
  pub standing : (k : ℕ) → r ≡ Ok k → Standing (numbers (pieces x)) 3071 k out

module _ {x : List ℕ} {r : Filled} (before : List ℤ) {out : List ℤ} (lent : length before ≡ 3071) where
  part_read : (r ≡ reading_of symbol_format x (length before)) × (out ≡ left_by r (numbers (pieces x)) before) → PartRead x r out
  part_read e = record {
    told = e.0 ∙ ap (reading_of symbol_format x) lent;
    standing = read_numbers symbol_format x before lent e (omega arith);
  }

  pub part_as : {s : List ℕ} → s ≡ x → (r ≡ reading_of symbol_format s (length before)) × (out ≡ left_by r (numbers (pieces s)) before) → PartRead x r out
  part_as {s} e f =
      part_read (f.0 ∙ ap (λ (y : List ℕ). reading_of symbol_format y (length before)) e, f.1 ∙ ap (λ (y : List ℕ). left_by r (numbers (pieces y)) before) e)

pub second_is : (t : List ℕ) (at : ℕ) → at ≡ cut_at t → take (length t - at) (drop at t) ≡ second_text t
second_is t at cut = rest_part at t ∙ ap (λ (n : ℕ). drop n t) cut

-- ---- the first text's numbers

module _ (t : List ℕ) (k : ℕ) where
  abbrev given : Filled → TwoSymbols
  given s = by_second (cut_at t) (take k (numbers (pieces (first_text t)))) s (numbers (pieces (second_text t)))

  pub few : k < 2 → none BadVertexCount ≡ by_first t (Ok k)
  few h = sym (pick_true (ltb k 2) (none BadVertexCount) (given (second_reading t)) (lt-ltb k 2 h))

  module _ (h : 2 ≤ k) (s : Filled) (e : s ≡ second_reading t) where
    pub enough : given s ≡ by_first t (Ok k)
    enough = ap given e ∙ sym (pick_false (ltb k 2) (none BadVertexCount) (given (second_reading t)) (le-ltb k 2 h))

-- ---- the counts

pub counts : {k j : ℕ} → CountsWithin k j → (k' j' : ℕ) → ◌≡◌ {A = Answer (ℕ × ℕ)} (Ok (k, j)) (Ok (k', j')) → CountsWithin k' j'
counts {k} {j} w k' j' e =
    let both : ◌≡◌ {A = ℕ × ℕ} (k, j) (k', j') = cc in
    let f : k ≡ k' = ap (λ (p : ℕ × ℕ). p.0) both in
    let g : j ≡ j' = ap (λ (p : ℕ × ℕ). p.1) both in
    record { some = omega (arith, w.some); most = omega (arith, w.most); some' = omega (arith, w.some'); most' = omega (arith, w.most') }

pub no_counts : (f : Refusal) (k j : ℕ) → ◌≡◌ {A = Answer (ℕ × ℕ)} (Err f) (Ok (k, j)) → CountsWithin k j
no_counts f k j e = let z : ◌≡◌ {A = ℕ} 0 1 = cc in absurd (omega arith)

-- ---- any text

module _ (longer : Bool) (t : List ℕ) where
  pub too_long : (longer || ltb text_most (length t)) ≡ true → {ns ms : List ℤ} → ReadsTwo longer t (Err (BadText text_most)) ns ms
  unfolding two_symbols
  too_long h = record {
    gives = sym (pick_true (longer || ltb text_most (length t)) (none (BadText text_most)) (by_first t (first_reading t)) h);
    within = no_counts (BadText text_most);
  }

  pub not_longer : longer ≡ false → {ns ms : List ℤ} {r : (Answer (ℕ × ℕ))} → ReadsTwo false t r ns ms → ReadsTwo longer t r ns ms
  not_longer e p = rw e p

-- ---- what is then written

asked_of : (a : Asked) (longer : Bool) (t : List ℕ) → lines_of_two a (two_symbols longer t) ≡ bytes_of_two a longer t
unfolding same_bytes intersection_bytes
asked_of asked.Same longer t = refl
asked_of asked.Intersection longer t = refl

pub lines_as : (a : Asked) {longer : Bool} {t : List ℕ} {ns ms : List ℤ} {r : (Answer (ℕ × ℕ))} → ReadsTwo longer t r ns ms → {q : (Answer (ℕ × ℕ))} → r ≡ q
    → {bytes out out' : List ℕ} {end : ℕ} → bytes ≡ lines_of_two a (symbols_by q ns ms) → Puts bytes 0 end out out' → Puts (bytes_of_two a longer t) 0 end out out'
lines_as a {longer} {t} {ns} {ms} m e b p =
    puts_as (b ∙ ap (lines_of_two a) (sym (ap (λ (x : (Answer (ℕ × ℕ))). symbols_by x ns ms) e) ∙ m.gives) ∙ asked_of a longer t) p

pub refused_as : (a : Asked) (f : Refusal) → refusal_line f ≡ lines_of_two a (none f)
refused_as asked.Same f = refl
refused_as asked.Intersection f = refl

-- two tables by equals
both_as : {v v' n n' : ℕ} {t t' u u' : List ℤ} (f : ℕ → List ℤ → ℕ → List ℤ → List ℕ) → v ≡ v' → t ≡ t' → n ≡ n' → u ≡ u' → f v t n u ≡ f v' t' n' u'
both_as f e g h k = cc

pub symbols_as : {a b : Asked} → a ≡ b → (one other : List ℤ) {v n : ℕ} {t u : List ℤ} → v ≡ count_in one → t ≡ table_in one
    → n ≡ count_in other → u ≡ table_in other → lines_for_two b v t n u ≡ lines_of_two a (two one other)
symbols_as {a} {b} told one other e g h k = both_as (lines_for_two b) e g h k ∙ go b ∙ ap (λ (x : Asked). lines_of_two x (two one other)) (sym told)
  where
    go : (x : Asked) → lines_for_two x (count_in one) (table_in one) (count_in other) (table_in other) ≡ lines_of_two x (two one other)
    go asked.Same = refl
    go asked.Intersection = refl
