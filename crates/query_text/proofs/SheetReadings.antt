-- What a text gives, as the code finds it, and what numbers that are handed on say.
--     few-numbers, bad-entries, all-numbers     by the count of the numbers
--     by-none, by_first_lem           by the first number
--     too_long, by-survey         by the length, and by the pieces
--     Whole, whole-reading        numbers that are handed on are all of the text's, at most 5,119, and the symbol among them is whole
-- Assumes nothing.
use Rattle.std.specs.Prelude.{Ok, Err, Some, None, Option}
use mathlib.Core.Path.{◌≡◌, refl, sym, ap, ◌∙◌}
use mathlib.Core.Bool.{Bool, true, false, not, ◌&&◌, ◌||◌}
use mathlib.Core.List.{List, [], ◌∷◌}
use Prim.Native.Nat.{ℕ, suc, ◌+◌, ◌-◌, ◌*◌, ◌%◌, ◌≤◌, ◌<◌}
use native.Mathlib.Omega.{arith}
use lib.Dec.{ltb, leb, eqb}
use lib.IntN.{ℤ, pos, negsuc}
use lib.ListN.{length}
use borrow.Author.Tests.{lt-ltb, le-ltb, ltb-false, leb-true}
use Rattle.basics.specs.Choice.{pick}
use Rattle.basics.proofs.Choice.{pick_true, pick_false, and_right}
use Rattle.call.specs.Refusal.{Filled}
use Rattle.call.specs.declared.refusal.Refusal.TheVariants.{BadVertexCount, TooShort, BadText}
use Rattle.text.specs.Piece.{Piece, pieces, first_bad, numbers}
use Rattle.text.specs.Reading.{text_most, wanted, symbol_format, vertex_count}
use Rattle.text.specs.Inner.Inside.{left, PieceRead, survey_of}
use Rattle.text.proofs.Answers.{bad_at}
use Rattle.text.proofs.Clash.{clash}
use Rattle.text.proofs.Handed.{numbers_count}
use Rattle.text.proofs.Walks.{walked_start}
use Rattle.sheets.specs.Sheet.{bad_count}
use Rattle.query_text.specs.Printed.{by_wanted, by_numbers, by_bad, sheet_reading}
use Rattle.query_text.specs.Inner.SheetTable.{SheetNumbers}

-- ---- by the count

module _ (w k n : ℕ) where
  abbrev entries : Filled
  entries = pick (bad_count (k - w)) (Err (TooShort 2048)) (Ok k)

  pub few_numbers : k < w → Err (BadText n) ≡ by_wanted (Some w) k n
  few_numbers h = sym (pick_true (ltb k w) (Err (BadText n)) entries (lt-ltb k w h))

  module _ (h : w ≤ k) where
    enough : entries ≡ by_wanted (Some w) k n
    enough = sym (pick_false (ltb k w) (Err (BadText n)) entries (le-ltb k w h))

    pub bad_entries : bad_count (k - w) ≡ true → Err (TooShort 2048) ≡ by_wanted (Some w) k n
    bad_entries e = sym (pick_true (bad_count (k - w)) (Err (TooShort 2048)) (Ok k) e) ∙ enough

    pub all_numbers : bad_count (k - w) ≡ false → Ok k ≡ by_wanted (Some w) k n
    all_numbers e = sym (pick_false (bad_count (k - w)) (Err (TooShort 2048)) (Ok k) e) ∙ enough

-- ---- by the first number

module _ (t : List ℕ) (n : ℕ) where
  pub by_none : left t 0 ≡ [] → Err (BadText n) ≡ by_numbers (numbers (pieces t)) n
  unfolding numbers by_numbers
  by_none e = sym (ap (λ (ps : List Piece). by_numbers (numbers ps) n) ((walked_start t).rest ∙ e))

  module _ {v : ℤ} {at to : ℕ} (good : first_bad (pieces t) ≡ None) (s : PieceRead t 0 v at to) where
    these : numbers (pieces t) ≡ v ∷ numbers (left t to)
    unfolding numbers
    these = ap numbers ((walked_start t).rest ∙ s.here)

    by_wanted_lem : (o : Option ℕ) → wanted symbol_format v ≡ o → by_wanted o (length (pieces t)) n ≡ by_numbers (numbers (pieces t)) n
    unfolding by_numbers
    by_wanted_lem o e =
        let k : length (pieces t) ≡ suc (length (numbers (left t to))) = sym (numbers_count (pieces t) good) ∙ ap length these in
        ap (λ (m : ℕ). by_wanted o m n) k
        ∙ ap (λ (x : Option ℕ). by_wanted x (suc (length (numbers (left t to)))) n) (sym e)
        ∙ sym (ap (λ (ns : List ℤ). by_numbers ns n) these)

    pub by_range : None ≡ wanted symbol_format v → Err BadVertexCount ≡ by_numbers (numbers (pieces t)) n
    by_range e = by_wanted_lem None (sym e)

    pub by_first_lem : (k : ℕ) → Some k ≡ wanted symbol_format v → by_wanted (Some k) (length (pieces t)) n ≡ by_numbers (numbers (pieces t)) n
    by_first_lem k e = by_wanted_lem (Some k) (sym e)

-- ---- by the length and the pieces

module _ (longer : Bool) (t : List ℕ) where
  abbrev inside : Filled
  inside = by_bad (first_bad (pieces t)) (numbers (pieces t)) (length t)

  pub too_long : (longer || ltb text_most (length t)) ≡ true → Err (BadText text_most) ≡ sheet_reading longer t
  unfolding sheet_reading
  too_long e = sym (pick_true (longer || ltb text_most (length t)) (Err (BadText text_most)) inside e)

  module _ (e : longer ≡ false) (h : length t ≤ 65536) where
    fits_in_lem : (longer || ltb text_most (length t)) ≡ false
    fits_in_lem = ap (λ (b : Bool). b || ltb text_most (length t)) e ∙ le-ltb text_most (length t) h

    by_bad_lem : (o : Option ℕ) → first_bad (pieces t) ≡ o → by_bad o (numbers (pieces t)) (length t) ≡ sheet_reading longer t
    unfolding sheet_reading
    by_bad_lem o f =
        sym (pick_false (longer || ltb text_most (length t)) (Err (BadText text_most)) inside fits_in_lem
        ∙ ap (λ (x : Option ℕ). by_bad x (numbers (pieces t)) (length t)) f)

    pub survey_bad : (at : ℕ) → Err at ≡ survey_of (pieces t) → Err (BadText at) ≡ sheet_reading longer t
    survey_bad at f = by_bad_lem (Some at) (bad_at (first_bad (pieces t)) (length (pieces t)) at f)

    pub survey_good : first_bad (pieces t) ≡ None → by_numbers (numbers (pieces t)) (length t) ≡ sheet_reading longer t
    survey_good f = by_bad_lem None f

-- ---- numbers that are handed on

pub record Whole (ns : List ℤ) (k : ℕ) : Type 0 where
  pub all : k ≡ length ns
  pub symbol : SheetNumbers ns
  pub most : k ≤ 5119

pub wanted_is : (v : ℤ) (w : ℕ) → wanted symbol_format v ≡ Some w → (vertex_count v ≤ 1023) × (w ≡ 3 * vertex_count v + 2)
unfolding wanted
wanted_is (negsuc v) w e = clash cc
wanted_is (pos v) w e = go (leb 1 v && leb v 1023) refl
  where
    go : (b : Bool) → (leb 1 v && leb v 1023) ≡ b → (v ≤ 1023) × (w ≡ 3 * v + 2)
    go true h =
        let f : Some (3 * v + 2) ≡ Some w = rw (wanted, h) at e in
        let g : 3 * v + 2 ≡ w = cc in
        (leb-true v 1023 (and_right (leb 1 v) (leb v 1023) h), sym g)
    go false h = let f : None ≡ Some w = rw (wanted, h) at e in clash cc

or_false : (a b : Bool) → (a || b) ≡ false → b ≡ false
or_false true b e = clash cc
or_false false b e = e

pub entries_most : (n : ℕ) → bad_count n ≡ false → n ≤ 2048
entries_most n e = ltb-false 2048 n (or_false (not (eqb (n % 8) 0)) (ltb 2048 n) e)

record Counted (w k j : ℕ) : Type 0 where
  pub same : j ≡ k
  pub enough : w ≤ k
  pub most : k ≤ w + 2048

counted : (w k n j : ℕ) → by_wanted (Some w) k n ≡ Ok j → Counted w k j
counted w k n j e = go (ltb k w) refl (bad_count (k - w)) refl
  where
    go : (a : Bool) → ltb k w ≡ a → (b : Bool) → bad_count (k - w) ≡ b → Counted w k j
    go true f b g = let x : Err (BadText n) ≡ Ok j = sym (pick_true (ltb k w) (Err (BadText n)) (entries w k n) f) ∙ e in clash cc
    go false f true g =
        let x : Err (TooShort 2048) ≡ Ok j = bad_entries w k n (ltb-false k w f) g ∙ e in clash cc
    go false f false g =
        let x : Ok k ≡ Ok j = all_numbers w k n (ltb-false k w f) g ∙ e in
        let y : k ≡ j = cc in
        record { same = sym y; enough = ltb-false k w f; most = omega (arith, ltb-false k w f, entries_most (k - w) g) }

whole_numbers : (ns : List ℤ) (n k : ℕ) → by_numbers ns n ≡ Ok k → Whole ns k
unfolding by_numbers
whole_numbers [] n k e = clash cc
whole_numbers (v ∷ ns) n k e = go (wanted symbol_format v) refl
  where
    go : (o : Option ℕ) → wanted symbol_format v ≡ o → Whole (v ∷ ns) k
    go None f = let x : Err BadVertexCount ≡ Ok k = ap (λ (y : Option ℕ). by_wanted y (suc (length ns)) n) (sym f) ∙ e in clash cc
    go (Some w) f =
        let x = counted w (suc (length ns)) n k (ap (λ (y : Option ℕ). by_wanted y (suc (length ns)) n) (sym f) ∙ e) in
        let z = wanted_is v w f in
        record {
          all = x.same;
          symbol = record { most = z.0; whole = omega (arith, z.1, x.enough) };
          most = omega (arith, z.0, z.1, x.same, x.most);
        }

pub whole_reading : (longer : Bool) (t : List ℕ) (k : ℕ) → sheet_reading longer t ≡ Ok k → Whole (numbers (pieces t)) k
unfolding sheet_reading
whole_reading longer t k e = go (longer || ltb text_most (length t)) e
  where
    by : (o : Option ℕ) → by_bad o (numbers (pieces t)) (length t) ≡ Ok k → Whole (numbers (pieces t)) k
    by (Some p) f = clash cc
    by None f = whole_numbers (numbers (pieces t)) (length t) k f

    go : (b : Bool) → pick b (Err (BadText text_most)) (inside longer t) ≡ Ok k → Whole (numbers (pieces t)) k
    go true f = clash cc
    go false f = by (first_bad (pieces t)) f
