-- What a text gives, as the code finds it.
--     by_none, by_negative, by_number     by the first number
--     too_long, survey_bad, survey_good   by the length, and by the pieces
--     All, all_reading                    numbers that are handed on are all of the text's, at least one of them
-- Assumes nothing.
use Rattle.std.specs.Prelude.{Ok, Err, Option, None, Some}
use mathlib.Core.Path.{◌≡◌, refl, sym, ap, ◌∙◌}
use mathlib.Core.Bool.{Bool, true, false, ◌||◌}
use mathlib.Core.List.{List, [], ◌∷◌}
use Prim.Native.Nat.{ℕ, suc, ◌≤◌}
use native.Mathlib.Omega.{arith}
use lib.Dec.{ltb}
use lib.IntN.{ℤ, pos, negsuc}
use lib.Signed.{lt_z}
use lib.ListN.{length}
use borrow.Author.Tests.{le-ltb, ltb-true, ltb-false}
use Rattle.basics.specs.Choice.{pick}
use Rattle.basics.proofs.Choice.{pick_true, pick_false}
use Rattle.basics.proofs.Choice as choice
use Rattle.call.specs.Refusal.{Filled}
use Rattle.call.specs.declared.refusal.Refusal.TheVariants.{BadText}
use Rattle.text.specs.Piece.{Piece, pieces, first_bad, numbers, place_at}
use Rattle.text.specs.Reading.{text_most}
use Rattle.text.specs.Inner.Inside.{left, PieceRead, survey_of}
use Rattle.text.proofs.Answers.{bad_at}
use Rattle.text.proofs.Clash.{clash}
use Rattle.text.proofs.Handed.{numbers_count}
use Rattle.text.proofs.Walks.{walked_start, place_number}
use Rattle.subgroup_texts.specs.TowerAnswer.{counted_from, entries_from, numbers_unless, tower_reading}
use Rattle.subgroup_texts.proofs.TowerPieces.{pieces_half}

-- ---- by the first number

negative_count : (c : ℤ) (at k : ℕ) → lt_z c (pos 0) ≡ true → Err (BadText at) ≡ counted_from c at k
negative_count (pos n) at k e = let h = ltb-true n 0 e in absurd (omega arith)
negative_count (negsuc n) at k e = refl

natural_count : (c : ℤ) (at k : ℕ) → lt_z c (pos 0) ≡ false → Ok k ≡ counted_from c at k
natural_count (pos n) at k e = refl
natural_count (negsuc n) at k e = choice.clash refl e

module _ (t : List ℕ) (n : ℕ) where
  pub by_none : left t 0 ≡ [] → Err (BadText n) ≡ entries_from (numbers (pieces t)) (place_at (pieces t) 0) n
  unfolding numbers entries_from
  by_none e = sym (ap (λ (ps : List Piece). entries_from (numbers ps) (place_at (pieces t) 0) n) ((walked_start t).rest ∙ e))

  module _ {c : ℤ} {at to : ℕ} (good : first_bad (pieces t) ≡ None) (s : PieceRead t 0 c at to) where
    these : numbers (pieces t) ≡ c ∷ numbers (left t to)
    unfolding numbers
    these = ap numbers ((walked_start t).rest ∙ s.here)

    by_count : counted_from c at (length (pieces t)) ≡ entries_from (numbers (pieces t)) (place_at (pieces t) 0) n
    unfolding entries_from
    by_count =
        let k : length (pieces t) ≡ suc (length (numbers (left t to))) = sym (numbers_count (pieces t) good) ∙ ap length these in
        ap (counted_from c at) k
        ∙ ap (λ (p : ℕ). counted_from c p (suc (length (numbers (left t to))))) (place_number (walked_start t) s)
        ∙ sym (ap (λ (ns : List ℤ). entries_from ns (place_at (pieces t) 0) n) these)

    pub by_negative : lt_z c (pos 0) ≡ true → Err (BadText at) ≡ entries_from (numbers (pieces t)) (place_at (pieces t) 0) n
    by_negative e = negative_count c at (length (pieces t)) e ∙ by_count

    pub by_number : lt_z c (pos 0) ≡ false → (k : ℕ) → length (pieces t) ≡ k → Ok k ≡ entries_from (numbers (pieces t)) (place_at (pieces t) 0) n
    by_number e k f = ap Ok (sym f) ∙ natural_count c at (length (pieces t)) e ∙ by_count

-- ---- by the length and the pieces

module _ (longer : Bool) (t : List ℕ) where
  abbrev inside : Filled
  inside = numbers_unless (first_bad (pieces t)) (numbers (pieces t)) (place_at (pieces t) 0) (length t)

  pub too_long : (longer || ltb text_most (length t)) ≡ true → Err (BadText text_most) ≡ tower_reading longer t
  unfolding tower_reading
  too_long e = sym (pick_true (longer || ltb text_most (length t)) (Err (BadText text_most)) inside e)

  module _ (e : longer ≡ false) (h : length t ≤ 65536) where
    fits_in_lem : (longer || ltb text_most (length t)) ≡ false
    fits_in_lem = ap (λ (b : Bool). b || ltb text_most (length t)) e ∙ le-ltb text_most (length t) h

    by_bad_lem : (o : Option ℕ) → first_bad (pieces t) ≡ o → numbers_unless o (numbers (pieces t)) (place_at (pieces t) 0) (length t) ≡ tower_reading longer t
    unfolding tower_reading
    by_bad_lem o f =
        sym (pick_false (longer || ltb text_most (length t)) (Err (BadText text_most)) inside fits_in_lem
        ∙ ap (λ (x : Option ℕ). numbers_unless x (numbers (pieces t)) (place_at (pieces t) 0) (length t)) f)

    pub survey_bad : (at : ℕ) → Err at ≡ survey_of (pieces t) → Err (BadText at) ≡ tower_reading longer t
    survey_bad at f = by_bad_lem (Some at) (bad_at (first_bad (pieces t)) (length (pieces t)) at f)

    pub survey_good : first_bad (pieces t) ≡ None → entries_from (numbers (pieces t)) (place_at (pieces t) 0) (length t) ≡ tower_reading longer t
    survey_good f = by_bad_lem None f

-- ---- numbers that are handed on

pub record All (ns : List ℤ) (k : ℕ) : Type 0 where
  pub all : k ≡ length ns
  pub some : 1 ≤ k
  pub most : k ≤ 32768

all_entries : (ns : List ℤ) (at n k : ℕ) → length ns ≤ 32768 → entries_from ns at n ≡ Ok k → All ns k
unfolding entries_from
all_entries [] at n k h e = clash cc
all_entries (pos c ∷ ns) at n k h e = let z : suc (length ns) ≡ k = cc in record { all = sym z; some = omega arith; most = omega arith }
all_entries (negsuc c ∷ ns) at n k h e = clash cc

pub all_reading : (longer : Bool) (t : List ℕ) (k : ℕ) → tower_reading longer t ≡ Ok k → All (numbers (pieces t)) k
unfolding tower_reading
all_reading longer t k e = go (longer || ltb text_most (length t)) refl e
  where
    or_false : (a b : Bool) → (a || b) ≡ false → b ≡ false
    or_false true b f = choice.clash refl f
    or_false false b f = f

    by : (o : Option ℕ) → first_bad (pieces t) ≡ o → length t ≤ 65536 → numbers_unless o (numbers (pieces t)) (place_at (pieces t) 0) (length t) ≡ Ok k
        → All (numbers (pieces t)) k
    by (Some p) g h f = clash cc
    by None g h f =
        all_entries (numbers (pieces t)) (place_at (pieces t) 0) (length t) k (let z = numbers_count (pieces t) g in omega (arith, z, pieces_half t, h)) f

    go : (b : Bool) → (longer || ltb text_most (length t)) ≡ b → pick b (Err (BadText text_most)) (inside longer t) ≡ Ok k → All (numbers (pieces t)) k
    go true g f = clash cc
    go false g f = by (first_bad (pieces t)) refl (ltb-false text_most (length t) (or_false longer (ltb text_most (length t)) g)) f
