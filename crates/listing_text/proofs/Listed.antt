-- Laws of the listing's definitions.
--     row_put                                 a generator's line, from its number and the rest
--     lines_more                              one generator more
--     listed-refused, listed-accepted         what is listed by the answer of the checks
--     parts_listed                            the parts in the slices of a symbol that was surveyed are its listing
--     listing_by                              what is listed for an answer of `read_input`
--     listing_means                           what the bytes mean
-- Assumes nothing.
use Rattle.std.specs.Prelude.{Ok, Err}
use mathlib.Core.Path.{◌≡◌, refl, sym, ap, ◌∙◌}
use mathlib.Core.Bool.{Bool}
use mathlib.Core.List.{List, ◌++◌, map}
use Prim.Native.Nat.{ℕ, ◌+◌, ◌*◌, ◌-◌, ◌≤◌}
use native.Mathlib.Numerals.{add-one}
use native.Mathlib.Omega.{arith}
use lib.IntN.{ℤ, pos}
use lib.ListN.{length, get_or, take, drop, length-drop}
use lib.Seq.{take_all}
use Rattle.decimal.specs.Decimal.{decimal_of}
use Rattle.text.specs.Line.{line, refusal_line, answer_lines}
use Rattle.decimal.specs.Writing.{Puts}
use Rattle.decimal.proofs.Placing.{puts_as, puts_then}
use Rattle.text.proofs.Spacing.{themselves}
use Rattle.text.specs.Piece.{pieces, numbers}
use Rattle.text.specs.Reading.{symbol_format, input_of}
use Rattle.call.specs.Refusal.{Filled, Checked}
use Rattle.symbol.specs.Check.{symbol_check}
use Rattle.symbol.proofs.Accepted.{accepted}
use Rattle.pairing.proofs.Meaning.{generates}
use Rattle.pairing.specs.Generator.{leaders, generator_table}
use Rattle.call.specs.declared.refusal.Refusal.{Refusal}
use Rattle.coset.specs.Inner.Survey.{Surveyed}
use Rattle.figures.specs.declared.FigureRecord.{FigureRecord}
use Rattle.coset.proofs.Answer.{meaning}
use Rattle.listing_text.specs.Listing.{listed_lines, listing_lines, read_by, listing_of}
use Rattle.listing_text.specs.Listing.{ListingMeans, kind_word, generator_line, generator_lines}
use Rattle.listing_text.specs.Inner.Parts.{parts_of}

pub row_put : (j : ℕ) (row : List ℤ) {word : List ℕ} {at m e : ℕ} {out out1 out2 : List ℕ} → word ≡ kind_word (get_or row 0 (pos 0))
    → Puts (decimal_of (pos j)) at m out out1
    → Puts (line word (map (λ z. z) (take (length row - 1) (drop 1 row)))) m e out1 out2 → at ≤ length out
    → Puts (generator_line j row) at e out out2
unfolding generator_line decimal_of
row_put j row {word} k f g h =
    let others = take (length row - 1) (drop 1 row) in
    let all : others ≡ drop 1 row = take_all (length row - 1) (drop 1 row) (omega (arith, length-drop 1 row)) in
    let same = ap (line word) (themselves others ∙ all) ∙ ap (λ (l : List ℕ). line l (drop 1 row)) k in
    puts_then f (puts_as same g) h

pub lines_more : (n k : ℕ) (table : List ℤ) → k ≡ 5
    → generator_lines n table ++ generator_line (n + 1) (take k (drop (5 * n) table)) ≡ generator_lines (n + 1) table
unfolding generator_lines
lines_more n k table e = rw (e, add-one n) refl

module _ (v : ℕ) (t : List ℤ) where
  pub listed_refused : (f : Refusal) → symbol_check v t ≡ Err f → refusal_line f ≡ listing_lines v t
  unfolding listing_lines
  listed_refused f q = ap (λ (c : Checked). answer_lines c (listed_lines v t)) (sym q)

  pub listed_accepted : symbol_check v t ≡ Ok tt → listed_lines v t ≡ listing_lines v t
  unfolding listing_lines
  listed_accepted q = ap (λ (c : Checked). answer_lines c (listed_lines v t)) (sym q)

-- the parts in the slices are those of the symbol
pub parts_listed : {v : ℕ} {t : List ℤ} {w w' : List ℕ} {f : FigureRecord} (g : ℕ) (rows : List ℤ) → Surveyed v t w w' f → g ≡ length (leaders v t)
    → rows ≡ generator_table v t
    → parts_of f g rows w' ≡ listed_lines v t
parts_listed g rows s n r = cc (s.figures, s.widths_are, s.S_is, s.R_is, s.T_is, n, r)

pub listing_by : (longer : Bool) (text : List ℕ) (r : Filled) → r ≡ input_of longer symbol_format text 3071
    → read_by r (numbers (pieces text)) ≡ listing_of longer text
unfolding listing_of
listing_by longer text r e = ap (λ (x : Filled). read_by x (numbers (pieces text))) e

pub listing_means : (longer : Bool) (text : List ℕ) {bytes : List ℕ} → bytes ≡ listing_of longer text → ListingMeans longer text bytes
unfolding listing_of
listing_means longer text b k e ok = record {
  lines = b ∙ ap (λ (x : Filled). read_by x (numbers (pieces text))) e ∙ sym (listed_accepted _ _ ((accepted _ _).1 ok));
  meaning = meaning ok;
  generates = generates _ _ ok;
}
