-- THE TEXT OF A PAIR IS READ AS THE PAIR.
--
-- Why: each number of a line has a space or a line feed behind it, so the pieces of the text are the decimal forms of its numbers (`pair_says`). They
-- are at most 6,133 and take 5 bytes each, which is less than 65,536 (`pair_short`). The first of them is the index n, in range, and asks for 2n + 1
-- numbers; the next n are the entries of S as they stand, and the last n those of R (`tables_are`). The theorem: `pair_read_back`.
-- Assumes nothing.
use Rattle.std.specs.Prelude.{Some}
use mathlib.Core.Path.{◌≡◌, refl, ap, ◌∙◌}
use mathlib.Core.List.{List, [], ◌∷◌, ◌++◌, map, append-nil}
use Prim.Native.Nat.{ℕ, suc, ◌+◌, ◌-◌, ◌*◌, ◌/◌, ◌≤◌, ◌<◌}
use native.Mathlib.Numerals.{add-one}
use native.Mathlib.Omega.{arith}
use lib.Dec.{ltb}
use lib.IntN.{ℤ}
use lib.ListN.{length, take, length-append, length-map}
use lib.Seq.{take_all, take_at, drop_at}
use borrow.Author.Tests.{lt-ltb, le-ltb, le-leb}
use Rattle.basics.proofs.Choice.{pick_true, pick_false}
use Rattle.decimal.specs.Decimal.{decimal_of}
use Rattle.text.specs.Piece.{pieces, numbers}
use Rattle.text.specs.Reading.{text_most, wanted, input_of, by_reading}
use Rattle.call.specs.Refusal.{Filled}
use Rattle.text.proofs.Says.{Says, says_none, says_numbers, says_reading}
use Rattle.text.specs.Line.{natural, spaced}
use Rattle.text.proofs.Spacing.{natural_at}
use Rattle.symbol_texts.specs.ImportAnswer.{number_line, table_point, points_from, tables, refused, tables_in, import_format, request_of}
use Rattle.symbol_texts.proofs.ImportReadBack.{Each64, number_line_says, says_as, three}
use Rattle.symbol_texts.specs.Pair.{pair_text}
use Rattle.symbol_texts.specs.Inner.PairFits.{EachBelow, PairFits, PairsReadBack}
use Rattle.symbol_texts.proofs.PairLines.{one_line_is, count_most, point_most}

-- ---- what the lines say

each_64 : (xs : List ℕ) → EachBelow 3066 xs → Each64 (map natural xs)
each_64 xs h i l = let k = h i (omega (arith, length-map xs natural)) in rw (← natural_at xs i) (omega arith)

module _ (s r : List ℕ) (fits : PairFits s r) where
  abbrev n : ℕ
  n = length s

  abbrev ss : List ℤ
  ss = map natural s

  abbrev rs : List ℤ
  rs = map natural r

  long_S : length ss ≡ n
  long_S = length-map s natural

  long_R : length rs ≡ n
  long_R = length-map r natural ∙ fits.even

  pair_says : Says (pair_text s r) (natural n ∷ (ss ++ rs))
  unfolding pair_text
  pair_says =
      let third = number_line_says rs [] [] (omega (arith, long_R, fits.some)) (each_64 r fits.below_R) says_none in
      let second = number_line_says ss (number_line rs ++ []) (rs ++ []) (omega (arith, long_S, fits.some)) (each_64 s fits.below_S) third in
      let first = number_line_says (natural n ∷ []) (number_line ss ++ (number_line rs ++ [])) (ss ++ (rs ++ [])) (omega arith)
      (λ i l. let z : i ≡ 0 = omega arith in rw z (omega (arith, fits.most))) second in
      says_as (three (number_line (natural n ∷ [])) (number_line ss) (number_line rs))
      (ap (λ (l : List ℤ). natural n ∷ (ss ++ l)) (append-nil rs)) first

-- ---- how long they are

spaced_long : (xs : List ℕ) → EachBelow 3066 xs → length (spaced (map natural xs)) ≤ 5 * length xs
unfolding spaced
spaced_long [] h = omega arith
spaced_long (x ∷ xs) h =
    let r = spaced_long xs (λ i l. h (suc i) (omega arith)) in
    omega (arith, point_most x (h 0 (omega arith)), length-append (32 ∷ decimal_of (natural x)) (spaced (map natural xs)))

line_long : (xs : List ℕ) → EachBelow 3066 xs → length (number_line (map natural xs)) ≤ 5 * length xs + 1
unfolding number_line
line_long [] h = omega arith
line_long (x ∷ xs) h =
    omega (
      arith,
      point_most x (h 0 (omega arith)),
      spaced_long xs (λ i l. h (suc i) (omega arith)),
      length-append (decimal_of (natural x)) (spaced (map natural xs) ++ (10 ∷ [])),
      length-append (spaced (map natural xs)) (10 ∷ []),
    )

pair_short : (s r : List ℕ) → PairFits s r → length (pair_text s r) ≤ text_most
unfolding pair_text
pair_short s r fits =
    omega (
      arith,
      fits.most,
      fits.even,
      one_long (length s) (omega (arith, fits.most)),
      line_long s fits.below_S,
      line_long r fits.below_R,
      length-append (number_line (natural (length s) ∷ []) ++ number_line (map natural s)) (number_line (map natural r)),
      length-append (number_line (natural (length s) ∷ [])) (number_line (map natural s)),
    )
  where
    one_long : (n : ℕ) → n < 3067 → length (number_line (natural n ∷ [])) ≤ 5
    one_long n h = rw (← one_line_is n) (omega (arith, count_most n (omega arith), length-append (decimal_of (natural n)) (10 ∷ [])))

-- ---- which tables they ask for

as_they_stand : (xs : List ℕ) → EachBelow 3066 xs → map table_point (map natural xs) ≡ xs
unfolding table_point
as_they_stand [] h = refl
as_they_stand (x ∷ xs) h =
    let one : table_point (natural x) ≡ x = pick_true (ltb x 4294967295) x 4294967295 (lt-ltb x 4294967295 (omega (arith, h 0 (omega arith)))) in
    let rest = as_they_stand xs (λ i l. h (suc i) (omega arith)) in
    cc

both : {s s' r r' : List ℕ} → s ≡ s' → r ≡ r' → tables s r ≡ tables s' r'
both e f = cc

module _ (s r : List ℕ) (fits : PairFits s r) where
  abbrev all : List ℤ
  all = natural (length s) ∷ (map natural s ++ map natural r)

  all_long : length all ≡ 2 * length s + 1
  all_long = omega (arith, length-append (map natural s) (map natural r), long_S s r fits, long_R s r fits)

  half : (length all - 1) / 2 ≡ length s
  half = omega (arith, all_long)

  S_is : points_from 1 (length s) all ≡ s
  S_is = ap (map table_point) (take_at (map natural s) (map natural r) (length s) (long_S s r fits)) ∙ as_they_stand s fits.below_S

  R_is : points_from (length s + 1) (length s) all ≡ r
  R_is =
      ap (λ (k : ℕ). points_from k (length s) all) (add-one (length s))
      ∙ ap (λ (l : List ℤ). map table_point (take (length s) l)) (drop_at (map natural s) (map natural r) (length s) (long_S s r fits))
      ∙ ap (map table_point) (take_all (length s) (map natural r) (omega (arith, long_R s r fits)))
      ∙ as_they_stand r fits.below_R

  tables_are : tables_in all ≡ tables s r
  unfolding tables_in
  tables_are =
      pick_false (ltb (length all) 3) _ _ (le-ltb (length all) 3 (omega (arith, all_long, fits.some)))
      ∙ ap (λ (n : ℕ). tables (points_from 1 n all) (points_from (n + 1) n all)) half
      ∙ both S_is R_is

  in_range : wanted import_format (natural (length s)) ≡ Some (2 * length s + 1)
  unfolding wanted
  in_range = rw (le-leb 1 (length s) fits.some, le-leb (length s) 3066 fits.most)

pub pair_read_back : PairsReadBack
unfolding request_of input_of
pair_read_back s r fits =
    let t = pair_text s r in
    let says = pair_says s r fits in
    let w = in_range s r fits in
    let k = 2 * length s + 1 in
    let many : suc (length (map natural s ++ map natural r)) ≡ k = all_long s r fits in
    let read = says_reading import_format t (natural (length s)) (map natural s ++ map natural r) k says w many 6133 (pair_short s r fits)
    (omega (arith, fits.most)) in
    ap (λ (x : Filled). by_reading tables_in refused x (numbers (pieces t))) read
    ∙ ap (λ (l : List ℤ). tables_in (take k l)) (says_numbers import_format t (natural (length s)) (map natural s ++ map natural r) k says w many)
    ∙ ap tables_in (take_all k (all s r fits) (omega (arith, all_long s r fits)))
    ∙ tables_are s r fits
