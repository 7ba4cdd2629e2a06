-- The lines of a pair.
--     below_rest        the entries behind the first are below n too
--     table_line_is     the first number, the others behind spaces, the line feed
--     one_line_is       a line of one number
--     count_most, point_most     a number below 10,000 and a point have four digits at most
--     pair_fits                  a pair of permutations fits
-- Assumes nothing.
use mathlib.Core.Path.{◌≡◌, refl, ap, ◌∙◌}
use mathlib.Core.List.{List, [], ◌∷◌, ◌++◌, map, append_assoc}
use Prim.Native.Nat.{ℕ, suc, ◌+◌, ◌-◌, ◌≤◌, ◌<◌}
use native.Mathlib.Omega.{arith}
use lib.ListN.{length, get_or, take, drop}
use lib.Seq.{take_all}
use Rattle.decimal.specs.Decimal.{decimal_of}
use Rattle.text.specs.Line.{natural, spaced}
use Rattle.decimal.proofs.Decimals.{digits_most}
use Rattle.permutations.specs.Check.{Passport}
use Rattle.permutations.proofs.Images.{image_in}
use Rattle.symbol_texts.specs.ImportAnswer.{number_line}
use Rattle.symbol_texts.specs.Inner.PairFits.{EachBelow, PairFits}

rest_is : (x : ℕ) (xs : List ℕ) → take (length (x ∷ xs) - 1) (drop 1 (x ∷ xs)) ≡ xs
rest_is x xs = take_all (length (x ∷ xs) - 1) xs (omega arith)

pub rest_long : (xs : List ℕ) → 1 ≤ length xs → length (take (length xs - 1) (drop 1 xs)) + 1 ≡ length xs
rest_long [] h = absurd (omega arith)
rest_long (x ∷ xs) h = let l = ap length (rest_is x xs) in omega arith

pub below_rest : (n : ℕ) (xs : List ℕ) → 1 ≤ length xs → EachBelow n xs → EachBelow n (take (length xs - 1) (drop 1 xs))
below_rest n [] h k = absurd (omega arith)
below_rest n (x ∷ xs) h k = rw (rest_is x xs) (λ i l. k (suc i) (omega arith))

pub table_line_is : (xs : List ℕ) → 1 ≤ length xs
    → decimal_of (natural (get_or xs 0 0)) ++ spaced (map natural (take (length xs - 1) (drop 1 xs))) ++ (10 ∷ []) ≡ number_line (map natural xs)
unfolding number_line
table_line_is [] h = absurd (omega arith)
table_line_is (x ∷ xs) h =
    ap (λ (l : List ℕ). decimal_of (natural x) ++ spaced (map natural l) ++ (10 ∷ [])) (rest_is x xs)
    ∙ append_assoc (decimal_of (natural x)) (spaced (map natural xs)) (10 ∷ [])

pub one_line_is : (n : ℕ) → decimal_of (natural n) ++ (10 ∷ []) ≡ number_line (natural n ∷ [])
unfolding number_line spaced
one_line_is n = refl

pub count_most : (n : ℕ) → n < 10000 → length (decimal_of (natural n)) ≤ 4
unfolding decimal_of
count_most n h = digits_most 4 n (omega arith) (omega arith)

pub point_most : (n : ℕ) → n < 3066 → length (decimal_of (natural n)) ≤ 4
point_most n h = count_most n (omega arith)

-- a pair of permutations fits
pub pair_fits : (s r : List ℕ) → Passport s r → PairFits s r
pair_fits s r p = record {
  some = p.some;
  most = p.most;
  even = p.even;
  below_S = λ i h. rw (← image_in s i 0 h) (omega (arith, p.points_S i h, p.most));
  below_R = λ i h. rw (← image_in r i 0 h) (omega (arith, p.points_R i h, p.most, p.even));
}
