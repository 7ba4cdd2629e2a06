-- Numbers of a text as entries of a table.
--     point_is                                     the entry, by the conversion that the code makes
--     filled_none                                  no table at the front of a slice
--     points_more                                  one entry more
--     part_length, table_length_lem, part_filled, filled_take    a part of the numbers, and a table that is filled from it
-- Assumes nothing.
use Rattle.std.specs.Prelude.{Result, Ok, Err}
use Rattle.std.specs.Int.{FitsUnsignedBits}
use Rattle.std.specs.Result.{OkIff, result_unwrap_or}
use native.Mathlib.Decide.{dec_lt}
use mathlib.Core.Path.{◌≡◌, refl, sym, ap, ◌∙◌}
use mathlib.Core.List.{List, [], ◌∷◌, ◌++◌, map, append_assoc}
use Prim.Native.Nat.{ℕ, suc, ◌+◌, ◌^◌, ◌≤◌, ◌<◌}
use native.Mathlib.Numerals.{add-one}
use native.Mathlib.Omega.{arith}
use lib.IntN.{ℤ, pos, negsuc, nat_abs}
use lib.ListN.{length, get_or, take, drop, set, length-append, length-drop, length-map}
use lib.Seq.{take-suc, drop-cons, set-append_seam, take_at, length-take-le}
use borrow.Author.Tests.{lt-ltb, le-ltb}
use Rattle.symbol_texts.specs.ImportAnswer.{table_point, points_from}
use Rattle.symbol_texts.specs.Inner.ImportSpaces.{filled}

pub point_is : {E : Type 0} (x : ℤ) (r : Result ℕ E) → OkIff r (FitsUnsignedBits 32 x) (nat_abs x)
    → result_unwrap_or r 4294967295 ≡ table_point x
unfolding table_point
point_is (pos n) (Ok x) h = elim (dec_lt n 4294967295) [
  | yes l ↦ h.1 ∙ rw (lt-ltb n 4294967295 l)
  | no l ↦ rw (le-ltb n 4294967295 (omega arith)) (omega (arith, h.0, h.1))
]
point_is (pos n) (Err e) h = rw (le-ltb n 4294967295 (elim (dec_lt n (2 ^ 32)) [ yes l ↦ absurd (h l) | no l ↦ omega arith ]))
point_is (negsuc n) (Ok x) h = absurd h.0
point_is (negsuc n) (Err e) h = refl

map_last : (zs : List ℤ) (z : ℤ) → map table_point (zs ++ (z ∷ [])) ≡ map table_point zs ++ (table_point z ∷ [])
map_last [] z = refl
map_last (y ∷ zs) z = ap (λ (l : List ℕ). table_point y ∷ l) (map_last zs z)

-- one entry more behind a table at the front
filled_more : (t : List ℕ) (x : ℕ) (out : List ℕ) → length t < length out → set (filled t out) (length t) x ≡ filled (t ++ (x ∷ [])) out
unfolding filled
filled_more t x out h =
    let one : suc (length t) ≡ length (t ++ (x ∷ [])) = omega (arith, length-append t (x ∷ [])) in
    ap (λ (l : List ℕ). set (t ++ l) (length t) x) (drop-cons out (length t) 0 h)
    ∙ set-append_seam t (get_or out (length t) 0) (drop (suc (length t)) out) x
    ∙ ap (λ (n : ℕ). t ++ (x ∷ drop n out)) one
    ∙ sym (append_assoc t (x ∷ []) (drop (length (t ++ (x ∷ []))) out))

pub filled_none : (out : List ℕ) → out ≡ filled [] out
unfolding filled
filled_none out = refl

points_length : (ns : List ℤ) (i : ℕ) → i ≤ length ns → length (map table_point (take i ns)) ≡ i
points_length ns i h = length-map (take i ns) table_point ∙ length-take-le i ns h

pub points_more : (ns : List ℤ) (out out' : List ℕ) (i : ℕ) → i < length ns → i < length out → out' ≡ filled (map table_point (take i ns)) out
    → set out' i (table_point (get_or ns i (pos 0))) ≡ filled (map table_point (take (i + 1) ns)) out
points_more ns out out' i h k e =
    let z = get_or ns i (pos 0) in
    let l = points_length ns i (omega arith) in
    ap (λ (o : List ℕ). set o i (table_point z)) e
    ∙ ap (λ (j : ℕ). set (filled (map table_point (take i ns)) out) j (table_point z)) (sym l)
    ∙ filled_more (map table_point (take i ns)) (table_point z) out (omega (arith, l))
    ∙ ap (λ (t : List ℕ). filled t out) (sym (map_last (take i ns) z) ∙ ap (map table_point) (sym (take-suc ns i (pos 0) h))
    ∙ ap (λ (j : ℕ). map table_point (take j ns)) (sym (add-one i)))

-- a part of the numbers, as the code takes it, and a table that is filled from it
pub part_length : (from k n : ℕ) (ns : List ℤ) → k ≡ n → from + n ≤ length ns → length (take k (drop from ns)) ≡ n
part_length from k n ns e h = ap (λ (j : ℕ). length (take j (drop from ns))) e ∙ length-take-le n (drop from ns) (omega (arith, length-drop from ns))

pub table_length_lem : (from n : ℕ) (ns : List ℤ) → from + n ≤ length ns → length (points_from from n ns) ≡ n
table_length_lem from n ns h = length-map (take n (drop from ns)) table_point ∙ part_length from n n ns refl h

pub part_filled : (from k n : ℕ) (ns : List ℤ) (out out' : List ℕ) → k ≡ n → out' ≡ filled (map table_point (take k (drop from ns))) out
    → out' ≡ filled (points_from from n ns) out
part_filled from k n ns out out' e f = f ∙ ap (λ (j : ℕ). filled (map table_point (take j (drop from ns))) out) e

pub filled_take : (from n : ℕ) (ns : List ℤ) (out out' : List ℕ) → out' ≡ filled (points_from from n ns) out → from + n ≤ length ns → take n out'
    ≡ points_from from n ns
unfolding filled
filled_take from n ns out out' f h = ap (take n) f ∙ take_at (points_from from n ns) (drop (length (points_from from n ns)) out) n (table_length_lem from n ns h)
