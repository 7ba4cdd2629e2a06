-- Numbers behind spaces, and lines.
--     wider                          a number of 16 signed bits is one of 64
--     put_whole                      the end that a write tells
--     natural_most, letter_most      how many bytes a number takes
--     spaced-one, spaced-two         one number, two numbers
--     spaced-last, spaced-next       one number more, and the first i + 1 of a list
--     Spaced                         the state of a loop that puts numbers: `spaced_none`, `spaced_more` and `spaced_all` are its start, a turn, its end
--     room_left                      and there is room for a turn
--     natural_at                     a natural number of a list
--     value_at                       the value of a number of a list
--     themselves                     integers are their own values
--     line_put                       a whole line
-- Assumes nothing.
use mathlib.Core.Path.{◌≡◌, refl, sym, ap, ◌∙◌}
use mathlib.Core.List.{List, [], ◌∷◌, ◌++◌, map, append_assoc, append-nil}
use Prim.Native.Nat.{ℕ, zero, suc, ◌+◌, ◌*◌, ◌^◌, ◌≤◌, ◌<◌, ◌-◌}
use native.Mathlib.Nat.{mul-le-mul_left}
use native.Mathlib.Numerals.{add-one}
use native.Mathlib.Omega.{arith}
use lib.IntN.{ℤ, pos, negsuc}
use lib.ListN.{length, get_or, take}
use lib.Seq.{take-suc, take_all}
use mir.Syntax.{w16, w64}
use mir.Val.{SFits}
use Rattle.decimal.specs.Decimal.{decimal_of}
use Rattle.std.specs.Prelude.{Ok, Err}
use Rattle.std.specs.Result.{result_unwrap_or}
use Rattle.call.specs.Refusal.{Filled}
use Rattle.decimal.specs.Writing.{written_of, standing, Puts}
use Rattle.decimal.proofs.Decimals.{digits_most, decimal_most}
use Rattle.decimal.proofs.Placing.{by_writing, no_refusal_lem, puts_as, puts_none, puts_then, puts_same}
use Rattle.text.specs.Line.{natural, spaced, line}

-- the end that a write tells, where the bytes fit
pub put_whole : (bs out out' : List ℕ) (at : ℕ) (w : Filled) → w ≡ written_of (length bs) (length out) at
    → out' ≡ standing w bs at out → at + length bs ≤ length out → Puts bs at (result_unwrap_or w at) out out'
put_whole bs out out' at (Ok end) e l h = by_writing bs out out' at (Ok end) e l h end refl
put_whole bs out out' at (Err f) e l h = no_refusal_lem bs out out' at (Err f) e l h f refl

-- how many bytes a natural number takes
pub natural_most : (k n : ℕ) → 1 ≤ k → n < 10 ^ k → length (decimal_of (pos n)) ≤ k
unfolding decimal_of
natural_most k n h l = digits_most k n h l

pub wider : {z : ℤ} → SFits w16 z → SFits w64 z
wider f = record { sfits = omega (arith, f.sfits) }

pub letter_most : (n : ℤ) → SFits w16 n → length (decimal_of n) ≤ 6
letter_most (pos n) fit = decimal_most 5 (pos n) (omega arith) (omega (arith, fit.sfits))
letter_most (negsuc n) fit = decimal_most 5 (negsuc n) (omega arith) (omega (arith, fit.sfits))

spaced_last : (zs : List ℤ) (z : ℤ) → spaced (zs ++ (z ∷ [])) ≡ spaced zs ++ (32 ∷ decimal_of z)
unfolding spaced
spaced_last [] z = append-nil (32 ∷ decimal_of z)
spaced_last (y ∷ zs) z = ap (λ (l : List ℕ). (32 ∷ decimal_of y) ++ l) (spaced_last zs z) ∙ sym (append_assoc (32 ∷ decimal_of y) (spaced zs) (32 ∷ decimal_of z))

pub spaced_one : (z : ℤ) → 32 ∷ decimal_of z ≡ spaced (z ∷ [])
unfolding spaced
spaced_one z = sym (append-nil (32 ∷ decimal_of z))

pub spaced_two : (y z : ℤ) → (32 ∷ decimal_of y) ++ (32 ∷ decimal_of z) ≡ spaced (y ∷ z ∷ [])
unfolding spaced
spaced_two y z = ap (λ (l : List ℕ). (32 ∷ decimal_of y) ++ l) (spaced_one z)

spaced_next : (zs : List ℤ) (i : ℕ) → i < length zs → spaced (take i zs) ++ (32 ∷ decimal_of (get_or zs i (pos 0))) ≡ spaced (take (i + 1) zs)
spaced_next zs i h = sym (ap (λ (n : ℕ). spaced (take n zs)) (add-one i) ∙ ap spaced (take-suc zs i (pos 0) h) ∙ spaced_last (take i zs) (get_or zs i (pos 0)))

-- ---- a loop that puts the numbers zs, each in `width` bytes at most
pub record Spaced (width : ℕ) (zs : List ℤ) (at i end : ℕ) (out₀ out : List ℕ) : Type 0 where
  pub puts : Puts (spaced (take i zs)) at end out₀ out
  pub most : end ≤ at + width * i
  pub few : i ≤ length zs
  pub same : length out ≡ length out₀

pub spaced_none : (width : ℕ) (zs : List ℤ) (at : ℕ) (out : List ℕ) → Spaced width zs at 0 at out out
unfolding spaced
spaced_none width zs at out = record { puts = puts_none at out; most = omega arith; few = omega arith; same = refl }

-- the room that the next number finds, where one takes `most` bytes at most
pub room_left : {most i n end room : ℕ} (at : ℕ) → most ≤ 20 → i < n → end ≤ at + (most + 1) * i → at + ((most + 1) * n + (20 - most)) ≤ room
    → end + 21 ≤ room
room_left {most} {i} {n} at few l e h = let k : i + 1 ≤ n = omega arith in omega (arith, mul-le-mul_left (most + 1) k)

module _ {width : ℕ} {zs : List ℤ} {at i end : ℕ} {out₀ out : List ℕ} (s : Spaced width zs at i end out₀ out) where
  pub spaced_more : {z : ℤ} {end' : ℕ} {out' : List ℕ} → i < length zs → z ≡ get_or zs i (pos 0) → Puts (32 ∷ decimal_of z) end end' out out' → end' ≤ length out
      → end' ≤ end + width → Spaced width zs at (i + 1) end' out₀ out'
  spaced_more h e p room more = record {
    puts = puts_as (spaced_next zs i h) (puts_then s.puts (rw e at p) (omega (arith, s.puts.end_is, p.end_is, s.same)));
    most = omega (arith, s.most);
    few = omega arith;
    same = puts_same p (omega (arith, p.end_is)) ∙ s.same;
  }

  pub spaced_all : length zs ≤ i → Puts (spaced zs) at end out₀ out × (end ≤ at + width * length zs)
  spaced_all h = let e : i ≡ length zs = omega (arith, s.few) in (puts_as (ap spaced (take_all i zs h)) s.puts, rw e at s.most)

pub natural_at : (ns : List ℕ) (i : ℕ) → natural (get_or ns i 0) ≡ get_or (map natural ns) i (pos 0)
natural_at [] i = refl
natural_at (n ∷ ns) zero = refl
natural_at (n ∷ ns) (suc i) = natural_at ns i

pub value_at : {A : Type 0} (value : A → ℤ) (xs : List A) (i : ℕ) {x : A} → i < length xs → x ≡ get_or xs i x
    → value x ≡ get_or (map value xs) i (pos 0)
value_at value [] i h e = absurd (omega arith)
value_at value (y ∷ xs) zero h e = ap value e
value_at value (y ∷ xs) (suc i) h e = value_at value xs i (omega arith) e

pub themselves : (zs : List ℤ) → map (λ (z : ℤ). z) zs ≡ zs
themselves [] = refl
themselves (z ∷ zs) = ap (λ (l : List ℤ). z ∷ l) (themselves zs)

pub line_put : (name : List ℕ) (zs : List ℤ) {at m n e : ℕ} {out out1 out2 out3 : List ℕ} → Puts name at m out out1 → Puts (spaced zs) m n out1 out2
    → Puts (10 ∷ []) n e out2 out3
    → at + length name + length (spaced zs) ≤ length out → Puts (line name zs) at e out out3
unfolding line
line_put name zs f g h room =
    puts_as (append_assoc name (spaced zs) (10 ∷ [])) (puts_then (puts_then f g (omega arith)) h (omega arith))
