-- A walk over the pieces of a text, number by number, as each of the three loops makes it.
--     Walked t i from                    i pieces of t lie before the offset `from`, each a number, and the others from there on
--     walked_start, walked_more          at the start; past one more number
--     at-end, at-bad, at-number          the answer of `next`, by its case
--     walked-past, walked_end, walked-count    no byte is left, so no piece: all i are numbers
--     walked_bad                         a piece that is no number is the first such
--     sound_clash                        where all pieces are numbers there is none such
--     place_none, place-number, place-stuck    where piece i begins
--     store_next                         where all pieces are numbers, the next one is number i, and goes to entry i
-- Assumes nothing.
use Rattle.std.specs.Result.{result_unwrap_or}
use Rattle.std.specs.Prelude.{Result, Ok, Err, Option, None, Some}
use mathlib.Core.Path.{◌≡◌, refl, sym, ap, ◌∙◌}
use mathlib.Core.List.{List, [], ◌∷◌, ◌++◌}
use Prim.Native.Nat.{ℕ, zero, suc, ◌+◌, ◌≤◌, ◌<◌}
use native.Mathlib.Numerals.{add-one}
use native.Mathlib.Omega.{arith}
use lib.IntN.{ℤ}
use lib.ListN.{length, drop, take, set, length-drop, drop_of_length-le}
use lib.Seq.{drop-drop}
use Rattle.text.specs.Piece.{Piece, pieces_from, pieces, first_bad, numbers, place_at}
use Rattle.text.specs.Inner.Inside.{left, NextNumber, Steps, PieceRead, Stuck, survey_of}
use Rattle.text.specs.declared.Number.{Number}
use Rattle.text.proofs.Clash.{clash}

pub record Walked (t : List ℕ) (i from : ℕ) : Type 0 where
  pub rest : drop i (pieces t) ≡ left t from
  pub inside : from ≤ length t
  pub count : i ≤ length (pieces t)
  pub sound : first_bad (pieces t) ≡ first_bad (left t from)

pub walked_start : (t : List ℕ) → Walked t 0 0
unfolding pieces left
walked_start t = record { rest = refl; inside = omega arith; count = omega arith; sound = refl }

-- a number is not bad, a piece that is none is
bad_past : (at : ℕ) (n : ℤ) (ps : List Piece) → first_bad (record { at = at; says = Some n } ∷ ps) ≡ first_bad ps
unfolding first_bad
bad_past at n ps = refl

bad_here : (at : ℕ) (ps : List Piece) → first_bad (record { at = at; says = None } ∷ ps) ≡ Some at
unfolding first_bad
bad_here at ps = refl

-- what is left has no bad piece, where the whole has none
pub walked_sound : {t : List ℕ} {i from : ℕ} → Walked t i from → first_bad (pieces t) ≡ None → first_bad (left t from) ≡ None
walked_sound w h = sym w.sound ∙ h

-- the answer of `next`, where no piece is bad
pub sound_next : (t : List ℕ) (from : ℕ) (s : Result (Option Number) ℕ) → first_bad (left t from) ≡ None → Steps t from s
    → NextNumber t from (result_unwrap_or s None)
sound_next t from (Ok n) h s = s
sound_next t from (Err at) h s = let e : Some at ≡ None = sym (ap first_bad s.here ∙ bad_here at s.after) ∙ h in clash (cc)

module _ {t : List ℕ} {i from : ℕ} (w : Walked t i from) where
  rest_length : length (pieces t) ≡ i + length (left t from)
  rest_length = omega (arith, w.count, ap length w.rest, length-drop i (pieces t))

  pub walked_more : {n : ℤ} {at to : ℕ} → PieceRead t from n at to → Walked t (i + 1) to
  walked_more {n} {at} {to} s = record {
    rest = sym (drop-drop 1 i (pieces t)) ∙ ap (drop 1) (w.rest ∙ s.here);
    inside = s.inside;
    count = omega (arith, rest_length, ap length s.here);
    sound = w.sound ∙ ap first_bad s.here ∙ bad_past at n (left t to);
  }

  module _ (e : left t from ≡ []) where
    pub walked_end : length (pieces t) ≡ i
    walked_end = omega (arith, rest_length, ap length e)

    pub walked_all : first_bad (pieces t) ≡ None
    unfolding first_bad
    walked_all = w.sound ∙ ap first_bad e

    pub walked_count : Ok i ≡ survey_of (pieces t)
    walked_count = rw (walked_all, walked_end)

  pub walked_past : length t ≤ from → left t from ≡ []
  unfolding left pieces_from
  walked_past h = rw (drop_of_length-le t h)

  pub walked_stuck : {at : ℕ} → Stuck t from at → first_bad (pieces t) ≡ Some at
  walked_stuck {at} s = w.sound ∙ ap first_bad s.here ∙ bad_here at s.after

  pub walked_bad : {at : ℕ} → Stuck t from at → Err at ≡ survey_of (pieces t)
  walked_bad s = rw (walked_stuck s)

  -- where all pieces are numbers, none is bad
  pub sound_clash : {at : ℕ} → first_bad (pieces t) ≡ None → Stuck t from at → ⊥
  sound_clash {at} h s = let e : Some at ≡ None = sym (walked_stuck s) ∙ h in clash (cc)

-- where a piece begins
place_drop : (ps : List Piece) (k : ℕ) → place_at ps k ≡ place_at (drop k ps) 0
unfolding place_at
place_drop [] zero = refl
place_drop [] (suc k) = refl
place_drop (p ∷ ps) zero = refl
place_drop (p ∷ ps) (suc k) = place_drop ps k

module _ {t : List ℕ} {i from : ℕ} (w : Walked t i from) where
  pub place_none : (k : ℕ) → i ≤ k → left t from ≡ [] → 0 ≡ place_at (pieces t) k
  unfolding place_at
  place_none k h e =
      sym (place_drop (pieces t) k ∙ ap (λ (ps : List Piece). place_at ps 0) (drop_of_length-le (pieces t) {i = k} (omega (arith, walked_end w e))))

  pub place_number : {n : ℤ} {at to : ℕ} → PieceRead t from n at to → at ≡ place_at (pieces t) i
  unfolding place_at
  place_number s = sym (place_drop (pieces t) i ∙ ap (λ (ps : List Piece). place_at ps 0) (w.rest ∙ s.here))

  pub place_stuck : {at : ℕ} → Stuck t from at → at ≡ place_at (pieces t) i
  unfolding place_at
  place_stuck s = sym (place_drop (pieces t) i ∙ ap (λ (ps : List Piece). place_at ps 0) (w.rest ∙ s.here))

-- the numbers of pieces that are all numbers
module _ (p : Piece) (ps : List Piece) (h : first_bad (p ∷ ps) ≡ None) where
  sound_tail : first_bad ps ≡ None
  unfolding first_bad
  sound_tail = go p.says refl
    where
      go : (o : Option ℤ) → p.says ≡ o → first_bad ps ≡ None
      go None e = let q : Some p.at ≡ None = rw (first_bad, e) at h in clash (cc)
      go (Some n) e = rw (first_bad, e) at h

  sound_head : (i : ℕ) → drop (suc i) (numbers (p ∷ ps)) ≡ drop i (numbers ps)
  unfolding first_bad numbers
  sound_head i = go p.says refl
    where
      go : (o : Option ℤ) → p.says ≡ o → drop (suc i) (numbers (p ∷ ps)) ≡ drop i (numbers ps)
      go None e = let q : Some p.at ≡ None = rw (first_bad, e) at h in clash (cc)
      go (Some n) e = rw (numbers, e)

drop_numbers : (ps : List Piece) (i : ℕ) → first_bad ps ≡ None → drop i (numbers ps) ≡ numbers (drop i ps)
unfolding numbers
drop_numbers ps zero h = refl
drop_numbers [] (suc i) h = refl
drop_numbers (p ∷ ps) (suc i) h = sound_head p ps h i ∙ drop_numbers ps i (sound_tail p ps h)

-- one more entry
store : (i : ℕ) (s d r : List ℤ) (x : ℤ) → drop i s ≡ x ∷ r → i < length d
    → set (take i s ++ drop i d) i x ≡ take (suc i) s ++ drop (suc i) d
store i s [] r x e h = absurd (omega arith)
store zero [] (z ∷ d) r x e h = clash (cc)
store zero (y ∷ s) (z ∷ d) r x e h = cc
store (suc i) [] (z ∷ d) r x e h = clash (cc)
store (suc i) (y ∷ s) (z ∷ d) r x e h = ap (λ (l : List ℤ). y ∷ l) (store i s d r x e (omega arith))

module _ {t : List ℕ} {i from : ℕ} (w : Walked t i from) (h : first_bad (pieces t) ≡ None) {n : ℤ} {at to : ℕ} (s : PieceRead t from n at to) where
  numbers_next : drop i (numbers (pieces t)) ≡ n ∷ numbers (left t to)
  unfolding numbers
  numbers_next = drop_numbers (pieces t) i h ∙ ap numbers (w.rest ∙ s.here)

  pub store_next : (d : List ℤ) → i < length d
      → set (take i (numbers (pieces t)) ++ drop i d) i n ≡ take (i + 1) (numbers (pieces t)) ++ drop (i + 1) d
  store_next d l = rw add-one (store i (numbers (pieces t)) d (numbers (left t to)) n numbers_next l)
