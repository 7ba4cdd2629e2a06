-- Stretches of bytes that are all blank, or all not blank: a turn of the loop that looks for the end of one.
--     test_fails, test_passes                   a test turned round
--     as_kind                                   the test of a byte's kind
--     stretch-yes, stretch-no                   one byte: it belongs to the stretch, or not
--     stretch-more, stretch-here, stretch-end   the same at offset i of a text, and at its end
--     stretch_le                                no stretch reaches past the end
--     after_stretch                             what follows the blanks in front is not blank
--     take_stretch                              a run is the text's front of that length
-- Assumes nothing.
use mathlib.Core.Path.{◌≡◌, refl, sym, ap}
use mathlib.Core.Bool.{Bool, true, false, not, beq}
use mathlib.Core.List.{List, [], ◌∷◌}
use Prim.Native.Nat.{ℕ, suc, ◌+◌, ◌≤◌, ◌<◌}
use native.Mathlib.Numerals.{add-one}
use native.Mathlib.Omega.{arith}
use lib.ListN.{length, get_or, drop, take}
use lib.Seq.{drop-cons, drop-length}
use Rattle.text.specs.Blank.{is_blank, until_blank}
use Rattle.text.specs.Inner.Inside.{stretch}

-- a test turned round
pub test_fails : (x : Bool) → not x ≡ true → x ≡ false
test_fails true e = sym e
test_fails false e = refl

pub test_passes : (x : Bool) → not x ≡ false → x ≡ true
test_passes true e = refl
test_passes false e = sym e

-- the test of a byte's kind, where it is known whether it is blank
pub as_kind : (kind : Bool) {x y : Bool} → x ≡ y → beq x kind ≡ beq y kind
as_kind kind e = ap (λ (x : Bool). beq x kind) e

module _ (kind : Bool) (b : ℕ) (t : List ℕ) where
  pub stretch_yes : beq (is_blank b) kind ≡ true → stretch kind (b ∷ t) ≡ suc (stretch kind t)
  unfolding stretch
  stretch_yes e = rw (stretch, e)

  pub stretch_no : beq (is_blank b) kind ≡ false → stretch kind (b ∷ t) ≡ 0
  unfolding stretch
  stretch_no e = rw (stretch, e)

module _ (kind : Bool) (t : List ℕ) (i : ℕ) (h : i < length t) where
  pub stretch_more : beq (is_blank (get_or t i 0)) kind ≡ true → i + stretch kind (drop i t) ≡ i + 1 + stretch kind (drop (i + 1) t)
  stretch_more g = rw (add-one, drop-cons t i 0, stretch_yes kind (get_or t i 0) (drop (suc i) t) g) (omega arith)

  pub stretch_here : beq (is_blank (get_or t i 0)) kind ≡ false → i + stretch kind (drop i t) ≡ i
  stretch_here g = rw (drop-cons t i 0, stretch_no kind (get_or t i 0) (drop (suc i) t) g) (omega arith)

pub stretch_end : (kind : Bool) (t : List ℕ) → length t + stretch kind (drop (length t) t) ≡ length t
unfolding stretch
stretch_end kind t = rw drop-length (omega arith)

pub stretch_le : (kind : Bool) (t : List ℕ) → stretch kind t ≤ length t
unfolding stretch
stretch_le kind [] = omega arith
stretch_le kind (b ∷ t) = go (beq (is_blank b) kind) refl (stretch_le kind t)
  where
    go : (x : Bool) → beq (is_blank b) kind ≡ x → stretch kind t ≤ length t → stretch kind (b ∷ t) ≤ suc (length t)
    go true e ih = omega (arith, stretch_yes kind b t e)
    go false e ih = omega (arith, stretch_no kind b t e)

pub take_stretch : (t : List ℕ) → take (stretch false t) t ≡ until_blank t
unfolding until_blank stretch
take_stretch [] = refl
take_stretch (b ∷ t) = go (is_blank b) refl (take_stretch t)
  where
    go : (x : Bool) → is_blank b ≡ x → take (stretch false t) t ≡ until_blank t → take (stretch false (b ∷ t)) (b ∷ t) ≡ until_blank (b ∷ t)
    go true e ih = rw (stretch_no false b t (as_kind false e), until_blank, e)
    go false e ih = rw (stretch_yes false b t (as_kind false e), until_blank, e, ih)

pub after_stretch : (t : List ℕ) → stretch true t < length t → is_blank (get_or t (stretch true t) 0) ≡ false
unfolding stretch
after_stretch [] h = absurd (omega arith)
after_stretch (b ∷ t) h = go (is_blank b) refl (after_stretch t)
  where
    go : (x : Bool) → is_blank b ≡ x → (stretch true t < length t → is_blank (get_or t (stretch true t) 0) ≡ false)
        → is_blank (get_or (b ∷ t) (stretch true (b ∷ t)) 0) ≡ false
    go true e ih = rw (stretch_yes true b t (as_kind true e)) (ih (omega (arith, stretch_yes true b t (as_kind true e))))
    go false e ih = rw (stretch_no true b t (as_kind true e)) e
