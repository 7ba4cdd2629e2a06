-- The first number against its range, by the tests that the code makes on it as a natural number.
--     want_negative  no natural number: no count
--     from_zero      or else v is its magnitude
--     want_low       before the range: no count
--     want_high      past the range's end: no count
--     want_these     in range: the format's count
--     count_fits     which fits
-- Assumes nothing.
use Rattle.std.specs.Int.{FitsUnsignedBits}
use Rattle.std.specs.Prelude.{None, Some}
use mathlib.Core.Path.{◌≡◌, refl, sym, ◌∙◌, ap}
use Prim.Native.Nat.{ℕ, ◌+◌, ◌*◌, ◌≤◌, ◌<◌}
use native.Mathlib.Nat.{mul-le-mul}
use native.Mathlib.Omega.{arith}
use lib.IntN.{ℤ, pos, negsuc, nat_abs}
use borrow.Author.Tests.{le-leb, lt-leb}
use mir.Syntax.{w64}
use mir.Val.{SFits, to_z, of_z}
use mir.Facts.{to_z-of_z}
use Rattle.text.specs.Reading.{wanted}
use Rattle.text.specs.declared.Format.{Format}

negative : (f : Format) (v : ℤ) → SFits w64 v → (FitsUnsignedBits 64 v → ⊥) → None ≡ wanted f v
unfolding wanted
negative f (pos n) fit h = absurd (h (omega (arith, fit.sfits)))
negative f (negsuc n) fit h = refl

its_own : (v : ℤ) → FitsUnsignedBits 64 v → v ≡ pos (nat_abs v)
its_own (pos n) h = refl
its_own (negsuc n) h = absurd h

module _ {v : ℤ} (fit : SFits w64 v) where
  pub want_negative : (f : Format) → (FitsUnsignedBits 64 (to_z w64 (of_z w64 v)) → ⊥) → None ≡ wanted f v
  want_negative f h = negative f v fit (rw (to_z-of_z fit) at h)

  pub from_zero : {n : ℕ} → FitsUnsignedBits 64 (to_z w64 (of_z w64 v)) × (n ≡ nat_abs (to_z w64 (of_z w64 v))) → v ≡ pos n
  from_zero h = let g = rw (to_z-of_z fit) at h in its_own v g.0 ∙ sym (ap pos g.1)

module _ (f : Format) {v : ℤ} {n : ℕ} (is : v ≡ pos n) where
  pub want_low : n < f.least → None ≡ wanted f v
  unfolding wanted
  want_low h = rw (is, lt-leb f.least n h)

  module _ (low : f.least ≤ n) where
    pub want_high : f.most < n → None ≡ wanted f v
    unfolding wanted
    want_high h = rw (is, le-leb f.least n low, lt-leb n f.most h)

    pub want_these : n ≤ f.most → Some (f.each * n + f.more) ≡ wanted f v
    unfolding wanted
    want_these h = rw (is, le-leb f.least n low, le-leb n f.most h)

pub count_fits : (each n more : ℕ) → each < 65536 → n < 65536 → more < 65536 → each * n + more < 4294967296
count_fits each n more a b c =
    let x : each ≤ 65535 = omega arith in
    let y : n ≤ 65535 = omega arith in
    let k : each * n ≤ 65535 * 65535 = mul-le-mul x y in
    omega arith
