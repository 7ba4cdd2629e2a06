-- What the number that stands for a pairing means.
--
--   PairingView v x     x is -2, or -3, or a free label, or no pairing, each with what `pairing_of` says
--
-- Below it what each arm of `read_pairing` shows.
-- Assumes nothing.
use mathlib.Core.Path.{◌≡◌, refl}
use Prim.Native.Nat.{ℕ, zero, suc, ◌+◌, ◌≤◌}
use native.Mathlib.Omega.{arith}
use native.Mathlib.Decide.{dec_lt}
use lib.Dec.{ltb}
use borrow.Author.Tests.{lt-ltb, le-ltb}
use lib.IntN.{ℤ, pos, negsuc}
use Rattle.symbol.specs.Table.{pairing_of}
use Rattle.symbol.specs.declared.Pairing.TheVariants.{Even, Odd, Free, Bad}
use Rattle.basics.proofs.Choice.{pick_true, pick_false}

pub data PairingView (v : ℕ) (x : ℤ) : Type 0 where
  even : x ≡ negsuc 1 → pairing_of v x ≡ Even → PairingView v x
  odd : x ≡ negsuc 2 → pairing_of v x ≡ Odd → PairingView v x
  free : (l : ℕ) → x ≡ pos l → 1 ≤ l → l ≤ v + 1 → pairing_of v x ≡ Free l → PairingView v x
  bad : pairing_of v x ≡ Bad → PairingView v x

pub pairing_view : (v : ℕ) (x : ℤ) → PairingView v x
pairing_view v (pos zero) = bad refl
pairing_view v (pos (suc l)) = elim (dec_lt l (v + 1)) [
  | yes h ↦ free (suc l) refl (omega arith) (omega arith) (pick_true (ltb l (v + 1)) (Free (suc l)) Bad (lt-ltb l (v + 1) h))
  | no h ↦ bad (pick_false (ltb l (v + 1)) (Free (suc l)) Bad (le-ltb l (v + 1) (omega arith)))
]
pairing_view v (negsuc zero) = bad refl
pairing_view v (negsuc (suc zero)) = even refl refl
pairing_view v (negsuc (suc (suc zero))) = odd refl refl
pairing_view v (negsuc (suc (suc (suc n)))) = bad refl

-- a free label is one
pub pairing_free : (v l : ℕ) → 1 ≤ l → l ≤ v + 1 → pairing_of v (pos l) ≡ Free l
pairing_free v zero h k = absurd (omega arith)
pairing_free v (suc l) h k = pick_true (ltb l (v + 1)) (Free (suc l)) Bad (lt-ltb l (v + 1) (omega arith))
