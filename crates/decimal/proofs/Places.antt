-- Bytes put into a slice, and digits put into a buffer from the back.
--     put_end               a copy of all bytes
--     written_short, written_to    the answer's two cases
--     front_store           a store just before what stands at the end of a list puts it in front
--     tenth                 a number of at most k digits, and of two at least, has a tenth of at most k - 1
-- Assumes nothing.
use Rattle.std.specs.Prelude.{Ok, Err}
use mathlib.Core.Path.{◌≡◌, ◌∙◌}
use mathlib.Core.List.{List, ◌∷◌}
use Prim.Native.Nat.{ℕ, zero, suc, ◌+◌, ◌-◌, ◌/◌, ◌≤◌, ◌<◌, ◌^◌, min}
use native.Mathlib.Nat.{pow-succ'}
use native.Mathlib.Omega.{arith}
use lib.ListN.{length, drop, set, length-set}
use lib.Seq.{paste, take-length, drop-cons, drop-set-lt, get_or-set_same}
use borrow.Author.Tests.{le-leb, lt-leb}
use Rattle.call.specs.declared.refusal.Refusal.TheVariants.{TooShort}
use Rattle.decimal.specs.Writing.{written_of, bytes_placed, room_most}

pub put_end : (d : List ℕ) (at : ℕ) (s : List ℕ) → paste d at s (length s) ≡ bytes_placed s at d
unfolding bytes_placed
put_end d at s = rw take-length

module _ (k room at : ℕ) where
  pub written_short : room < at + k → Err (TooShort (min (at + k) room_most)) ≡ written_of k room at
  unfolding written_of
  written_short h = rw (lt-leb (at + k) room h)

  pub written_to : at + k ≤ room → Ok (at + k) ≡ written_of k room at
  unfolding written_of
  written_to h = rw (le-leb (at + k) room h)

pub front_store : (b : List ℕ) (at x : ℕ) → 1 ≤ at → at ≤ length b → drop (at - 1) (set b (at - 1) x) ≡ x ∷ drop at b
front_store b at x o h =
    let j : at - 1 < length b = omega arith in
    let e : suc (at - 1) ≡ at = omega arith in
    drop-cons (set b (at - 1) x) (at - 1) 0 (omega (arith, length-set b (at - 1) x))
    ∙ rw (get_or-set_same b (at - 1) x 0 j, e, drop-set-lt at b (at - 1) x (omega arith))

pub tenth : (k r : ℕ) → 10 ≤ r → r < 10 ^ k → (2 ≤ k) × (r / 10 < 10 ^ (k - 1))
tenth zero r a h = absurd (omega arith)
tenth (suc zero) r a h = absurd (omega arith)
tenth (suc (suc k)) r a h =
    let e : suc (suc k) - 1 ≡ suc k = omega arith in
    (omega arith, rw e (omega (arith, pow-succ' 10 (suc k))))
