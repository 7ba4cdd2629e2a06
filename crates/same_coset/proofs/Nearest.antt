-- Division to the nearest multiple. Why: of two neighbouring multiples of c one is at most half of c away (`remainder_half`). Rounded down, a is that multiple
-- and the remainder; rounded up, it is that multiple less the remainder (`multiple_and_remainder`). Assumes nothing.
use mathlib.Core.Path.{◌≡◌, ap, ◌∙◌}
use mathlib.Core.Bool.{not}
use mathlib.Core.List.{[], ◌∷◌}
use Prim.Native.Nat.{ℕ, ◌+◌, ◌*◌, ◌-◌, ◌/◌, ◌%◌, ◌≤◌, ◌<◌}
use native.Mathlib.Nat.{mod-lt, div-add-mod'}
use native.Mathlib.Omega.{arith}
use native.Mathlib.Decide.{dec_lt}
use lib.IntN.{pos, neg_ℤ, ◌+ℤ◌, ◌*ℤ◌}
use borrow.Author.Tests.{lt-ltb, le-ltb}
use Rattle.matrix.proofs.Ring.{var, ◌⊕◌, ⊖◌, ring}
use Rattle.same_coset.specs.Inner.Rows.{signed, rounds_up, partial_quotient, least_remainder}

-- what was added is taken away
less_again : (x y : ℕ) → neg_ℤ (pos x) +ℤ pos (y + x) ≡ pos y
less_again x y = ring (pos x ∷ pos y ∷ []) (⊖ var 0 ⊕ (var 1 ⊕ var 0)) (var 1) tt

module _ (a c : ℕ) (some : 0 < c) where
  pub remainder_half : least_remainder a c + least_remainder a c ≤ c
  remainder_half = elim (dec_lt (c - a % c) (a % c)) [
    | yes near ↦ rw (lt-ltb (c - a % c) (a % c) near) (omega (arith, mod-lt a {m = c} some))
    | no far ↦ rw (le-ltb (c - a % c) (a % c) (omega arith)) (omega (arith, mod-lt a {m = c} some))
  ]

  pub remainder_less : least_remainder a c < c
  remainder_less = omega (arith, remainder_half)

  pub multiple_and_remainder : signed (not (rounds_up a c)) (pos (least_remainder a c)) +ℤ pos (partial_quotient a c) *ℤ pos c ≡ pos a
  multiple_and_remainder = elim (dec_lt (c - a % c) (a % c)) [
    | yes near ↦
        let next : (a / c + 1) * c ≡ a + (c - a % c) = omega (arith, div-add-mod' a c, mod-lt a {m = c} some) in
        rw (lt-ltb (c - a % c) (a % c) near) (ap (λ (i : ℕ). neg_ℤ (pos (c - a % c)) +ℤ pos i) next ∙ less_again (c - a % c) a)
    | no far ↦
        let whole : a % c + a / c * c ≡ a = omega (arith, div-add-mod' a c) in
        rw (le-ltb (c - a % c) (a % c) (omega arith)) (ap pos whole)
  ]
