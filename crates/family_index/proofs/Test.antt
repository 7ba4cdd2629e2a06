-- A table that passes the test has the index of Γ0(n) at each n (`entry_is`), and the rule holds at each of its entries (`entry_follows`).
-- Why: the test splits off the least prime of n again and again, and that gives the index, by the law `index0_splits`.
-- Assumes nothing.
use mathlib.Core.Path.{◌≡◌, sym, ◌∙◌, ap}
use mathlib.Core.Bool.{Bool, true, false}
use mathlib.Core.Logic.{inl, inr}
use mathlib.Core.List.{List, [], ◌∷◌}
use Prim.Native.Nat.{ℕ, zero, suc, ◌+◌, ◌*◌, ◌-◌, ◌/◌, ◌≤◌, ◌<◌}
use native.Mathlib.Omega.{arith}
use native.Mathlib.Decide.{dec_lt}
use native.Mathlib.Nat.{div-mul_cancel, mul-le-mul_left}
use lib.Dec.{eqb}
use lib.ListN.{length, get_or}
use borrow.Author.Tests.{eqb-true, lt-ltb, le-ltb}
use Rattle.numbering.proofs.Find.{test, true_false}
use Rattle.basics.specs.Choice.{pick}
use Rattle.basics.proofs.Choice.{pick_false}
use Rattle.congruence.specs.Index.{least_divisor, index0}
use Rattle.congruence.proofs.Factor.{lowest_is}
use Rattle.congruence.proofs.Index0.{index0_is, index0_exact, index0_one, index0_splits}
use Rattle.congruence.proofs.Theorem.{tables}
use Rattle.congruence.specs.declared.Family.TheVariants as family
use Rattle.family_index.specs.Gamma0Entry.{Gamma0Entry}
use Rattle.family_index.specs.Inner.Test.{index_by, right_from}

module _ (n : ℕ) (h : 1 < n) where
  least_low : n / least_divisor n < n
  least_low =
      let l = lowest_is n h in
      let e = div-mul_cancel (least_divisor n) l.divisor in
      let twice : n / least_divisor n * 2 ≤ n / least_divisor n * least_divisor n = mul-le-mul_left (n / least_divisor n) l.big in
      omega arith

  least_some : 0 < n / least_divisor n
  least_some = elim (dec_lt 0 (n / least_divisor n)) [
    | yes k ↦ k
    | no k ↦
        let zero : n / least_divisor n ≡ 0 = omega arith in
        let e = div-mul_cancel (least_divisor n) (lowest_is n h).divisor in
        let none : 0 * least_divisor n ≡ n = rw zero at e in
        absurd (omega arith)
  ]

by_is : (f n : ℕ) → n ≤ f → 0 < n → index_by f n ≡ index0 n
unfolding index_by
by_is zero n h k = absurd (omega arith)
by_is (suc f) n h k = elim (dec_lt 1 n) [
  | yes l ↦ rw (lt-ltb 1 n l, by_is f (n / least_divisor n) (omega (arith, least_low n l)) (least_some n l)) (sym (index0_splits n l))
  | no l ↦
      let one : n ≡ 1 = omega arith in
      rw (le-ltb 1 n (omega arith), one) (sym index0_one)
]

module _ (b c : Bool) where
  both_left : pick b c false ≡ true → b ≡ true
  both_left e = elim (test b) [ inl t ↦ t | inr t ↦ absurd (true_false e (pick_false b c false t)) ]

  both_right : pick b c false ≡ true → c ≡ true
  both_right e = elim (test b) [ inl t ↦ rw t at e | inr t ↦ absurd (true_false e (pick_false b c false t)) ]

from_is : (is : List ℕ) (n : ℕ) → 0 < n → right_from n is ≡ true → (k : ℕ) → k < length is → get_or is k 0 ≡ index0 (n + k)
unfolding right_from
from_is [] n some t k h = absurd (omega arith)
from_is (i ∷ is) n some t zero h =
    eqb-true i (index_by n n) (both_left (eqb i (index_by n n)) (right_from (suc n) is) t) ∙ by_is n n (omega arith) some ∙ ap index0 (omega arith)
from_is (i ∷ is) n some t (suc k) h = from_is is (suc n) (omega arith) (both_right (eqb i (index_by n n)) (right_from (suc n) is) t) k (omega arith)
    ∙ ap index0 (omega arith)

-- a table that passes the test from 1 on has the index of Γ0(n) at n - 1
pub entry_is : (is : List ℕ) → right_from 1 is ≡ true → (n : ℕ) → 0 < n → n ≤ length is → get_or is (n - 1) 0 ≡ index0 n
entry_is is t n some low = from_is is 1 (omega arith) t (n - 1) (omega arith) ∙ ap index0 (omega arith)

entry_means : (n i : ℕ) → 0 < n → i ≡ index0 n → Gamma0Entry n i
entry_means n i h e = rw e (record {
  rule = index0_exact n h;
  index = index0_is n h;
  points_S = (tables family.Gamma0 n h).size_S;
  points_R = (tables family.Gamma0 n h).size_R;
})

-- so the rule holds at each entry
pub entry_follows : (is : List ℕ) → right_from 1 is ≡ true → (n : ℕ) → 0 < n → n ≤ length is → Gamma0Entry n (get_or is (n - 1) 0)
entry_follows is t n some low = entry_means n (get_or is (n - 1) 0) some (entry_is is t n some low)
