-- How long an export can get: no point is named twice, so a permutation of n points has 11n/2 bytes or less, and a few more.
--     export_most     an export has at most 65,536 bytes
-- Assumes nothing.
use mathlib.Core.Path.{◌≡◌, ap, ◌∙◌}
use mathlib.Core.Logic.{◌⊎◌, inl, inr}
use mathlib.Core.Bool.{true, false}
use mathlib.Core.List.{List, [], ◌∷◌}
use Prim.Native.Nat.{ℕ, zero, suc, ◌*◌, ◌≤◌, ◌<◌}
use native.Mathlib.Decide.{ℕ_discrete}
use native.Mathlib.Omega.{arith}
use lib.Dec.{eqb}
use lib.ListN.{length, get_or, length-append}
use borrow.Author.Tests.{lt-ltb, ne_eqb}
use Rattle.basics.proofs.Choice.{pick_false, either, clash}
use Rattle.numbering.specs.Find.{find, is_in, ◌∉◌, Once}
use Rattle.numbering.specs.Table.{image_at}
use Rattle.numbering.proofs.Find.{in_all, once_none, once_last, once_append, once_below}
use Rattle.figures.specs.Cusps.{cycle}
use Rattle.decimal.specs.Decimal.{digits}
use Rattle.decimal.proofs.Decimals.{digits_most}
use Rattle.cycle_notation.specs.Form.{points_of, Disjoint, all, next}
use Rattle.cycle_notation.proofs.Points.{free_range}
use Rattle.cycle_notation.proofs.Stores.{in_head, fresh}
use Rattle.cycle_writing.specs.Cycles.{begins_cycle, points_from_one, cycles_below, cycles_of}
use Rattle.cycle_writing.specs.Bytes.{cycle_bytes, cycles_bytes, permutation_bytes, export_of}
use Rattle.cycle_writing.specs.Inner.Short.{ShortTable, bytes_below}
use Rattle.cycle_writing.proofs.Short.{Shape, pair, triple, shape, begins_above, below_yes, below_no}
use Rattle.cycle_writing.proofs.Points.{points_last, disjoint_below}
use Rattle.cycle_writing.proofs.Sizes.{two_size, three_size, bytes_last, empty_is, cycles_are, export_size}

-- ---- disjoint points are few

out_one : (x z : ℕ) → ¬ (x ≡ z) → z ∉ (x ∷ [])
unfolding find
out_one x z d = let e = pick_false {A = ℕ} (eqb x z) 0 1 (ne_eqb x z d) in omega arith

disjoint_once : (n : ℕ) (seen xs : List ℕ) → Disjoint n seen xs → Once xs
disjoint_once n seen [] all = once_none
disjoint_once n seen (x ∷ xs) (next f d) =
    once_append (x ∷ []) xs (once_last [] x once_none (omega arith)) (disjoint_once n (x ∷ seen) xs d)
    (λ z h. out_one x z (λ e. clash (ap (is_in xs) e ∙ lt-ltb (find xs z) (length xs) h) (fresh n (x ∷ seen) xs x d (in_head x seen))))

disjoint_range : (n : ℕ) (seen xs : List ℕ) → Disjoint n seen xs → (j : ℕ) → j < length xs → get_or xs j 0 < suc n
disjoint_range n seen [] all j h = absurd (omega arith)
disjoint_range n seen (x ∷ xs) (next f d) zero h = let r = free_range n seen x f in omega arith
disjoint_range n seen (x ∷ xs) (next f d) (suc j) h = disjoint_range n (x ∷ seen) xs d j (omega arith)

disjoint_few : (n : ℕ) (xs : List ℕ) → Disjoint n [] xs → length xs ≤ suc n
disjoint_few n xs d = once_below xs (suc n) (disjoint_once n [] xs d) (in_all (λ (x : ℕ). x < suc n) xs (disjoint_range n [] xs d))

-- ---- bytes by points

few_digits : (x : ℕ) → x < 10000 → length (digits x) ≤ 4
few_digits x h = digits_most 4 x (omega arith) (omega arith)

module _ (t : List ℕ) (h : ShortTable t) where
  cycle_most : (x : ℕ) → x < length t → Shape t x → 2 * length (cycle_bytes (points_from_one (cycle t x))) ≤ 11 * length (points_from_one (cycle t x))
  cycle_most x l (pair e c) =
      let a = h.low x l in
      let m = h.most in
      let s = ap (λ (k : List ℕ). length (cycle_bytes (points_from_one k))) c ∙ two_size (suc x) (suc (image_at t x)) in
      let k = ap (λ (k : List ℕ). length (points_from_one k)) c in
      omega (arith, few_digits (suc x) (omega arith), few_digits (suc (image_at t x)) (omega arith), s, k)
  cycle_most x l (triple d e c) =
      let a = h.low x l in
      let b = h.low (image_at t x) a in
      let m = h.most in
      let s = ap (λ (k : List ℕ). length (cycle_bytes (points_from_one k))) c ∙ three_size (suc x) (suc (image_at t x)) (suc (image_at t (image_at t x))) in
      let k = ap (λ (k : List ℕ). length (points_from_one k)) c in
      omega (
        arith,
        few_digits (suc x) (omega arith),
        few_digits (suc (image_at t x)) (omega arith),
        few_digits (suc (image_at t (image_at t x))) (omega arith),
        s,
        k,
      )

  below_most : (k : ℕ) → k ≤ length t → 2 * length (cycles_bytes (cycles_below t k)) ≤ 11 * length (points_of (cycles_below t k))
  unfolding cycles_below cycles_bytes points_of
  below_most zero l = omega arith
  below_most (suc k) l = go (either (begins_cycle t k)) (below_most k (omega arith))
    where
      go : (begins_cycle t k ≡ true) ⊎ (begins_cycle t k ≡ false) → 2 * length (cycles_bytes (cycles_below t k)) ≤ 11 * length (points_of (cycles_below t k))
          → 2 * length (cycles_bytes (cycles_below t (suc k))) ≤ 11 * length (points_of (cycles_below t (suc k)))
      go (inl e) ih =
          let b = begins_above t h k (omega arith) e in
          let c = points_from_one (cycle t k) in
          let m = cycle_most k (omega arith) (shape t h k (omega arith) (λ q. omega (arith, b.one))) in
          let p = ap length (ap cycles_bytes (below_yes t k e) ∙ bytes_last (cycles_below t k) c)
          ∙ length-append (cycles_bytes (cycles_below t k)) (cycle_bytes c) in
          let q = ap length (ap points_of (below_yes t k e) ∙ points_last (cycles_below t k) c) ∙ length-append (points_of (cycles_below t k)) c in
          omega (arith, m, p, q, ih)
      go (inr e) ih =
          omega (
            arith,
            ih,
            ap (λ (cs : List (List ℕ)). length (cycles_bytes cs)) (below_no t k e),
            ap (λ (cs : List (List ℕ)). length (points_of cs)) (below_no t k e),
          )

  all_most : length (bytes_below t (length t)) ≤ 16868
  unfolding bytes_below
  all_most =
      omega (
        arith,
        below_most (length t) (omega arith),
        disjoint_few (length t) (points_of (cycles_below t (length t))) (disjoint_below t h (length t) (omega arith)),
        h.most,
      )

  permutation_most : length (permutation_bytes (cycles_of t)) ≤ 16868
  permutation_most = elim (ℕ_discrete (length (bytes_below t (length t))) 0) [
    | yes e ↦ let k = ap length (empty_is t e) in omega arith
    | no d ↦ let k = ap length (cycles_are t d) in omega (arith, all_most)
  ]

pub export_most : (s r : List ℕ) → ShortTable s → ShortTable r → length (export_of s r) ≤ 65536
export_most s r h k =
    omega (arith, export_size s r, few_digits (length s) (omega (arith, h.most)), permutation_most s h, permutation_most r k)
