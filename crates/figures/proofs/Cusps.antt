-- The theorem on the cusps of a permutation: `cusps_are`.
-- Why: a point that is smallest in its cycle begins a cycle that no smaller point begins, and any other point lies in one that
-- has begun; so the cycles of the cusps, one after another, hold each point once, and their lengths add up to the points.
-- In order: `none_below`; the cycles one after another, point by point; the theorem.
-- Assumes nothing.
use mathlib.Core.Path.{◌≡◌, refl, sym, ap, ◌∙◌}
use mathlib.Core.Logic.{inl, inr}
use mathlib.Core.Bool.{true, false}
use mathlib.Core.List.{List, [], ◌∷◌, ◌++◌, map, append_assoc, append-nil}
use Prim.Native.Nat.{ℕ, zero, suc, ◌≤◌, ◌<◌}
use native.Mathlib.Omega.{arith}
use native.Mathlib.Decide.{dec_lt, ℕ_discrete}
use lib.ListN.{length, get_or, length-append, length-map}
use lib.Dec.{leb}
use borrow.Author.Tests.{leb-true, leb-false}
use Rattle.numbering.specs.Find.{find, ◌∈◌, ◌∉◌, Once}
use Rattle.numbering.specs.Table.{Permutes}
use Rattle.figures.specs.Cusps.{width, cycle, none_below, smallest, cusps_to, cusps, cycles, sum, Lies, Cusps}
use Rattle.numbering.proofs.Find.{none_below_lem, true_false, test, get_d_find, get_d_in, in_left, in_right, in_append, once_none, once_append, once_below}
use Rattle.numbering.proofs.Find.{once_below_all}
use Rattle.numbering.proofs.Table.{get_d_map}
use Rattle.numbering.proofs.Those.{those_yes, those_no, those_low}
use Rattle.figures.proofs.Cycle.{cycle_length, cycle_once, cycle_self, cycle_low, cycle_sym, cycle_trans, width_is}

-- ---- none_below
none_yes : (x : ℕ) (l : List ℕ) → none_below x l ≡ true → (j : ℕ) → j < length l → x ≤ get_or l j 0
unfolding none_below
none_yes x [] e j h = none_below_lem h
none_yes x (y ∷ l) e zero h = elim (test (leb x y)) [ inl q ↦ leb-true x y q | inr q ↦ true_false (rw q at e) refl ]
none_yes x (y ∷ l) e (suc j) h = elim (test (leb x y)) [ inl q ↦ none_yes x l (rw q at e) j (omega arith) | inr q ↦ true_false (rw q at e) refl ]

record Lower (x : ℕ) (l : List ℕ) : Type 0 where
  pub place : ℕ
  pub low : place < length l
  pub less : get_or l place 0 < x

none_no : (x : ℕ) (l : List ℕ) → none_below x l ≡ false → Lower x l
unfolding none_below
none_no x [] e = true_false refl e
none_no x (y ∷ l) e = elim (test (leb x y)) [
  | inl q ↦ let r = none_no x l (rw q at e) in record { place = suc r.place; low = omega (arith, r.low); less = r.less }
  | inr q ↦ record { place = 0; low = omega arith; less = leb-false x y q }
]

-- ---- the cycles of a list of points, one after another
pub cycles_last : (t l : List ℕ) (x : ℕ) → cycles t (l ++ (x ∷ [])) ≡ cycles t l ++ cycle t x
unfolding cycles
cycles_last t [] x = append-nil (cycle t x)
cycles_last t (y ∷ l) x = ap (λ (m : List ℕ). cycle t y ++ m) (cycles_last t l x) ∙ sym (append_assoc (cycle t y) (cycles t l) (cycle t x))

pub cycles_length : (t l : List ℕ) → length (cycles t l) ≡ sum (map (width t) l)
unfolding cycles sum
cycles_length t [] = refl
cycles_length t (x ∷ l) = length-append (cycle t x) (cycles t l) ∙ omega (arith, cycle_length t x, cycles_length t l)

-- l holds the cycles of the cusps below i: no point twice, no others, and every point that shares a cycle with one below i
record Begun (t : List ℕ) (i : ℕ) (l : List ℕ) : Type 0 where
  pub once : Once l
  pub from : (x : ℕ) → x ∈ l → Lies t i x
  pub all : (x y : ℕ) → x < length t → y ∈ cycle t x → y < i → x ∈ l

module _ {t : List ℕ} (p : Permutes t) where
  least_of_lem : (x y : ℕ) → smallest t x ≡ true → y ∈ cycle t x → x ≤ y
  least_of_lem x y e i = rw (get_d_find (cycle t x) y i) at (none_yes x (cycle t x) e (find (cycle t x) y) i)

  module _ {i : ℕ} {l : List ℕ} (h : i < length t) (s : Begun t i l) where
    -- a point that is smallest in its cycle: nothing of that cycle is there yet
    begun_fresh : smallest t i ≡ true → (x : ℕ) → x ∈ cycle t i → x ∉ l
    begun_fresh e x c = elim (dec_lt (find l x) (length l)) [
      | yes k ↦
          let o = s.from x k in
          let b = cycle_trans p i x o.cusp h c (cycle_sym p o.cusp x (omega (arith, o.low)) o.has) in
          let no : ⊥ = omega (arith, o.low, least_of_lem i o.cusp e b) in absurd no
      | no k ↦ omega arith
    ]

    -- any other point is there
    begun_old : smallest t i ≡ false → i ∈ l
    begun_old e = let o = none_no i (cycle t i) e in s.all i (get_or (cycle t i) o.place 0) h (get_d_in (cycle t i) o.place o.low) o.less

    lies_more : (x : ℕ) → Lies t i x → Lies t (suc i) x
    lies_more x o = record { cusp = o.cusp; low = omega (arith, o.low); small = o.small; has = o.has }

    begun_yes : smallest t i ≡ true → Begun t (suc i) (l ++ cycle t i)
    begun_yes e = record {
      once = once_append l (cycle t i) s.once (cycle_once p h) (begun_fresh e);
      from = λ x k. elim (in_append l (cycle t i) x k) [
        | inl a ↦ lies_more x (s.from x a)
        | inr a ↦ record { cusp = i; low = omega arith; small = e; has = a }
      ];
      all = λ x y a b k. elim (ℕ_discrete y i) [
        | yes d ↦ in_right l (cycle t i) x (cycle_sym p x i a (rw d at b))
        | no d ↦ in_left l (cycle t i) x (s.all x y a b (omega arith))
      ];
    }

    begun_no : smallest t i ≡ false → Begun t (suc i) l
    begun_no e = record {
      once = s.once;
      from = λ x k. lies_more x (s.from x k);
      all = λ x y a b k. elim (ℕ_discrete y i) [
        | yes d ↦
            let o = none_no i (cycle t i) e in
            let z = get_or (cycle t i) o.place 0 in
            s.all x z a (cycle_trans p x i z a (rw d at b) (get_d_in (cycle t i) o.place o.low)) o.less
        | no d ↦ s.all x y a b (omega arith)
      ];
    }

  begun : (i : ℕ) → i ≤ length t → Begun t i (cycles t (cusps_to t i))
  unfolding cycles
  begun zero h = record { once = once_none; from = λ x k. none_below_lem k; all = λ x y a b k. none_below_lem k }
  begun (suc i) h = let s = begun i (omega arith) in elim (test (smallest t i)) [
    | inl e ↦ rw (those_yes (smallest t) i e, cycles_last t (cusps_to t i) i) (begun_yes (omega arith) s e)
    | inr e ↦ rw (those_no (smallest t) i e) (begun_no (omega arith) s e)
  ]

  -- what the scan's test finds at a point
  pub cusp_new : {i : ℕ} → i < length t → smallest t i ≡ true → (x : ℕ) → x ∈ cycle t i → x ∉ cycles t (cusps_to t i)
  cusp_new {i} h = begun_fresh h (begun i (omega arith))

  pub cusp_old : {i : ℕ} → i < length t → smallest t i ≡ false → i ∈ cycles t (cusps_to t i)
  cusp_old {i} h = begun_old h (begun i (omega arith))

  -- ---- the theorem
  abbrev pub points : List ℕ
  points = cycles t (cusps t)

  all_begun : Begun t (length t) points
  all_begun = begun (length t) (omega arith)

  pub points_once : Once points
  points_once = all_begun.once

  pub points_low : (x : ℕ) → x ∈ points → x < length t
  points_low x h = let o = all_begun.from x h in cycle_low p o.low o.has

  pub points_all : (x : ℕ) → x < length t → x ∈ points
  points_all x h = all_begun.all x x h (cycle_self p h) h

  pub cusps_are : Cusps t
  cusps_are = record {
    each = λ x h. all_begun.from x (points_all x h);
    one = λ x a b.
        let there = cycle_trans p a.cusp x b.cusp a.low a.has (cycle_sym p b.cusp x b.low b.has) in
        let back = cycle_sym p a.cusp b.cusp a.low there in
        omega (arith, least_of_lem a.cusp b.cusp a.small there, least_of_lem b.cusp a.cusp b.small back);
    least = λ x a. least_of_lem a.cusp x a.small a.has;
    positive = λ j h.
        let k : j < length (cusps t) = rw (length-map (cusps t) (width t)) at h in
        rw (get_d_map (width t) (cusps t) j k) (width_is p (those_low (smallest t) (length t) _ (get_d_in (cusps t) j k))).some;
    total = sym (cycles_length t (cusps t)) ∙ omega (
      arith,
      once_below points (length t) points_once points_low,
      once_below_all points (length t) points_all,
    );
  }
