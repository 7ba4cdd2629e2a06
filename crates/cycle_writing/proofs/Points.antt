-- Which points the cycles that begin below k have, and that these are disjoint.
--     out_none            a point of a cycle all of whose points are k or above is in none of them
--     out_fixed           nor is a point that is not moved
--     disjoint_below      the cycles are disjoint
-- Assumes nothing.
use mathlib.Core.Path.{◌≡◌, sym, ap, subst, ◌∙◌}
use mathlib.Core.Logic.{◌⊎◌, inl, inr}
use mathlib.Core.Bool.{Bool, true, false, not, ◌&&◌}
use mathlib.Core.List.{List, [], ◌∷◌, ◌++◌, append_assoc, append-nil}
use Prim.Native.Nat.{ℕ, zero, suc, ◌≤◌, ◌<◌}
use native.Mathlib.Omega.{arith}
use lib.Dec.{eqb, leb}
use lib.ListN.{length}
use borrow.Author.Tests.{le-leb, ne_eqb}
use Rattle.basics.proofs.Choice.{pick_false, either}
use Rattle.numbering.specs.Table.{image_at}
use Rattle.figures.specs.Cusps.{cycle}
use Rattle.numbering.specs.Find.{is_in}
use Rattle.cycle_notation.specs.Form.{points_of, free, Disjoint, all, next}
use Rattle.cycle_notation.proofs.Stores.{is_in_cons, not_in_none, out_tail, in_append}
use Rattle.cycle_writing.specs.Cycles.{begins_cycle, points_from_one, cycles_below}
use Rattle.cycle_writing.specs.Inner.Short.{ShortTable}
use Rattle.cycle_writing.proofs.Short.{Shape, pair, triple, shape, begins_above, below_yes, below_no}

-- ---- being in a list

pub out_cons : (a : ℕ) (l : List ℕ) (z : ℕ) → ¬ (a ≡ z) → is_in l z ≡ false → is_in (a ∷ l) z ≡ false
out_cons a l z d e = is_in_cons a l z ∙ pick_false (eqb a z) _ _ (ne_eqb a z d) ∙ e

out_append : (l m : List ℕ) (z : ℕ) → is_in l z ≡ false → is_in m z ≡ false → is_in (l ++ m) z ≡ false
out_append l m z e d = in_append l m z e ∙ d

pub points_last : (cs : List (List ℕ)) (c : List ℕ) → points_of (cs ++ (c ∷ [])) ≡ points_of cs ++ c
unfolding points_of
points_last [] c = append-nil c
points_last (d ∷ cs) c = ap (λ (l : List ℕ). d ++ l) (points_last cs c) ∙ sym (append_assoc d (points_of cs) c)

-- ---- one more disjoint point

free_more : (m : ℕ) (seen : List ℕ) (x y : ℕ) → free m seen x ≡ true → ¬ (y ≡ x) → free m (y ∷ seen) x ≡ true
free_more m seen x y e d = ap (λ (b : Bool). (leb 1 x && leb x m) && not b) (is_in_cons y seen x ∙ pick_false (eqb y x) _ _ (ne_eqb y x d)) ∙ e

disjoint_last : (m : ℕ) (seen xs : List ℕ) (x : ℕ) → Disjoint m seen xs → free m seen x ≡ true → is_in xs x ≡ false → Disjoint m seen (xs ++ (x ∷ []))
disjoint_last m seen [] x all e o = next e all
disjoint_last m seen (y ∷ xs) x (next g d) e o =
    let t = out_tail y xs x o in
    next g (disjoint_last m (y ∷ seen) xs x d (free_more m seen x y e t.0) t.1)

-- a point from 1 to m, where nothing is seen
free_first : (m x : ℕ) → x < m → free m [] (suc x) ≡ true
free_first m x l =
    ap (λ (b : Bool). (leb 1 (suc x) && leb (suc x) m) && not b) (not_in_none (suc x))
    ∙ ap (λ (b : Bool). (b && leb (suc x) m) && true) (le-leb 1 (suc x) (omega arith))
    ∙ ap (λ (b : Bool). (true && b) && true) (le-leb (suc x) m (omega arith))

module _ (t : List ℕ) (h : ShortTable t) where
  -- the map, and the number of points
  abbrev f : ℕ → ℕ
  f x = image_at t x

  abbrev n : ℕ
  n = length t

  -- what lies apart from the cycle of x
  pub record Apart (x y : ℕ) : Type 0 where
    pub zeroth : ¬ (y ≡ x)
    pub once : ¬ (y ≡ f x)
    pub again : ¬ (y ≡ f (f x))

  pub out_cycle : (x y : ℕ) → x < n → ¬ (f x ≡ x) → Apart x y → is_in (points_from_one (cycle t x)) (suc y) ≡ false
  out_cycle x y l d a = go (shape t h x l d)
    where
      first : ¬ (suc x ≡ suc y)
      first q = a.zeroth (omega arith)

      second : ¬ (suc (f x) ≡ suc y)
      second q = a.once (omega arith)

      third : ¬ (suc (f (f x)) ≡ suc y)
      third q = a.again (omega arith)

      go : Shape t x → is_in (points_from_one (cycle t x)) (suc y) ≡ false
      go (pair e c) =
          ap (λ (k : List ℕ). is_in (points_from_one k) (suc y)) c
          ∙ out_cons (suc x) _ (suc y) first (out_cons (suc (f x)) _ (suc y) second (not_in_none (suc y)))
      go (triple d e c) =
          ap (λ (k : List ℕ). is_in (points_from_one k) (suc y)) c
          ∙ out_cons (suc x) _ (suc y) first
          (out_cons (suc (f x)) _ (suc y) second (out_cons (suc (f (f x))) _ (suc y) third (not_in_none (suc y))))

  -- apart from all cycles that begin below k
  out_below : (k y : ℕ) → k ≤ n → ((x : ℕ) → x < k → ¬ (f x ≡ x) → Apart x y) → is_in (points_of (cycles_below t k)) (suc y) ≡ false
  unfolding cycles_below points_of
  out_below zero y m g = not_in_none (suc y)
  out_below (suc k) y m g = go (either (begins_cycle t k)) (out_below k y (omega arith) (λ x l. g x (omega arith)))
    where
      go : (begins_cycle t k ≡ true) ⊎ (begins_cycle t k ≡ false) → is_in (points_of (cycles_below t k)) (suc y) ≡ false
          → is_in (points_of (cycles_below t (suc k))) (suc y) ≡ false
      go (inl e) ih =
          let b = begins_above t h k (omega arith) e in
          let d : ¬ (f k ≡ k) = λ q. omega (arith, b.one) in
          ap (λ (cs : List (List ℕ)). is_in (points_of cs) (suc y)) (below_yes t k e)
          ∙ ap (λ (l : List ℕ). is_in l (suc y)) (points_last (cycles_below t k) (points_from_one (cycle t k)))
          ∙ out_append (points_of (cycles_below t k)) (points_from_one (cycle t k)) (suc y) ih (out_cycle k y (omega arith) d (g k (omega arith) d))
      go (inr e) ih = ap (λ (cs : List (List ℕ)). is_in (points_of cs) (suc y)) (below_no t k e) ∙ ih

  -- the points of the cycle of y are k or above
  pub record From (k y : ℕ) : Type 0 where
    pub zeroth : k ≤ y
    pub once : k ≤ f y
    pub again : k ≤ f (f y)

  from_apart : (k x y : ℕ) → x < n → x < k → From k y → Apart x y
  from_apart k x y l m g = record { zeroth = λ q. omega (arith, g.zeroth); once = λ q. go1 q (h.short x l); again = λ q. go2 q (h.short x l) }
    where
      go1 : y ≡ f x → (f (f x) ≡ x) ⊎ (f (f (f x)) ≡ x) → ⊥
      go1 q (inl e) = let p : f y ≡ x = ap f q ∙ e in omega (arith, g.once)
      go1 q (inr e) = let p : f (f y) ≡ x = ap (λ (z : ℕ). f (f z)) q ∙ e in omega (arith, g.again)

      go2 : y ≡ f (f x) → (f (f x) ≡ x) ⊎ (f (f (f x)) ≡ x) → ⊥
      go2 q (inl e) = omega (arith, g.zeroth)
      go2 q (inr e) = let p : f y ≡ x = ap f q ∙ e in omega (arith, g.once)

  pub out_none : (k y : ℕ) → k ≤ n → From k y → is_in (points_of (cycles_below t k)) (suc y) ≡ false
  out_none k y m g = out_below k y m (λ x l d. from_apart k x y (omega arith) l g)

  fixed_apart : (x y : ℕ) → x < n → f y ≡ y → ¬ (f x ≡ x) → Apart x y
  fixed_apart x y l s d = record { zeroth = λ q. d (sym (ap f q) ∙ s ∙ q); once = λ q. go1 q (h.short x l); again = λ q. go2 q (h.short x l) }
    where
      go1 : y ≡ f x → (f (f x) ≡ x) ⊎ (f (f (f x)) ≡ x) → ⊥
      go1 q (inl e) = let p : f (f x) ≡ f x = sym (ap f q) ∙ s ∙ q in d (sym p ∙ e)
      go1 q (inr e) = let p : f (f x) ≡ f x = sym (ap f q) ∙ s ∙ q in d (sym p ∙ sym (ap f p) ∙ e)

      go2 : y ≡ f (f x) → (f (f x) ≡ x) ⊎ (f (f (f x)) ≡ x) → ⊥
      go2 q (inl e) = let p : y ≡ x = q ∙ e in d (sym (ap f p) ∙ s ∙ p)
      go2 q (inr e) = let p : y ≡ x = sym s ∙ ap f q ∙ e in d (sym (ap f p) ∙ s ∙ p)

  pub out_fixed : (k y : ℕ) → k ≤ n → f y ≡ y → is_in (points_of (cycles_below t k)) (suc y) ≡ false
  out_fixed k y m s = out_below k y m (λ x l d. fixed_apart x y (omega arith) s d)

  -- ---- disjoint

  module _ (k : ℕ) (l : k < n) (one : k < f k) (two : k ≤ f (f k)) where
    low_once : f k < n
    low_once = h.low k l

    low_again : f (f k) < n
    low_again = h.low (f k) low_once

    from_first : From k k
    from_first = record { zeroth = omega arith; once = omega arith; again = two }

    from_second : From k (f k)
    from_second = record { zeroth = omega arith; once = two; again = go (h.short k l) }
      where
        go : (f (f k) ≡ k) ⊎ (f (f (f k)) ≡ k) → k ≤ f (f (f k))
        go (inl e) = let p : f (f (f k)) ≡ f k = ap f e in omega arith
        go (inr e) = omega arith

    from_third : f (f (f k)) ≡ k → From k (f (f k))
    from_third e = let p : f (f (f (f k))) ≡ f k = ap f e in record { zeroth = two; once = omega arith; again = omega arith }

    -- two points behind points P that do not have them
    two_more : (P : List ℕ) (a b : ℕ) → Disjoint n [] P → a < n → b < n → ¬ (a ≡ b) → is_in P (suc a) ≡ false → is_in P (suc b) ≡ false
        → Disjoint n [] ((P ++ (suc a ∷ [])) ++ (suc b ∷ []))
    two_more P a b d la lb ne oa ob =
        disjoint_last n [] (P ++ (suc a ∷ [])) (suc b) (disjoint_last n [] P (suc a) d (free_first n a la) oa) (free_first n b lb)
        (out_append P (suc a ∷ []) (suc b) ob (out_cons (suc a) [] (suc b) (λ q. ne (omega arith)) (not_in_none (suc b))))

    cycle_more : (P : List ℕ) → Disjoint n [] P → ((y : ℕ) → From k y → is_in P (suc y) ≡ false) → Shape t k → Disjoint n [] (P ++ points_from_one (cycle t k))
    cycle_more P d out (pair e c) =
        subst (λ (l : List ℕ). Disjoint n [] l) (append_assoc P (suc k ∷ []) (suc (f k) ∷ []) ∙ sym (ap (λ (l : List ℕ). P ++ points_from_one l) c))
        (two_more P k (f k) d l low_once (λ q. omega arith) (out k from_first) (out (f k) from_second))
    cycle_more P d out (triple ne e c) =
        subst (λ (l : List ℕ). Disjoint n [] l)
        (append_assoc (P ++ (suc k ∷ [])) (suc (f k) ∷ []) (suc (f (f k)) ∷ [])
        ∙ append_assoc P (suc k ∷ []) (suc (f k) ∷ suc (f (f k)) ∷ [])
        ∙ sym (ap (λ (l : List ℕ). P ++ points_from_one l) c))
        (disjoint_last n [] ((P ++ (suc k ∷ [])) ++ (suc (f k) ∷ [])) (suc (f (f k)))
        (two_more P k (f k) d l low_once (λ q. omega arith) (out k from_first) (out (f k) from_second))
        (free_first n (f (f k)) low_again)
        (out_append (P ++ (suc k ∷ [])) (suc (f k) ∷ []) (suc (f (f k)))
        (out_append P (suc k ∷ []) (suc (f (f k))) (out (f (f k)) (from_third e))
        (out_cons (suc k) [] (suc (f (f k))) (λ q. ne (omega arith)) (not_in_none (suc (f (f k))))))
        (out_cons (suc (f k)) [] (suc (f (f k))) (λ q. apart (omega arith)) (not_in_none (suc (f (f k)))))))
      where
        -- R would not move f k, nor k
        apart : ¬ (f k ≡ f (f k))
        apart q = let p : f (f k) ≡ k = ap f q ∙ e in ne p

  pub disjoint_below : (k : ℕ) → k ≤ n → Disjoint n [] (points_of (cycles_below t k))
  unfolding cycles_below points_of
  disjoint_below zero m = all
  disjoint_below (suc k) m = go (either (begins_cycle t k)) (disjoint_below k (omega arith))
    where
      go : (begins_cycle t k ≡ true) ⊎ (begins_cycle t k ≡ false) → Disjoint n [] (points_of (cycles_below t k)) → Disjoint n [] (points_of (cycles_below t (suc k)))
      go (inl e) ih =
          let b = begins_above t h k (omega arith) e in
          subst (λ (l : List ℕ). Disjoint n [] l) (sym (ap points_of (below_yes t k e) ∙ points_last (cycles_below t k) (points_from_one (cycle t k))))
          (cycle_more k (omega arith) b.one b.two (points_of (cycles_below t k)) ih (λ y g. out_none k y (omega arith) g)
          (shape t h k (omega arith) (λ q. omega (arith, b.one))))
      go (inr e) ih = subst (λ (cs : List (List ℕ)). Disjoint n [] (points_of cs)) (sym (below_no t k e)) ih
