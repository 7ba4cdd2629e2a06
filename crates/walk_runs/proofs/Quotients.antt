-- Euclid's algorithm with quotients spells the word that the subtractive one spells.
-- In order: k times one row from the other (`taken_total`); runs of S Q, or of S P (`runs`); the quotient (`takes`); a run of a proper form takes at least
-- one block, and what is left is at most two thirds (`one_run`, `upper_run`, `lower_run`).
-- Why: (a - 1) / b blocks leave something of the larger row, so none of them is the last; the rows of a proper form differ.
-- Assumes nothing.
use mathlib.Core.Path.{◌≡◌, refl, sym, ap, ◌∙◌, subst}
use mathlib.Core.Logic.{inl, inr}
use mathlib.Core.Bool.{Bool, true, false, not}
use mathlib.Core.List.{List, ◌∷◌, ◌++◌}
use Prim.Native.Nat.{ℕ, zero, suc, ◌+◌, ◌-◌, ◌*◌, ◌/◌, ◌≤◌, ◌<◌}
use native.Mathlib.Nat.{mod-lt, div-add-mod'}
use native.Mathlib.Omega.{arith}
use native.Mathlib.Decide.{dec_lt}
use lib.Dec.{ltb}
use borrow.Author.Tests.{lt-ltb, le-ltb}
use Rattle.basics.specs.Choice.{pick}
use Rattle.matrix.specs.Words.{Letter, S, Q, P}
use Rattle.matrix.specs.Euclid.{Form, form, total, swap, tail_of}
use Rattle.matrix.proofs.Form.{Unimodular, unimodular_swap, unimodular_whole, Proper, rows, form_eq}
use Rattle.walk.specs.Inner.Way.{turn_form, row_taken, RowTakes}
use Rattle.walk.proofs.Forms.{proper_swap, turn_apart, row_takes, turn_by_lem, tail_two}
use Rattle.walk_runs.specs.Runs.{blocks, taken_upper, taken_lower, run_length}
use Rattle.walk_runs.specs.Inner.Tally.{row_sum}

-- ---- proper forms

one_row : (p q r t : ℕ) → q + r ≡ 0 → (p * t ≡ q * r + 1) → p ≡ 1
one_row zero q r t h e = absurd (omega (arith, nothing q r h))
  where
    nothing : (q r : ℕ) → q + r ≡ 0 → q * r ≡ 0
    nothing zero r h = omega arith
    nothing (suc q) r h = absurd (omega arith)
one_row (suc zero) q r t h e = refl
one_row (suc (suc p)) q r zero h e = absurd (omega arith)
one_row (suc (suc p)) zero zero (suc t) h e = absurd (omega arith)
one_row (suc (suc p)) zero (suc r) (suc t) h e = absurd (omega arith)
one_row (suc (suc p)) (suc q) r (suc t) h e = absurd (omega arith)

-- a form with nothing off its diagonal has rows of sum 1
one_sum : (p q r t : ℕ) → Unimodular (form p q r t) → q + r ≡ 0 → p + q ≡ 1
one_sum p q r t (inl e) h = omega (arith, one_row p q r t h e)
one_sum p zero r t (inr e) h = absurd (omega arith)
one_sum p (suc q) r t (inr e) h = absurd (omega arith)

proper_by : (f : Form) → Unimodular f → 1 < f.p + f.q → Proper f
proper_by f u h = record {
  not_one = above (f.q + f.r) (λ e. omega (arith, one_sum f.p f.q f.r f.t u e));
  not_S = above (f.p + f.t) (λ e. omega (arith, one_sum f.q f.p f.t f.r (turned f.p f.q f.r f.t u) e));
}
  where
    above : (n : ℕ) → (n ≡ 0 → ⊥) → 0 < n
    above zero z = absurd (z refl)
    above (suc n) z = omega arith

    turned : (p q r t : ℕ) → Unimodular (form p q r t) → Unimodular (form q p t r)
    turned p q r t (inl e) = inr e
    turned p q r t (inr e) = inl e

-- ---- one row taken from the other: `b` holds where it is the upper one from the lower

-- a row of sum above 1 is left to take from
proper_of_lem : (b : Bool) (f : Form) → Unimodular f → 1 < row_sum b f → Proper f
proper_of_lem true f u h = proper_swap (swap f) (proper_by (swap f) (unimodular_swap f u) h)
proper_of_lem false f u h = proper_by f u h

pub some_row : (b : Bool) (f : Form) → Unimodular f → 0 < row_sum b f
some_row true f u = (unimodular_whole f u).bottom
some_row false f u = (unimodular_whole f u).top

pub both_rows : (b : Bool) (f : Form) → row_sum b f + row_sum (not b) f ≡ total f
both_rows true f = omega arith
both_rows false f = omega arith

tested : (b : Bool) (f : Form) → row_sum (not b) f < row_sum b f → b ≡ ltb (f.p + f.q) (f.r + f.t)
tested true f h = sym (lt-ltb (f.p + f.q) (f.r + f.t) h)
tested false f h = sym (le-ltb (f.p + f.q) (f.r + f.t) (omega arith))

module _ (k : ℕ) (f : Form) where
  taken_none : (b : Bool) → row_taken b 0 f ≡ f
  taken_none true = form_eq refl refl (omega arith) (omega arith)
  taken_none false = form_eq (omega arith) (omega arith) refl refl

  taken_more : (b : Bool) → row_taken b k (row_taken b 1 f) ≡ row_taken b (suc k) f
  taken_more true = form_eq refl refl (omega arith) (omega arith)
  taken_more false = form_eq (omega arith) (omega arith) refl refl

  takes_more : (b : Bool) → RowTakes b 1 f → RowTakes b k (row_taken b 1 f) → RowTakes b (suc k) f
  takes_more true m i = record { left = omega (arith, m.left, i.left); right = omega (arith, m.right, i.right) }
  takes_more false m i = record { left = omega (arith, m.left, i.left); right = omega (arith, m.right, i.right) }

  -- what is left in the row, and in all
  taken_row : (b : Bool) → RowTakes b k f → (row_sum b (row_taken b k f) + k * row_sum (not b) f ≡ row_sum b f)
      × (row_sum (not b) (row_taken b k f) ≡ row_sum (not b) f)
  taken_row true m = (omega (arith, m.left, m.right), refl)
  taken_row false m = (omega (arith, m.left, m.right), refl)

  pub taken_total : (b : Bool) → RowTakes b k f → total (row_taken b k f) + k * row_sum (not b) f ≡ total f
  taken_total b m = omega (arith, both_rows b f, both_rows b (row_taken b k f), (taken_row b m).0, (taken_row b m).1)

-- ---- one block

block : (b : Bool) (f : Form) → Unimodular f → Proper f → b ≡ ltb (f.p + f.q) (f.r + f.t)
    → tail_of (total f) f ≡ S ∷ pick b P Q ∷ tail_of (total (row_taken b 1 f)) (row_taken b 1 f)
block b f u k e =
    let i = turn_by_lem b (swap f) e in
    tail_two f u k ∙ ap (λ (x : Letter). S ∷ x ∷ tail_of (total (turn_form (swap f))) (turn_form (swap f))) i.0
    ∙ ap (λ (g : Form). S ∷ pick b P Q ∷ tail_of (total g) g) i.1

-- ---- runs

pub record Run (x : Letter) (k : ℕ) (f g : Form) : Type 0 where
  pub word : tail_of (total f) f ≡ blocks x k ++ tail_of (total g) g
  pub apart : Unimodular g

pub record Runs (b : Bool) (k : ℕ) (f : Form) : Type 0 where
  pub run : Run (pick b P Q) k f (row_taken b k f)
  pub takes : RowTakes b k f

runs_none : (b : Bool) (f : Form) → Unimodular f → Runs b 0 f
runs_none b f u =
    let e = taken_none 0 f b in
    record {
      run = record { word = ap (λ (g : Form). tail_of (total g) g) (sym e); apart = subst Unimodular (sym e) u };
      takes = record { left = omega arith; right = omega arith };
    }

runs_more : (b : Bool) (k : ℕ) (f : Form) → Unimodular f → Proper f → b ≡ ltb (f.p + f.q) (f.r + f.t) → Runs b k (row_taken b 1 f) → Runs b (suc k) f
runs_more b k f u n e i =
    let x = pick b P Q in
    let j = taken_more k f b in
    record {
      run = record {
        word = block b f u n e ∙ ap (λ (l : List Letter). S ∷ x ∷ l) i.run.word ∙ ap (λ (g : Form). S ∷ x ∷ (blocks x k ++ tail_of (total g) g)) j;
        apart = subst Unimodular j i.run.apart;
      };
      takes = takes_more k f b (row_takes b f u n e) i.takes;
    }

pub runs : (b : Bool) (k : ℕ) (f : Form) → Unimodular f → k * row_sum (not b) f < row_sum b f → Runs b k f
runs b zero f u h = runs_none b f u
runs b (suc k) f u h =
    let w = some_row (not b) f u in
    let e = tested b f (omega arith) in
    let n = proper_of_lem b f u (omega arith) in
    let m = taken_row 1 f b (row_takes b f u n e) in
    let u' = subst Unimodular (turn_by_lem b (swap f) e).1 (turn_apart (swap f) (unimodular_swap f u) (proper_swap f n)) in
    runs_more b k f u n e (runs b k (row_taken b 1 f) u' (rw m.1 (omega (arith, m.0))))

-- ---- the quotient

-- (a - 1) / b blocks, at least one where b is below a, leave something, and no more than b
pub record Takes (a b k : ℕ) : Type 0 where
  pub leaves : k * b < a
  pub most : a ≤ k * b + b
  pub some : b < a → 0 < k

pub takes : (a b : ℕ) → 0 < a → 0 < b → Takes a b (run_length a b)
unfolding run_length
takes a b h g =
    let k = (a - 1) / b in
    let e = div-add-mod' (a - 1) b in
    let m = mod-lt (a - 1) {m = b} g in
    record { leaves = omega arith; most = omega arith; some = λ l. times_some k b (omega arith) }
  where
    times_some : (k b : ℕ) → 0 < k * b → 0 < k
    times_some zero b l = absurd (omega arith)
    times_some (suc k) b l = omega arith

-- the rows of a proper form differ
same_rows : (p q : ℕ) → Unimodular (form p q p q) → ⊥
same_rows p q (inl e) = omega arith
same_rows p q (inr e) = omega arith

pub differ : (f : Form) → Unimodular f → Proper f → f.r + f.t ≤ f.p + f.q → f.r + f.t < f.p + f.q
differ f u k h =
    let m = rows f u k h in
    let w = f.p + f.q - (f.r + f.t) in
    go f.p f.q f.r f.t u m.left m.right
  where
    go : (p q r t : ℕ) → Unimodular (form p q r t) → r ≤ p → t ≤ q → r + t < p + q
    go p q r t u l m = elim (dec_lt (r + t) (p + q)) [
      | yes y ↦ y
      | no y ↦ (let a : r ≡ p = omega arith in let b : t ≡ q = omega arith in absurd (same_rows p q (rw (a, b) at u)))
    ]

-- ---- one run of a proper form

-- what is left is less, by a third at least
pub record Onwards (x : Letter) (k : ℕ) (f g : Form) : Type 0 where
  pub run : Run x k f g
  pub less : total g < total f
  pub thirds : 3 * total g ≤ 2 * total f

pub one_run : (b : Bool) (f : Form) → Unimodular f → row_sum (not b) f < row_sum b f
    → Onwards (pick b P Q) (run_length (row_sum b f) (row_sum (not b) f)) f (row_taken b (run_length (row_sum b f) (row_sum (not b) f)) f)
one_run b f u h =
    let j = run_length (row_sum b f) (row_sum (not b) f) in
    let d = takes (row_sum b f) (row_sum (not b) f) (some_row b f u) (some_row (not b) f u) in
    let i = runs b j f u d.leaves in
    let all = taken_total j f b i.takes in
    let once = at_least j (row_sum (not b) f) (d.some h) in
    record {
      run = i.run;
      less = omega (arith, all, once, some_row (not b) f u);
      thirds = omega (arith, all, once, d.most, both_rows b f);
    }
  where
    at_least : (k b : ℕ) → 0 < k → b ≤ k * b
    at_least zero b l = absurd (omega arith)
    at_least (suc k) b l = omega arith

pub upper_run : (f : Form) → Unimodular f → Proper f → f.r + f.t ≤ f.p + f.q
    → Onwards Q (run_length (f.p + f.q) (f.r + f.t)) f (taken_upper (run_length (f.p + f.q) (f.r + f.t)) f)
upper_run f u k h = one_run false f u (differ f u k h)

pub lower_run : (f : Form) → Unimodular f → f.p + f.q < f.r + f.t
    → Onwards P (run_length (f.r + f.t) (f.p + f.q)) f (taken_lower (run_length (f.r + f.t) (f.p + f.q)) f)
lower_run f u h = one_run true f u h
