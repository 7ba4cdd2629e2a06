-- What is left of a matrix, as four naturals: one letter of its word at a time.
--
-- In order: when a form is proper (`properly`, `improper`); one power of Q (`turn_view`, `turn_apart`, `turn_less`), as the code makes it (`row_takes`,
-- `turn_by_lem`, `row_above`, `row_below`);
-- S and a power of Q (`tail_two`), S alone and nothing (`tail_one`, `tail_none`); how a matrix's word begins (`apart_of`, `word_head_lem`,
-- `word_tail`).
--
-- Why: the rows of a form that is one apart are comparable, so the smaller one can be taken from the other, which leaves less.
-- Assumes nothing.
use mathlib.Core.Path.{◌≡◌, refl, sym, ◌∙◌, ap}
use mathlib.Core.Logic.{inl, inr}
use mathlib.Core.Bool.{Bool, true, false, not}
use mathlib.Core.List.{List, [], ◌∷◌}
use Prim.Native.Nat.{ℕ, zero, suc, ◌+◌, ◌*◌, ◌-◌, ◌≤◌, ◌<◌}
use native.Mathlib.Omega.{arith}
use lib.Dec.{ltb, eqb}
use lib.IntN.{pos}
use borrow.Author.Tests.{ltb-true, ltb-false, leb-true, leb-false, le-leb, lt-leb, eqb-true, eqb-false, ne_eqb}
use Rattle.matrix.specs.Matrix.{Mat, det}
use Rattle.matrix.specs.Words.{Letter, S, Q, P}
use Rattle.matrix.specs.Euclid.{Form, total, swap, turn, tail_of, head_of, agree, sizes, spell, word_of}
use Rattle.matrix.proofs.Matrix.{det-≈}
use Rattle.matrix.proofs.Form.{Unimodular, unimodular_swap, unimodular_whole, Proper, Rows, rows, form_eq, down, unimodular_down, tail_stop, tail_last}
use Rattle.matrix.proofs.Form.{tail_more, tail_fuel}
use Rattle.matrix.proofs.Existence.{shape, unimodular}
use Rattle.basics.specs.Choice.{pick}
use Rattle.basics.proofs.Choice.{either, clash, and_left, and_right}
use Rattle.walk.specs.Inner.Way.{proper_of, begins_with_q, turn_letter, turn_form, row_taken, RowTakes}

-- ---- proper forms

pub properly : (f : Form) → proper_of f ≡ true → Proper f
properly f h =
    let a = some (f.q + f.r) (and_left (not (eqb (f.q + f.r) 0)) (not (eqb (f.p + f.t) 0)) h) in
    let b = some (f.p + f.t) (and_right (not (eqb (f.q + f.r) 0)) (not (eqb (f.p + f.t) 0)) h) in
    record { not_one = a; not_S = b }
  where
    some : (n : ℕ) → not (eqb n 0) ≡ true → 0 < n
    some zero e = clash e refl
    some (suc n) e = omega arith

pub proper_yes : (f : Form) → Proper f → proper_of f ≡ true
proper_yes f k = rw (ne_eqb (f.q + f.r) 0 (λ e. omega (arith, k.not_one)), ne_eqb (f.p + f.t) 0 (λ e. omega (arith, k.not_S)))

pub proper_swap : (f : Form) → Proper f → Proper (swap f)
proper_swap f k = record { not_one = omega (arith, k.not_S); not_S = omega (arith, k.not_one) }

-- S is left where it isn't nothing
pub improper : (f : Form) → proper_of f ≡ false → 0 < f.q + f.r → f.p + f.t ≡ 0
improper f h k = elim (either (eqb (f.p + f.t) 0)) [
  | inl e ↦ eqb-true (f.p + f.t) 0 e
  | inr e ↦ clash (proper_yes f (record { not_one = k; not_S = (let z = eqb-false (f.p + f.t) 0 e in above (f.p + f.t) z) })) h
]
  where
    above : (n : ℕ) → (n ≡ 0 → ⊥) → 0 < n
    above zero z = absurd (z refl)
    above (suc n) z = omega arith

-- ---- one power of Q

pub turn_view : (next : Form → List Letter) (f : Form) → turn next f ≡ turn_letter f ∷ next (turn_form f)
turn_view next f = elim (either (begins_with_q f)) [ inl e ↦ rw e | inr e ↦ rw e ]

module _ (f : Form) (u : Unimodular f) (k : Proper f) where
  low : begins_with_q f ≡ true → Rows (swap f)
  low e = rows (swap f) (unimodular_swap f u) (proper_swap f k) (leb-true (f.p + f.q) (f.r + f.t) e)

  high : begins_with_q f ≡ false → Rows f
  high e = let h = leb-false (f.p + f.q) (f.r + f.t) e in rows f u k (omega arith)

  pub turn_apart : Unimodular (turn_form f)
  turn_apart = elim (either (begins_with_q f)) [
    | inl e ↦ rw e (unimodular_down (swap f) (low e) (unimodular_swap f u))
    | inr e ↦ rw e (unimodular_swap (down f) (unimodular_down f (high e) u))
  ]

  pub turn_less : total (turn_form f) < total f
  turn_less =
      let w = unimodular_whole f u in
      elim (either (begins_with_q f)) [
        | inl e ↦ rw e (let m = low e in omega (arith, w.top, m.left, m.right))
        | inr e ↦ rw e (let m = high e in omega (arith, w.bottom, m.left, m.right))
      ]

  -- a word that begins with a power of Q, with more fuel than it needs
  pub head_more : (n : ℕ) → total (turn_form f) ≤ n → head_of n f ≡ turn_letter f ∷ tail_of (total (turn_form f)) (turn_form f)
  head_more n h = turn_view (tail_of n) f ∙ ap (λ (l : List Letter). turn_letter f ∷ l) (tail_fuel n (total (turn_form f)) (turn_form f) turn_apart h (omega arith))

-- ---- the same as the code makes it: `inverse` holds where the lower row of f is the larger one

pub row_takes : (inverse : Bool) (f : Form) → Unimodular f → Proper f → inverse ≡ ltb (f.p + f.q) (f.r + f.t) → RowTakes inverse 1 f
row_takes true f u k e =
    let h = ltb-true (f.p + f.q) (f.r + f.t) (sym e) in
    let m = rows (swap f) (unimodular_swap f u) (proper_swap f k) (omega arith) in
    record { left = omega (arith, m.left); right = omega (arith, m.right) }
row_takes false f u k e =
    let m = rows f u k (ltb-false (f.p + f.q) (f.r + f.t) (sym e)) in
    record { left = omega (arith, m.left); right = omega (arith, m.right) }

pub turn_by_lem : (inverse : Bool) (f : Form) → inverse ≡ ltb (f.r + f.t) (f.p + f.q)
    → (turn_letter f ≡ pick inverse P Q) × (turn_form f ≡ row_taken inverse 1 (swap f))
turn_by_lem true f e =
    let h = lt-leb (f.p + f.q) (f.r + f.t) (ltb-true (f.r + f.t) (f.p + f.q) (sym e)) in
    (rw h refl, rw h (form_eq refl refl (omega arith) (omega arith)))
turn_by_lem false f e =
    let h = le-leb (f.p + f.q) (f.r + f.t) (ltb-false (f.r + f.t) (f.p + f.q) (sym e)) in
    (rw h refl, rw h (form_eq (omega arith) (omega arith) refl refl))

-- which row is taken from
module _ {inverse : Bool} {k : ℕ} {f : Form} (m : RowTakes inverse k f) where
  pub row_below : inverse ≡ true → (k * f.p ≤ f.r) × (k * f.q ≤ f.t)
  row_below e = let m' : RowTakes true k f = rw e at m in (m'.left, m'.right)

  pub row_above : inverse ≡ false → (k * f.r ≤ f.p) × (k * f.t ≤ f.q)
  row_above e = let m' : RowTakes false k f = rw e at m in (m'.left, m'.right)

-- ---- a word that doesn't

module _ (f : Form) (u : Unimodular f) where
  -- there is fuel for one turn
  record Fuel : Type 0 where
    fuel : ℕ
    is : total f ≡ suc fuel

  fueled : Fuel
  fueled = let w = unimodular_whole f u in record { fuel = total f - 1; is = omega (arith, w.top) }

  pub tail_two : Proper f → tail_of (total f) f ≡ S ∷ turn_letter (swap f) ∷ tail_of (total (turn_form (swap f))) (turn_form (swap f))
  tail_two k =
      let n = fueled in
      let k' = proper_swap f k in
      let less = turn_less (swap f) (unimodular_swap f u) k' in
      ap (λ (i : ℕ). tail_of i f) n.is ∙ tail_more n.fuel f k
      ∙ ap (λ (l : List Letter). S ∷ l) (head_more (swap f) (unimodular_swap f u) k' n.fuel (omega (arith, n.is)))

  pub tail_one : 0 < f.q + f.r → f.p + f.t ≡ 0 → tail_of (total f) f ≡ S ∷ []
  tail_one h k = let n = fueled in ap (λ (i : ℕ). tail_of i f) n.is ∙ tail_last n.fuel f h k

  pub tail_none : f.q + f.r ≡ 0 → tail_of (total f) f ≡ []
  tail_none h = let n = fueled in ap (λ (i : ℕ). tail_of i f) n.is ∙ tail_stop n.fuel f h

-- ---- how the word of a matrix begins

pub apart_of : (m : Mat) → det m ≡ pos 1 → Unimodular (sizes m)
apart_of m e = let h = shape m e in unimodular h.head h.column (sizes m) (sym (det-≈ h.is) ∙ e)

product_some : (p q r t : ℕ) → 0 < p * r + q * t → 0 < q + r
product_some p zero zero t h = omega arith
product_some p zero (suc r) t h = omega arith
product_some p (suc q) r t h = omega arith

pub proper_of_lem : (m : Mat) → det m ≡ pos 1 → agree m ≡ true → Proper (sizes m)
proper_of_lem m e a =
    let h = shape m e in
    let d = h.agreeing (sym h.right ∙ a) in
    let f = sizes m in
    record { not_one = product_some f.p f.q f.r f.t d; not_S = product_some f.q f.p f.t f.r (omega arith) }

pub word_head_lem : (m : Mat) → det m ≡ pos 1 → agree m ≡ true → word_of m ≡ turn_letter (sizes m) ∷ tail_of (total (turn_form (sizes m))) (turn_form (sizes m))
word_head_lem m e a =
    let u = apart_of m e in
    let k = proper_of_lem m e a in
    ap (λ (b : Bool). spell b (sizes m)) a ∙ head_more (sizes m) u k (total (sizes m)) (omega (arith, turn_less (sizes m) u k))

pub word_tail : (m : Mat) → agree m ≡ false → word_of m ≡ tail_of (total (sizes m)) (sizes m)
word_tail m a = ap (λ (b : Bool). spell b (sizes m)) a
