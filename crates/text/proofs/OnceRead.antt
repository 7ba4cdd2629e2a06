-- WHAT A JOB ANSWERS ONCE ITS TEXT IS READ.
--     Standing ns room k out     k of the numbers ns, one or more of them, fit into `room` entries, and stand at the front of `out`
--     standing-first, standing-others     the first of them, and the others
--     stands                     numbers that are handed on stand there
--     input_numbers              so do those of an answer of `read_input`
--     read_numbers               the same of `read`
--     by-input, by-standing      what a program's text gives, by the answer of `read_input`, and by the numbers that stand at the front
-- Assumes nothing.
use Rattle.std.specs.Prelude.{Ok}
use mathlib.Core.Path.{◌≡◌, refl, sym, ap, ◌∙◌}
use mathlib.Core.Bool.{Bool, false}
use mathlib.Core.List.{List, [], ◌∷◌, ◌++◌}
use Prim.Native.Nat.{ℕ, zero, suc, ◌-◌, ◌≤◌}
use native.Mathlib.Omega.{arith}
use lib.IntN.{ℤ, pos}
use lib.ListN.{length, get_or, take, drop, length-append}
use lib.Seq.{take-nil, length-take-le}
use Rattle.call.specs.declared.refusal.Refusal.{Refusal}
use Rattle.text.specs.Piece.{pieces, numbers}
use Rattle.text.specs.Reading.{reading_of, input_of, by_reading, input_gives}
use Rattle.text.specs.Inner.Inside.{left_by}
use Rattle.text.specs.declared.Format.{Format}
use Rattle.call.specs.Refusal.{Filled}
use Rattle.text.proofs.Handed.{input_on, front_entries}

pub record Standing (ns : List ℤ) (room k : ℕ) (out : List ℤ) : Type 0 where
  pub some_one : 1 ≤ k
  pub fitting : k ≤ room
  pub inside : k ≤ length out
  pub long : k ≡ length (take k out)
  pub front : take k out ≡ take k ns

-- the first of them, and the others
module _ {ns : List ℤ} {room k : ℕ} {out : List ℤ} (h : Standing ns room k out) where
  first_of : (l : List ℤ) (k : ℕ) → 1 ≤ k → get_or (take k l) 0 (pos 0) ≡ get_or l 0 (pos 0)
  first_of [] zero p = absurd (omega arith)
  first_of [] (suc k) p = refl
  first_of (z ∷ l) zero p = absurd (omega arith)
  first_of (z ∷ l) (suc k) p = refl

  pub standing_first : get_or out 0 (pos 0) ≡ get_or ns 0 (pos 0)
  standing_first = sym (first_of out k h.some_one) ∙ ap (λ (l : List ℤ). get_or l 0 (pos 0)) h.front ∙ first_of ns k h.some_one

  pub standing_others : take (k - 1) (drop 1 out) ≡ drop 1 (take k ns)
  standing_others = others out k ∙ ap (drop 1) h.front
    where
      others : (l : List ℤ) (k : ℕ) → take (k - 1) (drop 1 l) ≡ drop 1 (take k l)
      others [] zero = refl
      others [] (suc k) = take-nil (suc k - 1)
      others (z ∷ l) zero = refl
      others (z ∷ l) (suc k) = let e : suc k - 1 ≡ k = omega arith in ap (λ (n : ℕ). take n l) e

-- numbers that were handed on stand there
pub stands : {ns : List ℤ} {room k : ℕ} (before : List ℤ) {out : List ℤ} {r : Filled} → 1 ≤ k → k ≤ room → k ≤ length ns → out ≡ left_by r ns before
    → r ≡ Ok k → Standing ns room k out
unfolding left_by
stands {ns} {room} {k} before {out} some_one fitting there left e =
    let is : out ≡ take k ns ++ drop k before = left ∙ ap (λ (x : Filled). left_by x ns before) e in
    let inside : k ≤ length out = omega (arith, ap length is, length-append (take k ns) (drop k before), length-take-le k ns there) in
    record {
      some_one = some_one;
      fitting = fitting;
      inside = inside;
      long = sym (length-take-le k out inside);
      front = ap (take k) is ∙ front_entries ns before k there;
    }

module _ (longer : Bool) (f : Format) (t : List ℕ) (before : List ℤ) {room : ℕ} {out : List ℤ} (lent : length before ≡ room) {r : Filled}
    (read : (r ≡ input_of longer f t (length before)) × (out ≡ left_by r (numbers (pieces t)) before)) where
  pub told : r ≡ input_of longer f t room
  told = read.0 ∙ ap (input_of longer f t) lent

  pub input_numbers : 1 ≤ f.more → (k : ℕ) → r ≡ Ok k → Standing (numbers (pieces t)) room k out
  input_numbers more k e =
      let h = input_on longer f t room k more (sym e ∙ told) in
      stands before h.some_one h.fitting h.there read.1 e

  -- what is asked for, or what is written
  module _ {X : Type 0} (g : List ℤ → X) (h : Refusal → X) where
    pub by_input : (x : Filled) → r ≡ x → by_reading g h x (numbers (pieces t)) ≡ input_gives f room g h longer t
    by_input x e = ap (λ (y : Filled). by_reading g h y (numbers (pieces t))) (sym e ∙ told)

    pub by_standing : 1 ≤ f.more → (k : ℕ) → r ≡ Ok k → g (take k out) ≡ input_gives f room g h longer t
    by_standing more k e = ap g (input_numbers more k e).front ∙ by_input (Ok k) e

-- ---- the same of a text that isn't a program's input

pub read_numbers : (f : Format) (t : List ℕ) (before : List ℤ) {room : ℕ} {out : List ℤ} → length before ≡ room → {r : Filled}
    → (r ≡ reading_of f t (length before)) × (out ≡ left_by r (numbers (pieces t)) before) → 1 ≤ f.more → (k : ℕ) → r ≡ Ok k
    → Standing (numbers (pieces t)) room k out
unfolding input_of
read_numbers f t before lent read more k e = input_numbers false f t before lent read more k e
