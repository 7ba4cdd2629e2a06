-- A power of Q, and S with a power of Q in one stride.
--
-- In order: where a stride leads (`landed`), and what a turn writes there (`turned`); a power of Q (`powered`); the stride as two steps, with the way between
-- them, which the code doesn't make (`strode`).
-- `inverse` is the direction: Q, or Q⁻¹ where it holds.
-- Assumes nothing.
use mathlib.Core.Path.{◌≡◌, refl, sym, ◌∙◌, ap, subst}
use mathlib.Core.Bool.{Bool, true, false, not}
use mathlib.Core.List.{List}
use Prim.Native.Nat.{ℕ, zero, suc, ◌+◌, ◌^◌, ◌≤◌, ◌<◌}
use native.Mathlib.Omega.{arith}
use lib.Dec.{ltb}
use lib.ListN.{length}
use lib.IntN.{ℤ, pos, negsuc}
use Rattle.basics.specs.Choice.{pick}
use Rattle.matrix.specs.Words.{Letter, S, Q, P}
use Rattle.matrix.specs.Euclid.{total, swap}
use Rattle.coset.specs.Positions.{Real, step_s, written, goes, letters_of, ◌·◌, step_sign, Polygon, Positions}
use Rattle.coset.specs.Inner.Steps.{turn_by}
use Rattle.walk.specs.Inner.Way.{sign_added, form_of, proper_of, turn_letter, turn_form, stored, row_taken, Taken, LetterPut, WayStepped, Sound, Going}
use Rattle.walk.specs.declared.Way.{Way}
use Rattle.walk.proofs.Stored.{length_stored}
use Rattle.walk.proofs.Forms.{turn_by_lem}
use Rattle.walk.proofs.Told.{sign_turn, sign_block}
use Rattle.walk.proofs.Letters.{stepped}
use Rattle.walk.proofs.Onward.{block_going, block_less, stepped_long}

-- ---- where a stride leads is a position, and what a turn writes there is what it wrote before it

pub landed : {v : ℕ} {t : List ℤ} (g : Polygon v t) (x : Letter) (p to : ℕ) → Real v t p → to ≡ goes v t x (step_s v t p) → Real v t to
landed {v} {t} g x p to r e = rw e (g.closed x (step_s v t p) (g.closed S p r))

turned : {v : ℕ} {t : List ℤ} → Positions v t → (inverse : Bool) (q : ℕ)
    → written v t (pick inverse P Q) (goes v t (pick inverse P Q) q) ≡ written v t (pick inverse P Q) q
turned all true q = all.back_writes q
turned all false q = all.turn_writes q

turn_goes : (v : ℕ) (t : List ℤ) (inverse : Bool) (q : ℕ) → turn_by v inverse q ≡ goes v t (pick inverse P Q) q
turn_goes v t true q = refl
turn_goes v t false q = refl

module _ {v : ℕ} {t : List ℤ} {start limit : ℕ} {x : Letter} {p n k : ℕ} {out out' : List ℤ} (g : LetterPut v t start limit x p n out k out') where
  pub put_long : length out' ≡ length out
  put_long = ap length g.left ∙ length_stored start limit (written v t x p) n out

  -- the same where the same is written
  put_as : (q j : ℕ) → written v t x p ≡ written v t x q → j ≡ k → LetterPut v t start limit x q n out j out'
  put_as q j e i = record {
    count = i ∙ g.count ∙ ap (λ (l : List ℤ). n + length l) e;
    left = g.left ∙ ap (λ (l : List ℤ). stored start limit n l out) e;
  }

-- ---- a power of Q, by which row is the larger one

turned_step : {v : ℕ} {t : List ℤ} {start limit : ℕ} {a b : Way} {out out' : List ℤ} (inverse : Bool) → inverse ≡ ltb (a.r + a.s) (a.p + a.q)
    → WayStepped v t start limit (pick inverse P Q) a out b out' → form_of b ≡ row_taken inverse 1 (swap (form_of a))
    → WayStepped v t start limit (turn_letter (form_of a)) a out b out' × (form_of b ≡ turn_form (form_of a))
turned_step {v} {t} {start} {limit} {a} {b} {out} {out'} inverse e s f =
    let i = turn_by_lem inverse (form_of a) e in
    (subst (λ (y : Letter). WayStepped v t start limit y a out b out') (sym i.0) s, f ∙ sym i.1)

pub powered : {v : ℕ} {t : List ℤ} {start limit : ℕ} {a b : Way} {n : ℕ} {out out' : List ℤ} (all : Positions v t) (inverse : Bool) (to : ℕ) (sign : Bool)
    → Real v t a.at → inverse ≡ ltb (a.r + a.s) (a.p + a.q) → LetterPut v t start limit (pick inverse P Q) a.at a.count out n out'
    → to ≡ turn_by v inverse a.at → sign ≡ a.sign · not inverse
    → Taken inverse 1 (record { p = a.r; q = a.s; r = a.p; s = a.q; at = to; count = n; sign = sign }) b
    → WayStepped v t start limit (turn_letter (form_of a)) a out b out' × (form_of b ≡ turn_form (form_of a))
powered {v} {t} {a} {b} all inverse to sign r e g to_is sign_is k =
    let p = a.at in
    turned_step inverse e
    (stepped (put_as g p b.count refl k.count) (k.at ∙ to_is ∙ turn_goes v t inverse p) (k.sign ∙ sign_is ∙ sign_turn v t a.sign p inverse)
    (all.steps (pick inverse P Q) p r))
    k.rows

-- ---- the stride as two steps

-- the way after S, with n letters
abbrev crossing : ℕ → List ℤ → Way → ℕ → Way
crossing v t a n =
    record { p = a.r; q = a.s; r = a.p; s = a.q; at = step_s v t a.at; count = n; sign = a.sign · sign_added v t S a.at }

module _ {v : ℕ} {t : List ℤ} {start limit : ℕ} {a b : Way} {n m : ℕ} {out out1 out' : List ℤ} (all : Positions v t) (o : Sound v t (2 ^ 63) a)
    (h : proper_of (form_of a) ≡ true) where
  pub strode : (inverse : Bool) (to : ℕ) (x crossed sign : Bool) → inverse ≡ ltb (a.p + a.q) (a.r + a.s)
      → LetterPut v t start limit S a.at a.count out n out1 → LetterPut v t start limit (pick inverse P Q) to n out1 m out'
      → to ≡ goes v t (pick inverse P Q) (step_s v t a.at) → x ≡ step_sign v t S a.at → crossed ≡ a.sign · x → sign ≡ crossed · inverse
      → Taken inverse 1 (record { p = a.p; q = a.q; r = a.r; s = a.s; at = to; count = m; sign = sign }) b
      → Going v t start limit a out b out' × (total (form_of b) < total (form_of a)) × (length out' ≡ length out)
  strode inverse to x crossed sign e first second to_is x_is crossed-is sign_is k =
      let g = all.polygon in
      let p = a.at in
      let q = step_s v t p in
      let y = pick inverse P Q in
      let one = stepped {a = a} {b = crossing v t a n} first refl refl (all.steps S p o.real) in
      let two = stepped {a = crossing v t a n} {b = b} (put_as second q b.count (ap (written v t y) to_is ∙ turned all inverse q) k.count)
      (k.at ∙ to_is) (k.sign ∙ sign_is ∙ sign_block v t a.sign p q crossed x inverse x_is crossed-is) (all.steps y q (g.closed S p o.real)) in
      let both = turned_step inverse e two k.rows in (
        block_going g o h one refl both.0 both.1,
        block_less g o h one refl both.0 both.1,
        stepped_long g both.0 ∙ stepped_long g one,
      )

-- a letter is one, or none
pub letter_one : (z : ℤ) → length (letters_of z) ≤ 1
letter_one (pos zero) = omega arith
letter_one (pos (suc n)) = omega arith
letter_one (negsuc n) = omega arith
