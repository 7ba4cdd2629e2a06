-- The walk, step by step: what is left to write, behind what is written, stays the same.
--
-- In order: ways put together (`onward_refl`, `onward_trans`), one letter (`onward_step`); before the first letter (`whole_sound`); what
-- each part of the walk leaves (`block_going`, `block_less`, `ended_none`, `ended_S`, `begun_head`, `begun_tail`);
-- the whole walk (`walked`).
-- Assumes nothing.
use mathlib.Core.Path.{◌≡◌, refl, sym, ◌∙◌, ap, subst}
use mathlib.Core.Bool.{Bool, true, false}
use mathlib.Core.List.{List, [], ◌∷◌}
use Prim.Native.Nat.{ℕ, ◌+◌, ◌^◌, ◌≤◌, ◌<◌}
use native.Mathlib.Omega.{arith}
use lib.ListN.{length, length-append}
use lib.IntN.{ℤ, pos}
use Rattle.matrix.specs.Matrix.{Mat, det}
use Rattle.matrix.specs.Words.{Letter, S}
use Rattle.matrix.specs.Euclid.{Form, total, swap, tail_of, agree, sizes, word_of}
use Rattle.matrix.specs.Bounds.{Small}
use Rattle.matrix.proofs.Form.{Proper, unimodular_swap}
use Rattle.coset.specs.Positions.{Real, written, goes, ends, writes, Polygon, column_sign, FrameEquation, Positions}
use Rattle.coset.proofs.Positions.{·-plus}
use Rattle.walk.specs.Inner.Way.{form_of, rest_of, proper_of, turn_letter, turn_form, stored, sign_left, WayStepped, Onward, OneApart, Sound}
use Rattle.walk.specs.Inner.Way.{Begun, Going, Ended, Walked}
use Rattle.walk.specs.declared.Way.{Way}
use Rattle.walk.proofs.Told.{sign_step, sign_merged}
use Rattle.walk.proofs.Stored.{stored-++, length_stored}
use Rattle.walk.proofs.Forms.{properly, proper_yes, proper_swap, turn_apart, turn_less, tail_two, tail_one}
use Rattle.walk.proofs.Forms.{tail_none, apart_of, proper_of_lem, word_head_lem, word_tail}

-- ---- the same way

module _ {v : ℕ} {t : List ℤ} {start limit : ℕ} where
  pub onward_refl : (l : List Letter) (x n : ℕ) (out : List ℤ) → Onward v t start limit l x n out l x n out
  onward_refl l x n out = record { ends_at = refl; count = refl; left = refl }

  pub onward_trans : {l m k : List Letter} {x n y i z j : ℕ} {out out1 out2 : List ℤ}
      → Onward v t start limit l x n out m y i out1 → Onward v t start limit m y i out1 k z j out2 → Onward v t start limit l x n out k z j out2
  onward_trans a b = record { ends_at = b.ends_at ∙ a.ends_at; count = b.count ∙ a.count; left = b.left ∙ a.left }

  pub onward_step : {x : Letter} {a b : Way} {out out' : List ℤ} (l : List Letter) → WayStepped v t start limit x a out b out'
      → Onward v t start limit (x ∷ l) a.at a.count out l b.at b.count out'
  onward_step {x} {a} {b} {out} {out'} l s =
      let p = a.at in
      let u = written v t x p in
      let r = writes v t (goes v t x p) l in
      record {
        ends_at = ap (λ (y : ℕ). ends v t y l) s.at;
        count = ap (λ (y : ℕ). b.count + length (writes v t y l)) s.at ∙ omega (arith, s.count, length-append u r);
        left = ap (λ (y : ℕ). stored start limit b.count (writes v t y l) out') s.at
            ∙ ap (λ (i : ℕ). stored start limit i r out') s.count
            ∙ ap (stored start limit (a.count + length u) r) s.left
            ∙ sym (stored-++ start limit u r a.count out);
      }

  pub onward_from : {l l' m : List Letter} {x n y i : ℕ} {out out' : List ℤ} → l ≡ l' → Onward v t start limit l' x n out m y i out'
      → Onward v t start limit l x n out m y i out'
  onward_from {m} {x} {n} {y} {i} {out} {out'} e a = subst (λ (k : List Letter). Onward v t start limit k x n out m y i out') (sym e) a

  pub onward_to : {l m m' : List Letter} {x n y i : ℕ} {out out' : List ℤ} → m' ≡ m → Onward v t start limit l x n out m y i out'
      → Onward v t start limit l x n out m' y i out'
  onward_to {l} {x} {n} {y} {i} {out} {out'} e a = subst (λ (k : List Letter). Onward v t start limit l x n out k y i out') (sym e) a

-- ---- before the first letter

pub sound_more : {v : ℕ} {t : List ℤ} (m n : ℕ) {a : Way} → m ≤ n → Sound v t m a → Sound v t n a
sound_more m n h o = record { real = o.real; apart = o.apart; few = omega (arith, o.few) }

module _ (m : Mat) (d : det m ≡ pos 1) (a : Way) (e : form_of a ≡ sizes m) where
  pub whole_proper : agree m ≡ true → proper_of (form_of a) ≡ true
  whole_proper h = ap proper_of e ∙ proper_yes (sizes m) (proper_of_lem m d h)

module _ {v : ℕ} {t : List ℤ} (m : Mat) (d : det m ≡ pos 1) (small : Small (2 ^ 60) m) {x : ℕ} (real : Real v t x) {a : Way} (e : form_of a ≡ sizes m)
    (at_x : a.at ≡ x) (zero : a.count ≡ 0) where
  pub whole_sound : Sound v t (2 ^ 63) a
  whole_sound = record {
    real = subst (Real v t) (sym at_x) real;
    apart = subst OneApart (sym e) (apart_of m d);
    few = omega (arith, zero, ap total e, small.in_a, small.in_b, small.in_c, small.in_d);
  }

-- ---- S and a power of Q

pub swap_proper : (f : Form) → proper_of f ≡ true → Proper (swap f)
swap_proper f h = proper_swap f (properly f h)

module _ {v : ℕ} {t : List ℤ} (g : Polygon v t) {start limit : ℕ} where
  stepped_few : {x : Letter} {a b : Way} {out out' : List ℤ} → WayStepped v t start limit x a out b out' → b.count ≤ a.count + 1
  stepped_few {x} {a} s = omega (arith, s.count, g.short x a.at)

  stepped_real : {x : Letter} {a b : Way} {out out' : List ℤ} → WayStepped v t start limit x a out b out' → Real v t a.at → Real v t b.at
  stepped_real {x} {a} s r = subst (Real v t) (sym s.at) (g.closed x a.at r)

  pub stepped_long : {x : Letter} {a b : Way} {out out' : List ℤ} → WayStepped v t start limit x a out b out' → length out' ≡ length out
  stepped_long {x} {a} {b} {out} s = ap length s.left ∙ length_stored start limit (written v t x a.at) a.count out

  module _ {a c : Way} {out out1 : List ℤ} (o : Sound v t (2 ^ 63) a) (h : proper_of (form_of a) ≡ true) (s : WayStepped v t start limit S a out c out1)
      (e : form_of c ≡ swap (form_of a)) where
    module _ {b : Way} {out2 : List ℤ} (s' : WayStepped v t start limit (turn_letter (form_of c)) c out1 b out2) (e' : form_of b ≡ turn_form (form_of c)) where
      form_is : form_of b ≡ turn_form (swap (form_of a))
      form_is = e' ∙ ap turn_form e

      pub block_less : total (form_of b) < total (form_of a)
      block_less = omega (arith, ap total form_is, turn_less (swap (form_of a)) (unimodular_swap (form_of a) o.apart) (swap_proper (form_of a) h))

      rest_is : tail_of (total (form_of a)) (form_of a) ≡ S ∷ turn_letter (form_of c) ∷ tail_of (total (form_of b)) (form_of b)
      rest_is =
          tail_two (form_of a) o.apart (properly (form_of a) h)
          ∙ ap (λ (f : Form). S ∷ turn_letter f ∷ tail_of (total (turn_form f)) (turn_form f)) (sym e)
          ∙ ap (λ (f : Form). S ∷ turn_letter (form_of c) ∷ tail_of (total f) f) (sym e')

      pub block_going : Going v t start limit a out b out2
      unfolding rest_of
      block_going = record {
        sound = record {
          real = stepped_real s' (stepped_real s o.real);
          apart = subst OneApart (sym form_is) (turn_apart (swap (form_of a)) (unimodular_swap (form_of a) o.apart) (swap_proper (form_of a) h));
          few = omega (arith, stepped_few s, stepped_few s', o.few, block_less);
        };
        onward = onward_from rest_is
            (onward_trans (onward_step (turn_letter (form_of c) ∷ tail_of (total (form_of b)) (form_of b)) s)
            (onward_step (tail_of (total (form_of b)) (form_of b)) s'));
        sign = sign_step (tail_of (total (form_of b)) (form_of b)) s' ∙ sign_step (turn_letter (form_of c) ∷ tail_of (total (form_of b)) (form_of b)) s
            ∙ ap (sign_left v t a.sign a.at) (sym rest_is);
      }

  -- ---- the end

  pub ended_none : {a : Way} {out : List ℤ} → Sound v t (2 ^ 63) a → a.q + a.r ≡ 0 → Ended v t start limit a out a out
  unfolding rest_of
  ended_none {a} {out} o h =
      let e = tail_none (form_of a) o.apart h in
      record {
        onward = onward_from e (onward_refl [] a.at a.count out);
        sign = sym (ap (sign_left v t a.sign a.at) e ∙ ·-plus a.sign);
      }

  pub ended_S : {a b : Way} {out out' : List ℤ} → Sound v t (2 ^ 63) a → 0 < a.q + a.r → a.p + a.s ≡ 0 → WayStepped v t start limit S a out b out'
      → Ended v t start limit a out b out'
  unfolding rest_of
  ended_S {a} {b} o h k s =
      let e = tail_one (form_of a) o.apart h k in
      record {
        onward = onward_from e (onward_step [] s);
        sign = sym (·-plus b.sign) ∙ sign_step [] s ∙ ap (sign_left v t a.sign a.at) (sym e);
      }

  -- ---- the beginning

  module _ (m : Mat) (d : det m ≡ pos 1) (small : Small (2 ^ 60) m) {x : ℕ} (real : Real v t x) {a : Way} (e : form_of a ≡ sizes m) (at_x : a.at ≡ x)
      (zero : a.count ≡ 0) (sign_is : a.sign ≡ column_sign m) where
    pub begun_tail : {out : List ℤ} → agree m ≡ false → Begun v t start limit m x out a out
    unfolding rest_of
    begun_tail {out} h = record {
      sound = whole_sound m d small real e at_x zero;
      onward = record {
        ends_at = ap (λ (y : ℕ). ends v t y (tail_of (total (form_of a)) (form_of a))) at_x ∙ ap (ends v t x) word;
        count = ap (λ (i : ℕ). i + length (writes v t a.at (tail_of (total (form_of a)) (form_of a)))) zero
            ∙ ap (λ (y : ℕ). 0 + length (writes v t y (tail_of (total (form_of a)) (form_of a)))) at_x
            ∙ ap (λ (l : List Letter). 0 + length (writes v t x l)) word;
        left = ap (λ (i : ℕ). stored start limit i (writes v t a.at (tail_of (total (form_of a)) (form_of a))) out) zero
            ∙ ap (λ (y : ℕ). stored start limit 0 (writes v t y (tail_of (total (form_of a)) (form_of a))) out) at_x
            ∙ ap (λ (l : List Letter). stored start limit 0 (writes v t x l) out) word;
      };
      sign = ap (λ (s : Bool). sign_left v t s a.at (tail_of (total (form_of a)) (form_of a))) sign_is
          ∙ ap (λ (y : ℕ). sign_left v t (column_sign m) y (tail_of (total (form_of a)) (form_of a))) at_x ∙ ap (sign_left v t (column_sign m) x) word;
    }
      where
        word : tail_of (total (form_of a)) (form_of a) ≡ word_of m
        word = ap (λ (f : Form). tail_of (total f) f) e ∙ sym (word_tail m h)

    pub begun_head : {b : Way} {out out' : List ℤ} → agree m ≡ true → WayStepped v t start limit (turn_letter (form_of a)) a out b out'
        → form_of b ≡ turn_form (form_of a) → Begun v t start limit m x out b out'
    unfolding rest_of
    begun_head {b} {out} {out'} h s e' =
        let k = proper_of_lem m d h in
        let u = apart_of m d in
        let form_is : form_of b ≡ turn_form (sizes m) = e' ∙ ap turn_form e in
        let less = turn_less (sizes m) u k in
        let o = whole_sound m d small real {a = a} e at_x zero in
        let word : word_of m ≡ turn_letter (form_of a) ∷ tail_of (total (form_of b)) (form_of b) =
        word_head_lem m d h ∙ ap (λ (f : Form). turn_letter f ∷ tail_of (total (turn_form f)) (turn_form f)) (sym e)
        ∙ ap (λ (f : Form). turn_letter (form_of a) ∷ tail_of (total f) f) (sym e') in
        let one = onward_step (tail_of (total (form_of b)) (form_of b)) s in
        record {
          sound = record {
            real = stepped_real s o.real;
            apart = subst OneApart (sym form_is) (turn_apart (sizes m) u k);
            few = omega (arith, stepped_few s, o.few, ap total form_is, ap total e, less);
          };
          onward = onward_from word
              (subst (λ (i : ℕ). Onward v t start limit (turn_letter (form_of a) ∷ tail_of (total (form_of b)) (form_of b)) x i out
              (tail_of (total (form_of b)) (form_of b)) b.at b.count out') zero
              (subst (λ (y : ℕ). Onward v t start limit (turn_letter (form_of a) ∷ tail_of (total (form_of b)) (form_of b)) y a.count out
              (tail_of (total (form_of b)) (form_of b)) b.at b.count out') at_x one));
          sign = sign_step (tail_of (total (form_of b)) (form_of b)) s ∙ ap (sign_left v t a.sign a.at) (sym word)
              ∙ ap (λ (r : Bool). sign_left v t r a.at (word_of m)) sign_is ∙ ap (λ (y : ℕ). sign_left v t (column_sign m) y (word_of m)) at_x;
        }

-- ---- the whole walk

module _ {v : ℕ} {t : List ℤ} {start limit : ℕ} where
  pub going_none : {a : Way} {out : List ℤ} → Sound v t (2 ^ 63) a → Going v t start limit a out a out
  going_none {a} {out} o = record { sound = o; onward = onward_refl (rest_of a) a.at a.count out; sign = refl }

  pub going_more : {a b c : Way} {out out1 out2 : List ℤ} → Going v t start limit a out b out1 → Going v t start limit b out1 c out2
      → Going v t start limit a out c out2
  going_more g h = record { sound = h.sound; onward = onward_trans g.onward h.onward; sign = h.sign ∙ g.sign }

  pub walked : {m : Mat} {x : ℕ} {a b c : Way} {out out1 out2 out3 : List ℤ} → Positions v t → det m ≡ pos 1 → Real v t x → Begun v t start limit m x out a out1
      → Going v t start limit a out1 b out2
      → Ended v t start limit b out2 c out3
      → Walked v t start limit m x out c out3
  walked {m} {x} {c} k d r b g e =
      let o = onward_trans b.onward (onward_trans g.onward e.onward) in
      let s = e.sign ∙ g.sign ∙ b.sign ∙ sign_merged v t m x in
      let l = writes v t x (word_of m) in
      record {
        at = o.ends_at;
        count = omega (arith, o.count);
        left = o.left;
        sign = s;
        is = subst (λ (n : Bool). FrameEquation v t x m n l c.at) (sym s) (subst (FrameEquation v t x m _ l) (sym o.ends_at) (k.walks m x d r));
      }
