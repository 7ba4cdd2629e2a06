-- Bytes put into a slice, one after another.
--     by_writing        what `copy` and `write` leave where the bytes fit
--     no_refusal_lem    and no such answer is a refusal
--     puts_none         no bytes
--     puts_then         bytes behind others
--     puts_same         the length stays
--     puts_within       where the length stays, the bytes end within it
--     puts_front        bytes put at the front are what stands there
--     puts_as           the same bytes in other words
-- Assumes nothing.
use Rattle.std.specs.Prelude.{Ok, Err}
use mathlib.Core.Path.{◌≡◌, sym, ap, ◌∙◌}
use mathlib.Core.List.{List, [], ◌++◌, append_assoc}
use Prim.Native.Nat.{ℕ, ◌+◌, ◌≤◌}
use native.Mathlib.Omega.{arith}
use lib.ListN.{length, take, drop, length-append, length-drop}
use lib.Seq.{take_at, drop-drop, drop-append-add, length-take-le, paste-zero}
use Rattle.call.specs.declared.refusal.Refusal.{Refusal}
use Rattle.decimal.specs.Writing.{written_of, bytes_placed, standing, Puts}
use Rattle.call.specs.Refusal.{Filled}
use Rattle.decimal.proofs.Places.{written_to}

module _ (bs out out' : List ℕ) (at : ℕ) (w : Filled) (e : w ≡ written_of (length bs) (length out) at) (l : out' ≡ standing w bs at out)
    (h : at + length bs ≤ length out) where
  to : w ≡ Ok (at + length bs)
  to = e ∙ sym (written_to (length bs) (length out) at h)

  pub by_writing : (end : ℕ) → w ≡ Ok end → Puts bs at end out out'
  unfolding standing
  by_writing end f =
      let g : Ok end ≡ Ok (at + length bs) = sym f ∙ to in
      record { end_is = cc; left = l ∙ ap (λ (x : Filled). standing x bs at out) to }

  pub no_refusal_lem : {A : Type 0} (f : Refusal) → w ≡ Err f → A
  no_refusal_lem f e = let g : Err f ≡ Ok (at + length bs) = sym e ∙ to in let z : ◌≡◌ {A = ℕ} 0 1 = cc in absurd (omega arith)

pub puts_none : (at : ℕ) (out : List ℕ) → Puts [] at at out out
unfolding bytes_placed
puts_none at out = record { end_is = omega arith; left = paste-zero out at [] }

module _ (a b : List ℕ) (at : ℕ) (out : List ℕ) (h : at ≤ length out) where
  -- what stands before the second
  abbrev front : List ℕ
  front = take at out ++ a

  front_length : length front ≡ at + length a
  front_length = length-append (take at out) a ∙ ap (λ (n : ℕ). n + length a) (length-take-le at out h)

  before_second : take (at + length a) (bytes_placed a at out) ≡ front
  unfolding bytes_placed
  before_second = take_at front (drop (at + length a) out) (at + length a) front_length

  same_place : at + length a + length b ≡ at + (length a + length b)
  same_place = omega arith

  behind_second : drop (at + length a + length b) (bytes_placed a at out) ≡ drop (at + (length a + length b)) out
  unfolding bytes_placed
  behind_second =
      ap (λ (n : ℕ). drop (n + length b) (bytes_placed a at out)) (sym front_length)
      ∙ drop-append-add front (drop (at + length a) out) (length b)
      ∙ drop-drop (length b) (at + length a) out
      ∙ ap (λ (n : ℕ). drop n out) same_place

  placed_then : bytes_placed b (at + length a) (bytes_placed a at out) ≡ bytes_placed (a ++ b) at out
  unfolding bytes_placed
  placed_then =
      ap (λ (l : List ℕ). l ++ b ++ drop (at + length a + length b) (bytes_placed a at out)) before_second
      ∙ ap (λ (l : List ℕ). front ++ b ++ l) behind_second
      ∙ ap (λ (l : List ℕ). l ++ drop (at + (length a + length b)) out) (append_assoc (take at out) a b)
      ∙ ap (λ (n : ℕ). take at out ++ (a ++ b) ++ drop (at + n) out) (sym (length-append a b))

pub puts_then : {a b : List ℕ} {at m e : ℕ} {out out1 out2 : List ℕ} → Puts a at m out out1 → Puts b m e out1 out2 → at ≤ length out
    → Puts (a ++ b) at e out out2
puts_then {a} {b} {at} {m} {e} {out} {out1} {out2} f g h =
    record {
      end_is = omega (arith, f.end_is, g.end_is, length-append a b);
      left =
          g.left
          ∙ ap (bytes_placed b m) f.left
          ∙ ap (λ (n : ℕ). bytes_placed b n (bytes_placed a at out)) f.end_is
          ∙ placed_then a b at out h;
    }

pub puts_same : {a : List ℕ} {at e : ℕ} {out out' : List ℕ} → Puts a at e out out' → at + length a ≤ length out → length out' ≡ length out
unfolding bytes_placed
puts_same {a} {at} {e} {out} {out'} f h =
    ap length f.left
    ∙ length-append (take at out ++ a) (drop (at + length a) out)
    ∙ ap (λ (n : ℕ). n + length (drop (at + length a) out)) (front_length a [] at out (omega arith))
    ∙ omega (arith, length-drop (at + length a) out)

pub puts_within : {a : List ℕ} {at e : ℕ} {out out' : List ℕ} → Puts a at e out out' → at ≤ length out → length out' ≡ length out → e ≤ length out
unfolding bytes_placed
puts_within {a} {at} {e} {out} {out'} f h l =
    let p : length out' ≡ at + length a + length (drop (at + length a) out) =
    ap length f.left
    ∙ length-append (take at out ++ a) (drop (at + length a) out)
    ∙ ap (λ (n : ℕ). n + length (drop (at + length a) out)) (front_length a [] at out h) in
    omega (arith, p, l, f.end_is, length-drop (at + length a) out)

pub puts_front : {a : List ℕ} {e : ℕ} {out out' : List ℕ} → Puts a 0 e out out' → take e out' ≡ a
unfolding bytes_placed
puts_front {a} {e} {out} {out'} f = ap (take e) f.left ∙ take_at a (drop (0 + length a) out) e (omega (arith, f.end_is))

pub puts_as : {a b : List ℕ} {at e : ℕ} {out out' : List ℕ} → a ≡ b → Puts a at e out out' → Puts b at e out out'
puts_as {a} {b} {at} {e} {out} {out'} h f = rw (← h) f
