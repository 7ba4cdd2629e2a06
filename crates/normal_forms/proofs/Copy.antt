-- THE COPIES OF THE POLYGON. To each reduced word h belongs a copy of the polygon, moved by the value of h, and these fill the plane: a position in a
-- copy is a word and a position. S and Q act there as on positions, and what they write is put behind the word: so they lead from copy to copy.
--
-- In order: a position in a copy (`InCopy`), sound where the word is reduced and the position real; where a step leads (`moved`); S and Q, which leave
-- alone all that isn't sound (`copy_s`, `copy_q`); what S writes there and back (`there_and_back`), and Q twice and three times (`twice`,
-- `three_times`); so these are an involution and a map of order three (`involution`, `order_three`), and each letter leads as it moves (`step_is`).
--
-- Why: out through a side and back in writes a letter and then its inverse, and Q at an odd side writes its letter each time.
-- Assumes nothing.
use mathlib.Core.Path.{◌≡◌, refl, sym, ◌∙◌, ap}
use mathlib.Core.Logic.{inl, inr}
use mathlib.Core.Bool.{Bool, true, false, ◌&&◌}
use mathlib.Core.List.{List, [], ◌∷◌}
use Prim.Native.Nat.{ℕ}
use native.Mathlib.Omega.{arith}
use lib.IntN.{ℤ, pos, neg_ℤ}
use Rattle.basics.specs.Choice.{pick}
use Rattle.basics.proofs.Choice.{pick_true, pick_false, either, and_left, and_right}
use Rattle.matrix.specs.Words.{Letter, S, Q, P}
use Rattle.matrix.specs.Action.{step, Involution, OrderThree}
use Rattle.symbol.specs.Symbol.{IsSymbol}
use Rattle.symbol.specs.declared.Pairing.{Pairing}
use Rattle.symbol.proofs.Choice.{eq_z_true}
use Rattle.pairing.specs.Generator.{generator_number}
use Rattle.polygon.specs.Cut.{outer, flip}
use Rattle.polygon.specs.Step.{real, Real, step_s, turn_q, written}
use Rattle.polygon.specs.Walk.{goes}
use Rattle.polygon.proofs.Flip as cut
use Rattle.polygon.proofs.Flip.{inner, outside, place, Cutting, turn_face}
use Rattle.polygon.proofs.Steps as steps
use Rattle.polygon.proofs.Steps.{turn_in, closed}
use Rattle.polygon.proofs.Promise.{silent_Q, silent_P, written_Q, written_P}
use Rattle.normal_forms.specs.Reduced.{letter_kind}
use Rattle.normal_forms.specs.Reduce.{odd_kind, plain, inverse, put, puts}
use Rattle.normal_forms.proofs.Put.{both, odd, is_plain, fine, inverse_inverse, inverse_plain, inverse_other, odd_only, odd_plain, put_undo, put_twice}
use Rattle.normal_forms.proofs.Put.{puts_fine}
use Rattle.normal_forms.proofs.Side.{kinds, kind_numbered, outward, far, across}
use Rattle.normal_forms.proofs.Writing.{inside, through, crossing, silent_over, written_out, odd_face}

-- the word of the copy, from its last letter to its first, and the position there
pub record InCopy : Type 0 where
  pub word : List ℤ
  pub place : ℕ

abbrev pub in_copy : List ℤ → ℕ → InCopy
in_copy h p = record { word = h; place = p }

pub copy_eq : {h k : List ℤ} {p q : ℕ} → h ≡ k → p ≡ q → in_copy h p ≡ in_copy k q
copy_eq e f = λ i. in_copy (e i) (f i)

module _ (v : ℕ) (t : List ℤ) where
  abbrev kind_of : ℤ → Pairing
  kind_of = letter_kind v t

  abbrev pub sound : InCopy → Bool
  sound s = fine kind_of s.word && real v t s.place

  abbrev pub moved : Letter → InCopy → InCopy
  moved x s = in_copy (puts kind_of s.word (written v t x s.place)) (goes v t x s.place)

  unfoldable pub copy_s : InCopy → InCopy
  copy_s s = pick (sound s) (moved S s) s

  unfoldable pub copy_q : InCopy → InCopy
  copy_q s = pick (sound s) (moved Q s) s

  moves_S : (s : InCopy) → sound s ≡ true → copy_s s ≡ moved S s
  unfolding copy_s
  moves_S s g = pick_true (sound s) (moved S s) s g

  moves_Q : (s : InCopy) → sound s ≡ true → copy_q s ≡ moved Q s
  unfolding copy_q
  moves_Q s g = pick_true (sound s) (moved Q s) s g

  stays_S : (s : InCopy) → sound s ≡ false → copy_s s ≡ s
  unfolding copy_s
  stays_S s g = pick_false (sound s) (moved S s) s g

  stays_Q : (s : InCopy) → sound s ≡ false → copy_q s ≡ s
  unfolding copy_q
  stays_Q s g = pick_false (sound s) (moved Q s) s g

  pub sound_word : (s : InCopy) → sound s ≡ true → fine kind_of s.word ≡ true
  sound_word s g = and_left (fine kind_of s.word) (real v t s.place) g

  pub sound_place : (s : InCopy) → sound s ≡ true → Real v t s.place
  sound_place s g = and_right (fine kind_of s.word) (real v t s.place) g

  -- ---- letters put behind a word

  -- one plain letter
  one : (h : List ℤ) (a : ℤ) → is_plain kind_of a ≡ true → puts kind_of h (a ∷ []) ≡ put kind_of h a
  one h a p = ap (put kind_of h) (eq_z_true (plain kind_of a) a p)

  undone : (h : List ℤ) (a : ℤ) → fine kind_of h ≡ true → is_plain kind_of a ≡ true → puts kind_of (puts kind_of h (a ∷ [])) (inverse kind_of a ∷ []) ≡ h
  undone h a f p =
      ap (λ (k : List ℤ). puts kind_of k (inverse kind_of a ∷ [])) (one h a p)
      ∙ one (put kind_of h a) (inverse kind_of a) (inverse_plain kind_of (kinds v t) a p)
      ∙ put_undo kind_of (kinds v t) a h f

  -- an odd letter twice, and three times
  module _ (h : List ℤ) (a : ℤ) (f : fine kind_of h ≡ true) (o : odd kind_of a ≡ true) where
    again : puts kind_of (puts kind_of h (a ∷ [])) (a ∷ []) ≡ puts kind_of h (neg_ℤ a ∷ [])
    again =
        let p = odd_plain kind_of (kinds v t) a o in
        let n = inverse_other kind_of a (odd_only (kind_of a) o) in
        ap (λ (k : List ℤ). puts kind_of k (a ∷ [])) (one h a p) ∙ one (put kind_of h a) a p ∙ put_twice kind_of (kinds v t) a h o f
        ∙ sym (one h (neg_ℤ a) (sym (ap (is_plain kind_of) n) ∙ inverse_plain kind_of (kinds v t) a p))

    thrice : puts kind_of (puts kind_of (puts kind_of h (a ∷ [])) (a ∷ [])) (a ∷ []) ≡ h
    thrice =
        let p = odd_plain kind_of (kinds v t) a o in
        let n = inverse_other kind_of a (odd_only (kind_of a) o) in
        let q : is_plain kind_of (neg_ℤ a) ≡ true = sym (ap (is_plain kind_of) n) ∙ inverse_plain kind_of (kinds v t) a p in
        let e : inverse kind_of (neg_ℤ a) ≡ a = ap (inverse kind_of) (sym n) ∙ inverse_inverse kind_of (kinds v t) a in
        ap (λ (k : List ℤ). puts kind_of k (a ∷ [])) again
        ∙ ap (λ (b : ℤ). puts kind_of (puts kind_of h (neg_ℤ a ∷ [])) (b ∷ [])) (sym e)
        ∙ undone h (neg_ℤ a) f q

module _ (v : ℕ) (t : List ℤ) (ok : IsSymbol v t) (C : Cutting v t) where
  there_and_back : (h : List ℤ) (p : ℕ) → fine (kind_of v t) h ≡ true → Real v t p
      → puts (kind_of v t) (puts (kind_of v t) h (written v t S p)) (written v t S (step_s v t p)) ≡ h
  there_and_back h p f r = elim (crossing v t ok C p r) [
    | inside e s ↦
        rw (silent_over v t ok C p r s, e, silent_over v t ok C (flip v t p) s (ap (real v t) (C.cut.flips p) ∙ r))
    | through i l n e s ↦
        (let a = across v t ok i l n in
        let j = far v t ok i in
        let w = written_out v t ok C (flip v t (outer v j)) j a.low a.not_odd (C.cut.flips (outer v j)) in
        ap (λ (k : List ℤ). puts (kind_of v t) (puts (kind_of v t) h k) (written v t S (step_s v t p))) (written_out v t ok C p i l n e)
        ∙ ap (puts (kind_of v t) (puts (kind_of v t) h (outward v t ok i ∷ []))) (ap (written v t S) s ∙ w ∙ ap (λ (z : ℤ). z ∷ []) a.back)
        ∙ undone v t h (outward v t ok i) f a.plain)
  ]

  -- the letter of the outer face i is odd
  odd_at_lem : (p i : ℕ) → p ≡ outer v i → Real v t p → odd (kind_of v t) (pos (generator_number v t i)) ≡ true
  odd_at_lem p i e r = let o = odd_face v t ok C p i e r in ap odd_kind (kind_numbered v t ok i (pos (generator_number v t i)) o.0 refl ∙ o.1)

  twice : (h : List ℤ) (p : ℕ) → fine (kind_of v t) h ≡ true → Real v t p
      → puts (kind_of v t) (puts (kind_of v t) h (written v t Q p)) (written v t Q (turn_q v p)) ≡ puts (kind_of v t) h (written v t P p)
  twice h p f r = elim (place v p) [
    | inner k ↦ rw (silent_Q v t ok C p k, silent_Q v t ok C (turn_q v p) (turn_in v t ok C p k), silent_P v t ok C p k)
    | outside i e ↦ rw (turn_face v p (omega arith), written_Q v t ok C p i e, written_P v t ok C p i e)
        (again v t h (pos (generator_number v t i)) f (odd_at_lem p i e r))
  ]

  three_times : (h : List ℤ) (p : ℕ) → fine (kind_of v t) h ≡ true → Real v t p
      → puts (kind_of v t) (puts (kind_of v t) (puts (kind_of v t) h (written v t Q p)) (written v t Q (turn_q v p))) (written v t Q (turn_q v (turn_q v p))) ≡ h
  three_times h p f r = elim (place v p) [
    | inner k ↦
        (let l = turn_in v t ok C p k in
        rw (silent_Q v t ok C p k, silent_Q v t ok C (turn_q v p) l, silent_Q v t ok C (turn_q v (turn_q v p)) (turn_in v t ok C (turn_q v p) l)))
    | outside i e ↦
        (let s = turn_face v p (omega arith) in
        rw (s, s, written_Q v t ok C p i e) (thrice v t h (pos (generator_number v t i)) f (odd_at_lem p i e r)))
  ]

  -- ---- the action

  pub moved_sound : (x : Letter) (s : InCopy) → sound v t s ≡ true → sound v t (moved v t x s) ≡ true
  moved_sound x s g =
      both (puts_fine (kind_of v t) (kinds v t) (written v t x s.place) s.word (sound_word v t s g)) (closed v t ok C x s.place (sound_place v t s g))

  pub involution : Involution (copy_s v t)
  involution s = elim (either (sound v t s)) [
    | inr n ↦ ap (copy_s v t) (stays_S v t s n) ∙ stays_S v t s n
    | inl g ↦
        ap (copy_s v t) (moves_S v t s g) ∙ moves_S v t (moved v t S s) (moved_sound S s g)
        ∙ copy_eq (there_and_back s.word s.place (sound_word v t s g) (sound_place v t s g)) (steps.involution v t ok C s.place)
  ]

  pub order_three : OrderThree (copy_q v t)
  order_three s = elim (either (sound v t s)) [
    | inr n ↦ (let e = stays_Q v t s n in ap (λ (x : InCopy). copy_q v t (copy_q v t x)) e ∙ ap (copy_q v t) e ∙ e)
    | inl g ↦
        (let x = moved v t Q s in
        let gx = moved_sound Q s g in
        ap (λ (y : InCopy). copy_q v t (copy_q v t y)) (moves_Q v t s g) ∙ ap (copy_q v t) (moves_Q v t x gx) ∙ moves_Q v t (moved v t Q x) (moved_sound Q x gx)
        ∙ copy_eq (three_times s.word s.place (sound_word v t s g) (sound_place v t s g)) (cut.order_three v s.place))
  ]

  pub step_is : (x : Letter) (s : InCopy) → sound v t s ≡ true → step (copy_s v t) (copy_q v t) x s ≡ moved v t x s
  step_is S s g = moves_S v t s g
  step_is Q s g = moves_Q v t s g
  step_is P s g =
      ap (copy_q v t) (moves_Q v t s g) ∙ moves_Q v t (moved v t Q s) (moved_sound Q s g)
      ∙ copy_eq (twice s.word s.place (sound_word v t s g) (sound_place v t s g)) refl
