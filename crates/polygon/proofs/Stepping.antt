-- Laws for the functions that step over the positions by the tables in the work space.
--
-- In order: the other side of a position by the table (`flip_read`); S by what lies beyond the edge (`inner_is`, `even_is`, `odd_is`, `free_is`); letters and
-- their numbers (`letter_signed`, `number_read`), what S writes (`writes_even`, ..), what Q and P write (`turn_writes`); the start.
-- Assumes nothing.
use mathlib.Core.Path.{◌≡◌, refl, sym, ◌∙◌, ap}
use mathlib.Core.Bool.{Bool, true, false}
use mathlib.Core.List.{List, []}
use Prim.Native.Nat.{ℕ, zero, suc, ◌+◌, ◌-◌, ◌*◌, ◌≤◌, ◌<◌}
use native.Mathlib.Omega.{arith}
use native.Mathlib.Decide.{dec_lt}
use lib.Dec.{ltb}
use lib.ListN.{get_or}
use lib.IntN.{ℤ, pos, neg_ℤ}
use Rattle.matrix.specs.Words.{S, Q, P}
use Rattle.basics.specs.Choice.{pick}
use Rattle.symbol.specs.Symbol.{IsSymbol}
use Rattle.pairing.specs.Generator.{partner, pairing_at, is_leader, generator_number}
use Rattle.symbol.specs.declared.Pairing.TheVariants.{Even, Odd, Free, Bad}
use Rattle.polygon.specs.Cut.{corners, outer, places, flip, under_zero}
use Rattle.polygon.specs.Step.{Real, cross_by, crossed, step_s, written, forth, back, turned, start_of}
use Rattle.polygon.specs.Inner.Space.{FLIP, GENERATOR}
use Rattle.pairing.specs.Inner.Work.{PARTNER}
use Rattle.polygon.specs.Inner.Tables.{PolygonTables, letters_of}
use Rattle.polygon.proofs.SymbolFacts.{count_most, Kind, even, odd, free, kind, Mate, free_mate, Number, number_even, number_odd, number_first}
use Rattle.polygon.proofs.SymbolFacts.{number_second, length_generators}
use Rattle.polygon.proofs.Flip.{Cutting, cutting, real_in}
use Rattle.polygon.proofs.Steps.{step_inner, step_face, written_S, silent_S, at_corner, at_face}
use Rattle.polygon.proofs.Space.{table_at, get_d_any}

module _ (t : List ℤ) (v : ℕ) (w : List ℕ) (T : PolygonTables t v w) where
  abbrev C : Cutting v t
  C = cutting v t T.symbol

  -- the table of other sides
  pub flip_read : (p : ℕ) → p < places v → get_or w (FLIP + p) 0 ≡ flip v t p
  flip_read p h =
      get_d_any w (FLIP + p) 0 p (let m = T.symbol.most in omega (arith, T.long))
      ∙ sym (table_at 4096 (places v) w p p h)
      ∙ ap (λ (a : List ℕ). get_or a p p) T.flips

  pub flip_in : (p : ℕ) → p < places v → get_or w (FLIP + p) 0 < places v
  flip_in p h = rw (flip_read p h) (C.cut.within p h)

  -- S, out of the real position p, beyond which lies q
  module _ (p q : ℕ) (r : Real v t p) (e : q ≡ get_or w (FLIP + p) 0) where
    pub here : p < places v
    here = real_in v t T.symbol p r

    flip_is : flip v t p ≡ q
    flip_is = sym (flip_read p here) ∙ sym e

    pub low : q < places v
    low = rw e (flip_in p here)

    pub inner_is : q < corners v → q ≡ step_s v t p
    inner_is h = sym (step_inner v t p r (rw flip_is h) ∙ flip_is)

    face_is : corners v ≤ q → flip v t p ≡ outer v (q - corners v)
    face_is h = flip_is ∙ omega arith

    step_is : corners v ≤ q → step_s v t p
        ≡ cross_by (pairing_at v t (q - corners v)) p (outer v (q - corners v)) (flip v t (outer v (partner v t (q - corners v))))
    step_is h = step_face v t p (q - corners v) r (face_is h)

    pub even_is : corners v ≤ q → pairing_at v t (q - corners v) ≡ Even → p ≡ step_s v t p
    even_is h k = sym (step_is h ∙ rw k)

    pub odd_is : corners v ≤ q → pairing_at v t (q - corners v) ≡ Odd → q ≡ step_s v t p
    odd_is h k = sym (step_is h ∙ rw k (omega arith))

    pub bad_is : corners v ≤ q → pairing_at v t (q - corners v) ≡ Bad → p ≡ step_s v t p
    bad_is h k = sym (step_is h ∙ rw k)

    mate_of : corners v ≤ q → (l : ℕ) → pairing_at v t (q - corners v) ≡ Free l → Mate v t (q - corners v)
    mate_of h l k = free_mate v t T.symbol (q - corners v) l (let z = low in omega arith) k

    pub partner_low : corners v ≤ q → (l n : ℕ) → pairing_at v t (q - corners v) ≡ Free l → n ≡ get_or w (PARTNER + (q - corners v)) 0 → n ≤ v
    partner_low h l n k z = rw (z, T.partnered.partners (q - corners v) l (let b = low in omega arith) k) (mate_of h l k).within

    pub free_is : corners v ≤ q → (l n x : ℕ) → pairing_at v t (q - corners v) ≡ Free l → n ≡ get_or w (PARTNER + (q - corners v)) 0
        → x ≡ get_or w (FLIP + (3 * (v - 1) + n)) 0 → x ≡ step_s v t p
    free_is h l n x k z y =
        let b = partner_low h l n k z in
        y ∙ flip_read (outer v n) (omega arith)
        ∙ ap (λ (j : ℕ). flip v t (outer v j)) (z ∙ T.partnered.partners (q - corners v) l (let b = low in omega arith) k)
        ∙ sym (step_is h ∙ rw k)

-- ---- letters

pub letter_forth : (j : ℕ) → 1 ≤ j → letters_of (pos j) ≡ forth j
letter_forth zero h = absurd (omega arith)
letter_forth (suc j) h = refl

pub letter_back : (j : ℕ) → 1 ≤ j → letters_of (neg_ℤ (pos j)) ≡ back j
letter_back zero h = absurd (omega arith)
letter_back (suc j) h = refl

pub letter_signed : (j : ℕ) (b : Bool) → 1 ≤ j → letters_of (pick b (neg_ℤ (pos j)) (pos j)) ≡ pick b (back j) (forth j)
letter_signed j true h = letter_back j h
letter_signed j false h = letter_forth j h

module _ (v : ℕ) (t : List ℤ) (ok : IsSymbol v t) where
  number_range : (i k : ℕ) → Number v t i k → (1 ≤ generator_number v t i) × (generator_number v t i ≤ v + 1)
  number_range i k n =
      let b = n.low in
      let g = length_generators v t in
      let c = count_most (is_leader v t) (v + 1) in
      rw n.number (omega arith, omega arith)

  -- every side's number is from 1 to v + 1
  pub number_low : (i : ℕ) → i ≤ v → (1 ≤ generator_number v t i) × (generator_number v t i ≤ v + 1)
  number_low i h = go (kind v t ok i h)
    where
      go : Kind v t i → (1 ≤ generator_number v t i) × (generator_number v t i ≤ v + 1)
      go (even k o) = number_range i i (number_even v t i h k)
      go (odd k o) = number_range i i (number_odd v t i h k)
      go (free l k o m) = elim (dec_lt i (partner v t i)) [
        | yes b ↦ number_range i i (number_first v t i l h k b)
        | no b ↦ number_range i (partner v t i) (number_second v t i l k m (let z = m.other in omega arith))
      ]

module _ (t : List ℤ) (v : ℕ) (w : List ℕ) (T : PolygonTables t v w) where
  -- the number of a side, by the table
  pub number_read : (i j : ℕ) → i ≤ v → j ≡ get_or w (GENERATOR + i) 0 → (j ≡ generator_number v t i) × (1 ≤ j) × (j ≤ 1024)
  number_read i j h e =
      let z : j ≡ generator_number v t i = e ∙ T.numbered.numbers i h in
      let b = number_low v t T.symbol i h in
      let m = T.symbol.most in
      (z, omega arith, omega arith)

  -- S, out of the real position p, beyond which lies q
  module _ (p q : ℕ) (r : Real v t p) (e : q ≡ get_or w (FLIP + p) 0) where
    flip_is' : flip v t p ≡ q
    flip_is' = sym (flip_read t v w T p (here t v w T p q r e)) ∙ sym e

    pub silent_is : q < corners v → [] ≡ written v t S p
    silent_is h = sym (silent_S v t p (rw flip_is' h))

    writes_is : corners v ≤ q → written v t S p ≡ crossed (pairing_at v t (q - corners v)) (q - corners v) (partner v t (q - corners v))
        (generator_number v t (q - corners v))
    writes_is h = written_S v t p (q - corners v) (flip_is' ∙ omega arith)

    module _ (j : ℕ) (h : corners v ≤ q) (f : j ≡ get_or w (GENERATOR + (q - corners v)) 0) where
      pub number_here : (j ≡ generator_number v t (q - corners v)) × (1 ≤ j) × (j ≤ 1024)
      number_here = let z = low t v w T p q r e in number_read (q - corners v) j (omega arith) f

      pub writes_even : pairing_at v t (q - corners v) ≡ Even → letters_of (pos j) ≡ written v t S p
      writes_even k = letter_forth j number_here.1 ∙ ap forth number_here.0 ∙ sym (writes_is h ∙ rw k)

      pub writes_odd : pairing_at v t (q - corners v) ≡ Odd → [] ≡ written v t S p
      writes_odd k = sym (writes_is h ∙ rw k)

      pub writes_bad : pairing_at v t (q - corners v) ≡ Bad → [] ≡ written v t S p
      writes_bad k = sym (writes_is h ∙ rw k)

      pub writes_free : (l n : ℕ) → pairing_at v t (q - corners v) ≡ Free l → n ≡ get_or w (PARTNER + (q - corners v)) 0
          → letters_of (pick (ltb (q - corners v) n) (neg_ℤ (pos j)) (pos j)) ≡ written v t S p
      writes_free l n k y =
          let z = low t v w T p q r e in
          let i = q - corners v in
          letter_signed j (ltb i n) number_here.1
          ∙ ap (λ (x : ℕ). pick (ltb i n) (back x) (forth x)) number_here.0
          ∙ ap (λ (x : ℕ). pick (ltb i x) (back (generator_number v t i)) (forth (generator_number v t i))) (y ∙ T.partnered.partners i l (omega arith) k)
          ∙ sym (writes_is h ∙ rw k)

  -- Q and P at the real position p
  pub turn_silent : (x : Bool) (p : ℕ) → p < corners v → [] ≡ written v t (pick x P Q) p
  unfolding written
  turn_silent true p h = sym (at_corner v t p (λ i. back (generator_number v t i)) h)
  turn_silent false p h = sym (at_corner v t p (λ i. forth (generator_number v t i)) h)

  pub turn_writes : (x : Bool) (p j : ℕ) → Real v t p → corners v ≤ p → j ≡ get_or w (GENERATOR + (p - corners v)) 0
      → letters_of (pick x (neg_ℤ (pos j)) (pos j)) ≡ written v t (pick x P Q) p
  unfolding written
  turn_writes x p j r h f =
      let b = real_in v t T.symbol p r in
      let n = number_read (p - corners v) j (omega arith) f in
      letter_signed j x n.1 ∙ ap (λ (y : ℕ). pick x (back y) (forth y)) n.0 ∙ go x
    where
      go : (x : Bool) → pick x (back (generator_number v t (p - corners v))) (forth (generator_number v t (p - corners v))) ≡ written v t (pick x P Q) p
      go true = sym (at_face v t p (p - corners v) (λ i. back (generator_number v t i)) (omega arith))
      go false = sym (at_face v t p (p - corners v) (λ i. forth (generator_number v t i)) (omega arith))

-- ---- the start

pub start_turned : (v : ℕ) (t : List ℤ) → turned v t ≡ true → start_of v t ≡ under_zero v t
unfolding start_of
start_turned v t z = rw z

pub start_upright : (v : ℕ) (t : List ℤ) → turned v t ≡ false → start_of v t ≡ flip v t (under_zero v t)
unfolding start_of
start_upright v t z = rw z

pub under_low : (v : ℕ) (t : List ℤ) → IsSymbol v t → under_zero v t < places v
under_low v t ok = (cutting v t ok).zero_in
