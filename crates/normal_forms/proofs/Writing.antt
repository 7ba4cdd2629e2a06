-- What each step of a walk writes, and what it means that two letters may not stand side by side.
--
-- In order: S writes nothing between real positions (`silent_over`), and out through a side its letter (`written_out`), and comes in at the far side
-- (`goes_out`); by what S meets (`Crossing`, `crossing`); every step writes nothing, or a letter in one of two ways (`Writing`, `writes`); letters that
-- may not stand side by side (`Clash`); THE MEETING: where the letter of a step may not follow that of another, this step begins where the other has
-- led, and both are S or both are powers of Q (`meet`).
--
-- Why: a letter that is the inverse of what was written out through a side is written out through the far side, from where the way came in. An odd
-- letter is written at the outer face of its side, which Q doesn't leave.
-- Assumes nothing.
use mathlib.Core.Path.{◌≡◌, refl, sym, ◌∙◌, ap}
use mathlib.Core.Logic.{inl, inr}
use mathlib.Core.Bool.{Bool, true, false, ◌&&◌}
use mathlib.Core.List.{List, [], ◌∷◌}
use Prim.Native.Nat.{ℕ, ◌≤◌}
use native.Mathlib.Omega.{arith}
use lib.Dec.{ltb}
use lib.IntN.{ℤ, pos, neg_ℤ, nat_abs}
use Rattle.basics.specs.Choice.{pick}
use Rattle.basics.proofs.Choice.{either, clash, and_left, and_right}
use Rattle.matrix.specs.Words.{Letter, S, Q, P, alternate}
use Rattle.matrix.proofs.Integer.{abs_neg}
use Rattle.symbol.specs.Check.{eq_z}
use Rattle.symbol.specs.Symbol.{IsSymbol}
use Rattle.symbol.specs.declared.Pairing.{Pairing}
use Rattle.symbol.specs.declared.Pairing.TheVariants.{Odd}
use Rattle.symbol.proofs.Choice.{eq_z_true, eq_eq_z}
use Rattle.pairing.specs.Generator.{partner, pairing_at, is_leader_by, generator_number}
use Rattle.polygon.specs.Cut.{outer, flip}
use Rattle.polygon.specs.Step.{odd_at, Real, cross_by, step_s, turn_q, crossed, written, forth, back}
use Rattle.polygon.specs.Walk.{goes}
use Rattle.polygon.proofs.SymbolFacts as facts
use Rattle.polygon.proofs.SymbolFacts.{kind, odd_in}
use Rattle.polygon.proofs.Flip.{inner, outside, place, Cutting, real_odd, turn_face}
use Rattle.polygon.proofs.Steps.{Beyond, crosses, even_side_lem, free_side, beyond, written_S, step_face}
use Rattle.polygon.proofs.Promise.{silent_Q, silent_P, written_Q, written_P}
use Rattle.normal_forms.specs.Reduced.{letter_kind}
use Rattle.normal_forms.specs.Reduce.{even_kind, odd_kind, inverse}
use Rattle.normal_forms.proofs.Put.{apart, both, differs, apart_by, inverse_even, inverse_other, is_plain, other_plain}
use Rattle.normal_forms.proofs.Side.{kind_negative, outward, far, outward_even, outward_free, far_even, far_free, kind_numbered, odd_once, outward_once}
use Rattle.normal_forms.proofs.Side.{across}

-- a power of Q
abbrev pub is_turn : Letter → Bool
is_turn S = false
is_turn Q = true
is_turn P = true

pub no_turn : (x y : Letter) → is_turn x ≡ is_turn y → alternate x y ≡ false
no_turn S S e = refl
no_turn S Q e = clash refl (sym e)
no_turn S P e = clash refl (sym e)
no_turn Q S e = clash refl e
no_turn Q Q e = refl
no_turn Q P e = refl
no_turn P S e = clash refl e
no_turn P Q e = refl
no_turn P P e = refl

module _ (v : ℕ) (t : List ℤ) (ok : IsSymbol v t) (C : Cutting v t) where
  -- ---- S

  pub silent_over : (p : ℕ) → Real v t p → Real v t (flip v t p) → written v t S p ≡ []
  silent_over p r s = go (beyond v t ok C p r)
    where
      go : Beyond v t p → written v t S p ≡ []
      go (crosses a b c) = c
      go (even_side_lem i h e k o a b) = clash (real_odd v t (flip v t p) i e s) o
      go (free_side i l h e k o m a b) = clash (real_odd v t (flip v t p) i e s) o

  one_letter : (b : Bool) (n : ℕ) → pick b (back n) (forth n) ≡ pick b (neg_ℤ (pos n)) (pos n) ∷ []
  one_letter true n = refl
  one_letter false n = refl

  pub written_out : (p i : ℕ) → i ≤ v → odd_at v t i ≡ false → flip v t p ≡ outer v i → written v t S p ≡ outward v t ok i ∷ []
  written_out p i h n e =
      written_S v t p i e
      ∙ elim (kind v t ok i h) [
        | facts.even k o ↦ by k ∙ ap (λ (z : ℤ). z ∷ []) (sym (outward_even v t ok i k))
        | facts.odd k o ↦ clash o n
        | facts.free l k o m ↦
            by k ∙ one_letter (ltb i (partner v t i)) (generator_number v t i)
            ∙ ap (λ (z : ℤ). z ∷ []) (sym (outward_free v t ok i l k
            ∙ ap (λ (x : Pairing). pick (is_leader_by x i (partner v t i)) (neg_ℤ (pos (generator_number v t i))) (pos (generator_number v t i))) k))
      ]
    where
      by : {k : Pairing} → pairing_at v t i ≡ k
          → crossed (pairing_at v t i) i (partner v t i) (generator_number v t i) ≡ crossed k i (partner v t i) (generator_number v t i)
      by e = ap (λ (x : Pairing). crossed x i (partner v t i) (generator_number v t i)) e

  goes_out : (p i : ℕ) → Real v t p → i ≤ v → odd_at v t i ≡ false → flip v t p ≡ outer v i → step_s v t p ≡ flip v t (outer v (far v t ok i))
  goes_out p i r h n e =
      step_face v t p i r e
      ∙ elim (kind v t ok i h) [
        | facts.even k o ↦ by k ∙ sym (C.cut.flips p) ∙ ap (flip v t) e ∙ ap (λ (x : ℕ). flip v t (outer v x)) (sym (far_even v t ok i k))
        | facts.odd k o ↦ clash o n
        | facts.free l k o m ↦ by k ∙ ap (λ (x : ℕ). flip v t (outer v x)) (sym (far_free v t ok i l k))
      ]
    where
      by : {k : Pairing} → pairing_at v t i ≡ k
          → cross_by (pairing_at v t i) p (outer v i) (flip v t (outer v (partner v t i))) ≡ cross_by k p (outer v i) (flip v t (outer v (partner v t i)))
      by e = ap (λ (x : Pairing). cross_by x p (outer v i) (flip v t (outer v (partner v t i)))) e

  pub data Crossing (p : ℕ) : Type 0 where
    inside : step_s v t p ≡ flip v t p → Real v t (flip v t p) → Crossing p
    through : (i : ℕ) → i ≤ v → odd_at v t i ≡ false → flip v t p ≡ outer v i → step_s v t p ≡ flip v t (outer v (far v t ok i)) → Crossing p

  pub crossing : (p : ℕ) → Real v t p → Crossing p
  crossing p r = elim (beyond v t ok C p r) [
    | crosses a b c ↦ inside b a
    | even_side_lem i h e k o a b ↦ through i h o e (goes_out p i r h o e)
    | free_side i l h e k o m a b ↦ through i h o e (goes_out p i r h o e)
  ]

  -- ---- what a step writes

  pub data Writing (x : Letter) (p : ℕ) (z : ℤ) : Type 0 where
    out : (i : ℕ) → i ≤ v → odd_at v t i ≡ false → is_turn x ≡ false → flip v t p ≡ outer v i → goes v t x p ≡ flip v t (outer v (far v t ok i)) → z
        ≡ outward v t ok i
        → Writing x p z
    face : (i : ℕ) → i ≤ v → pairing_at v t i ≡ Odd → is_turn x ≡ true → p ≡ outer v i → goes v t x p ≡ p → nat_abs z ≡ generator_number v t i → Writing x p z

  pub data Writes (x : Letter) (p : ℕ) : Type 0 where
    nothing : written v t x p ≡ [] → Writes x p
    letter : (z : ℤ) → written v t x p ≡ z ∷ [] → Writing x p z → Writes x p

  pub odd_face : (p i : ℕ) → p ≡ outer v i → Real v t p → (i ≤ v) × (pairing_at v t i ≡ Odd)
  odd_face p i e r =
      let o = real_odd v t p i e r in
      let h = odd_in v t ok i o in
      (h, elim (kind v t ok i h) [ facts.even k n ↦ clash o n | facts.odd k n ↦ k | facts.free l k n m ↦ clash o n ])

  pub writes : (x : Letter) (p : ℕ) → Real v t p → Writes x p
  writes S p r = elim (crossing p r) [
    | inside a b ↦ nothing (silent_over p r b)
    | through i h n e s ↦ letter (outward v t ok i) (written_out p i h n e) (out i h n refl e s refl)
  ]
  writes Q p r = elim (place v p) [
    | inner h ↦ nothing (silent_Q v t ok C p h)
    | outside i e ↦
        (let o = odd_face p i e r in
        letter (pos (generator_number v t i)) (written_Q v t ok C p i e) (face i o.0 o.1 refl e (turn_face v p (omega arith)) refl))
  ]
  writes P p r = elim (place v p) [
    | inner h ↦ nothing (silent_P v t ok C p h)
    | outside i e ↦
        (let o = odd_face p i e r in
        let s = turn_face v p (omega arith) in
        letter (neg_ℤ (pos (generator_number v t i))) (written_P v t ok C p i e)
        (face i o.0 o.1 refl e (ap (turn_q v) s ∙ s) (abs_neg (pos (generator_number v t i)))))
  ]

  -- ---- letters that may not stand side by side

  abbrev kind_of : ℤ → Pairing
  kind_of = letter_kind v t

  pub data Clash (z y : ℤ) : Type 0 where
    cancel : y ≡ inverse kind_of z → Clash z y
    merge : odd_kind (kind_of z) ≡ true → y ≡ z → Clash z y

  pub clashes : (z y : ℤ) → apart kind_of z y ≡ false → Clash z y
  clashes z y f = elim (either (eq_z y (inverse kind_of z))) [
    | inl e ↦ cancel (eq_z_true y (inverse kind_of z) e)
    | inr e ↦ elim (either (odd_kind (kind_of z) && eq_z y z)) [
      | inl g ↦ merge (and_left (odd_kind (kind_of z)) (eq_z y z) g) (eq_z_true y z (and_right (odd_kind (kind_of z)) (eq_z y z) g))
      | inr g ↦ clash (apart_by kind_of z y (differs y (inverse kind_of z) e) (λ o q. clash (both o (eq_eq_z y z q)) g)) f
    ]
  ]

  inverse_same : (z : ℤ) → (kind_of (inverse kind_of z) ≡ kind_of z) × (nat_abs (inverse kind_of z) ≡ nat_abs z)
  inverse_same z = elim (either (even_kind (kind_of z))) [
    | inl e ↦ (let n = inverse_even kind_of z e in (ap kind_of n, ap nat_abs n))
    | inr e ↦ (let n = inverse_other kind_of z e in (ap kind_of n ∙ kind_negative v t z, ap nat_abs n ∙ abs_neg z))
  ]

  -- they stand for one generator
  alike : (z y : ℤ) → Clash z y → (kind_of y ≡ kind_of z) × (nat_abs y ≡ nat_abs z)
  alike z y (cancel e) = (ap kind_of e ∙ (inverse_same z).0, ap nat_abs e ∙ (inverse_same z).1)
  alike z y (merge o e) = (ap kind_of e, ap nat_abs e)

  written_odd : (x : Letter) (p : ℕ) (z : ℤ) → Writing x p z → odd_kind (kind_of z) ≡ is_turn x
  written_odd x p z (out i h n s e g a) = ap (λ (y : ℤ). odd_kind (kind_of y)) a ∙ (across v t ok i h n).even_or_free ∙ sym s
  written_odd x p z (face i h k s e g a) = ap odd_kind (kind_numbered v t ok i z h a ∙ k) ∙ sym s

  pub written_plain : (x : Letter) (p : ℕ) (z : ℤ) → Writing x p z → is_plain kind_of z ≡ true
  written_plain x p z (out i h n s e g a) = ap (is_plain kind_of) a ∙ (across v t ok i h n).plain
  written_plain x p z (face i h k s e g a) = other_plain kind_of z (ap even_kind (kind_numbered v t ok i z h a ∙ k))

  pub meet : (x y : Letter) (p q : ℕ) (z z' : ℤ) → Writing x p z → Writing y q z' → apart kind_of z z' ≡ false → (q ≡ goes v t x p) × (alternate x y ≡ false)
  meet x y p q z z' a b f = (go a b c, no_turn x y one_turn)
    where
      c : Clash z z'
      c = clashes z z' f

      one_turn : is_turn x ≡ is_turn y
      one_turn = sym (written_odd x p z a) ∙ sym (ap odd_kind (alike z z' c).0) ∙ written_odd y q z' b

      go : Writing x p z → Writing y q z' → Clash z z' → q ≡ goes v t x p
      go (out i h n s e g w) (out k h' n' s' e' g' w') (cancel l) =
          let r = across v t ok i h n in
          let same : k ≡ far v t ok i = outward_once v t ok k (far v t ok i) h' r.low n' r.not_odd (sym w' ∙ l ∙ ap (inverse kind_of) w ∙ sym r.back) in
          sym (C.cut.flips q) ∙ ap (flip v t) (e' ∙ ap (outer v) same) ∙ sym g
      go (out i h n s e g w) (out k h' n' s' e' g' w') (merge o l) = clash o (written_odd x p z a ∙ s)
      go (out i h n s e g w) (face k h' o s' e' g' w') l = clash s' (sym one_turn ∙ s)
      go (face i h o s e g w) (out k h' n' s' e' g' w') l = clash s (one_turn ∙ s')
      go (face i h o s e g w) (face k h' o' s' e' g' w') l =
          let same = odd_once v t ok k i h' h o' o (sym w' ∙ (alike z z' l).1 ∙ w) in
          e' ∙ ap (outer v) same ∙ sym e ∙ sym g
