-- The start is real, and its frame is the identity up to sign, or S where the last side starts at 0/1 and is not odd.
--
-- In order: after a vertex with numerator 0 the numerators are positive (`positive_after`), so 0/1 is not at both ends of a chain; sides with the
-- frame of the identity or of S (`last_is`, `first_is`); the start (`Start`, `begin`).
--
-- Why: a side whose frame is the identity up to sign ends at 1/0, so it is the last one and starts at 0/1; one whose frame is S starts at -1/0.
-- Assumes nothing.
use mathlib.Core.Path.{◌≡◌, refl, sym, ◌∙◌, ap}
use mathlib.Core.Logic.{inl, inr}
use mathlib.Core.Bool.{Bool, true, false, not}
use mathlib.Core.List.{List}
use Prim.Native.Nat.{ℕ, zero, suc, ◌*◌, ◌-◌, ◌≤◌, ◌<◌}
use native.Mathlib.Omega.{arith}
use native.Mathlib.Decide.{ℕ_discrete, dec_lt}
use lib.IntN.{ℤ, pos, negsuc, nat_abs, ◌+ℤ◌, ◌*ℤ◌, ◌-ℤ◌, -ℤ-+ℤ_cancel}
use borrow.Author.Tests.{lt-ltb, not-true}
use Rattle.matrix.specs.Matrix.{Mat, mat, ◌⊗◌, 𝟙, neg, det, mat_s, ◌≈◌}
use Rattle.basics.specs.Choice.{pick}
use Rattle.matrix.proofs.Matrix.{S_S, ≈-sym, ◌∙≈◌}
use Rattle.matrix.proofs.Integer.{abs_neg}
use Rattle.symbol.specs.Table.{numer, denom, left_num}
use Rattle.symbol.specs.Check.{is_zero, eq_z}
use Rattle.symbol.specs.Symbol.{IsSymbol}
use Rattle.pairing.specs.Generator.{frame_at}
use Rattle.polygon.specs.Cut.{den, flip, under_zero}
use Rattle.polygon.specs.Step.{odd_at, real, Real, step_s, turned, start_of, start_frame, origin_of}
use Rattle.symbol.proofs.Choice.{eq_z_true}
use Rattle.basics.proofs.Choice.{either, clash, and_left, and_right}
use Rattle.polygon.proofs.Mediant.{neg_pos}
use Rattle.polygon.proofs.Chord.{chord, side_chord, last_side}
use Rattle.polygon.proofs.Flip.{inner, outside, place, Cutting, real_corner, real_face}
use Rattle.polygon.proofs.Steps.{closed_S}

-- ---- numerators

pub record Positive (z : ℤ) : Type 0 where
  pub less : ℕ
  pub is : z ≡ pos (suc less)

-- z b = 1 + x d
positive_by : (z : ℤ) (b x d : ℕ) → z *ℤ pos b ≡ pos (suc (x * d)) → Positive z
positive_by (pos zero) b x d e = let k : 0 * b ≡ suc (x * d) = ap nat_abs e in absurd (omega arith)
positive_by (pos (suc y)) b x d e = record { less = y; is = refl }
positive_by (negsuc k) b x d e =
    let a : suc k * b ≡ 0 = neg_pos (suc k * b) (suc (x * d)) e in
    let c : suc k * b ≡ suc (x * d) = sym (abs_neg (pos (suc k * b))) ∙ ap nat_abs e in
    absurd (omega arith)

det_chord : (t : List ℤ) (x y : ℕ) → det (chord t x y) ≡ left_num t y *ℤ pos (den t x) -ℤ left_num t x *ℤ pos (den t y)
unfolding det
det_chord t x y = refl

-- ---- matrices that are the identity up to sign, or S

identity_is : (m : Mat) → m ≈ 𝟙 → (nat_abs m.c ≡ 0) × (m.b ≡ pos 0) × (nat_abs m.d ≡ 1)
unfolding 𝟙 neg
identity_is m (inl e) = (ap (λ (x : Mat). nat_abs x.c) e, ap (λ (x : Mat). x.b) e, ap (λ (x : Mat). nat_abs x.d) e)
identity_is m (inr e) = (ap (λ (x : Mat). nat_abs x.c) e, ap (λ (x : Mat). x.b) e, ap (λ (x : Mat). nat_abs x.d) e)

S_is : (m : Mat) → m ≡ mat_s → (m.a ≡ pos 0) × (nat_abs m.d ≡ 0)
unfolding mat_s
S_is m e = (ap (λ (x : Mat). x.a) e, ap (λ (x : Mat). nat_abs x.d) e)

module _ (v : ℕ) (t : List ℤ) (ok : IsSymbol v t) where
  positive_next : (n x : ℕ) → suc n < v → numer t n ≡ pos x → Positive (numer t (suc n))
  positive_next n x h e =
      let d : det (chord t (suc n) (suc (suc n))) ≡ pos 1 = ap det (sym (side_chord v t ok (suc n) h)) ∙ ok.neighbours (suc n) (omega arith) in
      let b = den t (suc n) in
      let c = den t (suc (suc n)) in
      let f : numer t (suc n) *ℤ pos b -ℤ numer t n *ℤ pos c ≡ pos 1 = sym (det_chord t (suc n) (suc (suc n))) ∙ d in
      positive_by (numer t (suc n)) b x c
      (sym (-ℤ-+ℤ_cancel (numer t (suc n) *ℤ pos b) (numer t n *ℤ pos c))
      ∙ ap (λ (z : ℤ). z +ℤ numer t n *ℤ pos c) f
      ∙ ap (λ (z : ℤ). pos 1 +ℤ z *ℤ pos c) e
      ∙ ap pos (omega arith))

  positive_after : (n : ℕ) → suc n < v → numer t 0 ≡ pos 0 → Positive (numer t (suc n))
  positive_after zero h e = positive_next 0 0 h e
  positive_after (suc n) h e = let k = positive_after n (omega arith) e in positive_next (suc n) (suc k.less) h k.is

  -- ---- sides

  some_den : (i : ℕ) → i < v → nat_abs (denom t i) ≡ 0 → ⊥
  some_den i h e = let d = (ok.denoms i h).0 in omega arith

  -- a side whose frame is the identity up to sign is the last one, and starts at 0/1
  last_is : (i : ℕ) → i ≤ v → frame_at v t i ≈ 𝟙 → (i ≡ v) × (is_zero t (v - 1) ≡ true)
  last_is i h e = elim (dec_lt i v) [
    | yes l ↦
        (let k : nat_abs (frame_at v t i).c ≡ 0 = (identity_is (frame_at v t i) e).0 in
        let z : nat_abs (denom t i) ≡ 0 = ap (λ (b : Bool). nat_abs (pick b (denom t i) (pos 0))) (sym (lt-ltb i v l)) ∙ k in
        absurd (some_den i l z))
    | no l ↦
        (let z : i ≡ v = omega arith in
        let m = mat (pos 1) (left_num t v) (pos 0) (pos (den t v)) in
        let f : m ≈ 𝟙 = rw (z, last_side v t ok) at e in
        let k = identity_is m f in
        let one = ok.some in
        let p : v ≡ suc (v - 1) = omega arith in
        let num : numer t (v - 1) ≡ pos 0 = ap (left_num t) (sym p) ∙ k.1 in
        let size : nat_abs (denom t (v - 1)) ≡ 1 = ap (den t) (sym p) ∙ k.2 in
        let dn : denom t (v - 1) ≡ pos 1 = (ok.denoms (v - 1) (omega arith)).2 ∙ ap pos size in
        (z, rw (num, dn) refl))
  ]

  -- a side whose frame is S is the first one, and ends at 0/1
  first_is : (i : ℕ) → i ≤ v → frame_at v t i ≡ mat_s → (i ≡ 0) × (numer t 0 ≡ pos 0)
  first_is zero h e =
      let one = ok.some in
      (refl, ap (λ (b : Bool). pick b (numer t 0) (pos 1)) (sym (lt-ltb 0 v (omega arith))) ∙ (S_is (frame_at v t 0) e).0)
  first_is (suc i) h e = absurd (some_den i (omega arith) (S_is (frame_at v t (suc i)) e).1)

  module _ (C : Cutting v t) where
    abbrev under : ℕ
    under = under_zero v t

    -- beyond the chord from -1/0 to 0/1
    beyond_is : C.frame (flip v t under) ≈ 𝟙
    beyond_is = ≈-sym (C.cut.turn_S under C.zero_in) ∙≈ inl (ap (λ (m : Mat). m ⊗ mat_s) C.zero_is ∙ S_S) ∙≈ inr refl

    -- where the walk starts as usual
    start_out : turned v t ≡ false → Real v t (flip v t under)
    start_out n = elim (place v (flip v t under)) [
      | inner h ↦ real_corner v t (flip v t under) h
      | outside i e ↦
          (let low = C.cut.within under C.zero_in in
          elim (either (odd_at v t i)) [
            | inl o ↦ ap (real v t) e ∙ real_face v t i ∙ o
            | inr o ↦
                (let k = last_is i (omega arith) (inl (sym (ap C.frame e ∙ C.cut.sides i)) ∙≈ beyond_is) in
                let no-odd : odd_at v t v ≡ false = ap (odd_at v t) (sym k.0) ∙ o in
                let z : turned v t ≡ true = rw (k.1, no-odd) refl in
                clash z n)
          ])
    ]

    -- where it starts turned round: the last side starts at 0/1 and isn't odd
    start_under : turned v t ≡ true → Real v t under
    start_under z = elim (place v under) [
      | inner h ↦ real_corner v t under h
      | outside i e ↦
          (let low = C.zero_in in
          let k = first_is i (omega arith) (sym (C.cut.sides i) ∙ ap C.frame (sym e) ∙ C.zero_is) in
          let zero = and_left (is_zero t (v - 1)) (not (odd_at v t v)) z in
          let not_odd = and_right (is_zero t (v - 1)) (not (odd_at v t v)) z in
          let last = and_left (eq_z (numer t (v - 1)) (pos 0)) (eq_z (denom t (v - 1)) (pos 1)) zero in
          elim (ℕ_discrete v 1) [
            | yes one ↦ ap (real v t) e ∙ real_face v t i ∙ ap (odd_at v t) k.0 ∙ lone one (not-true (odd_at v t v) not_odd)
            | no more ↦
                (let one = ok.some in
                let p = positive_after (v - 2) (omega arith) k.1 in
                let q : suc (v - 2) ≡ v - 1 = omega arith in
                let r : pos (suc p.less) ≡ pos 0 = sym p.is ∙ ap (numer t) q ∙ eq_z_true (numer t (v - 1)) (pos 0) last in
                let s : suc p.less ≡ 0 = ap nat_abs r in
                absurd (omega arith))
          ])
    ]
      where
        lone : v ≡ 1 → odd_at v t v ≡ false → odd_at v t 0 ≡ true
        lone one n = elim (ok.odd one) [
          | inl o ↦ ap (λ (x : ℤ). eq_z x (negsuc 2)) o
          | inr o ↦ clash (ap (odd_at v t) one ∙ ap (λ (x : ℤ). eq_z x (negsuc 2)) o) n
        ]

    -- the start, by cases
    pub data Start : Type 0 where
      upright : turned v t ≡ false → start_frame v t ≡ 𝟙 → origin_of v t ≡ start_of v t → Start
      round : turned v t ≡ true → start_frame v t ≡ mat_s → origin_of v t ≡ step_s v t (start_of v t) → Start

    pub begin : Start
    unfolding start_frame origin_of
    begin = elim (either (turned v t)) [ inl z ↦ round z (rw z) (rw z) | inr z ↦ upright z (rw z) (rw z) ]

    pub start_real : Real v t (start_of v t)
    unfolding start_of
    start_real = elim (either (turned v t)) [ inl z ↦ rw z (start_under z) | inr z ↦ rw z (start_out z) ]

    pub start_frame_is : C.frame (start_of v t) ≈ start_frame v t
    unfolding start_of start_frame
    start_frame_is = elim (either (turned v t)) [ inl z ↦ rw z (inl C.zero_is) | inr z ↦ rw z beyond_is ]

    pub origin_real : Real v t (origin_of v t)
    origin_real = elim begin [ upright a b c ↦ ap (real v t) c ∙ start_real | round a b c ↦ ap (real v t) c ∙ closed_S v t ok C (start_of v t) start_real ]
