-- Any two real positions are joined by steps that write nothing: over an edge inside the polygon, and round the corners of a triangle.
--
-- In order: what a relation between positions must keep to (`Joining`); corners of one triangle (`near_turns`); corners of all triangles, from
-- the last one down (`near_corner`); the root and the outer faces (`Root`, `root`); any two of them (`joined`); the relation of polygons, that the
-- frames of both lead from the one to the other (`by_frames`).
--
-- Why: corner 0 of a triangle meets a corner of a later triangle, until the last one, which meets the last side. With one vertex there
-- is no triangle, and one of the two outer faces, or both, are real.
-- Assumes nothing.
use mathlib.Core.Path.{◌≡◌, refl, sym, ◌∙◌, ap}
use mathlib.Core.Logic.{◌⊎◌, inl, inr}
use mathlib.Core.Bool.{false}
use mathlib.Core.List.{List}
use Prim.Native.Nat.{ℕ, zero, suc, ◌+◌, ◌*◌, ◌/◌, ◌≤◌, ◌<◌}
use native.Mathlib.Omega.{arith}
use native.Mathlib.Decide.{ℕ_discrete}
use lib.IntN.{ℤ, pos}
use Rattle.matrix.specs.Matrix.{det}
use Rattle.matrix.specs.Words.{S, Q}
use Rattle.symbol.specs.Symbol.{IsSymbol}
use Rattle.polygon.specs.Cut.{corners, outer, places, flip}
use Rattle.polygon.specs.Step.{odd_at, real, Real, step_s, turn_q}
use Rattle.basics.proofs.Choice.{either, clash}
use Rattle.polygon.proofs.Framed.{Near, near_refl, near_sym, near_trans, near_step}
use Rattle.polygon.proofs.Flip.{inner, outside, place, Cutting, order_three, real_corner, real_face, real_in, turn_next, which, c0, c1, c2}
use Rattle.polygon.proofs.Steps.{involution, step_across, under_real}

-- an equivalence of real positions that holds over edges with real positions on both sides, and round corners
pub record Joining (v : ℕ) (t : List ℤ) (J : ℕ → ℕ → Type 0) : Type 0 where
  pub self : (x : ℕ) → Real v t x → J x x
  pub back : (x y : ℕ) → Real v t x → Real v t y → J x y → J y x
  pub via : (x y z : ℕ) → Real v t x → Real v t y → Real v t z → J x y → J y z → J x z
  pub over : (x y : ℕ) → Real v t x → Real v t y → flip v t x ≡ y → J x y
  pub round : (x y : ℕ) → x < corners v → turn_q v x ≡ y → J x y

module _ (v : ℕ) (t : List ℤ) (ok : IsSymbol v t) (C : Cutting v t) (J : ℕ → ℕ → Type 0) (A : Joining v t J) where
  -- from corner 0 to p
  near_turns : (p q : ℕ) → p < corners v → q ≡ 3 * (p / 3) → J q p
  near_turns p q h e = elim (which p) [
    | c0 k ↦ (let z : q ≡ p = omega arith in rw z (A.self p (real_corner v t p h)))
    | c1 k ↦ A.round q p (omega arith) (turn_next v q (omega arith) (omega arith) ∙ omega arith)
    | c2 k ↦
        A.via q (q + 1) p (real_corner v t q (omega arith)) (real_corner v t (q + 1) (omega arith)) (real_corner v t p h)
        (A.round q (q + 1) (omega arith) (turn_next v q (omega arith) (omega arith)))
        (A.round (q + 1) p (omega arith) (turn_next v (q + 1) (omega arith) (omega arith) ∙ omega arith))
  ]

  -- the inner face of the last side
  abbrev last : ℕ
  last = flip v t (outer v v)

  near_corner : (n p : ℕ) → Real v t last → p < corners v → corners v ≤ p + n → J last p
  near_corner zero p r h k = absurd (omega arith)
  near_corner (suc n) p r h k =
      let o = 3 * (p / 3) in
      let ro = real_corner v t o (omega arith) in
      let rp = real_corner v t p h in
      let q = flip v t o in
      let u = C.cut.above (p / 3) (omega arith) in
      let b = u.0 in
      let there : J last o = elim u.1 [
        | inl e ↦ A.via last q o r (real_corner v t q e) ro (near_corner n q r e (omega arith)) (A.over q o (real_corner v t q e) ro (C.cut.flips o))
        | inr e ↦ (let z : last ≡ o = ap (flip v t) (sym e) ∙ C.cut.flips o in rw z (A.self o ro))
      ] in
      A.via last o p r ro rp there (near_turns p o h refl)

  pub record Root : Type 0 where
    pub at : ℕ
    pub counts : Real v t at
    pub near : (p : ℕ) → Real v t p → J at p

  -- beyond an outer face
  inside_at : (p i : ℕ) → p ≡ outer v i → p < places v → (flip v t p < corners v) ⊎ (v ≡ 1)
  inside_at p i e h = rw e (C.cut.inside i (omega arith))

  -- an outer face that is real, from the inner face of the last side
  near_face : (p i : ℕ) → Real v t last → Real v t p → p ≡ outer v i → J last p
  near_face p i r rp e =
      let low = real_in v t ok p rp in
      let q = flip v t p in
      elim (inside_at p i e low) [
        | inl h ↦ A.via last q p r (real_corner v t q h) rp (near_corner (corners v) q r h (omega arith))
            (A.over q p (real_corner v t q h) rp (C.cut.flips p))
        | inr one ↦ elim (ℕ_discrete p (outer v v)) [
          | yes z ↦ A.over last p r rp (C.cut.flips (outer v v) ∙ sym z)
          | no z ↦ (let y : last ≡ p = other p low one z in rw y (A.self p rp))
        ]
      ]
    where
      -- with one vertex there are two positions
      other : (p : ℕ) → p < places v → v ≡ 1 → (p ≡ outer v v → ⊥) → last ≡ p
      other p low one z =
          let a = C.cut.within (outer v v) (omega arith) in
          let b = C.cut.differs (outer v v) (omega arith) in
          omega arith

  near_last : Real v t last → (p : ℕ) → Real v t p → J last p
  near_last r p rp = elim (place v p) [ inner h ↦ near_corner (corners v) p r h (omega arith) | outside i e ↦ near_face p i r rp e ]

  -- where the inner face of the last side isn't real, the last side is odd, and its outer face is all there is
  only : real v t last ≡ false → Real v t (outer v v)
  only n = elim (either (odd_at v t v)) [ inl o ↦ real_face v t v ∙ o | inr o ↦ clash (under_real v t ok C v (omega arith) o) n ]

  near_only : real v t last ≡ false → (p : ℕ) → Real v t p → J (outer v v) p
  near_only n p rp = elim (ℕ_discrete p (outer v v)) [
    | yes z ↦ rw z (A.self (outer v v) (only n))
    | no z ↦ elim (C.cut.inside v (omega arith)) [
      | inl h ↦ clash (real_corner v t last h) n
      | inr one ↦
          (let low = real_in v t ok p rp in
          let a = C.cut.within (outer v v) (omega arith) in
          let b = C.cut.differs (outer v v) (omega arith) in
          let y : p ≡ last = omega arith in
          clash rp (ap (real v t) y ∙ n))
    ]
  ]

  pub root : Root
  root = elim (either (real v t last)) [
    | inl r ↦ record { at = last; counts = r; near = near_last r }
    | inr n ↦ record { at = outer v v; counts = only n; near = near_only n }
  ]

  pub joined : (p q : ℕ) → Real v t p → Real v t q → J p q
  joined p q a b = let o = root in A.via p o.at q a o.counts b (A.back o.at p o.counts a (o.near p a)) (o.near q b)

-- ---- the relation of a polygon

module _ (v : ℕ) (t : List ℤ) (ok : IsSymbol v t) (C : Cutting v t) where
  unit : (p : ℕ) → Real v t p → det (C.frame p) ≡ pos 1
  unit p r = C.cut.unit p (real_in v t ok p r)

  pub by_frames : Joining v t (Near (step_s v t) (turn_q v) C.frame)
  by_frames = record {
    self = λ x r. near_refl (step_s v t) (turn_q v) C.frame (involution v t ok C) (order_three v) x (unit x r);
    back = λ x y a b. near_sym (step_s v t) (turn_q v) C.frame (involution v t ok C) (order_three v) x y (unit x a) (unit y b);
    via = λ x y z a b c. near_trans (step_s v t) (turn_q v) C.frame (involution v t ok C) (order_three v) x y z (unit x a) (unit y b) (unit z c);
    over = λ x y a b e. near_step (step_s v t) (turn_q v) C.frame (involution v t ok C) (order_three v) S x y (unit x a)
        (step_across v t ok C x a (ap (real v t) e ∙ b) ∙ e)
        (rw (← e) (C.cut.turn_S x (real_in v t ok x a)));
    round = λ x y h e. near_step (step_s v t) (turn_q v) C.frame (involution v t ok C) (order_three v) Q x y (unit x (real_corner v t x h)) e
        (inl (C.cut.turn_Q x h ∙ ap C.frame e));
  }
