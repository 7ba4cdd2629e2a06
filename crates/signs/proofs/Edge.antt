-- What S does to frames, with its sign.
--
-- In order: how the edge of a position is read (`Position`, `position`); the matrix of corner 0 of a triangle (`edge_frame`); the lower rows of
-- frames (`rightward`, `leftward`); the two sides of an edge are read in opposite ways (`opposite`); so S has the sign `flip_sign` (`turn_S`); out
-- over a side and in over a side (`out_side`, `in_side`).
--
-- Why: the frame of corner 0 is that of its chord, from left to right. The other frames are it times Q or Q⁻¹, or those of sides. Their lower rows
-- tell which of the two signs of an equality up to sign is right.
-- Assumes nothing.
use mathlib.Core.Path.{◌≡◌, refl, sym, ◌∙◌, ap, subst}
use mathlib.Core.Logic.{inl, inr}
use mathlib.Core.Bool.{Bool, true, false, not}
use mathlib.Core.List.{List}
use Prim.Native.Nat.{ℕ, zero, suc, ◌+◌, ◌*◌, ◌-◌, ◌/◌, ◌%◌, ◌≤◌, ◌<◌}
use native.Mathlib.Omega.{arith}
use native.Mathlib.Decide.{ℕ_discrete, dec_lt}
use lib.Dec.{eqb}
use lib.IntN.{ℤ, pos}
use borrow.Author.Tests.{lt-ltb, le-ltb, eq-eqb, ne_eqb}
use Rattle.basics.proofs.Choice.{either, clash}
use Rattle.matrix.specs.Matrix.{Mat, ◌⊗◌, mat_s, mat_q, mat_p}
use Rattle.matrix.proofs.Matrix.{⊗-assoc, Q_Q, ≈-sym, ◌∙≈◌, ≈-right}
use Rattle.matrix.proofs.Ring.{mat_eq}
use Rattle.symbol.specs.Table.{left_num}
use Rattle.symbol.specs.Symbol.{IsSymbol}
use Rattle.pairing.specs.Generator.{frame_at}
use Rattle.polygon.specs.Cut.{corners, outer, places, den, flip}
use Rattle.polygon.proofs.Chord.{chord, left_den_lem, side_chord, last_side}
use Rattle.polygon.proofs.Flip.{Cutting, which, c0, c1, c2, turn_next}
use Rattle.signs.specs.Sign.{◌·◌, with_sign}
use Rattle.signs.specs.Step.{left_to_right, frame_sign, flip_sign}
use Rattle.signs.specs.Theorem.{EdgeFrame}
use Rattle.signs.proofs.Sign.{·-plus, ·-comm, sign-≈, S_back}
use Rattle.signs.proofs.Row.{Rightward, Leftward, rightward_S, rightward_Q, rightward_P, last_leftward, settle, not_rightward, not_leftward}

-- ---- how edges are read

read_corner : (v p c : ℕ) → p < corners v → p % 3 ≡ c → left_to_right v p ≡ eqb c 0
unfolding left_to_right
read_corner v p c h e = rw (lt-ltb p (corners v) h, e) refl

sign_corner : (v p c : ℕ) → p < corners v → p % 3 ≡ c → frame_sign v p ≡ not (eqb c 2)
unfolding frame_sign
sign_corner v p c h e = rw (lt-ltb p (corners v) h, e) refl

read_face : (v p : ℕ) (b : Bool) → corners v ≤ p → eqb p (outer v v) ≡ b → left_to_right v p ≡ not b
unfolding left_to_right
read_face v p b h e = rw (le-ltb p (corners v) h, e) refl

sign_face : (v p : ℕ) (b : Bool) → corners v ≤ p → eqb p (outer v v) ≡ b → frame_sign v p ≡ not b
unfolding frame_sign
sign_face v p b h e = rw (le-ltb p (corners v) h, e) refl

data Position (v p : ℕ) : Type 0 where
  corner_0 : p < corners v → p % 3 ≡ 0 → left_to_right v p ≡ true → frame_sign v p ≡ true → Position v p
  corner_1 : p < corners v → p % 3 ≡ 1 → left_to_right v p ≡ false → frame_sign v p ≡ true → Position v p
  corner_2 : p < corners v → p % 3 ≡ 2 → left_to_right v p ≡ false → frame_sign v p ≡ false → Position v p
  side : (i : ℕ) → i < v → p ≡ outer v i → left_to_right v p ≡ true → frame_sign v p ≡ true → Position v p
  last : p ≡ outer v v → left_to_right v p ≡ false → frame_sign v p ≡ false → Position v p

position : (v p : ℕ) → p < places v → Position v p
position v p h = elim (dec_lt p (corners v)) [
  | yes l ↦ elim (which p) [
    | c0 e ↦ corner_0 l e (read_corner v p 0 l e) (sign_corner v p 0 l e)
    | c1 e ↦ corner_1 l e (read_corner v p 1 l e) (sign_corner v p 1 l e)
    | c2 e ↦ corner_2 l e (read_corner v p 2 l e) (sign_corner v p 2 l e)
  ]
  | no l ↦ elim (ℕ_discrete p (outer v v)) [
    | yes e ↦ (let z = eq-eqb p (outer v v) e in last e (read_face v p true (omega arith) z) (sign_face v p true (omega arith) z))
    | no e ↦
        (let z = ne_eqb p (outer v v) e in
        side (p - corners v) (omega arith) (omega arith) (read_face v p false (omega arith) z) (sign_face v p false (omega arith) z))
  ]
]

-- the frame of an edge that is read from left to right has the sign plus
rightward_plus : (v p : ℕ) → p < places v → left_to_right v p ≡ true → frame_sign v p ≡ true
rightward_plus v p h f = elim (position v p h) [
  | corner_0 a b c d ↦ d
  | corner_1 a b c d ↦ d
  | corner_2 a b c d ↦ clash f c
  | side i a b c d ↦ d
  | last a c d ↦ clash f c
]

-- and at an outer face plus goes with left to right
face_sign : (v i : ℕ) → i ≤ v → frame_sign v (outer v i) ≡ left_to_right v (outer v i)
face_sign v i h = elim (position v (outer v i) (omega arith)) [
  | corner_0 a b c d ↦ d ∙ sym c
  | corner_1 a b c d ↦ absurd (omega arith)
  | corner_2 a b c d ↦ d ∙ sym c
  | side i a b c d ↦ d ∙ sym c
  | last a c d ↦ d ∙ sym c
]

module _ (v : ℕ) (t : List ℤ) (ok : IsSymbol v t) (C : Cutting v t) where
  abbrev F : ℕ → Mat
  F = C.frame

  -- ---- corners

  pub edge_frame : (k : ℕ) → k < v - 1 → EdgeFrame v t (F (3 * k))
  edge_frame k h =
      let o = C.chords k h in
      let r = o.ordered in
      record {
        left = o.left;
        right = o.right;
        ordered = (omega arith, omega arith);
        is = o.is ∙ mat_eq refl refl (sym (left_den_lem v t ok o.right (omega arith))) (sym (left_den_lem v t ok o.left (omega arith)));
      }

  corner_Q : (o q : ℕ) → o < corners v → o % 3 ≡ 0 → q ≡ o + 1 → F q ≡ F o ⊗ mat_q
  corner_Q o q h e z = ap F z ∙ ap F (sym (turn_next v o h (omega arith))) ∙ sym (C.cut.turn_Q o h)

  corner_P : (o q : ℕ) → o < corners v → o % 3 ≡ 0 → q ≡ o + 2 → F q ≡ F o ⊗ mat_p
  corner_P o q h e z =
      ap F (z ∙ omega arith)
      ∙ ap F (sym (turn_next v (o + 1) (omega arith) (omega arith)))
      ∙ sym (C.cut.turn_Q (o + 1) (omega arith))
      ∙ ap (λ (m : Mat). m ⊗ mat_q) (corner_Q o (o + 1) h e refl)
      ∙ ⊗-assoc (F o) mat_q mat_q
      ∙ ap (λ (m : Mat). F o ⊗ m) Q_Q

  -- ---- lower rows

  some_den : (y : ℕ) → 1 ≤ y → y ≤ v → 0 < den t y
  some_den zero h k = absurd (omega arith)
  some_den (suc i) h k = let d = (ok.denoms i (omega arith)).0 in omega arith

  chord_rightward : (x y : ℕ) → 1 ≤ y → y ≤ v → Rightward (chord t x y)
  chord_rightward x y h k = record { right = den t y; left = den t x; is_right = refl; is_left = refl; some = some_den y h k }

  rightward_corner : (p : ℕ) → p < corners v → p % 3 ≡ 0 → Rightward (F p)
  rightward_corner p h e =
      let k : p ≡ 3 * (p / 3) = omega arith in
      let o = C.chords (p / 3) (omega arith) in
      let r = o.ordered in
      subst Rightward (sym (ap F k ∙ o.is)) (chord_rightward o.left o.right (omega arith) (omega arith))

  face_frame : (p i : ℕ) → p ≡ outer v i → F p ≡ frame_at v t i
  face_frame p i e = ap F e ∙ C.cut.sides i

  rightward : (p : ℕ) → p < places v → left_to_right v p ≡ true → Rightward (F p)
  rightward p h f = elim (position v p h) [
    | corner_0 a b c d ↦ rightward_corner p a b
    | corner_1 a b c d ↦ clash f c
    | corner_2 a b c d ↦ clash f c
    | side i a b c d ↦ subst Rightward (sym (face_frame p i b ∙ side_chord v t ok i a)) (chord_rightward i (suc i) (omega arith) (omega arith))
    | last a c d ↦ clash f c
  ]

  leftward : (p : ℕ) → p < places v → left_to_right v p ≡ false → Leftward (with_sign (frame_sign v p) (F p))
  leftward p h f = elim (position v p h) [
    | corner_0 a b c d ↦ clash c f
    | corner_1 a b c d ↦
        rw (d, corner_Q (p - 1) p (omega arith) (omega arith) (omega arith))
        (rightward_Q (F (p - 1)) (rightward_corner (p - 1) (omega arith) (omega arith)))
    | corner_2 a b c d ↦
        rw (d, corner_P (p - 2) p (omega arith) (omega arith) (omega arith))
        (rightward_P (F (p - 2)) (rightward_corner (p - 2) (omega arith) (omega arith)))
    | side i a b c d ↦ clash c f
    | last a c d ↦ rw (d, face_frame p v a ∙ last_side v t ok) (last_leftward (pos 1) (left_num t v) (den t v) (some_den v ok.some (omega arith)))
  ]

  -- ---- S

  opposite : (p : ℕ) → p < places v → left_to_right v (flip v t p) ≡ not (left_to_right v p)
  opposite p h =
      let q = flip v t p in
      let k = C.cut.within p h in
      elim (either (left_to_right v p)) [
        | inl a ↦ elim (either (left_to_right v q)) [
          | inl b ↦ absurd (not_rightward (F p) (F q) (rightward p h a) (rightward q k b) (C.cut.turn_S p h))
          | inr b ↦ b ∙ ap not (sym a)
        ]
        | inr a ↦ elim (either (left_to_right v q)) [
          | inl b ↦ b ∙ ap not (sym a)
          | inr b ↦
              (let x = with_sign (frame_sign v p) (F p) in
              let y = with_sign (frame_sign v q) (F q) in
              let same = ≈-right mat_s (sign-≈ (frame_sign v p) (F p)) ∙≈ C.cut.turn_S p h ∙≈ ≈-sym (sign-≈ (frame_sign v q) (F q)) in
              absurd (not_leftward x y (leftward p h a) (leftward q k b) same))
        ]
      ]

  -- from left to right, and from right to left
  turn_rightward : (p : ℕ) → p < places v → left_to_right v p ≡ true → F p ⊗ mat_s ≡ with_sign (frame_sign v (flip v t p)) (F (flip v t p))
  turn_rightward p h f =
      let q = flip v t p in
      let back = leftward q (C.cut.within p h) (opposite p h ∙ ap not f) in
      settle (frame_sign v q) (F p ⊗ mat_s) (F q) (rightward_S (F p) (rightward p h f)) back (C.cut.turn_S p h)

  turn_leftward : (p : ℕ) → p < places v → left_to_right v p ≡ false → F p ⊗ mat_s ≡ with_sign (not (frame_sign v p)) (F (flip v t p))
  turn_leftward p h f =
      let q = flip v t p in
      let there = turn_rightward q (C.cut.within p h) (opposite p h ∙ ap not f) in
      S_back (frame_sign v p) (F q) (F p)
      (subst (λ (x : ℕ). F q ⊗ mat_s ≡ with_sign (frame_sign v x) (F x)) (C.cut.flips p) there)

  pub turn_S : (p : ℕ) → p < places v → F p ⊗ mat_s ≡ with_sign (flip_sign v t p) (F (flip v t p))
  turn_S p h =
      let q = flip v t p in
      elim (either (left_to_right v p)) [
        | inl f ↦ rw (f, rightward_plus v p h f, ·-plus (frame_sign v q)) (turn_rightward p h f)
        | inr f ↦
            (let z = rightward_plus v q (C.cut.within p h) (opposite p h ∙ ap not f) in
            rw (f, z, ·-plus (frame_sign v p), ·-comm (frame_sign v p) false) (turn_leftward p h f))
      ]

  -- ---- over a side

  out_sign : (a b : Bool) → a · b · not b ≡ not a
  out_sign true true = refl
  out_sign true false = refl
  out_sign false true = refl
  out_sign false false = refl

  in_sign : (a b : Bool) → b · a · b ≡ a
  in_sign true true = refl
  in_sign true false = refl
  in_sign false true = refl
  in_sign false false = refl

  -- S from p out over side i
  pub out_side : (p i : ℕ) → p < places v → i ≤ v → flip v t p ≡ outer v i → F p ⊗ mat_s ≡ with_sign (not (frame_sign v p)) (frame_at v t i)
  out_side p i h k e =
      let q = outer v i in
      let f : left_to_right v p ≡ not (left_to_right v q) =
      sym (ap (left_to_right v) (C.cut.flips p)) ∙ ap (λ (x : ℕ). left_to_right v (flip v t x)) e ∙ opposite q (omega arith) in
      let s : flip_sign v t p ≡ not (frame_sign v p) =
      ap (λ (x : ℕ). frame_sign v p · frame_sign v x · left_to_right v p) e
      ∙ ap (λ (b : Bool). frame_sign v p · b · left_to_right v p) (face_sign v i k)
      ∙ ap (λ (b : Bool). frame_sign v p · left_to_right v q · b) f
      ∙ out_sign (frame_sign v p) (left_to_right v q) in
      turn_S p h ∙ ap (λ (b : Bool). with_sign b (F (flip v t p))) s ∙ ap (with_sign (not (frame_sign v p))) (face_frame (flip v t p) i e)

  -- and in over side i
  pub in_side : (i : ℕ) → i ≤ v → frame_at v t i ⊗ mat_s ≡ with_sign (frame_sign v (flip v t (outer v i))) (F (flip v t (outer v i)))
  in_side i k =
      let p = outer v i in
      let q = flip v t p in
      let s : flip_sign v t p ≡ frame_sign v q =
      ap (λ (b : Bool). b · frame_sign v q · left_to_right v p) (face_sign v i k) ∙ in_sign (frame_sign v q) (left_to_right v p) in
      ap (λ (m : Mat). m ⊗ mat_s) (sym (C.cut.sides i)) ∙ turn_S p (omega arith) ∙ ap (λ (b : Bool). with_sign b (F q)) s
