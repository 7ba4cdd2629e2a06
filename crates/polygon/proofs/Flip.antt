-- What the cut promises: the other side of each position, the turns within a triangle, and the frames that go with both.
--
-- In order: turns (`turn_next`, `turn_last`, `turn_face`, `order_three`); positions that are real (`real_corner`, `real_face`, `real_odd`);
-- the cut (`triangles`), and with it where the edge from infinity to 0 is and that corner 0 has the frame of its chord, sign included (`Cutting`,
-- `cutting`).
-- Assumes nothing.
use mathlib.Core.Path.{◌≡◌, sym, ◌∙◌, ap}
use mathlib.Core.Bool.{true}
use mathlib.Core.List.{List, []}
use Prim.Native.Nat.{ℕ, ◌+◌, ◌*◌, ◌-◌, ◌/◌, ◌%◌, ◌≤◌, ◌<◌}
use native.Mathlib.Omega.{arith}
use native.Mathlib.Decide.{ℕ_discrete, dec_lt}
use lib.ListN.{get_or-eq_default}
use lib.IntN.{ℤ}
use borrow.Author.Tests.{lt-ltb, le-ltb, eq-eqb, ne_eqb}
use Rattle.matrix.specs.Matrix.{Mat, ◌⊗◌, mat_s, mat_q, mat_p}
use Rattle.matrix.specs.Action.{OrderThree}
use Rattle.matrix.proofs.Matrix.{⊗-assoc, ⊗-idr, Q_Q, P_Q}
use Rattle.symbol.specs.Symbol.{IsSymbol}
use Rattle.pairing.specs.Generator.{frame_at}
use Rattle.polygon.specs.Cut.{corners, outer, places, flip_of, flip, under_zero}
use Rattle.polygon.specs.Step.{odd_at, real, Real, turn_q}
use Rattle.polygon.specs.Triangles.{Farey, Triangles}
use Rattle.polygon.proofs.SymbolFacts.{odd_in}
use Rattle.polygon.proofs.Edges.{Known, corner, face, known_in, spun, frame_outer, frame_corner, Way, Shut}
use Rattle.polygon.proofs.Scan.{framed, Whole, whole}
use Rattle.polygon.proofs.Chord.{Over}
use Rattle.polygon.proofs.Triangles.{side_edge, farey}

-- ---- turns

pub turn_face : (v p : ℕ) → corners v ≤ p → turn_q v p ≡ p
unfolding turn_q
turn_face v p h = rw (le-ltb p (corners v) h)

pub turn_last : (v p : ℕ) → p < corners v → p % 3 ≡ 2 → turn_q v p ≡ p - 2
unfolding turn_q
turn_last v p h e = rw (lt-ltb p (corners v) h, eq-eqb (p % 3) 2 e)

pub turn_next : (v p : ℕ) → p < corners v → (p % 3 ≡ 2 → ⊥) → turn_q v p ≡ p + 1
unfolding turn_q
turn_next v p h e = rw (lt-ltb p (corners v) h, ne_eqb (p % 3) 2 e)

-- which corner p is
pub data Corner (p : ℕ) : Type 0 where
  c0 : p % 3 ≡ 0 → Corner p
  c1 : p % 3 ≡ 1 → Corner p
  c2 : p % 3 ≡ 2 → Corner p

pub which : (p : ℕ) → Corner p
which p = elim (ℕ_discrete (p % 3) 0) [ yes e ↦ c0 e | no e ↦ elim (ℕ_discrete (p % 3) 1) [ yes f ↦ c1 f | no f ↦ c2 (omega arith) ] ]

pub order_three : (v : ℕ) → OrderThree (turn_q v)
order_three v p = elim (dec_lt p (corners v)) [
  | no h ↦ (let e = turn_face v p (omega arith) in cc)
  | yes h ↦ elim (which p) [
    | c0 e ↦ ap (λ (x : ℕ). turn_q v (turn_q v x)) (turn_next v p h (omega arith)) ∙ ap (turn_q v) (turn_next v (p + 1) (omega arith) (omega arith))
        ∙ turn_last v (p + 1 + 1) (omega arith) (omega arith) ∙ omega arith
    | c1 e ↦ ap (λ (x : ℕ). turn_q v (turn_q v x)) (turn_next v p h (omega arith)) ∙ ap (turn_q v) (turn_last v (p + 1) (omega arith) (omega arith))
        ∙ turn_next v (p + 1 - 2) (omega arith) (omega arith) ∙ omega arith
    | c2 e ↦ ap (λ (x : ℕ). turn_q v (turn_q v x)) (turn_last v p h e) ∙ ap (turn_q v) (turn_next v (p - 2) (omega arith) (omega arith))
        ∙ turn_next v (p - 2 + 1) (omega arith) (omega arith) ∙ omega arith
  ]
]

-- ---- positions that are real

pub real_corner : (v : ℕ) (t : List ℤ) (p : ℕ) → p < corners v → Real v t p
unfolding real
real_corner v t p h = rw (lt-ltb p (corners v) h)

pub real_face : (v : ℕ) (t : List ℤ) (i : ℕ) → real v t (outer v i) ≡ odd_at v t i
unfolding real
real_face v t i = let e : outer v i - corners v ≡ i = omega arith in rw (le-ltb (outer v i) (corners v) (omega arith), e)

-- a position is a corner, or the outer face of a side
pub data Place (v p : ℕ) : Type 0 where
  inner : p < corners v → Place v p
  outside : (i : ℕ) → p ≡ outer v i → Place v p

pub place : (v p : ℕ) → Place v p
place v p = elim (dec_lt p (corners v)) [ yes h ↦ inner h | no h ↦ outside (p - corners v) (omega arith) ]

pub real_odd : (v : ℕ) (t : List ℤ) (p i : ℕ) → p ≡ outer v i → Real v t p → odd_at v t i ≡ true
real_odd v t p i e r = sym (real_face v t i) ∙ ap (real v t) (sym e) ∙ r

pub real_in : (v : ℕ) (t : List ℤ) → IsSymbol v t → (p : ℕ) → Real v t p → p < places v
real_in v t ok p r = elim (place v p) [ inner h ↦ omega arith | outside i e ↦ omega (arith, odd_in v t ok i (real_odd v t p i e r)) ]

-- ---- the cut

pub record Cutting (v : ℕ) (t : List ℤ) : Type 0 where
  pub frame : ℕ → Mat
  pub cut : Triangles v t frame
  pub chords : (k : ℕ) → k < v - 1 → Over v t (frame (3 * k))
  pub zero_in : under_zero v t < places v
  pub zero_is : frame (under_zero v t) ≡ mat_s

module _ (v : ℕ) (t : List ℤ) (ok : IsSymbol v t) where
  abbrev w : Whole v t ok
  w = whole v t ok

  abbrev top : ℕ → Mat
  top = w.tops

  known : (p : ℕ) → p < places v → Known v (v - 1) (v + 1) p
  known p h = elim (dec_lt p (corners v)) [ yes b ↦ corner b | no b ↦ face (omega arith) (omega arith) ]

  shut : (p : ℕ) → p < places v → Shut v (frame_at v t) (flip_of v t) (v - 1) (v + 1) [] top p
  shut p h = w.fits.shut p (known p h) tt

  -- past the end of the array nothing moves
  beyond : (p : ℕ) → places v ≤ p → flip v t p ≡ p
  beyond p h = get_or-eq_default (flip_of v t) p (omega (arith, w.fits.size))

  at_corner : (m c : ℕ) → c < 3 → 3 * m + c < corners v → framed v t top (3 * m + c) ≡ spun (top m) c
  at_corner m c h k = frame_corner v (frame_at v t) top m c h k

  -- the frame at p, where p = 3 m + c
  at : (p m c : ℕ) → p ≡ 3 * m + c → c < 3 → p < corners v → framed v t top p ≡ spun (top m) c
  at p m c e h k = ap (framed v t top) e ∙ at_corner m c h (omega arith)

  spins : (p : ℕ) → p < corners v → framed v t top p ⊗ mat_q ≡ framed v t top (turn_q v p)
  spins p h = elim (which p) [
    | c0 e ↦
        ap (λ (m : Mat). m ⊗ mat_q) (at p (p / 3) 0 (omega arith) (omega arith) h)
        ∙ sym (ap (framed v t top) (turn_next v p h (omega arith)) ∙ at (p + 1) (p / 3) 1 (omega arith) (omega arith) (omega arith))
    | c1 e ↦
        ap (λ (m : Mat). m ⊗ mat_q) (at p (p / 3) 1 (omega arith) (omega arith) h)
        ∙ ⊗-assoc (top (p / 3)) mat_q mat_q ∙ ap (λ (m : Mat). top (p / 3) ⊗ m) Q_Q
        ∙ sym (ap (framed v t top) (turn_next v p h (omega arith)) ∙ at (p + 1) (p / 3) 2 (omega arith) (omega arith) (omega arith))
    | c2 e ↦
        ap (λ (m : Mat). m ⊗ mat_q) (at p (p / 3) 2 (omega arith) (omega arith) h)
        ∙ ⊗-assoc (top (p / 3)) mat_p mat_q ∙ ap (λ (m : Mat). top (p / 3) ⊗ m) P_Q ∙ ⊗-idr (top (p / 3))
        ∙ sym (ap (framed v t top) (turn_last v p h e) ∙ at (p - 2) (p / 3) 0 (omega arith) (omega arith) (omega arith))
  ]

  -- the corners of triangle k
  corners_of : (k : ℕ) → k < v - 1 → Farey v t (framed v t top) k
  corners_of k h =
      farey v t ok (top k) (w.overs k h) (framed v t top) k
      (at (3 * k) k 0 (omega arith) (omega arith) (omega arith))
      (at_corner k 1 (omega arith) (omega arith))
      (at_corner k 2 (omega arith) (omega arith))

  way : (p : ℕ) → p < places v → Way v p (flip v t p)
  way p h = let s = shut p h in rw s.is s.way

  triangles : Triangles v t (framed v t top)
  triangles = record {
    sides = λ i. frame_outer v (frame_at v t) top i;
    side_edge = λ i h. rw (frame_outer v (frame_at v t) top i) (side_edge v t ok i h);
    triangle = corners_of;
    unit = λ p h. w.fits.unit p (known p h);
    turn_Q = spins;
    flips = λ p. elim (dec_lt p (places v)) [
      | yes h ↦ (let s = shut p h in ap (flip v t) s.is ∙ s.back)
      | no h ↦ (let e = beyond p (omega arith) in cc)
    ];
    within = λ p h. let s = shut p h in rw s.is (known_in s.known w.fits.room w.fits.most);
    differs = λ p h e. let s = shut p h in s.differs (e ∙ s.is);
    turn_S = λ p h. let s = shut p h in rw s.is s.turn;
    inside = λ i h. (way (outer v i) (omega arith)).inside (omega arith);
    above = λ k h. (way (3 * k) (omega arith)).up (omega arith) (omega arith);
  }

  pub cutting : Cutting v t
  cutting = record {
    frame = framed v t top;
    cut = triangles;
    chords = λ k h. rw (at (3 * k) k 0 (omega arith) (omega arith) (omega arith)) (w.overs k h);
    zero_in = w.zero.0;
    zero_is = w.zero.1;
  }
