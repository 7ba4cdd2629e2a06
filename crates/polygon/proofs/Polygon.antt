-- THE THEOREM: every accepted symbol has the promise of specs/Theorem.antt.
--
-- In order: the index, a count (`index`); the steps of a symbol meet the interface of proofs/Framed.antt (`glued`); from the matrices that its
-- theorems speak of to those of the walk (`followed_is`, `origin_is`); `walks`, `polygon`.
-- Assumes nothing.
use mathlib.Core.Path.{◌≡◌, refl, sym, ◌∙◌, ap}
use mathlib.Core.Logic.{inl, inr}
use mathlib.Core.Bool.{Bool, true}
use mathlib.Core.List.{List}
use Prim.Native.Nat.{ℕ, zero, suc, ◌+◌, ◌<◌}
use native.Mathlib.Omega.{arith}
use lib.IntN.{ℤ, pos}
use Rattle.matrix.specs.Matrix.{Mat, ◌⊗◌, 𝟙, neg, adj, det, mat_s, ◌≈◌}
use Rattle.matrix.specs.Words.{S}
use Rattle.matrix.specs.Euclid.{word_of}
use Rattle.matrix.specs.Action.{at, run}
use Rattle.matrix.proofs.Matrix.{⊗-idl, ⊗-idr, det_letter, ◌∙≈◌, ≈-left, ≈-right, ≈-both, ≈-adj}
use Rattle.matrix.proofs.Uniqueness.{word_of-≈}
use Rattle.matrix.proofs.Action.{at-≈, at-⊗, at_S}
use Rattle.basics.specs.Count.{count}
use Rattle.symbol.specs.Symbol.{IsSymbol}
use Rattle.pairing.specs.Generator.{generators}
use Rattle.polygon.specs.Cut.{corners, outer, places}
use Rattle.polygon.specs.Step.{odd_at, real, Real, step_s, turn_q, written, start_of, origin_of}
use Rattle.polygon.specs.Walk.{arrives, followed}
use Rattle.polygon.specs.Theorem.{Walks, Polygon}
use Rattle.basics.proofs.Count.{count_eq}
use Rattle.polygon.proofs.Framed.{Near, Framed, wrote_word, wrote_short, run_real, walk, home, found, stabiliser, cosets}
use Rattle.polygon.proofs.Flip.{Cutting, cutting, order_three, real_corner, real_face, real_in}
use Rattle.polygon.proofs.Steps.{involution, closed}
use Rattle.polygon.proofs.Promise.{units, promise, letters, short, made}
use Rattle.polygon.proofs.Near.{joined, by_frames}
use Rattle.polygon.proofs.Start.{upright, round, begin, start_real, start_frame_is, origin_real}

-- ---- the index

count_all : (test : ℕ → Bool) (n : ℕ) → ((k : ℕ) → k < n → test k ≡ true) → count test n ≡ n
count_all test zero h = refl
count_all test (suc n) h = let e = count_all test n (λ k l. h k (omega arith)) in rw (h n (omega arith)) (omega arith)

count-+ : (test : ℕ → Bool) (m n : ℕ) → count test (m + n) ≡ count test m + count (λ (i : ℕ). test (m + i)) n
count-+ test m zero = let e : m + 0 ≡ m = omega arith in rw e (omega arith)
count-+ test m (suc n) = let e : m + suc n ≡ suc (m + n) = omega arith in let f = count-+ test m n in rw e (omega arith)

pub index : (v : ℕ) (t : List ℤ) → count (real v t) (places v) ≡ corners v + count (odd_at v t) (v + 1)
index v t =
    let a = count-+ (real v t) (corners v) (v + 1) in
    let b = count_all (real v t) (corners v) (λ k h. real_corner v t k h) in
    let c = count_eq (λ (i : ℕ). real v t (outer v i)) (odd_at v t) (v + 1) (λ k h. real_face v t k) in
    omega arith

-- ---- the interface

adj_𝟙 : adj 𝟙 ≡ 𝟙
unfolding adj 𝟙
adj_𝟙 = refl

adj_S : adj mat_s ≈ mat_s
unfolding adj neg mat_s
adj_S = inr refl

module _ (v : ℕ) (t : List ℤ) (ok : IsSymbol v t) where
  abbrev C : Cutting v t
  C = cutting v t ok

  glued : Framed (step_s v t) (turn_q v) C.frame (Real v t) (generators v t) (written v t)
  glued = record {
    involution = involution v t ok C;
    order_three = order_three v;
    closed = closed v t ok C;
    unit = λ p r. C.cut.unit p (real_in v t ok p r);
    units = units v t ok;
    letters = letters v t ok C;
    short = short v t ok C;
    promise = promise v t ok C;
    made = made v t ok C;
    root = start_of v t;
    root_real = start_real v t ok C;
    near = λ p. joined v t ok C (Near (step_s v t) (turn_q v) C.frame) (by_frames v t ok C) (start_of v t) p (start_real v t ok C);
  }

  abbrev start : ℕ
  start = start_of v t

  starts : Real v t start
  starts = start_real v t ok C

  -- the matrix that the walk follows
  followed_is : (m : Mat) → adj (C.frame start) ⊗ (m ⊗ C.frame start) ≈ followed v t m
  unfolding followed
  followed_is m = elim (begin v t ok C) [
    | upright a b c ↦ rw a
        (≈-both (≈-adj (start_frame_is v t ok C ∙≈ inl b) ∙≈ inl adj_𝟙) (≈-left m (start_frame_is v t ok C ∙≈ inl b)) ∙≈ inl (⊗-idl (m ⊗ 𝟙) ∙ ⊗-idr m))
    | round a b c ↦ rw a (≈-both (≈-adj (start_frame_is v t ok C ∙≈ inl b)) (≈-left m (start_frame_is v t ok C ∙≈ inl b)))
  ]

  same_walk : (m : Mat) → at (step_s v t) (turn_q v) start (adj (C.frame start) ⊗ (m ⊗ C.frame start)) ≡ arrives v t start (followed v t m)
  same_walk m = at-≈ (step_s v t) (turn_q v) (involution v t ok C) (order_three v) start (adj (C.frame start) ⊗ (m ⊗ C.frame start)) (followed v t m)
      (followed_is m)

  -- from the start with F₀⁻¹ m, and from the coset H with m
  origin_is : (m : Mat) → det m ≡ pos 1 → at (step_s v t) (turn_q v) start (adj (C.frame start) ⊗ m) ≡ arrives v t (origin_of v t) m
  origin_is m d = elim (begin v t ok C) [
    | upright a b c ↦
        at-≈ (step_s v t) (turn_q v) (involution v t ok C) (order_three v) start (adj (C.frame start) ⊗ m) m
        (≈-right m (≈-adj (start_frame_is v t ok C ∙≈ inl b) ∙≈ inl adj_𝟙) ∙≈ inl (⊗-idl m))
        ∙ ap (λ (p : ℕ). at (step_s v t) (turn_q v) p m) (sym c)
    | round a b c ↦
        at-≈ (step_s v t) (turn_q v) (involution v t ok C) (order_three v) start (adj (C.frame start) ⊗ m) (mat_s ⊗ m)
        (≈-right m (≈-adj (start_frame_is v t ok C ∙≈ inl b) ∙≈ adj_S))
        ∙ at-⊗ (step_s v t) (turn_q v) (involution v t ok C) (order_three v) start mat_s m (det_letter S) d
        ∙ ap (λ (p : ℕ). at (step_s v t) (turn_q v) p m) (at_S (step_s v t) (turn_q v) (involution v t ok C) (order_three v) start ∙ sym c)
  ]

  by_word : (p : ℕ) → Real v t p → run (step_s v t) (turn_q v) start (word_of (adj (C.frame start) ⊗ C.frame p)) ≡ p
  unfolding at
  by_word p r = home (step_s v t) (turn_q v) C.frame (Real v t) (generators v t) (written v t) glued start starts p r

  -- ---- what follows for walks

  walks : Walks v t C.frame
  walks = record {
    walk_real = run_real (step_s v t) (turn_q v) C.frame (Real v t) (generators v t) (written v t) glued;
    walk_letters = wrote_word (step_s v t) (turn_q v) C.frame (Real v t) (generators v t) (written v t) glued;
    walk_short = wrote_short (step_s v t) (turn_q v) C.frame (Real v t) (generators v t) (written v t) glued;
    walk = walk (step_s v t) (turn_q v) C.frame (Real v t) (generators v t) (written v t) glued;
    origin = origin_real v t ok C;
    by_frame = λ p r. sym (origin_is (C.frame p) (C.cut.unit p (real_in v t ok p r)))
        ∙ home (step_s v t) (turn_q v) C.frame (Real v t) (generators v t) (written v t) glued start starts p r;
  }

  -- ---- the theorem

  pub polygon : Polygon v t
  polygon = record {
    involution = involution v t ok C;
    order_three = order_three v;
    within = real_in v t ok;
    closed = closed v t ok C;
    start = starts;
    frame = C.frame;
    cut = C.cut;
    start_frame_is = start_frame_is v t ok C;
    letters = letters v t ok C;
    short = short v t ok C;
    promise = promise v t ok C;
    stabiliser = λ m d. rw (← same_walk m) (stabiliser (step_s v t) (turn_q v) C.frame (Real v t) (generators v t) (written v t) glued start starts m d);
    found = λ m d h. rw (← word_of-≈ (followed_is m))
        (found (step_s v t) (turn_q v) C.frame (Real v t) (generators v t) (written v t) glued start starts m d (same_walk m ∙ h));
    cosets = λ m n d e. rw (← origin_is m d, ← origin_is n e)
        (cosets (step_s v t) (turn_q v) C.frame (Real v t) (generators v t) (written v t) glued start starts m n d e);
    reached = λ p r. record { word = word_of (adj (C.frame start) ⊗ C.frame p); is = by_word p r };
    index = index v t;
    walks = walks;
  }
