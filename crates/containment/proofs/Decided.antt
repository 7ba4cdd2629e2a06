-- From corners to positions: `corner_decides`, `face_decides`, and `lone_low` to `lone_two` for a symbol without triangles.
-- In order: a set that has the origin and keeps to S and Q has all positions (`all_positions`); the outer face of an odd side goes where S takes it from its
-- corner (`corner_tracked`, `face_tracked`); one or two positions (`lone_tracked`, `step_same`); what is decided.
-- Assumes nothing.
use mathlib.Core.Path.{◌≡◌, refl, sym, ◌∙◌, ap}
use mathlib.Core.Logic.{◌⊎◌, inl, inr}
use mathlib.Core.Bool.{Bool, true, false}
use mathlib.Core.List.{List, [], ◌∷◌}
use Prim.Native.Nat.{ℕ, ◌+◌, ◌*◌, ◌-◌, ◌≤◌, ◌<◌}
use native.Mathlib.Omega.{arith}
use native.Mathlib.Decide.{dec_lt, ℕ_discrete}
use lib.Dec.{ltb, eqb}
use lib.IntN.{ℤ}
use borrow.Author.Tests.{lt-ltb, le-ltb, eq-eqb, ne_eqb, eqb-true}
use Rattle.basics.specs.Choice.{pick}
use Rattle.basics.proofs.Choice.{pick_true, pick_false, clash, either}
use Rattle.matrix.specs.Words.{Letter, S, Q, P}
use Rattle.symbol.specs.Symbol.{IsSymbol}
use Rattle.polygon.specs.Cut.{corners, outer, places, flip}
use Rattle.polygon.specs.Step.{Real, step_s, turn_q, turned, start_of, origin_of}
use Rattle.polygon.specs.Walk.{ends}
use Rattle.polygon.specs.Theorem.{Polygon}
use Rattle.polygon.proofs.Polygon.{polygon}
use Rattle.polygon.proofs.Flip.{turn_face, real_corner, cutting}
use Rattle.polygon.proofs.Steps.{step_inner, turn_in}
use Rattle.containment.specs.TwoSymbols.{contained}
use Rattle.containment.specs.Inner.Following.{Tracks, Tracked, Carries, CarriedTo}
use Rattle.containment.proofs.Tracked.{tracked_decides, as_one}
use Rattle.containment.proofs.Corners.{turn_moves}

-- ---- one symbol

module _ (v : ℕ) (t : List ℤ) (ok : IsSymbol v t) where
  abbrev g : Polygon v t
  g = polygon v t ok

  turned_back : turned v t ≡ true → step_s v t (origin_of v t) ≡ start_of v t
  unfolding origin_of
  turned_back e = rw e (g.involution (start_of v t))

  not_turned : turned v t ≡ false → origin_of v t ≡ start_of v t
  unfolding origin_of
  not_turned e = rw e

  module _ (X : ℕ → Type 0) (home : X (origin_of v t)) (by_S : (x : ℕ) → X x → X (step_s v t x)) (by_Q : (x : ℕ) → X x → X (turn_q v x)) where
    walked : (l : List Letter) (x : ℕ) → X x → X (ends v t x l)
    walked [] x h = h
    walked (S ∷ l) x h = walked l (step_s v t x) (by_S x h)
    walked (Q ∷ l) x h = walked l (turn_q v x) (by_Q x h)
    walked (P ∷ l) x h = walked l (turn_q v (turn_q v x)) (by_Q (turn_q v x) (by_Q x h))

    started : X (start_of v t)
    started = elim (either (turned v t)) [
      | inl e ↦ rw (sym (turned_back e)) (by_S (origin_of v t) home)
      | inr e ↦ rw (sym (not_turned e)) home
    ]

    all_positions : (x : ℕ) → Real v t x → X x
    all_positions x r = let c = g.reached x r in rw (sym c.is) (walked c.word (start_of v t) started)

  -- the outer face of an odd side has a corner beyond it, if there is one
  face_in : (v ≡ 1 → ⊥) → (x : ℕ) → Real v t x → corners v ≤ x → step_s v t x < corners v
  face_in some x r h =
      let i = x - corners v in
      let e : outer v i ≡ x = omega arith in
      let l = g.within x r in
      let b : flip v t x < corners v = elim (g.cut.inside i (omega arith)) [ inl z ↦ rw e at z | inr z ↦ absurd (some z) ] in
      rw (step_inner v t x r b) b

-- ---- two symbols

module _ (v : ℕ) (t : List ℤ) (n : ℕ) (u : List ℤ) (ok : IsSymbol v t) (ok' : IsSymbol n u) where
  abbrev big : Polygon v t
  big = polygon v t ok

  abbrev small : Polygon n u
  small = polygon n u ok'

  module _ (some : n ≡ 1 → ⊥) {p y : ℕ} (c : Carries v t n u p y) where
    goes : ℕ → ℕ
    goes x = pick (ltb x (corners n)) (c.to x) (step_s v t (c.to (step_s n u x)))

    goes_in : (x : ℕ) → x < corners n → goes x ≡ c.to x
    unfolding goes
    goes_in x h = pick_true (ltb x (corners n)) _ _ (lt-ltb x (corners n) h)

    goes_out : (x : ℕ) → corners n ≤ x → goes x ≡ step_s v t (c.to (step_s n u x))
    unfolding goes
    goes_out x h = pick_false (ltb x (corners n)) _ _ (le-ltb x (corners n) h)

    by_S : (x : ℕ) → Real n u x → goes (step_s n u x) ≡ step_s v t (goes x)
    by_S x r =
        let z = step_s n u x in
        elim (dec_lt x (corners n)) [
          | yes h ↦ elim (dec_lt z (corners n)) [
            | yes k ↦ goes_in z k ∙ c.inner x h k ∙ ap (step_s v t) (sym (goes_in x h))
            | no k ↦ goes_out z (omega arith) ∙ ap (λ (a : ℕ). step_s v t (c.to a)) (small.involution x) ∙ ap (step_s v t) (sym (goes_in x h))
          ]
          | no h ↦
              goes_in z (face_in n u ok' some x r (omega arith)) ∙ sym (big.involution (c.to z)) ∙ ap (step_s v t) (sym (goes_out x (omega arith)))
        ]

    by_Q : (x : ℕ) → Real n u x → goes (turn_q n x) ≡ turn_q v (goes x)
    by_Q x r = elim (dec_lt x (corners n)) [
      | yes h ↦ goes_in (turn_q n x) (turn_in n u ok' (cutting n u ok') x h) ∙ c.turns x h ∙ ap (turn_q v) (sym (goes_in x h))
      | no h ↦
          let z = step_s n u x in
          let k = face_in n u ok' some x r (omega arith) in
          let e = small.involution x in
          let f : corners v ≤ step_s v t (c.to z) = c.faces z k (rw e (omega arith)) in
          ap goes (turn_face n x (omega arith)) ∙ goes_out x (omega arith) ∙ sym (turn_face v (step_s v t (c.to z)) f)
          ∙ ap (turn_q v) (sym (goes_out x (omega arith)))
    ]

    corner_tracked : origin_of n u < corners n → p ≡ origin_of n u → y ≡ origin_of v t → Tracked v t n u
    corner_tracked h e f = record {
      to = goes;
      tracks = record { origin = goes_in (origin_of n u) h ∙ ap c.to (sym e) ∙ c.start ∙ f; by_S = by_S; by_Q = by_Q };
    }

    face_tracked : corners n ≤ origin_of n u → p ≡ step_s n u (origin_of n u) → y ≡ step_s v t (origin_of v t) → Tracked v t n u
    face_tracked h e f = record {
      to = goes;
      tracks = record {
        origin = goes_out (origin_of n u) h ∙ ap (λ (x : ℕ). step_s v t (c.to x)) (sym e) ∙ ap (step_s v t) (c.start ∙ f) ∙ big.involution (origin_of v t);
        by_S = by_S;
        by_Q = by_Q;
      };
    }

  -- a decision
  decides : (b : Bool) → (b ≡ true → Tracked v t n u) → (b ≡ false → Tracked v t n u → ⊥) → b ≡ contained n u v t
  decides true yes' no' = sym ((tracked_decides v t n u ok ok').1 (yes' refl))
  decides false yes' no' = as_one false (contained n u v t) (λ e. clash e refl) (λ e. absurd (no' refl ((tracked_decides v t n u ok ok').0 e)))

  module _ (some : n ≡ 1 → ⊥) {p y : ℕ} {b : Bool} (d : CarriedTo v t n u p y b) where
    pub corner_decides : origin_of n u < corners n → p ≡ origin_of n u → y ≡ origin_of v t → b ≡ contained n u v t
    corner_decides h e f = decides b (λ q. corner_tracked some (d.yes q) h e f)
        (λ q s. d.no q s.to s.tracks (ap s.to e ∙ s.tracks.origin ∙ sym f))

    pub face_decides : corners n ≤ origin_of n u → p ≡ step_s n u (origin_of n u) → y ≡ step_s v t (origin_of v t) → b ≡ contained n u v t
    face_decides h e f = decides b (λ q. face_tracked some (d.yes q) h e f)
        (λ q s. d.no q s.to s.tracks
        (ap s.to e ∙ s.tracks.by_S (origin_of n u) small.walks.origin ∙ ap (step_s v t) s.tracks.origin ∙ sym f))

  -- the corner under the outer face where the walk starts
  pub face_corner : (n ≡ 1 → ⊥) → corners n ≤ origin_of n u → step_s n u (origin_of n u) < corners n
  face_corner some h = face_in n u ok' some (origin_of n u) small.walks.origin h

  -- ---- no triangles

  module _ (one : n ≡ 1) where
    abbrev o : ℕ
    o = origin_of n u

    abbrev y₀ : ℕ
    y₀ = origin_of v t

    out : (x : ℕ) → corners n ≤ x
    out x = omega arith

    -- the origin, or what S makes of it
    abbrev OneOf : ℕ → Type 0
    OneOf x = (x ≡ o) ⊎ (x ≡ step_s n u o)

    one_S : (x : ℕ) → OneOf x → OneOf (step_s n u x)
    one_S x (inl e) = inr (ap (step_s n u) e)
    one_S x (inr e) = inl (ap (step_s n u) e ∙ small.involution o)

    one_Q : (x : ℕ) → OneOf x → OneOf (turn_q n x)
    one_Q x h = rw (turn_face n x (out x)) h

    one_of : (x : ℕ) → Real n u x → OneOf x
    one_of x r = all_positions n u ok' OneOf (inl refl) one_S one_Q x r

    takes : ℕ → ℕ
    takes x = pick (eqb x o) y₀ (step_s v t y₀)

    takes_here : takes o ≡ y₀
    unfolding takes
    takes_here = pick_true (eqb o o) y₀ (step_s v t y₀) (eq-eqb o o refl)

    module _ (same : step_s n u o ≡ o → step_s v t y₀ ≡ y₀) where
      takes_there : takes (step_s n u o) ≡ step_s v t y₀
      unfolding takes
      takes_there = elim (ℕ_discrete (step_s n u o) o) [
        | yes e ↦ pick_true (eqb (step_s n u o) o) y₀ (step_s v t y₀) (eq-eqb (step_s n u o) o e) ∙ sym (same e)
        | no e ↦ pick_false (eqb (step_s n u o) o) y₀ (step_s v t y₀) (ne_eqb (step_s n u o) o e)
      ]

      lone_S : (x : ℕ) → OneOf x → takes (step_s n u x) ≡ step_s v t (takes x)
      lone_S x (inl e) = ap (λ (z : ℕ). takes (step_s n u z)) e ∙ takes_there ∙ ap (step_s v t) (sym (ap takes e ∙ takes_here))
      lone_S x (inr e) =
          ap (λ (z : ℕ). takes (step_s n u z)) e ∙ ap takes (small.involution o) ∙ takes_here ∙ sym (big.involution y₀)
          ∙ ap (step_s v t) (sym (ap takes e ∙ takes_there))

      module _ (a : corners v ≤ y₀) (b : corners v ≤ step_s v t y₀) where
        takes_out : (x : ℕ) → OneOf x → corners v ≤ takes x
        takes_out x (inl e) = rw (ap takes e ∙ takes_here) a
        takes_out x (inr e) = rw (ap takes e ∙ takes_there) b

        lone_tracked : Tracked v t n u
        lone_tracked = record {
          to = takes;
          tracks = record {
            origin = takes_here;
            by_S = λ x r. lone_S x (one_of x r);
            by_Q = λ x r. ap takes (turn_face n x (out x)) ∙ sym (turn_face v (takes x) (takes_out x (one_of x r)));
          };
        }

    -- whatever tracks takes both to outer faces
    tracked_out : (s : Tracked v t n u) (x : ℕ) → Real n u x → corners v ≤ s.to x
    tracked_out s x r = elim (dec_lt (s.to x) (corners v)) [
      | yes h ↦ absurd (turn_moves v (s.to x) h (sym (s.tracks.by_Q x r) ∙ ap s.to (turn_face n x (out x))))
      | no h ↦ omega arith
    ]

    origin_out : Tracked v t n u → corners v ≤ y₀
    origin_out s = rw s.tracks.origin at (tracked_out s o small.walks.origin)

    step_taken : (s : Tracked v t n u) → s.to (step_s n u o) ≡ step_s v t y₀
    step_taken s = s.tracks.by_S o small.walks.origin ∙ ap (step_s v t) s.tracks.origin

    step_out : Tracked v t n u → corners v ≤ step_s v t y₀
    step_out s = rw (step_taken s) at (tracked_out s (step_s n u o) (small.closed S o small.walks.origin))

    step_same : Tracked v t n u → step_s n u o ≡ o → step_s v t y₀ ≡ y₀
    step_same s e = sym (step_taken s) ∙ ap s.to e ∙ s.tracks.origin

    -- the answer, arm by arm
    pub lone_low : y₀ < corners v → false ≡ contained n u v t
    lone_low h = decides false (λ e. clash e refl) (λ e s. omega (arith, origin_out s))

    pub lone_step_low : step_s v t y₀ < corners v → false ≡ contained n u v t
    lone_step_low h = decides false (λ e. clash e refl) (λ e s. omega (arith, step_out s))

    module _ (a : corners v ≤ y₀) (b : corners v ≤ step_s v t y₀) where
      pub lone_one : step_s n u o ≡ o → eqb (step_s v t y₀) y₀ ≡ contained n u v t
      lone_one e = decides (eqb (step_s v t y₀) y₀) (λ q. lone_tracked (λ z. eqb-true (step_s v t y₀) y₀ q) a b)
          (λ q s. clash (eq-eqb (step_s v t y₀) y₀ (step_same s e)) q)

      pub lone_two : (step_s n u o ≡ o → ⊥) → true ≡ contained n u v t
      lone_two e = decides true (λ q. lone_tracked (λ z. absurd (e z)) a b) (λ q. clash refl q)

    -- the same by what was read
    module _ (y x z q : ℕ) (ey : y ≡ y₀) (ex : x ≡ o) (ez : z ≡ step_s v t y) (eq : q ≡ step_s n u x) where
      z_is : z ≡ step_s v t y₀
      z_is = ez ∙ ap (step_s v t) ey

      q_is : q ≡ step_s n u o
      q_is = eq ∙ ap (step_s n u) ex

      pub told_low : y < corners v → false ≡ contained n u v t
      told_low h = lone_low (rw ey at h)

      pub told_step_low : z < corners v → false ≡ contained n u v t
      told_step_low h = lone_step_low (rw z_is at h)

      module _ (a : corners v ≤ y) (b : corners v ≤ z) where
        pub told_one : q ≡ x → eqb z y ≡ contained n u v t
        told_one e = ap (λ (i : ℕ). eqb i y) z_is ∙ ap (eqb (step_s v t y₀)) ey ∙ lone_one (rw ey at a) (rw z_is at b) (sym q_is ∙ e ∙ ex)

        pub told_two : (q ≡ x → ⊥) → true ≡ contained n u v t
        told_two e = lone_two (rw ey at a) (rw z_is at b) (λ h. e (q_is ∙ h ∙ sym ex))
