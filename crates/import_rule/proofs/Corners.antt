-- The corners of the triangles that were cut off, one for each side that was split.
--
--   Tops C        each side that was split brought three new points below n: its own, which κ moves, was no earlier corner's
--
-- In order: corners, turned and compared (`corner_spin`, `corner_free`, `corner_one`); at most n/3 triangles (`triangles`).
-- Assumes nothing.
use mathlib.Core.Path.{◌≡◌, refl, sym, ◌∙◌, ap}
use mathlib.Core.Logic.{inl, inr}
use mathlib.Core.List.{List, [], ◌∷◌}
use Prim.Native.Nat.{ℕ, ◌*◌, ◌<◌, ◌≤◌}
use native.Mathlib.Omega.{arith}
use lib.ListN.{length}
use Rattle.matrix.specs.Matrix.{Mat, ◌⊗◌, mat_q, mat_p, ◌≈◌}
use Rattle.matrix.proofs.Matrix.{⊗-assoc, ⊗-idr, Q_Q, P_Q, ≈-sym, ◌∙≈◌, ≈-right}
use Rattle.import_rule.specs.Inner.Placed.{Placed}
use Rattle.import_rule.proofs.Member.{In, Apart, at_most}
use Rattle.import_rule.proofs.Lead.{Turning}
use Rattle.import_rule.proofs.Split.{framed, Turn, t0, t1, t2, turn_m, turn_x, Corner}

module _ (σ κ : ℕ → ℕ) (n : ℕ) where
  -- each triangle brings three new points below n
  abbrev pub Tops : List Placed → Type 0
  Tops [] = Unit {0}
  Tops (t ∷ C) = ¬ (κ t.pt ≡ t.pt) × (t.pt < n) × ((m : Mat) → Corner σ κ C m t.pt → ⊥) × Tops C

  module _ (T : Turning σ κ n) where
    -- ---- corners
    spin_m : (c : Turn) (m : Mat) → Turn
    spin_m t0 m = t1
    spin_m t1 m = t2
    spin_m t2 m = t0

    pub corner_spin : {C : List Placed} {m : Mat} {x : ℕ} → Corner σ κ C m x → Corner σ κ C (m ⊗ mat_q) (κ x)
    corner_spin {C} {m} {x} k = go k.turn k.frame k.pt
      where
        f : Mat
        f = framed k.tri

        go : (c : Turn) → m ≈ turn_m c (framed k.tri) → x ≡ turn_x σ κ c k.tri.pt → Corner σ κ C (m ⊗ mat_q) (κ x)
        go t0 e p = record { tri = k.tri; among = k.among; turn = t1; frame = ≈-right mat_q e; pt = ap κ p }
        go t1 e p = record {
          tri = k.tri;
          among = k.among;
          turn = t2;
          frame =
              ≈-right mat_q e ∙≈ inl (⊗-assoc (framed k.tri) mat_q mat_q ∙ ap (λ (y : Mat). framed k.tri ⊗ y) Q_Q);
          pt = ap κ p;
        }
        go t2 e p = record {
          tri = k.tri;
          among = k.among;
          turn = t0;
          frame =
              ≈-right mat_q e ∙≈ inl (⊗-assoc (framed k.tri) mat_p mat_q ∙ ap (λ (y : Mat). framed k.tri ⊗ y) P_Q ∙ ⊗-idr (framed k.tri));
          pt = ap κ p
              ∙ T.thrice k.tri.pt;
        }

    pub corner_pt : {C : List Placed} {m : Mat} {x y : ℕ} → x ≡ y → Corner σ κ C m x → Corner σ κ C m y
    corner_pt e k = record { tri = k.tri; among = k.among; turn = k.turn; frame = k.frame; pt = sym e ∙ k.pt }

    pub corner-≈ : {C : List Placed} {m l : Mat} {x : ℕ} → l ≈ m → Corner σ κ C m x → Corner σ κ C l x
    corner-≈ e k = record { tri = k.tri; among = k.among; turn = k.turn; frame = e ∙≈ k.frame; pt = k.pt }

    pub corner_more : {C : List Placed} {m : Mat} {x : ℕ} (t : Placed) → Corner σ κ C m x → Corner σ κ (t ∷ C) m x
    corner_more t k = record { tri = k.tri; among = inr k.among; turn = k.turn; frame = k.frame; pt = k.pt }

    pub corner_new : (C : List Placed) (t : Placed) (c : Turn) → Corner σ κ (t ∷ C) (turn_m c (framed t)) (turn_x σ κ c t.pt)
    corner_new C t c = record { tri = t; among = inl refl; turn = c; frame = inl refl; pt = refl }

    -- where a turned point is a corner's, so is the point
    pub none_turned : (C : List Placed) (y : ℕ) → ((m : Mat) → Corner σ κ C m y → ⊥) → (c : Turn) (m : Mat) → Corner σ κ C m (turn_x σ κ c y) → ⊥
    none_turned C y n t0 m k = n m k
    none_turned C y n t1 m k = n _ (corner_pt (T.thrice y) (corner_spin (corner_spin k)))
    none_turned C y n t2 m k = n _ (corner_pt (T.thrice y) (corner_spin k))

    -- in a triangle whose point is not fixed the three points differ
    pub turn_one : (y : ℕ) → ¬ (κ y ≡ y) → (c d : Turn) → turn_x σ κ c y ≡ turn_x σ κ d y → c ≡ d
    turn_one y n t0 t0 e = refl
    turn_one y n t0 t1 e = absurd (n (sym e))
    turn_one y n t0 t2 e = absurd (n (ap κ e ∙ T.thrice y))
    turn_one y n t1 t0 e = absurd (n e)
    turn_one y n t1 t1 e = refl
    turn_one y n t1 t2 e = absurd (n (sym (ap κ (T.thrice y)) ∙ sym (ap κ (ap κ e)) ∙ T.thrice y))
    turn_one y n t2 t0 e = absurd (n (ap κ (sym e) ∙ T.thrice y))
    turn_one y n t2 t1 e = absurd (n (sym (ap κ (T.thrice y)) ∙ ap κ (ap κ e) ∙ T.thrice y))
    turn_one y n t2 t2 e = refl

    turned_free : (y : ℕ) → ¬ (κ y ≡ y) → (c : Turn) → ¬ (κ (turn_x σ κ c y) ≡ turn_x σ κ c y)
    turned_free y n t0 e = n e
    turned_free y n t1 e = n (sym (T.thrice (κ y)) ∙ ap κ (ap κ e) ∙ T.thrice y)
    turned_free y n t2 e = n (ap κ (sym (T.thrice y) ∙ e) ∙ T.thrice y)

    top_free : (C : List Placed) (t : Placed) → Tops C → In t C → ¬ (κ t.pt ≡ t.pt)
    top_free [] t a h = absurd h
    top_free (s ∷ C) t a (inl h) = rw h a.0
    top_free (s ∷ C) t a (inr h) = top_free C t a.3 h

    pub corner_free : {C : List Placed} {m : Mat} {x : ℕ} → Tops C → Corner σ κ C m x → ¬ (κ x ≡ x)
    corner_free {C} a k e = turned_free k.tri.pt (top_free C k.tri a k.among) k.turn (rw k.pt at e)

    corner_of : (C : List Placed) (t : Placed) (c : Turn) → In t C → Corner σ κ C (turn_m c (framed t)) (turn_x σ κ c t.pt)
    corner_of C t c h = record { tri = t; among = h; turn = c; frame = inl refl; pt = refl }

    -- two corners of one point are one
    one_in : (C : List Placed) → Tops C → (t u : Placed) → In t C → In u C → (c d : Turn) → turn_x σ κ c t.pt ≡ turn_x σ κ d u.pt
        → turn_m c (framed t) ≡ turn_m d (framed u)
    one_in [] a t u h k c d e = absurd h
    one_in (s ∷ C) a t u (inl h) (inl k) c d e =
        let z : turn_x σ κ c s.pt ≡ turn_x σ κ d s.pt = rw (h, k) at e in
        rw (h, k, turn_one s.pt a.0 c d z) refl
    one_in (s ∷ C) a t u (inl h) (inr k) c d e =
        absurd (none_turned C s.pt a.2 c _ (corner_pt (sym e ∙ ap (λ (v : Placed). turn_x σ κ c v.pt) h) (corner_of C u d k)))
    one_in (s ∷ C) a t u (inr h) (inl k) c d e =
        absurd (none_turned C s.pt a.2 d _ (corner_pt (e ∙ ap (λ (v : Placed). turn_x σ κ d v.pt) k) (corner_of C t c h)))
    one_in (s ∷ C) a t u (inr h) (inr k) c d e = one_in C a.3 t u h k c d e

    pub corner_one : {C : List Placed} {m l : Mat} {x : ℕ} → Tops C → Corner σ κ C m x → Corner σ κ C l x → m ≈ l
    corner_one {C} a k j = k.frame ∙≈ inl (one_in C a k.tri j.tri k.among j.among k.turn j.turn (sym k.pt ∙ j.pt)) ∙≈ ≈-sym j.frame

    -- ---- at most n / 3 triangles
    abbrev pub spread : List Placed → List ℕ
    spread [] = []
    spread (t ∷ C) = t.pt ∷ κ t.pt ∷ κ (κ t.pt) ∷ spread C

    pub spread_corner : (C : List Placed) (x : ℕ) → In x (spread C) → (m : Mat) × Corner σ κ C m x
    spread_corner [] x h = absurd h
    spread_corner (t ∷ C) x (inl e) = (framed t, corner_pt (sym e) (corner_new C t t0))
    spread_corner (t ∷ C) x (inr (inl e)) = (framed t ⊗ mat_q, corner_pt (sym e) (corner_new C t t1))
    spread_corner (t ∷ C) x (inr (inr (inl e))) = (framed t ⊗ mat_p, corner_pt (sym e) (corner_new C t t2))
    spread_corner (t ∷ C) x (inr (inr (inr h))) = let k = spread_corner C x h in (k.0, corner_more t k.1)

    pub spread_low : (C : List Placed) → Tops C → (x : ℕ) → In x (spread C) → x < n
    spread_low [] a x h = absurd h
    spread_low (t ∷ C) a x (inl e) = rw e a.1
    spread_low (t ∷ C) a x (inr (inl e)) = rw e (T.κ_low _ a.1)
    spread_low (t ∷ C) a x (inr (inr (inl e))) = rw e (T.κ_low _ (T.κ_low _ a.1))
    spread_low (t ∷ C) a x (inr (inr (inr h))) = spread_low C a.3 x h

    pub spread_apart : (C : List Placed) → Tops C → Apart (spread C)
    spread_apart [] a = tt
    spread_apart (t ∷ C) a = (out0, (out1, (out2, spread_apart C a.3)))
      where
        y : ℕ
        y = t.pt

        away : (c : Turn) → In (turn_x σ κ c t.pt) (spread C) → ⊥
        away c h = let k = spread_corner C _ h in none_turned C t.pt a.2 c k.0 k.1

        out2 : In (κ (κ t.pt)) (spread C) → ⊥
        out2 h = away t2 h

        out1 : In (κ t.pt) (κ (κ t.pt) ∷ spread C) → ⊥
        out1 (inl e) = let z : ◌≡◌ {A = Turn} t1 t2 = turn_one t.pt a.0 t1 t2 e in let q : ◌≡◌ {A = ℕ} 0 1 = cc in omega arith
        out1 (inr h) = away t1 h

        out0 : In t.pt (κ t.pt ∷ κ (κ t.pt) ∷ spread C) → ⊥
        out0 (inl e) = a.0 (sym e)
        out0 (inr (inl e)) = a.0 (ap κ e ∙ T.thrice t.pt)
        out0 (inr (inr h)) = away t0 h

    pub spread_length : (C : List Placed) → length (spread C) ≡ 3 * length C
    spread_length [] = omega arith
    spread_length (t ∷ C) = let k = spread_length C in omega arith

    pub in_spread : (C : List Placed) (t : Placed) (c : Turn) → In t C → In (turn_x σ κ c t.pt) (spread C)
    in_spread [] t c h = h
    in_spread (s ∷ C) t t0 (inl e) = inl (ap (λ (v : Placed). v.pt) e)
    in_spread (s ∷ C) t t1 (inl e) = inr (inl (ap (λ (v : Placed). κ v.pt) e))
    in_spread (s ∷ C) t t2 (inl e) = inr (inr (inl (ap (λ (v : Placed). κ (κ v.pt)) e)))
    in_spread (s ∷ C) t c (inr h) = inr (inr (inr (in_spread C t c h)))

    -- THREE NEW POINTS A TRIANGLE
    pub triangles : (C : List Placed) → Tops C → 3 * length C ≤ n
    triangles C a = let k = at_most n (spread C) (spread_apart C a) (spread_low C a) in let z = spread_length C in omega arith
