-- The split of a side in a list of placed sides, and the triangles that the splits cut off.
--
--   framed u            the frame of a placed side
--   Closed B m          what `is_closed` tests
--   AllClosed B l       all sides of l are closed
--   Corner C m x        one of the three corners beyond a side that was split: its frame m, up to sign, and its point x
--   Edge l m x          a side of that frame and point
--
-- In order: the test; the frames of the two parts; the sides about the split one (`split_keep`, `split_from`, `split_apart`);
-- corners.
-- Assumes nothing.
use mathlib.Core.Path.{◌≡◌, refl, sym, ◌∙◌, ap}
use mathlib.Core.Logic.{◌⊎◌, inl, inr}
use mathlib.Core.Bool.{Bool, true, false, ◌||◌}
use mathlib.Core.List.{List, [], ◌∷◌, ◌++◌}
use Prim.Native.Nat.{ℕ, zero, suc, ◌+◌, ◌<◌, ◌≤◌}
use native.Mathlib.Omega.{arith}
use native.Mathlib.Decide.{ℕ_discrete}
use lib.Dec.{eqb, ltb}
use lib.ListN.{length}
use lib.IntN.{ℤ, pos, negsuc, ◌+ℤ◌}
use borrow.Author.Tests.{eq-eqb, ne_eqb, eqb-true, lt-ltb, le-ltb, ltb-true, ltb-false}
use Rattle.matrix.specs.Matrix.{Mat, mat, ◌⊗◌, 𝟙, neg, adj, det, mat_s, mat_q, mat_p, ◌≈◌}
use Rattle.basics.specs.Choice.{pick}
use Rattle.matrix.proofs.Ring.{Exp, con, var, ◌⊕◌, ◌⊙◌, ⊖◌, val, ring, MExp, lit, const, ◌⊛◌, ∼◌, val_m, ring_m, detᵉ, det_val}
use Rattle.numbering.specs.Find.{find, is_in}
use Rattle.import_rule.specs.Side.{Vertex, Interval, interval, interval_frame, mediant, fits}
use Rattle.import_rule.specs.Inner.Placed.{Placed, bare, pts, lower_at, upper_at, is_closed}
use Rattle.import_rule.proofs.Member.{In, in_left, in_right, in_either, Apart, in_is}

abbrev pub framed : Placed → Mat
framed u = interval_frame (bare u)

-- ---- the test

is_in_cons : (y : ℕ) (l : List ℕ) (x : ℕ) → ¬ (y ≡ x) → is_in (y ∷ l) x ≡ is_in l x
unfolding find
is_in_cons y l x h = rw (ne_eqb y x h) (go (ltb (find l x) (length l)) refl)
  where
    go : (b : Bool) → ltb (find l x) (length l) ≡ b → ltb (suc (find l x)) (suc (length l)) ≡ ltb (find l x) (length l)
    go true e = let k = ltb-true (find l x) (length l) e in lt-ltb (suc (find l x)) (suc (length l)) (omega arith) ∙ sym e
    go false e = let k = ltb-false (find l x) (length l) e in le-ltb (suc (find l x)) (suc (length l)) (omega arith) ∙ sym e

is_in_here : (y : ℕ) (l : List ℕ) (x : ℕ) → y ≡ x → is_in (y ∷ l) x ≡ true
unfolding find
is_in_here y l x h = rw (eq-eqb y x h) (lt-ltb 0 (suc (length l)) (omega arith))

pub in_is_in : (l : List ℕ) (x : ℕ) → In x l → is_in l x ≡ true
in_is_in [] x h = absurd h
in_is_in (y ∷ l) x h = elim (ℕ_discrete y x) [
  | yes e ↦ is_in_here y l x e
  | no e ↦ is_in_cons y l x e ∙ elim h [ inl k ↦ absurd (e (sym k)) | inr k ↦ in_is_in l x k ]
]

pub is_in_in : (l : List ℕ) (x : ℕ) → is_in l x ≡ true → In x l
unfolding find
is_in_in [] x e = let k = ltb-true 0 0 e in absurd (omega arith)
is_in_in (y ∷ l) x e = elim (ℕ_discrete y x) [
  | yes d ↦ inl (sym d)
  | no d ↦ inr (is_in_in l x (sym (is_in_cons y l x d) ∙ e))
]

module _ (σ κ : ℕ → ℕ) (B : List ℕ) (m : ℕ) where
  abbrev pub Closed : Type 0
  Closed = (κ m ≡ m) ⊎ In (σ m) B

  or_true : (a b : Bool) → (a || b) ≡ true → (a ≡ true) ⊎ (b ≡ true)
  or_true true b e = inl refl
  or_true false b e = inr e

  or_right : (a b : Bool) → b ≡ true → (a || b) ≡ true
  or_right true b e = refl
  or_right false b e = e

  pub closed_true : is_closed σ κ B m ≡ true → Closed
  closed_true e = elim (or_true (eqb (κ m) m) (is_in B (σ m)) e) [ inl a ↦ inl (eqb-true (κ m) m a) | inr a ↦ inr (is_in_in B (σ m) a) ]

  pub true_closed : Closed → is_closed σ κ B m ≡ true
  true_closed (inl o) = ap (λ (b : Bool). b || is_in B (σ m)) (eq-eqb (κ m) m o)
  true_closed (inr h) = or_right (eqb (κ m) m) (is_in B (σ m)) (in_is_in B (σ m) h)

  pub closed_false : is_closed σ κ B m ≡ false → ¬ Closed
  closed_false e c = let d = true_closed c in let z : ◌≡◌ {A = ℕ} 0 1 = cc in omega arith

  pub false_closed : ¬ Closed → is_closed σ κ B m ≡ false
  false_closed n = go (is_closed σ κ B m) refl
    where
      go : (b : Bool) → is_closed σ κ B m ≡ b → b ≡ false
      go true e = absurd (n (closed_true e))
      go false e = refl

module _ (σ κ : ℕ → ℕ) where
  abbrev pub AllClosed : List ℕ → List Placed → Type 0
  AllClosed B l = (u : Placed) → In u l → Closed σ κ B u.pt

-- ---- the frames of the two parts

-- the entries of a side's ends
abbrev ends : Placed → List ℤ
ends s = s.lo.num ∷ pos s.lo.den ∷ s.hi.num ∷ pos s.hi.den ∷ []

pub lower_S : (s : Placed) (σ κ : ℕ → ℕ) → framed (lower_at σ κ s) ⊗ mat_s ≡ framed s ⊗ mat_q
unfolding mat_s mat_q
lower_S s σ κ = ring_m (ends s) (lit (var 0 ⊕ var 2) (var 0) (var 1 ⊕ var 3) (var 1) ⊛ const mat_s) (lit (var 2) (var 0) (var 3) (var 1) ⊛ const mat_q) tt

pub upper_S : (s : Placed) (σ κ : ℕ → ℕ) → framed (upper_at σ κ s) ⊗ mat_s ≡ neg (framed s ⊗ mat_p)
unfolding adj mat_s mat_q mat_p
upper_S s σ κ = ring_m (ends s) (lit (var 2) (var 0 ⊕ var 2) (var 3) (var 1 ⊕ var 3) ⊛ const mat_s) (∼ (lit (var 2) (var 0) (var 3) (var 1) ⊛ const mat_p)) tt

pub lower_det : (s : Placed) (σ κ : ℕ → ℕ) → det (framed (lower_at σ κ s)) ≡ det (framed s)
unfolding det
lower_det s σ κ = ring (ends s) (detᵉ (lit (var 0 ⊕ var 2) (var 0) (var 1 ⊕ var 3) (var 1))) (detᵉ (lit (var 2) (var 0) (var 3) (var 1))) tt

pub upper_det : (s : Placed) (σ κ : ℕ → ℕ) → det (framed (upper_at σ κ s)) ≡ det (framed s)
unfolding det
upper_det s σ κ = ring (ends s) (detᵉ (lit (var 2) (var 0 ⊕ var 2) (var 3) (var 1 ⊕ var 3))) (detᵉ (lit (var 2) (var 0) (var 3) (var 1))) tt

-- ---- the sides about the split one

pub in_pts : (u : Placed) (ss : List Placed) → In u ss → In u.pt (pts ss)
in_pts u (s ∷ ss) (inl e) = inl (ap (λ (x : Placed). x.pt) e)
in_pts u (s ∷ ss) (inr h) = inr (in_pts u ss h)
in_pts u [] h = h

-- the side of a point
pub record Pt (ss : List Placed) (x : ℕ) : Type 0 where
  pub side : Placed
  pub among : In side ss
  pub pt : x ≡ side.pt

pub pt_of : (x : ℕ) (ss : List Placed) → In x (pts ss) → Pt ss x
pt_of x (s ∷ ss) (inl e) = record { side = s; among = inl refl; pt = e }
pt_of x (s ∷ ss) (inr h) = let k = pt_of x ss h in record { side = k.side; among = inr k.among; pt = k.pt }
pt_of x [] h = absurd h

pub of_pt : (x : ℕ) (ss : List Placed) → Pt ss x → In x (pts ss)
of_pt x ss k = rw k.pt (in_pts k.side ss k.among)

-- two sides of one point are one
pub same_side : (u v : Placed) (ss : List Placed) → Apart (pts ss) → In u ss → In v ss → u.pt ≡ v.pt → u ≡ v
same_side u v [] a h k e = absurd h
same_side u v (s ∷ ss) a (inl h) (inl k) e = h ∙ sym k
same_side u v (s ∷ ss) a (inl h) (inr k) e = absurd (a.0 (rw (← h, e) (in_pts v ss k)))
same_side u v (s ∷ ss) a (inr h) (inl k) e = absurd (a.0 (rw (← k, ← e) (in_pts u ss h)))
same_side u v (s ∷ ss) a (inr h) (inr k) e = same_side u v ss a.1 h k e

module _ (s l r : Placed) (after : List Placed) where
  pub split_keep : (u : Placed) (before : List Placed) → In u (before ++ (s ∷ after)) → ¬ (u ≡ s) → In u (before ++ (l ∷ r ∷ after))
  split_keep u [] (inl e) n = absurd (n e)
  split_keep u [] (inr h) n = inr (inr h)
  split_keep u (b ∷ bs) (inl e) n = inl e
  split_keep u (b ∷ bs) (inr h) n = inr (split_keep u bs h n)

  -- before or after
  abbrev pub Beside : Placed → List Placed → Type 0
  Beside u before = In u before ⊎ In u after

  pub split_from : (u : Placed) (before : List Placed) → In u (before ++ (l ∷ r ∷ after)) → (u ≡ l) ⊎ (u ≡ r) ⊎ Beside u before
  split_from u [] (inl e) = inl e
  split_from u [] (inr (inl e)) = inr (inl e)
  split_from u [] (inr (inr h)) = inr (inr (inr h))
  split_from u (b ∷ bs) (inl e) = inr (inr (inl (inl e)))
  split_from u (b ∷ bs) (inr h) = go (split_from u bs h)
    where
      go : (u ≡ l) ⊎ (u ≡ r) ⊎ Beside u bs → (u ≡ l) ⊎ (u ≡ r) ⊎ Beside u (b ∷ bs)
      go (inl e) = inl e
      go (inr (inl e)) = inr (inl e)
      go (inr (inr (inl h))) = inr (inr (inl (inr h)))
      go (inr (inr (inr h))) = inr (inr (inr h))

  pub beside_in : (u : Placed) (before : List Placed) → Beside u before → In u (before ++ (s ∷ after))
  beside_in u before (inl h) = in_left u before (s ∷ after) h
  beside_in u before (inr h) = in_right u before (s ∷ after) (inr h)

  pub beside_other : (u : Placed) (before : List Placed) → Apart (pts (before ++ (s ∷ after))) → Beside u before → ¬ (u.pt ≡ s.pt)
  beside_other u [] a (inl h) e = h
  beside_other u [] a (inr h) e = a.0 (rw (← e) (in_pts u after h))
  beside_other u (b ∷ bs) a (inl (inl h)) e = a.0 (rw (← h, e) (in_pts s (bs ++ (s ∷ after)) (in_right s bs (s ∷ after) (inl refl))))
  beside_other u (b ∷ bs) a (inl (inr h)) e = beside_other u bs a.1 (inl h) e
  beside_other u (b ∷ bs) a (inr h) e = beside_other u bs a.1 (inr h) e

  pub split_apart : (before : List Placed) → Apart (pts (before ++ (s ∷ after))) → ¬ (In l.pt (pts (before ++ (s ∷ after))))
      → ¬ (In r.pt (pts (before ++ (s ∷ after)))) → ¬ (l.pt ≡ r.pt) → Apart (pts (before ++ (l ∷ r ∷ after)))
  split_apart [] a nl nr n = (out, ((λ h. nr (inr h)), a.1))
    where
      out : In l.pt (r.pt ∷ pts after) → ⊥
      out (inl e) = n e
      out (inr h) = nl (inr h)
  split_apart (b ∷ bs) a nl nr n = (front, split_apart bs a.1 (λ h. nl (inr h)) (λ h. nr (inr h)) n)
    where
      back : In b.pt (pts (bs ++ (l ∷ r ∷ after))) → ⊥
      back h =
          let k = pt_of b.pt (bs ++ (l ∷ r ∷ after)) h in
          go k.side k.pt (split_from k.side bs k.among)
        where
          go : (u : Placed) → b.pt ≡ u.pt → (u ≡ l) ⊎ (u ≡ r) ⊎ Beside u bs → ⊥
          go u p (inl e) = nl (inl (ap (λ (x : Placed). x.pt) (sym e) ∙ sym p))
          go u p (inr (inl e)) = nr (inl (ap (λ (x : Placed). x.pt) (sym e) ∙ sym p))
          go u p (inr (inr h)) = a.0 (rw p (in_pts u (bs ++ (s ∷ after)) (beside_in u bs h)))

      front : ¬ (In b.pt (pts (bs ++ (l ∷ r ∷ after))))
      front h = back h

-- ---- corners: a triangle is the side beyond which it was cut off, and its corners are turned from that

pub data Turn : Type 0 where
  t0 t1 t2 : Turn

abbrev pub turn_m : Turn → Mat → Mat
turn_m t0 m = m
turn_m t1 m = m ⊗ mat_q
turn_m t2 m = m ⊗ mat_p

module _ (σ κ : ℕ → ℕ) where
  abbrev pub turn_x : Turn → ℕ → ℕ
  turn_x t0 x = x
  turn_x t1 x = κ x
  turn_x t2 x = κ (κ x)

  -- a corner of frame m, up to sign, and point x
  pub record Corner (C : List Placed) (m : Mat) (x : ℕ) : Type 0 where
    pub tri : Placed
    pub among : In tri C
    pub turn : Turn
    pub frame : m ≈ turn_m turn (framed tri)
    pub pt : x ≡ turn_x turn tri.pt

-- a side of that frame and point
pub record Edge (ss : List Placed) (m : Mat) (x : ℕ) : Type 0 where
  pub side : Placed
  pub among : In side ss
  pub frame : m ≈ framed side
  pub pt : x ≡ side.pt
