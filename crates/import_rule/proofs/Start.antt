-- The two starts, each with one side split already: 0/1, 1/1 and -1/1, 0/1.
--
--   Kept C l          the shape that every split keeps, and one side more for each
--   left0, right0     the sides from -1/0 to 0/1 and from 0/1 to 1/0
--   start1, start2    0/1, 1/1, where the side from 0/1 to 1/0 was split; -1/1, 0/1, where the side from -1/0 to 0/1 was split
--   Start s o l       l are the two parts of s and the side o beyond it
--
-- In order: a split keeps the shape (`keep`); a start has what every split keeps (`begin`); both starts (`inv_1`, `inv_2`).
-- Assumes nothing.
use mathlib.Core.Path.{◌≡◌, refl, sym, ◌∙◌, ap}
use mathlib.Core.Logic.{◌⊎◌, inl, inr}
use mathlib.Core.Bool.{Bool, true, false}
use mathlib.Core.List.{List, [], ◌∷◌, ◌++◌}
use Prim.Native.Nat.{ℕ, zero, suc, ◌+◌, ◌*◌, ◌-◌, ◌<◌, ◌≤◌}
use native.Mathlib.Omega.{arith}
use native.Mathlib.Decide.{ℕ_discrete}
use lib.Dec.{leb, lit≤}
use lib.ListN.{length}
use lib.IntN.{ℤ, pos, negsuc, nat_abs}
use borrow.Author.Tests.{leb-true}
use Rattle.matrix.specs.Matrix.{Mat, mat, ◌⊗◌, 𝟙, neg, adj, det, mat_s, mat_q, mat_p, ◌≈◌}
use Rattle.matrix.specs.Words as word
use Rattle.matrix.proofs.Ring.{con, var, ring, lit, detᵉ}
use Rattle.matrix.proofs.Matrix.{⊗-idl, det_𝟙, det_letter, S_S, ≈-sym, ◌∙≈◌, ≈-right}
use Rattle.basics.proofs.Choice.{and_left, and_right}
use Rattle.import_rule.specs.Side.{Vertex, vertex, minus_infinity, infinity, mediant, limit, fits}
use Rattle.import_rule.specs.Inner.Placed.{Placed, pts, lower_at, upper_at}
use Rattle.import_rule.proofs.Member.{In, in_right, Apart}
use Rattle.import_rule.proofs.Lead.{S_twice, Turning, Leads, leads-≈, leads_𝟙, leads_step}
use Rattle.import_rule.proofs.Split.{framed, lower_S, upper_S, lower_det, upper_det, Pt, of_pt, split_from, beside_in, Beside, Turn, t0, t1}
use Rattle.import_rule.proofs.Split.{t2, turn_m, turn_x, Corner, Edge}
use Rattle.import_rule.proofs.Corners.{turn_one}
use Rattle.import_rule.proofs.Kept.{Inv}
use Rattle.import_rule.proofs.Table.{Chained, inner}
use Rattle.import_rule.proofs.Generators.{Shape}

abbrev pub zero_one : Vertex
zero_one = vertex (pos 0) 1

-- ---- the shape stays

zero_det : (a b : ℤ) → det (mat a b (pos 0) (pos 0)) ≡ pos 0
unfolding det
zero_det a b = ring (a ∷ b ∷ []) (detᵉ (lit (var 0) (var 1) (con (pos 0)) (con (pos 0)))) (con (pos 0)) tt

-- a side doesn't have two ends at infinity
wide : (s : Placed) → det (framed s) ≡ pos 1 → 0 < s.lo.den + s.hi.den
wide s d = go (ℕ_discrete (s.lo.den + s.hi.den) 0)
  where
    go : Dec (s.lo.den + s.hi.den ≡ 0) → 0 < s.lo.den + s.hi.den
    go (no h) = omega arith
    go (yes h) =
        let p : 0 ≡ s.lo.den = omega arith in
        let q : 0 ≡ s.hi.den = omega arith in
        let r : pos 0 ≡ pos 1 = sym (zero_det s.hi.num s.lo.num) ∙ ap det (λ i. mat s.hi.num s.lo.num (pos (q i)) (pos (p i))) ∙ d in
        let z = ap nat_abs r in absurd (omega arith)

module _ (σ κ : ℕ → ℕ) (s : Placed) (after : List Placed) where
  chained_split : (x : Vertex) (before : List Placed) → 0 < s.lo.den + s.hi.den → Chained x (before ++ (s ∷ after))
      → Chained x (before ++ (lower_at σ κ s ∷ upper_at σ κ s ∷ after))
  chained_split x [] w c = go after c
    where
      go : (after : List Placed) → Chained x (s ∷ after) → Chained x (lower_at σ κ s ∷ upper_at σ κ s ∷ after)
      go [] c = (c.0, w, (refl, c.1))
      go (t ∷ ts) c = (c.0, w, (refl, c.1, c.2))
  chained_split x (b ∷ []) w c = (c.0, c.1, chained_split b.hi [] w c.2)
  chained_split x (b ∷ b' ∷ bs) w c = (c.0, c.1, chained_split b.hi (b' ∷ bs) w c.2)

  has_split : (x : Vertex) (before : List Placed) → In x (inner (before ++ (s ∷ after))) → In x (inner (before ++ (lower_at σ κ s ∷ upper_at σ κ s ∷ after)))
  has_split x [] h = go after h
    where
      go : (l : List Placed) → In x (inner (s ∷ l)) → In x (inner (lower_at σ κ s ∷ upper_at σ κ s ∷ l))
      go [] h = inr h
      go (t ∷ ts) h = inr h
  has_split x (b ∷ []) (inl e) = inl e
  has_split x (b ∷ []) (inr h) = inr (has_split x [] h)
  has_split x (b ∷ b' ∷ bs) (inl e) = inl e
  has_split x (b ∷ b' ∷ bs) (inr h) = inr (has_split x (b' ∷ bs) h)

  length_split : (before : List Placed) → length (before ++ (lower_at σ κ s ∷ upper_at σ κ s ∷ after)) ≡ suc (length (before ++ (s ∷ after)))
  length_split [] = refl
  length_split (b ∷ bs) = ap suc (length_split bs)

pub record Kept (C l : List Placed) : Type 0 where
  pub shape : Shape l
  pub count : length l ≡ length C + 2

fits_tells : (x : Vertex) → fits x ≡ true → (nat_abs x.num ≤ limit) × (x.den ≤ limit)
fits_tells x e = (leb-true (nat_abs x.num) limit (and_left _ _ e), leb-true x.den limit (and_right (leb (nat_abs x.num) limit) _ e))

pub keep : (σ κ : ℕ → ℕ) (C before : List Placed) (s : Placed) (after : List Placed) → det (framed s) ≡ pos 1 → fits (mediant s.lo s.hi) ≡ true
    → Kept C (before ++ (s ∷ after)) → Kept (s ∷ C) (before ++ (lower_at σ κ s ∷ upper_at σ κ s ∷ after))
keep σ κ C before s after d f k =
    let e = length_split σ κ s after before in
    let m = k.shape.many in
    let c = k.count in
    record {
      shape = record {
        chained = chained_split σ κ s after minus_infinity before (wide s d) k.shape.chained;
        zero_in = has_split σ κ s after zero_one before k.shape.zero_in;
        many = omega arith;
        small = λ u h. small u (split_from s (lower_at σ κ s) (upper_at σ κ s) after u before h);
      };
      count = omega arith;
    }
  where
    small : (u : Placed) → (u ≡ lower_at σ κ s) ⊎ (u ≡ upper_at σ κ s) ⊎ Beside s (lower_at σ κ s) (upper_at σ κ s) after u before → (nat_abs u.hi.num ≤ limit)
        × (u.hi.den ≤ limit)
    small u (inl e) = rw e (fits_tells (mediant s.lo s.hi) f)
    small u (inr (inl e)) = rw e (k.shape.small s (in_right s before (s ∷ after) (inl refl)))
    small u (inr (inr b)) = k.shape.small u (beside_in s (lower_at σ κ s) (upper_at σ κ s) after u before b)

-- ---- the start: one side was split, and beyond it on the other side lies o
module _ (σ κ : ℕ → ℕ) (n : ℕ) (T : Turning σ κ n) where
  pub record Start (s o : Placed) (ss : List Placed) : Type 0 where
    pub only : (u : Placed) → In u ss → (u ≡ o) ⊎ (u ≡ lower_at σ κ s) ⊎ (u ≡ upper_at σ κ s)
    pub has_o : In o ss
    pub has_l : In (lower_at σ κ s) ss
    pub has_r : In (upper_at σ κ s) ss
    pub apart : Apart (pts ss)
    pub faces : framed o ⊗ mat_s ≈ framed s
    pub pt : o.pt ≡ σ s.pt
    pub moved : ¬ (κ s.pt ≡ s.pt)
    pub det_s : det (framed s) ≡ pos 1
    pub det_o : det (framed o) ≡ pos 1
    pub leads_s : Leads σ κ (framed s) s.pt
    pub low : s.pt < n
    pub home : Corner σ κ (s ∷ []) 𝟙 0 ⊎ ((κ 0 ≡ 0) × Edge ss 𝟙 0)

  back : (m n : Mat) → m ⊗ mat_s ≈ n → n ⊗ mat_s ≈ m
  back m n e = ≈-right mat_s (≈-sym e) ∙≈ S_twice m

  pub begin : (s o : Placed) (ss : List Placed) → Start s o ss → Inv σ κ n (s ∷ []) ss
  begin s o ss a = record {
    apart = a.apart;
    tops = (a.moved, a.low, (λ m k. k.among), tt);
    under = each (λ u. Corner σ κ (s ∷ []) (framed u ⊗ mat_s) (σ u.pt))
        (new t0 a.faces (sym (ap σ a.pt ∙ T.twice s.pt)))
        (new t1 lower_under (sym (T.twice _)))
        (new t2 upper_under (sym (T.twice _)));
    beyond = beyond;
    meets = λ u m h k. meets m u.pt k;
    home = a.home;
    dets = each (λ u. det (framed u) ≡ pos 1) a.det_o (lower_det s σ κ ∙ a.det_s) (upper_det s σ κ ∙ a.det_s);
    leads = each (λ u. Leads σ κ (framed u) u.pt)
        (rw a.pt (leads-≈ σ κ n T (≈-sym (back _ _ a.faces)) (leads_step σ κ n T word.S a.leads_s)))
        (leads-≈ σ κ n T (≈-sym (back _ _ lower_under)) (leads_step σ κ n T word.S (leads_step σ κ n T word.Q a.leads_s)))
        (leads-≈ σ κ n T (≈-sym (back _ _ upper_under)) (leads_step σ κ n T word.S (leads_step σ κ n T word.P a.leads_s)));
    low = each (λ u. u.pt < n) (rw a.pt (T.σ_low _ a.low)) (T.σ_low _ (T.κ_low _ a.low)) (T.σ_low _ (T.κ_low _ (T.κ_low _ a.low)));
    grown = grown;
  }
    where
      each : (P : Placed → Type 0) → P o → P (lower_at σ κ s) → P (upper_at σ κ s) → (u : Placed) → In u ss → P u
      each P x y z u h = go (a.only u h)
        where
          go : (u ≡ o) ⊎ (u ≡ lower_at σ κ s) ⊎ (u ≡ upper_at σ κ s) → P u
          go (inl e) = rw e x
          go (inr (inl e)) = rw e y
          go (inr (inr e)) = rw e z

      lower_under : framed (lower_at σ κ s) ⊗ mat_s ≈ framed s ⊗ mat_q
      lower_under = inl (lower_S s σ κ)

      upper_under : framed (upper_at σ κ s) ⊗ mat_s ≈ framed s ⊗ mat_p
      upper_under = inr (upper_S s σ κ)

      new : (c : Turn) {m : Mat} {x : ℕ} → m ≈ turn_m c (framed s) → turn_x σ κ c s.pt ≡ x → Corner σ κ (s ∷ []) m x
      new c e p = record { tri = s; among = inl refl; turn = c; frame = e; pt = sym p }

      grown : (t : Placed) → In t (s ∷ []) → Leads σ κ (framed t) t.pt
      grown t (inl e) = rw e a.leads_s
      grown t (inr h) = absurd h

      edge : (u : Placed) (m : Mat) (x : ℕ) → In u ss → m ≈ framed u → x ≡ u.pt → Edge ss m x
      edge u m x h e p = record { side = u; among = h; frame = e; pt = p }

      beyond : (m : Mat) (x : ℕ) → Corner σ κ (s ∷ []) m x → Corner σ κ (s ∷ []) (m ⊗ mat_s) (σ x) ⊎ Edge ss (m ⊗ mat_s) (σ x)
      beyond m x k = go k.tri k.among k.turn k.frame k.pt
        where
          go : (t : Placed) → In t (s ∷ []) → (c : Turn) → m ≈ turn_m c (framed t) → x ≡ turn_x σ κ c t.pt → Corner σ κ (s ∷ []) (m ⊗ mat_s) (σ x)
              ⊎ Edge ss (m ⊗ mat_s) (σ x)
          go t (inr h) c f p = absurd h
          go t (inl e) t0 f p = inr (edge o _ _ a.has_o (≈-right mat_s (f ∙≈ inl (ap framed e)) ∙≈ back _ _ a.faces)
              (ap σ (p ∙ ap (λ (v : Placed). v.pt) e) ∙ sym a.pt))
          go t (inl e) t1 f p = inr (edge (lower_at σ κ s) _ _ a.has_l
              (≈-right mat_s (f ∙≈ inl (ap (λ (v : Placed). framed v ⊗ mat_q) e)) ∙≈ back _ _ lower_under) (ap σ (p ∙ ap (λ (v : Placed). κ v.pt) e)))
          go t (inl e) t2 f p = inr (edge (upper_at σ κ s) _ _ a.has_r
              (≈-right mat_s (f ∙≈ inl (ap (λ (v : Placed). framed v ⊗ mat_p) e)) ∙≈ back _ _ upper_under) (ap σ (p ∙ ap (λ (v : Placed). κ (κ v.pt)) e)))

      meets : (m : Mat) (x : ℕ) → Corner σ κ (s ∷ []) m x → In (σ x) (pts ss)
      meets m x k = go k.tri k.among k.turn k.pt
        where
          go : (t : Placed) → In t (s ∷ []) → (c : Turn) → x ≡ turn_x σ κ c t.pt → In (σ x) (pts ss)
          go t (inr h) c p = absurd h
          go t (inl e) t0 p = of_pt _ ss (record { side = o; among = a.has_o; pt = ap σ (p ∙ ap (λ (v : Placed). v.pt) e) ∙ sym a.pt })
          go t (inl e) t1 p = of_pt _ ss (record { side = lower_at σ κ s; among = a.has_l; pt = ap σ (p ∙ ap (λ (v : Placed). κ v.pt) e) })
          go t (inl e) t2 p = of_pt _ ss (record { side = upper_at σ κ s; among = a.has_r; pt = ap σ (p ∙ ap (λ (v : Placed). κ (κ v.pt)) e) })

-- ---- the two starts
abbrev pub left0 : ℕ → Placed
left0 x = record { lo = minus_infinity; hi = zero_one; pt = x }

abbrev pub right0 : ℕ → Placed
right0 x = record { lo = zero_one; hi = infinity; pt = x }

left_frame : (x : ℕ) → framed (left0 x) ≡ mat_s
unfolding mat_s
left_frame x = refl

right_frame : (x : ℕ) → framed (right0 x) ≡ 𝟙
unfolding 𝟙
right_frame x = refl

module _ (σ κ : ℕ → ℕ) where
  -- 0/1, 1/1
  abbrev pub start1 : List Placed
  start1 = left0 (σ 0) ∷ lower_at σ κ (right0 0) ∷ upper_at σ κ (right0 0) ∷ []

  -- -1/1, 0/1
  abbrev pub start2 : List Placed
  start2 = lower_at σ κ (left0 (σ 0)) ∷ upper_at σ κ (left0 (σ 0)) ∷ right0 0 ∷ []

module _ (σ κ : ℕ → ℕ) (n : ℕ) (T : Turning σ κ n) where
  -- σ of three different points
  σ_inj : (x y : ℕ) → σ x ≡ σ y → x ≡ y
  σ_inj x y e = sym (T.twice x) ∙ ap σ e ∙ T.twice y

  differ : (y : ℕ) → ¬ (κ y ≡ y) → (c d : Turn) → ¬ (c ≡ d) → ¬ (σ (turn_x σ κ c y) ≡ σ (turn_x σ κ d y))
  differ y h c d e f = e (turn_one σ κ n T y h c d (σ_inj _ _ f))

  t01 : ¬ (◌≡◌ {A = Turn} t0 t1)
  t01 e = let q : ◌≡◌ {A = ℕ} 0 1 = cc in omega arith

  t02 : ¬ (◌≡◌ {A = Turn} t0 t2)
  t02 e = let q : ◌≡◌ {A = ℕ} 0 1 = cc in omega arith

  t12 : ¬ (◌≡◌ {A = Turn} t1 t2)
  t12 e = let q : ◌≡◌ {A = ℕ} 0 1 = cc in omega arith

  three : (x y z : ℕ) → ¬ (x ≡ y) → ¬ (x ≡ z) → ¬ (y ≡ z) → Apart (x ∷ y ∷ z ∷ [])
  three x y z p q r = (out0, (out1, ((λ h. h), tt)))
    where
      out1 : In y (z ∷ []) → ⊥
      out1 (inl e) = r e
      out1 (inr h) = h

      out0 : In x (y ∷ z ∷ []) → ⊥
      out0 (inl e) = p e
      out0 (inr (inl e)) = q e
      out0 (inr (inr h)) = h

  start_1 : ¬ (κ 0 ≡ 0) → Start σ κ n T (right0 0) (left0 (σ 0)) (start1 σ κ)
  start_1 h = record {
    only = only;
    has_o = inl refl;
    has_l = inr (inl refl);
    has_r = inr (inr (inl refl));
    apart = three _ _ _ (differ 0 h t0 t1 t01) (differ 0 h t0 t2 t02) (differ 0 h t1 t2 t12);
    faces = inl (ap (λ (m : Mat). m ⊗ mat_s) (left_frame (σ 0))) ∙≈ inr S_S ∙≈ inl (sym (right_frame 0));
    pt = refl;
    moved = h;
    det_s = ap det (right_frame 0) ∙ det_𝟙;
    det_o = ap det (left_frame (σ 0)) ∙ det_letter word.S;
    leads_s = leads-≈ σ κ n T (inl (right_frame 0)) (leads_𝟙 σ κ n T);
    low = T.some;
    home = inl (record { tri = right0 0; among = inl refl; turn = t0; frame = inl (sym (right_frame 0)); pt = refl });
  }
    where
      only : (u : Placed) → In u (start1 σ κ) → (u ≡ left0 (σ 0)) ⊎ (u ≡ lower_at σ κ (right0 0)) ⊎ (u ≡ upper_at σ κ (right0 0))
      only u (inl e) = inl e
      only u (inr (inl e)) = inr (inl e)
      only u (inr (inr (inl e))) = inr (inr e)
      only u (inr (inr (inr e))) = absurd e

  start_2 : κ 0 ≡ 0 → ¬ (κ (σ 0) ≡ σ 0) → Start σ κ n T (left0 (σ 0)) (right0 0) (start2 σ κ)
  start_2 o h = record {
    only = only;
    has_o = inr (inr (inl refl));
    has_l = inl refl;
    has_r = inr (inl refl);
    apart = three _ _ _ (differ (σ 0) h t1 t2 t12) (λ e. differ (σ 0) h t0 t1 t01 (T.twice 0 ∙ sym e)) (λ e. differ (σ 0) h t0 t2 t02 (T.twice 0 ∙ sym e));
    faces = inl (ap (λ (m : Mat). m ⊗ mat_s) (right_frame 0) ∙ ⊗-idl mat_s ∙ sym (left_frame (σ 0)));
    pt = sym (T.twice 0);
    moved = h;
    det_s = ap det (left_frame (σ 0)) ∙ det_letter word.S;
    det_o = ap det (right_frame 0) ∙ det_𝟙;
    leads_s = leads-≈ σ κ n T (inl (left_frame (σ 0) ∙ sym (⊗-idl mat_s))) (leads_step σ κ n T word.S (leads_𝟙 σ κ n T));
    low = T.σ_low 0 T.some;
    home = inr (o, record { side = right0 0; among = inr (inr (inl refl)); frame = inl (sym (right_frame 0)); pt = refl });
  }
    where
      only : (u : Placed) → In u (start2 σ κ) → (u ≡ right0 0) ⊎ (u ≡ lower_at σ κ (left0 (σ 0))) ⊎ (u ≡ upper_at σ κ (left0 (σ 0)))
      only u (inl e) = inr (inl e)
      only u (inr (inl e)) = inr (inr e)
      only u (inr (inr (inl e))) = inl e
      only u (inr (inr (inr e))) = absurd e

  pub kept_1 : Kept (right0 0 ∷ []) (start1 σ κ)
  kept_1 = record {
    shape = record {
      chained = (refl, omega arith, (refl, omega arith, (refl, refl)));
      zero_in = inl refl;
      many = omega arith;
      small =
          small;
    };
    count = refl;
  }
    where
      small : (u : Placed) → In u (start1 σ κ) → (nat_abs u.hi.num ≤ limit) × (u.hi.den ≤ limit)
      small u (inl e) = rw e (lit≤ tt, lit≤ tt)
      small u (inr (inl e)) = rw e (lit≤ tt, lit≤ tt)
      small u (inr (inr (inl e))) = rw e (lit≤ tt, lit≤ tt)
      small u (inr (inr (inr e))) = absurd e

  pub kept_2 : Kept (left0 (σ 0) ∷ []) (start2 σ κ)
  kept_2 = record {
    shape = record {
      chained = (refl, omega arith, (refl, omega arith, (refl, refl)));
      zero_in = inr (inl refl);
      many = omega arith;
      small =
          small;
    };
    count = refl;
  }
    where
      small : (u : Placed) → In u (start2 σ κ) → (nat_abs u.hi.num ≤ limit) × (u.hi.den ≤ limit)
      small u (inl e) = rw e (lit≤ tt, lit≤ tt)
      small u (inr (inl e)) = rw e (lit≤ tt, lit≤ tt)
      small u (inr (inr (inl e))) = rw e (lit≤ tt, lit≤ tt)
      small u (inr (inr (inr e))) = absurd e

  -- what every split keeps, at either start
  pub inv_1 : ¬ (κ 0 ≡ 0) → Inv σ κ n (right0 0 ∷ []) (start1 σ κ)
  inv_1 h = begin σ κ n T _ _ _ (start_1 h)

  pub inv_2 : κ 0 ≡ 0 → ¬ (κ (σ 0) ≡ σ 0) → Inv σ κ n (left0 (σ 0) ∷ []) (start2 σ κ)
  inv_2 o h = begin σ κ n T _ _ _ (start_2 o h)
