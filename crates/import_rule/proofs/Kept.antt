-- What every split keeps.
--
--   Inv C l       what holds of the sides l when the sides C were split
--   Ends P l      the sides l are all closed, Inv holds, and so does whatever else each split keeps
--
-- In order: a split keeps Inv (`step`); what growing ends with (`Ends`). The corners are in proofs/Corners.antt.
--
-- Why: if a side's point is some corner's, then the point beyond it is a side's, so that the side is closed. So an open side's point is no
-- corner's, nor are the two points turned from it.
-- Assumes nothing.
use mathlib.Core.Path.{◌≡◌, refl, sym, ◌∙◌, ap}
use mathlib.Core.Logic.{◌⊎◌, inl, inr}
use mathlib.Core.List.{List, ◌∷◌, ◌++◌}
use Prim.Native.Nat.{ℕ, ◌<◌}
use native.Mathlib.Omega.{arith}
use native.Mathlib.Decide.{ℕ_discrete}
use lib.IntN.{pos}
use Rattle.matrix.specs.Matrix.{Mat, ◌⊗◌, 𝟙, det, mat_s, mat_q, mat_p, ◌≈◌}
use Rattle.matrix.specs.Words as word
use Rattle.matrix.proofs.Matrix.{≈-sym, ◌∙≈◌, ≈-right}
use Rattle.import_rule.specs.Inner.Placed.{Placed, pts, lower_at, upper_at}
use Rattle.import_rule.proofs.Member.{In, in_right, Apart}
use Rattle.import_rule.proofs.Lead.{S_twice, Turning, Leads, leads-≈, leads_step}
use Rattle.import_rule.proofs.Split.{framed, Closed, AllClosed, lower_S, upper_S, lower_det, upper_det, in_pts, pt_of, of_pt, same_side}
use Rattle.import_rule.proofs.Split.{split_keep, split_from, beside_in, beside_other, Beside, split_apart, Turn, t0, t1, t2, turn_m, turn_x, Corner, Edge}
use Rattle.import_rule.proofs.Corners.{Tops, corner_more, corner_pt, corner-≈, corner_new, none_turned, turn_one}

module _ (σ κ : ℕ → ℕ) (n : ℕ) where
  -- C the sides that were split, ss those that are there
  pub record Inv (C ss : List Placed) : Type 0 where
    pub apart : Apart (pts ss)
    pub tops : Tops σ κ n C
    pub under : (u : Placed) → In u ss → Corner σ κ C (framed u ⊗ mat_s) (σ u.pt)
    pub beyond : (m : Mat) (x : ℕ) → Corner σ κ C m x → Corner σ κ C (m ⊗ mat_s) (σ x) ⊎ Edge ss (m ⊗ mat_s) (σ x)
    pub meets : (u : Placed) (m : Mat) → In u ss → Corner σ κ C m u.pt → In (σ u.pt) (pts ss)
    pub home : Corner σ κ C 𝟙 0 ⊎ ((κ 0 ≡ 0) × Edge ss 𝟙 0)
    pub dets : (u : Placed) → In u ss → det (framed u) ≡ pos 1
    pub leads : (u : Placed) → In u ss → Leads σ κ (framed u) u.pt
    pub low : (u : Placed) → In u ss → u.pt < n
    pub grown : (t : Placed) → In t C → Leads σ κ (framed t) t.pt

  module _ (T : Turning σ κ n) where
    -- ---- a split
    module _ (C before : List Placed) (s : Placed) (after : List Placed) (inv : Inv C (before ++ (s ∷ after)))
        (none : ¬ (Closed σ κ (pts (before ++ (s ∷ after))) s.pt)) where
      abbrev pub old : List Placed
      old = before ++ (s ∷ after)

      abbrev pub new : List Placed
      new = before ++ (lower_at σ κ s ∷ upper_at σ κ s ∷ after)

      pub has_s : In s old
      has_s = in_right s before (s ∷ after) (inl refl)

      pub has_l : In (lower_at σ κ s) new
      has_l = in_right _ before (lower_at σ κ s ∷ upper_at σ κ s ∷ after) (inl refl)

      pub has_r : In (upper_at σ κ s) new
      has_r = in_right _ before (lower_at σ κ s ∷ upper_at σ κ s ∷ after) (inr (inl refl))

      -- its points are new
      fresh : (m : Mat) → Corner σ κ C m s.pt → ⊥
      fresh m k = none (inr (inv.meets s m has_s k))

      fresh_turned : (c : Turn) (m : Mat) → Corner σ κ C m (turn_x σ κ c s.pt) → ⊥
      fresh_turned c m k = none_turned σ κ n T C s.pt fresh c m k

      pub moved : ¬ (κ s.pt ≡ s.pt)
      moved e = none (inl e)

      -- a point of another old side stays
      pub stays : (x : ℕ) → In x (pts old) → ¬ (x ≡ s.pt) → In x (pts new)
      stays x h e =
          let k = pt_of x old h in
          of_pt x new (record {
            side = k.side;
            among =
                split_keep s (lower_at σ κ s) (upper_at σ κ s) after k.side before k.among (λ z. e (k.pt ∙ ap (λ (v : Placed). v.pt) z));
            pt = k.pt;
          })

      -- the point beyond a new corner is no old side's
      pub not_old : (c : Turn) → In (σ (turn_x σ κ c s.pt)) (pts old) → ⊥
      not_old c h =
          let k = pt_of _ old h in
          fresh_turned c _ (corner_pt σ κ n T (ap σ (sym k.pt) ∙ T.twice (turn_x σ κ c s.pt)) (inv.under k.side k.among))

      pub new_apart : Apart (pts new)
      new_apart = split_apart s (lower_at σ κ s) (upper_at σ κ s) after before inv.apart (not_old t1) (not_old t2)
          (λ e. let z : ◌≡◌ {A = Turn} t1 t2 = turn_one σ κ n T s.pt moved t1 t2 (sym (T.twice _) ∙ ap σ e ∙ T.twice _) in let q : ◌≡◌ {A = ℕ} 0 1 = cc in
          omega arith)

      -- what is said of old sides and of the two parts holds of the new ones
      each : (P : Placed → Type 0) → ((u : Placed) → In u old → ¬ (u.pt ≡ s.pt) → P u) → P (lower_at σ κ s) → P (upper_at σ κ s) → (u : Placed) → In u new → P u
      each P o a b u h = go (split_from s (lower_at σ κ s) (upper_at σ κ s) after u before h)
        where
          go : (u ≡ lower_at σ κ s) ⊎ (u ≡ upper_at σ κ s) ⊎ Beside s (lower_at σ κ s) (upper_at σ κ s) after u before → P u
          go (inl e) = rw e a
          go (inr (inl e)) = rw e b
          go (inr (inr k)) = o u (beside_in s (lower_at σ κ s) (upper_at σ κ s) after u before k)
              (beside_other s (lower_at σ κ s) (upper_at σ κ s) after u before inv.apart k)

      lower_under : framed (lower_at σ κ s) ⊗ mat_s ≈ framed s ⊗ mat_q
      lower_under = inl (lower_S s σ κ)

      upper_under : framed (upper_at σ κ s) ⊗ mat_s ≈ framed s ⊗ mat_p
      upper_under = inr (upper_S s σ κ)

      new_under : (u : Placed) → In u new → Corner σ κ (s ∷ C) (framed u ⊗ mat_s) (σ u.pt)
      new_under = each (λ u. Corner σ κ (s ∷ C) (framed u ⊗ mat_s) (σ u.pt))
          (λ u h e. corner_more σ κ n T s (inv.under u h))
          (corner-≈ σ κ n T lower_under (corner_pt σ κ n T (sym (T.twice _)) (corner_new σ κ n T C s t1)))
          (corner-≈ σ κ n T upper_under (corner_pt σ κ n T (sym (T.twice _)) (corner_new σ κ n T C s t2)))

      back : (m n : Mat) → m ⊗ mat_s ≈ n → n ⊗ mat_s ≈ m
      back m n e = ≈-right mat_s (≈-sym e) ∙≈ S_twice m

      edge_of : (u : Placed) (m : Mat) (x : ℕ) → In u new → m ≈ framed u → x ≡ u.pt → Edge new m x
      edge_of u m x h e p = record { side = u; among = h; frame = e; pt = p }

      new_beyond : (m : Mat) (x : ℕ) → Corner σ κ (s ∷ C) m x → Corner σ κ (s ∷ C) (m ⊗ mat_s) (σ x) ⊎ Edge new (m ⊗ mat_s) (σ x)
      new_beyond m x k = go k.among k.turn k.frame k.pt
        where
          Goal : Type 0
          Goal = Corner σ κ (s ∷ C) (m ⊗ mat_s) (σ x) ⊎ Edge new (m ⊗ mat_s) (σ x)

          side_is : (e : Edge old (m ⊗ mat_s) (σ x)) → Dec (σ x ≡ s.pt) → Corner σ κ (s ∷ C) (m ⊗ mat_s) (σ x) ⊎ Edge new (m ⊗ mat_s) (σ x)
          side_is e (yes p) =
              let z : e.side ≡ s = same_side e.side s old inv.apart e.among has_s (sym e.pt ∙ p) in
              inl (record { tri = s; among = inl refl; turn = t0; frame = e.frame ∙≈ inl (ap framed z); pt = p })
          side_is e (no p) = inr (edge_of e.side (m ⊗ mat_s) (σ x)
              (split_keep s (lower_at σ κ s) (upper_at σ κ s) after e.side before e.among (λ z. p (e.pt ∙ ap (λ (v : Placed). v.pt) z))) e.frame
              e.pt)

          was : Corner σ κ C (m ⊗ mat_s) (σ x) ⊎ Edge old (m ⊗ mat_s) (σ x) → Corner σ κ (s ∷ C) (m ⊗ mat_s) (σ x) ⊎ Edge new (m ⊗ mat_s) (σ x)
          was (inl c) = inl (corner_more σ κ n T s c)
          was (inr e) = side_is e (ℕ_discrete (σ x) s.pt)

          there : (t : Placed) → t ≡ s → (c : Turn) → m ≈ turn_m c (framed t) → x ≡ turn_x σ κ c t.pt → Corner σ κ (s ∷ C) (m ⊗ mat_s) (σ x)
              ⊎ Edge new (m ⊗ mat_s) (σ x)
          there t e t0 f p = inl (corner_more σ κ n T s (corner_pt σ κ n T (ap σ (sym (p ∙ ap (λ (v : Placed). v.pt) e)))
              (corner-≈ σ κ n T (≈-right mat_s (f ∙≈ inl (ap framed e))) (inv.under s has_s))))
          there t e t1 f p = inr (edge_of (lower_at σ κ s) (m ⊗ mat_s) (σ x) has_l
              (≈-right mat_s (f ∙≈ inl (ap (λ (v : Placed). framed v ⊗ mat_q) e)) ∙≈ back _ _ lower_under) (ap σ (p ∙ ap (λ (v : Placed). κ v.pt) e)))
          there t e t2 f p = inr (edge_of (upper_at σ κ s) (m ⊗ mat_s) (σ x) has_r
              (≈-right mat_s (f ∙≈ inl (ap (λ (v : Placed). framed v ⊗ mat_p) e)) ∙≈ back _ _ upper_under) (ap σ (p ∙ ap (λ (v : Placed). κ (κ v.pt)) e)))

          go : In k.tri (s ∷ C) → (c : Turn) → m ≈ turn_m c (framed k.tri) → x ≡ turn_x σ κ c k.tri.pt → Corner σ κ (s ∷ C) (m ⊗ mat_s) (σ x)
              ⊎ Edge new (m ⊗ mat_s) (σ x)
          go (inl e) c f p = there k.tri e c f p
          go (inr h) c f p = was (inv.beyond m x (record { tri = k.tri; among = h; turn = c; frame = f; pt = p }))

      -- a corner's point is an old corner's or one of the three
      sort : {m : Mat} {x : ℕ} → Corner σ κ (s ∷ C) m x → Corner σ κ C m x ⊎ (x ≡ s.pt) ⊎ (x ≡ κ s.pt) ⊎ (x ≡ κ (κ s.pt))
      sort {m} {x} k = go k.among k.turn k.frame k.pt
        where
          there : (t : Placed) → t ≡ s → (c : Turn) → x ≡ turn_x σ κ c t.pt → Corner σ κ C m x ⊎ (x ≡ s.pt) ⊎ (x ≡ κ s.pt) ⊎ (x ≡ κ (κ s.pt))
          there t e t0 p = inr (inl (p ∙ ap (λ (v : Placed). v.pt) e))
          there t e t1 p = inr (inr (inl (p ∙ ap (λ (v : Placed). κ v.pt) e)))
          there t e t2 p = inr (inr (inr (p ∙ ap (λ (v : Placed). κ (κ v.pt)) e)))

          go : In k.tri (s ∷ C) → (c : Turn) → m ≈ turn_m c (framed k.tri) → x ≡ turn_x σ κ c k.tri.pt → Corner σ κ C m x ⊎ (x ≡ s.pt)
              ⊎ (x ≡ κ s.pt) ⊎ (x ≡ κ (κ s.pt))
          go (inl e) c f p = there k.tri e c p
          go (inr h) c f p = inl (record { tri = k.tri; among = h; turn = c; frame = f; pt = p })

      pt_l : In (σ (κ s.pt)) (pts new)
      pt_l = in_pts (lower_at σ κ s) new has_l

      pt_r : In (σ (κ (κ s.pt))) (pts new)
      pt_r = in_pts (upper_at σ κ s) new has_r

      -- a part, y its point's other face
      part_meets : (c : Turn) → ¬ (turn_x σ κ c s.pt ≡ s.pt) → (m : Mat) → In (σ (turn_x σ κ c s.pt)) (pts new)
          → Corner σ κ (s ∷ C) m (σ (turn_x σ κ c s.pt)) → In (turn_x σ κ c s.pt) (pts new)
      part_meets c d m own k = go (sort k)
        where
          y : ℕ
          y = turn_x σ κ c s.pt

          was : Corner σ κ C (m ⊗ mat_s) (σ (σ (turn_x σ κ c s.pt))) ⊎ Edge old (m ⊗ mat_s) (σ (σ (turn_x σ κ c s.pt))) → In (turn_x σ κ c s.pt) (pts new)
          was (inl k) = absurd (fresh_turned c _ (corner_pt σ κ n T (T.twice _) k))
          was (inr e) = stays _ (of_pt _ old (record { side = e.side; among = e.among; pt = sym (T.twice _) ∙ e.pt })) d

          turn : (z : ℕ) → σ (turn_x σ κ c s.pt) ≡ z → In (σ z) (pts new) → In (turn_x σ κ c s.pt) (pts new)
          turn z e h = rw (← T.twice (turn_x σ κ c s.pt), e) h

          go : Corner σ κ C m (σ (turn_x σ κ c s.pt)) ⊎ (σ (turn_x σ κ c s.pt) ≡ s.pt) ⊎ (σ (turn_x σ κ c s.pt) ≡ κ s.pt)
              ⊎ (σ (turn_x σ κ c s.pt) ≡ κ (κ s.pt)) → In (turn_x σ κ c s.pt) (pts new)
          go (inl k) = was (inv.beyond m _ k)
          go (inr (inl e)) = absurd (fresh_turned c _ (corner_pt σ κ n T (ap σ (sym e) ∙ T.twice _) (inv.under s has_s)))
          go (inr (inr (inl e))) = turn _ e pt_l
          go (inr (inr (inr e))) = turn _ e pt_r

      new_meets : (u : Placed) (m : Mat) → In u new → Corner σ κ (s ∷ C) m u.pt → In (σ u.pt) (pts new)
      new_meets u m h = each (λ v. Corner σ κ (s ∷ C) m v.pt → In (σ v.pt) (pts new)) other
          (λ k. rw (T.twice (κ s.pt)) (part_meets t1 moved m pt_l k))
          (λ k. rw (T.twice (κ (κ s.pt))) (part_meets t2 (λ e. moved (ap κ (sym e) ∙ T.thrice s.pt)) m pt_r k))
          u h
        where
          other : (v : Placed) → In v old → ¬ (v.pt ≡ s.pt) → Corner σ κ (s ∷ C) m v.pt → In (σ v.pt) (pts new)
          other v i d k = go (sort k)
            where
              go : Corner σ κ C m v.pt ⊎ (v.pt ≡ s.pt) ⊎ (v.pt ≡ κ s.pt) ⊎ (v.pt ≡ κ (κ s.pt)) → In (σ v.pt) (pts new)
              go (inl k) = stays _ (inv.meets v m i k)
                  (λ e. none (inr (let q : v.pt ≡ σ s.pt = sym (T.twice v.pt) ∙ ap σ e in rw q at (in_pts v old i))))
              go (inr (inl e)) = absurd (d e)
              go (inr (inr (inl e))) = rw e pt_l
              go (inr (inr (inr e))) = rw e pt_r

      new_home : Corner σ κ (s ∷ C) 𝟙 0 ⊎ ((κ 0 ≡ 0) × Edge new 𝟙 0)
      new_home = go inv.home
        where
          go : Corner σ κ C 𝟙 0 ⊎ ((κ 0 ≡ 0) × Edge old 𝟙 0) → Corner σ κ (s ∷ C) 𝟙 0 ⊎ ((κ 0 ≡ 0) × Edge new 𝟙 0)
          go (inl k) = inl (corner_more σ κ n T s k)
          go (inr (f, e)) = inr (
            f,
            edge_of e.side 𝟙 0
                (split_keep s (lower_at σ κ s) (upper_at σ κ s) after e.side before e.among (λ z. moved (rw (← e.pt ∙ ap (λ (v : Placed). v.pt) z) f)))
                e.frame e.pt,
          )

      new_tops : Tops σ κ n (s ∷ C)
      new_tops = (moved, inv.low s has_s, fresh, inv.tops)

      new_grown : (t : Placed) → In t (s ∷ C) → Leads σ κ (framed t) t.pt
      new_grown t (inl e) = rw e (inv.leads s has_s)
      new_grown t (inr h) = inv.grown t h

      -- A SPLIT KEEPS IT ALL
      pub step : Inv (s ∷ C) new
      step = record {
        apart = new_apart;
        tops = new_tops;
        under = new_under;
        beyond = new_beyond;
        meets = new_meets;
        home = new_home;
        dets = each (λ u. det (framed u) ≡ pos 1) (λ u h e. inv.dets u h) (lower_det s σ κ ∙ inv.dets s has_s) (upper_det s σ κ ∙ inv.dets s has_s);
        leads = each (λ u. Leads σ κ (framed u) u.pt) (λ u h e. inv.leads u h)
            (leads-≈ σ κ n T (≈-sym (back _ _ lower_under)) (leads_step σ κ n T word.S (leads_step σ κ n T word.Q (inv.leads s has_s))))
            (leads-≈ σ κ n T (≈-sym (back _ _ upper_under)) (leads_step σ κ n T word.S (leads_step σ κ n T word.P (inv.leads s has_s))));
        low = each (λ u. u.pt < n) (λ u h e. inv.low u h) (T.σ_low _ (T.κ_low _ (inv.low s has_s)))
            (T.σ_low _ (T.κ_low _ (T.κ_low _ (inv.low s has_s))));
        grown = new_grown;
      }

    -- ---- what growing ends with: all sides closed, and whatever else each split keeps

    pub record Ends (P : List Placed → List Placed → Type 0) (l : List Placed) : Type 0 where
      pub tris : List Placed
      pub inv : Inv tris l
      pub all : AllClosed σ κ (pts l) l
      pub kept : P tris l
