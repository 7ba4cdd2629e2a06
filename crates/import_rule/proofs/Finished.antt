-- THE GROUP OF A FINISHED SYMBOL IS THE STABILISER OF POINT 0.
--
-- In order: the known frames are those of the corners and of the odd sides (`steps`, `known_leads`, `only`); the theorem (`group`).
-- Assumes nothing.
use mathlib.Core.Path.{◌≡◌, refl, sym, ◌∙◌, ap}
use mathlib.Core.Logic.{◌⊎◌, inl, inr, ◌↔◌}
use mathlib.Core.List.{List, []}
use Prim.Native.Nat.{ℕ, ◌-◌, ◌<◌}
use native.Mathlib.Omega.{arith}
use native.Mathlib.Decide.{dec_lt}
use lib.IntN.{pos}
use Rattle.matrix.specs.Matrix.{Mat, ◌⊗◌, 𝟙, adj, det, mat_s, mat_q, mat_p, ◌≈◌}
use Rattle.matrix.specs.Words as word
use Rattle.matrix.specs.Action.{at}
use Rattle.matrix.proofs.Matrix.{⊗-assoc, ⊗-idl, ⊗-idr, adj-⊗, det_one, det_adj, det_letter, redo, ≈-sym, ◌∙≈◌, ≈-right}
use Rattle.symbol.specs.Table.{carried}
use Rattle.pairing.specs.Subgroup.{InH}
use Rattle.import_rule.specs.Inner.Placed.{Placed}
use Rattle.import_rule.specs.Theorem.{Precisely}
use Rattle.import_rule.proofs.Member.{In}
use Rattle.import_rule.proofs.Lead.{S_twice, Q_Q_right, Q_P_right, Turning, Leads, leads-≈, leads_step}
use Rattle.import_rule.proofs.Split.{framed, same_side, Turn, t0, t1, t2, turn_m, turn_x, Corner, Edge}
use Rattle.import_rule.proofs.Corners.{corner_spin, corner_free, corner_one}
use Rattle.import_rule.proofs.Stabiliser.{in_one, Reach, stabiliser}
use Rattle.import_rule.proofs.Table.{Numbered, in_at}
use Rattle.import_rule.proofs.Kept.{Inv}
use Rattle.import_rule.proofs.Generators.{Finishing, Mated, v, t, gens, sorts, mates_back, other_place, is_symbol, in_even, in_odd, in_first, fix}

module _ {σ κ : ℕ → ℕ} {n : ℕ} {C l : List Placed} (F : Finishing σ κ n C l) where
  abbrev T : Turning σ κ n
  T = F.turning

  abbrev inv : Inv σ κ n C l
  inv = F.inv

  -- ---- the known frames: the corners', and the odd sides'

  abbrev pub Known : Mat → ℕ → Type 0
  Known m x = Corner σ κ C m x ⊎ ((κ x ≡ x) × Edge l m x)

  abbrev Reached : Mat → Type 0
  Reached m = Reach (gens F) Known m

  calm : (m k : Mat) (x : ℕ) → Known k x → m ≈ k → Reached m
  calm m k x h e = record { by = 𝟙; frame = k; pt = x; in_h = in_one (gens F); known = h; is = e ∙≈ inl (sym (⊗-idl k)) }

  -- n x m⁻¹ takes m to n x
  carried_own : (k x m : Mat) → det m ≡ pos 1 → carried k x m ⊗ m ≡ k ⊗ x
  carried_own k x m d = ⊗-assoc (k ⊗ x) (adj m) m ∙ ap (λ (y : Mat). k ⊗ x ⊗ y) (adj-⊗ m d) ∙ ⊗-idr (k ⊗ x)

  -- N S M⁻¹ takes M S to N, up to sign
  carried_back : (k m : Mat) → det m ≡ pos 1 → k ≈ carried k mat_s m ⊗ (m ⊗ mat_s)
  carried_back k m d = ≈-sym (inl (sym (⊗-assoc (carried k mat_s m) m mat_s) ∙ ap (λ (y : Mat). y ⊗ mat_s) (carried_own k mat_s m d)) ∙≈ S_twice k)

  carried_det : (k x m : Mat) → det k ≡ pos 1 → det x ≡ pos 1 → det m ≡ pos 1 → det (carried k x m) ≡ pos 1
  carried_det k x m a b c = det_one (k ⊗ x) (adj m) (det_one k x a b) (det_adj m ∙ c)

  -- beyond a side that is not odd
  crossed : (u : Placed) → In u l → (σ u.pt ≡ u.pt) ⊎ Mated F u → Reached (framed u)
  crossed u h (inl e) = record {
    by = carried (framed u) mat_s (framed u);
    frame = framed u ⊗ mat_s;
    pt = σ u.pt;
    in_h = (in_even F u h e).there;
    known = inl (inv.under u h);
    is = carried_back (framed u) (framed u) (inv.dets u h);
  }
  crossed u h (inr m) = go (in_at u l h) (in_at m.side l m.among)
    where
      go : Numbered u l → Numbered m.side l → Reached (framed u)
      go a b = by_order (dec_lt a.number b.number)
        where
          by_order : Dec (a.number < b.number) → Reached (framed u)
          by_order (yes q) =
              let w = m.side in
              let g = carried (framed w) mat_s (framed u) in
              let d = carried_det (framed w) mat_s (framed u) (inv.dets w m.among) (det_letter word.S) (inv.dets u h) in
              record {
                by = adj g;
                frame = framed w ⊗ mat_s;
                pt = σ w.pt;
                in_h = (in_first F a.number b.number u w a.is b.is m.mates q).inverse;
                known = inl (inv.under w m.among);
                is = inl (sym (redo g (framed u) d) ∙ ap (λ (y : Mat). adj g ⊗ y) (carried_own (framed w) mat_s (framed u) (inv.dets u h)));
              }
          by_order (no q) =
              let w = m.side in
              let z = other_place F a.number b.number u w a.is b.is m.mates in
              record {
                by = carried (framed u) mat_s (framed w);
                frame = framed w ⊗ mat_s;
                pt = σ w.pt;
                in_h = (in_first F b.number a.number w u b.is a.is (mates_back F u w h m.mates) (omega arith)).there;
                known = inl (inv.under w m.among);
                is = carried_back (framed u) (framed w) (inv.dets w m.among);
              }

  turn_odd : (m : Mat) (x : ℕ) → κ x ≡ x → (e : Edge l m x) → Reached (m ⊗ mat_q) × Reached (m ⊗ mat_p)
  turn_odd m x o e =
      let u = e.side in
      let f = framed u in
      let g = carried f mat_q f in
      let d = inv.dets u e.among in
      let q : κ u.pt ≡ u.pt = rw e.pt at o in
      let p : g ⊗ f ≡ f ⊗ mat_q = carried_own f mat_q f d in
      let i = in_odd F u e.among q in
      let k : Known f x = inr (o, record { side = u; among = e.among; frame = inl refl; pt = e.pt }) in
      let r : adj g ⊗ f ≡ f ⊗ mat_p = ap (λ (y : Mat). adj g ⊗ y) (sym (Q_P_right f) ∙ ap (λ (y : Mat). y ⊗ mat_p) (sym p) ∙ ⊗-assoc g f mat_p)
      ∙ redo g (f ⊗ mat_p) (carried_det f mat_q f d (det_letter word.Q) d) in (
        record { by = g; frame = f; pt = x; in_h = i.there; known = k; is = ≈-right mat_q e.frame ∙≈ inl (sym p) },
        record { by = adj g; frame = f; pt = x; in_h = i.inverse; known = k; is = ≈-right mat_p e.frame ∙≈ inl (sym r) },
      )

  shift : (m k : Mat) → m ≈ k → Reached k → Reached m
  shift m k e r = record { by = r.by; frame = r.frame; pt = r.pt; in_h = r.in_h; known = r.known; is = e ∙≈ r.is }

  steps : (x : word.Letter) (m : Mat) (y : ℕ) → Known m y → Reached (m ⊗ word.letter x)
  steps word.S m x (inl k) = go (inv.beyond m x k)
    where
      at_side_lem : (e : Edge l (m ⊗ mat_s) (σ x)) → (σ e.side.pt ≡ e.side.pt) ⊎ (κ e.side.pt ≡ e.side.pt) ⊎ Mated F e.side → Reached (m ⊗ mat_s)
      at_side_lem e (inl p) = shift _ _ e.frame (crossed e.side e.among (inl p))
      at_side_lem e (inr (inl o)) = calm _ (m ⊗ mat_s) (σ x) (inr (rw (← e.pt) at o, e)) (inl refl)
      at_side_lem e (inr (inr p)) = shift _ _ e.frame (crossed e.side e.among (inr p))

      go : Corner σ κ C (m ⊗ mat_s) (σ x) ⊎ Edge l (m ⊗ mat_s) (σ x) → Reached (m ⊗ mat_s)
      go (inl c) = calm _ (m ⊗ mat_s) (σ x) (inl c) (inl refl)
      go (inr e) = at_side_lem e (sorts F e.side e.among)
  steps word.S m x (inr (o, e)) = calm _ (framed e.side ⊗ mat_s) (σ e.side.pt) (inl (inv.under e.side e.among)) (≈-right mat_s e.frame)
  steps word.Q m x (inl k) = calm _ (m ⊗ mat_q) (κ x) (inl (corner_spin σ κ n T k)) (inl refl)
  steps word.Q m x (inr (o, e)) = (turn_odd m x o e).0
  steps word.P m x (inl k) = calm _ (m ⊗ mat_q ⊗ mat_q) (κ (κ x)) (inl (corner_spin σ κ n T (corner_spin σ κ n T k))) (inl (sym (Q_Q_right m)))
  steps word.P m x (inr (o, e)) = (turn_odd m x o e).1

  known_leads : (m : Mat) (x : ℕ) → Known m x → Leads σ κ m x
  known_leads m x (inl k) = leads-≈ σ κ n T k.frame (rw k.pt (go k.turn))
    where
      go : (c : Turn) → Leads σ κ (turn_m c (framed k.tri)) (turn_x σ κ c k.tri.pt)
      go t0 = inv.grown k.tri k.among
      go t1 = leads_step σ κ n T word.Q (inv.grown k.tri k.among)
      go t2 = leads_step σ κ n T word.P (inv.grown k.tri k.among)
  known_leads m x (inr (o, e)) = leads-≈ σ κ n T e.frame (rw e.pt (inv.leads e.side e.among))

  -- the only known frame of point 0 is the identity's
  only : (m : Mat) → Known m 0 → InH (gens F) m
  only m k = go inv.home k
    where
      is_one : m ≈ 𝟙 → InH (gens F) m
      is_one e = record { word = []; letters = tt; is = e }

      go : Corner σ κ C 𝟙 0 ⊎ ((κ 0 ≡ 0) × Edge l 𝟙 0) → Known m 0 → InH (gens F) m
      go (inl h) (inl k) = is_one (corner_one σ κ n T inv.tops k h)
      go (inl h) (inr (o, e)) = absurd (corner_free σ κ n T inv.tops h o)
      go (inr (o, h)) (inl k) = absurd (corner_free σ κ n T inv.tops k o)
      go (inr (o, h)) (inr (p, e)) = is_one (e.frame ∙≈ inl
          (ap framed (same_side e.side h.side l inv.apart e.among h.among (sym e.pt ∙ h.pt))) ∙≈ ≈-sym h.frame)

  -- THE GROUP OF THE SYMBOL IS THE STABILISER OF POINT 0
  pub group : (m : Mat) → det m ≡ pos 1 → InH (gens F) m ↔ (at σ κ 0 m ≡ 0)
  group = stabiliser (gens F) σ κ n T (fix F) Known steps known_leads inv.home only

  pub finished_precisely : Precisely σ κ (v F) (t F)
  finished_precisely = record { symbol = is_symbol F; group = group }
