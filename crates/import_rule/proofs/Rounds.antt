-- The rule to the letter makes the same sides as growing by points under the same order, and marks each as its point says.
--
--   mk B s, mks B l     sides with the marks that their points say among sides with the points B
--   Fit C l rows        the rows are the placed sides l, of which some have the mark that their point says already
--
-- In order: marks by points; which marked rows are open (`opens_marked`) and their split (`split_marked`); what a round needs
-- (`ready`) and leaves (`visits_mark`); after a split (`fit_step`); the law (`rounds_are`). Assumes nothing.
use mathlib.Core.Path.{◌≡◌, refl, sym, ◌∙◌, ap}
use mathlib.Core.Logic.{◌⊎◌, inl, inr}
use mathlib.Core.Bool.{Bool, true, false, not}
use mathlib.Core.List.{List, [], ◌∷◌, ◌++◌}
use Prim.Native.Nat.{ℕ, zero, suc, ◌+◌}
use native.Mathlib.Omega.{arith}
use lib.Dec.{eqb}
use lib.ListN.{length}
use Rattle.basics.specs.Choice.{pick}
use Rattle.basics.proofs.Choice.{pick_true, pick_false, clash}
use Rattle.import_rule.specs.Side.{Interval, mediant, fits}
use Rattle.import_rule.specs.Order.{Order, Chosen, none, this, chosen_by}
use Rattle.import_rule.specs.Rule.{unpaired, even, odd, free, Row, row, is_open, Grown, finished}
use Rattle.import_rule.specs.Rule.{refused, opens, split_at, fits_at, came_after, go_on, least, point_of, visit_all, rounds}
use Rattle.import_rule.specs.Inner.Placed as model
use Rattle.import_rule.specs.Inner.Placed.{Placed, bare, pts, Grew, grow_by, opens_at, lower_at, upper_at, is_closed, mark_of, rows_of}
use Rattle.import_rule.proofs.Member.{In, in_left, in_right, in_either, in_is}
use Rattle.import_rule.proofs.Lead.{Turning}
use Rattle.import_rule.proofs.Split.{Closed, AllClosed, closed_true, closed_false, true_closed, false_closed, in_pts, pt_of}
use Rattle.import_rule.proofs.Split.{split_from, beside_in, Beside, Turn, t1, t2, turn_x}
use Rattle.import_rule.proofs.Corners.{corner_pt, corner_free}
use Rattle.import_rule.proofs.Kept.{Inv, step, not_old, moved, stays}
use Rattle.import_rule.proofs.Order.{Rest, Cut, outcome_by, cut_by_lem, came_long}
use Rattle.import_rule.proofs.Visit.{pt, points, settle, settles, Vacant, Ready, visits_settle}
use Rattle.import_rule.proofs.Sides.{sides_of, bares, opened, sides-++, bares-++, sides_opened, in_sides, in_opened, all_open, Owner, in_bares, open_is}

module _ (σ κ : ℕ → ℕ) where
  -- ---- marks by points

  abbrev pub mk : List ℕ → Interval → Row
  mk B s = row s (pick (is_closed σ κ B (point_of σ κ s)) (mark_of σ κ (point_of σ κ s)) unpaired)

  abbrev pub mks : List ℕ → List Interval → List Row
  mks B [] = []
  mks B (s ∷ l) = mk B s ∷ mks B l

  abbrev pub marked : List Placed → List Row
  marked l = mks (pts l) (bares l)

  sides_mks : (B : List ℕ) (l : List Interval) → sides_of (mks B l) ≡ l
  sides_mks B [] = refl
  sides_mks B (s ∷ l) = ap (λ (y : List Interval). s ∷ y) (sides_mks B l)

  mks-++ : (B : List ℕ) (l r : List Interval) → mks B (l ++ r) ≡ mks B l ++ mks B r
  mks-++ B [] r = refl
  mks-++ B (x ∷ l) r = ap (λ (y : List Row). mk B x ∷ y) (mks-++ B l r)

  record From (B : List ℕ) (x : Row) (l : List Placed) : Type 0 where
    side : Placed
    among : In side l
    is : x ≡ mk B (bare side)

  in_mks : (B : List ℕ) (x : Row) (l : List Placed) → In x (mks B (bares l)) → From B x l
  in_mks B x [] h = absurd h
  in_mks B x (u ∷ l) (inl e) = record { side = u; among = inl refl; is = e }
  in_mks B x (u ∷ l) (inr h) = let k = in_mks B x l h in record { side = k.side; among = inr k.among; is = k.is }

  mks_in : (B : List ℕ) (u : Placed) (l : List Placed) → In u l → In (mk B (bare u)) (mks B (bares l))
  mks_in B u [] h = h
  mks_in B u (s ∷ l) (inl e) = inl (ap (λ (y : Placed). mk B (bare y)) e)
  mks_in B u (s ∷ l) (inr h) = inr (mks_in B u l h)

  -- the mark of a point is never `unpaired`
  told : (m : ℕ) → is_open (mark_of σ κ m) ≡ false
  told m = go (eqb (σ m) m) (eqb (κ m) m)
    where
      go : (a b : Bool) → is_open (pick a even (pick b odd (free (least m (σ m))))) ≡ false
      go true b = refl
      go false true = refl
      go false false = refl

  mk_open : (B : List ℕ) (s : Interval) → ¬ (Closed σ κ B (point_of σ κ s)) → mk B s ≡ row s unpaired
  mk_open B s h = ap (row s) (pick_false (is_closed σ κ B (point_of σ κ s)) _ _ (false_closed σ κ B (point_of σ κ s) h))

  mk_shut : (B : List ℕ) (s : Interval) → Closed σ κ B (point_of σ κ s) → mk B s ≡ row s (mark_of σ κ (point_of σ κ s))
  mk_shut B s c = ap (row s) (pick_true (is_closed σ κ B (point_of σ κ s)) _ _ (true_closed σ κ B (point_of σ κ s) c))

  mk_told : (B : List ℕ) (s : Interval) → Closed σ κ B (point_of σ κ s) → is_open (mk B s).mark ≡ false
  mk_told B s c = ap (λ (r : Row). is_open r.mark) (mk_shut B s c) ∙ told (point_of σ κ s)

  mk_vacant : (B : List ℕ) (s : Interval) → is_open (mk B s).mark ≡ true → ¬ (Closed σ κ B (point_of σ κ s))
  mk_vacant B s e c = clash e (mk_told B s c)

  -- ---- marks that are there are right

  abbrev pub Fair : List ℕ → List Row → Type 0
  Fair B rs = (r : Row) → In r rs → (is_open r.mark ≡ true) ⊎ (Closed σ κ B (pt σ κ r) × (r.mark ≡ mark_of σ κ (pt σ κ r)))

  settle_fair : (B : List ℕ) (r : Row) → (is_open r.mark ≡ true) ⊎ (Closed σ κ B (pt σ κ r) × (r.mark ≡ mark_of σ κ (pt σ κ r))) → settle σ κ B r
      ≡ mk B r.side
  settle_fair B r (inl e) = pick_true (is_open r.mark) _ r e ∙ go (is_closed σ κ B (pt σ κ r))
    where
      go : (b : Bool) → pick b (row r.side (mark_of σ κ (pt σ κ r))) r ≡ row r.side (pick b (mark_of σ κ (pt σ κ r)) unpaired)
      go true = refl
      go false = ap (row r.side) (open_is r.mark e)
  settle_fair B r (inr (c, e)) =
      pick_false (is_open r.mark) _ r (ap is_open e ∙ told (pt σ κ r)) ∙ ap (row r.side) e ∙ sym (mk_shut B r.side c)

  settles_fair : (B : List ℕ) (rs : List Row) → Fair B rs → settles σ κ B rs ≡ mks B (sides_of rs)
  settles_fair B [] f = refl
  settles_fair B (r ∷ rs) f = let p = settle_fair B r (f r (inl refl)) in let q = settles_fair B rs (λ x h. f x (inr h)) in λ i. p i ∷ q i

  -- ---- the split of marked rows

  abbrev Points : List Placed → Type 0
  Points l = (u : Placed) → In u l → point_of σ κ (bare u) ≡ u.pt

  -- what a test of the point says
  closed_bare : (B : List ℕ) (u : Placed) → point_of σ κ (bare u) ≡ u.pt → Closed σ κ B u.pt → Closed σ κ B (point_of σ κ (bare u))
  closed_bare B u e c = rw e c

  open_bare : (B : List ℕ) (u : Placed) → point_of σ κ (bare u) ≡ u.pt → ¬ (Closed σ κ B u.pt) → ¬ (Closed σ κ B (point_of σ κ (bare u)))
  open_bare B u e h c = h (rw e at c)

  opens_one : (B : List ℕ) (u : Placed) → point_of σ κ (bare u) ≡ u.pt → is_open (mk B (bare u)).mark ≡ not (is_closed σ κ B u.pt)
  opens_one B u p = go (is_closed σ κ B u.pt) refl
    where
      go : (b : Bool) → is_closed σ κ B u.pt ≡ b → is_open (mk B (bare u)).mark ≡ not b
      go true e = mk_told B (bare u) (closed_bare B u p (closed_true σ κ B u.pt e))
      go false e = ap (λ (r : Row). is_open r.mark) (mk_open B (bare u) (open_bare B u p (closed_false σ κ B u.pt e)))

  opens_marked : (B : List ℕ) (l : List Placed) → Points l → opens (mks B (bares l)) ≡ opens_at σ κ B l
  opens_marked B [] p = refl
  opens_marked B (u ∷ l) p = let a = opens_one B u (p u (inl refl)) in let b = opens_marked B l (λ w h. p w (inr h)) in λ i. a i ∷ b i

  abbrev pub halves : List ℕ → List Placed → Placed → List Placed → List Row
  halves B before s behind = mks B (bares before) ++ (row (bare (lower_at σ κ s)) unpaired ∷ row (bare (upper_at σ κ s)) unpaired ∷ mks B (bares behind))

  fits_marked : (B : List ℕ) (before : List Placed) (s : Placed) (behind : List Placed)
      → fits_at (length before) (mks B (bares (before ++ (s ∷ behind)))) ≡ fits (mediant s.lo s.hi)
  fits_marked B [] s behind = refl
  fits_marked B (u ∷ l) s behind = fits_marked B l s behind

  split_marked : (B : List ℕ) (before : List Placed) (s : Placed) (behind : List Placed)
      → split_at (length before) (mks B (bares (before ++ (s ∷ behind)))) ≡ halves B before s behind
  split_marked B [] s behind = refl
  split_marked B (u ∷ l) s behind = ap (λ (x : List Row). mk B (bare u) ∷ x) (split_marked B l s behind)

  module _ (n : ℕ) (T : Turning σ κ n) where
    abbrev pub Partners : List ℕ → List Row → Type 0
    Partners B rs = (r : Row) → In r rs → is_open r.mark ≡ true → In (σ (pt σ κ r)) B → Vacant σ κ n T rs (σ (pt σ κ r))

    pub record Fit (C l : List Placed) (rs : List Row) : Type 0 where
      pub inv : Inv σ κ n C l
      pub sides : sides_of rs ≡ bares l
      pub partners : Partners (pts l) rs
      pub fair : Fair (pts l) rs

    pub placed_points : (C l : List Placed) → Inv σ κ n C l → Points l
    placed_points C l inv u h = (inv.leads u h).is

    owner : (C l : List Placed) (rs : List Row) → Fit C l rs → (r : Row) → In r rs → Owner r.side l
    owner C l rs f r h = in_bares r.side l (rw f.sides at (in_sides r rs h))

    owner_pt : (C l : List Placed) → Inv σ κ n C l → (s : Interval) (o : Owner s l) → point_of σ κ s ≡ o.side.pt
    owner_pt C l inv s o = ap (point_of σ κ) o.is ∙ placed_points C l inv o.side o.among

    -- no side's point lies beyond an odd side
    odd_alone : (C l : List Placed) → Inv σ κ n C l → (u : Placed) → In u l → κ u.pt ≡ u.pt → ¬ (In (σ u.pt) (pts l))
    odd_alone C l inv u h o i =
        let k = pt_of (σ u.pt) l i in
        corner_free σ κ n T inv.tops (corner_pt σ κ n T (ap σ (sym k.pt) ∙ T.twice u.pt) (inv.under k.side k.among)) o

    abbrev spread : List Interval → List ℕ
    spread [] = []
    spread (s ∷ l) = point_of σ κ s ∷ spread l

    points_sides : (rs : List Row) (l : List Placed) → sides_of rs ≡ bares l → Points l → points σ κ rs ≡ pts l
    points_sides rs l e p = to_sides rs ∙ ap spread e ∙ to_points l p
      where
        to_sides : (rs : List Row) → points σ κ rs ≡ spread (sides_of rs)
        to_sides [] = refl
        to_sides (r ∷ rs) = ap (λ (y : List ℕ). pt σ κ r ∷ y) (to_sides rs)

        to_points : (l : List Placed) → Points l → spread (bares l) ≡ pts l
        to_points [] p = refl
        to_points (u ∷ l) p = let a = p u (inl refl) in let b = to_points l (λ w h. p w (inr h)) in λ i. a i ∷ b i

    ready : (C l : List Placed) (rs : List Row) → Fit C l rs → Ready σ κ n T (pts l) rs
    ready C l rs f = record {
      partners = f.partners;
      apart = rw (points_sides rs l f.sides (placed_points C l f.inv)) f.inv.apart;
      odds = λ r h. let o = owner C l rs f r h in rw (owner_pt C l f.inv r.side o) (odd_alone C l f.inv o.side o.among);
      within = λ r h. let o = owner C l rs f r h in rw (owner_pt C l f.inv r.side o) (in_pts o.side l o.among);
      dets = λ r h. let o = owner C l rs f r h in rw o.is (f.inv.dets o.side o.among);
    }

    -- A ROUND OF VISITS MARKS EACH SIDE AS ITS POINT SAYS
    pub visits_mark : (C l : List Placed) (rs : List Row) → Fit C l rs → visit_all σ κ rs ≡ marked l
    visits_mark C l rs f = visits_settle σ κ n T (length rs) (pts l) rs (ready C l rs f) (omega arith) ∙ settles_fair (pts l) rs f.fair
        ∙ ap (mks (pts l)) f.sides

    -- ---- after a split

    module _ (C before : List Placed) (s : Placed) (behind : List Placed) (inv : Inv σ κ n C (before ++ (s ∷ behind)))
        (none : ¬ (Closed σ κ (pts (before ++ (s ∷ behind))) s.pt)) where
      abbrev B : List ℕ
      B = pts (before ++ (s ∷ behind))

      abbrev B' : List ℕ
      B' = pts (before ++ (lower_at σ κ s ∷ upper_at σ κ s ∷ behind))

      abbrev Lo : Row
      Lo = row (bare (lower_at σ κ s)) unpaired

      abbrev Up : Row
      Up = row (bare (upper_at σ κ s)) unpaired

      abbrev rows : List Row
      rows = halves B before s behind

      new_inv : Inv σ κ n (s ∷ C) (before ++ (lower_at σ κ s ∷ upper_at σ κ s ∷ behind))
      new_inv = step σ κ n T C before s behind inv none

      Lo_in : In Lo rows
      Lo_in = in_right Lo (mks B (bares before)) (Lo ∷ Up ∷ mks B (bares behind)) (inl refl)

      Up_in : In Up rows
      Up_in = in_right Up (mks B (bares before)) (Lo ∷ Up ∷ mks B (bares behind)) (inr (inl refl))

      Lo_pt : pt σ κ Lo ≡ σ (κ s.pt)
      Lo_pt = (new_inv.leads (lower_at σ κ s) (in_right _ before (lower_at σ κ s ∷ upper_at σ κ s ∷ behind) (inl refl))).is

      Up_pt : pt σ κ Up ≡ σ (κ (κ s.pt))
      Up_pt = (new_inv.leads (upper_at σ κ s) (in_right _ before (lower_at σ κ s ∷ upper_at σ κ s ∷ behind) (inr (inl refl)))).is

      abbrev Next : Placed → Type 0
      Next u = Beside s (lower_at σ κ s) (upper_at σ κ s) behind u before

      old_pt : (u : Placed) → Next u → point_of σ κ (bare u) ≡ u.pt
      old_pt u h = (inv.leads u (beside_in s (lower_at σ κ s) (upper_at σ κ s) behind u before h)).is

      mk_in : (u : Placed) → Next u → In (mk B (bare u)) rows
      mk_in u (inl h) = in_left _ (mks B (bares before)) (Lo ∷ Up ∷ mks B (bares behind)) (mks_in B u before h)
      mk_in u (inr h) = in_right _ (mks B (bares before)) (Lo ∷ Up ∷ mks B (bares behind)) (inr (inr (mks_in B u behind h)))

      -- a row is one of the halves, or marked as it was
      each : (F : Row → Type 0) → F Lo → F Up → ((u : Placed) → Next u → F (mk B (bare u))) → (r : Row) → In r rows → F r
      each F x y z r h = go (in_either r (mks B (bares before)) (Lo ∷ Up ∷ mks B (bares behind)) h)
        where
          go : In r (mks B (bares before)) ⊎ In r (Lo ∷ Up ∷ mks B (bares behind)) → F r
          go (inl h) = let k = in_mks B r before h in rw k.is (z k.side (inl k.among))
          go (inr (inl e)) = rw e x
          go (inr (inr (inl e))) = rw e y
          go (inr (inr (inr h))) = let k = in_mks B r behind h in rw k.is (z k.side (inr k.among))

      old_in : (u : Placed) → Next u → In u.pt B
      old_in u h = in_pts u (before ++ (s ∷ behind)) (beside_in s (lower_at σ κ s) (upper_at σ κ s) behind u before h)

      -- the partner of x, if it is one of the halves or was open
      partner : (x : ℕ) → ((w : Placed) → Next w → x ≡ w.pt → ¬ (Closed σ κ B w.pt)) → In x B' → Vacant σ κ n T rows x
      partner x f i = let k = pt_of x (before ++ (lower_at σ κ s ∷ upper_at σ κ s ∷ behind)) i in
          go k.side k.pt (split_from s (lower_at σ κ s) (upper_at σ κ s) behind k.side before k.among)
        where
          go : (w : Placed) → x ≡ w.pt → (w ≡ lower_at σ κ s) ⊎ (w ≡ upper_at σ κ s) ⊎ Next w → Vacant σ κ n T rows x
          go w p (inl e) = record { row = Lo; among = Lo_in; open_yet = refl; at = Lo_pt ∙ sym (p ∙ ap (λ (y : Placed). y.pt) e) }
          go w p (inr (inl e)) = record { row = Up; among = Up_in; open_yet = refl; at = Up_pt ∙ sym (p ∙ ap (λ (y : Placed). y.pt) e) }
          go w p (inr (inr h)) = record {
            row = mk B (bare w);
            among = mk_in w h;
            open_yet =
                ap (λ (y : Row). is_open y.mark) (mk_open B (bare w) (open_bare B w (old_pt w h) (f w h p)));
            at = old_pt w h ∙ sym p;
          }

      -- a side whose point is a new corner's was open
      turned_open : (c : Turn) → ¬ (κ (turn_x σ κ c s.pt) ≡ turn_x σ κ c s.pt) → (x : ℕ) → x ≡ turn_x σ κ c s.pt → ¬ (Closed σ κ B x)
      turned_open c f x e (inl o) = f (rw e at o)
      turned_open c f x e (inr i) = not_old σ κ n T C before s behind inv none c (in_is _ _ B (ap σ e) i)

      mv : ¬ (κ s.pt ≡ s.pt)
      mv = moved σ κ n T C before s behind inv none

      free1 : ¬ (κ (κ s.pt) ≡ κ s.pt)
      free1 e = mv (sym (T.thrice (κ s.pt)) ∙ ap κ (ap κ e) ∙ T.thrice s.pt)

      free2 : ¬ (κ (κ (κ s.pt)) ≡ κ (κ s.pt))
      free2 e = mv (ap κ (sym (T.thrice s.pt) ∙ e) ∙ T.thrice s.pt)

      new_partners : Partners B' rows
      new_partners r h = each (λ r. is_open r.mark ≡ true → In (σ (pt σ κ r)) B' → Vacant σ κ n T rows (σ (pt σ κ r)))
          (λ b i. partner _ (λ w k p. turned_open t1 free1 w.pt (sym p ∙ ap σ Lo_pt ∙ T.twice (κ s.pt))) i)
          (λ b i. partner _ (λ w k p. turned_open t2 free2 w.pt (sym p ∙ ap σ Up_pt ∙ T.twice (κ (κ s.pt)))) i)
          (λ u k b i. partner _ (λ w j p. absurd (mk_vacant B (bare u) b (inr (in_is _ _ B (sym p) (old_in w j))))) i)
          r h

      still : (u : Placed) → Next u → Closed σ κ B u.pt → Closed σ κ B' u.pt
      still u h (inl o) = inl o
      still u h (inr i) = inr
          (stays σ κ n T C before s behind inv none (σ u.pt) i (λ e. none (inr (in_is _ _ B (sym (T.twice u.pt) ∙ ap σ e) (old_in u h)))))

      new_fair : Fair B' rows
      new_fair = each (λ r. (is_open r.mark ≡ true) ⊎ (Closed σ κ B' (pt σ κ r) × (r.mark ≡ mark_of σ κ (pt σ κ r)))) (inl refl) (inl refl)
          (λ u h. go u h (is_closed σ κ B (point_of σ κ (bare u))) refl)
        where
          go : (u : Placed) → Next u → (b : Bool) → is_closed σ κ B (point_of σ κ (bare u)) ≡ b
              → (is_open (pick b (mark_of σ κ (point_of σ κ (bare u))) unpaired) ≡ true)
              ⊎ (Closed σ κ B' (point_of σ κ (bare u)) × (pick b (mark_of σ κ (point_of σ κ (bare u))) unpaired ≡ mark_of σ κ (point_of σ κ (bare u))))
          go u h true e = inr (rw (old_pt u h) (still u h (rw (old_pt u h) at (closed_true σ κ B (point_of σ κ (bare u)) e))), refl)
          go u h false e = inl refl

      new_sides : sides_of rows ≡ bares (before ++ (lower_at σ κ s ∷ upper_at σ κ s ∷ behind))
      new_sides =
          sides-++ (mks B (bares before)) (Lo ∷ Up ∷ mks B (bares behind))
          ∙ (let p = sides_mks B (bares before) in let q = sides_mks B (bares behind) in λ i. p i ++ (bare (lower_at σ κ s) ∷ bare (upper_at σ κ s) ∷ q i))
          ∙ sym (bares-++ before (lower_at σ κ s ∷ upper_at σ κ s ∷ behind))

      pub fit_step : Fit (s ∷ C) (before ++ (lower_at σ κ s ∷ upper_at σ κ s ∷ behind)) rows
      fit_step = record { inv = new_inv; sides = new_sides; partners = new_partners; fair = new_fair }

    -- ---- THE RULE IS GROWING BY POINTS

    abbrev pub ruled : Grew → Grown
    ruled (model.finished l) = finished (marked l)
    ruled (model.refused i) = refused i

    module _ (order : Order) where
      pub rounds_are : (f k : ℕ) (came : List ℕ) (C l : List Placed) (rs : List Row) → length came ≡ length l → Fit C l rs
          → rounds order σ κ f k came rs ≡ ruled (grow_by σ κ order f k came l)
      rounds_are zero k came C l rs len a = ap finished (visits_mark C l rs a)
      rounds_are (suc f) k came C l rs len a =
          ap (λ (x : List Row). go_on (rounds order σ κ f) k came x (chosen_by order came (opens x))) (visits_mark C l rs a)
          ∙ ap (λ (x : List Bool). go_on (rounds order σ κ f) k came (marked l) (chosen_by order came x)) (opens_marked (pts l) l (placed_points C l a.inv))
          ∙ go (outcome_by order σ κ came l len) (λ k came C l rs h a. rounds_are f k came C l rs h a)
        where
          go : Rest order σ κ l (chosen_by order came (opens_at σ κ (pts l) l)) ⊎ Cut order σ κ l (chosen_by order came (opens_at σ κ (pts l) l))
              → ((k : ℕ) (came : List ℕ) (C l : List Placed) (rs : List Row) → length came ≡ length l → Fit C l rs
              → rounds order σ κ f k came rs ≡ ruled (grow_by σ κ order f k came l))
              → go_on (rounds order σ κ f) k came (marked l) (chosen_by order came (opens_at σ κ (pts l) l))
              ≡ ruled (model.go_on σ κ (grow_by σ κ order f) k came l (chosen_by order came (opens_at σ κ (pts l) l)))
          go (inl r) ih =
              ap (go_on (rounds order σ κ f) k came (marked l)) r.is
              ∙ sym (ap (λ (x : Chosen). ruled (model.go_on σ κ (grow_by σ κ order f) k came l x)) r.is)
          go (inr r) ih =
              ap (go_on (rounds order σ κ f) k came (marked l)) r.is
              ∙ ap (λ (x : List Placed). go_on (rounds order σ κ f) k came (marked x) (this (length r.before))) r.was
              ∙ rows
              ∙ by_fit (fits (mediant r.side.lo r.side.hi))
              (ih (suc (suc k)) (came_after k (length r.before) came) (r.side ∷ C) new _
              (came_long k came r.before r.side (lower_at σ κ r.side) (upper_at σ κ r.side) r.after (len ∙ ap length r.was))
              (fit_step C r.before r.side r.after (rw r.was at a.inv) r.none))
              ∙ sym (ap (ruled) (ap (model.go_on σ κ (grow_by σ κ order f) k came l) r.is
              ∙ ap (λ (x : List Placed). model.go_on σ κ (grow_by σ κ order f) k came x (this (length r.before))) r.was
              ∙ cut_by_lem order σ κ f k came r.before r.side r.after))
            where
              new : List Placed
              new = r.before ++ (lower_at σ κ r.side ∷ upper_at σ κ r.side ∷ r.after)

              rows : go_on (rounds order σ κ f) k came (marked (r.before ++ (r.side ∷ r.after))) (this (length r.before))
                  ≡ pick (fits (mediant r.side.lo r.side.hi))
                  (rounds order σ κ f (suc (suc k)) (came_after k (length r.before) came)
                  (halves (pts (r.before ++ (r.side ∷ r.after))) r.before r.side r.after)) (refused (length r.before))
              rows =
                  let p = fits_marked (pts (r.before ++ (r.side ∷ r.after))) r.before r.side r.after in
                  let q = split_marked (pts (r.before ++ (r.side ∷ r.after))) r.before r.side r.after in
                  λ i. pick (p i) (rounds order σ κ f (suc (suc k)) (came_after k (length r.before) came) (q i)) (refused (length r.before))

              by_fit : (b : Bool) → rounds order σ κ f (suc (suc k)) (came_after k (length r.before) came)
                  (halves (pts (r.before ++ (r.side ∷ r.after))) r.before r.side r.after)
                  ≡ ruled (grow_by σ κ order f (suc (suc k)) (came_after k (length r.before) came)
                  (r.before ++ (lower_at σ κ r.side ∷ upper_at σ κ r.side ∷ r.after)))
                  → pick b (rounds order σ κ f (suc (suc k)) (came_after k (length r.before) came)
                  (halves (pts (r.before ++ (r.side ∷ r.after))) r.before r.side r.after)) (refused (length r.before))
                  ≡ ruled (pick b (grow_by σ κ order f (suc (suc k)) (came_after k (length r.before) came)
                  (r.before ++ (lower_at σ κ r.side ∷ upper_at σ κ r.side ∷ r.after))) (model.refused (length r.before)))
              by_fit true e = e
              by_fit false e = refl

    pub fit_start : (C l : List Placed) → Inv σ κ n C l → Fit C l (opened l)
    fit_start C l inv = record {
      inv = inv;
      sides = sides_opened l;
      partners = λ r h b i. let k = pt_of _ l i in
          record {
            row = row (bare k.side) unpaired;
            among = in_opened k.side l k.among;
            open_yet = refl;
            at =
                placed_points C l inv k.side k.among ∙ sym k.pt;
          };
      fair = λ r h. inl (all_open r l h);
    }

    -- where all are closed, the marks are those of the points
    pub marked_closed : (C l : List Placed) → Inv σ κ n C l → AllClosed σ κ (pts l) l → marked l ≡ rows_of σ κ l
    marked_closed C l inv a = go (pts l) l (placed_points C l inv) a
      where
        go : (B : List ℕ) (l : List Placed) → Points l → AllClosed σ κ B l → mks B (bares l) ≡ rows_of σ κ l
        go B [] p a = refl
        go B (u ∷ l) p a =
            let x = mk_shut B (bare u) (closed_bare B u (p u (inl refl)) (a u (inl refl))) ∙ ap (λ (m : ℕ). row (bare u) (mark_of σ κ m)) (p u (inl refl)) in
            let y = go B l (λ w h. p w (inr h)) (λ w h. a w (inr h)) in
            λ i. x i ∷ y i
