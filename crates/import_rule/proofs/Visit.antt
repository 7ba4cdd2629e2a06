-- One round of visits marks every open side as its point says.
--
--   pt r, points rows     the point of a row's side
--   settle B r            an open row with the mark that its point says, where it is closed among sides with the points B
--   Ready B rows          what the visits need of the rows that are left
--
-- In order: the tests of the rule as tests of points (`even_yes`, `odd_yes`, `mates_yes`, and each with its no); what seeking finds
-- (`sought`); settled rows; one more row marked (`next_ready`, `settles_same`); the law (`visits_settle`).
--
-- Why: the partner of an open side is still open and to its right when the side is visited, for pairs are marked together.
-- Assumes nothing.
use mathlib.Core.Path.{◌≡◌, refl, sym, ◌∙◌, ap}
use mathlib.Core.Logic.{◌⊎◌, inl, inr}
use mathlib.Core.Bool.{Bool, true, false, ◌&&◌}
use mathlib.Core.List.{List, [], ◌∷◌, ◌++◌}
use Prim.Native.Nat.{ℕ, zero, suc, ◌+◌, ◌<◌, ◌≤◌}
use native.Mathlib.Omega.{arith}
use lib.Dec.{eqb, ltb}
use lib.ListN.{length}
use lib.IntN.{pos}
use borrow.Author.Tests.{eq-eqb, ne_eqb, eqb-true, eqb-false}
use Rattle.matrix.specs.Matrix.{Mat, ◌⊗◌, 𝟙, adj, det, mat_s, mat_q}
use Rattle.matrix.specs.Words as word
use Rattle.basics.specs.Choice.{pick}
use Rattle.matrix.specs.Action.{at}
use Rattle.matrix.proofs.Matrix.{⊗-assoc, ⊗-idr, adj-⊗, det_one, det_adj}
use Rattle.basics.proofs.Choice.{pick_true, pick_false, either, clash, and_left, and_right}
use Rattle.symbol.specs.Table.{carried}
use Rattle.import_rule.specs.Fixed.{fixes}
use Rattle.import_rule.specs.Side.{Interval, interval_frame}
use Rattle.import_rule.specs.Rule.{Mark, unpaired, even, odd, free, Row, row, is_open, Sought, nobody, found, behind, Visited, visited, least}
use Rattle.import_rule.specs.Rule.{point_of, even_side, odd_side, mates, label, seek, visit_by, visit_side, visit_to, visit_all}
use Rattle.import_rule.specs.Inner.Placed.{is_closed, mark_of}
use Rattle.import_rule.proofs.Member.{In, in_right, Apart, in_is}
use Rattle.import_rule.proofs.Lead.{Turning, Leads, leads_one, leads-≈, leads_step, leads_back, leads_fix}
use Rattle.import_rule.proofs.Split.{Closed, closed_true, true_closed, closed_false, false_closed}
use Rattle.import_rule.proofs.Table.{mark_even, mark_odd, mark_free}
use Rattle.import_rule.proofs.Counting.{least_turn}

-- ---- marks

pub not_free : (x : ℕ) → is_open (free x) ≡ true → ⊥
not_free x e = let z : ◌≡◌ {A = ℕ} 0 1 = cc in omega arith

pub shut_not_open : {b : Bool} → b ≡ false → ¬ (b ≡ true)
shut_not_open e f = clash f e

module _ (σ κ : ℕ → ℕ) where
  abbrev pub pt : Row → ℕ
  pt r = point_of σ κ r.side

  abbrev pub points : List Row → List ℕ
  points [] = []
  points (r ∷ rs) = pt r ∷ points rs

  pub in_points : (r : Row) (rs : List Row) → In r rs → In (pt r) (points rs)
  in_points r [] h = h
  in_points r (s ∷ rs) (inl e) = inl (ap pt e)
  in_points r (s ∷ rs) (inr h) = inr (in_points r rs h)

  pub same_row : (u w : Row) (rs : List Row) → Apart (points rs) → In u rs → In w rs → pt u ≡ pt w → u ≡ w
  same_row u w [] a h k e = absurd h
  same_row u w (s ∷ rs) a (inl h) (inl k) e = h ∙ sym k
  same_row u w (s ∷ rs) a (inl h) (inr k) e = absurd (a.0 (in_is _ _ (points rs) (sym e ∙ ap pt h) (in_points w rs k)))
  same_row u w (s ∷ rs) a (inr h) (inl k) e = absurd (a.0 (in_is _ _ (points rs) (e ∙ ap pt k) (in_points u rs h)))
  same_row u w (s ∷ rs) a (inr h) (inr k) e = same_row u w rs a.1 h k e

  abbrev pub settle : List ℕ → Row → Row
  settle B r = pick (is_open r.mark) (pick (is_closed σ κ B (pt r)) (row r.side (mark_of σ κ (pt r))) r) r

  abbrev pub settles : List ℕ → List Row → List Row
  settles B [] = []
  settles B (r ∷ rs) = settle B r ∷ settles B rs

module _ (σ κ : ℕ → ℕ) (n : ℕ) (T : Turning σ κ n) where
  -- ---- the tests of the rule are tests of points

  abbrev point : Interval → ℕ
  point s = point_of σ κ s

  of_frame : (s : Interval) → det (interval_frame s) ≡ pos 1 → Leads σ κ (interval_frame s) (point s)
  of_frame s d = record { unit = d; is = refl }

  -- m l⁻¹ fixes 0 exactly when m and l lead to one point
  meet_yes : (m l : Mat) (x y : ℕ) → Leads σ κ m x → Leads σ κ l y → fixes σ κ (m ⊗ adj l) ≡ true → x ≡ y
  meet_yes m l x y p q e =
      let g : Leads σ κ (m ⊗ adj l) 0 = record { unit = det_one m (adj l) p.unit (det_adj l ∙ q.unit); is = eqb-true (at σ κ 0 (m ⊗ adj l)) 0 e } in
      let back : m ⊗ adj l ⊗ l ≡ m = ⊗-assoc m (adj l) l ∙ ap (λ (z : Mat). m ⊗ z) (adj-⊗ l q.unit) ∙ ⊗-idr m in
      leads_one σ κ n T p (leads-≈ σ κ n T (inl (sym back)) (leads_fix σ κ n T g q))

  meet_no : (m l : Mat) (x y : ℕ) → Leads σ κ m x → Leads σ κ l y → fixes σ κ (m ⊗ adj l) ≡ false → ¬ (x ≡ y)
  meet_no m l x y p q e z = eqb-false (at σ κ 0 (m ⊗ adj l)) 0 e (leads_back σ κ n T p (record { unit = q.unit; is = q.is ∙ sym z })).is

  pub even_yes : (s : Interval) → det (interval_frame s) ≡ pos 1 → even_side σ κ s ≡ true → σ (point s) ≡ point s
  even_yes s d e = meet_yes (interval_frame s ⊗ mat_s) (interval_frame s) _ _ (leads_step σ κ n T word.S (of_frame s d)) (of_frame s d) e

  pub even_no : (s : Interval) → det (interval_frame s) ≡ pos 1 → even_side σ κ s ≡ false → ¬ (σ (point s) ≡ point s)
  even_no s d e = meet_no (interval_frame s ⊗ mat_s) (interval_frame s) _ _ (leads_step σ κ n T word.S (of_frame s d)) (of_frame s d) e

  pub odd_yes : (s : Interval) → det (interval_frame s) ≡ pos 1 → odd_side σ κ s ≡ true → κ (point s) ≡ point s
  odd_yes s d e = meet_yes (interval_frame s ⊗ mat_q) (interval_frame s) _ _ (leads_step σ κ n T word.Q (of_frame s d)) (of_frame s d) e

  pub odd_no : (s : Interval) → det (interval_frame s) ≡ pos 1 → odd_side σ κ s ≡ false → ¬ (κ (point s) ≡ point s)
  odd_no s d e = meet_no (interval_frame s ⊗ mat_q) (interval_frame s) _ _ (leads_step σ κ n T word.Q (of_frame s d)) (of_frame s d) e

  pub mates_yes : (s q : Interval) → det (interval_frame s) ≡ pos 1 → det (interval_frame q) ≡ pos 1 → mates σ κ s q ≡ true → σ (point q) ≡ point s
  mates_yes s q d e t = meet_yes (interval_frame q ⊗ mat_s) (interval_frame s) _ _ (leads_step σ κ n T word.S (of_frame q e)) (of_frame s d) t

  pub mates_no : (s q : Interval) → det (interval_frame s) ≡ pos 1 → det (interval_frame q) ≡ pos 1 → mates σ κ s q ≡ false → ¬ (σ (point q) ≡ point s)
  mates_no s q d e t = meet_no (interval_frame q ⊗ mat_s) (interval_frame s) _ _ (leads_step σ κ n T word.S (of_frame q e)) (of_frame s d) t

  -- ---- what seeking finds

  pub record Hit (s : Interval) (rs : List Row) (x : ℕ) (l : List Row) : Type 0 where
    pub before : List Row
    pub hit : Row
    pub after : List Row
    pub was : rs ≡ before ++ (hit ∷ after)
    pub is : l ≡ before ++ (row hit.side (free x) ∷ after)
    pub by : x ≡ least (point s) (pt σ κ hit)
    pub vacant : is_open hit.mark ≡ true
    pub pairs : σ (pt σ κ hit) ≡ point s

  abbrev pub Nobody : Interval → List Row → Type 0
  Nobody s rs = (q : Row) → In q rs → is_open q.mark ≡ true → ¬ (σ (pt σ κ q) ≡ point s)

  abbrev Seen : Interval → List Row → Sought → Type 0
  Seen s rs nobody = Nobody s rs
  Seen s rs (found x l) = Hit s rs x l

  abbrev Dets : List Row → Type 0
  Dets rs = (r : Row) → In r rs → det (interval_frame r.side) ≡ pos 1

  seen_behind : (s : Interval) (r : Row) (rs : List Row) (o : Sought) → (is_open r.mark ≡ true → ¬ (σ (pt σ κ r) ≡ point s)) → Seen s rs o
      → Seen s (r ∷ rs) (behind r o)
  seen_behind s r rs nobody h f = go
    where
      go : (q : Row) → In q (r ∷ rs) → is_open q.mark ≡ true → ¬ (σ (pt σ κ q) ≡ point s)
      go q (inl e) b p = h (sym (ap (λ (x : Row). is_open x.mark) e) ∙ b) (sym (ap (λ (x : Row). σ (pt σ κ x)) e) ∙ p)
      go q (inr i) b p = f q i b p
  seen_behind s r rs (found x l) h f = record {
    before = r ∷ f.before;
    hit = f.hit;
    after = f.after;
    was = ap (λ (y : List Row). r ∷ y) f.was;
    is = ap (λ (y : List Row). r ∷ y) f.is;
    by = f.by;
    vacant = f.vacant;
    pairs = f.pairs;
  }

  sought : (s : Interval) (rs : List Row) → det (interval_frame s) ≡ pos 1 → Dets rs → Seen s rs (seek σ κ s rs)
  sought s [] d ds = λ q h b p. h
  sought s (r ∷ rs) d ds = go (is_open r.mark) refl (mates σ κ s r.side) refl (sought s rs d (λ q h. ds q (inr h)))
    where
      by_test : (b : Bool) → (is_open r.mark && mates σ κ s r.side) ≡ b
          → Seen s (r ∷ rs) (pick b (found (label σ κ s r.side) (row r.side (free (label σ κ s r.side)) ∷ rs)) (behind r (seek σ κ s rs)))
          → Seen s (r ∷ rs) (seek σ κ s (r ∷ rs))
      by_test b e f = rw e f

      go : (a : Bool) → is_open r.mark ≡ a → (b : Bool) → mates σ κ s r.side ≡ b → Seen s rs (seek σ κ s rs) → Seen s (r ∷ rs) (seek σ κ s (r ∷ rs))
      go true p true q f = by_test true (ap (λ (x : Bool). x && mates σ κ s r.side) p ∙ q) (record {
        before = [];
        hit = r;
        after = rs;
        was = refl;
        is = refl;
        by = refl;
        vacant = p;
        pairs = mates_yes s r.side d (ds r (inl refl)) q;
      })
      go true p false q f = by_test false (ap (λ (x : Bool). x && mates σ κ s r.side) p ∙ q)
          (seen_behind s r rs (seek σ κ s rs) (λ o. mates_no s r.side d (ds r (inl refl)) q) f)
      go false p b q f = by_test false (ap (λ (x : Bool). x && mates σ κ s r.side) p) (seen_behind s r rs (seek σ κ s rs) (λ o. clash o p) f)

  -- ---- what the visits need of the rows that are left, B the points of all

  pub record Vacant (rs : List Row) (x : ℕ) : Type 0 where
    pub row : Row
    pub among : In row rs
    pub open_yet : is_open row.mark ≡ true
    pub at : pt σ κ row ≡ x

  pub record Ready (B : List ℕ) (rs : List Row) : Type 0 where
    pub partners : (r : Row) → In r rs → is_open r.mark ≡ true → In (σ (pt σ κ r)) B → Vacant rs (σ (pt σ κ r))
    pub apart : Apart (points σ κ rs)
    pub odds : (r : Row) → In r rs → κ (pt σ κ r) ≡ pt σ κ r → ¬ (In (σ (pt σ κ r)) B)
    pub within : (r : Row) → In r rs → In (pt σ κ r) B
    pub dets : Dets rs

  -- the first is done with where it is nobody's partner
  drop_first : (B : List ℕ) (r : Row) (rs : List Row) → Ready B (r ∷ rs)
      → ((q : Row) → In q rs → is_open q.mark ≡ true → σ (pt σ κ q) ≡ pt σ κ r → is_open r.mark ≡ true → ⊥) → Ready B rs
  drop_first B r rs a h = record {
    partners = partners;
    apart = a.apart.1;
    odds = λ q i. a.odds q (inr i);
    within = λ q i. a.within q (inr i);
    dets =
        λ q i. a.dets q (inr i);
  }
    where
      partners : (q : Row) → In q rs → is_open q.mark ≡ true → In (σ (pt σ κ q)) B → Vacant rs (σ (pt σ κ q))
      partners q i b c = let k = a.partners q (inr i) b c in go k.row k.among k.open_yet k.at
        where
          go : (u : Row) → In u (r ∷ rs) → is_open u.mark ≡ true → pt σ κ u ≡ σ (pt σ κ q) → Vacant rs (σ (pt σ κ q))
          go u (inl e) v p = absurd (h q i b (sym p ∙ ap (pt σ κ) e) (sym (ap (λ (x : Row). is_open x.mark) e) ∙ v))
          go u (inr j) v p = record { row = u; among = j; open_yet = v; at = p }

  -- ---- settled rows

  settle_marked : (B : List ℕ) (r : Row) → is_open r.mark ≡ false → settle σ κ B r ≡ r
  settle_marked B r e = pick_false (is_open r.mark) _ r e

  settle_open : (B : List ℕ) (r : Row) → ¬ (Closed σ κ B (pt σ κ r)) → settle σ κ B r ≡ r
  settle_open B r h = go (is_open r.mark)
    where
      go : (b : Bool) → pick b (pick (is_closed σ κ B (pt σ κ r)) (row r.side (mark_of σ κ (pt σ κ r))) r) r ≡ r
      go true = pick_false (is_closed σ κ B (pt σ κ r)) _ r (false_closed σ κ B (pt σ κ r) h)
      go false = refl

  settle_shut : (B : List ℕ) (r : Row) → is_open r.mark ≡ true → Closed σ κ B (pt σ κ r) → settle σ κ B r ≡ row r.side (mark_of σ κ (pt σ κ r))
  settle_shut B r e c = pick_true (is_open r.mark) _ r e ∙ pick_true (is_closed σ κ B (pt σ κ r)) _ r (true_closed σ κ B (pt σ κ r) c)

  settles-++ : (B : List ℕ) (l r : List Row) → settles σ κ B (l ++ r) ≡ settles σ κ B l ++ settles σ κ B r
  settles-++ B [] r = refl
  settles-++ B (x ∷ l) r = ap (λ (y : List Row). settle σ κ B x ∷ y) (settles-++ B l r)

  -- ---- one more marked

  points_hit : (h : Row) (m : Mark) (before after : List Row) → points σ κ (before ++ (row h.side m ∷ after)) ≡ points σ κ (before ++ (h ∷ after))
  points_hit h m [] after = refl
  points_hit h m (b ∷ bs) after = ap (λ (x : List ℕ). pt σ κ b ∷ x) (points_hit h m bs after)

  length_hit : (h k : Row) (before after : List Row) → length (before ++ (k ∷ after)) ≡ length (before ++ (h ∷ after))
  length_hit h k [] after = refl
  length_hit h k (b ∷ bs) after = ap suc (length_hit h k bs after)

  -- who is in the one list is in the other, or is the one that changed
  swap_in : (h k u : Row) (before after : List Row) → In u (before ++ (k ∷ after)) → (u ≡ k) ⊎ In u (before ++ (h ∷ after))
  swap_in h k u [] after (inl e) = inl e
  swap_in h k u [] after (inr i) = inr (inr i)
  swap_in h k u (b ∷ bs) after (inl e) = inr (inl e)
  swap_in h k u (b ∷ bs) after (inr i) = elim (swap_in h k u bs after i) [ inl e ↦ inl e | inr j ↦ inr (inr j) ]

  module _ (B : List ℕ) (r h : Row) (before after : List Row) (x : ℕ) (a : Ready B (r ∷ (before ++ (h ∷ after)))) (by : x ≡ least (pt σ κ r) (pt σ κ h))
      (v : is_open h.mark ≡ true) (p : σ (pt σ κ h) ≡ pt σ κ r) where
    abbrev rs : List Row
    rs = before ++ (h ∷ after)

    abbrev marked : Row
    marked = row h.side (free x)

    abbrev l : List Row
    l = before ++ (marked ∷ after)

    h_in : In h rs
    h_in = in_right h before (h ∷ after) (inl refl)

    m_in : In marked l
    m_in = in_right marked before (marked ∷ after) (inl refl)

    l_apart : Apart (points σ κ l)
    l_apart = rw (points_hit h (free x) before after) a.apart.1

    -- of a new row, what holds of the old ones' sides
    of_l : (F : Interval → Type 0) → ((q : Row) → In q rs → F q.side) → (q : Row) → In q l → F q.side
    of_l F f q i = go (swap_in h marked q before after i)
      where
        go : (q ≡ marked) ⊎ In q rs → F q.side
        go (inl e) = rw e (f h h_in)
        go (inr j) = f q j

    next_ready : Ready B l
    next_ready = record {
      partners = partners;
      apart = l_apart;
      odds = of_l (λ s. κ (point s) ≡ point s → ¬ (In (σ (point s)) B)) (λ q i. a.odds q (inr i));
      within = of_l (λ s. In (point s) B) (λ q i. a.within q (inr i));
      dets = of_l (λ s. det (interval_frame s) ≡ pos 1) (λ q i. a.dets q (inr i));
    }
      where
        partners : (q : Row) → In q l → is_open q.mark ≡ true → In (σ (pt σ κ q)) B → Vacant l (σ (pt σ κ q))
        partners q i b c = from (swap_in h marked q before after i)
          where
            other : In q rs → (u : Row) → In u (r ∷ rs) → is_open u.mark ≡ true → pt σ κ u ≡ σ (pt σ κ q) → Vacant l (σ (pt σ κ q))
            other j u (inl e) w z =
                let y : pt σ κ q ≡ pt σ κ marked = sym (T.twice (pt σ κ q)) ∙ ap σ (sym z ∙ ap (pt σ κ) e ∙ sym p) ∙ T.twice (pt σ κ h) in
                let same : q ≡ marked = same_row σ κ q marked l l_apart i m_in y in
                absurd (not_free x (sym (ap (λ (t : Row). is_open t.mark) same) ∙ b))
            other j u (inr k) w z = go (swap_in marked h u before after k)
              where
                go : (u ≡ h) ⊎ In u l → Vacant l (σ (pt σ κ q))
                go (inr t) = record { row = u; among = t; open_yet = w; at = z }
                go (inl e) =
                    let y : pt σ κ q ≡ pt σ κ r = sym (T.twice (pt σ κ q)) ∙ ap σ (sym z ∙ ap (pt σ κ) e) ∙ p in
                    absurd (a.apart.0 (in_is _ _ (points σ κ rs) y (in_points σ κ q rs j)))

            from : (q ≡ marked) ⊎ In q rs → Vacant l (σ (pt σ κ q))
            from (inl e) = absurd (not_free x (sym (ap (λ (t : Row). is_open t.mark) e) ∙ b))
            from (inr j) = let k = a.partners q (inr j) b c in other j k.row k.among k.open_yet k.at

    hit_not_even : ¬ (σ (pt σ κ h) ≡ pt σ κ h)
    hit_not_even e = a.apart.0 (in_is _ _ (points σ κ rs) (sym e ∙ p) (in_points σ κ h rs h_in))

    r_in : In (σ (pt σ κ h)) B
    r_in = rw p (a.within r (inl refl))

    hit_mark : mark_of σ κ (pt σ κ h) ≡ free x
    hit_mark = mark_free σ κ (pt σ κ h) hit_not_even (λ o. a.odds h (inr h_in) o r_in)
        ∙ ap free (ap (least (pt σ κ h)) p ∙ least_turn (pt σ κ h) (pt σ κ r) ∙ sym by)

    -- the partner is settled the same
    settles_same : settles σ κ B l ≡ settles σ κ B rs
    settles_same =
        settles-++ B before (marked ∷ after)
        ∙ ap (λ (y : Row). settles σ κ B before ++ (y ∷ settles σ κ B after)) (ap (row h.side) (sym hit_mark) ∙ sym (settle_shut B h v (inr r_in)))
        ∙ sym (settles-++ B before (h ∷ after))

    beyond_r : σ (pt σ κ r) ≡ pt σ κ h
    beyond_r = ap σ (sym p) ∙ T.twice (pt σ κ h)

    h_closes : In (σ (pt σ κ r)) B
    h_closes = in_is _ _ B (sym beyond_r) (a.within h (inr h_in))

    own_label_lem : x ≡ least (pt σ κ r) (σ (pt σ κ r))
    own_label_lem = by ∙ ap (least (pt σ κ r)) (sym beyond_r)

  -- ---- THE VISITS SETTLE EVERY SIDE BY ITS POINT

  go_on : ℕ → Visited → List Row
  go_on f x = x.row ∷ visit_to σ κ f x.rest

  pub visits_settle : (f : ℕ) (B : List ℕ) (rs : List Row) → Ready B rs → length rs ≤ f → visit_to σ κ f rs ≡ settles σ κ B rs
  unfolding go_on
  visits_settle zero B [] a h = refl
  visits_settle zero B (r ∷ rs) a h = absurd (omega arith)
  visits_settle (suc f) B [] a h = refl
  visits_settle (suc f) B (r ∷ rs) a h = by_mark (is_open r.mark) refl (λ l b k. visits_settle f B l b k)
    where
      d : det (interval_frame r.side) ≡ pos 1
      d = a.dets r (inl refl)

      cons : {x y : Row} {l m : List Row} → x ≡ y → l ≡ m → x ∷ l ≡ y ∷ m
      cons p q = λ i. p i ∷ q i

      -- neither even nor odd: it stays open, or finds its partner
      by_seek : is_open r.mark ≡ true → ¬ (σ (pt σ κ r) ≡ pt σ κ r) → ¬ (κ (pt σ κ r) ≡ pt σ κ r)
          → ((l : List Row) → Ready B l → length l ≤ f → visit_to σ κ f l ≡ settles σ κ B l)
          → (o : Sought) → Seen r.side rs o → go_on f (visit_by σ κ o r rs) ≡ settle σ κ B r ∷ settles σ κ B rs
      by_seek e ne nq ih nobody s = cons (sym (settle_open B r shut)) (ih rs (drop_first B r rs a (λ q i b p w. s q i b p)) (omega arith))
        where
          away : Vacant (r ∷ rs) (σ (pt σ κ r)) → ⊥
          away k = out k.row k.among k.open_yet k.at
            where
              out : (u : Row) → In u (r ∷ rs) → is_open u.mark ≡ true → pt σ κ u ≡ σ (pt σ κ r) → ⊥
              out u (inl z) w p = ne (sym p ∙ ap (pt σ κ) z)
              out u (inr j) w p = s u j w (ap σ p ∙ T.twice (pt σ κ r))

          shut : Closed σ κ B (pt σ κ r) → ⊥
          shut (inl o) = nq o
          shut (inr i) = away (a.partners r (inl refl) e i)
      by_seek e ne nq ih (found x l) s =
          let a' : Ready B (r ∷ (s.before ++ (s.hit ∷ s.after))) = rw s.was at a in
          let ready = next_ready B r s.hit s.before s.after x a' s.by s.vacant s.pairs in
          let closes = h_closes B r s.hit s.before s.after x a' s.by s.vacant s.pairs in
          let own = own_label_lem B r s.hit s.before s.after x a' s.by s.vacant s.pairs in
          let m : row r.side (free x) ≡ settle σ κ B r =
          sym (settle_shut B r e (inr closes) ∙ ap (row r.side) (mark_free σ κ (pt σ κ r) ne nq ∙ ap free (sym own))) in
          let k : length (s.before ++ (row s.hit.side (free x) ∷ s.after)) ≡ length rs =
          length_hit s.hit (row s.hit.side (free x)) s.before s.after ∙ ap length (sym s.was) in
          cons m (ap (visit_to σ κ f) s.is ∙ ih _ ready (omega arith) ∙ settles_same B r s.hit s.before s.after x a' s.by s.vacant s.pairs
          ∙ ap (settles σ κ B) (sym s.was))

      by_odd : is_open r.mark ≡ true → ¬ (σ (pt σ κ r) ≡ pt σ κ r) → (b : Bool) → odd_side σ κ r.side ≡ b
          → ((l : List Row) → Ready B l → length l ≤ f → visit_to σ κ f l ≡ settles σ κ B l)
          → go_on f (pick b (visited (row r.side odd) rs) (visit_by σ κ (seek σ κ r.side rs) r rs)) ≡ settle σ κ B r ∷ settles σ κ B rs
      by_odd e ne true t ih =
          let o = odd_yes r.side d t in
          cons (sym (settle_shut B r e (inl o) ∙ ap (row r.side) (mark_odd σ κ (pt σ κ r) ne o)))
          (ih rs (drop_first B r rs a (λ q i b p w. a.odds r (inl refl) o (in_is _ _ B (sym (T.twice (pt σ κ q)) ∙ ap σ p) (a.within q (inr i)))))
          (omega arith))
      by_odd e ne false t ih = by_seek e ne (odd_no r.side d t) ih (seek σ κ r.side rs) (sought r.side rs d (λ q i. a.dets q (inr i)))

      by_even : is_open r.mark ≡ true → (b : Bool) → even_side σ κ r.side ≡ b
          → ((l : List Row) → Ready B l → length l ≤ f → visit_to σ κ f l ≡ settles σ κ B l)
          → go_on f (pick b (visited (row r.side even) rs)
          (pick (odd_side σ κ r.side) (visited (row r.side odd) rs) (visit_by σ κ (seek σ κ r.side rs) r rs))) ≡ settle σ κ B r ∷ settles σ κ B rs
      by_even e true t ih =
          let z = even_yes r.side d t in
          cons (sym (settle_shut B r e (inr (rw z (a.within r (inl refl)))) ∙ ap (row r.side) (mark_even σ κ (pt σ κ r) z)))
          (ih rs (drop_first B r rs a (λ q i b p w. a.apart.0 (in_is _ _ (points σ κ rs) (sym (T.twice (pt σ κ q)) ∙ ap σ p ∙ z) (in_points σ κ q rs i))))
          (omega arith))
      by_even e false t ih = by_odd e (even_no r.side d t) (odd_side σ κ r.side) refl ih

      by_mark : (b : Bool) → is_open r.mark ≡ b → ((l : List Row) → Ready B l → length l ≤ f → visit_to σ κ f l ≡ settles σ κ B l)
          → go_on f (visit_side σ κ r rs) ≡ settle σ κ B r ∷ settles σ κ B rs
      by_mark true e ih = ap (go_on f) (pick_true (is_open r.mark) _ (visited r rs) e) ∙ by_even e (even_side σ κ r.side) refl ih
      by_mark false e ih = ap (go_on f) (pick_false (is_open r.mark) _ (visited r rs) e)
          ∙ cons (sym (settle_marked B r e)) (ih rs (drop_first B r rs a (λ q i b p w. clash w e)) (omega arith))
