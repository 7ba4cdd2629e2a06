-- The side that an order chooses is open (`none_open`, `is_open_lem`), and growing by points under an order.
--
--   Opened i came o v    v is an open side: the side v .place - i of those listed
--   Place i l            side i of l is open and stands between others
--   outcome_by           one round of growing: nothing is open (`Rest`), or the chosen side is split or can't be (`Cut`)
--
-- In order: what an order chooses (`first_in_lem`, `first_least`, `none_open`, `is_open_lem`, and of the wide rule `longest_first`); which sides are open
-- (`place`, `all_shut`); the split of a side between others (`parts_at_lem`, `fits_at_lem`, `came_long`); a round (`outcome_by`); growing ends with all sides
-- closed, and with whatever else each split keeps (`ends_by`).
-- Assumes nothing.
use mathlib.Core.Path.{◌≡◌, refl, sym, ◌∙◌, ap}
use mathlib.Core.Logic.{◌⊎◌, inl, inr}
use mathlib.Core.Bool.{Bool, true, false, not}
use mathlib.Core.List.{List, [], ◌∷◌, ◌++◌}
use Prim.Native.Nat.{ℕ, zero, suc, ◌+◌, ◌*◌, ◌<◌, ◌≤◌}
use native.Mathlib.Omega.{arith}
use lib.Dec.{ltb}
use lib.ListN.{length, get_or}
use lib.IntN.{pos}
use borrow.Author.Tests.{ltb-true, ltb-false}
use Rattle.matrix.specs.Matrix.{det}
use Rattle.basics.specs.Choice.{pick}
use Rattle.basics.proofs.Choice.{clash}
use Rattle.import_rule.specs.Side.{mediant, fits}
use Rattle.import_rule.specs.Order.{Open, open_side, Order, longest_open, first_by, open_from, Chosen, none, this, chosen_of, chosen_by}
use Rattle.import_rule.specs.Rule.{came_after}
use Rattle.import_rule.specs.Inner.Placed.{Placed, pts, finished, refused, lower_at, upper_at, is_closed, fits_in, opens_at, parts_at, go_on, grow_by}
use Rattle.import_rule.proofs.Member.{In, in_right}
use Rattle.import_rule.proofs.Lead.{Turning}
use Rattle.import_rule.proofs.Split.{framed, Closed, AllClosed, closed_true, closed_false}
use Rattle.import_rule.proofs.Corners.{triangles}
use Rattle.import_rule.proofs.Kept.{Inv, step, Ends}
use Rattle.import_rule.specs.Theorem.{LongestFirst}

-- ---- what an order chooses

pub first_in_lem : (order : Order) (u : Open) (l : List Open) → In (first_by order u l) (u ∷ l)
first_in_lem order u [] = inl refl
first_in_lem order u (v ∷ l) = go (order v u) (first_in_lem order (pick (order v u) v u) l)
  where
    go : (b : Bool) → In (first_by order (pick b v u) l) (pick b v u ∷ l) → In (first_by order (pick b v u) l) (u ∷ v ∷ l)
    go true (inl e) = inr (inl e)
    go true (inr h) = inr (inr h)
    go false (inl e) = inl e
    go false (inr h) = inr (inr h)

-- where the order is that of a number, the one chosen has the least
pub first_least : (key : Open → ℕ) (u : Open) (l : List Open) (v : Open) → In v (u ∷ l) → key (first_by (λ x y. ltb (key x) (key y)) u l) ≤ key v
first_least key u [] v (inl e) = rw e (omega arith)
first_least key u [] v (inr h) = absurd h
first_least key u (w ∷ l) v h = go (ltb (key w) (key u)) refl (λ x i. first_least key (pick (ltb (key w) (key u)) w u) l x i) h
  where
    go : (b : Bool) → ltb (key w) (key u) ≡ b → ((x : Open) → In x (pick b w u ∷ l) → key (first_by (λ x y. ltb (key x) (key y)) (pick b w u) l) ≤ key x)
        → In v (u ∷ w ∷ l)
        → key (first_by (λ x y. ltb (key x) (key y)) (pick b w u) l) ≤ key v
    go true t f (inl e) = let z = f w (inl refl) in let y = ltb-true (key w) (key u) t in rw e (omega arith)
    go true t f (inr (inl e)) = f v (inl e)
    go true t f (inr (inr i)) = f v (inr i)
    go false t f (inl e) = f v (inl e)
    go false t f (inr (inl e)) = let z = f u (inl refl) in let y = ltb-false (key w) (key u) t in rw e (omega arith)
    go false t f (inr (inr i)) = f v (inr i)

pub record Opened (i : ℕ) (came : List ℕ) (o : List Bool) (v : Open) : Type 0 where
  pub at : ℕ
  pub place : v.place ≡ i + at
  pub open_yet : get_or o at false ≡ true
  pub is : get_or came at 0 ≡ v.came

pub opened_is : (i : ℕ) (came : List ℕ) (o : List Bool) (v : Open) → In v (open_from i came o) → Opened i came o v
opened_is i [] o v h = absurd h
opened_is i (x ∷ came) [] v h = absurd h
opened_is i (x ∷ came) (true ∷ o) v (inl e) = record {
  at = 0;
  place = let z = ap (λ (y : Open). y.place) e in omega arith;
  open_yet = refl;
  is = sym (ap (λ (y : Open). y.came) e);
}
opened_is i (x ∷ came) (true ∷ o) v (inr h) =
    let k = opened_is (suc i) came o v h in
    record { at = suc k.at; place = let z = k.place in omega arith; open_yet = k.open_yet; is = k.is }
opened_is i (x ∷ came) (false ∷ o) v h =
    let k = opened_is (suc i) came o v h in
    record { at = suc k.at; place = let z = k.place in omega arith; open_yet = k.open_yet; is = k.is }

pub is_opened : (i : ℕ) (came : List ℕ) (o : List Bool) (j p : ℕ) → length came ≡ length o → get_or o j false ≡ true → p ≡ i + j
    → In (open_side p (get_or came j 0)) (open_from i came o)
is_opened i [] [] j p h e q = clash e refl
is_opened i [] (b ∷ o) j p h e q = absurd (omega arith)
is_opened i (x ∷ came) [] j p h e q = clash e refl
is_opened i (x ∷ came) (true ∷ o) zero p h e q = inl (ap (λ (y : ℕ). open_side y x) (let z : p ≡ i = omega arith in z))
is_opened i (x ∷ came) (true ∷ o) (suc j) p h e q = inr (is_opened (suc i) came o j p (omega arith) e (omega arith))
is_opened i (x ∷ came) (false ∷ o) zero p h e q = clash e refl
is_opened i (x ∷ came) (false ∷ o) (suc j) p h e q = is_opened (suc i) came o j p (omega arith) e (omega arith)

-- none and this one
pub none_this : {A : Type 0} (i : ℕ) → none ≡ this i → A
none_this i e = let z : ◌≡◌ {A = ℕ} 0 1 = cc in absurd (omega arith)

pub this_this : (i j : ℕ) → this i ≡ this j → i ≡ j
this_this i j e = cc

from_zero : (j : ℕ) → j ≡ 0 + j
from_zero j = omega arith

pub none_open : (order : Order) (came : List ℕ) (o : List Bool) → length came ≡ length o → chosen_by order came o ≡ none → (j : ℕ) → get_or o j false ≡ false
none_open order came o h e j = by (get_or o j false) refl
  where
    go : (l : List Open) → chosen_of order l ≡ none → ¬ (In (open_side j (get_or came j 0)) l)
    go [] q i = i
    go (u ∷ l) q i = none_this (first_by order u l).place (sym q)

    by : (b : Bool) → get_or o j false ≡ b → b ≡ false
    by true t = absurd (go (open_from 0 came o) e (is_opened 0 came o j j h t (from_zero j)))
    by false t = refl

pub record ChosenIs (order : Order) (came : List ℕ) (o : List Bool) (i : ℕ) : Type 0 where
  pub first : Open
  pub rest : List Open
  pub all : open_from 0 came o ≡ first ∷ rest
  pub is : (first_by order first rest).place ≡ i

pub chosen_is : (order : Order) (came : List ℕ) (o : List Bool) (i : ℕ) → chosen_by order came o ≡ this i → ChosenIs order came o i
chosen_is order came o i e = go (open_from 0 came o) refl e
  where
    go : (l : List Open) → open_from 0 came o ≡ l → chosen_of order l ≡ this i → ChosenIs order came o i
    go [] q t = none_this i t
    go (u ∷ l) q t = record { first = u; rest = l; all = q; is = this_this (first_by order u l).place i t }

pub chosen_open : (order : Order) (came : List ℕ) (o : List Bool) (i : ℕ) (c : ChosenIs order came o i) → Opened 0 came o (first_by order c.first c.rest)
chosen_open order came o i c = opened_is 0 came o _ (rw c.all (first_in_lem order c.first c.rest))

pub is_open_lem : (order : Order) (came : List ℕ) (o : List Bool) → length came ≡ length o → (i : ℕ) → chosen_by order came o ≡ this i → get_or o i false ≡ true
is_open_lem order came o h i e =
    let c = chosen_is order came o i e in
    let k = chosen_open order came o i c in
    let z : k.at ≡ i = let x = k.place in let y = c.is in omega arith in
    ap (λ (j : ℕ). get_or o j false) (sym z) ∙ k.open_yet

-- THE SIDE THAT THE WIDE RULE SPLITS came before all other open sides
pub longest_first : LongestFirst
longest_first came o i h e j t =
    let c = chosen_is longest_open came o i e in
    let k = chosen_open longest_open came o i c in
    let v : In (open_side j (get_or came j 0)) (c.first ∷ c.rest) = rw c.all at (is_opened 0 came o j j h t (let z : j ≡ 0 + j = omega arith in z)) in
    let l = first_least (λ u. u.came) c.first c.rest (open_side j (get_or came j 0)) v in
    let z : k.at ≡ i = let x = k.place in let y = c.is in omega arith in
    let y : get_or came i 0 ≡ (first_by longest_open c.first c.rest).came = ap (λ (x : ℕ). get_or came x 0) (sym z) ∙ k.is in
    omega arith

-- ---- which sides are open

not-true : (b : Bool) → not b ≡ true → b ≡ false
not-true true e = clash e refl
not-true false e = refl

not-false : (b : Bool) → not b ≡ false → b ≡ true
not-false true e = refl
not-false false e = clash refl e

module _ (σ κ : ℕ → ℕ) (B : List ℕ) where
  pub record Place (i : ℕ) (l : List Placed) : Type 0 where
    pub before : List Placed
    pub side : Placed
    pub after : List Placed
    pub was : l ≡ before ++ (side ∷ after)
    pub number : i ≡ length before
    pub none : ¬ (Closed σ κ B side.pt)

  pub place : (i : ℕ) (l : List Placed) → get_or (opens_at σ κ B l) i false ≡ true → Place i l
  place i [] e = clash e refl
  place zero (u ∷ l) e =
      record { before = []; side = u; after = l; was = refl; number = refl; none = closed_false σ κ B u.pt (not-true (is_closed σ κ B u.pt) e) }
  place (suc i) (u ∷ l) e =
      let k = place i l e in
      record {
        before =
            u ∷ k.before;
        side = k.side;
        after = k.after;
        was = ap (λ (x : List Placed). u ∷ x) k.was;
        number = ap suc k.number;
        none = k.none;
      }

  pub all_shut : (l : List Placed) → ((i : ℕ) → get_or (opens_at σ κ B l) i false ≡ false) → AllClosed σ κ B l
  all_shut [] f w h = absurd h
  all_shut (u ∷ l) f w (inl e) = rw e (closed_true σ κ B u.pt (not-false (is_closed σ κ B u.pt) (f 0)))
  all_shut (u ∷ l) f w (inr h) = all_shut l (λ i. f (suc i)) w h

  pub opens_long : (l : List Placed) → length (opens_at σ κ B l) ≡ length l
  opens_long [] = refl
  opens_long (u ∷ l) = ap suc (opens_long l)

-- ---- the split of a side between others

pub fits_at_lem : (before : List Placed) (s : Placed) (after : List Placed) → fits_in (length before) (before ++ (s ∷ after)) ≡ fits (mediant s.lo s.hi)
fits_at_lem [] s after = refl
fits_at_lem (u ∷ l) s after = fits_at_lem l s after

pub parts_at_lem : (σ κ : ℕ → ℕ) (before : List Placed) (s : Placed) (after : List Placed)
    → parts_at σ κ (length before) (before ++ (s ∷ after)) ≡ before ++ (lower_at σ κ s ∷ upper_at σ κ s ∷ after)
parts_at_lem σ κ [] s after = refl
parts_at_lem σ κ (u ∷ l) s after = ap (λ (x : List Placed). u ∷ x) (parts_at_lem σ κ l s after)

pub came_long : (k : ℕ) (came : List ℕ) (before : List Placed) (s l r : Placed) (after : List Placed) → length came ≡ length (before ++ (s ∷ after))
    → length (came_after k (length before) came) ≡ length (before ++ (l ∷ r ∷ after))
came_long k [] [] s l r after e = absurd (omega arith)
came_long k [] (u ∷ b) s l r after e = absurd (omega arith)
came_long k (x ∷ came) [] s l r after e = omega arith
came_long k (x ∷ came) (u ∷ b) s l r after e = ap suc (came_long k came b s l r after (omega arith))

-- ---- a round

module _ (order : Order) (σ κ : ℕ → ℕ) where
  pub record Rest (l : List Placed) (o : Chosen) : Type 0 where
    pub is : o ≡ none
    pub all : AllClosed σ κ (pts l) l

  pub record Cut (l : List Placed) (o : Chosen) : Type 0 where
    pub before : List Placed
    pub side : Placed
    pub after : List Placed
    pub was : l ≡ before ++ (side ∷ after)
    pub none : ¬ (Closed σ κ (pts (before ++ (side ∷ after))) side.pt)
    pub is : o ≡ this (length before)

  open_there : (l l' : List Placed) (x : ℕ) → l ≡ l' → ¬ (Closed σ κ (pts l) x) → ¬ (Closed σ κ (pts l') x)
  open_there l l' x e h = rw e at h

  pub outcome_by : (came : List ℕ) (l : List Placed) → length came ≡ length l
      → Rest l (chosen_by order came (opens_at σ κ (pts l) l)) ⊎ Cut l (chosen_by order came (opens_at σ κ (pts l) l))
  outcome_by came l h = go (chosen_by order came (opens_at σ κ (pts l) l)) refl
    where
      long : length came ≡ length (opens_at σ κ (pts l) l)
      long = h ∙ sym (opens_long σ κ (pts l) l)

      go : (o : Chosen) → chosen_by order came (opens_at σ κ (pts l) l) ≡ o → Rest l o ⊎ Cut l o
      go none e = inl (record { is = refl; all = all_shut σ κ (pts l) l (none_open order came (opens_at σ κ (pts l) l) long e) })
      go (this i) e =
          let p = place σ κ (pts l) i l (is_open_lem order came (opens_at σ κ (pts l) l) long i e) in
          inr (record {
            before =
                p.before;
            side =
                p.side;
            after =
                p.after;
            was =
                p.was;
            none = open_there l (p.before ++ (p.side ∷ p.after)) p.side.pt p.was p.none;
            is = ap this p.number;
          })

  -- what growing comes to at a side between others
  pub cut_by_lem : (f k : ℕ) (came : List ℕ) (before : List Placed) (s : Placed) (after : List Placed)
      → go_on σ κ (grow_by σ κ order f) k came (before ++ (s ∷ after)) (this (length before))
      ≡ pick (fits (mediant s.lo s.hi)) (grow_by σ κ order f (suc (suc k)) (came_after k (length before) came)
      (before ++ (lower_at σ κ s ∷ upper_at σ κ s ∷ after))) (refused (length before))
  cut_by_lem f k came before s after =
      let p = fits_at_lem before s after in
      let q = parts_at_lem σ κ before s after in
      λ i. pick (p i) (grow_by σ κ order f (suc (suc k)) (came_after k (length before) came) (q i)) (refused (length before))

  module _ (n : ℕ) (T : Turning σ κ n) where
    -- ---- growing ends with all sides closed

    module _ (P : List Placed → List Placed → Type 0)
        (keep : (C before : List Placed) (s : Placed) (after : List Placed) → det (framed s) ≡ pos 1 → fits (mediant s.lo s.hi) ≡ true
        → P C (before ++ (s ∷ after)) → P (s ∷ C) (before ++ (lower_at σ κ s ∷ upper_at σ κ s ∷ after))) where
      pub ends_by : (f k : ℕ) (came : List ℕ) (C l z : List Placed) → length came ≡ length l → Inv σ κ n C l → P C l → n < 3 * length C + 3 * f
          → grow_by σ κ order f k came l ≡ finished z → Ends σ κ n T P z
      ends_by zero k came C l z len inv p h g = let k = triangles σ κ n T C inv.tops in absurd (omega arith)
      ends_by (suc f) k came C l z len inv p h g = go (outcome_by came l len) (λ k came C l a i p h e. ends_by f k came C l z a i p h e)
        where
          go : Rest l (chosen_by order came (opens_at σ κ (pts l) l)) ⊎ Cut l (chosen_by order came (opens_at σ κ (pts l) l))
              → ((k : ℕ) (came : List ℕ) (C l : List Placed) → length came ≡ length l → Inv σ κ n C l → P C l → n < 3 * length C + 3 * f
              → grow_by σ κ order f k came l ≡ finished z → Ends σ κ n T P z)
              → Ends σ κ n T P z
          go (inl r) ih =
              let e : finished l ≡ finished z = sym (ap (go_on σ κ (grow_by σ κ order f) k came l) r.is) ∙ g in
              let q : l ≡ z = cc in
              rw (← q) (record { tris = C; inv = inv; all = r.all; kept = p })
          go (inr r) ih = by_fit (fits (mediant r.side.lo r.side.hi)) refl
            where
              is : go_on σ κ (grow_by σ κ order f) k came l (chosen_by order came (opens_at σ κ (pts l) l))
                  ≡ pick (fits (mediant r.side.lo r.side.hi))
                  (grow_by σ κ order f (suc (suc k)) (came_after k (length r.before) came)
                  (r.before ++ (lower_at σ κ r.side ∷ upper_at σ κ r.side ∷ r.after))) (refused (length r.before))
              is =
                  ap (go_on σ κ (grow_by σ κ order f) k came l) r.is
                  ∙ ap (λ (x : List Placed). go_on σ κ (grow_by σ κ order f) k came x (this (length r.before))) r.was
                  ∙ cut_by_lem f k came r.before r.side r.after

              by_fit : (b : Bool) → fits (mediant r.side.lo r.side.hi) ≡ b → Ends σ κ n T P z
              by_fit false e =
                  let y : refused (length r.before) ≡ finished z =
                  sym (is ∙ ap (λ (x : Bool). pick x (grow_by σ κ order f (suc (suc k)) (came_after k (length r.before) came)
                  (r.before ++ (lower_at σ κ r.side ∷ upper_at σ κ r.side ∷ r.after))) (refused (length r.before))) e) ∙ g in
                  let w : ◌≡◌ {A = ℕ} 0 1 = cc in
                  absurd (omega arith)
              by_fit true e =
                  let y : grow_by σ κ order f (suc (suc k)) (came_after k (length r.before) came)
                  (r.before ++ (lower_at σ κ r.side ∷ upper_at σ κ r.side ∷ r.after)) ≡ finished z =
                  sym (is ∙ ap (λ (x : Bool). pick x (grow_by σ κ order f (suc (suc k)) (came_after k (length r.before) came)
                  (r.before ++ (lower_at σ κ r.side ∷ upper_at σ κ r.side ∷ r.after))) (refused (length r.before))) e) ∙ g in
                  let i : Inv σ κ n C (r.before ++ (r.side ∷ r.after)) = rw r.was at inv in
                  ih (suc (suc k)) _ (r.side ∷ C) _ (came_long k came r.before r.side (lower_at σ κ r.side) (upper_at σ κ r.side) r.after
                  (len ∙ ap length r.was))
                  (step σ κ n T C r.before r.side r.after i r.none)
                  (keep C r.before r.side r.after (i.dets r.side (in_right r.side r.before (r.side ∷ r.after) (inl refl))) e
                  (rw r.was at p)) (omega arith) y
