-- The order `leftmost`, the quick way: from the left, only the first side that is not done with is looked at; a split puts its two parts in its
-- place.
--
--   Going done todo      the sides done are closed, those to do follow them, and growing the start comes to growing all of them
--
-- In order: what is chosen where the sides done are closed (`leftmost_none`, `leftmost_this`); the start, a side moved on, a side split, a side that
-- can't be split, the end (`going_start`, `going_move`, `going_split`, `going_over`, `going_end`); how many there are (`going_size`).
-- Assumes nothing.
use mathlib.Core.Path.{◌≡◌, refl, sym, ◌∙◌, ap}
use mathlib.Core.Logic.{◌⊎◌, inl, inr}
use mathlib.Core.Bool.{Bool, true, false, not}
use mathlib.Core.List.{List, [], ◌∷◌, ◌++◌, append-nil}
use Prim.Native.Nat.{ℕ, suc, ◌+◌, ◌*◌, ◌-◌, ◌≤◌}
use native.Mathlib.Omega.{arith}
use lib.ListN.{length}
use borrow.Author.Tests.{le-ltb}
use Rattle.basics.specs.Choice.{pick}
use Rattle.import_rule.specs.Side.{mediant, fits}
use Rattle.import_rule.specs.Order.{Open, open_side, leftmost, first_by, open_from, none, this, chosen_of, chosen_by}
use Rattle.import_rule.specs.Rule.{came_after, start_came}
use Rattle.import_rule.specs.Inner.Placed.{Placed, pts, finished, refused, lower_at, upper_at, opens_at, grow}
use Rattle.import_rule.proofs.Member.{In, in_left, in_either, in_is}
use Rattle.import_rule.proofs.Lead.{Turning}
use Rattle.import_rule.proofs.Split.{Closed, AllClosed, true_closed, false_closed, in_pts}
use Rattle.import_rule.proofs.Kept.{Inv, stays}
use Rattle.import_rule.proofs.Start.{Kept}
use Rattle.import_rule.proofs.Order.{opened_is}
use Rattle.import_rule.proofs.Growing.{Growing, growing_start, growing_size, growing_over, growing_split, growing_end}

-- ---- the leftmost open side

-- one that stands before all others is chosen
stays_first : (u : Open) (l : List Open) → ((v : Open) → In v l → u.place ≤ v.place) → first_by leftmost u l ≡ u
stays_first u [] f = refl
stays_first u (v ∷ l) f =
    ap (λ (b : Bool). first_by leftmost (pick b v u) l) (le-ltb v.place u.place (f v (inl refl))) ∙ stays_first u l (λ w h. f w (inr h))

module _ (σ κ : ℕ → ℕ) (B : List ℕ) where
  none_from : (i : ℕ) (came : List ℕ) (l : List Placed) → AllClosed σ κ B l → open_from i came (opens_at σ κ B l) ≡ []
  none_from i [] l a = refl
  none_from i (x ∷ came) [] a = refl
  none_from i (x ∷ came) (u ∷ l) a =
      ap (λ (b : Bool). pick (not b) (open_side i x ∷ open_from (suc i) came (opens_at σ κ B l)) (open_from (suc i) came (opens_at σ κ B l)))
      (true_closed σ κ B u.pt (a u (inl refl)))
      ∙ none_from (suc i) came l (λ w h. a w (inr h))

  pub leftmost_none : (came : List ℕ) (l : List Placed) → AllClosed σ κ B l → chosen_by leftmost came (opens_at σ κ B l) ≡ none
  leftmost_none came l a = ap (chosen_of leftmost) (none_from 0 came l a)

  this_from : (i : ℕ) (came : List ℕ) (done : List Placed) (s : Placed) (todo : List Placed) → length came ≡ length (done ++ (s ∷ todo)) → AllClosed σ κ B done
      → ¬ (Closed σ κ B s.pt)
      → chosen_of leftmost (open_from i came (opens_at σ κ B (done ++ (s ∷ todo)))) ≡ this (i + length done)
  this_from i [] [] s todo h a e = absurd (omega arith)
  this_from i [] (u ∷ done) s todo h a e = absurd (omega arith)
  this_from i (x ∷ came) [] s todo h a e =
      ap (λ (b : Bool). chosen_of leftmost (pick (not b) (open_side i x ∷ open_from (suc i) came (opens_at σ κ B todo))
      (open_from (suc i) came (opens_at σ κ B todo)))) (false_closed σ κ B s.pt e)
      ∙ ap (λ (u : Open). this u.place) (stays_first (open_side i x) (open_from (suc i) came (opens_at σ κ B todo)) late)
      ∙ ap this (let z : i ≡ i + 0 = omega arith in z)
    where
      late : (v : Open) → In v (open_from (suc i) came (opens_at σ κ B todo)) → i ≤ v.place
      late v k = let z = (opened_is (suc i) came (opens_at σ κ B todo) v k).place in omega arith
  this_from i (x ∷ came) (u ∷ done) s todo h a e =
      ap (λ (b : Bool). chosen_of leftmost (pick (not b) (open_side i x ∷ open_from (suc i) came (opens_at σ κ B (done ++ (s ∷ todo))))
      (open_from (suc i) came (opens_at σ κ B (done ++ (s ∷ todo)))))) (true_closed σ κ B u.pt (a u (inl refl)))
      ∙ this_from (suc i) came done s todo (omega arith) (λ w k. a w (inr k)) e
      ∙ ap this (let z : suc i + length done ≡ i + suc (length done) = omega arith in z)

  pub leftmost_this : (came : List ℕ) (done : List Placed) (s : Placed) (todo : List Placed) → length came ≡ length (done ++ (s ∷ todo)) → AllClosed σ κ B done
      → ¬ (Closed σ κ B s.pt)
      → chosen_by leftmost came (opens_at σ κ B (done ++ (s ∷ todo))) ≡ this (length done)
  leftmost_this came done s todo h a e = this_from 0 came done s todo h a e ∙ ap this (let z : 0 + length done ≡ length done = omega arith in z)

snoc : (l : List Placed) (s : Placed) (r : List Placed) → (l ++ (s ∷ [])) ++ r ≡ l ++ (s ∷ r)
snoc [] s r = refl
snoc (x ∷ l) s r = ap (λ (y : List Placed). x ∷ y) (snoc l s r)

module _ (σ κ : ℕ → ℕ) (n : ℕ) (start : List Placed) where
  pub record Going (done todo : List Placed) : Type 0 where
    pub number : ℕ
    pub came : List ℕ
    pub growing : Growing leftmost σ κ n start number came (done ++ todo)
    pub shut : AllClosed σ κ (pts (done ++ todo)) done

  module _ (T : Turning σ κ n) where
    pub going_start : (tri : Placed) → Inv σ κ n (tri ∷ []) start → Kept (tri ∷ []) start → Going [] start
    going_start tri inv kept = record { number = 3; came = start_came; growing = growing_start leftmost σ κ n start T tri inv kept; shut = λ u h. absurd h }

    pub going_size : (done todo : List Placed) → Going done todo → 3 * length (done ++ todo) ≤ n + 6
    going_size done todo g = growing_size leftmost σ κ n start T g.number g.came (done ++ todo) g.growing

    pub going_move : (done : List Placed) (s : Placed) (todo : List Placed) → Going done (s ∷ todo) → Closed σ κ (pts (done ++ (s ∷ todo))) s.pt
        → Going (done ++ (s ∷ [])) todo
    going_move done s todo g c =
        let e = snoc done s todo in
        record { number = g.number; came = g.came; growing = rw e g.growing; shut = rw e shut }
      where
        shut : AllClosed σ κ (pts (done ++ (s ∷ todo))) (done ++ (s ∷ []))
        shut u h = go (in_either u done (s ∷ []) h)
          where
            go : In u done ⊎ In u (s ∷ []) → Closed σ κ (pts (done ++ (s ∷ todo))) u.pt
            go (inl i) = g.shut u i
            go (inr (inl q)) = rw q c
            go (inr (inr i)) = absurd i

    module _ (done : List Placed) (s : Placed) (todo : List Placed) (g : Going done (s ∷ todo)) (h : ¬ (Closed σ κ (pts (done ++ (s ∷ todo))) s.pt)) where
      says : chosen_by leftmost g.came (opens_at σ κ (pts (done ++ (s ∷ todo))) (done ++ (s ∷ todo))) ≡ this (length done)
      says = leftmost_this σ κ (pts (done ++ (s ∷ todo))) g.came done s todo g.growing.long g.shut h

      pub going_over : fits (mediant s.lo s.hi) ≡ false → grow σ κ leftmost n start ≡ refused (length done)
      going_over f = growing_over leftmost σ κ n start T g.number g.came done s todo g.growing h says f

      pub going_split : fits (mediant s.lo s.hi) ≡ true → Going done (lower_at σ κ s ∷ upper_at σ κ s ∷ todo)
      going_split f = record {
        number = suc (suc g.number);
        came = came_after g.number (length done) g.came;
        growing = growing_split leftmost σ κ n start T g.number g.came done s todo g.growing h says f;
        shut = λ u i. still u i (g.shut u i);
      }
        where
          still : (u : Placed) → In u done → Closed σ κ (pts (done ++ (s ∷ todo))) u.pt
              → Closed σ κ (pts (done ++ (lower_at σ κ s ∷ upper_at σ κ s ∷ todo))) u.pt
          still u i (inl o) = inl o
          still u i (inr j) =
              let u-in = in_pts u (done ++ (s ∷ todo)) (in_left u done (s ∷ todo) i) in
              inr (stays σ κ n T g.growing.tris done s todo g.growing.inv h (σ u.pt) j
              (λ e. h (inr (in_is _ _ (pts (done ++ (s ∷ todo))) (sym (T.twice u.pt) ∙ ap σ e) u-in))))

    pub going_end : (done : List Placed) → Going done [] → grow σ κ leftmost n start ≡ finished done
    going_end done g =
        let e = append-nil done in
        let a : AllClosed σ κ (pts (done ++ [])) (done ++ []) = rw (ap (AllClosed σ κ (pts (done ++ []))) e) g.shut in
        growing_end leftmost σ κ n start T g.number g.came (done ++ []) g.growing (leftmost_none σ κ (pts (done ++ [])) g.came (done ++ []) a)
        ∙ ap finished e
