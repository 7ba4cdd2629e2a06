-- Growing by points under an order, round by round, as code follows it: what holds between two rounds, and what a round does.
--
--   Growing k came l      k sides came so far, the sides l are there and came as the numbers came, and growing the start comes to growing these
--
-- In order: the start (`growing_start`); how many sides there are (`growing_size`, `growing_room`); the side that the order chooses can't be split
-- (`growing_over`), is split (`growing_split`); the end (`growing_end`).
-- Assumes nothing.
use mathlib.Core.Path.{◌≡◌, refl, sym, ◌∙◌, ap}
use mathlib.Core.Logic.{inl}
use mathlib.Core.Bool.{true, false}
use mathlib.Core.List.{List, [], ◌∷◌, ◌++◌}
use Prim.Native.Nat.{ℕ, suc, ◌+◌, ◌*◌, ◌-◌, ◌≤◌}
use native.Mathlib.Omega.{arith}
use lib.ListN.{length}
use Rattle.basics.specs.Choice.{pick}
use Rattle.basics.proofs.Choice.{pick_true, pick_false}
use Rattle.import_rule.specs.Side.{mediant, fits}
use Rattle.import_rule.specs.Order.{Order, none, this, chosen_by}
use Rattle.import_rule.specs.Rule.{came_after, start_came}
use Rattle.import_rule.specs.Inner.Placed.{Placed, pts, finished, refused, lower_at, upper_at, opens_at, go_on, grow_by, grow}
use Rattle.import_rule.proofs.Member.{in_right}
use Rattle.import_rule.proofs.Lead.{Turning}
use Rattle.import_rule.proofs.Split.{Closed}
use Rattle.import_rule.proofs.Corners.{triangles}
use Rattle.import_rule.proofs.Kept.{Inv, step}
use Rattle.import_rule.proofs.Start.{Kept, keep}
use Rattle.import_rule.proofs.Order.{came_long, cut_by_lem}

module _ (order : Order) (σ κ : ℕ → ℕ) (n : ℕ) (start : List Placed) where
  pub record Growing (k : ℕ) (came : List ℕ) (l : List Placed) : Type 0 where
    pub tris : List Placed
    pub inv : Inv σ κ n tris l
    pub kept : Kept tris l
    pub long : length came ≡ length l
    pub left : ℕ
    pub count : length tris + left ≡ n + 1
    pub same : grow σ κ order n start ≡ grow_by σ κ order left k came l

  module _ (T : Turning σ κ n) where
    pub growing_start : (tri : Placed) → Inv σ κ n (tri ∷ []) start → Kept (tri ∷ []) start → Growing 3 start_came start
    growing_start tri inv kept = record {
      tris = tri ∷ [];
      inv = inv;
      kept = kept;
      long = let k = kept.count in omega arith;
      left = n;
      count = omega arith;
      same = refl;
    }

    pub growing_size : (k : ℕ) (came : List ℕ) (l : List Placed) → Growing k came l → 3 * length l ≤ n + 6
    growing_size k came l g = omega (arith, triangles σ κ n T g.tris g.inv.tops, g.kept.count)

    module _ (k : ℕ) (came : List ℕ) (before : List Placed) (s : Placed) (after : List Placed) (g : Growing k came (before ++ (s ∷ after)))
        (h : ¬ (Closed σ κ (pts (before ++ (s ∷ after))) s.pt)) where
      abbrev old : List Placed
      old = before ++ (s ∷ after)

      abbrev new : List Placed
      new = before ++ (lower_at σ κ s ∷ upper_at σ κ s ∷ after)

      -- where a side is open, there is room for one more
      pub growing_room : 3 * length (before ++ (s ∷ after)) + 3 ≤ n + 6
      growing_room = omega (arith, triangles σ κ n T (s ∷ g.tris) (step σ κ n T g.tris before s after g.inv h).tops, g.kept.count)

      module _ (says : chosen_by order came (opens_at σ κ (pts (before ++ (s ∷ after))) (before ++ (s ∷ after))) ≡ this (length before)) where
        round : grow σ κ order n start ≡ pick (fits (mediant s.lo s.hi))
            (grow_by σ κ order (g.left - 1) (suc (suc k)) (came_after k (length before) came) new) (refused (length before))
        round =
            let some : suc (g.left - 1) ≡ g.left = omega (arith, triangles σ κ n T g.tris g.inv.tops, g.count, T.some) in
            g.same
            ∙ ap (λ (f : ℕ). grow_by σ κ order f k came old) (sym some)
            ∙ ap (go_on σ κ (grow_by σ κ order (g.left - 1)) k came old) says
            ∙ cut_by_lem order σ κ (g.left - 1) k came before s after

        pub growing_over : fits (mediant s.lo s.hi) ≡ false → grow σ κ order n start ≡ refused (length before)
        growing_over f = round ∙ pick_false (fits (mediant s.lo s.hi)) _ _ f

        pub growing_split : fits (mediant s.lo s.hi) ≡ true
            → Growing (suc (suc k)) (came_after k (length before) came) (before ++ (lower_at σ κ s ∷ upper_at σ κ s ∷ after))
        growing_split f = record {
          tris = s ∷ g.tris;
          inv = step σ κ n T g.tris before s after g.inv h;
          kept = keep σ κ g.tris before s after (g.inv.dets s (in_right s before (s ∷ after) (inl refl))) f g.kept;
          long = came_long k came before s (lower_at σ κ s) (upper_at σ κ s) after g.long;
          left = g.left - 1;
          count = omega (arith, triangles σ κ n T g.tris g.inv.tops, g.count, T.some);
          same = round ∙ pick_true (fits (mediant s.lo s.hi)) _ _ f;
        }

    pub growing_end : (k : ℕ) (came : List ℕ) (l : List Placed) → Growing k came l → chosen_by order came (opens_at σ κ (pts l) l) ≡ none
        → grow σ κ order n start ≡ finished l
    growing_end k came l g e =
        let some : suc (g.left - 1) ≡ g.left = omega (arith, triangles σ κ n T g.tris g.inv.tops, g.count, T.some) in
        g.same
        ∙ ap (λ (f : ℕ). grow_by σ κ order f k came l) (sym some)
        ∙ ap (go_on σ κ (grow_by σ κ order (g.left - 1)) k came l) e
