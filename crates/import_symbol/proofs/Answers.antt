-- What the answers of the calls come to.
--
-- In order: the walk may begin in a cleared space (`ground`), by the order that is told (`by_wide`, `by_rule`); the answers for a large group
-- (`large_over`, `large_room`, `large_made`); the cases of the rule (`rule_first`, `rule_second`, `rule_large`); the four numbers of a small
-- symbol (`small_room`, `four_stores`).
-- Assumes nothing.
use Rattle.std.specs.Prelude.{Ok, Err}
use mathlib.Core.Path.{◌≡◌, refl, sym, ◌∙◌, ap}
use mathlib.Core.Bool.{Bool, true, false, ◌&&◌}
use mathlib.Core.List.{List, [], ◌∷◌, ◌++◌}
use Prim.Native.Nat.{ℕ, zero, suc, ◌+◌, ◌-◌, ◌*◌, ◌^◌, ◌≤◌, ◌<◌}
use native.Mathlib.Omega.{arith}
use lib.Dec.{eqb}
use lib.ListN.{length, get_or, set, drop}
use lib.IntN.{ℤ, pos, negsuc}
use borrow.Author.Tests.{eq-eqb, ne_eqb}
use Rattle.call.specs.Refusal.{Filled}
use Rattle.call.specs.declared.refusal.Refusal.TheVariants.{EntryTooLarge}
use Rattle.basics.specs.Choice.{pick}
use Rattle.call.specs.Space.{zeros}
use Rattle.call.proofs.Zeros.{length_zeros, get_d_zeros}
use Rattle.basics.proofs.Choice.{pick_true, pick_false, clash}
use Rattle.permutations.specs.Pair.{image, Pair}
use Rattle.import_rule.specs.Fixed.{by_q}
use Rattle.import_rule.specs.Order.{Order, leftmost, longest_open}
use Rattle.import_rule.specs.Symbol.{Ruled, made, over, one_vertex, symbol_table, rule_by}
use Rattle.import_rule.specs.Inner.Placed.{Grew, finished, refused, rows_of, symbol_by, quick_by}
use Rattle.import_sides.specs.Inner.Work.{Large, Ground, grown_by, Whole, WalkLeaves, halted, whole, done_in}
use Rattle.import_symbol.specs.Inner.Writing.{table_written, large_by, HasRoom}
use Rattle.import_symbol.specs.Answer.{order_by}
use Rattle.import_symbol.specs.Inner.Answer.{ruled_answer, ruled_left}
use Rattle.import_rule.proofs.Lead.{Turning, turning}
use Rattle.import_rule.proofs.Theorem.{rule_is}
use Rattle.import_sides.proofs.Held.{length_done}

pub ground : (s r w w' : List ℕ) → Pair s r → 32768 ≤ length w → w' ≡ zeros (length w) → Large s r → Ground s r w'
ground s r w w' p h e l = record {
  pair = p;
  long = omega (arith, ap length e, length_zeros (length w));
  clear = λ j. ap (λ (x : List ℕ). get_or x j 0) e
      ∙ get_d_zeros (length w) j;
  large = l;
}

-- a walk by the order that is told
pub by_wide : (wide : Bool) (s r w : List ℕ) (stop : Bool) (d : ℕ) → wide ≡ true → WalkLeaves longest_open s r w stop d → WalkLeaves (order_by wide) s r w stop d
by_wide wide s r w stop d e h = rw e h

pub by_rule : (wide : Bool) (s r w : List ℕ) (stop : Bool) (d : ℕ) → wide ≡ false → WalkLeaves leftmost s r w stop d → WalkLeaves (order_by wide) s r w stop d
by_rule wide s r w stop d e h = rw e h

module _ (order : Order) (s r : List ℕ) where
  abbrev σ : ℕ → ℕ
  σ = image s

  abbrev κ : ℕ → ℕ
  κ = by_q (image s) (image r)

  abbrev large : Ruled
  large = large_by order s r

  pub whole_of : (w : List ℕ) (stop : Bool) (d : ℕ) → WalkLeaves order s r w stop d → stop ≡ false → Whole order s r w d
  whole_of w stop d (halted e g) f = clash e f
  whole_of w stop d (whole e g) f = g

  pub large_over : (w : List ℕ) (stop : Bool) (d : ℕ) (o : List ℤ) → WalkLeaves order s r w stop d → stop ≡ true
      → (Err (EntryTooLarge d) ≡ ruled_answer large) × (o ≡ ruled_left large (Err (EntryTooLarge d)) o)
  large_over w stop d o (halted e g) f = (sym (ap (λ (x : Grew). ruled_answer (symbol_by σ κ x)) g), refl)
  large_over w stop d o (whole e g) f = clash f e

  made_is : (w : List ℕ) (d : ℕ) → Whole order s r w d → large ≡ made (d - 1) (symbol_table (rows_of σ κ (done_in w d)))
  made_is w d g = ap (symbol_by σ κ) g.is ∙ ap (λ (k : ℕ). made (k - 1) (symbol_table (rows_of σ κ (done_in w d)))) (length_done w d)

  pub large_room : (w : List ℕ) (d room : ℕ) → Whole order s r w d → HasRoom large room → 3 * (d - 1) + 1 ≤ room
  large_room w d room g h = h.fits (d - 1) (symbol_table (rows_of σ κ (done_in w d))) (made_is w d g)

  pub large_made : (w : List ℕ) (d : ℕ) (o y : List ℤ) → Whole order s r w d → y ≡ table_written σ κ w d o
      → (Ok (d - 1) ≡ ruled_answer large) × (y ≡ ruled_left large (Ok (d - 1)) o)
  large_made w d o y g e = (sym (ap ruled_answer (made_is w d g)), e ∙ sym (ap (λ (x : Ruled). ruled_left x (Ok (d - 1)) o) (made_is w d g)))

  -- ---- the cases of the rule

  module _ (p : Pair s r) where
    by_points : rule_by order σ κ (length s) ≡ quick_by σ κ order (length s)
    by_points = rule_is σ κ (length s) (turning (image s) (image r) (length s) p.permuting) order

    pub rule_first : κ 0 ≡ 0 → (o : ℕ) → o ≡ σ 0 → o ≡ 0 → rule_by order σ κ (length s) ≡ one_vertex (negsuc 1) (negsuc 2)
    rule_first q o e z = by_points
        ∙ pick_true (eqb (σ 0) 0 && eqb (κ 0) 0) _ _ (ap (λ (b : Bool). b && eqb (κ 0) 0) (eq-eqb (σ 0) 0 (sym e ∙ z)) ∙ eq-eqb (κ 0) 0 q)

    not_first : ¬ (σ 0 ≡ 0) → (eqb (σ 0) 0 && eqb (κ 0) 0) ≡ false
    not_first n = ap (λ (b : Bool). b && eqb (κ 0) 0) (ne_eqb (σ 0) 0 n)

    pub rule_second : κ 0 ≡ 0 → (o x : ℕ) → o ≡ σ 0 → (o ≡ 0 → ⊥) → x ≡ κ o → x ≡ o → rule_by order σ κ (length s) ≡ one_vertex (negsuc 2) (negsuc 2)
    rule_second q o x e n f g =
        by_points ∙ pick_false (eqb (σ 0) 0 && eqb (κ 0) 0) _ _ (not_first (λ z. n (e ∙ z)))
        ∙ pick_true (eqb (κ 0) 0 && eqb (κ (σ 0)) (σ 0)) _ _
        (ap (λ (b : Bool). b && eqb (κ (σ 0)) (σ 0)) (eq-eqb (κ 0) 0 q) ∙ eq-eqb (κ (σ 0)) (σ 0) (ap κ (sym e) ∙ sym f ∙ g ∙ e))

    -- none of the small groups
    pub neither : (o x : ℕ) → o ≡ σ 0 → x ≡ κ o → (x ≡ o → ⊥) → (eqb (κ 0) 0 && eqb (κ (σ 0)) (σ 0)) ≡ false
    neither o x e f n = and_false (eqb (κ 0) 0) (eqb (κ (σ 0)) (σ 0)) (ne_eqb (κ (σ 0)) (σ 0) (λ z. n (f ∙ ap κ e ∙ z ∙ sym e)))
      where
        and_false : (a b : Bool) → b ≡ false → (a && b) ≡ false
        and_false true b q = q
        and_false false b q = refl

    pub moved_by_Q : (q : ℕ) → q ≡ κ 0 → (q ≡ 0 → ⊥) → (eqb (κ 0) 0 && eqb (κ (σ 0)) (σ 0)) ≡ false
    moved_by_Q q e n = ap (λ (b : Bool). b && eqb (κ (σ 0)) (σ 0)) (ne_eqb (κ 0) 0 (λ z. n (e ∙ z)))

    pub rule_large : (eqb (κ 0) 0 && eqb (κ (σ 0)) (σ 0)) ≡ false → (eqb (σ 0) 0 && eqb (κ 0) 0) ≡ false → rule_by order σ κ (length s) ≡ large
    rule_large b a = by_points ∙ pick_false (eqb (σ 0) 0 && eqb (κ 0) 0) _ _ a ∙ pick_false (eqb (κ 0) 0 && eqb (κ (σ 0)) (σ 0)) _ _ b

    pub first_no : (o : ℕ) → o ≡ σ 0 → (o ≡ 0 → ⊥) → (eqb (σ 0) 0 && eqb (κ 0) 0) ≡ false
    first_no o e n = not_first (λ z. n (e ∙ z))

    pub first_moved : (q : ℕ) → q ≡ κ 0 → (q ≡ 0 → ⊥) → (eqb (σ 0) 0 && eqb (κ 0) 0) ≡ false
    first_moved q e n = and_false (eqb (σ 0) 0) (eqb (κ 0) 0) (ne_eqb (κ 0) 0 (λ z. n (e ∙ z)))
      where
        and_false : (a b : Bool) → b ≡ false → (a && b) ≡ false
        and_false true b t = t
        and_false false b t = refl

-- an answer for what the rule gives, and room for it
pub answers : (g g' : Ruled) (a : Filled) (o y : List ℤ) → g ≡ g' → (a ≡ ruled_answer g') → (y ≡ ruled_left g' a o) → (a ≡ ruled_answer g) × (y ≡ ruled_left g a o)
answers g g' a o y e p q = (p ∙ ap ruled_answer (sym e), q ∙ ap (λ (x : Ruled). ruled_left x a o) (sym e))

pub room_for : (g g' : Ruled) (room : ℕ) → g ≡ g' → HasRoom g room → HasRoom g' room
room_for g g' room e h = rw (sym e) h

-- ---- a small symbol

pub small_room : (g : Ruled) (x : ℤ) (room : ℕ) → g ≡ one_vertex x (negsuc 2) → HasRoom g room → 4 ≤ room
small_room g x room e h = h.fits 1 (pos 0 ∷ pos 1 ∷ x ∷ negsuc 2 ∷ []) e

pub four_stores : (o : List ℤ) (x : ℤ) → 4 ≤ length o → set (set (set (set o 0 (pos 0)) 1 (pos 1)) 2 x) 3 (negsuc 2)
    ≡ (pos 0 ∷ pos 1 ∷ x ∷ negsuc 2 ∷ []) ++ drop 4 o
four_stores [] x h = absurd (omega arith)
four_stores (a ∷ []) x h = absurd (omega arith)
four_stores (a ∷ b ∷ []) x h = absurd (omega arith)
four_stores (a ∷ b ∷ c ∷ []) x h = absurd (omega arith)
four_stores (a ∷ b ∷ c ∷ d ∷ o) x h = refl
