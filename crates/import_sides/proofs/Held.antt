-- What stands of the sides in the work space, and what a split leaves there.
--
--   Same a b w w'    w and w' are the same from a on, as far as b
--   HeldIn n w l     HELD is not 0 exactly at the points of the sides l
--
-- In order: what is read where nothing was written (`done_same`, `todo_same`); HELD after a split (`held_split`).
-- Assumes nothing.
use mathlib.Core.Path.{◌≡◌, refl, sym, ◌∙◌, ap}
use mathlib.Core.Logic.{◌⊎◌, inl, inr}
use mathlib.Core.Bool.{Bool, true, false, not, ◌||◌}
use mathlib.Core.List.{List, [], ◌∷◌, ◌++◌}
use Prim.Native.Nat.{ℕ, zero, suc, ◌+◌, ◌-◌, ◌≤◌, ◌<◌}
use native.Mathlib.Omega.{arith}
use native.Mathlib.Decide.{ℕ_discrete}
use lib.Dec.{eqb}
use lib.ListN.{length, get_or, set, length-set, length-append}
use lib.Seq.{get_or-set_same, get_or-set_other}
use lib.IntN.{ℤ, pos, ◌-ℤ◌}
use borrow.Author.Tests.{eq-eqb, ne_eqb, eqb-true}
use Rattle.basics.proofs.Choice.{clash}
use Rattle.import_rule.specs.Side.{Vertex, vertex, limit}
use Rattle.import_rule.specs.Inner.Placed.{Placed, placed_side, pts, lower_at, upper_at}
use Rattle.import_sides.specs.Inner.Work.{HELD, DONE, TODO, cell_place, end_at, point_at, last_in, done_in, todo_in}
use Rattle.import_sides.specs.Inner.Work.{held_set, closed_in}
use Rattle.import_rule.proofs.Member.{In, in_is}
use Rattle.import_rule.proofs.Lead.{Turning}
use Rattle.import_rule.proofs.Split.{Closed, in_pts, pt_of, split_from, beside_in, beside_other, Beside}
use Rattle.import_rule.proofs.Kept.{Inv, has_s, has_l, has_r, stays}
use Rattle.import_sides.proofs.Cells.{number_same}

-- ---- what is read where nothing was written

-- w' is as w from a up to b
pub record Same (a b : ℕ) (w w' : List ℕ) : Type 0 where
  pub each : (j : ℕ) → a ≤ j → j < b → get_or w' j 0 ≡ get_or w j 0

pub vertex_eq : {a a' : ℤ} {b b' : ℕ} → a ≡ a' → b ≡ b' → vertex a b ≡ vertex a' b'
vertex_eq p q = λ i. vertex (p i) (q i)

pub end_same : (a b at : ℕ) (w w' : List ℕ) → Same a b w w' → a ≤ at → at + 5 ≤ b → end_at w' at ≡ end_at w at
end_same a b at w w' s h k =
    vertex_eq (ap (λ (x : ℕ). pos x -ℤ pos limit) (number_same w w' at (s.each at h (omega arith)) (s.each (at + 1) (omega arith) (omega arith))))
    (number_same w w' (at + 2) (s.each (at + 2) (omega arith) (omega arith)) (s.each (at + 2 + 1) (omega arith) (omega arith)))

pub point_same : (a b at : ℕ) (w w' : List ℕ) → Same a b w w' → a ≤ at → at + 5 ≤ b → point_at w' at ≡ point_at w at
point_same a b at w w' s h k = s.each (at + 4) (omega arith) (omega arith)

pub last_same : (w w' : List ℕ) (d e : ℕ) → d ≤ e → Same DONE (cell_place DONE e) w w' → last_in w' d ≡ last_in w d
last_same w w' zero e h s = refl
last_same w w' (suc d) e h s = end_same DONE (cell_place DONE e) (cell_place DONE d) w w' s (omega arith) (omega arith)

pub placed_eq : {x x' y y' : Vertex} {m m' : ℕ} → x ≡ x' → y ≡ y' → m ≡ m' → placed_side x y m ≡ placed_side x' y' m'
placed_eq p q r = λ i. placed_side (p i) (q i) (r i)

pub done_same : (w w' : List ℕ) (d e : ℕ) → d ≤ e → Same DONE (cell_place DONE e) w w' → done_in w' d ≡ done_in w d
done_same w w' zero e h s = refl
done_same w w' (suc d) e h s =
    let a = done_same w w' d e (omega arith) s in
    let b = placed_eq (last_same w w' d e (omega arith) s) (end_same DONE (cell_place DONE e) (cell_place DONE d) w w' s (omega arith) (omega arith))
    (point_same DONE (cell_place DONE e) (cell_place DONE d) w w' s (omega arith) (omega arith)) in
    λ i. a i ++ (b i ∷ [])

pub todo_same : (w w' : List ℕ) (k e : ℕ) (x : Vertex) → k ≤ e → Same TODO (cell_place TODO e) w w' → todo_in x w' k ≡ todo_in x w k
todo_same w w' zero e x h s = refl
todo_same w w' (suc k) e x h s =
    let p = end_same TODO (cell_place TODO e) (cell_place TODO k) w w' s (omega arith) (omega arith) in
    let q = point_same TODO (cell_place TODO e) (cell_place TODO k) w w' s (omega arith) (omega arith) in
    let a = placed_eq {x = x} refl p q in
    let b = ap (λ (y : Vertex). todo_in y w' k) p ∙ todo_same w w' k e (end_at w (cell_place TODO k)) (omega arith) s in
    λ i. a i ∷ b i

pub length_done : (w : List ℕ) (d : ℕ) → length (done_in w d) ≡ d
length_done w zero = refl
length_done w (suc d) = length-append (done_in w d) (placed_side (last_in w d) (end_at w (cell_place DONE d)) (point_at w (cell_place DONE d)) ∷ [])
    ∙ omega (arith, length_done w d)

pub length_todo : (x : Vertex) (w : List ℕ) (k : ℕ) → length (todo_in x w k) ≡ k
length_todo x w zero = refl
length_todo x w (suc k) = ap suc (length_todo (end_at w (cell_place TODO k)) w k)

-- ---- HELD

pub record HeldIn (n : ℕ) (w : List ℕ) (l : List Placed) : Type 0 where
  pub yes : (x : ℕ) → In x (pts l) → ¬ (get_or w (HELD + x) 0 ≡ 0)
  pub no : (x : ℕ) → x < n → ¬ (get_or w (HELD + x) 0 ≡ 0) → In x (pts l)

pub or_true : (a b : Bool) → (a || b) ≡ true → (a ≡ true) ⊎ (b ≡ true)
or_true true b e = inl refl
or_true false b e = inr e

-- what the code asks is what the definition asks
pub held_closed : (σ κ : ℕ → ℕ) (n : ℕ) (w : List ℕ) (l : List Placed) (m : ℕ) → HeldIn n w l → σ m < n → closed_in σ κ w m ≡ true → Closed σ κ (pts l) m
held_closed σ κ n w l m h low e = elim (or_true (eqb (κ m) m) (not (eqb (get_or w (HELD + σ m) 0) 0)) e) [
  | inl a ↦ inl (eqb-true (κ m) m a)
  | inr a ↦ inr (h.no (σ m) low (λ z. clash a (ap not (eq-eqb (get_or w (HELD + σ m) 0) 0 z))))
]

pub held_open : (σ κ : ℕ → ℕ) (n : ℕ) (w : List ℕ) (l : List Placed) (m : ℕ) → HeldIn n w l → closed_in σ κ w m ≡ false → ¬ (Closed σ κ (pts l) m)
held_open σ κ n w l m h e (inl o) = clash (ap (λ (b : Bool). b || not (eqb (get_or w (HELD + σ m) 0) 0)) (eq-eqb (κ m) m o)) e
held_open σ κ n w l m h e (inr i) =
    clash (or_right (eqb (κ m) m) (not (eqb (get_or w (HELD + σ m) 0) 0)) (ap not (ne_eqb (get_or w (HELD + σ m) 0) 0 (h.yes (σ m) i)))) e
  where
    or_right : (a b : Bool) → b ≡ true → (a || b) ≡ true
    or_right true b q = refl
    or_right false b q = q

pub held_same : (n : ℕ) (w w' : List ℕ) (l : List Placed) → n ≤ 4096 → Same HELD DONE w w' → HeldIn n w l → ((x : ℕ) → In x (pts l) → x < n) → HeldIn n w' l
held_same n w w' l top s h low = record {
  yes = λ x i z. let k = low x i in h.yes x i (sym (s.each (HELD + x) (omega arith) (omega arith)) ∙ z);
  no = λ x k z. h.no x k (λ q. z (s.each (HELD + x) (omega arith) (omega arith) ∙ q));
}

-- after a split: m is gone, a and b are there
module _ (σ κ : ℕ → ℕ) (n : ℕ) (T : Turning σ κ n) (top : n ≤ 4096) (C before : List Placed) (s : Placed) (after : List Placed)
    (inv : Inv σ κ n C (before ++ (s ∷ after)))
    (none : ¬ (Closed σ κ (pts (before ++ (s ∷ after))) s.pt)) (w w' : List ℕ) (long : 12288 ≤ length w) (held : HeldIn n w (before ++ (s ∷ after)))
    (is : (x : ℕ) → x < n → get_or w' (HELD + x) 0 ≡ get_or (held_set w 0 s.pt (σ (κ s.pt)) (σ (κ (κ s.pt)))) (HELD + x) 0) where
  abbrev m : ℕ
  m = s.pt

  abbrev a : ℕ
  a = σ (κ s.pt)

  abbrev b : ℕ
  b = σ (κ (κ s.pt))

  abbrev old : List Placed
  old = before ++ (s ∷ after)

  abbrev new : List Placed
  new = before ++ (lower_at σ κ s ∷ upper_at σ κ s ∷ after)

  m_low : m < n
  m_low = inv.low s (has_s σ κ n T C before s after inv none)

  a_low : a < n
  a_low = T.σ_low _ (T.κ_low _ m_low)

  b_low : b < n
  b_low = T.σ_low _ (T.κ_low _ (T.κ_low _ m_low))

  at_b : (x : ℕ) → x ≡ b → get_or (held_set w 0 m a b) (HELD + x) 0 ≡ 1
  at_b x e =
      ap (λ (y : ℕ). get_or (held_set w 0 m a b) (HELD + y) 0) e
      ∙ get_or-set_same (set (set w (HELD + m) 0) (HELD + a) 1) (HELD + b) 1 0
      (rw (length-set (set w (HELD + m) 0) (HELD + a) 1, length-set w (HELD + m) 0) (omega (arith, b_low)))

  at_a : (x : ℕ) → ¬ (x ≡ b) → x ≡ a → get_or (held_set w 0 m a b) (HELD + x) 0 ≡ 1
  at_a x nb e =
      get_or-set_other (set (set w (HELD + m) 0) (HELD + a) 1) (HELD + b) (HELD + x) 1 0 (λ q. nb (omega arith))
      ∙ ap (λ (y : ℕ). get_or (set (set w (HELD + m) 0) (HELD + a) 1) (HELD + y) 0) e
      ∙ get_or-set_same (set w (HELD + m) 0) (HELD + a) 1 0 (rw (length-set w (HELD + m) 0) (omega (arith, a_low)))

  at_m : (x : ℕ) → ¬ (x ≡ b) → ¬ (x ≡ a) → x ≡ m → get_or (held_set w 0 m a b) (HELD + x) 0 ≡ 0
  at_m x nb na e =
      get_or-set_other (set (set w (HELD + m) 0) (HELD + a) 1) (HELD + b) (HELD + x) 1 0 (λ q. nb (omega arith))
      ∙ get_or-set_other (set w (HELD + m) 0) (HELD + a) (HELD + x) 1 0 (λ q. na (omega arith))
      ∙ ap (λ (y : ℕ). get_or (set w (HELD + m) 0) (HELD + y) 0) e
      ∙ get_or-set_same w (HELD + m) 0 0 (omega (arith, m_low))

  at_other : (x : ℕ) → ¬ (x ≡ b) → ¬ (x ≡ a) → ¬ (x ≡ m) → get_or (held_set w 0 m a b) (HELD + x) 0 ≡ get_or w (HELD + x) 0
  at_other x nb na nm =
      get_or-set_other (set (set w (HELD + m) 0) (HELD + a) 1) (HELD + b) (HELD + x) 1 0 (λ q. nb (omega arith))
      ∙ get_or-set_other (set w (HELD + m) 0) (HELD + a) (HELD + x) 1 0 (λ q. na (omega arith))
      ∙ get_or-set_other w (HELD + m) (HELD + x) 0 0 (λ q. nm (omega arith))

  one_not_zero : (x y : ℕ) → x ≡ y → y ≡ 1 → ¬ (x ≡ 0)
  one_not_zero x y e f z = omega arith

  in_a : In a (pts new)
  in_a = in_pts (lower_at σ κ s) new (has_l σ κ n T C before s after inv none)

  in_b : In b (pts new)
  in_b = in_pts (upper_at σ κ s) new (has_r σ κ n T C before s after inv none)

  in_m : In m (pts old)
  in_m = in_pts s old (has_s σ κ n T C before s after inv none)

  -- a new side's point is new, or an old one's other than the split one's
  was : (x : ℕ) → In x (pts new) → (x ≡ a) ⊎ (x ≡ b) ⊎ (In x (pts old) × ¬ (x ≡ m))
  was x i = let k = pt_of x new i in go k.side k.pt (split_from s (lower_at σ κ s) (upper_at σ κ s) after k.side before k.among)
    where
      go : (v : Placed) → x ≡ v.pt → (v ≡ lower_at σ κ s) ⊎ (v ≡ upper_at σ κ s) ⊎ Beside s (lower_at σ κ s) (upper_at σ κ s) after v before → (x ≡ a) ⊎ (x ≡ b)
          ⊎ (In x (pts old) × ¬ (x ≡ m))
      go v p (inl e) = inl (p ∙ ap (λ (y : Placed). y.pt) e)
      go v p (inr (inl e)) = inr (inl (p ∙ ap (λ (y : Placed). y.pt) e))
      go v p (inr (inr h)) = inr (inr (
        in_is _ _ (pts old) (sym p)
            (in_pts v old (beside_in s (lower_at σ κ s) (upper_at σ κ s) after v before h)),
        (λ e. beside_other s (lower_at σ κ s) (upper_at σ κ s) after v before
            inv.apart h (sym p ∙ e)),
      ))

  pub held_split : HeldIn n w' new
  held_split = record { yes = yes'; no = no' }
    where
      yes' : (x : ℕ) → In x (pts new) → ¬ (get_or w' (HELD + x) 0 ≡ 0)
      yes' x i = go (ℕ_discrete x b) (ℕ_discrete x a) (was x i)
        where
          go : Dec (x ≡ b) → Dec (x ≡ a) → (x ≡ a) ⊎ (x ≡ b) ⊎ (In x (pts old) × ¬ (x ≡ m)) → ¬ (get_or w' (HELD + x) 0 ≡ 0)
          go (yes e) d q = one_not_zero _ _ (is x (rw e b_low)) (at_b x e)
          go (no e) (yes d) q = one_not_zero _ _ (is x (rw d a_low)) (at_a x e d)
          go (no e) (no d) (inl q) = absurd (d q)
          go (no e) (no d) (inr (inl q)) = absurd (e q)
          go (no e) (no d) (inr (inr q)) = λ z. held.yes x q.0 (sym (at_other x e d q.1) ∙ sym (is x (low_old x q.0)) ∙ z)
            where
              low_old : (x : ℕ) → In x (pts old) → x < n
              low_old x i = let k = pt_of x old i in rw k.pt (inv.low k.side k.among)

      no' : (x : ℕ) → x < n → ¬ (get_or w' (HELD + x) 0 ≡ 0) → In x (pts new)
      no' x low z = go (ℕ_discrete x b) (ℕ_discrete x a) (ℕ_discrete x m)
        where
          go : Dec (x ≡ b) → Dec (x ≡ a) → Dec (x ≡ m) → In x (pts new)
          go (yes e) d f = rw e in_b
          go (no e) (yes d) f = rw d in_a
          go (no e) (no d) (yes f) = absurd (z (is x low ∙ at_m x e d f))
          go (no e) (no d) (no f) = stays σ κ n T C before s after inv none x (held.no x low (λ q. z (is x low ∙ at_other x e d f ∙ q))) f
