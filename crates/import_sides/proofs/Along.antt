-- The sides of cells that are linked.
--
-- In order: links after a split (`linked_put`), the part to the left of a cell (`linked_from`); the sides of cells (`along-++`, `along_same`,
-- `along_long`, `along_at`, `along-split`), and whose point is whose (`along_pt`, `pt-along`); the queue (`queue_from`, `queue-same`,
-- `queue_more`); a cell among others (`cut_in`).
-- Assumes nothing.
use mathlib.Core.Path.{◌≡◌, refl, sym, ◌∙◌, ap}
use mathlib.Core.Logic.{◌⊎◌, inl, inr}
use mathlib.Core.List.{List, [], ◌∷◌, ◌++◌, append-nil}
use Prim.Native.Nat.{ℕ, zero, suc, ◌+◌, ◌-◌, ◌<◌}
use native.Mathlib.Omega.{arith}
use lib.ListN.{length, length-append}
use Rattle.import_rule.specs.Side.{Vertex}
use Rattle.import_rule.specs.Inner.Placed.{Placed, placed_side, pts}
use Rattle.import_rule.proofs.Member.{In, in_left, in_right, in_either, Apart}
use Rattle.import_rule.proofs.Split.{in_pts, pt_of}
use Rattle.import_sides.specs.Inner.Work.{TODO, cell_place, end_at, point_at}
use Rattle.import_sides.proofs.Held.{placed_eq}
use Rattle.import_sides.proofs.Walking.{snoc}
use Rattle.import_sides.specs.Inner.Cells.{link_at, queue_at, Linked, end_or, along_from}

-- ---- links

pub linked_to : (w : List ℕ) (l l' : ℕ) (p : List ℕ) → l ≡ l' → Linked w l p → Linked w l' p
linked_to w l l' p e h = rw e at h

pub linked_same : (w w' : List ℕ) (l : ℕ) (p : List ℕ) → ((x : ℕ) → In x p → link_at w' x ≡ link_at w x) → Linked w l p → Linked w' l p
linked_same w w' l [] s h = h
linked_same w w' l (c ∷ p) s h =
    (h.0, h.1, linked_to w' (link_at w c) (link_at w' c) p (sym (s c (inl refl))) (linked_same w w' (link_at w c) p (λ x i. s x (inr i)) h.2))

pub linked_from : (w : List ℕ) (l : ℕ) (p : List ℕ) (c : ℕ) (q : List ℕ) → Linked w l (p ++ (c ∷ q)) → (c < 1024) × Linked w (link_at w c) q
linked_from w l [] c q h = (h.1, h.2)
linked_from w l (x ∷ p) c q h = linked_from w (link_at w x) p c q h.2

pub linked_low : (w : List ℕ) (l : ℕ) (p : List ℕ) → Linked w l p → (c : ℕ) → In c p → c < 1024
linked_low w l [] h c i = absurd i
linked_low w l (x ∷ p) h c (inl e) = rw e h.1
linked_low w l (x ∷ p) h c (inr i) = linked_low w (link_at w x) p h.2 c i

module _ (w w' : List ℕ) (c k : ℕ) (low : k < 1024) (at_c : link_at w' c ≡ suc k) (at_k : link_at w' k ≡ link_at w c)
    (same : (x : ℕ) → x < 1024 → ¬ (x ≡ c) → ¬ (x ≡ k) → link_at w' x ≡ link_at w x) where
  pub linked_put : (l : ℕ) (p q : List ℕ) → Apart (p ++ (c ∷ q)) → ((x : ℕ) → In x (p ++ (c ∷ q)) → ¬ (x ≡ k)) → Linked w l (p ++ (c ∷ q))
      → Linked w' l (p ++ (c ∷ k ∷ q))
  linked_put l [] q a n h = (
    h.0,
    h.1,
    (
      at_c,
      low,
      linked_to w' (link_at w c) (link_at w' k) q (sym at_k)
          (linked_same w w' (link_at w c) q (λ x i. same x (linked_low w (link_at w c) q h.2 x i) (λ e. a.0 (rw e at i)) (n x (inr i))) h.2),
    ),
  )
  linked_put l (x ∷ p) q a n h = (
    h.0,
    h.1,
    linked_to w' (link_at w x) (link_at w' x) (p ++ (c ∷ k ∷ q))
        (sym (same x h.1 (λ e. a.0 (rw e (in_right c p (c ∷ q) (inl refl)))) (n x (inl refl))))
        (linked_put (link_at w x) p q a.1 (λ y i. n y (inr i)) h.2),
  )

-- ---- the sides of cells

end-++ : (w : List ℕ) (x : Vertex) (p q : List ℕ) → end_or w x (p ++ q) ≡ end_or w (end_or w x q) p
end-++ w x [] q = refl
end-++ w x (c ∷ p) q = refl

app_assoc : (a b c : List Placed) → (a ++ b) ++ c ≡ a ++ (b ++ c)
app_assoc [] b c = refl
app_assoc (x ∷ a) b c = ap (λ (y : List Placed). x ∷ y) (app_assoc a b c)

pub along-++ : (w : List ℕ) (x : Vertex) (p q : List ℕ) → along_from w x (p ++ q) ≡ along_from w x q ++ along_from w (end_or w x q) p
along-++ w x [] q = sym (append-nil (along_from w x q))
along-++ w x (c ∷ p) q =
    (let a = along-++ w x p q in let b = end-++ w x p q in λ i. a i ++ (placed_side (b i) (end_at w (cell_place TODO c)) (point_at w (cell_place TODO c)) ∷ []))
    ∙ app_assoc (along_from w x q) (along_from w (end_or w x q) p)
    (placed_side (end_or w (end_or w x q) p) (end_at w (cell_place TODO c)) (point_at w (cell_place TODO c)) ∷ [])

module _ (w w' : List ℕ) where
  pub end_same : (x : Vertex) (p : List ℕ) → ((c : ℕ) → In c p → end_at w' (cell_place TODO c) ≡ end_at w (cell_place TODO c)) → end_or w' x p ≡ end_or w x p
  end_same x [] s = refl
  end_same x (c ∷ p) s = s c (inl refl)

  pub along_same : (x : Vertex) (p : List ℕ) → ((c : ℕ) → In c p → end_at w' (cell_place TODO c) ≡ end_at w (cell_place TODO c))
      → ((c : ℕ) → In c p → point_at w' (cell_place TODO c) ≡ point_at w (cell_place TODO c)) → along_from w' x p ≡ along_from w x p
  along_same x [] s t = refl
  along_same x (c ∷ p) s t =
      let a = along_same x p (λ y i. s y (inr i)) (λ y i. t y (inr i)) in
      let b = placed_eq (end_same x p (λ y i. s y (inr i))) (s c (inl refl)) (t c (inl refl)) in
      λ i. a i ++ (b i ∷ [])

pub along_long : (w : List ℕ) (x : Vertex) (p : List ℕ) → length (along_from w x p) ≡ length p
along_long w x [] = refl
along_long w x (c ∷ p) =
    length-append (along_from w x p) (placed_side (end_or w x p) (end_at w (cell_place TODO c)) (point_at w (cell_place TODO c)) ∷ [])
    ∙ omega (arith, along_long w x p)

-- the side of a cell, between others
abbrev pub side_of : List ℕ → Vertex → ℕ → List ℕ → Placed
side_of w x c q = placed_side (end_or w x q) (end_at w (cell_place TODO c)) (point_at w (cell_place TODO c))

pub along_at : (w : List ℕ) (x : Vertex) (p : List ℕ) (c : ℕ) (q : List ℕ)
    → along_from w x (p ++ (c ∷ q)) ≡ along_from w x q ++ (side_of w x c q ∷ along_from w (end_at w (cell_place TODO c)) p)
along_at w x p c q = along-++ w x p (c ∷ q) ∙ snoc (along_from w x q) (side_of w x c q) (along_from w (end_at w (cell_place TODO c)) p)

-- two cells next to each other
pub along_two : (w : List ℕ) (x : Vertex) (p : List ℕ) (c k : ℕ) (q : List ℕ)
    → along_from w x (p ++ (c ∷ k ∷ q)) ≡ along_from w x
    q ++ (side_of w x k q ∷ placed_side (end_at w (cell_place TODO k)) (end_at w (cell_place TODO c)) (point_at w (cell_place TODO c)) ∷ along_from w
    (end_at w (cell_place TODO c)) p)
along_two w x p c k q = along_at w x p c (k ∷ q) ∙ snoc (along_from w x q) (side_of w x k q) (side_of w x c (k ∷ q) ∷ along_from w (end_at w (cell_place TODO c)) p)

-- whose point is whose
pub record Owner (w : List ℕ) (p : List ℕ) (m : ℕ) : Type 0 where
  pub cell_of : ℕ
  pub among : In cell_of p
  pub pt : point_at w (cell_place TODO cell_of) ≡ m

pub along_pt : (w : List ℕ) (x : Vertex) (p : List ℕ) (m : ℕ) → In m (pts (along_from w x p)) → Owner w p m
along_pt w x [] m h = absurd h
along_pt w x (c ∷ p) m h =
    let k = pt_of m (along_from w x (c ∷ p)) h in go k.side k.pt (in_either k.side (along_from w x p) (side_of w x c p ∷ []) k.among)
    (λ h. along_pt w x p m h)
  where
    go : (u : Placed) → m ≡ u.pt → In u (along_from w x p) ⊎ In u (side_of w x c p ∷ []) → (In m (pts (along_from w x p)) → Owner w p m) → Owner w (c ∷ p) m
    go u e (inl i) ih = let o = ih (rw e (in_pts u (along_from w x p) i)) in record { cell_of = o.cell_of; among = inr o.among; pt = o.pt }
    go u e (inr (inl i)) ih = record { cell_of = c; among = inl refl; pt = sym (e ∙ ap (λ (v : Placed). v.pt) i) }
    go u e (inr (inr i)) ih = absurd i

pub side_in : (w : List ℕ) (x : Vertex) (p : List ℕ) (c : ℕ) → In c p → In (point_at w (cell_place TODO c)) (pts (along_from w x p))
side_in w x [] c h = absurd h
side_in w x (d ∷ p) c (inl e) =
    rw e (in_pts (side_of w x d p) (along_from w x (d ∷ p)) (in_right (side_of w x d p) (along_from w x p) (side_of w x d p ∷ []) (inl refl)))
side_in w x (d ∷ p) c (inr h) =
    let k = pt_of _ (along_from w x p) (side_in w x p c h) in rw k.pt
    (in_pts k.side (along_from w x (d ∷ p)) (in_left k.side (along_from w x p) (side_of w x d p ∷ []) k.among))

-- ---- a cell among others

pub record Cut (c : ℕ) (p : List ℕ) : Type 0 where
  pub right : List ℕ
  pub left : List ℕ
  pub is : p ≡ right ++ (c ∷ left)

pub cut_in : (c : ℕ) (p : List ℕ) → In c p → Cut c p
cut_in c [] h = absurd h
cut_in c (x ∷ p) (inl e) = record { right = []; left = p; is = ap (λ (y : ℕ). y ∷ p) (sym e) }
cut_in c (x ∷ p) (inr h) = let k = cut_in c p h in record { right = x ∷ k.right; left = k.left; is = ap (λ (y : List ℕ). x ∷ y) k.is }

-- one more cell to the left of a cell
module _ (c k : ℕ) where
  pub in_put : (y : ℕ) (p q : List ℕ) → In y (p ++ (c ∷ k ∷ q)) → (y ≡ k) ⊎ In y (p ++ (c ∷ q))
  in_put y [] q (inl e) = inr (inl e)
  in_put y [] q (inr (inl e)) = inl e
  in_put y [] q (inr (inr i)) = inr (inr i)
  in_put y (x ∷ p) q (inl e) = inr (inl e)
  in_put y (x ∷ p) q (inr i) = elim (in_put y p q i) [ inl e ↦ inl e | inr j ↦ inr (inr j) ]

  pub long_put : (p q : List ℕ) → length (p ++ (c ∷ k ∷ q)) ≡ suc (length (p ++ (c ∷ q)))
  long_put [] q = refl
  long_put (x ∷ p) q = ap suc (long_put p q)

  pub apart_put : (p q : List ℕ) → Apart (p ++ (c ∷ q)) → ((x : ℕ) → In x (p ++ (c ∷ q)) → ¬ (x ≡ k)) → Apart (p ++ (c ∷ k ∷ q))
  apart_put [] q a n = (first, ((λ i. n k (inr i) refl), a.1))
    where
      first : In c (k ∷ q) → ⊥
      first (inl e) = n c (inl refl) e
      first (inr i) = a.0 i
  apart_put (x ∷ p) q a n = (first, apart_put p q a.1 (λ y i. n y (inr i)))
    where
      go : (x ≡ k) ⊎ In x (p ++ (c ∷ q)) → ⊥
      go (inl e) = n x (inl refl) e
      go (inr i) = a.0 i

      first : In x (p ++ (c ∷ k ∷ q)) → ⊥
      first i = go (in_put x p q i)

-- ---- the queue

abbrev pub queue_from : List ℕ → ℕ → ℕ → List ℕ
queue_from w h zero = []
queue_from w h (suc j) = queue_at w h ∷ queue_from w (suc h) j

pub queue_more : (w w' : List ℕ) (a b j h : ℕ) → ((x : ℕ) → x < h + j → queue_at w' x ≡ queue_at w x) → queue_at w' (h + j) ≡ a → queue_at w' (h + j + 1) ≡ b
    → queue_from w' h (j + 2) ≡ queue_from w h j ++ (a ∷ b ∷ [])
queue_more w w' a b zero h s p q =
    let x : h + 0 ≡ h = omega arith in
    let y : h + 0 + 1 ≡ suc h = omega arith in
    let u : queue_at w' h ≡ a = ap (queue_at w') (sym x) ∙ p in
    let v : queue_at w' (suc h) ≡ b = ap (queue_at w') (sym y) ∙ q in
    ap (queue_from w' h) (let z : 0 + 2 ≡ 2 = omega arith in z) ∙ (λ i. u i ∷ v i ∷ [])
queue_more w w' a b (suc j) h s p q =
    let x : h + suc j ≡ suc h + j = omega arith in
    let y : h + suc j + 1 ≡ suc h + j + 1 = omega arith in
    let r = queue_more w w' a b j (suc h) (λ z l. s z (omega arith)) (ap (queue_at w') (sym x) ∙ p) (ap (queue_at w') (sym y) ∙ q) in
    let u = s h (omega arith) in
    ap (queue_from w' h) (let z : suc j + 2 ≡ suc (j + 2) = omega arith in z) ∙ (λ i. u i ∷ r i)
