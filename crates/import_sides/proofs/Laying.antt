-- Counting the cells that are linked, and laying the sides out in DONE from the right.
--
--   Counting w l at i          the cells from the link l on are i and those from `at` on
--   LaidTo w₀ w p q            the sides of the cells p are laid out, those of the cells q being to the left of them
--   Laying w₀ k w i at         the sides of all cells but i are laid out, and the link `at` leads on to these
--
-- In order: links lead to one list of cells (`linked_one`); counting (`count_start`, `count_next`, `count_end`); laying out (`lay_start`,
-- `lay_next`, `lay_end`).
-- Assumes nothing.
use mathlib.Core.Path.{◌≡◌, refl, sym, ◌∙◌, ap}
use mathlib.Core.Logic.{◌⊎◌, inl, inr}
use mathlib.Core.List.{List, [], ◌∷◌, ◌++◌, append-nil}
use Prim.Native.Nat.{ℕ, suc, ◌+◌, ◌-◌, ◌≤◌, ◌<◌}
use native.Mathlib.Omega.{arith}
use lib.ListN.{length, get_or}
use lib.IntN.{pos, ◌-ℤ◌}
use Rattle.import_rule.specs.Side.{minus_infinity, limit}
use Rattle.import_sides.specs.Inner.Work.{DONE, TODO, cell_place, two_cells, end_at, point_at, last_in, done_in, moved_in}
use Rattle.import_sides.proofs.Cells.{number_same, cell_length, cell_other, cell_num, cell_den, cell_pt}
use Rattle.import_sides.proofs.Held.{vertex_eq, placed_eq}
use Rattle.import_sides.specs.Inner.Cells.{LINK, link_at, Linked, Chain, Rowed, end_or, along_from, Counted, Laid}
use Rattle.import_sides.proofs.Along.{linked_to}

pub linked_one : (w : List ℕ) (l : ℕ) (p q : List ℕ) → Linked w l p → Linked w l q → p ≡ q
linked_one w l [] [] a b = refl
linked_one w l [] (c ∷ q) a b = let e = b.0 in absurd (omega arith)
linked_one w l (c ∷ p) [] a b = let e = a.0 in absurd (omega arith)
linked_one w l (c ∷ p) (d ∷ q) a b =
    let e : d ≡ c = let x = a.0 in let y = b.0 in omega arith in
    let r = linked_one w (link_at w c) p q a.2 (linked_to w (link_at w d) (link_at w c) q (ap (link_at w) e) b.2) in
    λ i. sym e i ∷ r i

-- ---- counting

pub record Counting (w : List ℕ) (l at i : ℕ) : Type 0 where
  pub rest : List ℕ
  pub linked : Linked w at rest
  pub few : i + length rest ≤ 1024
  pub is : (p : List ℕ) → Linked w l p → length p ≡ i + length rest

pub count_start : (w : List ℕ) (l : ℕ) → Chain w l → Counting w l l 0
count_start w l c =
    record {
      rest =
          c.cells;
      linked =
          c.linked;
      few = let h = c.few in omega arith;
      is = λ p a. let e = ap length (linked_one w l p c.cells a c.linked) in omega arith;
    }

pub record Next (w : List ℕ) (l at i : ℕ) : Type 0 where
  pub low : at ≤ 1024
  pub more : i < 1024
  pub next : Counting w l (link_at w (at - 1)) (i + 1)

pub count_next : (w : List ℕ) (l at i : ℕ) → Counting w l at i → 0 < at → Next w l at i
count_next w l at i c h = go c.rest c.linked c.few c.is
  where
    go : (r : List ℕ) → Linked w at r → i + length r ≤ 1024 → ((p : List ℕ) → Linked w l p → length p ≡ i + length r) → Next w l at i
    go [] a f s = absurd (omega arith)
    go (x ∷ r) a f s =
        let b = a.0 in
        let d = a.1 in
        let e : x ≡ at - 1 = omega arith in
        record {
          low =
              omega arith;
          more =
              omega arith;
          next =
              record {
                rest =
                    r;
                linked =
                    linked_to w (link_at w x) (link_at w (at - 1)) r (ap (link_at w) e) a.2;
                few =
                    omega arith;
                is = λ p q. let z = s p q in omega arith;
              };
        }

pub count_end : (w : List ℕ) (l at i : ℕ) → Counting w l at i → at ≡ 0 → Counted w l i
count_end w l at i c h = go c.rest c.linked c.is
  where
    go : (r : List ℕ) → Linked w at r → ((p : List ℕ) → Linked w l p → length p ≡ i + length r) → Counted w l i
    go [] a s = record { is = λ p q. let z = s p q in omega arith }
    go (x ∷ r) a s = let b = a.0 in absurd (omega arith)

-- ---- laying out

abbrev pub LaidTo : List ℕ → List ℕ → List ℕ → List ℕ → Type 0
LaidTo w₀ w [] q = Unit {0}
LaidTo w₀ w (c ∷ p) q =
    (end_at w (cell_place DONE (length (p ++ q))) ≡ end_at w₀ (cell_place TODO c)) × (point_at w (cell_place DONE (length (p ++ q))) ≡ point_at w₀ (cell_place TODO c))
    × LaidTo w₀ w p q

pub record Laying (w₀ : List ℕ) (k : ℕ) (w : List ℕ) (i at : ℕ) : Type 0 where
  pub right : List ℕ
  pub left : List ℕ
  pub linked : Linked w₀ 1 (right ++ left)
  pub from : Linked w₀ at left
  pub count : length left ≡ i
  pub total : length (right ++ left) ≡ k
  pub same : (j : ℕ) → (j < DONE) ⊎ (TODO ≤ j) → get_or w j 0 ≡ get_or w₀ j 0
  pub laid : LaidTo w₀ w right left
  pub long : length w ≡ length w₀

pub lay_start : (w : List ℕ) (k : ℕ) → Rowed w k → Laying w k w k 1
lay_start w k r =
    record { right = []; left = r.cells; linked = r.linked; from = r.linked; count = r.long; total = r.long; same = λ j o. refl; laid = tt; long = refl }

app_snoc : (p : List ℕ) (c : ℕ) (q : List ℕ) → (p ++ (c ∷ [])) ++ q ≡ p ++ (c ∷ q)
app_snoc [] c q = refl
app_snoc (x ∷ p) c q = ap (λ (y : List ℕ). x ∷ y) (app_snoc p c q)

app_long : (p q : List ℕ) → length q ≤ length (p ++ q)
app_long [] q = omega arith
app_long (x ∷ p) q = let h = app_long p q in omega arith

pub record Onward (w₀ : List ℕ) (k : ℕ) (w : List ℕ) (i at : ℕ) : Type 0 where
  pub some : 1 ≤ at
  pub low : at ≤ 1024
  pub few : i ≤ 1024
  pub room : 32768 ≤ length w
  pub next : Laying w₀ k (moved_in w (i - 1) at) (i - 1) (link_at (moved_in w (i - 1) at) (at - 1))

module _ (w₀ : List ℕ) (k : ℕ) (w : List ℕ) (top : k ≤ 1024) (room : 32768 ≤ length w₀) where
  module _ (i at : ℕ) (L : Laying w₀ k w i at) (right : List ℕ) (c : ℕ) (left : List ℕ) (linked : Linked w₀ 1 (right ++ (c ∷ left)))
      (from : Linked w₀ at (c ∷ left)) (count : length (c ∷ left) ≡ i) (total : length (right ++ (c ∷ left)) ≡ k) (laid : LaidTo w₀ w right (c ∷ left)) where
    is_c : at - 1 ≡ c
    is_c = let e = from.0 in omega arith

    place : i - 1 ≡ length left
    place = omega arith

    in_room : cell_place DONE (i - 1) + 5 ≤ length w
    in_room = let e = L.long in let f = app_long right (c ∷ left) in omega arith

    abbrev w' : List ℕ
    w' = moved_in w (i - 1) at

    low_c : c < 1024
    low_c = from.1

    few : i ≤ 1024
    few = let f = app_long right (c ∷ left) in omega arith

    -- the cell that was written
    off : (j : ℕ) → (j < cell_place DONE (i - 1)) ⊎ (cell_place DONE (i - 1) + 5 ≤ j) → get_or w' j 0 ≡ get_or w j 0
    off j o = cell_other w (cell_place DONE (i - 1)) (two_cells w (cell_place TODO (at - 1))) (two_cells w (cell_place TODO (at - 1) + 2))
        (point_at w (cell_place TODO (at - 1))) j o

    outside : (j : ℕ) → (j < DONE) ⊎ (TODO ≤ j) → get_or w' j 0 ≡ get_or w₀ j 0
    outside j (inl h) = off j (inl (omega arith)) ∙ L.same j (inl h)
    outside j (inr h) = off j (inr (omega (arith, few))) ∙ L.same j (inr h)

    read : (j : ℕ) → get_or w (cell_place TODO (at - 1) + j) 0 ≡ get_or w₀ (cell_place TODO c + j) 0
    read j = L.same (cell_place TODO (at - 1) + j) (inr (omega arith)) ∙ ap (λ (x : ℕ). get_or w₀ (cell_place TODO x + j) 0) is_c

    number_is : (j : ℕ) → two_cells w (cell_place TODO (at - 1) + j) ≡ two_cells w₀ (cell_place TODO c + j)
    number_is j =
        let e : cell_place TODO (at - 1) + j + 1 ≡ cell_place TODO (at - 1) + (j + 1) = omega arith in
        number_same w₀ w (cell_place TODO (at - 1) + j) (L.same (cell_place TODO (at - 1) + j) (inr (omega arith)))
        (L.same (cell_place TODO (at - 1) + j + 1) (inr (omega arith))) ∙ ap (λ (x : ℕ). two_cells w₀ (cell_place TODO x + j)) is_c

    number_0 : two_cells w (cell_place TODO (at - 1)) ≡ two_cells w₀ (cell_place TODO c)
    number_0 =
        number_same w₀ w (cell_place TODO (at - 1)) (L.same (cell_place TODO (at - 1)) (inr (omega arith)))
        (L.same (cell_place TODO (at - 1) + 1) (inr (omega arith)))
        ∙ ap (λ (x : ℕ). two_cells w₀ (cell_place TODO x)) is_c

    end_is : end_at w' (cell_place DONE (i - 1)) ≡ end_at w₀ (cell_place TODO c)
    end_is = vertex_eq
        (ap (λ (x : ℕ). pos x -ℤ pos limit)
        (cell_num w (cell_place DONE (i - 1)) (two_cells w (cell_place TODO (at - 1))) (two_cells w (cell_place TODO (at - 1) + 2))
        (point_at w (cell_place TODO (at - 1))) in_room ∙ number_0))
        (cell_den w (cell_place DONE (i - 1)) (two_cells w (cell_place TODO (at - 1))) (two_cells w (cell_place TODO (at - 1) + 2))
        (point_at w (cell_place TODO (at - 1))) in_room
        ∙ number_is 2)

    pt_is : point_at w' (cell_place DONE (i - 1)) ≡ point_at w₀ (cell_place TODO c)
    pt_is =
        cell_pt w (cell_place DONE (i - 1)) (two_cells w (cell_place TODO (at - 1))) (two_cells w (cell_place TODO (at - 1) + 2))
        (point_at w (cell_place TODO (at - 1))) in_room ∙ read 4

    -- what was laid out stays
    stays : (p : List ℕ) → LaidTo w₀ w p (c ∷ left) → LaidTo w₀ w' (p ++ (c ∷ [])) left
    stays [] a = (ap (λ (x : ℕ). end_at w' (cell_place DONE x)) (sym place) ∙ end_is, ap (λ (x : ℕ). point_at w' (cell_place DONE x)) (sym place) ∙ pt_is, tt)
    stays (x ∷ p) a =
        let n = length (p ++ (c ∷ left)) in
        let far : suc (i - 1) ≤ length (p ++ (c ∷ left)) = let f = app_long p (c ∷ left) in omega arith in
        let e : length ((p ++ (c ∷ [])) ++ left) ≡ length (p ++ (c ∷ left)) = ap length (app_snoc p c left) in (
          ap (λ (y : ℕ). end_at w' (cell_place DONE y)) e ∙ kept_end (length (p ++ (c ∷ left))) far ∙ a.0,
          ap (λ (y : ℕ). point_at w' (cell_place DONE y)) e ∙ off (cell_place DONE (length (p ++ (c ∷ left))) + 4) (inr (omega arith)) ∙ a.1,
          stays p a.2,
        )
      where
        kept_end : (n : ℕ) → suc (i - 1) ≤ n → end_at w' (cell_place DONE n) ≡ end_at w (cell_place DONE n)
        kept_end n h = vertex_eq
            (ap (λ (x : ℕ). pos x -ℤ pos limit) (number_same w w' (cell_place DONE n) (off (cell_place DONE n) (inr (omega arith)))
            (off (cell_place DONE n + 1) (inr (omega arith)))))
            (number_same w w' (cell_place DONE n + 2) (off (cell_place DONE n + 2) (inr (omega arith))) (off (cell_place DONE n + 2 + 1) (inr (omega arith))))

    onward : Onward w₀ k w i at
    onward = record {
      some = let e = from.0 in omega arith;
      low = let e = from.0 in let h = low_c in omega arith;
      few = few;
      room = let e = L.long in omega arith;
      next = record {
        right = right ++ (c ∷ []);
        left = left;
        linked = rw (app_snoc right c left) linked;
        from = linked_to w₀ (link_at w₀ c) (link_at w' (at - 1)) left (sym (outside (LINK + (at - 1)) (inr (omega arith)) ∙ ap (link_at w₀) is_c)) from.2;
        count = sym place;
        total = ap length (app_snoc right c left) ∙ total;
        same = outside;
        laid = stays right laid;
        long = cell_length w (cell_place DONE (i - 1)) (two_cells w (cell_place TODO (at - 1))) (two_cells w (cell_place TODO (at - 1) + 2))
            (point_at w (cell_place TODO (at - 1)))
            ∙ L.long;
      };
    }

  pub lay_next : (i at : ℕ) → Laying w₀ k w i at → 0 < i → Onward w₀ k w i at
  lay_next i at L h = go L.left L.linked L.from L.count L.total L.laid
    where
      go : (l : List ℕ) → Linked w₀ 1 (L.right ++ l) → Linked w₀ at l → length l ≡ i → length (L.right ++ l) ≡ k → LaidTo w₀ w L.right l
          → Onward w₀ k w i at
      go [] a b c d e = absurd (omega arith)
      go (x ∷ l) a b c d e = onward i at L L.right x l a b c d e

  pub lay_on : (i at at' : ℕ) (w' : List ℕ) → Onward w₀ k w i at → w' ≡ moved_in w (i - 1) at → at' ≡ link_at w' (at - 1) → Laying w₀ k w' (i - 1) at'
  lay_on i at at' w' o e f = rw (f, e) o.next

  all_laid : (p : List ℕ) → LaidTo w₀ w p [] → (last_in w (length p) ≡ end_or w₀ minus_infinity p) × (done_in w (length p) ≡ along_from w₀ minus_infinity p)
  all_laid [] a = (refl, refl)
  all_laid (c ∷ p) a =
      let r = all_laid p a.2 in
      let n : length (p ++ []) ≡ length p = ap length (append-nil p) in
      let e : end_at w (cell_place DONE (length p)) ≡ end_at w₀ (cell_place TODO c) = ap (λ (x : ℕ). end_at w (cell_place DONE x)) (sym n) ∙ a.0 in
      let m : point_at w (cell_place DONE (length p)) ≡ point_at w₀ (cell_place TODO c) = ap (λ (x : ℕ). point_at w (cell_place DONE x)) (sym n) ∙ a.1 in
      let s = placed_eq r.0 e m in
      let q = r.1 in
      (e, λ i. q i ++ (s i ∷ []))

  pub lay_end : (i at : ℕ) → Laying w₀ k w i at → i ≡ 0 → Laid w₀ k w
  lay_end i at L h = go L.left L.linked L.count L.total L.laid
    where
      go : (l : List ℕ) → Linked w₀ 1 (L.right ++ l) → length l ≡ i → length (L.right ++ l) ≡ k → LaidTo w₀ w L.right l → Laid w₀ k w
      go (x ∷ l) a c d e = absurd (omega arith)
      go [] a c d e = record {
        long = L.long;
        below = λ j o. L.same j (inl o);
        is = λ p b n.
            (let same : L.right ≡ p = sym (append-nil L.right) ∙ linked_one w₀ 1 (L.right ++ []) p a b in
            let f : LaidTo w₀ w p [] = rw same at e in
            ap (done_in w) (sym n) ∙ (all_laid p f).1);
      }
