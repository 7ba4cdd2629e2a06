-- The tables number themselves: the numbering rule, followed in the tables of S and R from the point 0, gives 0, 1, 2, ..
-- Why: a point and its number take the same steps, so the visits in the tables are the visits to the points, by number. The
-- numbers of the points in order are 0, 1, 2, ..
-- In order: `up_to`; `add` and the images of a list; the visits in the tables; the theorem `numbered`.
-- Not here: what `order_of` and `up_to` mean (specs/Order.antt) and what the tables are (specs/Table.antt).
-- Assumes nothing.
use mathlib.Core.Path.{◌≡◌, refl, sym, ap, ◌∙◌}
use mathlib.Core.List.{List, [], ◌∷◌, ◌++◌, map}
use Prim.Native.Nat.{ℕ, zero, suc, ◌+◌, ◌<◌}
use native.Mathlib.Omega.{arith}
use native.Mathlib.Decide.{dec_lt}
use lib.ListN.{length, get_or, length-append, length-map, get_or-append}
use lib.Seq.{ext_get_or, get_or-append-add}
use Rattle.numbering.specs.Find.{find, ◌∈◌}
use Rattle.numbering.specs.Order.{add, visit, order_to, order_of, up_to, Maps}
use Rattle.numbering.specs.Table.{image_at, renamed, Injective}
use Rattle.numbering.proofs.Find.{none_below_lem, get_d_find, get_d_in, find_map, once_le}
use Rattle.numbering.proofs.Order.{add_old, add_new, All, add_all, to_more, to_done, to_once, to_in, numbering, order_stop}
use Rattle.numbering.proofs.Table.{get_d_map, map_last, renaming}

-- ---- the numbers below n
pub up_to_length : (n : ℕ) → length (up_to n) ≡ n
unfolding up_to
up_to_length zero = refl
up_to_length (suc n) = omega (arith, length-append (up_to n) (n ∷ []), up_to_length n)

pub up_to_at : (n j : ℕ) → j < n → get_or (up_to n) j 0 ≡ j
unfolding up_to
up_to_at zero j h = none_below_lem h
up_to_at (suc n) j h =
    let len = up_to_length n in
    elim (dec_lt j n) [
      | yes k ↦ get_or-append (up_to n) (n ∷ []) 0 j (omega arith) ∙ up_to_at n j k
      | no k ↦
          let e : j ≡ length (up_to n) + 0 = omega arith in
          let d : n ≡ j = omega arith in
          ap (λ (i : ℕ). get_or (up_to n ++ (n ∷ [])) i 0) e ∙ get_or-append-add (up_to n) (n ∷ []) 0 0 ∙ d
    ]

-- ---- one point more, and the images
-- f is injective on the points, and x and the entries of l are points
add_map : (points : List ℕ) (f : ℕ → ℕ) → Injective points f → (l : List ℕ) (x : ℕ) → All (λ (y : ℕ). y ∈ points) l → x ∈ points → add (map f l) (f x)
    ≡ map f (add l x)
add_map points f i l x all p =
    let same = find_map f l x (λ y h. i.one y x (all.each y h) p) in
    let len = length-map l f in
    elim (dec_lt (find l x) (length l)) [
      | yes h ↦ add_old (map f l) (f x) (omega arith) ∙ ap (map f) (sym (add_old l x h))
      | no h ↦ add_new (map f l) (f x) (omega arith) ∙ sym (map_last f l x) ∙ ap (map f) (sym (add_new l x (omega arith)))
    ]

-- points with one place are one point
find_one : (l : List ℕ) → Injective l (find l)
find_one l = record { one = λ x y a b e. sym (get_d_find l x a) ∙ ap (λ (j : ℕ). get_or l j 0) e ∙ get_d_find l y b }

-- ---- the theorem
module _ (σ ρ : ℕ → ℕ) (start size : ℕ) (maps : Maps σ ρ start size) where
  abbrev order : List ℕ
  order = order_of σ ρ start size

  abbrev to : ℕ → List ℕ
  to = order_to σ ρ start

  abbrev S : ℕ → ℕ
  S = image_at (renamed order σ)

  abbrev R : ℕ → ℕ
  R = image_at (renamed order ρ)

  -- a visit in the tables is a visit to the points
  visit_map : (l : List ℕ) (i : ℕ) → All (λ (y : ℕ). y ∈ order) l → i < length l → visit S R (map (find order) l) i ≡ map (find order) (visit σ ρ l i)
  visit_map l i all h =
      let n = numbering σ ρ start size maps in
      let t = renaming σ ρ start size maps in
      let x = get_or l i 0 in
      let p = all.each x (get_d_in l i h) in
      let pσ = n.σ_closed x p in
      let one = find_one order in
      rw (get_d_map (find order) l i h, t.S.step x p, t.R.step x p, add_map order (find order) one l (σ x) all pσ)
      (add_map order (find order) one (add l (σ x)) (ρ x) (add_all (λ (y : ℕ). y ∈ order) l (σ x) all pσ) (n.ρ_closed x p))

  -- so the visits in the tables are the visits to the points, by number
  to_map : (i : ℕ) → order_to S R 0 i ≡ map (find order) (to i)
  unfolding order_to
  to_map zero =
      let n = numbering σ ρ start size maps in
      let e : find order start ≡ 0 = rw n.first at (n.once.place 0 n.some) in
      ap (λ (x : ℕ). x ∷ []) (sym e)
  to_map (suc i) =
      let e = to_map i in
      let len = length-map (to i) (find order) in
      elim (dec_lt i (length (to i))) [
        | yes h ↦
            to_more S R 0 i (rw e (omega arith)) ∙ ap (λ (l : List ℕ). visit S R l i) e
            ∙ visit_map (to i) i (to_in σ ρ start size maps i) h ∙ ap (map (find order)) (sym (to_more σ ρ start i h))
        | no h ↦ to_done S R 0 i (rw e (omega arith)) ∙ e ∙ ap (map (find order)) (sym (to_done σ ρ start i (omega arith)))
      ]

  -- as many visits as there are points that get a number
  to_end : to (length order) ≡ order
  to_end =
      let n = length order in
      order_stop σ ρ start size maps n (numbering σ ρ start size maps).few
      (once_le (to n) order (to_once σ ρ start n) (to_in σ ρ start size maps n).each)

  -- the numbers of the points in order
  numbers : map (find order) order ≡ up_to (length order)
  numbers =
      let n = length order in
      let len = length-map order (find order) in
      ext_get_or 0 (map (find order) order) (up_to n) (len ∙ sym (up_to_length n)) (λ j h.
      let k : j < n = omega arith in
      get_d_map (find order) order j k ∙ (numbering σ ρ start size maps).once.place j k ∙ sym (up_to_at n j k))

  pub numbered : order_of (image_at (renamed order σ)) (image_at (renamed order ρ)) 0 (length order) ≡ up_to (length order)
  numbered = to_map (length order) ∙ ap (map (find order)) to_end ∙ numbers
