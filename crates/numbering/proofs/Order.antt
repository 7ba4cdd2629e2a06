-- The theorem on the numbering: `numbering : Maps σ ρ start size → Numbering σ ρ start size (order_of σ ρ start size)`.
-- Why: the list only grows, and each point in it is visited once, when its images are added. A list without repeats of
-- numbers below `size` has at most `size` entries, so after `size` visits every entry has been visited.
-- In order: `add`; the visits; the theorem; when the code may stop (`order_stop`); the numbering asks its maps only at points
-- (`order_ext`).
-- Assumes nothing.
use mathlib.Core.Path.{◌≡◌, refl, sym, ◌∙◌}
use mathlib.Core.List.{List, [], ◌∷◌, ◌++◌}
use Prim.Native.Nat.{ℕ, zero, suc, ◌+◌, ◌-◌, ◌≤◌, ◌<◌}
use native.Mathlib.Omega.{arith}
use native.Mathlib.Decide.{dec_lt}
use lib.ListN.{length, get_or, length-append, get_or-append}
use borrow.Author.Tests.{lt-ltb, le-ltb}
use Rattle.numbering.specs.Find.{find, ◌∈◌, ◌∉◌, Once}
use Rattle.numbering.specs.Order.{add, visit, order_to, order_of, Maps, Reached, here, by_σ, by_ρ, Numbering}
use Rattle.numbering.proofs.Find.{none_below_lem, get_d_find, get_d_in, in_last, all_last, once_none, once_last, once_below}

-- ---- one point more
pub add_old : (l : List ℕ) (x : ℕ) → x ∈ l → add l x ≡ l
unfolding add
add_old l x h = rw (lt-ltb (find l x) (length l) h)

pub add_new : (l : List ℕ) (x : ℕ) → x ∉ l → add l x ≡ l ++ (x ∷ [])
unfolding add
add_new l x h = rw (le-ltb (find l x) (length l) h)

-- what a property of lists needs to go through `add`
add_both : (P : List ℕ → Type 0) (l : List ℕ) (x : ℕ) → (x ∈ l → P l) → (x ∉ l → P (l ++ (x ∷ []))) → P (add l x)
add_both P l x a b = elim (dec_lt (find l x) (length l)) [
  | yes h ↦ rw (add_old l x h) (a h)
  | no h ↦ rw (add_new l x (omega arith)) (b (omega arith))
]

-- l' is l with more behind it
pub record Grows (l l' : List ℕ) : Type 0 where
  pub long : length l ≤ length l'
  pub same : (j : ℕ) → j < length l → get_or l' j 0 ≡ get_or l j 0

grows_refl : (l : List ℕ) → Grows l l
grows_refl l = record { long = omega arith; same = λ j h. refl }

grows_trans : {a b c : List ℕ} → Grows a b → Grows b c → Grows a c
grows_trans f g = record { long = omega arith; same = λ j h. g.same j (omega arith) ∙ f.same j h }

keeps : {a b : List ℕ} → Grows a b → (x : ℕ) → x ∈ a → x ∈ b
keeps {a} {b} g x h = rw (g.same (find a x) h ∙ get_d_find a x h) at (get_d_in b (find a x) (omega arith))

add_grows : (l : List ℕ) (x : ℕ) → Grows l (add l x)
add_grows l x = add_both (λ (m : List ℕ). Grows l m) l x (λ h. grows_refl l)
    (λ h. record { long = omega (arith, length-append l (x ∷ [])); same = λ j k. get_or-append l (x ∷ []) 0 j k })

pub visit_grows : (σ ρ : ℕ → ℕ) (l : List ℕ) (i : ℕ) → Grows l (visit σ ρ l i)
visit_grows σ ρ l i = grows_trans (add_grows l (σ (get_or l i 0))) (add_grows (add l (σ (get_or l i 0))) (ρ (get_or l i 0)))

add_in : (l : List ℕ) (x : ℕ) → x ∈ add l x
add_in l x = add_both (λ (m : List ℕ). x ∈ m) l x (λ h. h) (λ h. in_last l x)

add_once : (l : List ℕ) (x : ℕ) → Once l → Once (add l x)
add_once l x o = add_both Once l x (λ h. o) (once_last l x o)

-- all of l has the property P
pub record All (P : ℕ → Type 0) (l : List ℕ) : Type 0 where
  pub each : (y : ℕ) → y ∈ l → P y

pub add_all : (P : ℕ → Type 0) (l : List ℕ) (x : ℕ) → All P l → P x → All P (add l x)
add_all P l x a p = add_both (All P) l x (λ h. a) (λ h. record { each = all_last P l x a.each p })

-- ---- the visits
module _ (σ ρ : ℕ → ℕ) (start : ℕ) where
  abbrev to : ℕ → List ℕ
  to = order_to σ ρ start

  abbrev visited : ℕ → ℕ
  visited i = get_or (to i) i 0

  -- the point with the number i is visited, if there is one
  pub to_more : (i : ℕ) → i < length (to i) → to (suc i) ≡ visit σ ρ (to i) i
  unfolding order_to
  to_more i h = rw (order_to, lt-ltb i (length (to i)) h)

  pub to_done : (i : ℕ) → length (to i) ≤ i → to (suc i) ≡ to i
  unfolding order_to
  to_done i h = rw (order_to, le-ltb i (length (to i)) h)

  -- what a property of lists needs to go through a visit
  to_both : (P : List ℕ → Type 0) (i : ℕ) → (i < length (to i) → P (visit σ ρ (to i) i)) → (length (to i) ≤ i → P (to i)) → P (to (suc i))
  to_both P i a b = elim (dec_lt i (length (to i))) [
    | yes h ↦ rw (to_more i h) (a h)
    | no h ↦ rw (to_done i (omega arith)) (b (omega arith))
  ]

  to_grows : (i : ℕ) → Grows (to i) (to (suc i))
  to_grows i = to_both (Grows (to i)) i (λ h. visit_grows σ ρ (to i) i) (λ h. grows_refl (to i))

  pub to_once : (i : ℕ) → Once (to i)
  unfolding order_to
  to_once zero = once_last [] start once_none (omega arith)
  to_once (suc i) = to_both Once i (λ h. add_once _ _ (add_once _ _ (to_once i))) (λ h. to_once i)

  to_start : (i : ℕ) → (0 < length (to i)) × (get_or (to i) 0 0 ≡ start)
  unfolding order_to
  to_start zero = (omega arith, refl)
  to_start (suc i) = let h = to_start i in let g = to_grows i in (omega arith, g.same 0 (omega arith) ∙ h.1)

  -- only points with a property that σ and ρ keep are numbered
  to_all : (P : ℕ → Type 0) → P start → ((x : ℕ) → P x → P (σ x)) → ((x : ℕ) → P x → P (ρ x)) → (i : ℕ) → All P (to i)
  unfolding order_to
  to_all P p pσ pρ zero = record { each = all_last P [] start (λ y h. none_below_lem h) p }
  to_all P p pσ pρ (suc i) =
      let a = to_all P p pσ pρ i in
      to_both (All P) i
      (λ h. let x = a.each (visited i) (get_d_in (to i) i h) in add_all P _ _ (add_all P _ _ a (pσ _ x)) (pρ _ x))
      (λ h. a)

  -- the images of the visited points are numbered
  to_images : (i j : ℕ) → j < i → j < length (to i) → (σ (get_or (to i) j 0) ∈ to i) × (ρ (get_or (to i) j 0) ∈ to i)
  to_images zero j a b = none_below_lem a
  to_images (suc i) j a b = elim (dec_lt i (length (to i))) [
    | yes h ↦
        let g = to_grows i in
        rw (g.same j (omega arith)) (elim (dec_lt j i) [
          | yes k ↦ let v = to_images i j k (omega arith) in (keeps g _ v.0, keeps g _ v.1)
          | no k ↦
              let e : j ≡ i = omega arith in
              let x = visited i in
              let l = add (to i) (σ x) in
              rw (e, to_more i h) (keeps (add_grows l (ρ x)) (σ x) (add_in (to i) (σ x)), add_in l (ρ x))
        ])
    | no h ↦
        let e = to_done i (omega arith) in
        let b' = rw e at b in
        rw e (to_images i j (omega arith) b')
  ]

  -- nothing is left to visit: more visits change nothing
  to_stays : (i k : ℕ) → length (to i) ≤ i → to (i + k) ≡ to i
  to_stays i zero h = let e : i + 0 ≡ i = omega arith in rw e
  to_stays i (suc k) h =
      let e = to_stays i k h in
      let f : i + suc k ≡ suc (i + k) = omega arith in
      rw f (to_done (i + k) (rw e (omega arith)) ∙ e)

-- ---- the theorem
module _ (σ ρ : ℕ → ℕ) (start size : ℕ) (maps : Maps σ ρ start size) where
  abbrev order : List ℕ
  order = order_of σ ρ start size

  pub to_low : (i x : ℕ) → x ∈ order_to σ ρ start i → x < size
  to_low i = (to_all σ ρ start (λ (x : ℕ). x < size) maps.start_low maps.σ_low maps.ρ_low i).each

  order_few : length order ≤ size
  order_few = once_below order size (to_once σ ρ start size) (to_low size)

  order_closed : (x : ℕ) → x ∈ order → (σ x ∈ order) × (ρ x ∈ order)
  order_closed x h = rw (get_d_find order x h) at (to_images σ ρ start size (find order x) (omega (arith, order_few)) h)

  order_all : (x : ℕ) → Reached σ ρ start x → x ∈ order
  order_all start here = let h = to_start σ ρ start size in rw h.1 at (get_d_in order 0 h.0)
  order_all _ (by_σ {x} h) = (order_closed x (order_all x h)).0
  order_all _ (by_ρ {x} h) = (order_closed x (order_all x h)).1

  to_reached : (i : ℕ) → All (Reached σ ρ start) (order_to σ ρ start i)
  to_reached = to_all σ ρ start (Reached σ ρ start) here (λ x p. by_σ p) (λ x p. by_ρ p)

  -- what has a number after some visits has one in the end
  pub to_in : (i : ℕ) → All (λ (x : ℕ). x ∈ order) (order_to σ ρ start i)
  to_in i = record { each = λ x h. order_all x ((to_reached i).each x h) }

  pub numbering : Numbering σ ρ start size order
  numbering = record {
    once = to_once σ ρ start size;
    some = (to_start σ ρ start size).0;
    first = (to_start σ ρ start size).1;
    σ_closed = λ x h. (order_closed x h).0;
    ρ_closed = λ x h. (order_closed x h).1;
    only = (to_reached size).each;
    all = order_all;
    few = order_few;
    low = to_low size;
  }

  -- the code stops at the first i that is the number of points numbered
  pub order_stop : (i : ℕ) → i ≤ size → length (order_to σ ρ start i) ≤ i → order_to σ ρ start i ≡ order
  order_stop i h k = let e : i + (size - i) ≡ size = omega arith in sym (rw e at (to_stays σ ρ start i (size - i) k))

-- ---- maps that agree at the points have one numbering
module _ (σ ρ σ' ρ' : ℕ → ℕ) (start size : ℕ) (maps : Maps σ ρ start size) (eσ : (x : ℕ) → x < size → σ' x ≡ σ x) (eρ : (x : ℕ) → x < size → ρ' x ≡ ρ x) where
  to_ext : (i : ℕ) → order_to σ' ρ' start i ≡ order_to σ ρ start i
  unfolding order_to
  to_ext zero = refl
  to_ext (suc i) =
      let e = to_ext i in
      let l = order_to σ ρ start i in
      let x = get_or l i 0 in
      elim (dec_lt i (length l)) [
        | yes h ↦
            let k = to_low σ ρ start size maps i x (get_d_in l i h) in
            to_more σ' ρ' start i (rw e h) ∙ (rw (e, eσ x k, eρ x k) (sym (to_more σ ρ start i h)))
        | no h ↦ to_done σ' ρ' start i (rw e (omega arith)) ∙ e ∙ sym (to_done σ ρ start i (omega arith))
      ]

  pub order_ext : order_of σ' ρ' start size ≡ order_of σ ρ start size
  order_ext = to_ext size
