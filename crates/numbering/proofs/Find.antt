-- Laws of the place of a number in a list, of lists without repeats, and the pigeonhole.
-- In order: `find` of a hit and of a miss; the place and the entry, each from the other; `find` of a list with more behind it
-- and of a list of images; `Once` of one entry and of two lists; the pigeonhole, and what it says of the length of a
-- list without repeats.
-- Not here: what `find`, `∈`, `∉` and `Once` mean (specs/Find.antt).
-- Assumes nothing.
use mathlib.Core.Path.{◌≡◌, refl, sym, ap, ◌∙◌}
use mathlib.Core.Logic.{◌≢◌, ◌⊎◌, inl, inr}
use mathlib.Core.Bool.{Bool, true, false}
use mathlib.Core.List.{List, [], ◌∷◌, ◌++◌, map}
use Prim.Native.Nat.{ℕ, zero, suc, ◌+◌, ◌-◌, ◌≤◌, ◌<◌}
use native.Mathlib.Omega.{arith}
use native.Mathlib.Decide.{dec_lt, ℕ_discrete}
use lib.ListN.{length, get_or, length-append, get_or-append}
use lib.Seq.{get_or-append-add}
use lib.Dec.{eqb}
use borrow.Author.Tests.{eq-eqb, ne_eqb}
use Rattle.numbering.specs.Find.{find, ◌∈◌, ◌∉◌, Once}
use Rattle.basics.specs.Choice.{pick}

-- ---- small change
pub none_below_lem : {X : Type 0} {j : ℕ} → j < 0 → X
none_below_lem h = let no : ⊥ = omega arith in absurd no

pub true_false : {X : Type 0} {b : Bool} → b ≡ true → b ≡ false → X
true_false p q = let z : ◌≡◌ {A = ℕ} 0 1 = cc in let no : ⊥ = omega arith in absurd no

pub test : (b : Bool) → (b ≡ true) ⊎ (b ≡ false)
test true = inl refl
test false = inr refl

-- ---- the place and the entry
find_hit : (y : ℕ) (l : List ℕ) (x : ℕ) → y ≡ x → find (y ∷ l) x ≡ 0
unfolding find
find_hit y l x e = rw (eq-eqb y x e)

find_miss : (y : ℕ) (l : List ℕ) (x : ℕ) → (y ≡ x → ⊥) → find (y ∷ l) x ≡ suc (find l x)
unfolding find
find_miss y l x e = rw (ne_eqb y x e)

-- the entry at the place of x is x
pub get_d_find : (l : List ℕ) (x : ℕ) → x ∈ l → get_or l (find l x) 0 ≡ x
unfolding find
get_d_find [] x h = none_below_lem h
get_d_find (y ∷ l) x h = elim (ℕ_discrete y x) [
  | yes e ↦ rw (find_hit y l x e) e
  | no e ↦ let m = find_miss y l x e in rw m (get_d_find l x (omega arith))
]

-- the place is the first one
find_get_d_le : (l : List ℕ) (j : ℕ) → j < length l → find l (get_or l j 0) ≤ j
unfolding find
find_get_d_le [] j h = none_below_lem h
find_get_d_le (y ∷ l) zero h = omega (arith, find_hit y l y refl)
find_get_d_le (y ∷ l) (suc j) h =
    let x = get_or l j 0 in
    elim (ℕ_discrete y x) [
      | yes e ↦ omega (arith, find_hit y l x e)
      | no e ↦ omega (arith, find_miss y l x e, find_get_d_le l j (omega arith))
    ]

pub get_d_in : (l : List ℕ) (j : ℕ) → j < length l → get_or l j 0 ∈ l
get_d_in l j h = omega (arith, find_get_d_le l j h)

-- what is in a list is the entry at some place: a fact on all entries holds of all that is in the list
pub in_all : (P : ℕ → Type 0) (l : List ℕ) → ((j : ℕ) → j < length l → P (get_or l j 0)) → (x : ℕ) → x ∈ l → P x
in_all P l all x h = rw (get_d_find l x h) at (all (find l x) h)

-- ---- more behind
pub find_left : (l m : List ℕ) (x : ℕ) → x ∈ l → find (l ++ m) x ≡ find l x
unfolding find
find_left [] m x h = none_below_lem h
find_left (y ∷ l) m x h = elim (ℕ_discrete y x) [
  | yes e ↦ find_hit y (l ++ m) x e ∙ sym (find_hit y l x e)
  | no e ↦ let k = find_miss y l x e in find_miss y (l ++ m) x e ∙ ap suc (find_left l m x (omega arith)) ∙ sym k
]

pub find_right : (l m : List ℕ) (x : ℕ) → x ∉ l → find (l ++ m) x ≡ length l + find m x
unfolding find
find_right [] m x h = omega arith
find_right (y ∷ l) m x h = elim (ℕ_discrete y x) [
  | yes e ↦ let k = find_hit y l x e in let no : ⊥ = omega arith in absurd no
  | no e ↦ let k = find_miss y l x e in find_miss y (l ++ m) x e ∙ omega (arith, find_right l m x (omega arith))
]

pub find_last : (l : List ℕ) (x : ℕ) → x ∉ l → find (l ++ (x ∷ [])) x ≡ length l
find_last l x h = omega (arith, find_right l (x ∷ []) x h, find_hit x [] x refl)

pub in_left : (l m : List ℕ) (x : ℕ) → x ∈ l → x ∈ l ++ m
in_left l m x h = omega (arith, find_left l m x h, length-append l m)

pub in_right : (l m : List ℕ) (x : ℕ) → x ∈ m → x ∈ l ++ m
in_right l m x h = elim (dec_lt (find l x) (length l)) [
  | yes k ↦ in_left l m x k
  | no k ↦ omega (arith, find_right l m x (omega arith), length-append l m)
]

pub in_append : (l m : List ℕ) (x : ℕ) → x ∈ l ++ m → (x ∈ l) ⊎ (x ∈ m)
in_append l m x h = elim (dec_lt (find l x) (length l)) [
  | yes k ↦ inl k
  | no k ↦ inr (omega (arith, find_right l m x (omega arith), length-append l m))
]

pub in_last : (l : List ℕ) (x : ℕ) → x ∈ l ++ (x ∷ [])
in_last l x = in_right l (x ∷ []) x (omega (arith, find_hit x [] x refl))

-- a fact on all entries, with one entry more
pub all_last : (P : ℕ → Type 0) (l : List ℕ) (x : ℕ) → ((y : ℕ) → y ∈ l → P y) → P x → (y : ℕ) → y ∈ l ++ (x ∷ []) → P y
unfolding find
all_last P l x all p y h = elim (in_append l (x ∷ []) y h) [
  | inl k ↦ all y k
  | inr k ↦ let z : find (x ∷ []) y ≡ 0 = omega arith in rw (rw z at (get_d_find (x ∷ []) y k)) at p
]

-- ---- the images
-- the image of x has the place of x, where no other entry has this image
pub find_map : (f : ℕ → ℕ) (l : List ℕ) (x : ℕ) → ((y : ℕ) → y ∈ l → f y ≡ f x → y ≡ x) → find (map f l) (f x) ≡ find l x
unfolding find
find_map f [] x one = refl
find_map f (y ∷ l) x one = elim (ℕ_discrete y x) [
  | yes e ↦ find_hit (f y) (map f l) (f x) (ap f e) ∙ sym (find_hit y l x e)
  | no e ↦
      let ne : f y ≡ f x → ⊥ = λ d. e (one y (omega (arith, find_hit y l y refl)) d) in
      let k = find_map f l x (λ z h. one z (in_right (y ∷ []) l z h)) in
      find_miss (f y) (map f l) (f x) ne ∙ ap suc k ∙ sym (find_miss y l x e)
]

-- ---- no repeats
pub once_none : Once []
once_none = record { place = λ j h. none_below_lem h }

pub once_by : (l : List ℕ) → ((j k : ℕ) → j < length l → k < length l → get_or l j 0 ≡ get_or l k 0 → j ≡ k) → Once l
once_by l h = record { place = λ j a. let b = get_d_in l j a in h (find l (get_or l j 0)) j b a (get_d_find l (get_or l j 0) b) }

pub once_inj : (l : List ℕ) → Once l → (j k : ℕ) → j < length l → k < length l → get_or l j 0 ≡ get_or l k 0 → j ≡ k
once_inj l o j k a b e = sym (o.place j a) ∙ ap (find l) e ∙ o.place k b

-- two lists that share no entry
pub once_append : (l m : List ℕ) → Once l → Once m → ((x : ℕ) → x ∈ m → x ∉ l) → Once (l ++ m)
once_append l m a b apart = record {
  place = λ j h. elim (dec_lt j (length l)) [
    | yes k ↦ rw (get_or-append l m 0 j k, find_left l m (get_or l j 0) (get_d_in l j k)) (a.place j k)
    | no k ↦
        let e : length l + (j - length l) ≡ j = omega arith in
        let g : j - length l < length m = omega (arith, length-append l m) in
        let d = ap (λ (i : ℕ). get_or (l ++ m) i 0) (sym e) ∙ get_or-append-add l m (j - length l) 0 in
        let x = get_or m (j - length l) 0 in
        rw d (find_right l m x (apart x (get_d_in m (j - length l) g)) ∙ omega (arith, b.place (j - length l) g))
  ];
}

pub once_last : (l : List ℕ) (x : ℕ) → Once l → x ∉ l → Once (l ++ (x ∷ []))
unfolding find
once_last l x o new = once_append l (x ∷ []) o
    (record { place = λ j h. let z : j ≡ 0 = omega arith in rw z (find_hit x [] x refl) })
    (λ y h. let z : find (x ∷ []) y ≡ 0 = omega arith in rw (rw z at (get_d_find (x ∷ []) y h)) at new)

-- ---- the pigeonhole
-- f is injective from the numbers below n to the numbers below m
abbrev Injects : ℕ → ℕ → (ℕ → ℕ) → Type 0
Injects n m f = ((j : ℕ) → j < n → f j < m) × ((j k : ℕ) → j < n → k < n → f j ≡ f k → j ≡ k)

-- f with the value m exchanged for a
abbrev swapped : ℕ → ℕ → (ℕ → ℕ) → ℕ → ℕ
swapped m a f j = pick (eqb (f j) m) a (f j)

swap_yes : (m a : ℕ) (f : ℕ → ℕ) (j : ℕ) → f j ≡ m → swapped m a f j ≡ a
swap_yes m a f j e = rw (eq-eqb (f j) m e)

swap_no : (m a : ℕ) (f : ℕ → ℕ) (j : ℕ) → (f j ≡ m → ⊥) → swapped m a f j ≡ f j
swap_no m a f j e = rw (ne_eqb (f j) m e)

-- one number less on both sides: the place that the last one took goes to whoever had the highest
fewer : (n m : ℕ) (f : ℕ → ℕ) → Injects (suc n) (suc m) f → Injects n m (swapped m (f n) f)
fewer n m f i = (
  λ j h. elim (ℕ_discrete (f j) m) [
    | yes e ↦
        let ne : f n ≢ m = λ d. let z = i.1 j n (omega arith) (omega arith) (e ∙ sym d) in omega arith in
        rw (swap_yes m (f n) f j e) (omega (arith, i.0 n (omega arith)))
    | no e ↦ rw (swap_no m (f n) f j e) (omega (arith, i.0 j (omega arith)))
  ],
  λ j k h g q. elim (ℕ_discrete (f j) m) [
    | yes e ↦ elim (ℕ_discrete (f k) m) [
      | yes d ↦ i.1 j k (omega arith) (omega arith) (e ∙ sym d)
      | no d ↦ let z = i.1 n k (omega arith) (omega arith) (sym (swap_yes m (f n) f j e) ∙ q ∙ swap_no m (f n) f k d) in omega arith
    ]
    | no e ↦ elim (ℕ_discrete (f k) m) [
      | yes d ↦ let z = i.1 j n (omega arith) (omega arith) (sym (swap_no m (f n) f j e) ∙ q ∙ swap_yes m (f n) f k d) in omega arith
      | no d ↦ i.1 j k (omega arith) (omega arith) (sym (swap_no m (f n) f j e) ∙ q ∙ swap_no m (f n) f k d)
    ]
  ],
)

pub pigeonhole : (n m : ℕ) (f : ℕ → ℕ) → ((j : ℕ) → j < n → f j < m) → ((j k : ℕ) → j < n → k < n → f j ≡ f k → j ≡ k) → n ≤ m
pigeonhole zero m f b i = omega arith
pigeonhole (suc n) zero f b i = none_below_lem (b 0 (omega arith))
pigeonhole (suc n) (suc m) f b i = let g = fewer n m f (b, i) in omega (arith, pigeonhole n m (swapped m (f n) f) g.0 g.1)

-- a list without repeats, all of it in m, is not longer than m
pub once_le : (l m : List ℕ) → Once l → ((x : ℕ) → x ∈ l → x ∈ m) → length l ≤ length m
once_le l m o h =
    let put : (j : ℕ) → j < length l → get_or l j 0 ∈ m = λ j a. h (get_or l j 0) (get_d_in l j a) in
    pigeonhole (length l) (length m) (λ j. find m (get_or l j 0)) put (λ j k a b e.
    once_inj l o j k a b (sym (get_d_find m (get_or l j 0) (put j a)) ∙ ap (λ (i : ℕ). get_or m i 0) e ∙ get_d_find m (get_or l k 0) (put k b)))

pub once_below : (l : List ℕ) (n : ℕ) → Once l → ((x : ℕ) → x ∈ l → x < n) → length l ≤ n
once_below l n o h = pigeonhole (length l) n (λ j. get_or l j 0) (λ j a. h (get_or l j 0) (get_d_in l j a)) (once_inj l o)

-- a list that has all numbers below n has at least n entries
pub once_below_all : (l : List ℕ) (n : ℕ) → ((x : ℕ) → x < n → x ∈ l) → n ≤ length l
once_below_all l n h = pigeonhole n (length l) (find l) h (λ j k a b e. sym (get_d_find l j (h j a)) ∙ ap (λ (i : ℕ). get_or l i 0) e ∙ get_d_find l k (h k b))
