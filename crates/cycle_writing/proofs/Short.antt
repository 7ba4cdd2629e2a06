-- Permutations whose cycles have three points at most: their cycles, and where these begin.
--     Shape, shape                      the cycle of a moved point x is x, f x, or x, f x, f (f x), where f is the table as a map
--     begins-yes, begins-low, begins-lower    where a cycle begins: the points behind x are above it
--     begins_above                      and back
--     below-yes, below-no               the cycles that begin below k + 1
--     start-low, start_test             the test of the code
-- Assumes nothing.
use mathlib.Core.Path.{◌≡◌, refl, sym, ap, ◌∙◌}
use mathlib.Core.Logic.{◌⊎◌, inl, inr}
use mathlib.Core.Bool.{Bool, true, false, not, ◌&&◌}
use mathlib.Core.List.{List, [], ◌∷◌, ◌++◌, map, append-nil}
use Prim.Native.Nat.{ℕ, zero, suc, ◌≤◌, ◌<◌}
use native.Mathlib.Decide.{dec_lt, ℕ_discrete}
use native.Mathlib.Omega.{arith}
use lib.Dec.{eqb, leb}
use lib.ListN.{length, get_or}
use borrow.Author.Tests.{le-leb, lt-leb, eq-eqb, ne_eqb}
use Rattle.basics.specs.Choice.{pick}
use Rattle.basics.specs.Count.{those}
use Rattle.basics.proofs.Choice.{pick_true, pick_false, clash}
use Rattle.numbering.specs.Table.{image_at}
use Rattle.figures.specs.Cusps.{steps_to, width, iterates, cycle, none_below}
use Rattle.permutations.specs.Pair.{image}
use Rattle.cycle_writing.specs.Cycles.{begins_cycle, points_from_one, cycles_below}
use Rattle.cycle_writing.specs.Inner.Short.{ShortTable}

-- the default of a place that is there does not matter
pub get_d_any : (l : List ℕ) (i a b : ℕ) → i < length l → get_or l i a ≡ get_or l i b
get_d_any [] i a b h = absurd (omega arith)
get_d_any (x ∷ l) zero a b h = refl
get_d_any (x ∷ l) (suc i) a b h = get_d_any l i a b (omega arith)

steps_home : (t : List ℕ) (x m : ℕ) → steps_to x t m x ≡ 0
unfolding steps_to
steps_home t x zero = refl
steps_home t x (suc m) = pick_true (eqb x x) _ _ (eq-eqb x x refl)

steps_on_lem : (t : List ℕ) (x m y : ℕ) → ¬ (y ≡ x) → steps_to x t (suc m) y ≡ suc (steps_to x t m (image_at t y))
unfolding steps_to
steps_on_lem t x m y d = pick_false (eqb y x) _ _ (ne_eqb y x d)

steps_back : (t : List ℕ) (x m y : ℕ) → image_at t y ≡ x → ¬ (y ≡ x) → steps_to x t (suc m) y ≡ 1
steps_back t x m y e d = steps_on_lem t x m y d ∙ ap suc (ap (steps_to x t m) e ∙ steps_home t x m)

steps_two : (t : List ℕ) (x m y : ℕ) → 2 ≤ m → image_at t (image_at t y) ≡ x → ¬ (y ≡ x) → ¬ (image_at t y ≡ x) → steps_to x t m y ≡ 2
steps_two t x zero y l e d d' = absurd (omega arith)
steps_two t x (suc zero) y l e d d' = absurd (omega arith)
steps_two t x (suc (suc m)) y l e d d' = steps_on_lem t x (suc m) y d ∙ ap suc (steps_back t x m (image_at t y) e d')

steps_one : (t : List ℕ) (x m y : ℕ) → 1 ≤ m → image_at t y ≡ x → ¬ (y ≡ x) → steps_to x t m y ≡ 1
steps_one t x zero y l e d = absurd (omega arith)
steps_one t x (suc m) y l e d = steps_back t x m y e d

cycle_two : (t : List ℕ) (x : ℕ) → 1 ≤ length t → ¬ (image_at t x ≡ x) → image_at t (image_at t x) ≡ x → cycle t x ≡ x ∷ image_at t x ∷ []
unfolding width iterates
cycle_two t x l d e = ap (λ (k : ℕ). iterates t (suc k) x) (steps_one t x (length t) (image_at t x) l e d)

cycle_three : (t : List ℕ) (x : ℕ) → 2 ≤ length t → ¬ (image_at t x ≡ x) → ¬ (image_at t (image_at t x) ≡ x) → image_at t (image_at t (image_at t x)) ≡ x
    → cycle t x ≡ x ∷ image_at t x ∷ image_at t (image_at t x) ∷ []
unfolding width iterates
cycle_three t x l d d' e = ap (λ (k : ℕ). iterates t (suc k) x) (steps_two t x (length t) (image_at t x) l e d d')

pub data Shape (t : List ℕ) (x : ℕ) : Type 0 where
  pair : image_at t (image_at t x) ≡ x → cycle t x ≡ x ∷ image_at t x ∷ [] → Shape t x
  triple : ¬ (image_at t (image_at t x) ≡ x) → image_at t (image_at t (image_at t x)) ≡ x → cycle t x ≡ x ∷ image_at t x ∷ image_at t (image_at t x) ∷ [] → Shape t x

-- ---- the smallest point

small_two : (x a : ℕ) → x ≤ a → none_below x (x ∷ a ∷ []) ≡ true
unfolding none_below
small_two x a h = rw (le-leb x x (omega arith), le-leb x a h)

small_three : (x a b : ℕ) → x ≤ a → x ≤ b → none_below x (x ∷ a ∷ b ∷ []) ≡ true
unfolding none_below
small_three x a b h k = rw (le-leb x x (omega arith), le-leb x a h, le-leb x b k)

low_second : (x a : ℕ) (c : List ℕ) → a < x → none_below x (x ∷ a ∷ c) ≡ false
unfolding none_below
low_second x a c h = rw (le-leb x x (omega arith), lt-leb x a h)

low_third : (x a b : ℕ) → b < x → none_below x (x ∷ a ∷ b ∷ []) ≡ false
unfolding none_below
low_third x a b h = go (leb x a)
  where
    go : (k : Bool) → pick (leb x x) (pick k (pick (leb x b) true false) false) false ≡ false
    go true = rw (le-leb x x (omega arith), lt-leb x b h)
    go false = rw (le-leb x x (omega arith))

module _ (t : List ℕ) (h : ShortTable t) where
  -- the map, and the number of points
  abbrev f : ℕ → ℕ
  f x = image_at t x

  abbrev n : ℕ
  n = length t

  pub back_home : (x : ℕ) → x < n → ¬ (f (f x) ≡ x) → f (f (f x)) ≡ x
  back_home x l d = go (h.short x l)
    where
      go : (f (f x) ≡ x) ⊎ (f (f (f x)) ≡ x) → f (f (f x)) ≡ x
      go (inl e) = absurd (d e)
      go (inr e) = e

  pub shape : (x : ℕ) → x < n → ¬ (f x ≡ x) → Shape t x
  shape x l d = elim (ℕ_discrete (f (f x)) x) [
    | yes e ↦ pair e (cycle_two t x (omega arith) d e)
    | no e ↦ let b = back_home x l e in triple e b (cycle_three t x (let k = h.low x l in let q : ¬ (f x ≡ x) = d in omega arith) d e b)
  ]

  -- the test of a moved point
  moved_test : (x : ℕ) → ¬ (f x ≡ x) → begins_cycle t x ≡ none_below x (cycle t x)
  unfolding begins_cycle
  moved_test x d = ap (λ (b : Bool). not b && none_below x (cycle t x)) (ne_eqb (f x) x d)

  still_test : (x : ℕ) → f x ≡ x → begins_cycle t x ≡ false
  unfolding begins_cycle
  still_test x e = ap (λ (b : Bool). not b && none_below x (cycle t x)) (eq-eqb (f x) x e)

  pub begins_yes : (x : ℕ) → x < n → x < f x → x ≤ f (f x) → begins_cycle t x ≡ true
  begins_yes x l a b = let d : ¬ (f x ≡ x) = λ e. omega arith in moved_test x d ∙ go (shape x l d)
    where
      go : Shape t x → none_below x (cycle t x) ≡ true
      go (pair e c) = ap (none_below x) c ∙ small_two x (f x) (omega arith)
      go (triple d e c) = ap (none_below x) c ∙ small_three x (f x) (f (f x)) (omega arith) b

  pub begins_low : (x : ℕ) → x < n → f x ≤ x → begins_cycle t x ≡ false
  begins_low x l a = elim (ℕ_discrete (f x) x) [ yes e ↦ still_test x e | no d ↦ moved_test x d ∙ go (let q : ¬ (f x ≡ x) = d in omega arith) (shape x l d) ]
    where
      go : f x < x → Shape t x → none_below x (cycle t x) ≡ false
      go k (pair e c) = ap (none_below x) c ∙ low_second x (f x) [] k
      go k (triple d e c) = ap (none_below x) c ∙ low_second x (f x) (f (f x) ∷ []) k

  pub begins_lower : (x : ℕ) → x < n → x < f x → f (f x) < x → begins_cycle t x ≡ false
  begins_lower x l a b = let d : ¬ (f x ≡ x) = λ e. omega arith in moved_test x d ∙ go (shape x l d)
    where
      go : Shape t x → none_below x (cycle t x) ≡ false
      go (pair e c) = absurd (omega arith)
      go (triple d e c) = ap (none_below x) c ∙ low_third x (f x) (f (f x)) b

  pub record Above (x : ℕ) : Type 0 where
    pub one : x < f x
    pub two : x ≤ f (f x)

  pub begins_above : (x : ℕ) → x < n → begins_cycle t x ≡ true → Above x
  begins_above x l e = elim (dec_lt x (f x)) [
    | yes a ↦ elim (dec_lt (f (f x)) x) [ yes b ↦ clash e (begins_lower x l a b) | no b ↦ record { one = a; two = omega arith } ]
    | no a ↦ clash e (begins_low x l (omega arith))
  ]

-- ---- the cycles that begin below k + 1

map-append : {A B : Type 0} (g : A → B) (a b : List A) → map g (a ++ b) ≡ map g a ++ map g b
map-append g [] b = refl
map-append {A} {B} g (x ∷ a) b = ap (λ (l : List B). g x ∷ l) (map-append g a b)

module _ (t : List ℕ) (k : ℕ) where
  pub below_yes : begins_cycle t k ≡ true → cycles_below t (suc k) ≡ cycles_below t k ++ (points_from_one (cycle t k) ∷ [])
  unfolding cycles_below
  below_yes e =
      ap (λ (l : List ℕ). map (λ (x : ℕ). points_from_one (cycle t x)) (those (begins_cycle t) k ++ l)) (pick_true (begins_cycle t k) (k ∷ []) [] e)
      ∙ map-append (λ (x : ℕ). points_from_one (cycle t x)) (those (begins_cycle t) k) (k ∷ [])

  pub below_no : begins_cycle t k ≡ false → cycles_below t (suc k) ≡ cycles_below t k
  unfolding cycles_below
  below_no e =
      ap (λ (l : List ℕ). map (λ (x : ℕ). points_from_one (cycle t x)) (those (begins_cycle t) k ++ l)) (pick_false (begins_cycle t k) (k ∷ []) [] e)
      ∙ ap (map (λ (x : ℕ). points_from_one (cycle t x))) (append-nil (those (begins_cycle t) k))

-- ---- the test of the code: a and b are the points behind x

-- a point that is there has one image
pub image_is : (t : List ℕ) (x : ℕ) → x < length t → image t x ≡ image_at t x
image_is t x l = get_d_any t x x 0 l

module _ (t : List ℕ) (h : ShortTable t) (x a : ℕ) (l : x < length t) (ea : a ≡ image t x) where
  pub once_is : a ≡ image_at t x
  once_is = ea ∙ image_is t x l

  pub again_is : (b : ℕ) → b ≡ image t a → b ≡ image_at t (image_at t x)
  again_is b eb = eb ∙ ap (image t) once_is ∙ image_is t (image_at t x) (h.low x l)

  pub start_low : a ≤ x → false ≡ begins_cycle t x
  start_low k = sym (begins_low t h x l (omega (arith, once_is)))

  pub start_test : x < a → (b : ℕ) → b ≡ image t a → leb x b ≡ begins_cycle t x
  start_test k b eb = let e : b ≡ image_at t (image_at t x) = again_is b eb in elim (dec_lt b x) [
    | yes q ↦ lt-leb x b q ∙ sym (begins_lower t h x l (omega (arith, once_is)) (omega (arith, e)))
    | no q ↦ le-leb x b (omega arith) ∙ sym (begins_yes t h x l (omega (arith, once_is)) (omega (arith, e)))
  ]
