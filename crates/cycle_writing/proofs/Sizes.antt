-- How many bytes the parts of an export have, and which bytes stand at a point.
--     one_digit .. four-digits    how many digits a number below 10,000 has
--     two_size, three-size        a cycle of two points, of three
--     two_at, three-at            the cycle that begins at x
--     sized_least                 a cycle has two points at least
--     bytes-none, bytes-more      the cycles that begin below 0, below x + 1
--     bytes_kept                  no cycle begins at x
--     bytes_room                  there is room for the cycle at x where there is room for all
--     empty-is, cycles-are        a permutation without cycles, and with some
--     export_size                 the whole
-- Assumes nothing.
use mathlib.Core.Path.{◌≡◌, refl, sym, ap, ◌∙◌}
use mathlib.Core.Logic.{◌⊎◌, inl, inr}
use mathlib.Core.Bool.{true, false}
use mathlib.Core.List.{List, [], ◌∷◌, ◌++◌, append_assoc, append-nil}
use Prim.Native.Nat.{ℕ, zero, suc, ◌+◌, ◌/◌, ◌≤◌, ◌<◌}
use native.Mathlib.Decide.{dec_lt, ℕ_discrete}
use native.Mathlib.Numerals.{add-one}
use native.Mathlib.Omega.{arith}
use lib.ListN.{length, length-append}
use Rattle.basics.specs.Choice.{pick}
use Rattle.basics.proofs.Choice.{pick_true, pick_false, either}
use Rattle.decimal.specs.Decimal.{digits}
use Rattle.decimal.proofs.Decimals.{last, in_front, digits_last, digits_more}
use Rattle.numbering.specs.Table.{image_at}
use Rattle.figures.specs.Cusps.{cycle}
use Rattle.permutations.specs.Pair.{image}
use Rattle.cycle_writing.specs.Cycles.{begins_cycle, points_from_one, cycles_below, cycles_of}
use Rattle.cycle_writing.specs.Bytes.{behind_commas, cycle_bytes, cycles_bytes, permutation_bytes, export_of}
use Rattle.cycle_writing.specs.Inner.Short.{StartIn, bytes_at, bytes_below}
use Rattle.cycle_writing.proofs.Short.{Shape, pair, triple, shape, begins_above, below_yes, below_no, once_is, again_is}

-- ---- digits

one_front : (n : ℕ) (t : List ℕ) → n < 10 → length (in_front n t) ≡ 1 + length t
one_front n t h = ap length (digits_last n t h) ∙ omega arith

two_front : (n : ℕ) (t : List ℕ) → 10 ≤ n → n < 100 → length (in_front n t) ≡ 2 + length t
two_front n t h k = ap length (digits_more n t h) ∙ one_front (n / 10) (last n ∷ t) (omega arith) ∙ omega arith

three_front : (n : ℕ) (t : List ℕ) → 100 ≤ n → n < 1000 → length (in_front n t) ≡ 3 + length t
three_front n t h k = ap length (digits_more n t (omega arith)) ∙ two_front (n / 10) (last n ∷ t) (omega arith) (omega arith) ∙ omega arith

four_front : (n : ℕ) (t : List ℕ) → 1000 ≤ n → n < 10000 → length (in_front n t) ≡ 4 + length t
four_front n t h k = ap length (digits_more n t (omega arith)) ∙ three_front (n / 10) (last n ∷ t) (omega arith) (omega arith) ∙ omega arith

module _ (n : ℕ) where
  pub one_digit : n < 10 → 1 ≡ length (digits n)
  unfolding digits
  one_digit h = sym (one_front n [] h)

  pub two_digits : 10 ≤ n → n < 100 → 2 ≡ length (digits n)
  unfolding digits
  two_digits h k = sym (two_front n [] h k)

  pub three_digits : 100 ≤ n → n < 1000 → 3 ≡ length (digits n)
  unfolding digits
  three_digits h k = sym (three_front n [] h k)

  pub four_digits : 1000 ≤ n → n < 10000 → 4 ≡ length (digits n)
  unfolding digits
  four_digits h k = sym (four_front n [] h k)

-- ---- a cycle

pub two_size : (a b : ℕ) → length (cycle_bytes (a ∷ b ∷ [])) ≡ length (digits a) + length (digits b) + 3
unfolding cycle_bytes behind_commas
two_size a b = simp length-append (omega arith)

pub three_size : (a b d : ℕ) → length (cycle_bytes (a ∷ b ∷ d ∷ [])) ≡ length (digits a) + length (digits b) + length (digits d) + 4
unfolding cycle_bytes behind_commas
three_size a b d = simp length-append (omega arith)

module _ (t : List ℕ) (x : ℕ) (h : StartIn t x) where
  moved : ¬ (image_at t x ≡ x)
  moved q = let b = begins_above t h.table x h.below h.begins in omega (arith, b.one)

  its_shape : Shape t x
  its_shape = shape t h.table x h.below moved

  at_start : cycle_bytes (points_from_one (cycle t x)) ≡ bytes_at t x
  unfolding bytes_at
  at_start = sym (pick_true (begins_cycle t x) _ _ h.begins)

  pub low_once : image_at t x < length t
  low_once = h.table.low x h.below

  pub low_again : image_at t (image_at t x) < length t
  low_again = h.table.low (image_at t x) low_once

  pub two_at : image_at t (image_at t x) ≡ x → cycle_bytes ((x + 1) ∷ (image_at t x + 1) ∷ []) ≡ bytes_at t x
  two_at e = ap (λ (k : ℕ). cycle_bytes (k ∷ (image_at t x + 1) ∷ [])) (add-one x) ∙ ap (λ (k : ℕ). cycle_bytes (suc x ∷ k ∷ [])) (add-one (image_at t x))
      ∙ go its_shape
    where
      go : Shape t x → cycle_bytes (suc x ∷ suc (image_at t x) ∷ []) ≡ bytes_at t x
      go (pair q c) = ap (λ (l : List ℕ). cycle_bytes (points_from_one l)) (sym c) ∙ at_start
      go (triple d q c) = absurd (d e)

  pub three_at : ¬ (image_at t (image_at t x) ≡ x) → cycle_bytes ((x + 1) ∷ (image_at t x + 1) ∷ (image_at t (image_at t x) + 1) ∷ []) ≡ bytes_at t x
  three_at e =
      ap (λ (k : ℕ). cycle_bytes (k ∷ (image_at t x + 1) ∷ (image_at t (image_at t x) + 1) ∷ [])) (add-one x)
      ∙ ap (λ (k : ℕ). cycle_bytes (suc x ∷ k ∷ (image_at t (image_at t x) + 1) ∷ [])) (add-one (image_at t x))
      ∙ ap (λ (k : ℕ). cycle_bytes (suc x ∷ suc (image_at t x) ∷ k ∷ [])) (add-one (image_at t (image_at t x)))
      ∙ go its_shape
    where
      go : Shape t x → cycle_bytes (suc x ∷ suc (image_at t x) ∷ suc (image_at t (image_at t x)) ∷ []) ≡ bytes_at t x
      go (pair q c) = absurd (e q)
      go (triple d q c) = ap (λ (l : List ℕ). cycle_bytes (points_from_one l)) (sym c) ∙ at_start

-- the same by what the code finds: a and b are the points behind x
module _ (t : List ℕ) (x a b : ℕ) (h : StartIn t x) (ea : a ≡ image t x) (eb : b ≡ image t a) where
  same_a : a ≡ image_at t x
  same_a = once_is t h.table x a h.below ea

  same_b : b ≡ image_at t (image_at t x)
  same_b = again_is t h.table x a h.below ea b eb

  pub low_a : a < length t
  low_a = let l = low_once t x h in omega (arith, same_a, l)

  pub low_b : b < length t
  low_b = let l = low_again t x h in omega (arith, same_b, l)

  pub two_here : b ≡ x → cycle_bytes ((x + 1) ∷ (a + 1) ∷ []) ≡ bytes_at t x
  two_here e = ap (λ (k : ℕ). cycle_bytes ((x + 1) ∷ (k + 1) ∷ [])) same_a ∙ two_at t x h (sym same_b ∙ e)

  pub three_here : ¬ (b ≡ x) → cycle_bytes ((x + 1) ∷ (a + 1) ∷ (b + 1) ∷ []) ≡ bytes_at t x
  three_here d =
      ap (λ (k : ℕ). cycle_bytes ((x + 1) ∷ (k + 1) ∷ (b + 1) ∷ [])) same_a
      ∙ ap (λ (k : ℕ). cycle_bytes ((x + 1) ∷ (image_at t x + 1) ∷ (k + 1) ∷ [])) same_b
      ∙ three_at t x h (λ e. d (same_b ∙ e))

  pub two_sized : b ≡ x → length (bytes_at t x) ≡ length (digits (x + 1)) + length (digits (a + 1)) + 3
  two_sized e = sym (ap length (two_here e)) ∙ two_size (x + 1) (a + 1)

  pub three_sized : ¬ (b ≡ x) → length (bytes_at t x) ≡ length (digits (x + 1)) + length (digits (a + 1)) + length (digits (b + 1)) + 4
  three_sized d = sym (ap length (three_here d)) ∙ three_size (x + 1) (a + 1) (b + 1)

  -- a cycle has two points at least
  pub sized_least : length (digits (x + 1)) + length (digits (a + 1)) + 3 ≤ length (bytes_at t x)
  sized_least = elim (ℕ_discrete b x) [ yes e ↦ omega (arith, two_sized e) | no d ↦ omega (arith, three_sized d) ]

none_at : (t : List ℕ) (x : ℕ) → begins_cycle t x ≡ false → [] ≡ bytes_at t x
unfolding bytes_at
none_at t x e = sym (pick_false (begins_cycle t x) _ _ e)

-- ---- the cycles one after another

pub bytes_last : (cs : List (List ℕ)) (c : List ℕ) → cycles_bytes (cs ++ (c ∷ [])) ≡ cycles_bytes cs ++ cycle_bytes c
unfolding cycles_bytes
bytes_last [] c = append-nil (cycle_bytes c)
bytes_last (d ∷ cs) c = ap (λ (l : List ℕ). cycle_bytes d ++ l) (bytes_last cs c) ∙ sym (append_assoc (cycle_bytes d) (cycles_bytes cs) (cycle_bytes c))

pub bytes_none : (t : List ℕ) → [] ≡ bytes_below t 0
unfolding bytes_below cycles_below cycles_bytes
bytes_none t = refl

bytes_next : (t : List ℕ) (x : ℕ) → bytes_below t x ++ bytes_at t x ≡ bytes_below t (suc x)
unfolding bytes_below bytes_at
bytes_next t x = go (either (begins_cycle t x))
  where
    go : (begins_cycle t x ≡ true) ⊎ (begins_cycle t x ≡ false)
        → cycles_bytes (cycles_below t x) ++ pick (begins_cycle t x) (cycle_bytes (points_from_one (cycle t x))) []
        ≡ cycles_bytes (cycles_below t (suc x))
    go (inl e) =
        ap (λ (l : List ℕ). cycles_bytes (cycles_below t x) ++ l) (pick_true (begins_cycle t x) _ _ e)
        ∙ sym (ap cycles_bytes (below_yes t x e) ∙ bytes_last (cycles_below t x) (points_from_one (cycle t x)))
    go (inr e) =
        ap (λ (l : List ℕ). cycles_bytes (cycles_below t x) ++ l) (pick_false (begins_cycle t x) _ _ e)
        ∙ append-nil (cycles_bytes (cycles_below t x))
        ∙ sym (ap cycles_bytes (below_no t x e))

pub bytes_more : (t : List ℕ) (x : ℕ) → bytes_below t x ++ bytes_at t x ≡ bytes_below t (x + 1)
bytes_more t x = bytes_next t x ∙ ap (bytes_below t) (sym (add-one x))

-- no cycle begins at x
pub bytes_kept : (t : List ℕ) (x : ℕ) → begins_cycle t x ≡ false → bytes_below t x ≡ bytes_below t (x + 1)
bytes_kept t x e = sym (append-nil (bytes_below t x)) ∙ ap (λ (l : List ℕ). bytes_below t x ++ l) (none_at t x e) ∙ bytes_more t x

pub size_more : (t : List ℕ) (x : ℕ) → length (bytes_below t (x + 1)) ≡ length (bytes_below t x) + length (bytes_at t x)
size_more t x = sym (ap length (bytes_more t x)) ∙ length-append (bytes_below t x) (bytes_at t x)

size_grows : (t : List ℕ) (x n : ℕ) → x ≤ n → length (bytes_below t x) ≤ length (bytes_below t n)
size_grows t x zero h = let e : x ≡ 0 = omega arith in omega (arith, ap (λ (k : ℕ). length (bytes_below t k)) e)
size_grows t x (suc n) h = go (dec_lt n x) (size_grows t x n) (sym (ap length (bytes_next t n)) ∙ length-append (bytes_below t n) (bytes_at t n))
  where
    go : Dec (n < x) → (x ≤ n → length (bytes_below t x) ≤ length (bytes_below t n)) → length (bytes_below t (suc n))
        ≡ length (bytes_below t n) + length (bytes_at t n)
        → length (bytes_below t x) ≤ length (bytes_below t (suc n))
    go (yes l) ih e = let q : x ≡ suc n = omega arith in omega (arith, ap (λ (k : ℕ). length (bytes_below t k)) q)
    go (no l) ih e = omega (arith, ih (omega arith), e)

pub bytes_room : (t : List ℕ) (x n : ℕ) → x < n → length (bytes_below t x) + length (bytes_at t x) ≤ length (bytes_below t n)
bytes_room t x n h = omega (arith, size_more t x, size_grows t (x + 1) n (omega arith))

-- ---- a permutation

cycle_some : (c : List ℕ) → 1 ≤ length (cycle_bytes c)
unfolding cycle_bytes
cycle_some [] = omega arith
cycle_some (x ∷ c) = omega arith

empty_cycles : (cs : List (List ℕ)) → length (cycles_bytes cs) ≡ 0 → 40 ∷ 41 ∷ [] ≡ permutation_bytes cs
unfolding cycles_bytes permutation_bytes cycle_bytes
empty_cycles [] e = refl
empty_cycles (c ∷ cs) e = absurd (omega (arith, cycle_some c, length-append (cycle_bytes c) (cycles_bytes cs)))

some_cycles : (cs : List (List ℕ)) → ¬ (length (cycles_bytes cs) ≡ 0) → cycles_bytes cs ≡ permutation_bytes cs
unfolding cycles_bytes permutation_bytes
some_cycles [] d = absurd (d refl)
some_cycles (c ∷ cs) d = refl

module _ (t : List ℕ) where
  pub empty_is : length (bytes_below t (length t)) ≡ 0 → 40 ∷ 41 ∷ [] ≡ permutation_bytes (cycles_of t)
  unfolding bytes_below
  empty_is e = empty_cycles (cycles_of t) e

  pub cycles_are : ¬ (length (bytes_below t (length t)) ≡ 0) → bytes_below t (length t) ≡ permutation_bytes (cycles_of t)
  unfolding bytes_below
  cycles_are d = some_cycles (cycles_of t) d

-- ---- the whole

pub export_size : (s r : List ℕ)
    → length (export_of s r) ≡ length (digits (length s)) + length (permutation_bytes (cycles_of s)) + length (permutation_bytes (cycles_of r)) + 2
unfolding export_of
export_size s r = simp length-append (omega arith)
