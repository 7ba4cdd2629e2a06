-- THE ORDER OF FINITE FLOATS: the float comparison `≤` is the order of their fractions, so it is total, and goes through a third.
--
-- In order: `≤` on fractions with signs (`Below`, `to_below`, `of_below`); what isn't above is at most (`at_most`), what is below is too (`less`), and isn't
-- above (`not_back`); a float is at most itself (`itself`); through a third (`le_through`); negation turns it (`neg_le`).
-- Assumes nothing.
use mathlib.Core.Path.{◌≡◌, refl, sym, ap, ◌∙◌, subst}
use mathlib.Core.Bool.{Bool, true, false, not, ◌&&◌, ◌||◌, false≢true}
use mathlib.Core.Logic.{◌⊎◌, inl, inr}
use Prim.Native.Nat.{ℕ, zero, suc, ◌+◌, ◌*◌, ◌≤◌, ◌<◌}
use native.Mathlib.Omega.{arith}
use native.Mathlib.Nat as Nat
use lib.Dec.{T, ltb, eqb, ltb→lt}
use borrow.Author.Tests.{lt-ltb, eq-eqb, ltb-true, ltb-false, eqb-true}
use lib.Ieee.{Float, nan, inf, fin, up, down, neg, below, level, lt, eq, le}
use lib.Ieee.Scale.{finite}
use lib.Ieee.Fits.{down_pos}
use lib.Ieee.Positive.{through}

-- ---- numbers with signs

-- ±a ≤ ±b
abbrev pub Below : Bool → ℕ → Bool → ℕ → Type 0
Below false a false b = a ≤ b
Below false a true b = (a ≡ 0) × (b ≡ 0)
Below true a false b = Unit
Below true a true b = b ≤ a

-- the float comparison's own test
abbrev pub Test : Bool → ℕ → Bool → ℕ → Bool
Test s a t b = below s a t b || level s a t b

yes_first : (p q : Bool) → p ≡ true → T (p || q)
yes_first p q e = subst (λ (x : Bool). T (x || q)) (sym e) tt

yes_second : (p q : Bool) → q ≡ true → T (p || q)
yes_second true q e = tt
yes_second false q e = subst T (sym e) tt

both_yes : (a b : ℕ) (c : Bool) → a ≡ b → c ≡ true → (eqb a b && c) ≡ true
both_yes a b c e f = ap (λ (x : Bool). x && c) (eq-eqb a b e) ∙ f

-- one of two sizes at most the other, by the test on sizes
ordered : (a b : ℕ) (c : Bool) → a ≤ b → c ≡ true → T (ltb a b || (eqb a b && c))
ordered a b c h k = go (Nat.eq-or-lt_of_le h)
  where
    go : (a ≡ b) ⊎ (a < b) → T (ltb a b || (eqb a b && c))
    go (inl e) = yes_second (ltb a b) (eqb a b && c) (both_yes a b c e k)
    go (inr l) = yes_first (ltb a b) (eqb a b && c) (lt-ltb a b l)

pub of_below : (s : Bool) (a : ℕ) (t : Bool) (b : ℕ) → Below s a t b → T (Test s a t b)
of_below false a false b h = ordered a b true h refl
of_below false a true b h = yes_second false (eqb a b && eqb a 0) (both_yes a b (eqb a 0) (h.0 ∙ sym h.1) (eq-eqb a 0 h.0))
of_below true a false b h = go (Nat.eq-zero-or-pos (a + b))
  where
    go : (a + b ≡ 0) ⊎ (0 < a + b) → T (Test true a false b)
    go (inl e) = yes_second (ltb 0 (a + b)) (eqb a b && eqb a 0) (both_yes a b (eqb a 0) (omega arith) (eq-eqb a 0 (omega arith)))
    go (inr l) = yes_first (ltb 0 (a + b)) (eqb a b && eqb a 0) (lt-ltb 0 (a + b) l)
of_below true a true b h = go (Nat.eq-or-lt_of_le h)
  where
    go : (b ≡ a) ⊎ (b < a) → T (Test true a true b)
    go (inl e) = yes_second (ltb b a) (eqb a b && true) (both_yes a b true (sym e) refl)
    go (inr l) = yes_first (ltb b a) (eqb a b && true) (lt-ltb b a l)

which : (p q : Bool) → T (p || q) → (p ≡ true) ⊎ (q ≡ true)
which true q h = inl refl
which false true h = inr refl
which false false h = absurd h

both : (p q : Bool) → (p && q) ≡ true → (p ≡ true) × (q ≡ true)
both true true e = (refl, refl)
both true false e = absurd (false≢true e)
both false q e = absurd (false≢true e)

pub to_below : (s : Bool) (a : ℕ) (t : Bool) (b : ℕ) → T (Test s a t b) → Below s a t b
to_below false a false b h = go (which (ltb a b) (eqb a b && true) h)
  where
    go : (ltb a b ≡ true) ⊎ ((eqb a b && true) ≡ true) → a ≤ b
    go (inl e) = let l = ltb-true a b e in omega arith
    go (inr e) = let l = eqb-true a b (both (eqb a b) true e).0 in omega arith
to_below false a true b h = go (which false (eqb a b && eqb a 0) h)
  where
    go : (false ≡ true) ⊎ ((eqb a b && eqb a 0) ≡ true) → (a ≡ 0) × (b ≡ 0)
    go (inl e) = absurd (false≢true e)
    go (inr e) = let p = both (eqb a b) (eqb a 0) e in (eqb-true a 0 p.1, sym (eqb-true a b p.0) ∙ eqb-true a 0 p.1)
to_below true a false b h = tt
to_below true a true b h = go (which (ltb b a) (eqb a b && true) h)
  where
    go : (ltb b a ≡ true) ⊎ ((eqb a b && true) ≡ true) → b ≤ a
    go (inl e) = let l = ltb-true b a e in omega arith
    go (inr e) = let l = eqb-true a b (both (eqb a b) true e).0 in omega arith

not_above : (s : Bool) (a : ℕ) (t : Bool) (b : ℕ) → below t b s a ≡ false → Below s a t b
not_above false a false b e = ltb-false b a e
not_above false a true b e = let h = ltb-false 0 (b + a) e in (omega arith, omega arith)
not_above true a false b e = tt
not_above true a true b e = ltb-false a b e

-- ---- two finite floats

pub at_most : (x y : Float) → T (finite x) → T (finite y) → lt y x ≡ false → T (le x y)
unfolding lt le
at_most nan y a b e = absurd a
at_most (inf s) y a b e = absurd a
at_most (fin s m e) nan a b h = absurd b
at_most (fin s m e) (inf t) a b h = absurd b
at_most (fin s m e) (fin t n d) a b h =
    of_below s (m * up e * down d) t (n * up d * down e) (not_above s (m * up e * down d) t (n * up d * down e) h)

-- below and at most exclude each other the other way round
below_back : (s : Bool) (a : ℕ) (t : Bool) (b : ℕ) → T (below s a t b) → Below t b s a → ⊥
below_back false a false b l h = let k = ltb→lt a b l in omega arith
below_back false a true b l h = l
below_back true a false b l h = let k = ltb→lt 0 (a + b) l in let p = h.0 in let q = h.1 in omega arith
below_back true a true b l h = let k = ltb→lt b a l in omega arith

pub not_back : (x y : Float) → T (finite x) → T (finite y) → T (lt x y) → T (le y x) → ⊥
unfolding lt le
not_back nan y a b l h = absurd a
not_back (inf s) y a b l h = absurd a
not_back (fin s m e) nan a b l h = absurd b
not_back (fin s m e) (inf t) a b l h = absurd b
not_back (fin s m e) (fin t n d) a b l h =
    below_back s (m * up e * down d) t (n * up d * down e) l (to_below t (n * up d * down e) s (m * up e * down d) h)

pub less : (x y : Float) → lt x y ≡ true → T (le x y)
unfolding le
less x y e = yes_first (lt x y) (eq x y) e

same_below : (s : Bool) (a : ℕ) → Below s a s a
same_below false a = Nat.le_refl a
same_below true a = Nat.le_refl a

pub itself : (x : Float) → T (finite x) → T (le x x)
unfolding le
itself nan a = absurd a
itself (inf s) a = absurd a
itself (fin s m e) a = of_below s (m * up e * down e) s (m * up e * down e) (same_below s (m * up e * down e))

turned : (s : Bool) (a : ℕ) (t : Bool) (b : ℕ) → Below s a t b → Below (not t) b (not s) a
turned false a false b h = h
turned false a true b h = (h.1, h.0)
turned true a false b h = tt
turned true a true b h = h

pub neg_le : (x y : Float) → T (finite x) → T (finite y) → T (le x y) → T (le (neg y) (neg x))
unfolding le neg
neg_le nan y a b h = absurd a
neg_le (inf s) y a b h = absurd a
neg_le (fin s m e) nan a b h = absurd b
neg_le (fin s m e) (inf t) a b h = absurd b
neg_le (fin s m e) (fin t n d) a b h =
    of_below (not t) (n * up d * down e) (not s) (m * up e * down d)
    (turned s (m * up e * down d) t (n * up d * down e) (to_below s (m * up e * down d) t (n * up d * down e) h))

-- ---- through a third

factor_zero : (x q : ℕ) → 0 < q → x * q ≡ 0 → x ≡ 0
factor_zero zero q h e = refl
factor_zero (suc x) q h e = absurd (Nat.lt_irrefl 0 (subst (λ (k : ℕ). 0 < k) e (Nat.mul-pos (Nat.zero-lt-suc x) h)))

zero_times : (x q : ℕ) → x ≡ 0 → x * q ≡ 0
zero_times x q e = ap (λ (k : ℕ). k * q) e ∙ Nat.zero-mul q

below_zero : (a b : ℕ) → a ≤ b → b ≡ 0 → a ≡ 0
below_zero a b h e = omega arith

zero_below : (a b : ℕ) → a ≡ 0 → a ≤ b
zero_below a b e = omega arith

-- the fractions x / p, y / q and z / r with their signs
below_through : (s t u : Bool) (x p y q z r : ℕ) → 0 < p → 0 < q → 0 < r
    → Below s (x * q) t (y * p) → Below t (y * r) u (z * q) → Below s (x * r) u (z * p)
below_through false false false x p y q z r P Q R h k = through x y z p q r Q h k
below_through false false true x p y q z r P Q R h k =
    let y0 = factor_zero y r R k.0 in
    (zero_times x r (factor_zero x q Q (below_zero (x * q) (y * p) h (zero_times y p y0))), zero_times z p (factor_zero z q Q k.1))
below_through false true false x p y q z r P Q R h k = zero_below (x * r) (z * p) (zero_times x r (factor_zero x q Q h.0))
below_through false true true x p y q z r P Q R h k =
    let y0 = factor_zero y p P h.1 in
    (zero_times x r (factor_zero x q Q h.0), zero_times z p (factor_zero z q Q (below_zero (z * q) (y * r) k (zero_times y r y0))))
below_through true false false x p y q z r P Q R h k = tt
below_through true false true x p y q z r P Q R h k = zero_below (z * p) (x * r) (zero_times z p (factor_zero z q Q k.1))
below_through true true false x p y q z r P Q R h k = tt
below_through true true true x p y q z r P Q R h k = through z y x r q p Q k h

pub le_through : (x y z : Float) → T (finite x) → T (finite y) → T (finite z) → T (le x y) → T (le y z) → T (le x z)
unfolding le
le_through nan y z a b c h k = absurd a
le_through (inf s) y z a b c h k = absurd a
le_through (fin s m e) nan z a b c h k = absurd b
le_through (fin s m e) (inf t) z a b c h k = absurd b
le_through (fin s m e) (fin t n d) nan a b c h k = absurd c
le_through (fin s m e) (fin t n d) (inf u) a b c h k = absurd c
le_through (fin s m e) (fin t n d) (fin u l g) a b c h k =
    of_below s (m * up e * down g) u (l * up g * down e)
    (below_through s t u (m * up e) (down e) (n * up d) (down d) (l * up g) (down g) (down_pos e) (down_pos d) (down_pos g)
    (to_below s (m * up e * down d) t (n * up d * down e) h) (to_below t (n * up d * down g) u (l * up g * down d) k))
