-- Alternating words that don't begin with a power of Q, as forms: four naturals with p t and q r one apart.
--
-- In order: such words as blocks (`Tail`, `letters`); the form of a word (`tail_form`), whose rows are never zero (`whole`); forms that
-- are one apart (`Unimodular`), of which each is the form of a word (`formed`); what the Euclidean algorithm does at each turn
-- (`tail_stop`, `tail_last`, `tail_more`, `turn_Q`, `turn_P`); it reads each word back from its form (`read_back`), however much
-- more fuel it has than it needs (`tail_fuel`).
--
-- Why: putting S Q or S P before a word adds one row to the other. The rows of a unimodular form are comparable, entry by entry,
-- unless the form is that of the identity or of S (`rows`), so the smaller one can be taken away again.
-- Assumes nothing.
use mathlib.Core.Path.{◌≡◌, refl, sym, ◌∙◌, ap, subst}
use mathlib.Core.Logic.{◌⊎◌, inl, inr}
use mathlib.Core.Bool.{Bool, true, false}
use mathlib.Core.List.{List, [], ◌∷◌}
use Prim.Native.Nat.{ℕ, zero, suc, ◌+◌, ◌*◌, ◌-◌, ◌<◌, ◌≤◌}
use native.Mathlib.Omega.{arith}
use native.Mathlib.Nat.{mul-le-mul}
use native.Mathlib.Decide.{dec_le}
use lib.Dec.{leb, eqb}
use borrow.Author.Tests.{le-leb, lt-leb, eq-eqb, ne_eqb}
use Rattle.matrix.specs.Words.{Letter, S, Q, P}
use Rattle.matrix.specs.Euclid.{Form, form, total, swap, turn, tail_of}
use Rattle.basics.specs.Choice.{pick}

-- ---- words as blocks

-- nothing; S alone; S Q and then more; S P and then more
pub data Tail : Type 0 where
  stop last : Tail
  sq sp : Tail → Tail

abbrev pub letters : Tail → List Letter
letters stop = []
letters last = S ∷ []
letters (sq w) = S ∷ Q ∷ letters w
letters (sp w) = S ∷ P ∷ letters w

-- ---- their forms

-- one row added to the other
abbrev pub upper : Form → Form
upper f = form (f.p + f.r) (f.q + f.t) f.r f.t

abbrev pub lower : Form → Form
lower f = swap (upper (swap f))

abbrev pub tail_form : Tail → Form
tail_form stop = form 1 0 0 1
tail_form last = form 0 1 1 0
tail_form (sq w) = upper (tail_form w)
tail_form (sp w) = lower (tail_form w)

-- no row is zero
pub record Whole (f : Form) : Type 0 where
  pub top : 0 < f.p + f.q
  pub bottom : 0 < f.r + f.t

pub whole : (w : Tail) → Whole (tail_form w)
whole stop = omega arith
whole last = omega arith
whole (sq w) = let k = whole w in omega arith
whole (sp w) = let k = whole w in omega arith

-- ---- forms that are one apart

abbrev pub Unimodular : Form → Type 0
Unimodular f = (f.p * f.t ≡ f.q * f.r + 1) ⊎ (f.q * f.r ≡ f.p * f.t + 1)

pub unimodular_swap : (f : Form) → Unimodular f → Unimodular (swap f)
unimodular_swap f (inl e) = inr (omega arith)
unimodular_swap f (inr e) = inl (omega arith)

pub unimodular_upper : (f : Form) → Unimodular f → Unimodular (upper f)
unimodular_upper f (inl e) = inl (omega arith)
unimodular_upper f (inr e) = inr (omega arith)

-- the two products are not both 0, so no row is
some : (f : Form) → Unimodular f → 0 < f.p * f.t + f.q * f.r
some f (inl e) = omega arith
some f (inr e) = omega arith

row : (p q r t : ℕ) → 0 < p * t + q * r → 0 < p + q
row zero zero r t h = omega arith
row zero (suc q) r t h = omega arith
row (suc p) q r t h = omega arith

pub unimodular_whole : (f : Form) → Unimodular f → Whole f
unimodular_whole f u =
    record { top = row f.p f.q f.r f.t (some f u); bottom = row f.r f.t f.p f.q (some (swap f) (unimodular_swap f u)) }

-- neither the form of the identity nor that of S
pub record Proper (f : Form) : Type 0 where
  pub not_one : 0 < f.q + f.r
  pub not_S : 0 < f.p + f.t

-- the lower row is at most the upper one, entry by entry
pub record Rows (f : Form) : Type 0 where
  pub left : f.r ≤ f.p
  pub right : f.t ≤ f.q

-- rows that are not comparable: the form is that of S
across : (f : Form) → Unimodular f → f.p < f.r → f.t < f.q → f.p + f.t ≡ 0
across f (inl e) h k = omega (arith, mul-le-mul k h)
across f (inr e) h k = omega (arith, mul-le-mul k h)

pub rows : (f : Form) → Unimodular f → Proper f → f.r + f.t ≤ f.p + f.q → Rows f
rows f u k h = record {
  left = elim (dec_le f.r f.p) [ yes y ↦ y | no n ↦ absurd (omega (arith, across f u (omega arith) (omega arith))) ];
  right = elim (dec_le f.t f.q) [ yes y ↦ y | no n ↦ absurd (omega (arith, across (swap f) (unimodular_swap f u) (omega arith) (omega arith))) ];
}

pub form_eq : {p p' q q' r r' t t' : ℕ} → p ≡ p' → q ≡ q' → r ≡ r' → t ≡ t' → form p q r t ≡ form p' q' r' t'
form_eq a b c d = λ i. form (a i) (b i) (c i) (d i)

-- the lower row taken from the upper one, and the upper from the lower
abbrev pub down : Form → Form
down f = form (f.p - f.r) (f.q - f.t) f.r f.t

abbrev pub up : Form → Form
up f = swap (down (swap f))

pub upper_down : (f : Form) → Rows f → upper (down f) ≡ f
upper_down f k = form_eq (omega arith) (omega arith) refl refl

pub down_upper : (f : Form) → down (upper f) ≡ f
down_upper f = form_eq (omega arith) (omega arith) refl refl

-- ((p - r) + r) t and ((q - t) + t) r are one apart, so (p - r) t and (q - t) r are
pub unimodular_down : (f : Form) → Rows f → Unimodular f → Unimodular (down f)
unimodular_down f k u = go (f.p - f.r) (f.q - f.t) f.r f.t (subst Unimodular (sym (upper_down f k)) u)
  where
    go : (p q r t : ℕ) → Unimodular (upper (form p q r t)) → Unimodular (form p q r t)
    go p q r t (inl e) = inl (omega arith)
    go p q r t (inr e) = inr (omega arith)

-- ---- each of them is the form of a word

pub record Formed (f : Form) : Type 0 where
  pub word : Tail
  pub is : tail_form word ≡ f

by_sq : (f : Form) → Rows f → Formed (down f) → Formed f
by_sq f k w = record { word = sq w.word; is = ap upper w.is ∙ upper_down f k }

by_sp : (f : Form) → Rows (swap f) → Formed (up f) → Formed f
by_sp f k w = record { word = sp w.word; is = ap lower w.is ∙ ap swap (upper_down (swap f) k) }

-- the two forms that are not proper
one_form : (f : Form) → Unimodular f → f.q + f.r ≡ 0 → f ≡ form 1 0 0 1
one_form f u h = form_eq (factor f.p f.t (product f u h)) (omega arith) (omega arith) (factor f.t f.p (omega (arith, product f u h)))
  where
    product : (f : Form) → Unimodular f → f.q + f.r ≡ 0 → f.p * f.t ≡ 1
    product f (inl e) h = let z : f.q ≡ 0 = omega arith in omega (arith, rw (z) at e)
    product f (inr e) h = let z : f.q ≡ 0 = omega arith in absurd (omega (arith, rw (z) at e))

    factor : (x y : ℕ) → x * y ≡ 1 → x ≡ 1
    factor zero y e = omega arith
    factor (suc zero) y e = omega arith
    factor (suc (suc x)) zero e = omega arith
    factor (suc (suc x)) (suc y) e = omega arith

S_form : (f : Form) → Unimodular f → f.p + f.t ≡ 0 → f ≡ form 0 1 1 0
S_form f u h = ap swap (one_form (swap f) (unimodular_swap f u) (omega arith))

-- a proper form, and what is left of it
proper_formed : (n : ℕ) → ((f : Form) → Unimodular f → total f ≤ n → Formed f) → (f : Form) → Unimodular f → Proper f → total f ≤ suc n → Formed f
proper_formed n below f u k h =
    let w = unimodular_whole f u in
    let u' = unimodular_swap f u in
    elim (dec_le (f.r + f.t) (f.p + f.q)) [
      | yes y ↦ let m = rows f u k y in by_sq f m (below (down f) (unimodular_down f m u) (omega arith))
      | no y ↦ let m = rows (swap f) u' (record { not_one = omega arith; not_S = omega arith }) (omega arith) in
          by_sp f m (below (up f) (unimodular_swap (down (swap f)) (unimodular_down (swap f) m u')) (omega arith))
    ]

pub formed : (n : ℕ) (f : Form) → Unimodular f → total f ≤ n → Formed f
formed zero f u h = let w = unimodular_whole f u in absurd (omega arith)
formed (suc n) f u h =
    elim (dec_le (f.q + f.r) 0) [
      | yes y ↦ record { word = stop; is = sym (one_form f u (omega arith)) }
      | no y ↦ elim (dec_le (f.p + f.t) 0) [
        | yes z ↦ record { word = last; is = sym (S_form f u (omega arith)) }
        | no z ↦ proper_formed n (formed n) f u (record { not_one = omega arith; not_S = omega arith }) h
      ]
    ]

-- ---- one turn of the algorithm

pick_true : {A : Type 0} (b : Bool) (x y : A) → b ≡ true → pick b x y ≡ x
pick_true b x y e = ap (λ (z : Bool). pick z x y) e

pick_false : {A : Type 0} (b : Bool) (x y : A) → b ≡ false → pick b x y ≡ y
pick_false b x y e = ap (λ (z : Bool). pick z x y) e

pub tail_stop : (n : ℕ) (f : Form) → f.q + f.r ≡ 0 → tail_of (suc n) f ≡ []
tail_stop n f h = pick_true (eqb (f.q + f.r) 0) _ _ (eq-eqb (f.q + f.r) 0 h)

pub tail_last : (n : ℕ) (f : Form) → 0 < f.q + f.r → f.p + f.t ≡ 0 → tail_of (suc n) f ≡ S ∷ []
tail_last n f k h = pick_false (eqb (f.q + f.r) 0) _ _ (ne_eqb (f.q + f.r) 0 (λ e. omega arith))
    ∙ pick_true (eqb (f.p + f.t) 0) _ _ (eq-eqb (f.p + f.t) 0 h)

pub tail_more : (n : ℕ) (f : Form) → Proper f → tail_of (suc n) f ≡ S ∷ turn (tail_of n) (swap f)
tail_more n f k = pick_false (eqb (f.q + f.r) 0) _ _ (ne_eqb (f.q + f.r) 0 (λ e. omega arith))
    ∙ pick_false (eqb (f.p + f.t) 0) _ _ (ne_eqb (f.p + f.t) 0 (λ e. omega arith))

pub turn_Q : (next : Form → List Letter) (f : Form) → f.p + f.q ≤ f.r + f.t → turn next f ≡ Q ∷ next (down (swap f))
turn_Q next f h = pick_true (leb (f.p + f.q) (f.r + f.t)) _ _ (le-leb (f.p + f.q) (f.r + f.t) h)

pub turn_P : (next : Form → List Letter) (f : Form) → f.r + f.t < f.p + f.q → turn next f ≡ P ∷ next (swap (down f))
turn_P next f h = pick_false (leb (f.p + f.q) (f.r + f.t)) _ _ (lt-leb (f.p + f.q) (f.r + f.t) h)

-- ---- a word is read back from its form

pub read_back : (w : Tail) (n : ℕ) → total (tail_form w) ≤ n → tail_of n (tail_form w) ≡ letters w
read_back stop zero h = absurd (omega arith)
read_back stop (suc n) h = refl
read_back last zero h = absurd (omega arith)
read_back last (suc n) h = refl
read_back (sq w) zero h = let k = whole w in absurd (omega arith)
read_back (sq w) (suc n) h =
    let k = whole w in
    let f = tail_form w in
    tail_more n (upper f) (record { not_one = omega arith; not_S = omega arith })
    ∙ ap (λ (l : List Letter). S ∷ l) (turn_Q (tail_of n) (swap (upper f)) (omega arith)
    ∙ ap (λ (l : List Letter). Q ∷ l) (ap (tail_of n) (down_upper f) ∙ read_back w n (omega arith)))
read_back (sp w) zero h = let k = whole w in absurd (omega arith)
read_back (sp w) (suc n) h =
    let k = whole w in
    let f = tail_form w in
    tail_more n (lower f) (record { not_one = omega arith; not_S = omega arith })
    ∙ ap (λ (l : List Letter). S ∷ l) (turn_P (tail_of n) (swap (lower f)) (omega arith)
    ∙ ap (λ (l : List Letter). P ∷ l) (ap (λ (g : Form). tail_of n (swap g)) (down_upper (swap f)) ∙ read_back w n (omega arith)))

-- any fuel from the total on gives the same word
pub tail_is : (n : ℕ) (f : Form) (w : Formed f) → total f ≤ n → tail_of n f ≡ letters w.word
tail_is n f w h = ap (tail_of n) (sym w.is) ∙ read_back w.word n (rw w.is h)

pub tail_fuel : (m n : ℕ) (f : Form) → Unimodular f → total f ≤ m → total f ≤ n → tail_of m f ≡ tail_of n f
tail_fuel m n f u h k = let w = formed (total f) f u (omega arith) in tail_is m f w h ∙ sym (tail_is n f w k)
