-- The exchange of two points, permutations of the points below n, and a permutation that goes past one of its points.
--
--   exchange x y z       where the transposition of x and y leads from z
--   PermutesBelow n f    f is a permutation of the points below n
--   bypass m f           f followed by the transposition of m and its image: m is fixed, and what led to m leads on to its image
--
-- In order: the laws of `exchange`; products of permutations; those of `bypass`.
-- Assumes nothing.
use mathlib.Core.Path.{◌≡◌, refl, sym, ap, ◌∙◌}
use mathlib.Core.Logic.{◌≢◌}
use Prim.Native.Nat.{ℕ, suc, ◌<◌}
use native.Mathlib.Omega.{arith}
use native.Mathlib.Decide.{ℕ_discrete}
use lib.Dec.{eqb}
use borrow.Author.Tests.{eq-eqb, ne_eqb}
use Rattle.basics.specs.Choice.{pick}
use Rattle.numbering.specs.Table.{◌then◌}

abbrev pub exchange : (x y z : ℕ) → ℕ
exchange x y z = pick (eqb z x) y (pick (eqb z y) x z)

pub record PermutesBelow (n : ℕ) (f : ℕ → ℕ) : Type 0 where
  pub low : (x : ℕ) → x < n → f x < n
  pub one : (x y : ℕ) → x < n → y < n → f x ≡ f y → x ≡ y

abbrev pub bypass : ℕ → (ℕ → ℕ) → ℕ → ℕ
bypass m f = f then exchange m (f m)

-- ---- the exchange

module _ (x y z : ℕ) where
  pub exchange_first : z ≡ x → exchange x y z ≡ y
  exchange_first e = rw (eq-eqb z x e)

  pub exchange_other : z ≢ x → z ≢ y → exchange x y z ≡ z
  exchange_other a b = rw (ne_eqb z x a, ne_eqb z y b)

  pub exchange_second : z ≡ y → exchange x y z ≡ x
  exchange_second e = elim (ℕ_discrete z x) [
    | yes d ↦ exchange_first d ∙ sym e ∙ d
    | no d ↦ rw (ne_eqb z x d, eq-eqb z y e)
  ]

pub exchange_sym : (x y z : ℕ) → exchange x y z ≡ exchange y x z
exchange_sym x y z = elim (ℕ_discrete z x) [
  | yes e ↦ exchange_first x y z e ∙ sym (exchange_second y x z e)
  | no e ↦ elim (ℕ_discrete z y) [
    | yes d ↦ exchange_second x y z d ∙ sym (exchange_first y x z d)
    | no d ↦ exchange_other x y z e d ∙ sym (exchange_other y x z d e)
  ]
]

pub exchange_twice : (x y z : ℕ) → exchange x y (exchange x y z) ≡ z
exchange_twice x y z = elim (ℕ_discrete z x) [
  | yes e ↦ exchange_second x y (exchange x y z) (exchange_first x y z e) ∙ sym e
  | no e ↦ elim (ℕ_discrete z y) [
    | yes d ↦ exchange_first x y (exchange x y z) (exchange_second x y z d) ∙ sym d
    | no d ↦ let k = exchange_other x y z e d in ap (exchange x y) k ∙ k
  ]
]

pub exchange_one : (x y z w : ℕ) → exchange x y z ≡ exchange x y w → z ≡ w
exchange_one x y z w e = sym (exchange_twice x y z) ∙ ap (exchange x y) e ∙ exchange_twice x y w

-- a function that takes one value at x and y does not see the exchange
pub exchange_unseen : (l : ℕ → ℕ) (x y z : ℕ) → l x ≡ l y → l (exchange x y z) ≡ l z
exchange_unseen l x y z e = elim (ℕ_discrete z x) [
  | yes d ↦ ap l (exchange_first x y z d) ∙ sym e ∙ ap l (sym d)
  | no d ↦ elim (ℕ_discrete z y) [
    | yes c ↦ ap l (exchange_second x y z c) ∙ e ∙ ap l (sym c)
    | no c ↦ ap l (exchange_other x y z d c)
  ]
]

-- ---- products

pub then_permutes : {n : ℕ} {f g : ℕ → ℕ} → PermutesBelow n f → PermutesBelow n g → PermutesBelow n (f then g)
then_permutes {n} {f} {g} p q = record {
  low = λ x h. q.low (f x) (p.low x h);
  one = λ x y h k e. p.one x y h k (q.one (f x) (f y) (p.low x h) (p.low y k) e);
}

pub exchange_permutes : {n x y : ℕ} → x < n → y < n → PermutesBelow n (exchange x y)
exchange_permutes {n} {x} {y} a b = record {
  low = λ z h. elim (ℕ_discrete z x) [
    | yes e ↦ rw (exchange_first x y z e) b
    | no e ↦ elim (ℕ_discrete z y) [ yes d ↦ rw (exchange_second x y z d) a | no d ↦ rw (exchange_other x y z e d) h ]
  ];
  one = λ z w h k e. exchange_one x y z w e;
}

-- ---- past a point

pub bypass_fixed : (m : ℕ) (f : ℕ → ℕ) → bypass m f m ≡ m
bypass_fixed m f = exchange_second m (f m) (f m) refl

pub bypass_on : (m : ℕ) (f : ℕ → ℕ) (z : ℕ) → f z ≡ m → bypass m f z ≡ f m
bypass_on m f z e = exchange_first m (f m) (f z) e

-- the points that do not lead to m keep their image
pub bypass_same : {n : ℕ} {f : ℕ → ℕ} → PermutesBelow n f → (m z : ℕ) → m < n → z < n → z ≢ m → f z ≢ m → bypass m f z ≡ f z
bypass_same {n} {f} p m z a b d e = exchange_other m (f m) (f z) e (λ q. d (p.one z m b a q))

-- and the transposition once more gives f back
pub bypass_back : (m : ℕ) (f : ℕ → ℕ) (z : ℕ) → exchange m (f m) (bypass m f z) ≡ f z
bypass_back m f z = exchange_twice m (f m) (f z)

module _ {m : ℕ} {f : ℕ → ℕ} (p : PermutesBelow (suc m) f) where
  -- below the last point, past which it goes, it is a permutation of these points
  pub bypass_permutes : PermutesBelow m (bypass m f)
  bypass_permutes =
      let last : f m < suc m = p.low m (omega arith) in
      record {
        low = λ z h.
            let l : f z < suc m = p.low z (omega arith) in
            elim (ℕ_discrete (f z) m) [
              | yes e ↦
                  let ne : f m ≢ m = λ d. let q = p.one z m (omega arith) (omega arith) (e ∙ sym d) in omega arith in
                  rw (bypass_on m f z e) (omega arith)
              | no e ↦ rw (bypass_same p m z (omega arith) (omega arith) (λ q. omega arith) e) (omega arith)
            ];
        one = λ z w h k e. p.one z w (omega arith) (omega arith) (exchange_one m (f m) (f z) (f w) e);
      }
