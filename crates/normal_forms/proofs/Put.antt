-- A letter put behind a reduced word: the laws of `put`, over any kinds of letters that inverses keep (`Kinds`).
--
-- In order: inverses of letters (`inverse_inverse`); whether two letters may stand side by side (`apart`), which is symmetric, and a word in which
-- all letters are plain and all neighbours may (`fine`); the three ways in which a letter meets the last one (`Meeting`); what is fine stays so
-- (`put_fine`), a letter is undone by its inverse (`put_undo`), an odd letter twice is its inverse (`put_twice`), and a word gets one letter longer
-- at most (`put_length`). The words are listed from the last letter to the first, but `fine` doesn't mind (`fine_reverse`).
-- Assumes nothing.
use mathlib.Core.Path.{◌≡◌, refl, sym, ◌∙◌, ap}
use mathlib.Core.Logic.{◌⊎◌, inl, inr}
use mathlib.Core.Bool.{Bool, true, false, not, ◌&&◌}
use mathlib.Core.List.{List, [], ◌∷◌, reverse, reverse_aux}
use Prim.Native.Nat.{ℕ, zero, suc, ◌+◌, ◌≤◌}
use native.Mathlib.Omega.{arith}
use lib.ListN.{length}
use lib.IntN.{ℤ, pos, negsuc, neg_ℤ, neg_ℤ-neg_ℤ, nat_abs}
use borrow.Author.Tests.{not-true}
use Rattle.matrix.proofs.Integer.{abs_neg}
use Rattle.basics.proofs.Choice.{pick_true, pick_false, either, clash, and_left, and_right}
use Rattle.symbol.specs.Check.{eq_z}
use Rattle.symbol.specs.declared.Pairing.{Pairing}
use Rattle.symbol.specs.declared.Pairing.TheVariants.{Even, Odd, Free, Bad}
use Rattle.symbol.proofs.Choice.{eq_z_true, eq_eq_z, eq_z_refl}
use Rattle.normal_forms.specs.Reduce.{even_kind, odd_kind, plain, inverse, put, puts}

-- a generator and its inverse are of one kind, and 0 is no letter
pub record Kinds (kind : ℤ → Pairing) : Type 0 where
  pub negative : (a : ℤ) → kind (neg_ℤ a) ≡ kind a
  pub none : kind (pos 0) ≡ Bad

-- ---- tests

pub both : {a b : Bool} → a ≡ true → b ≡ true → (a && b) ≡ true
both p q = rw (p, q)

pub differ : (x y : ℤ) → (x ≡ y → ⊥) → eq_z x y ≡ false
differ x y n = elim (either (eq_z x y)) [ inl e ↦ absurd (n (eq_z_true x y e)) | inr e ↦ e ]

pub differs : (x y : ℤ) → eq_z x y ≡ false → x ≡ y → ⊥
differs x y e p = clash (eq_eq_z x y p) e

pub odd_only : (k : Pairing) → odd_kind k ≡ true → even_kind k ≡ false
odd_only Even e = clash e refl
odd_only Odd e = refl
odd_only (Free l) e = clash e refl
odd_only Bad e = clash e refl

pub even_is : (k : Pairing) → even_kind k ≡ true → k ≡ Even
even_is Even e = refl
even_is Odd e = clash e refl
even_is (Free l) e = clash e refl
even_is Bad e = clash e refl

pub odd_is : (k : Pairing) → odd_kind k ≡ true → k ≡ Odd
odd_is Even e = clash e refl
odd_is Odd e = refl
odd_is (Free l) e = clash e refl
odd_is Bad e = clash e refl

-- a number that is its own negative is 0
pub self_negative : (a : ℤ) → a ≡ neg_ℤ a → a ≡ pos 0
self_negative (pos zero) e = refl
self_negative (pos (suc n)) e = let z : ◌≡◌ {A = ℕ} 0 1 = cc in absurd (omega arith)
self_negative (negsuc n) e = let z : ◌≡◌ {A = ℕ} 0 1 = cc in absurd (omega arith)

module _ (kind : ℤ → Pairing) where
  abbrev pub even : ℤ → Bool
  even a = even_kind (kind a)

  abbrev pub odd : ℤ → Bool
  odd a = odd_kind (kind a)

  abbrev pub is_plain : ℤ → Bool
  is_plain a = eq_z (plain kind a) a

  unfoldable pub apart : ℤ → ℤ → Bool
  apart a b = not (eq_z b (inverse kind a)) && not (odd a && eq_z b a)

  -- the last letter of h may stand beside a
  abbrev pub meets : ℤ → List ℤ → Bool
  meets a [] = true
  meets a (b ∷ h) = apart a b

  abbrev pub fine : List ℤ → Bool
  fine [] = true
  fine (a ∷ h) = is_plain a && (meets a h && fine h)

  -- ---- inverses, and plain letters

  pub inverse_even : (a : ℤ) → even a ≡ true → inverse kind a ≡ a
  unfolding inverse
  inverse_even a e = pick_true (even a) a (neg_ℤ a) e

  pub inverse_other : (a : ℤ) → even a ≡ false → inverse kind a ≡ neg_ℤ a
  unfolding inverse
  inverse_other a e = pick_false (even a) a (neg_ℤ a) e

  pub plain_even : (a : ℤ) → even a ≡ true → plain kind a ≡ pos (nat_abs a)
  unfolding plain
  plain_even a e = pick_true (even a) (pos (nat_abs a)) a e

  pub plain_other : (a : ℤ) → even a ≡ false → plain kind a ≡ a
  unfolding plain
  plain_other a e = pick_false (even a) (pos (nat_abs a)) a e

  pub other_plain : (a : ℤ) → even a ≡ false → is_plain a ≡ true
  other_plain a e = eq_eq_z (plain kind a) a (plain_other a e)

  -- ---- letters side by side

  pub apart_inverse : (a b : ℤ) → apart a b ≡ true → b ≡ inverse kind a → ⊥
  unfolding apart
  apart_inverse a b e = differs b (inverse kind a) (not-true (eq_z b (inverse kind a)) (and_left (not (eq_z b (inverse kind a))) (not (odd a && eq_z b a)) e))

  pub apart_odd : (a b : ℤ) → apart a b ≡ true → odd a ≡ true → b ≡ a → ⊥
  unfolding apart
  apart_odd a b e o z =
      let n = not-true (odd a && eq_z b a) (and_right (not (eq_z b (inverse kind a))) (not (odd a && eq_z b a)) e) in
      clash (both o (eq_eq_z b a z)) n

  pub apart_by : (a b : ℤ) → (b ≡ inverse kind a → ⊥) → (odd a ≡ true → b ≡ a → ⊥) → apart a b ≡ true
  unfolding apart
  apart_by a b p q = elim (either (odd a)) [
    | inl o ↦ rw (differ b (inverse kind a) p, o, differ b a (q o))
    | inr o ↦ rw (differ b (inverse kind a) p, o)
  ]

  pub fine_by : (a : ℤ) (h : List ℤ) → is_plain a ≡ true → meets a h ≡ true → fine h ≡ true → fine (a ∷ h) ≡ true
  fine_by a h p m f = both p (both m f)

  pub fine_plain : (a : ℤ) (h : List ℤ) → fine (a ∷ h) ≡ true → is_plain a ≡ true
  fine_plain a h f = and_left (is_plain a) (meets a h && fine h) f

  pub fine_meets : (a : ℤ) (h : List ℤ) → fine (a ∷ h) ≡ true → meets a h ≡ true
  fine_meets a h f = and_left (meets a h) (fine h) (and_right (is_plain a) (meets a h && fine h) f)

  pub fine_rest : (a : ℤ) (h : List ℤ) → fine (a ∷ h) ≡ true → fine h ≡ true
  fine_rest a h f = and_right (meets a h) (fine h) (and_right (is_plain a) (meets a h && fine h) f)

  -- ---- a letter meets the last one

  pub data Meeting (a : ℤ) (h : List ℤ) : Type 0 where
    cancels : (r : List ℤ) → h ≡ inverse kind a ∷ r → Meeting a h
    merges : (r : List ℤ) → odd a ≡ true → h ≡ a ∷ r → Meeting a h
    stays : meets a h ≡ true → Meeting a h

  pub meeting : (a : ℤ) (h : List ℤ) → Meeting a h
  meeting a [] = stays refl
  meeting a (b ∷ h) = elim (either (eq_z b (inverse kind a))) [
    | inl e ↦ cancels h (ap (λ (x : ℤ). x ∷ h) (eq_z_true b (inverse kind a) e))
    | inr e ↦ elim (either (odd a && eq_z b a)) [
      | inl f ↦ merges h (and_left (odd a) (eq_z b a) f) (ap (λ (x : ℤ). x ∷ h) (eq_z_true b a (and_right (odd a) (eq_z b a) f)))
      | inr f ↦ stays (apart_by a b (differs b (inverse kind a) e) (λ o z. clash (both o (eq_eq_z b a z)) f))
    ]
  ]

  pub put_cancels : (a : ℤ) (r : List ℤ) → put kind (inverse kind a ∷ r) a ≡ r
  unfolding put
  put_cancels a r = rw (eq_z_refl (inverse kind a))

  pub put_stays : (a : ℤ) (h : List ℤ) → meets a h ≡ true → put kind h a ≡ a ∷ h
  unfolding put
  put_stays a [] m = refl
  put_stays a (b ∷ h) m = rw (differ b (inverse kind a) (apart_inverse a b m), neither (either (odd a)))
    where
      neither : (odd a ≡ true) ⊎ (odd a ≡ false) → (odd a && eq_z b a) ≡ false
      neither (inl o) = rw (o, differ b a (apart_odd a b m o))
      neither (inr o) = rw o

  module _ (K : Kinds kind) where
    even_negative : (a : ℤ) → even (neg_ℤ a) ≡ even a
    even_negative a = ap even_kind (K.negative a)

    pub inverse_inverse : (a : ℤ) → inverse kind (inverse kind a) ≡ a
    inverse_inverse a = elim (either (even a)) [
      | inl e ↦ ap (inverse kind) (inverse_even a e) ∙ inverse_even a e
      | inr e ↦ ap (inverse kind) (inverse_other a e) ∙ inverse_other (neg_ℤ a) (even_negative a ∙ e) ∙ neg_ℤ-neg_ℤ a
    ]

    pub inverse_plain : (a : ℤ) → is_plain a ≡ true → is_plain (inverse kind a) ≡ true
    inverse_plain a p = elim (either (even a)) [
      | inl e ↦ ap is_plain (inverse_even a e) ∙ p
      | inr e ↦ ap is_plain (inverse_other a e) ∙ other_plain (neg_ℤ a) (even_negative a ∙ e)
    ]

    -- the inverse of an odd letter is another one
    odd_inverse : (a : ℤ) → odd a ≡ true → inverse kind a ≡ neg_ℤ a
    odd_inverse a o = inverse_other a (odd_only (kind a) o)

    odd_negative : (a : ℤ) → odd a ≡ true → odd (neg_ℤ a) ≡ true
    odd_negative a o = ap odd_kind (K.negative a) ∙ o

    odd_moves : (a : ℤ) → odd a ≡ true → a ≡ neg_ℤ a → ⊥
    odd_moves a o e = clash o (ap (λ (x : ℤ). odd_kind (kind x)) (self_negative a e) ∙ ap odd_kind K.none)

    pub apart_sym : (a b : ℤ) → apart a b ≡ true → apart b a ≡ true
    apart_sym a b e = apart_by b a
        (λ z. apart_inverse a b e (sym (ap (inverse kind) z ∙ inverse_inverse b)))
        (λ o z. apart_odd a b e (ap odd z ∙ o) (sym z))

    -- ---- forwards and backwards

    abbrev follows : List ℤ → List ℤ → Bool
    follows [] w = true
    follows (b ∷ h) w = meets b w

    fine_back : (w h : List ℤ) → fine w ≡ true → fine h ≡ true → follows h w ≡ true → fine (reverse_aux w h) ≡ true
    fine_back [] h f g m = g
    fine_back (z ∷ w) h f g m = fine_back w (z ∷ h) (fine_rest z w f) (fine_by z h (fine_plain z w f) (turn h m) g) (fine_meets z w f)
      where
        turn : (h : List ℤ) → follows h (z ∷ w) ≡ true → meets z h ≡ true
        turn [] m = refl
        turn (b ∷ h) m = apart_sym b z m

    pub fine_reverse : (w : List ℤ) → fine w ≡ true → fine (reverse w) ≡ true
    fine_reverse w f = fine_back w [] f refl refl

    fine_end : (w h : List ℤ) → fine (reverse_aux w h) ≡ true → fine h ≡ true
    fine_end [] h f = f
    fine_end (z ∷ w) h f = fine_rest z h (fine_end w (z ∷ h) f)

    -- the letters of a fine word stay as they are
    puts_back : (w h : List ℤ) → fine (reverse_aux w h) ≡ true → puts kind h w ≡ reverse_aux w h
    puts_back [] h f = refl
    puts_back (z ∷ w) h f =
        let g = fine_end w (z ∷ h) f in
        ap (λ (k : List ℤ). puts kind k w) (ap (put kind h) (eq_z_true (plain kind z) z (fine_plain z h g)) ∙ put_stays z h (fine_meets z h g))
        ∙ puts_back w (z ∷ h) f

    pub puts_fine_word : (w : List ℤ) → fine w ≡ true → puts kind [] w ≡ reverse w
    puts_fine_word w f = puts_back w [] (fine_reverse w f)

    -- ---- the laws of put

    pub put_merges : (a : ℤ) (r : List ℤ) → odd a ≡ true → put kind (a ∷ r) a ≡ neg_ℤ a ∷ r
    unfolding put
    put_merges a r o = rw (differ a (inverse kind a) (λ e. odd_moves a o (e ∙ odd_inverse a o)), o, eq_z_refl a)

    -- an odd letter fits where its inverse does
    odd_fits : (a : ℤ) (h : List ℤ) → odd a ≡ true → meets a h ≡ true → meets (neg_ℤ a) h ≡ true
    odd_fits a [] o m = refl
    odd_fits a (b ∷ h) o m =
        apart_by (neg_ℤ a) b
        (λ e. apart_odd a b m o (e ∙ odd_inverse (neg_ℤ a) (odd_negative a o) ∙ neg_ℤ-neg_ℤ a))
        (λ n e. apart_inverse a b m (e ∙ sym (odd_inverse a o)))

    pub odd_plain : (a : ℤ) → odd a ≡ true → is_plain a ≡ true
    odd_plain a o = other_plain a (odd_only (kind a) o)

    pub put_fine : (a : ℤ) (h : List ℤ) → is_plain a ≡ true → fine h ≡ true → fine (put kind h a) ≡ true
    put_fine a h p f = go (meeting a h)
      where
        go : Meeting a h → fine (put kind h a) ≡ true
        go (cancels r e) = ap (λ (k : List ℤ). fine (put kind k a)) e ∙ ap fine (put_cancels a r) ∙ fine_rest (inverse kind a) r (sym (ap fine e) ∙ f)
        go (merges r o e) =
            let g = sym (ap fine e) ∙ f in
            ap (λ (k : List ℤ). fine (put kind k a)) e ∙ ap fine (put_merges a r o)
            ∙ fine_by (neg_ℤ a) r (odd_plain (neg_ℤ a) (odd_negative a o)) (odd_fits a r o (fine_meets a r g)) (fine_rest a r g)
        go (stays m) = ap fine (put_stays a h m) ∙ fine_by a h p m f

    pub put_undo : (a : ℤ) (h : List ℤ) → fine h ≡ true → put kind (put kind h a) (inverse kind a) ≡ h
    put_undo a h f = go (meeting a h)
      where
        go : Meeting a h → put kind (put kind h a) (inverse kind a) ≡ h
        go (cancels r e) =
            ap (λ (k : List ℤ). put kind (put kind k a) (inverse kind a)) e ∙ ap (λ (k : List ℤ). put kind k (inverse kind a)) (put_cancels a r)
            ∙ put_stays (inverse kind a) r (fine_meets (inverse kind a) r (sym (ap fine e) ∙ f)) ∙ sym e
        go (merges r o e) =
            ap (λ (k : List ℤ). put kind (put kind k a) (inverse kind a)) e ∙ ap (λ (k : List ℤ). put kind k (inverse kind a)) (put_merges a r o)
            ∙ ap (put kind (neg_ℤ a ∷ r)) (odd_inverse a o) ∙ put_merges (neg_ℤ a) r (odd_negative a o) ∙ ap (λ (x : ℤ). x ∷ r) (neg_ℤ-neg_ℤ a) ∙ sym e
        go (stays m) =
            ap (λ (k : List ℤ). put kind k (inverse kind a)) (put_stays a h m)
            ∙ ap (λ (x : ℤ). put kind (x ∷ h) (inverse kind a)) (sym (inverse_inverse a)) ∙ put_cancels (inverse kind a) h

    pub put_twice : (a : ℤ) (h : List ℤ) → odd a ≡ true → fine h ≡ true → put kind (put kind h a) a ≡ put kind h (neg_ℤ a)
    put_twice a h o f = go (meeting a h)
      where
        n : inverse kind a ≡ neg_ℤ a
        n = odd_inverse a o

        -- a is put behind its inverse, or its inverse behind a
        gone : (r : List ℤ) → (put kind (neg_ℤ a ∷ r) a ≡ r) × (put kind (a ∷ r) (neg_ℤ a) ≡ r)
        gone r = (
          ap (λ (x : ℤ). put kind (x ∷ r) a) (sym n) ∙ put_cancels a r,
          ap (λ (x : ℤ). put kind (x ∷ r) (neg_ℤ a)) (sym (ap (inverse kind) (sym n) ∙ inverse_inverse a)) ∙ put_cancels (neg_ℤ a) r,
        )

        go : Meeting a h → put kind (put kind h a) a ≡ put kind h (neg_ℤ a)
        go (cancels r e) =
            let e' : h ≡ neg_ℤ a ∷ r = e ∙ ap (λ (x : ℤ). x ∷ r) n in
            let m = odd_fits (neg_ℤ a) r (odd_negative a o) (fine_meets (neg_ℤ a) r (sym (ap fine e') ∙ f)) in
            ap (λ (k : List ℤ). put kind (put kind k a) a) e' ∙ ap (λ (k : List ℤ). put kind k a) (gone r).0
            ∙ ap (put kind r) (sym (neg_ℤ-neg_ℤ a)) ∙ put_stays (neg_ℤ (neg_ℤ a)) r m
            ∙ sym (ap (λ (k : List ℤ). put kind k (neg_ℤ a)) e' ∙ put_merges (neg_ℤ a) r (odd_negative a o))
        go (merges r q e) =
            ap (λ (k : List ℤ). put kind (put kind k a) a) e ∙ ap (λ (k : List ℤ). put kind k a) (put_merges a r o) ∙ (gone r).0
            ∙ sym (ap (λ (k : List ℤ). put kind k (neg_ℤ a)) e ∙ (gone r).1)
        go (stays m) = ap (λ (k : List ℤ). put kind k a) (put_stays a h m) ∙ put_merges a h o ∙ sym (put_stays (neg_ℤ a) h (odd_fits a h o m))

    put_length : (a : ℤ) (h : List ℤ) → length (put kind h a) ≤ suc (length h)
    put_length a h = go (meeting a h)
      where
        go : Meeting a h → length (put kind h a) ≤ suc (length h)
        go (cancels r e) = omega (arith, ap (λ (k : List ℤ). length (put kind k a)) e ∙ ap length (put_cancels a r), ap length e)
        go (merges r o e) = omega (arith, ap (λ (k : List ℤ). length (put kind k a)) e ∙ ap length (put_merges a r o), ap length e)
        go (stays m) = omega (arith, ap length (put_stays a h m))

    -- ---- words

    plain_plain : (z : ℤ) → is_plain (plain kind z) ≡ true
    plain_plain z = elim (either (even z)) [
      | inl e ↦ (let n = plain_even z e in ap is_plain n ∙ positive (nat_abs z) (either (even (pos (nat_abs z)))))
      | inr e ↦ ap is_plain (plain_other z e) ∙ other_plain z e
    ]
      where
        positive : (n : ℕ) → (even (pos n) ≡ true) ⊎ (even (pos n) ≡ false) → is_plain (pos n) ≡ true
        positive n (inl e) = eq_eq_z (plain kind (pos n)) (pos n) (plain_even (pos n) e)
        positive n (inr e) = other_plain (pos n) e

    pub puts_fine : (w h : List ℤ) → fine h ≡ true → fine (puts kind h w) ≡ true
    puts_fine [] h f = f
    puts_fine (z ∷ w) h f = puts_fine w (put kind h (plain kind z)) (put_fine (plain kind z) h (plain_plain z) f)

    pub puts_length : (w h : List ℤ) → length (puts kind h w) ≤ length h + length w
    puts_length [] h = omega arith
    puts_length (z ∷ w) h = omega (arith, puts_length w (put kind h (plain kind z)), put_length (plain kind z) h)

    -- the letter -z undoes the letter z, whichever of them is plain
    pub plain_negative : (z : ℤ) → plain kind (neg_ℤ z) ≡ inverse kind (plain kind z)
    plain_negative z = elim (either (even z)) [
      | inl e ↦
          (let n = plain_even z e in
          let same : even (pos (nat_abs z)) ≡ true = size z e in
          plain_even (neg_ℤ z) (even_negative z ∙ e) ∙ ap pos (abs_neg z) ∙ sym (ap (inverse kind) n ∙ inverse_even (pos (nat_abs z)) same))
      | inr e ↦ plain_other (neg_ℤ z) (even_negative z ∙ e) ∙ sym (ap (inverse kind) (plain_other z e) ∙ inverse_other z e)
    ]
      where
        size : (z : ℤ) → even z ≡ true → even (pos (nat_abs z)) ≡ true
        size (pos n) e = e
        size (negsuc n) e = even_negative (negsuc n) ∙ e
