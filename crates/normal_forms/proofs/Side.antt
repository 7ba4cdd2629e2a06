-- The letters of a symbol and its sides: which letter is written on the way out through a side, and where that way comes in again.
--
-- In order: the kinds of letters (`kinds`); the side that leads the generator of a side (`head`, `Led`, `led`); the letter of a side is of the side's
-- kind (`kind_numbered`), and two sides with one number have one leading side (`one_head`); the letter out through a side that isn't odd, and the side
-- through which this comes in (`outward`, `far`, `Across`, `across`); the letter tells the side (`outward_once`), and an odd letter the odd side
-- (`odd_once`).
--
-- Why: the way in through the partner is the way out through it, turned round; so it is written by the inverse letter.
-- Assumes nothing.
use mathlib.Core.Path.{◌≡◌, refl, sym, ◌∙◌, ap}
use mathlib.Core.Bool.{Bool, true, false, not}
use mathlib.Core.List.{List}
use Prim.Native.Nat.{ℕ, zero, suc, ◌+◌, ◌≤◌}
use native.Mathlib.Omega.{arith}
use native.Mathlib.Decide.{dec_lt}
use native.Mathlib.Numerals.{add-one}
use lib.ListN.{get_or}
use lib.IntN.{ℤ, pos, negsuc, neg_ℤ, neg_ℤ-neg_ℤ, nat_abs}
use borrow.Author.Tests.{lt-ltb, le-ltb}
use Rattle.basics.specs.Choice.{pick}
use Rattle.basics.specs.Count.{count}
use Rattle.basics.proofs.Choice.{pick_true, pick_false, clash}
use Rattle.basics.proofs.Count.{length_those, those_at}
use Rattle.matrix.proofs.Integer.{abs_neg}
use Rattle.symbol.specs.Table.{pairing_entry, pairing_of}
use Rattle.symbol.specs.Check.{eq_z}
use Rattle.symbol.specs.Symbol.{IsSymbol}
use Rattle.symbol.specs.declared.Pairing.{Pairing}
use Rattle.symbol.specs.declared.Pairing.TheVariants.{Even, Odd, Free, Bad}
use Rattle.symbol.proofs.Choice.{eq_eq_z}
use Rattle.pairing.specs.Generator.{partner, pairing_at, is_leader_by, is_leader, leaders, generator_number}
use Rattle.pairing.proofs.Facts.{map_at}
use Rattle.polygon.specs.Step.{odd_at}
use Rattle.polygon.proofs.SymbolFacts.{Mate, Kind, even, odd, free, kind, count_less}
use Rattle.normal_forms.specs.Reduced.{letter_kind}
use Rattle.normal_forms.specs.Reduce.{even_kind, odd_kind, inverse}
use Rattle.normal_forms.proofs.Put.{Kinds, is_plain, plain_even, other_plain, inverse_even, inverse_other, self_negative}

module _ (v : ℕ) (t : List ℤ) where
  pub kind_negative : (z : ℤ) → letter_kind v t (neg_ℤ z) ≡ letter_kind v t z
  unfolding letter_kind
  kind_negative (pos zero) = refl
  kind_negative (pos (suc j)) = refl
  kind_negative (negsuc j) = refl

  kind_none : letter_kind v t (pos 0) ≡ Bad
  unfolding letter_kind
  kind_none = refl

  pub kinds : Kinds (letter_kind v t)
  kinds = record { negative = kind_negative; none = kind_none }

  -- ---- who leads

  abbrev head : ℕ → ℕ
  head i = pick (is_leader v t i) i (partner v t i)

  record Led (i : ℕ) : Type 0 where
    low : head i ≤ v
    leading : is_leader v t (head i) ≡ true
    entry : pairing_entry v t (head i) ≡ pairing_entry v t i

  leader_by : (i : ℕ) (k : Pairing) → pairing_at v t i ≡ k → is_leader v t i ≡ is_leader_by k i (partner v t i)
  leader_by i k e = ap (λ (x : Pairing). is_leader_by x i (partner v t i)) e

  head_self : (i : ℕ) → is_leader v t i ≡ true → head i ≡ i
  head_self i e = pick_true (is_leader v t i) i (partner v t i) e

  head_mate : (i : ℕ) → is_leader v t i ≡ false → head i ≡ partner v t i
  head_mate i e = pick_false (is_leader v t i) i (partner v t i) e

  led_self : (i : ℕ) → i ≤ v → is_leader v t i ≡ true → Led i
  led_self i h e =
      let z = head_self i e in
      record { low = omega arith; leading = ap (is_leader v t) z ∙ e; entry = ap (pairing_entry v t) z }

  -- of two partners one leads
  module _ (i l : ℕ) (k : pairing_at v t i ≡ Free l) (m : Mate v t i) where
    mate_free : pairing_at v t (partner v t i) ≡ Free l
    mate_free = ap (pairing_of v) m.same ∙ k

    leader_first : i ≤ partner v t i → (is_leader v t i ≡ true) × (is_leader v t (partner v t i) ≡ false)
    leader_first h = let o = m.other in let b = m.back in (
      leader_by i (Free l) k ∙ lt-ltb i (partner v t i) (omega arith),
      leader_by (partner v t i) (Free l) mate_free ∙ le-ltb (partner v t i) (partner v t (partner v t i)) (omega arith),
    )

    leader_second : partner v t i ≤ i → (is_leader v t i ≡ false) × (is_leader v t (partner v t i) ≡ true)
    leader_second h = let o = m.other in let b = m.back in (
      leader_by i (Free l) k ∙ le-ltb i (partner v t i) h,
      leader_by (partner v t i) (Free l) mate_free ∙ lt-ltb (partner v t i) (partner v t (partner v t i)) (omega arith),
    )

  led_free : (i l : ℕ) → i ≤ v → pairing_at v t i ≡ Free l → Mate v t i → Led i
  led_free i l h k m = elim (dec_lt i (partner v t i)) [
    | yes b ↦ led_self i h (leader_first i l k m (omega arith)).0
    | no b ↦
        (let s = leader_second i l k m (omega arith) in
        let z = head_mate i s.0 in
        let w = m.within in
        record { low = omega arith; leading = ap (is_leader v t) z ∙ s.1; entry = ap (pairing_entry v t) z ∙ m.same })
  ]

  module _ (ok : IsSymbol v t) where
    led : (i : ℕ) → i ≤ v → Led i
    led i h = elim (kind v t ok i h) [
      | even k o ↦ led_self i h (leader_by i Even k)
      | odd k o ↦ led_self i h (leader_by i Odd k)
      | free l k o m ↦ led_free i l h k m
    ]

    -- ---- numbers

    rank : ℕ → ℕ
    rank i = count (is_leader v t) (head i)

    number_is : (i : ℕ) → generator_number v t i ≡ suc (rank i)
    unfolding rank
    number_is i = add-one (rank i)

    head_at : (i : ℕ) → i ≤ v → get_or (leaders v t) (rank i) 0 ≡ head i
    unfolding rank
    head_at i h = let l = led i h in let b = l.low in those_at (is_leader v t) (head i) (v + 1) 0 (omega arith) l.leading

    pub one_head : (i k : ℕ) → i ≤ v → k ≤ v → generator_number v t i ≡ generator_number v t k → head i ≡ head k
    one_head i k h g e =
        let r : rank i ≡ rank k = omega (arith, number_is i, number_is k) in
        sym (head_at i h) ∙ ap (λ (n : ℕ). get_or (leaders v t) n 0) r ∙ head_at k g

    kind_head : (i : ℕ) → i ≤ v → letter_kind v t (pos (suc (rank i))) ≡ pairing_at v t i
    unfolding letter_kind rank
    kind_head i h =
        let l = led i h in
        let b = l.low in
        map_at (pairing_at v t) (leaders v t) (rank i) 0 Bad
        (omega (arith, length_those (is_leader v t) (v + 1), count_less (is_leader v t) (head i) (v + 1) (omega arith) l.leading))
        ∙ ap (pairing_at v t) (head_at i h) ∙ ap (pairing_of v) l.entry

    -- a letter that stands for the generator of side i, or for its inverse
    pub kind_numbered : (i : ℕ) (z : ℤ) → i ≤ v → nat_abs z ≡ generator_number v t i → letter_kind v t z ≡ pairing_at v t i
    kind_numbered i z h e = by z (e ∙ number_is i) ∙ kind_head i h
      where
        by : (z : ℤ) → nat_abs z ≡ suc (rank i) → letter_kind v t z ≡ letter_kind v t (pos (suc (rank i)))
        by (pos n) e = ap (λ (k : ℕ). letter_kind v t (pos k)) e
        by (negsuc n) e = sym (kind_negative (negsuc n)) ∙ ap (λ (k : ℕ). letter_kind v t (pos k)) e

    one_kind : (i k : ℕ) → i ≤ v → k ≤ v → generator_number v t i ≡ generator_number v t k → pairing_at v t i ≡ pairing_at v t k
    one_kind i k h g e = ap (pairing_of v) (sym (led i h).entry ∙ ap (pairing_entry v t) (one_head i k h g e) ∙ (led k g).entry)

    pub odd_once : (i k : ℕ) → i ≤ v → k ≤ v → pairing_at v t i ≡ Odd → pairing_at v t k ≡ Odd → generator_number v t i ≡ generator_number v t k → i ≡ k
    odd_once i k h g a b e = sym (head_self i (leader_by i Odd a)) ∙ one_head i k h g e ∙ head_self k (leader_by k Odd b)

    -- ---- out through a side, and in again

    unfoldable pub outward : ℕ → ℤ
    outward i = pick (even_kind (pairing_at v t i)) (pos (generator_number v t i))
        (pick (is_leader v t i) (neg_ℤ (pos (generator_number v t i))) (pos (generator_number v t i)))

    unfoldable pub far : ℕ → ℕ
    far i = pick (even_kind (pairing_at v t i)) i (partner v t i)

    pub outward_even : (i : ℕ) → pairing_at v t i ≡ Even → outward i ≡ pos (generator_number v t i)
    unfolding outward
    outward_even i k = rw k

    pub outward_free : (i l : ℕ) → pairing_at v t i ≡ Free l → outward i
        ≡ pick (is_leader v t i) (neg_ℤ (pos (generator_number v t i))) (pos (generator_number v t i))
    unfolding outward
    outward_free i l k =
        ap (λ (x : Pairing). pick (even_kind x) (pos (generator_number v t i))
        (pick (is_leader v t i) (neg_ℤ (pos (generator_number v t i))) (pos (generator_number v t i)))) k

    pub far_even : (i : ℕ) → pairing_at v t i ≡ Even → far i ≡ i
    unfolding far
    far_even i k = rw k

    pub far_free : (i l : ℕ) → pairing_at v t i ≡ Free l → far i ≡ partner v t i
    unfolding far
    far_free i l k = rw k

    pub outward_size : (i : ℕ) → nat_abs (outward i) ≡ generator_number v t i
    unfolding outward
    outward_size i = by (even_kind (pairing_at v t i)) (is_leader v t i)
      where
        by : (b c : Bool) → nat_abs (pick b (pos (generator_number v t i)) (pick c (neg_ℤ (pos (generator_number v t i))) (pos (generator_number v t i))))
            ≡ generator_number v t i
        by true c = refl
        by false true = abs_neg (pos (generator_number v t i))
        by false false = refl

    pub outward_kind : (i : ℕ) → i ≤ v → letter_kind v t (outward i) ≡ pairing_at v t i
    outward_kind i h = kind_numbered i (outward i) h (outward_size i)

    pub record Across (i : ℕ) : Type 0 where
      pub low : far i ≤ v
      pub not_odd : odd_at v t (far i) ≡ false
      pub plain : is_plain (letter_kind v t) (outward i) ≡ true
      pub even_or_free : odd_kind (letter_kind v t (outward i)) ≡ false
      pub back : outward (far i) ≡ inverse (letter_kind v t) (outward i)

    across_even : (i : ℕ) → i ≤ v → pairing_at v t i ≡ Even → odd_at v t i ≡ false → Across i
    across_even i h k o =
        let f = far_even i k in
        let e = ap even_kind (outward_kind i h ∙ k) in
        let z = outward_even i k in
        record {
          low = omega arith;
          not_odd = ap (odd_at v t) f ∙ o;
          plain = eq_eq_z _ (outward i) (plain_even (letter_kind v t) (outward i) e ∙ ap (λ (x : ℤ). pos (nat_abs x)) z ∙ sym z);
          even_or_free = ap odd_kind (outward_kind i h ∙ k);
          back = ap outward f ∙ sym (inverse_even (letter_kind v t) (outward i) e);
        }

    mate_number : (i l : ℕ) → pairing_at v t i ≡ Free l → Mate v t i
        → (generator_number v t (partner v t i) ≡ generator_number v t i) × (outward (partner v t i) ≡ neg_ℤ (outward i))
    mate_number i l k m = elim (dec_lt (partner v t i) i) [
      | yes b ↦ by true (leader_second i l k m (omega arith)).0 (leader_second i l k m (omega arith)).1
      | no b ↦ by false (leader_first i l k m (omega arith)).0 (leader_first i l k m (omega arith)).1
    ]
      where
        j : ℕ
        j = partner v t i

        n : ℕ
        n = generator_number v t i

        same : (b : Bool) → is_leader v t i ≡ b → is_leader v t j ≡ not b → head j ≡ head i
        same true e f = head_mate j f ∙ m.back ∙ sym (head_self i e)
        same false e f = head_self j f ∙ sym (head_mate i e)

        signs : (b : Bool) → pick (not b) (neg_ℤ (pos n)) (pos n) ≡ neg_ℤ (pick b (neg_ℤ (pos n)) (pos n))
        signs true = sym (neg_ℤ-neg_ℤ (pos n))
        signs false = refl

        by : (b : Bool) → is_leader v t i ≡ not b → is_leader v t j ≡ b → (generator_number v t j ≡ n) × (outward j ≡ neg_ℤ (outward i))
        by b e f =
            let z : generator_number v t j ≡ n = ap (λ (x : ℕ). count (is_leader v t) x + 1) (same (not b) e (f ∙ twice b)) in (
              z,
              outward_free j l (mate_free i l k m) ∙ ap (λ (x : ℕ). pick (is_leader v t j) (neg_ℤ (pos x)) (pos x)) z
                  ∙ ap (λ (c : Bool). pick c (neg_ℤ (pos n)) (pos n)) (f ∙ twice b) ∙ signs (not b)
                  ∙ sym (ap neg_ℤ (outward_free i l k ∙ ap (λ (c : Bool). pick c (neg_ℤ (pos n)) (pos n)) e)),
            )
          where
            twice : (b : Bool) → b ≡ not (not b)
            twice true = refl
            twice false = refl

    across_free : (i l : ℕ) → i ≤ v → pairing_at v t i ≡ Free l → odd_at v t i ≡ false → Mate v t i → Across i
    across_free i l h k o m =
        let f = far_free i l k in
        let w = m.within in
        let e = ap even_kind (outward_kind i h ∙ k) in
        record {
          low = omega arith;
          not_odd = ap (odd_at v t) f ∙ ap (λ (x : ℤ). eq_z x (negsuc 2)) m.same ∙ o;
          plain = other_plain (letter_kind v t) (outward i) e;
          even_or_free = ap odd_kind (outward_kind i h ∙ k);
          back = ap outward f ∙ (mate_number i l k m).1 ∙ sym (inverse_other (letter_kind v t) (outward i) e);
        }

    pub across : (i : ℕ) → i ≤ v → odd_at v t i ≡ false → Across i
    across i h n = elim (kind v t ok i h) [
      | even k o ↦ across_even i h k o
      | odd k o ↦ clash o n
      | free l k o m ↦ across_free i l h k o m
    ]

    -- ---- the letter tells the side

    pub outward_once : (i k : ℕ) → i ≤ v → k ≤ v → odd_at v t i ≡ false → odd_at v t k ≡ false → outward i ≡ outward k → i ≡ k
    outward_once i k h g o p e = go (kind v t ok i h) (kind v t ok k g)
      where
        n : generator_number v t i ≡ generator_number v t k
        n = sym (outward_size i) ∙ ap nat_abs e ∙ outward_size k

        heads : head i ≡ head k
        heads = one_head i k h g n

        same : pairing_at v t i ≡ pairing_at v t k
        same = one_kind i k h g n

        -- a first side writes a negative letter, a second side a positive one
        unlike : (x y : ℕ) → x ≡ y → (x ≡ 0 → ⊥) → neg_ℤ (pos x) ≡ pos y → ⊥
        unlike x y z f q = f (ap nat_abs (self_negative (pos x) (ap pos z ∙ sym q)))

        some : (x : ℕ) → generator_number v t x ≡ 0 → ⊥
        some x z = omega (arith, number_is x)

        mates : (l r : ℕ) → pairing_at v t i ≡ Free l → pairing_at v t k ≡ Free r → Mate v t i → Mate v t k
            → (b c : Bool) → is_leader v t i ≡ b → is_leader v t k ≡ c → i ≡ k
        mates l r a d m q true true x y = sym (head_self i x) ∙ heads ∙ head_self k y
        mates l r a d m q false false x y = sym m.back ∙ ap (partner v t) (sym (head_mate i x) ∙ heads ∙ head_mate k y) ∙ q.back
        mates l r a d m q true false x y = absurd (unlike (generator_number v t i) (generator_number v t k) n (some i)
            (sym (outward_free i l a ∙ ap (λ (s : Bool). pick s (neg_ℤ (pos (generator_number v t i))) (pos (generator_number v t i))) x) ∙ e
            ∙ outward_free k r d ∙ ap (λ (s : Bool). pick s (neg_ℤ (pos (generator_number v t k))) (pos (generator_number v t k))) y))
        mates l r a d m q false true x y = absurd (unlike (generator_number v t k) (generator_number v t i) (sym n) (some k)
            (sym (outward_free k r d ∙ ap (λ (s : Bool). pick s (neg_ℤ (pos (generator_number v t k))) (pos (generator_number v t k))) y) ∙ sym e
            ∙ outward_free i l a ∙ ap (λ (s : Bool). pick s (neg_ℤ (pos (generator_number v t i))) (pos (generator_number v t i))) x))

        go : Kind v t i → Kind v t k → i ≡ k
        go (odd a b) y = clash b o
        go (even a b) (odd c d) = clash d p
        go (free l a b m) (odd c d) = clash d p
        go (even a b) (even c d) = sym (head_self i (leader_by i Even a)) ∙ heads ∙ head_self k (leader_by k Even c)
        go (even a b) (free l c d m) = clash (ap even_kind a) (ap even_kind (same ∙ c))
        go (free l a b m) (even c d) = clash (ap even_kind c) (ap even_kind (sym same ∙ a))
        go (free l a b m) (free r c d q) = mates l r a c m q (is_leader v t i) (is_leader v t k) refl refl
