-- The orbits of two permutations a and b, and the balance of their cycles: `orbits`.
-- Why: every permutation b is the product of transpositions, each of which joins two of its cycles: take the last point that b moves off b, by the
-- transposition with its image, and go on. So start with two permutations that move nothing. A transposition behind b is one behind the product of a
-- and b, which then has one cycle less or one cycle more (`transposition`). If its points have two labels, these are made one, and the product has one
-- cycle less; if they have one label, the labels stay.
--
--   own_label l x       whether x is its own label
--   labels n l          the number of labels
--   Labelling n l       each label is that of a point, which is its own label
--   Orbits n a b        labels that a and b keep, and a whole g from 0: the cycles of a, of b and of their product are in number the points and twice
--                       the labels, less 2 g
--
-- In order: two labels made one; one transposition more; permutations that agree; all transpositions of b; the theorem.
-- Assumes nothing.
use mathlib.Core.Path.{◌≡◌, refl, sym, ap, ◌∙◌}
use mathlib.Core.Logic.{◌≢◌}
use mathlib.Core.Bool.{Bool}
use Prim.Native.Nat.{ℕ, zero, suc, ◌+◌, ◌*◌, ◌≤◌, ◌<◌}
use native.Mathlib.Omega.{arith}
use native.Mathlib.Decide.{ℕ_discrete}
use lib.Dec.{eqb}
use borrow.Author.Tests.{eq-eqb, ne_eqb}
use Rattle.basics.specs.Choice.{pick}
use Rattle.basics.specs.Count.{count}
use Rattle.basics.proofs.Choice.{pick_true, pick_false}
use Rattle.basics.proofs.Count.{count_yes, count_eq, without, without_at, without_other, count_without}
use Rattle.numbering.specs.Table.{◌then◌}
use Rattle.figures.proofs.Exchange.{exchange, exchange_permutes, exchange_unseen, PermutesBelow, then_permutes, bypass, bypass_fixed, bypass_same}
use Rattle.figures.proofs.Exchange.{bypass_back}
use Rattle.figures.proofs.Cycles.{cycle_count, cycle_ext, cycle_still, Kept, mark, mark_on, mark_off, mark_kept}
use Rattle.figures.proofs.Transposition.{Transposed, joins, parts, transposition}

abbrev pub own_label : (ℕ → ℕ) → ℕ → Bool
own_label l x = eqb (l x) x

abbrev pub labels : ℕ → (ℕ → ℕ) → ℕ
labels n l = count (own_label l) n

pub record Labelling (n : ℕ) (l : ℕ → ℕ) : Type 0 where
  pub low : (x : ℕ) → x < n → l x < n
  pub own : (x : ℕ) → x < n → l (l x) ≡ l x

pub record Orbits (n : ℕ) (a b : ℕ → ℕ) : Type 0 where
  pub label : ℕ → ℕ
  pub labelling : Labelling n label
  pub kept_a : Kept n a label
  pub kept_b : Kept n b label
  pub genus : ℕ
  pub balance : cycle_count n a + cycle_count n b + cycle_count n (a then b) + 2 * genus ≡ n + 2 * labels n label

-- ---- two labels made one: what has the label of v gets that of u

module _ {n : ℕ} {l : ℕ → ℕ} (w : Labelling n l) {u v : ℕ} (u_low : u < n) (v_low : v < n) (differ : l u ≢ l v) where
  abbrev relabel : ℕ → ℕ
  relabel y = pick (eqb y (l v)) (l u) y

  abbrev merged : ℕ → ℕ
  merged = l then relabel

  relabel_v : (y : ℕ) → y ≡ l v → relabel y ≡ l u
  relabel_v y e = pick_true (eqb y (l v)) (l u) y (eq-eqb y (l v) e)

  relabel_other : (y : ℕ) → y ≢ l v → relabel y ≡ y
  relabel_other y e = pick_false (eqb y (l v)) (l u) y (ne_eqb y (l v) e)

  merged_labelling : Labelling n merged
  merged_labelling = record {
    low = λ x h. elim (ℕ_discrete (l x) (l v)) [
      | yes e ↦ rw (relabel_v (l x) e) (w.low u u_low)
      | no e ↦ rw (relabel_other (l x) e) (w.low x h)
    ];
    own = λ x h. elim (ℕ_discrete (l x) (l v)) [
      | yes e ↦
          let k = relabel_v (l x) e in
          ap merged k ∙ ap relabel (w.own u u_low) ∙ relabel_other (l u) differ ∙ sym k
      | no e ↦ let k = relabel_other (l x) e in ap merged k ∙ ap relabel (w.own x h)
    ];
  }

  merged_kept : (f : ℕ → ℕ) → Kept n f l → Kept n f merged
  merged_kept f k z h = ap relabel (k z h)

  merged_one : merged u ≡ merged v
  merged_one = relabel_other (l u) differ ∙ sym (relabel_v (l v) refl)

  -- the label of v alone is lost
  merged_own : (x : ℕ) → x < n → own_label merged x ≡ without (l v) (own_label l) x
  merged_own x h = elim (ℕ_discrete x (l v)) [
    | yes e ↦
        let k : merged x ≡ l u = relabel_v (l x) (ap l e ∙ w.own v v_low) in
        ne_eqb (merged x) x (λ q. differ (sym k ∙ q ∙ e)) ∙ sym (ap (without (l v) (own_label l)) e ∙ without_at (l v) (own_label l))
    | no e ↦ (elim (ℕ_discrete (l x) (l v)) [
      | yes d ↦
          let k : merged x ≡ l u = relabel_v (l x) d in
          ne_eqb (merged x) x (λ q. differ (sym (w.own u u_low) ∙ ap l (sym k ∙ q) ∙ d)) ∙ sym (ne_eqb (l x) x (λ q. e (sym q ∙ d)))
      | no d ↦ ap (λ (y : ℕ). eqb y x) (relabel_other (l x) d)
    ]) ∙ sym (without_other (l v) (own_label l) x e)
  ]

  merged_count : labels n l ≡ labels n merged + 1
  merged_count =
      let a = count_without (l v) (own_label l) n (w.low v v_low) (eq-eqb (l (l v)) (l v) (w.own v v_low)) in
      omega (arith, count_eq (own_label merged) (without (l v) (own_label l)) n merged_own)

-- ---- one transposition more

module _ {n : ℕ} {a b : ℕ → ℕ} (p : PermutesBelow n a) (q : PermutesBelow n b) {u v : ℕ} (u_low : u < n) (v_low : v < n) (apart : u ≢ v)
    (joined : suc (cycle_count n (b then exchange u v)) ≡ cycle_count n b) (o : Orbits n a b) where
  abbrev b' : ℕ → ℕ
  b' = b then exchange u v

  abbrev l : ℕ → ℕ
  l = o.label

  product_kept : Kept n (a then b) l
  product_kept z h = o.kept_b (a z) (p.low z h) ∙ o.kept_a z h

  one_label : l u ≡ l v → (k : ℕ) → cycle_count n (a then b') + 2 * k ≡ suc (cycle_count n (a then b)) → Orbits n a b'
  one_label e k c = record {
    label = l;
    labelling = o.labelling;
    kept_a = o.kept_a;
    kept_b = λ z h. exchange_unseen l u v (b z) e ∙ o.kept_b z h;
    genus = o.genus + k;
    balance = omega (arith, o.balance, joined);
  }

  two_labels : l u ≢ l v → suc (cycle_count n (a then b')) ≡ cycle_count n (a then b) → Orbits n a b'
  two_labels d c =
      let w = o.labelling in
      let l' = merged w u_low v_low d in
      record {
        label = l';
        labelling = merged_labelling w u_low v_low d;
        kept_a = merged_kept w u_low v_low d a o.kept_a;
        kept_b = λ z h. exchange_unseen l' u v (b z) (merged_one w u_low v_low d) ∙ merged_kept w u_low v_low d b o.kept_b z h;
        genus = o.genus;
        balance = omega (arith, o.balance, joined, merged_count w u_low v_low d);
      }

  by_transposition : Transposed n u v (a then b) → Orbits n a b'
  by_transposition (parts e same) = one_label (same l product_kept) 0 (omega arith)
  by_transposition (joins e) = elim (ℕ_discrete (l u) (l v)) [
    | yes d ↦ one_label d 1 (omega arith)
    | no d ↦ two_labels d e
  ]

  one_more : Orbits n a b'
  one_more = by_transposition (transposition n u v (a then b) (then_permutes p q) u_low v_low apart)

-- ---- permutations that agree

orbits_ext : {n : ℕ} {a b c : ℕ → ℕ} → PermutesBelow n a → ((x : ℕ) → x < n → b x ≡ c x) → Orbits n a b → Orbits n a c
orbits_ext {n} {a} {b} {c} p e o = record {
  label = o.label;
  labelling = o.labelling;
  kept_a = o.kept_a;
  kept_b = λ z h. ap o.label (sym (e z h)) ∙ o.kept_b z h;
  genus = o.genus;
  balance = omega (arith, o.balance, cycle_ext n b c e, cycle_ext n (a then b) (a then c) (λ x h. e (a x) (p.low x h)));
}

-- ---- all transpositions of b

-- a point that b moves joins the cycle of its image
module _ {n : ℕ} {b : ℕ → ℕ} (q : PermutesBelow n b) {j : ℕ} (h : j < n) (moved : b j ≢ j) where
  past_permutes : PermutesBelow n (bypass j b)
  past_permutes = then_permutes q (exchange_permutes h (q.low j h))

  joins_cycle : Transposed n j (b j) (bypass j b) → suc (cycle_count n (bypass j b then exchange j (b j))) ≡ cycle_count n (bypass j b)
  joins_cycle (joins e) = e
  joins_cycle (parts e same) =
      let k = same (mark j) (mark_kept past_permutes h (bypass_fixed j b)) in
      let no : ⊥ = omega (arith, mark_on j, mark_off j (b j) moved) in
      absurd no

  put_back : {a : ℕ → ℕ} → PermutesBelow n a → Orbits n a (bypass j b) → Orbits n a b
  put_back p o =
      let apart : j ≢ b j = λ e. moved (sym e) in
      let t = transposition n j (b j) (bypass j b) past_permutes h (q.low j h) apart in
      orbits_ext p (λ z k. bypass_back j b z) (one_more p past_permutes h (q.low j h) apart (joins_cycle t) o)

-- b moves no point from j on
abbrev StillFrom : (j n : ℕ) → (ℕ → ℕ) → Type 0
StillFrom j n b = (x : ℕ) → j ≤ x → x < n → b x ≡ x

still_past : {n : ℕ} {b : ℕ → ℕ} → PermutesBelow n b → (j : ℕ) → j < n → StillFrom (suc j) n b → StillFrom j n (bypass j b)
still_past {n} {b} q j h still x k m = elim (ℕ_discrete x j) [
  | yes e ↦ ap (bypass j b) e ∙ bypass_fixed j b ∙ sym e
  | no e ↦ let s = still x (omega arith) m in bypass_same q j x h m e (λ d. omega arith) ∙ s
]

abbrev identity : ℕ → ℕ
identity x = x

all_put_back : {n : ℕ} {a : ℕ → ℕ} → PermutesBelow n a → Orbits n a identity → (j : ℕ) → j ≤ n → (b : ℕ → ℕ) → PermutesBelow n b → StillFrom j n b
    → Orbits n a b
all_put_back p o zero h b q still = orbits_ext p (λ x k. sym (still x (omega arith) k)) o
all_put_back p o (suc j) h b q still = elim (ℕ_discrete (b j) j) [
  | yes e ↦ all_put_back p o j (omega arith) b q (λ x k m. elim (ℕ_discrete x j) [ yes d ↦ ap b d ∙ e ∙ sym d | no d ↦ still x (omega arith) m ])
  | no e ↦ put_back q (omega arith) e p (all_put_back p o j (omega arith) (bypass j b) (past_permutes q (omega arith) e) (still_past q j (omega arith) still))
]

-- ---- the theorem

identity_permutes : (n : ℕ) → PermutesBelow n identity
identity_permutes n = record { low = λ x h. h; one = λ x y h k e. e }

own_labels : (n : ℕ) → labels n identity ≡ n
own_labels zero = refl
own_labels (suc n) = omega (arith, count_yes (own_label identity) n (eq-eqb n n refl), own_labels n)

still_orbits : (n : ℕ) → Orbits n identity identity
still_orbits n = record {
  label = identity;
  labelling = record { low = λ x h. h; own = λ x h. refl };
  kept_a = λ z h. refl;
  kept_b = λ z h. refl;
  genus = 0;
  balance = omega (arith, cycle_still n identity (λ x h. refl), own_labels n);
}

orbits_from : {n : ℕ} {a : ℕ → ℕ} → PermutesBelow n a → Orbits n a identity → (b : ℕ → ℕ) → PermutesBelow n b → Orbits n a b
orbits_from {n} p o b q = all_put_back p o n (omega arith) b q (λ x k h. absurd (omega arith))

-- one permutation with the identity, in either order
orbits_one : {n : ℕ} {a : ℕ → ℕ} → PermutesBelow n a → Orbits n a identity
orbits_one {n} {a} p =
    let o = orbits_from (identity_permutes n) (still_orbits n) a p in
    record {
      label = o.label;
      labelling = o.labelling;
      kept_a = o.kept_b;
      kept_b = o.kept_a;
      genus = o.genus;
      balance = omega (arith, o.balance);
    }

pub orbits : {n : ℕ} {a b : ℕ → ℕ} → PermutesBelow n a → PermutesBelow n b → Orbits n a b
orbits {n} {a} {b} p q = orbits_from p (orbits_one p) b q
