-- The sides of one symbol, by their kinds, and what relabelling says of them.
--
-- In order: counts (`count_apart`); a free side, its partner and the leftmost of the two (`FreeSide`, `kind_of`, `leftmost_first`,
-- `leftmost_pairing`, `leftmost_partner`); what it is after relabelling (`relabelled_even`, `relabelled_odd`, `relabelled_free`,
-- `relabelled_partner`); free sides of one number have one label (`number_apart`).
-- Assumes nothing.
use mathlib.Core.Path.{◌≡◌, refl, sym, ◌∙◌, ap}
use mathlib.Core.Logic.{◌⊎◌, inl, inr}
use mathlib.Core.Bool.{Bool, true}
use mathlib.Core.List.{List}
use Prim.Native.Nat.{ℕ, suc, ◌+◌, ◌<◌, ◌≤◌}
use native.Mathlib.Omega.{arith}
use native.Mathlib.Decide.{dec_lt}
use lib.Dec.{ltb}
use lib.IntN.{ℤ, pos, negsuc}
use borrow.Author.Tests.{lt-ltb, le-ltb}
use Rattle.basics.specs.Choice.{pick}
use Rattle.basics.specs.Count.{count}
use Rattle.basics.proofs.Choice.{pick_true, pick_false}
use Rattle.basics.proofs.Count.{count_yes, count_mono, another}
use Rattle.symbol.specs.Table.{pairing_entry, pairing_of}
use Rattle.symbol.specs.Check.{eq_z}
use Rattle.symbol.specs.Symbol.{FreeLabel, IsSymbol}
use Rattle.symbol.specs.declared.Pairing.{Pairing}
use Rattle.symbol.specs.declared.Pairing.TheVariants.{Even, Odd, Free}
use Rattle.symbol.proofs.Choice.{eq_eq_z, eq_z_refl}
use Rattle.symbol.proofs.Pairings.{pairing_free}
use Rattle.pairing.specs.Generator.{partner, pairing_at}
use Rattle.pairing.proofs.Facts.{partner_of}
use Rattle.containment.specs.Relabel.{first_side_by, first_of_label, label_number, relabelled_by, relabelled}

-- ---- counts

-- of those that pass, no two have the same number before them
count_apart : (test : ℕ → Bool) (a b : ℕ) → test a ≡ true → test b ≡ true → count test a ≡ count test b → a ≡ b
count_apart test a b p q e =
    let x = count_yes test a p in
    let y = count_yes test b q in
    elim (dec_lt a b) [
      | yes h ↦ let z = count_mono test (suc a) b (omega arith) in absurd (omega arith)
      | no h ↦ elim (dec_lt b a) [
        | yes k ↦ let z = count_mono test (suc b) a (omega arith) in absurd (omega arith)
        | no k ↦ omega arith
      ]
    ]

-- ---- the kinds

-- a free side, and the only other one with its label
pub record FreeSide (v : ℕ) (t : List ℤ) (i : ℕ) : Type 0 where
  pub label : ℕ
  pub is : pairing_at v t i ≡ Free label
  pub within : partner v t i ≤ v
  pub differs : ¬ (partner v t i ≡ i)
  pub same : pairing_entry v t (partner v t i) ≡ pairing_entry v t i
  pub back : partner v t (partner v t i) ≡ i
  pub others : (j : ℕ) → j ≤ v → pairing_entry v t j ≡ pairing_entry v t i → ¬ (j ≡ i) → j ≡ partner v t i

pub data Kind (v : ℕ) (t : List ℤ) (i : ℕ) : Type 0 where
  even : pairing_entry v t i ≡ negsuc 1 → Kind v t i
  odd : pairing_entry v t i ≡ negsuc 2 → Kind v t i
  free : FreeSide v t i → Kind v t i

pub kind_of : (v : ℕ) (t : List ℤ) → IsSymbol v t → (i : ℕ) → i ≤ v → Kind v t i
kind_of v t s i h = go (s.pairings i h)
  where
    go : (pairing_entry v t i ≡ negsuc 1) ⊎ (pairing_entry v t i ≡ negsuc 2) ⊎ FreeLabel v t (pairing_entry v t i) → Kind v t i
    go (inl e) = even e
    go (inr (inl e)) = odd e
    go (inr (inr f)) =
        let p = partner_of v t s i h f in
        let a = another (λ (k : ℕ). eq_z (pairing_entry v t k) (pairing_entry v t i)) (v + 1) i f.twice (omega arith) (eq_z_refl (pairing_entry v t i)) in
        free (record {
          label = f.label;
          is = ap (pairing_of v) f.is ∙ pairing_free v f.label f.low f.high;
          within = p.within;
          differs = p.differs;
          same = p.same;
          back = p.back;
          others = λ j l e d. a.others j (omega arith) (eq_eq_z (pairing_entry v t j) (pairing_entry v t i) e) d;
        })

-- ---- the left one of a side and its partner

abbrev pub leftmost : ℕ → List ℤ → ℕ → ℕ
leftmost v t i = pick (ltb i (partner v t i)) i (partner v t i)

module _ (v : ℕ) (t : List ℤ) (i : ℕ) where
  leftmost_here : i < partner v t i → leftmost v t i ≡ i
  leftmost_here h = pick_true (ltb i (partner v t i)) i (partner v t i) (lt-ltb i (partner v t i) h)

  leftmost_there : partner v t i ≤ i → leftmost v t i ≡ partner v t i
  leftmost_there h = pick_false (ltb i (partner v t i)) i (partner v t i) (le-ltb i (partner v t i) h)

  first_free : (l : ℕ) → pairing_at v t i ≡ Free l → first_of_label v t i ≡ ltb i (partner v t i)
  first_free l e = ap (λ (p : Pairing). first_side_by p i (partner v t i)) e

  relabelled_number : (l : ℕ) → pairing_at v t i ≡ Free l → relabelled v t i ≡ pos (label_number v t (leftmost v t i))
  relabelled_number l e = ap (λ (p : Pairing). relabelled_by p (pairing_entry v t i) (label_number v t (leftmost v t i))) e

  relabelled_kept : (p : Pairing) (x : ℤ) → pairing_entry v t i ≡ x → pairing_of v x ≡ p → relabelled v t i ≡ relabelled_by p x (label_number v t (leftmost v t i))
  relabelled_kept p x e f =
      ap (λ (y : ℤ). relabelled_by (pairing_of v y) y (label_number v t (leftmost v t i))) e
      ∙ ap (λ (q : Pairing). relabelled_by q x (label_number v t (leftmost v t i))) f

  pub relabelled_even : pairing_entry v t i ≡ negsuc 1 → relabelled v t i ≡ negsuc 1
  relabelled_even e = relabelled_kept Even (negsuc 1) e refl

  pub relabelled_odd : pairing_entry v t i ≡ negsuc 2 → relabelled v t i ≡ negsuc 2
  relabelled_odd e = relabelled_kept Odd (negsuc 2) e refl

module _ (v : ℕ) (t : List ℤ) (i : ℕ) (f : FreeSide v t i) where
  pub relabelled_free : relabelled v t i ≡ pos (label_number v t (leftmost v t i))
  relabelled_free = relabelled_number v t i f.label f.is

  leftmost_first : first_of_label v t (leftmost v t i) ≡ true
  leftmost_first = elim (dec_lt i (partner v t i)) [
    | yes h ↦ ap (first_of_label v t) (leftmost_here v t i h) ∙ first_free v t i f.label f.is ∙ lt-ltb i (partner v t i) h
    | no h ↦
        let d = f.differs in
        let k = partner v t i in
        let b = f.back in
        let l : k < partner v t k = omega arith in
        ap (first_of_label v t) (leftmost_there v t i (omega arith)) ∙ first_free v t k f.label (ap (pairing_of v) f.same ∙ f.is)
        ∙ lt-ltb k (partner v t k) l
  ]

  leftmost_pairing : pairing_entry v t (leftmost v t i) ≡ pairing_entry v t i
  leftmost_pairing = elim (dec_lt i (partner v t i)) [
    | yes h ↦ ap (pairing_entry v t) (leftmost_here v t i h)
    | no h ↦ ap (pairing_entry v t) (leftmost_there v t i (omega arith)) ∙ f.same
  ]

  leftmost_partner : leftmost v t (partner v t i) ≡ leftmost v t i
  leftmost_partner =
      let k = partner v t i in
      let b = f.back in
      let d = f.differs in
      elim (dec_lt i k) [
        | yes h ↦ leftmost_there v t k (omega arith) ∙ b ∙ sym (leftmost_here v t i h)
        | no h ↦ leftmost_here v t k (omega arith) ∙ sym (leftmost_there v t i (omega arith))
      ]

  pub relabelled_partner : relabelled v t (partner v t i) ≡ relabelled v t i
  relabelled_partner =
      relabelled_number v t (partner v t i) f.label (ap (pairing_of v) f.same ∙ f.is)
      ∙ ap (λ (k : ℕ). pos (label_number v t k)) leftmost_partner
      ∙ sym relabelled_free

-- free sides of one number have one label
pub number_apart : (v : ℕ) (t : List ℤ) (i j : ℕ) → FreeSide v t i → FreeSide v t j → relabelled v t i ≡ relabelled v t j → pairing_entry v t i
    ≡ pairing_entry v t j
number_apart v t i j f g e =
    let a = relabelled_free v t i f in
    let b = relabelled_free v t j g in
    let c : label_number v t (leftmost v t i) ≡ label_number v t (leftmost v t j) = cc in
    let d = count_apart (first_of_label v t) (leftmost v t i) (leftmost v t j) (leftmost_first v t i f) (leftmost_first v t j g) (omega arith) in
    sym (leftmost_pairing v t i f) ∙ ap (pairing_entry v t) d ∙ leftmost_pairing v t j g
