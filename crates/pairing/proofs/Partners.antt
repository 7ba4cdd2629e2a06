-- Finding partners in one run over the sides: what the tables FIRST and PARTNER hold when side i is met.
--
-- In order: partners in a list of pairings that the check accepted (`twice`, `PartnerIn`, `partner_in_lem`); what was seen of a label
-- (`seen_same`, `seen_first`, `seen_again`); one more side (`met_other`, `met_first`, `met_again`, `met_more`); the start and the end.
--
-- Why: exactly two sides have a label, so when its second side is met, the first one remembered is its partner.
-- Assumes nothing.
use mathlib.Core.Path.{◌≡◌, refl, sym, ◌∙◌, ap}
use mathlib.Core.Logic.{◌⊎◌, inl, inr}
use mathlib.Core.Bool.{true, false}
use mathlib.Core.List.{List}
use Prim.Native.Nat.{ℕ, suc, ◌+◌, ◌-◌, ◌<◌, ◌≤◌}
use native.Mathlib.Omega.{arith}
use native.Mathlib.Decide.{ℕ_discrete}
use lib.Dec.{ltb, eqb}
use lib.ListN.{get_or, set, length-set}
use lib.Seq.{get_or-set_same, get_or-set_other}
use borrow.Author.Tests.{lt-ltb, le-ltb, eq-eqb, ne_eqb, eqb-true, not-false}
use lib.IntN.{ℤ, pos, nat_abs}
use Rattle.matrix.specs.Matrix.{nth}
use Rattle.call.specs.Space.{work_length, zeros}
use Rattle.call.proofs.Zeros.{length_zeros, get_d_zeros}
use Rattle.basics.specs.Count.{first}
use Rattle.symbol.specs.Table.{pairing_of}
use Rattle.symbol.specs.Check.{eq_z, sides_in, unpaired_in}
use Rattle.pairing.specs.Generator.{partner_in}
use Rattle.pairing.specs.Inner.Work.{FIRST, PARTNER, met, met_by, labelled, seen, AllPaired, PairedTo, Partnered}
use Rattle.symbol.specs.declared.Pairing.{Pairing}
use Rattle.symbol.specs.declared.Pairing.TheVariants.{Even, Odd, Free, Bad}
use Rattle.symbol.proofs.Choice.{eq_z_true, eq_eq_z, eq_z_refl}
use Rattle.basics.proofs.Choice.{pick_true, pick_false, clash, either}
use Rattle.basics.proofs.Count.{Clear, Found, clear_zero, clear_more, first_clear, first_hit, search_first, another}
use Rattle.symbol.proofs.Pairings.{pairing_free}
use Rattle.symbol.proofs.Marking.{label_of, unpaired_by_lem}

-- ---- partners in a list of pairings

module _ (v : ℕ) (p : List ℤ) (paired : Clear (unpaired_in v p) (v + 1)) where
  pub twice : (i l : ℕ) → i ≤ v → pairing_of v (nth p i) ≡ Free l → sides_in v p (nth p i) ≡ 2
  twice i l h e =
      let n = sides_in v p (nth p i) in
      eqb-true n 2 (not-false (eqb n 2) (sym (unpaired_by_lem v p i (Free l) e) ∙ paired.none i (omega arith)))

  pub record PartnerIn (i : ℕ) : Type 0 where
    pub within : partner_in v p i ≤ v
    pub differs : ¬ (partner_in v p i ≡ i)
    pub same : nth p (partner_in v p i) ≡ nth p i
    pub only : (j : ℕ) → j ≤ v → nth p j ≡ nth p i → ¬ (j ≡ i) → j ≡ partner_in v p i

  pub partner_in_lem : (i l : ℕ) → i ≤ v → pairing_of v (nth p i) ≡ Free l → PartnerIn i
  partner_in_lem i l h e =
      let a = another (λ (k : ℕ). eq_z (nth p k) (nth p i)) (v + 1) i (twice i l h e) (omega arith) (eq_z_refl (nth p i)) in
      let b = a.below in
      record {
        within = omega arith;
        differs = a.differs;
        same = eq_z_true (nth p (partner_in v p i)) (nth p i) a.passes;
        only = λ j k q d. a.others j (omega arith) (eq_eq_z (nth p j) (nth p i) q) d;
      }

-- ---- what was seen of a label

module _ (p : List ℤ) (l i : ℕ) where
  seen_none : Clear (labelled p l) i → seen p l i ≡ 0
  seen_none c = pick_false (ltb (first (labelled p l) i) i) _ _ (le-ltb (first (labelled p l) i) i (let e = first_clear (labelled p l) i c in omega arith))

  seen_found : (k : ℕ) → first (labelled p l) i ≡ k → k < i → seen p l i ≡ k + 1
  seen_found k e h = pick_true (ltb (first (labelled p l) i) i) _ _ (lt-ltb (first (labelled p l) i) i (omega arith)) ∙ ap (λ (n : ℕ). n + 1) e

  -- nothing seen, no side before i has the label
  none_seen : seen p l i ≡ 0 → Clear (labelled p l) i
  none_seen e = go (search_first (labelled p l) i)
    where
      go : Clear (labelled p l) i ⊎ Found (labelled p l) i → Clear (labelled p l) i
      go (inl c) = c
      go (inr f) = let h = f.below in absurd (omega (arith, seen_found (first (labelled p l) i) refl f.below))

  -- else it is one more than the first
  pub record Seen : Type 0 where
    pub side : ℕ
    pub is : seen p l i ≡ side + 1
    pub below : side < i
    pub has : labelled p l side ≡ true
    pub clear : Clear (labelled p l) side

  some_seen : (seen p l i ≡ 0 → ⊥) → Seen
  some_seen n = go (search_first (labelled p l) i)
    where
      go : Clear (labelled p l) i ⊎ Found (labelled p l) i → Seen
      go (inl c) = absurd (n (seen_none c))
      go (inr f) = record {
        side = first (labelled p l) i;
        is = seen_found (first (labelled p l) i) refl f.below;
        below = f.below;
        has = f.passes;
        clear =
            f.clear;
      }

  pub seen_same : labelled p l i ≡ false → seen p l (suc i) ≡ seen p l i
  seen_same e = go (search_first (labelled p l) i)
    where
      go : Clear (labelled p l) i ⊎ Found (labelled p l) i → seen p l (suc i) ≡ seen p l i
      go (inl c) = pick_false (ltb (first (labelled p l) (suc i)) (suc i)) _ _
          (le-ltb (first (labelled p l) (suc i)) (suc i) (let q = first_clear (labelled p l) (suc i) (clear_more (labelled p l) i c e) in omega arith))
          ∙ sym (seen_none c)
      go (inr f) =
          let k = first (labelled p l) i in
          let h = f.below in
          let q = first_hit (labelled p l) k (suc i) (omega arith) f.clear f.passes in
          pick_true (ltb (first (labelled p l) (suc i)) (suc i)) _ _ (lt-ltb (first (labelled p l) (suc i)) (suc i) (omega arith)) ∙ ap (λ (n : ℕ). n + 1) q
          ∙ sym (seen_found k refl h)

  pub seen_first : Clear (labelled p l) i → labelled p l i ≡ true → seen p l (suc i) ≡ i + 1
  seen_first c e =
      let q = first_hit (labelled p l) i (suc i) (omega arith) c e in
      pick_true (ltb (first (labelled p l) (suc i)) (suc i)) _ _ (lt-ltb (first (labelled p l) (suc i)) (suc i) (omega arith)) ∙ ap (λ (n : ℕ). n + 1) q

  pub seen_again : (s : Seen) → seen p l (suc i) ≡ s.side + 1
  seen_again s =
      let h = s.below in
      let q = first_hit (labelled p l) s.side (suc i) (omega arith) s.clear s.has in
      pick_true (ltb (first (labelled p l) (suc i)) (suc i)) _ _ (lt-ltb (first (labelled p l) (suc i)) (suc i) (omega arith)) ∙ ap (λ (n : ℕ). n + 1) q

-- ---- one more side

-- another label
not_labelled : (p : List ℤ) (i l m : ℕ) → nth p i ≡ pos m → ¬ (l ≡ m) → labelled p l i ≡ false
not_labelled p i l m e d = go (either (labelled p l i))
  where
    go : (labelled p l i ≡ true) ⊎ (labelled p l i ≡ false) → labelled p l i ≡ false
    go (inl t) = absurd (d (ap nat_abs (sym (eq_z_true (nth p i) (pos l) t) ∙ e)))
    go (inr f) = f

module _ (v : ℕ) (most : v ≤ 1023) (p : List ℤ) (paired : Clear (unpaired_in v p) (v + 1)) (i : ℕ) (inside : i ≤ v) (w : List ℕ)
    (so_far : PairedTo v p i w) where
  -- side i is not free: nothing changes
  pub met_other : ((l : ℕ) → pairing_of v (nth p i) ≡ Free l → ⊥) → PairedTo v p (suc i) w
  met_other none = record {
    long = so_far.long;
    firsts = λ l a b. so_far.firsts l a b ∙ sym (seen_same p l i (unlike l a b (either (labelled p l i))));
    partners = λ j l h e k. go j l e k (ℕ_discrete j i) (ℕ_discrete (partner_in v p j) i) h;
  }
    where
      unlike : (l : ℕ) → 1 ≤ l → l ≤ v + 1 → (labelled p l i ≡ true) ⊎ (labelled p l i ≡ false) → labelled p l i ≡ false
      unlike l a b (inl t) = absurd (none l (ap (pairing_of v) (eq_z_true (nth p i) (pos l) t) ∙ pairing_free v l a b))
      unlike l a b (inr f) = f

      go : (j l : ℕ) → pairing_of v (nth p j) ≡ Free l → partner_in v p j < suc i → Dec (j ≡ i) → Dec (partner_in v p j ≡ i) → j < suc i
          → get_or w (PARTNER + j) 0 ≡ partner_in v p j
      go j l e k (yes z) d h = absurd (none l (ap (λ (n : ℕ). pairing_of v (nth p n)) (sym z) ∙ e))
      go j l e k (no z) (yes d) h =
          let a = partner_in_lem v p paired j l (omega arith) e in
          absurd (none l (ap (λ (n : ℕ). pairing_of v (nth p n)) (sym d) ∙ ap (pairing_of v) a.same ∙ e))
      go j l e k (no z) (no d) h = so_far.partners j l (omega arith) e (omega arith)

  module _ (l : ℕ) (free : pairing_of v (nth p i) ≡ Free l) where
    is_label : (nth p i ≡ pos l) × (1 ≤ l) × (l ≤ v + 1)
    is_label = label_of v (nth p i) l free

    mine : PartnerIn v p paired i
    mine = partner_in_lem v p paired i l inside free

    here : labelled p l i ≡ true
    here = eq_eq_z (nth p i) (pos l) is_label.0

    -- a side with the label of i
    theirs : (j : ℕ) → nth p j ≡ nth p i → labelled p l j ≡ true
    theirs j e = eq_eq_z (nth p j) (pos l) (e ∙ is_label.0)

    -- the first side of its label
    pub met_first : get_or w (FIRST + l) 0 ≡ 0 → PairedTo v p (suc i) (set w (FIRST + l) (i + 1))
    met_first z =
        let low = is_label.1 in
        let high = is_label.2 in
        let c = none_seen p l i (sym (so_far.firsts l low high) ∙ z) in
        record {
          long = rw (length-set w (FIRST + l) (i + 1)) so_far.long;
          firsts = λ m x y. firsts c m x y (ℕ_discrete m l);
          partners = λ j m h e k. get_or-set_other w (FIRST + l) (PARTNER + j) (i + 1) 0 (λ q. omega (arith, is_label.2))
              ∙ partners c j m h e k (ℕ_discrete j i) (ℕ_discrete (partner_in v p j) i);
        }
      where
        firsts : Clear (labelled p l) i → (m : ℕ) → 1 ≤ m → m ≤ v + 1 → Dec (m ≡ l) → get_or (set w (FIRST + l) (i + 1)) (FIRST + m) 0 ≡ seen p m (suc i)
        firsts c m x y (yes q) = ap (λ (n : ℕ). get_or (set w (FIRST + l) (i + 1)) (FIRST + n) 0) q
            ∙ get_or-set_same w (FIRST + l) (i + 1) 0 (omega (arith, is_label.2, so_far.long)) ∙ sym (seen_first p l i c here)
            ∙ ap (λ (n : ℕ). seen p n (suc i)) (sym q)
        firsts c m x y (no q) = get_or-set_other w (FIRST + l) (FIRST + m) (i + 1) 0 (λ r. q (omega arith)) ∙ so_far.firsts m x y
            ∙ sym (seen_same p m i (not_labelled p i m l is_label.0 q))

        partners : Clear (labelled p l) i → (j m : ℕ) → j < suc i → pairing_of v (nth p j) ≡ Free m → partner_in v p j < suc i → Dec (j ≡ i)
            → Dec (partner_in v p j ≡ i) → get_or w (PARTNER + j) 0 ≡ partner_in v p j
        partners c j m h e k (yes q) d =
            let n = mine.differs in
            let r : partner_in v p j ≡ partner_in v p i = ap (partner_in v p) q in
            clash (theirs (partner_in v p i) mine.same) (c.none (partner_in v p i) (omega arith))
        partners c j m h e k (no q) (yes d) =
            let a = partner_in_lem v p paired j m (omega arith) e in
            clash (theirs j (sym a.same ∙ ap (nth p) d)) (c.none j (omega arith))
        partners c j m h e k (no q) (no d) = so_far.partners j m (omega arith) e (omega arith)

    -- the second side of its label
    pub met_again : (get_or w (FIRST + l) 0 ≡ 0 → ⊥)
        → PairedTo v p (suc i) (set (set w (PARTNER + i) (get_or w (FIRST + l) 0 - 1)) (PARTNER + (get_or w (FIRST + l) 0 - 1)) i)
    met_again n =
        let low = is_label.1 in
        let high = is_label.2 in
        let k = so_far.firsts l low high in
        go (some_seen p l i (λ e. n (k ∙ e))) k
      where
        go : (s : Seen p l i) → get_or w (FIRST + l) 0 ≡ seen p l i
            → PairedTo v p (suc i) (set (set w (PARTNER + i) (get_or w (FIRST + l) 0 - 1)) (PARTNER + (get_or w (FIRST + l) 0 - 1)) i)
        go s k = rw j_is (record {
          long = rw (length-set w₁ (PARTNER + s.side) i, length-set w (PARTNER + i) s.side) so_far.long;
          firsts = λ m x y. get_or-set_other w₁ (PARTNER + s.side) (FIRST + m) i 0 (λ q. omega arith)
              ∙ get_or-set_other w (PARTNER + i) (FIRST + m) s.side 0 (λ q. omega arith) ∙ so_far.firsts m x y ∙ firsts m (ℕ_discrete m l);
          partners = λ j m h e b. partners j m h e b (ℕ_discrete j i) (ℕ_discrete j s.side);
        })
          where
            w₁ : List ℕ
            w₁ = set w (PARTNER + i) s.side

            j_is : get_or w (FIRST + l) 0 - 1 ≡ s.side
            j_is = let a = s.is in omega arith

            side_label : nth p s.side ≡ nth p i
            side_label = eq_z_true (nth p s.side) (pos l) s.has ∙ sym is_label.0

            back : PartnerIn v p paired s.side
            back = partner_in_lem v p paired s.side l (let a = s.below in omega arith) (ap (pairing_of v) side_label ∙ free)

            -- another side's partner is not i
            below : (j m : ℕ) → j ≤ v → pairing_of v (nth p j) ≡ Free m → partner_in v p j < suc i → ¬ (j ≡ i) → ¬ (j ≡ s.side) → partner_in v p j < i
            below j m h e b x y = elim (ℕ_discrete (partner_in v p j) i) [
              | yes q ↦ let a = partner_in_lem v p paired j m h e in
                  absurd (y (mine.only j h (sym a.same ∙ ap (nth p) q) x
                  ∙ sym (mine.only s.side (let c = s.below in omega arith) side_label (λ r. let c = s.below in omega arith))))
              | no q ↦ omega arith
            ]

            firsts : (m : ℕ) → Dec (m ≡ l) → seen p m i ≡ seen p m (suc i)
            firsts m (yes q) = ap (λ (x : ℕ). seen p x i) q ∙ s.is ∙ sym (seen_again p l i s) ∙ ap (λ (x : ℕ). seen p x (suc i)) (sym q)
            firsts m (no q) = sym (seen_same p m i (not_labelled p i m l is_label.0 q))

            partners : (j m : ℕ) → j < suc i → pairing_of v (nth p j) ≡ Free m → partner_in v p j < suc i → Dec (j ≡ i) → Dec (j ≡ s.side)
                → get_or (set w₁ (PARTNER + s.side) i) (PARTNER + j) 0 ≡ partner_in v p j
            partners j m h e b (yes x) y =
                ap (λ (n : ℕ). get_or (set w₁ (PARTNER + s.side) i) (PARTNER + n) 0) x
                ∙ get_or-set_other w₁ (PARTNER + s.side) (PARTNER + i) i 0 (λ q. let a = s.below in omega arith)
                ∙ get_or-set_same w (PARTNER + i) s.side 0 (omega (arith, so_far.long))
                ∙ mine.only s.side (let a = s.below in omega arith) side_label (λ q. let a = s.below in omega arith)
                ∙ ap (partner_in v p) (sym x)
            partners j m h e b (no x) (yes y) =
                ap (λ (n : ℕ). get_or (set w₁ (PARTNER + s.side) i) (PARTNER + n) 0) y
                ∙ get_or-set_same w₁ (PARTNER + s.side) i 0 (rw (length-set w (PARTNER + i) s.side) (let a = s.below in omega (arith, so_far.long)))
                ∙ back.only i inside (sym side_label) (λ q. let a = s.below in omega arith)
                ∙ ap (partner_in v p) (sym y)
            partners j m h e b (no x) (no y) =
                get_or-set_other w₁ (PARTNER + s.side) (PARTNER + j) i 0 (λ q. y (omega arith))
                ∙ get_or-set_other w (PARTNER + i) (PARTNER + j) s.side 0 (λ q. x (omega arith))
                ∙ so_far.partners j m (omega arith) e (below j m (omega arith) e b x y)

  -- side i, whatever it is
  pub met_more : PairedTo v p (suc i) (met_by (pairing_of v (nth p i)) i w)
  met_more = go (pairing_of v (nth p i)) refl
    where
      free : (l : ℕ) → pairing_of v (nth p i) ≡ Free l → Dec (get_or w (FIRST + l) 0 ≡ 0) → PairedTo v p (suc i) (met l i w)
      free l e (yes z) = rw (pick_true (eqb (get_or w (FIRST + l) 0) 0) (set w (FIRST + l) (i + 1))
          (set (set w (PARTNER + i) (get_or w (FIRST + l) 0 - 1)) (PARTNER + (get_or w (FIRST + l) 0 - 1)) i)
          (eq-eqb (get_or w (FIRST + l) 0) 0 z)) (met_first l e z)
      free l e (no z) = rw (pick_false (eqb (get_or w (FIRST + l) 0) 0) (set w (FIRST + l) (i + 1))
          (set (set w (PARTNER + i) (get_or w (FIRST + l) 0 - 1)) (PARTNER + (get_or w (FIRST + l) 0 - 1)) i)
          (ne_eqb (get_or w (FIRST + l) 0) 0 z)) (met_again l e z)

      not_free : (q : Pairing) → pairing_of v (nth p i) ≡ q → ((l : ℕ) → q ≡ Free l → ⊥) → PairedTo v p (suc i) w
      not_free q e n = met_other (λ l f. n l (sym e ∙ f))

      go : (q : Pairing) → pairing_of v (nth p i) ≡ q → PairedTo v p (suc i) (met_by q i w)
      go Even e = not_free Even e (λ l f. let z : ◌≡◌ {A = ℕ} 0 1 = cc in omega arith)
      go Odd e = not_free Odd e (λ l f. let z : ◌≡◌ {A = ℕ} 0 1 = cc in omega arith)
      go (Free l) e = free l e (ℕ_discrete (get_or w (FIRST + l) 0) 0)
      go Bad e = not_free Bad e (λ l f. let z : ◌≡◌ {A = ℕ} 0 1 = cc in omega arith)

-- ---- the start and the end

pub all_paired : (v : ℕ) (p : List ℤ) → AllPaired v p → Clear (unpaired_in v p) (v + 1)
all_paired v p a = record { none = a.none }

pub paired_none : (v : ℕ) (p : List ℤ) (n : ℕ) → work_length ≤ n → PairedTo v p 0 (zeros n)
paired_none v p n h = record {
  long = rw (length_zeros n) h;
  firsts = λ l a b. get_d_zeros n (FIRST + l)
      ∙ sym (seen_none p l 0 (clear_zero (labelled p l)));
  partners = λ j l k e b. absurd (omega arith);
}

pub paired_all : (v : ℕ) (p : List ℤ) → Clear (unpaired_in v p) (v + 1) → (w : List ℕ) → PairedTo v p (v + 1) w → Partnered v p w
paired_all v p paired w t = record {
  long = t.long;
  partners = λ j l h e. let a = partner_in_lem v p paired j l h e in let k = a.within in
      t.partners j l (omega arith) e (omega arith);
}
