-- Facts about accepted symbols that the crates `symbol` and `pairing_entry` don't have, and that need no polygon.
--
-- In order: searching, counting and listing (`first_below`, `count_less`, `count_most`, `those_made`); what a side is paired as, with a free side's partner
-- (`Kind`, `Mate`, `kind`); two sides with one label are partners (`label_mates`); the number of a side's generator (`Number`, `Leader`).
--
-- Why: a free label stands at two sides, so the search for the partner of one finds the other; the leading sides are numbered by their rank.
-- Assumes nothing.
use mathlib.Core.Path.{◌≡◌, sym, ◌∙◌, ap}
use mathlib.Core.Logic.{◌⊎◌, inl, inr}
use mathlib.Core.Bool.{Bool, true, false}
use mathlib.Core.List.{List}
use Prim.Native.Nat.{ℕ, zero, suc, ◌+◌, ◌≤◌, ◌<◌, ◌*◌}
use native.Mathlib.Omega.{arith}
use native.Mathlib.Decide.{dec_lt}
use native.Mathlib.Numerals.{add-one}
use lib.Dec.{ltb}
use lib.ListN.{length, get_or, length-map, length-drop, get_or-eq_default}
use lib.IntN.{ℤ, pos, negsuc}
use borrow.Author.Tests.{lt-ltb, le-ltb}
use Rattle.matrix.specs.Matrix.{𝟙}
use Rattle.basics.specs.Choice.{pick}
use Rattle.basics.specs.Count.{first, count}
use Rattle.symbol.specs.Table.{pairing_entries, pairing_entry, pairing_of}
use Rattle.symbol.specs.Check.{eq_z}
use Rattle.symbol.specs.Symbol.{IsSymbol, FreeLabel}
use Rattle.pairing.specs.Generator.{partner, pairing_at, is_leader, leaders, generator_number, generator, generators}
use Rattle.symbol.specs.declared.Pairing.TheVariants.{Even, Odd, Free}
use Rattle.symbol.proofs.Choice.{eq_z_refl, eq_eq_z}
use Rattle.basics.proofs.Choice.{either, clash}
use Rattle.basics.proofs.Count.{search_first, count_yes, count_mono, another, length_those}
use Rattle.symbol.proofs.Pairings.{pairing_view, pairing_free}
use Rattle.symbol.proofs.Pairings as Pairings
use Rattle.pairing.proofs.Facts.{partner_of, generator_at}
use Rattle.polygon.specs.Step.{odd_at}

-- ---- searching, counting and listing

-- below n + 1 is below n, or n
pub below_suc : (k n : ℕ) → k < suc n → (k < n) ⊎ (k ≡ n)
below_suc k n h = elim (dec_lt k n) [ yes l ↦ inl l | no l ↦ inr (omega arith) ]

module _ (test : ℕ → Bool) where
  pub first_below : (k n : ℕ) → k < n → test k ≡ true → first test n < n
  first_below k n h e = elim (search_first test n) [ inl c ↦ clash e (c.none k h) | inr f ↦ f.below ]

  -- the rank of a number that passes is below the count
  pub count_less : (i n : ℕ) → i < n → test i ≡ true → count test i < count test n
  count_less i n h e = omega (arith, count_yes test i e, count_mono test (suc i) n (omega arith))

  pub count_most : (n : ℕ) → count test n ≤ n
  count_most zero = omega arith
  count_most (suc n) = let h = count_most n in elim (either (test n)) [ inl e ↦ rw e (omega arith) | inr e ↦ rw e (omega arith) ]

  -- who has the rank j among those below n
  pub record Ranked (n j : ℕ) : Type 0 where
    pub is : ℕ
    pub low : is < n
    pub passes : test is ≡ true
    pub rank : count test is ≡ j

  pub those_made : (n j : ℕ) → j < count test n → Ranked n j
  those_made zero j h = absurd (omega arith)
  those_made (suc n) j h = elim (dec_lt j (count test n)) [
    | yes l ↦ (let r = those_made n j l in record { is = r.is; low = let b = r.low in omega arith; passes = r.passes; rank = r.rank })
    | no l ↦ elim (either (test n)) [
      | inl t ↦ (let k : j < count test n + 1 = rw t at h in record { is = n; low = omega arith; passes = t; rank = omega arith })
      | inr t ↦ (let k : j < count test n + 0 = rw t at h in absurd (omega arith))
    ]
  ]

-- ---- what a side is paired as

-- side i has a partner, which is the only other side with its label
pub record Mate (v : ℕ) (t : List ℤ) (i : ℕ) : Type 0 where
  pub within : partner v t i ≤ v
  pub other : partner v t i ≡ i → ⊥
  pub same : pairing_entry v t (partner v t i) ≡ pairing_entry v t i
  pub back : partner v t (partner v t i) ≡ i
  pub only : (j : ℕ) → j ≤ v → (j ≡ i → ⊥) → pairing_entry v t j ≡ pairing_entry v t i → partner v t i ≡ j

pub data Kind (v : ℕ) (t : List ℤ) (i : ℕ) : Type 0 where
  even : pairing_at v t i ≡ Even → odd_at v t i ≡ false → Kind v t i
  odd : pairing_at v t i ≡ Odd → odd_at v t i ≡ true → Kind v t i
  free : (l : ℕ) → pairing_at v t i ≡ Free l → odd_at v t i ≡ false → Mate v t i → Kind v t i

-- what stands for a free label is that label
pub free_label : (v : ℕ) (x : ℤ) (l : ℕ) → pairing_of v x ≡ Free l → (x ≡ pos l) × (1 ≤ l) × (l ≤ v + 1)
free_label v x l e = go (pairing_view v x)
  where
    go : Pairings.PairingView v x → (x ≡ pos l) × (1 ≤ l) × (l ≤ v + 1)
    go (Pairings.even a b) = let z : ◌≡◌ {A = ℕ} 0 1 = cc in absurd (omega arith)
    go (Pairings.odd a b) = let z : ◌≡◌ {A = ℕ} 0 1 = cc in absurd (omega arith)
    go (Pairings.free n a low high b) = let z : n ≡ l = cc in (a ∙ ap pos z, omega arith, omega arith)
    go (Pairings.bad b) = let z : ◌≡◌ {A = ℕ} 0 1 = cc in absurd (omega arith)

module _ (v : ℕ) (t : List ℤ) (ok : IsSymbol v t) where
  mate : (i : ℕ) → i ≤ v → FreeLabel v t (pairing_entry v t i) → Mate v t i
  mate i h f =
      let p = partner_of v t ok i h f in
      let like : ℕ → Bool = λ k. eq_z (pairing_entry v t k) (pairing_entry v t i) in
      let a = another like (v + 1) i f.twice (omega arith) (eq_z_refl (pairing_entry v t i)) in
      record {
        within = p.within;
        other = p.differs;
        same = p.same;
        back = p.back;
        only = λ j b n e. sym (a.others j (omega arith) (eq_eq_z (pairing_entry v t j) (pairing_entry v t i) e) n);
      }

  pub kind : (i : ℕ) → i ≤ v → Kind v t i
  kind i h = elim (ok.pairings i h) [
    | inl e ↦ even (ap (pairing_of v) e) (ap (λ (x : ℤ). eq_z x (negsuc 2)) e)
    | inr a ↦ elim a [
      | inl e ↦ odd (ap (pairing_of v) e) (ap (λ (x : ℤ). eq_z x (negsuc 2)) e)
      | inr f ↦ free f.label (ap (pairing_of v) f.is ∙ pairing_free v f.label f.low f.high) (ap (λ (x : ℤ). eq_z x (negsuc 2)) f.is)
          (mate i h f)
    ]
  ]

  pub free_mate : (i l : ℕ) → i ≤ v → pairing_at v t i ≡ Free l → Mate v t i
  free_mate i l h e = go (kind i h)
    where
      go : Kind v t i → Mate v t i
      go (even k o) = let z : ◌≡◌ {A = ℕ} 0 1 = cc in absurd (omega arith)
      go (odd k o) = let z : ◌≡◌ {A = ℕ} 0 1 = cc in absurd (omega arith)
      go (free n k o m) = m

  -- two sides with one label are partners
  pub label_mates : (i j l : ℕ) → i ≤ v → j ≤ v → pairing_at v t i ≡ Free l → pairing_at v t j ≡ Free l → (j ≡ i → ⊥) → partner v t i ≡ j
  label_mates i j l h k e f n = (free_mate i l h e).only j k n ((free_label v (pairing_entry v t j) l f).0 ∙ sym (free_label v (pairing_entry v t i) l e).0)

  -- past the last side nothing is paired
  no_side : (i : ℕ) → v < i → odd_at v t i ≡ false
  no_side i h = ap (λ (x : ℤ). eq_z x (negsuc 2))
      (get_or-eq_default (pairing_entries v t) (pos 0) {n = i} (let l = ok.long in omega (arith, length-drop (2 * v) t)))

  pub odd_in : (i : ℕ) → odd_at v t i ≡ true → i ≤ v
  odd_in i e = elim (dec_lt v i) [ yes l ↦ clash e (no_side i l) | no l ↦ omega arith ]

-- ---- the number of a side's generator

-- side k leads the generator of side i
pub record Number (v : ℕ) (t : List ℤ) (i k : ℕ) : Type 0 where
  pub rank : ℕ
  pub number : generator_number v t i ≡ suc rank
  pub low : rank < length (generators v t)
  pub is : get_or (generators v t) rank 𝟙 ≡ generator v t k

-- the leading side of the generator j + 1
pub record Leader (v : ℕ) (t : List ℤ) (j : ℕ) : Type 0 where
  pub side : ℕ
  pub low : side ≤ v
  pub leading : is_leader v t side ≡ true
  pub number : generator_number v t side ≡ suc j

module _ (v : ℕ) (t : List ℤ) where
  pub length_generators : length (generators v t) ≡ count (is_leader v t) (v + 1)
  length_generators = length-map (leaders v t) (generator v t) ∙ length_those (is_leader v t) (v + 1)

  number_of : (i k : ℕ) → k ≤ v → is_leader v t k ≡ true → pick (is_leader v t i) i (partner v t i) ≡ k → Number v t i k
  number_of i k h e f =
      let r = count (is_leader v t) k in
      record {
        rank = r;
        number = ap (λ (x : ℕ). count (is_leader v t) x + 1) f ∙ add-one r;
        low = omega (arith, length_generators, count_less (is_leader v t) k (v + 1) (omega arith) e);
        is = generator_at v t k h e;
      }

  pub number_leads : (i : ℕ) → i ≤ v → is_leader v t i ≡ true → Number v t i i
  number_leads i h e = number_of i i h e (ap (λ (b : Bool). pick b i (partner v t i)) e)

  pub leader : (j : ℕ) → j < length (generators v t) → Leader v t j
  leader j h =
      let r = those_made (is_leader v t) (v + 1) j (omega (arith, length_generators)) in
      record {
        side = r.is;
        low = let b = r.low in omega arith;
        leading = r.passes;
        number = ap (λ (b : Bool). count (is_leader v t) (pick b r.is (partner v t r.is)) + 1) r.passes ∙ add-one (count (is_leader v t) r.is)
            ∙ ap suc r.rank;
      }

  -- ---- who leads

  leads_even : (i : ℕ) → pairing_at v t i ≡ Even → is_leader v t i ≡ true
  leads_even i e = rw e

  leads_odd : (i : ℕ) → pairing_at v t i ≡ Odd → is_leader v t i ≡ true
  leads_odd i e = rw e

  leads_free : (i l : ℕ) → pairing_at v t i ≡ Free l → is_leader v t i ≡ ltb i (partner v t i)
  leads_free i l e = rw e

  pub number_even : (i : ℕ) → i ≤ v → pairing_at v t i ≡ Even → Number v t i i
  number_even i h e = number_leads i h (leads_even i e)

  pub number_odd : (i : ℕ) → i ≤ v → pairing_at v t i ≡ Odd → Number v t i i
  number_odd i h e = number_leads i h (leads_odd i e)

  pub number_first : (i l : ℕ) → i ≤ v → pairing_at v t i ≡ Free l → i < partner v t i → Number v t i i
  number_first i l h e b = number_leads i h (leads_free i l e ∙ lt-ltb i (partner v t i) b)

  -- the partner of a second side leads, and it doesn't
  second_leads : (i l : ℕ) → pairing_at v t i ≡ Free l → Mate v t i → partner v t i < i → (is_leader v t i ≡ false) × (is_leader v t (partner v t i) ≡ true)
  second_leads i l e m b =
      let k = partner v t i in (
        leads_free i l e ∙ le-ltb i k (omega arith),
        leads_free k l (ap (pairing_of v) m.same ∙ e) ∙ ap (ltb k) m.back ∙ lt-ltb k i b,
      )

  pub number_second : (i l : ℕ) → pairing_at v t i ≡ Free l → Mate v t i → partner v t i < i → Number v t i (partner v t i)
  number_second i l e m b = let s = second_leads i l e m b in
      number_of i (partner v t i) m.within s.1 (ap (λ (x : Bool). pick x i (partner v t i)) s.0)

  -- both sides of a free pair have one number
  pub number_mate : (i l : ℕ) → pairing_at v t i ≡ Free l → Mate v t i → partner v t i < i → generator_number v t i ≡ generator_number v t (partner v t i)
  number_mate i l e m b =
      let k = partner v t i in
      let s = second_leads i l e m b in
      ap (λ (x : Bool). count (is_leader v t) (pick x i k) + 1) s.0 ∙ sym (ap (λ (x : Bool). count (is_leader v t) (pick x k (partner v t k)) + 1) s.1)
