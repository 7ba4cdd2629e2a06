-- The marks of entries that were seen, and the answer of a check, as a loop finds the first place that fails.
-- Assumes nothing.
use Rattle.std.specs.Prelude.{Ok, Err}
use mathlib.Core.Path.{◌≡◌, refl, sym, ◌∙◌, ap}
use mathlib.Core.Logic.{◌⊎◌, inl, inr}
use mathlib.Core.Bool.{Bool, true, false, not, ◌||◌}
use mathlib.Core.List.{List}
use Prim.Native.Nat.{ℕ, suc, ◌≤◌, ◌<◌}
use native.Mathlib.Omega.{arith}
use native.Mathlib.Decide.{ℕ_discrete}
use lib.Dec.{ltb, eqb}
use lib.ListN.{length, get_or, set, replicate, length-set, length-replicate}
use lib.Seq.{get_or-set_same, get_or-set_other}
use borrow.Author.Tests.{lt-ltb, le-ltb, eq-eqb, ne_eqb}
use Rattle.std.proofs.lemmas.List.{get_or-replicate}
use Rattle.call.specs.declared.refusal.Refusal.{Refusal}
use Rattle.call.specs.declared.refusal.Refusal.TheVariants.{TableEntry}
use Rattle.call.proofs.Apart.{refused_accepted}
use Rattle.basics.specs.Count.{first}
use Rattle.basics.proofs.Choice.{pick_true, pick_false, either}
use Rattle.basics.proofs.Count.{Clear, Found, clear_more, search_first, first_clear, first_hit}
use Rattle.symbol.specs.Check.{refuse_at}
use Rattle.permutations.specs.Check.{bad_entry, earlier, check13}
use Rattle.permutations.proofs.Accepted.{entry_low}
use Rattle.permutations.specs.Inner.Seen.{earlier_in, SeenTo, Entries}

-- ---- entries that were seen

earlier_more : (t : List ℕ) (i x : ℕ) → earlier_in t (suc i) x ≡ (earlier_in t i x || eqb (get_or t i 0) x)
earlier_more t i x = go (search_first test i) (either (test i))
  where
    test : ℕ → Bool
    test j = eqb (get_or t j 0) x

    yes_now : test i ≡ true → Clear test i → earlier_in t (suc i) x ≡ true
    yes_now e c = let k = first_hit test i (suc i) (omega arith) c e in lt-ltb (first test (suc i)) (suc i) (omega arith)

    go : Clear test i ⊎ Found test i → (test i ≡ true) ⊎ (test i ≡ false) → earlier_in t (suc i) x ≡ (earlier_in t i x || eqb (get_or t i 0) x)
    go (inl c) (inl e) = yes_now e c ∙ sym (ap (λ (b : Bool). b || eqb (get_or t i 0) x) (none c) ∙ e)
      where
        none : Clear test i → earlier_in t i x ≡ false
        none c = let k = first_clear test i c in le-ltb (first test i) i (omega arith)
    go (inl c) (inr e) = (let k = first_clear test (suc i) (clear_more test i c e) in le-ltb (first test (suc i)) (suc i) (omega arith))
        ∙ sym (ap (λ (b : Bool). b || eqb (get_or t i 0) x) (let k = first_clear test i c in le-ltb (first test i) i (omega arith)) ∙ e)
    go (inr f) e =
        let h = f.below in
        let k = first_hit test (first test i) (suc i) (omega arith) f.clear f.passes in
        lt-ltb (first test (suc i)) (suc i) (omega arith) ∙ sym (ap (λ (b : Bool). b || eqb (get_or t i 0) x) (lt-ltb (first test i) i h))

pub seen_none : (t : List ℕ) → SeenTo t 0 (replicate 3072 false)
seen_none t = record { long = length-replicate {A = Bool} 3072 false; marks = λ x h. get_or-replicate 3072 x false false h }

pub seen_more : (t : List ℕ) (seen : List Bool) (i : ℕ) → SeenTo t i seen → get_or t i 0 < 3072 → SeenTo t (suc i) (set seen (get_or t i 0) true)
seen_more t seen i s low = record {
  long = length-set seen (get_or t i 0) true ∙ s.long;
  marks = λ x h. go x h (ℕ_discrete x (get_or t i 0));
}
  where
    or_right : (a b : Bool) → b ≡ true → (a || b) ≡ true
    or_right true b q = refl
    or_right false b q = q

    or_none : (a b : Bool) → b ≡ false → (a || b) ≡ a
    or_none true b q = refl
    or_none false b q = q

    go : (x : ℕ) → x < 3072 → Dec (x ≡ get_or t i 0) → get_or (set seen (get_or t i 0) true) x false ≡ earlier_in t (suc i) x
    go x h (yes e) =
        ap (λ (y : ℕ). get_or (set seen (get_or t i 0) true) y false) e ∙ get_or-set_same seen (get_or t i 0) true false (omega (arith, s.long))
        ∙ sym (earlier_more t i x ∙ or_right (earlier_in t i x) (eqb (get_or t i 0) x) (eq-eqb (get_or t i 0) x (sym e)))
    go x h (no e) =
        get_or-set_other seen (get_or t i 0) x true false e ∙ s.marks x h
        ∙ sym (earlier_more t i x ∙ or_none (earlier_in t i x) (eqb (get_or t i 0) x) (ne_eqb (get_or t i 0) x (λ q. e (sym q))))

pub bad_high : (t : List ℕ) (i : ℕ) → length t ≤ get_or t i 0 → bad_entry t i ≡ true
bad_high t i h = ap (λ (b : Bool). not b || earlier t i) (le-ltb (get_or t i 0) (length t) h)

pub bad_seen : (t : List ℕ) (seen : List Bool) (i : ℕ) → SeenTo t i seen → length t ≤ 3066 → get_or t i 0 < length t
    → bad_entry t i ≡ get_or seen (get_or t i 0) false
bad_seen t seen i s most h =
    ap (λ (b : Bool). not b || earlier t i) (lt-ltb (get_or t i 0) (length t) h) ∙ sym (s.marks (get_or t i 0) (omega arith))

-- ---- the answer of a check: the search ends past all, or at the place of the refusal

module _ (test : ℕ → Bool) (n : ℕ) (f : ℕ → Refusal) where
  pub accept_last : Clear test n → Ok tt ≡ refuse_at (first test n) n f
  accept_last c =
      let k = first_clear test n c in
      sym (pick_false (ltb (first test n) n) (Err (f (first test n))) (Ok tt) (le-ltb (first test n) n (omega arith)))

  pub refuse_last : (i : ℕ) → i < n → Clear test i → test i ≡ true → Err (f i) ≡ refuse_at (first test n) n f
  refuse_last i h c e =
      let k = first_hit test i n h c e in
      ap (λ (k : ℕ). Err (f k)) (sym k)
      ∙ sym (pick_true (ltb (first test n) n) (Err (f (first test n))) (Ok tt) (lt-ltb (first test n) n (omega arith)))

  -- what was accepted
  pub accepted_last : Ok tt ≡ refuse_at (first test n) n f → Clear test n
  accepted_last e = elim (search_first test n) [
    | inl c ↦ c
    | inr g ↦ refused_accepted (sym (e ∙ pick_true (ltb (first test n) n) (Err (f (first test n))) (Ok tt) (lt-ltb (first test n) n g.below)))
  ]

-- entries that passed are points
pub entries_of : (t : List ℕ) → length t ≤ 3066 → Ok tt ≡ check13 t → Entries t
entries_of t m e = record { most = m; low = entry_low t (accepted_last (bad_entry t) (length t) TableEntry e) }
