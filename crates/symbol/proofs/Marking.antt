-- Counting labels two to a byte, and what the counts say of the pairings.
--
-- In order: what is counted (`label_of`); one more side (`tallied_more`); the pairing check by its arms
-- (`unpaired_by_lem`, `unpaired_free`).
-- Assumes nothing.
use mathlib.Core.Path.{◌≡◌, refl, sym, ◌∙◌, ap}
use mathlib.Core.Logic.{◌⊎◌, inl, inr}
use mathlib.Core.Bool.{Bool, true, false, not}
use mathlib.Core.List.{List}
use Prim.Native.Nat.{ℕ, zero, suc, ◌+◌, ◌-◌, ◌<◌, ◌≤◌}
use native.Mathlib.Omega.{arith}
use lib.Dec.{ltb, eqb}
use borrow.Author.Tests.{le-ltb, ne_eqb}
use lib.IntN.{ℤ, pos}
use Rattle.matrix.specs.Matrix.{nth}
use Rattle.basics.specs.Choice.{pick}
use Rattle.basics.specs.Count.{count}
use Rattle.symbol.specs.Table.{pairing_of}
use Rattle.symbol.specs.Check.{eq_z, sides_in, unpaired_by, unpaired_in}
use Rattle.symbol.specs.Inner.Marks.{digit, capped, more, Noted, Tallied}
use Rattle.symbol.specs.declared.Pairing.{Pairing}
use Rattle.symbol.specs.declared.Pairing.TheVariants.{Free}
use Rattle.basics.proofs.Choice.{pick_true, pick_false, either}
use Rattle.basics.proofs.Count.{count_yes, count_no}
use Rattle.symbol.proofs.Pairings.{PairingView, even, odd, free, bad, pairing_view}

-- ---- what is counted

-- it is a label
pub label_of : (v : ℕ) (x : ℤ) (l : ℕ) → pairing_of v x ≡ Free l → (x ≡ pos l) × (1 ≤ l) × (l ≤ v + 1)
label_of v x l e = go (pairing_view v x)
  where
    go : PairingView v x → (x ≡ pos l) × (1 ≤ l) × (l ≤ v + 1)
    go (even p q) = let z : ◌≡◌ {A = ℕ} 0 1 = cc in absurd (omega arith)
    go (odd p q) = let z : ◌≡◌ {A = ℕ} 0 1 = cc in absurd (omega arith)
    go (free m p a b q) = let z : m ≡ l = cc in (p ∙ ap pos z, omega arith, omega arith)
    go (bad q) = let z : ◌≡◌ {A = ℕ} 0 1 = cc in absurd (omega arith)

-- ---- one more side

-- one more, up to 3
capped_more : (n : ℕ) → more (capped n) ≡ capped (n + 1)
capped_more zero = refl
capped_more (suc zero) = refl
capped_more (suc (suc zero)) = refl
capped_more (suc (suc (suc n))) =
    let a = pick_false (ltb (suc (suc (suc n))) 3) (suc (suc (suc n))) 3 (le-ltb (suc (suc (suc n))) 3 (omega arith)) in
    let b = pick_false (ltb (suc (suc (suc n)) + 1) 3) (suc (suc (suc n)) + 1) 3 (le-ltb (suc (suc (suc n)) + 1) 3 (omega arith)) in
    ap more a ∙ sym b

pub tallied_more : (v : ℕ) (p : List ℤ) (i : ℕ) (w w' : List ℕ) → Tallied v p i w → Noted v (nth p i) w w' → Tallied v p (suc i) w'
tallied_more v p i w w' t m = record { long = m.long ∙ t.long; counts = λ l h. m.counts l h ∙ go l h (either (eq_z (nth p i) (pos (suc l)))) }
  where
    go : (l : ℕ) → l < v + 1 → (eq_z (nth p i) (pos (suc l)) ≡ true) ⊎ (eq_z (nth p i) (pos (suc l)) ≡ false)
        → pick (eq_z (nth p i) (pos (suc l))) (more (digit w l)) (digit w l) ≡ capped (count (λ (k : ℕ). eq_z (nth p k) (pos (suc l))) (suc i))
    go l h (inl e) =
        let test : ℕ → Bool = λ (k : ℕ). eq_z (nth p k) (pos (suc l)) in
        pick_true (eq_z (nth p i) (pos (suc l))) _ _ e ∙ ap more (t.counts l h) ∙ capped_more (count test i) ∙ ap capped (sym (count_yes test i e))
    go l h (inr e) =
        let test : ℕ → Bool = λ (k : ℕ). eq_z (nth p k) (pos (suc l)) in
        pick_false (eq_z (nth p i) (pos (suc l))) _ _ e ∙ t.counts l h ∙ ap capped (sym (count_no test i e))

-- ---- the pairing check by its arms

capped_two : (n : ℕ) → eqb (capped n) 2 ≡ eqb n 2
capped_two zero = refl
capped_two (suc zero) = refl
capped_two (suc (suc zero)) = refl
capped_two (suc (suc (suc n))) =
    let a = pick_false (ltb (suc (suc (suc n))) 3) (suc (suc (suc n))) 3 (le-ltb (suc (suc (suc n))) 3 (omega arith)) in
    ap (λ (k : ℕ). eqb k 2) a ∙ sym (ne_eqb (suc (suc (suc n))) 2 (λ z. omega arith))

module _ (v : ℕ) (p : List ℤ) (i : ℕ) where
  pub unpaired_by_lem : (q : Pairing) → pairing_of v (nth p i) ≡ q → unpaired_in v p i ≡ unpaired_by q (sides_in v p (nth p i))
  unpaired_by_lem q e = ap (λ (x : Pairing). unpaired_by x (sides_in v p (nth p i))) e

  pub unpaired_free : (l : ℕ) (w : List ℕ) → pairing_of v (nth p i) ≡ Free l → Tallied v p (v + 1) w → unpaired_in v p i ≡ not (eqb (digit w (l - 1)) 2)
  unpaired_free l w e t =
      let k = label_of v (nth p i) l e in
      let s : l ≡ suc (l - 1) = let low = k.1 in omega arith in
      let n = sides_in v p (nth p i) in
      let c : digit w (l - 1) ≡ capped n = t.counts (l - 1) (let high = k.2 in let low = k.1 in omega arith)
      ∙ ap (λ (x : ℤ). capped (sides_in v p x)) (sym (k.0 ∙ ap pos s)) in
      unpaired_by_lem (Free l) e ∙ ap not (sym (capped_two n) ∙ ap (λ (d : ℕ). eqb d 2) (sym c))
