-- Laws of -c and d - c modulo n without a division, of the sign of a row, and of the numbers of an entry, which are at most 1,000.
-- Assumes nothing.
use mathlib.Core.Path.{◌≡◌, refl, sym, ◌∙◌, ap}
use mathlib.Core.Logic.{inl, inr}
use mathlib.Core.Bool.{Bool, true, false}
use Prim.Native.Nat.{ℕ, zero, suc, ◌+◌, ◌*◌, ◌-◌, ◌%◌, ◌≤◌, ◌<◌}
use native.Mathlib.Omega.{arith}
use native.Mathlib.Decide.{ℕ_discrete}
use native.Mathlib.Nat.{mod-lt, mod-eq_of_lt, mul-add-mod_self_right}
use lib.Dec.{ltb}
use borrow.Author.Tests.{ltb-true, ltb-false}
use Rattle.basics.proofs.Choice.{clash}
use Rattle.congruence.specs.declared.Family.{Family}
use Rattle.congruence.specs.declared.Family.TheVariants as family
use Rattle.congruence.specs.Inner.Common.{Modulus}
use Rattle.congruence_tables.specs.declared.residues.Residues.{Residues}
use Rattle.congruence_tables.specs.Inner.Residues.{ResiduesOf, negated, negated_all, TurnsRow, SignedOf, SignedRow, EntryOf, SmallOf}

-- ---- -c and d - c

around : (n x y : ℕ) → y ≡ n + x → x < n → x ≡ y % n
around n x y e h =
    let f : y ≡ 1 * n + x = omega arith in
    rw f (sym (mul-add-mod_self_right 1 n x ∙ mod-eq_of_lt h))

pub opposite_zero : (n c : ℕ) → 0 < n → c ≡ 0 → 0 ≡ negated n c
opposite_zero n c h e = around n 0 (n - c) (omega arith) h

pub opposite_some : (n c : ℕ) → 0 < n → (c ≡ 0 → ⊥) → n - c ≡ negated n c
opposite_some n c h e = sym (mod-eq_of_lt (below n c h e))
  where
    below : (n c : ℕ) → 0 < n → (c ≡ 0 → ⊥) → n - c < n
    below n zero h e = absurd (e refl)
    below n (suc c) h e = omega arith

pub difference_up : (n d c : ℕ) → c < n → d < n → c ≤ d → d - c ≡ (d + (n - c)) % n
difference_up n d c h k l = around n (d - c) (d + (n - c)) (omega arith) (omega arith)

pub difference_down : (n d c : ℕ) → c < n → d < n → d < c → d + (n - c) ≡ (d + (n - c)) % n
difference_down n d c h k l = sym (mod-eq_of_lt (omega arith))

pub negated_twice : (n c : ℕ) → 0 < n → c < n → negated n (negated n c) ≡ c
negated_twice n c h k = elim (ℕ_discrete c 0) [
  | yes e ↦ ap (λ (z : ℕ). negated n z) (sym (opposite_zero n c h e)) ∙ sym (opposite_zero n 0 h refl) ∙ sym e
  | no e ↦
      let f = opposite_some n c h e in
      let g : n - c ≡ 0 → ⊥ = λ z. omega arith in
      let back : n - (n - c) ≡ c = omega arith in
      ap (λ (z : ℕ). negated n z) (sym f) ∙ sym (opposite_some n (n - c) h g) ∙ back
]

-- ---- the sign of a row

module _ (n c d p : ℕ) (e : p ≡ negated n c) where
  pub turns_yes : p < c → TurnsRow n c d true
  turns_yes h = record {
    yes = λ t. record { first = rw (← e) (omega arith); second = λ f. let no : ⊥ = omega (arith, f ∙ sym e) in absurd no };
    no = λ t. clash refl t;
  }

  pub turns_no : c < p → TurnsRow n c d false
  turns_no h = record {
    yes = λ t. clash t refl;
    no = λ t. record { first = rw (← e) (omega arith); second = λ f. let no : ⊥ = omega (arith, f ∙ sym e) in absurd no };
  }

  pub turns_by : c ≤ p → p ≤ c → (q : ℕ) → q ≡ negated n d → TurnsRow n c d (ltb q d)
  turns_by h k q f = record {
    yes = λ t. let l = ltb-true q d t in record { first = rw (← e) k; second = λ z. rw (← f) (omega arith) };
    no = λ t. let l = ltb-false q d t in record { first = rw (← e) h; second = λ z. rw (← f) l };
  }

pub signed_same : (n : ℕ) (x : Residues) → ResiduesOf n x → {b : Bool} → TurnsRow n x.c x.d b → b ≡ false → SignedOf n x x
signed_same n x h t e = record { low = h; first = t.no e; is = inl refl }

pub signed_turned : (n : ℕ) (x r : Residues) → 0 < n → ResiduesOf n x → {b : Bool} → TurnsRow n x.c x.d b → b ≡ true
    → r ≡ negated_all n x → SignedOf n x r
signed_turned n x r some h t e i =
    let l = t.yes e in
    rw i (record {
      low = record { a_low = mod-lt (n - x.a) some; b_low = mod-lt (n - x.b) some; c_low = mod-lt (n - x.c) some; d_low = mod-lt (n - x.d) some };
      first = record {
        first = rw (negated_twice n x.c some h.c_low) l.first;
        second = λ z. rw (negated_twice n x.d some h.d_low) (l.second (sym (rw (negated_twice n x.c some h.c_low) at z)));
      };
      is = inr refl;
    })

-- a row with zeros above it
module _ (n c d : ℕ) (some : 0 < n) (c_low : c < n) (d_low : d < n) {b : Bool} (t : TurnsRow n c d b) where
  pub row_same : b ≡ false → SignedRow n c d (record { a = 0; b = 0; c = c; d = d })
  row_same e = record {
    above = record { a_is = refl; b_is = refl };
    row = record { c_low = c_low; d_low = d_low; first = t.no e };
    is = inl (refl, refl);
  }

  pub row_turned : b ≡ true → {p q : ℕ} → p ≡ negated n c → q ≡ negated n d → SignedRow n c d (record { a = 0; b = 0; c = p; d = q })
  row_turned e i j =
      let l = t.yes e in
      rw (i, j) (record {
        above = record { a_is = refl; b_is = refl };
        row = record {
          c_low = mod-lt (n - c) some;
          d_low = mod-lt (n - d) some;
          first = record {
            first = rw (negated_twice n c some c_low) l.first;
            second = λ z. rw (negated_twice n d some d_low) (l.second (sym (rw (negated_twice n c some c_low) at z)));
          };
        };
        is = inr (refl, refl);
      })

-- ---- bounds

factor_low : (h g n : ℕ) → 0 < g → h * g ≡ n → h ≤ n
factor_low h zero n k e = let no : ⊥ = omega arith in absurd no
factor_low h (suc g) n k e = omega arith

factor_some : (h g n : ℕ) → h * g ≡ n → 0 < n → 0 < h
factor_some zero g n e l = let no : ⊥ = omega arith in absurd no
factor_some (suc h) g n e l = omega arith

matrix_small : (n : ℕ) (x : Residues) → Modulus n → ResiduesOf n x → SmallOf x
matrix_small n x m h =
    let most = m.most in
    record { a_most = omega (arith, h.a_low); b_most = omega (arith, h.b_low); c_most = omega (arith, h.c_low); d_most = omega (arith, h.d_low) }

pub entry_small : (f : Family) (n : ℕ) (x : Residues) → Modulus n → EntryOf f n x → SmallOf x
entry_small family.Gamma0 n x m h =
    let most = m.most in
    let r = h.by in
    let low = factor_low r.h r.g n h.common.some h.common.part in
    let some = factor_some r.h r.g n h.common.part m.some in
    record {
      a_most = omega (arith, h.a_is);
      b_most = omega (arith, h.b_is, mod-lt (x.d * r.s) some);
      c_most = omega (arith, h.c_low);
      d_most = omega (arith, h.d_low);
    }
entry_small family.Gamma1 n x m h =
    let most = m.most in
    record {
      a_most = omega (arith, h.above.a_is);
      b_most = omega (arith, h.above.b_is);
      c_most = omega (arith, h.row.c_low);
      d_most = omega (arith, h.row.d_low);
    }
entry_small family.Gamma n x m h = matrix_small n x m h.low
