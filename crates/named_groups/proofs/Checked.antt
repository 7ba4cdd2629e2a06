-- The checks 20 and 21 accept exactly the groups with names: `group_verdict`; and their numbers, `group_numbers`.
-- Assumes nothing.
use Rattle.std.specs.Prelude.{Ok, Err}
use mathlib.Core.Path.{◌≡◌, refl, sym, ◌∙◌, ap}
use Prim.Native.Nat.{ℕ, ◌≤◌, ◌<◌}
use native.Mathlib.Omega.{arith}
use native.Mathlib.Decide.{dec_le}
use borrow.Author.Tests.{le-leb, lt-leb}
use Rattle.call.specs.Refusal.{Checked, answer_number, refusal_number}
use Rattle.call.specs.declared.refusal.Refusal.TheVariants.{BadLevel, LargeIndex}
use Rattle.call.specs.declared.refusal.Refusal.{Refusal}
use Rattle.call.proofs.Apart.{refused_accepted}
use Rattle.congruence.specs.Index.{family_index}
use Rattle.congruence.specs.declared.Family.{Family}
use Rattle.congruence_tables.specs.Inner.Held.{Group}
use Rattle.congruence.proofs.Theorem.{indexes}
use Rattle.named_groups.specs.Group.{family_of, group_check, NamedGroup, GroupVerdict}

module _ (k n : ℕ) where
  pub check_family : 2 < k → group_check k n ≡ Err BadLevel
  check_family h = rw (lt-leb k 2 h)

  pub check_some : k ≤ 2 → n < 1 → group_check k n ≡ Err BadLevel
  check_some a h = rw (le-leb k 2 a, lt-leb 1 n h)

  pub check_most : k ≤ 2 → 1 ≤ n → 1000 < n → group_check k n ≡ Err BadLevel
  check_most a b h = rw (le-leb k 2 a, le-leb 1 n b, lt-leb n 1000 h)

  pub check_few : k ≤ 2 → 1 ≤ n → n ≤ 1000 → 3066 < family_index (family_of k) n → group_check k n ≡ Err LargeIndex
  check_few a b c h = rw (le-leb k 2 a, le-leb 1 n b, le-leb n 1000 c, lt-leb (family_index (family_of k) n) 3066 h)

  pub check_accepts : NamedGroup k n → group_check k n ≡ Ok tt
  check_accepts g = rw (le-leb k 2 g.named, le-leb 1 n g.some, le-leb n 1000 g.most, le-leb (family_index (family_of k) n) 3066 g.few)

  no_refusal_lem : {c : Checked} {f : Refusal} → c ≡ Err f → c ≡ Ok tt → ⊥
  no_refusal_lem e d = refused_accepted (sym e ∙ d)

  pub check_named : group_check k n ≡ Ok tt → NamedGroup k n
  check_named e = elim (dec_le k 2) [
    | no h ↦ absurd (no_refusal_lem (check_family (omega arith)) e)
    | yes a ↦ elim (dec_le 1 n) [
      | no h ↦ absurd (no_refusal_lem (check_some a (omega arith)) e)
      | yes b ↦ elim (dec_le n 1000) [
        | no h ↦ absurd (no_refusal_lem (check_most a b (omega arith)) e)
        | yes c ↦ elim (dec_le (family_index (family_of k) n) 3066) [
          | no h ↦ absurd (no_refusal_lem (check_few a b c (omega arith)) e)
          | yes d ↦ record { named = a; some = b; most = c; few = d }
        ]
      ]
    ]
  ]

pub group_verdict : (k n : ℕ) → GroupVerdict k n (group_check k n)
group_verdict k n = record { returned = refl; means = (check_named k n, check_accepts k n); index = λ h. indexes (family_of k) n (omega (arith, h)) }

pub group_of : (k n : ℕ) → NamedGroup k n → Group (family_of k) n
group_of k n g = record { modulus = record { some = g.some; most = g.most }; few = g.few }

pub verdict_as : {k n : ℕ} {c : Checked} → group_check k n ≡ c → GroupVerdict k n c
verdict_as {k} {n} e = rw e at (group_verdict k n)

-- the index that was computed is that of the family's number
pub index_by : {i : ℕ} (k n : ℕ) {f : Family} → i ≡ family_index f n → f ≡ family_of k → i ≡ family_index (family_of k) n
index_by k n e d = e ∙ ap (λ (f : Family). family_index f n) d

-- the numbers of the two refusals
pub group_numbers : (k n : ℕ) {f : Refusal} → group_check k n ≡ Err f → (20 ≤ refusal_number f) × (refusal_number f ≤ 21)
group_numbers k n {f} e = elim (dec_le k 2) [
  | no h ↦ by_number (sym (check_family k n (omega arith)) ∙ e) (omega arith) (omega arith)
  | yes a ↦ elim (dec_le 1 n) [
    | no h ↦ by_number (sym (check_some k n a (omega arith)) ∙ e) (omega arith) (omega arith)
    | yes b ↦ elim (dec_le n 1000) [
      | no h ↦ by_number (sym (check_most k n a b (omega arith)) ∙ e) (omega arith) (omega arith)
      | yes c ↦ elim (dec_le (family_index (family_of k) n) 3066) [
        | no h ↦ by_number (sym (check_few k n a b c (omega arith)) ∙ e) (omega arith) (omega arith)
        | yes d ↦ absurd (no_refusal_lem k n e (check_accepts k n (record { named = a; some = b; most = c; few = d })))
      ]
    ]
  ]
]
  where
    by_number : {g h : Refusal} → ◌≡◌ {A = Checked} (Err g) (Err h) → 20 ≤ refusal_number g → refusal_number g ≤ 21
        → (20 ≤ refusal_number h) × (refusal_number h ≤ 21)
    by_number e p q = let z = ap (λ (c : Checked). answer_number c) e in (omega (arith, z, p), omega (arith, z, q))
