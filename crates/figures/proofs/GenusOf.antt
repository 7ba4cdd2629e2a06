-- The theorem on the genus formula, `genus_is`, and one law for each way out of the code.
-- Assumes nothing.
use Rattle.std.specs.Prelude.{Ok, Err}
use mathlib.Core.Path.{◌≡◌, refl, sym}
use Prim.Native.Nat.{ℕ, ◌+◌, ◌-◌, ◌*◌, ◌/◌, ◌%◌, ◌≤◌, ◌<◌}
use native.Mathlib.Omega.{arith}
use native.Mathlib.Decide.{dec_lt, ℕ_discrete}
use borrow.Author.Tests.{le-leb, lt-leb, eq-eqb, ne_eqb}
use Rattle.call.specs.Refusal.{Filled}
use Rattle.call.specs.declared.refusal.Refusal.TheVariants.{NoGenus}
use Rattle.figures.specs.GenusOf.{genus_of, Genus}

module _ (index e2 e3 cusps : ℕ) where
  abbrev plus : ℕ
  plus = 12 + index

  abbrev minus : ℕ
  minus = 3 * e2 + 4 * e3 + 6 * cusps

  pub genus_below : plus < minus → Err NoGenus ≡ genus_of index e2 e3 cusps
  unfolding genus_of
  genus_below h = rw (lt-leb minus plus h)

  pub genus_broken : minus ≤ plus → ((plus - minus) % 12 ≡ 0 → ⊥) → Err NoGenus ≡ genus_of index e2 e3 cusps
  unfolding genus_of
  genus_broken h k = rw (le-leb minus plus h, ne_eqb ((plus - minus) % 12) 0 k)

  pub genus_whole : minus ≤ plus → (plus - minus) % 12 ≡ 0 → Ok ((plus - minus) / 12) ≡ genus_of index e2 e3 cusps
  unfolding genus_of
  genus_whole h k = rw (le-leb minus plus h, eq-eqb ((plus - minus) % 12) 0 k)

  -- the formula, with the answer that each arm gives
  data Arm : Filled → Type 0 where
    whole : (g : ℕ) → 12 * g + 3 * e2 + 4 * e3 + 6 * cusps ≡ plus → Arm (Ok g)
    none : ((g : ℕ) → 12 * g + 3 * e2 + 4 * e3 + 6 * cusps ≡ plus → ⊥) → Arm (Err NoGenus)

  arm : Arm (genus_of index e2 e3 cusps)
  arm = elim (dec_lt plus minus) [
    | yes h ↦ rw (← genus_below h) (none (λ g e. omega arith))
    | no h ↦
        let h' : minus ≤ plus = omega arith in
        elim (ℕ_discrete ((plus - minus) % 12) 0) [
          | yes k ↦ rw (← genus_whole h' k) (whole ((plus - minus) / 12) (omega arith))
          | no k ↦ rw (← genus_broken h' k) (none (λ g e. k (omega arith)))
        ]
  ]

  pub genus_is : Genus index e2 e3 cusps
  genus_is = by (genus_of index e2 e3 cusps) refl arm
    where
      by : (r : Filled) → r ≡ genus_of index e2 e3 cusps → Arm r → Genus index e2 e3 cusps
      by _ q (whole g e) = record {
        right = λ h d. let s : g ≡ h = cc in omega arith;
        found = λ h d. let s : g ≡ h = omega arith in rw (← q, s);
        none = λ never. absurd (never g e);
      }
      by _ q (none never) = record {
        right = λ h d. let z : ◌≡◌ {A = ℕ} 0 1 = cc in let f : ⊥ = omega arith in absurd f;
        found = λ h d. absurd (never h d);
        none = λ any. sym q;
      }
