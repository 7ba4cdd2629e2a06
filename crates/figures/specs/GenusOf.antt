-- The genus (docs/CONVENTIONS.md, 5): 12 g = 12 + index - 3 e2 - 4 e3 - 6 cusps.
--     genus_of index e2 e3 cusps    the genus, or refusal 18 where the formula gives no whole number from 0
--     Genus index e2 e3 cusps       THE THEOREM on genusOf: it is g exactly where g satisfies the formula, and it is
--                                   refused where no number does; for tables of S and R some number always does (this
--                                   crate)
-- `proofs/GenusOf.antt` proves `genus_is`.
use Rattle.std.specs.Prelude.{◌≡◌, ℕ, ◌+◌, ◌-◌, ◌*◌, ◌/◌, ◌%◌, eqb, leb, Ok, Err}
use Rattle.basics.specs.Choice.{pick}
use Rattle.call.specs.Refusal.{Filled}
use Rattle.call.specs.declared.refusal.Refusal.TheVariants.{NoGenus}

unfoldable pub genus_of : (index e2 e3 cusps : ℕ) → Filled
genus_of index e2 e3 cusps =
    let plus = 12 + index in
    let minus = 3 * e2 + 4 * e3 + 6 * cusps in
    pick (leb minus plus) (pick (eqb ((plus - minus) % 12) 0) (Ok ((plus - minus) / 12)) (Err NoGenus))
    (Err NoGenus)

pub record Genus (index e2 e3 cusps : ℕ) : Type 0 where
  pub right : (g : ℕ) → genus_of index e2 e3 cusps ≡ Ok g → 12 * g + 3 * e2 + 4 * e3 + 6 * cusps ≡ 12 + index
  pub found : (g : ℕ) → 12 * g + 3 * e2 + 4 * e3 + 6 * cusps ≡ 12 + index → genus_of index e2 e3 cusps ≡ Ok g
  pub none : ((g : ℕ) → 12 * g + 3 * e2 + 4 * e3 + 6 * cusps ≡ 12 + index → ⊥) → genus_of index e2 e3 cusps
      ≡ Err NoGenus
