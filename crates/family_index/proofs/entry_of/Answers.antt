-- `family_index::entry_of` meets its contract: a table that passes the test has the index at each place. Assumes nothing.
use mathlib.Core.Path.{◌∙◌, subst⁻¹}
use Prim.Native.Nat.{ℕ, ◌-◌}
use native.Mathlib.Omega.{arith}
use Rattle.family_index.specs.Gamma0Entry.{Gamma0Entry}
use Rattle.family_index.proofs.Test.{entry_is, entry_follows}
use Rattle.family_index.proofs.entry_of.Goals as goal

pub returns : goal.returns
returns c =
    let b = c in
    let e = c.from.ensures in
    let few = c.type_inv.table (b.args.n - 1) in (
      e ∙ entry_is _ b.requires.2 b.args.n b.requires.0 b.requires.1,
      subst⁻¹ (λ (r : ℕ). Gamma0Entry b.args.n r) e (entry_follows _ b.requires.2 b.args.n b.requires.0 b.requires.1),
      omega (arith, few, e),
    )
