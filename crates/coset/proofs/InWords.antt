-- What the tables of a symbol say of words. In order: a word takes m to n exactly where n m⁻¹ is in H (`coset_value`, `from_coset`, `to_coset`, passed on
-- for the crates above); two matrices lead to one point exactly where some word takes one to the other, up to sign (`in_words`); the three tables are
-- permutations (`permutations_of`).
-- Assumes nothing.
use mathlib.Core.Path.{◌≡◌, sym}
use mathlib.Core.Logic.{◌↔◌}
use mathlib.Core.List.{List}
use Prim.Native.Nat.{ℕ}
use lib.IntN.{ℤ, pos}
use Rattle.matrix.specs.Matrix.{Mat, det}
use Rattle.pairing.specs.Generator.{generators}
use Rattle.polygon.specs.Theorem.{SameCoset}
pub use Rattle.polygon.proofs.OneCoset.{coset_value, from_coset, to_coset}
use Rattle.numbering.specs.Table.{Permutations}
use Rattle.right_cosets.specs.Leads.{leads}
use Rattle.coset.specs.Theorem.{Cosets}

module _ {v : ℕ} {t : List ℤ} {s r u : List ℕ} (c : Cosets v t s r u) where
  pub in_words : (m n : Mat) → det m ≡ pos 1 → det n ≡ pos 1 → (leads s r m ≡ leads s r n) ↔ SameCoset (generators v t) m n
  in_words m n d e =
      let k = c.of_H.cosets n m e d in
      (λ h. to_coset (generators v t) m n d (k.0 (sym h)), λ h. sym (k.1 (from_coset (generators v t) m n d h)))

  pub permutations_of : Permutations s r u
  permutations_of = record { S = c.of_H.permutes_S; R = c.of_H.permutes_R; T = c.permutes_T }
