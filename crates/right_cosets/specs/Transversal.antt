-- Transversals: one matrix from each right coset. How many matrices a transversal has is the index.
--
--   Everything m               any matrix: with `Unit`, the whole group
--   CosetPlace C n rep m       the place of m among rep 0 .. rep (n - 1): m rep⁻¹ meets C at this place, and at no
--                              other
--   Transversal D C n rep      rep 0 .. rep (n - 1) are units within D that meet each right coset of C in D exactly
--                              once
--   Index D C n                the index of C in D is n: some n matrices are a transversal
use Rattle.std.specs.Prelude.{◌≡◌, ℕ, ◌<◌}
use Rattle.matrix.specs.Matrix.{Mat, ◌⊗◌, adj}
use Rattle.right_cosets.specs.Condition.{◌within◌}

abbrev pub Everything : Mat → Type 0
Everything m = Prim.Unit {0}

pub record CosetPlace (C : Mat → Type 0) (n : ℕ) (rep : ℕ → Mat) (m : Mat) : Type 0 where
  pub at : ℕ
  pub low : at < n
  pub hit : C (m ⊗ adj (rep at))
  pub only : (j : ℕ) → j < n → C (m ⊗ adj (rep j)) → j ≡ at

pub record Transversal (D C : Mat → Type 0) (n : ℕ) (rep : ℕ → Mat) : Type 0 where
  pub member : (j : ℕ) → j < n → D within rep j
  pub place : (m : Mat) → D within m → CosetPlace C n rep m

pub record Index (D C : Mat → Type 0) (n : ℕ) : Type 0 where
  pub rep : ℕ → Mat
  pub transversal : Transversal D C n rep
