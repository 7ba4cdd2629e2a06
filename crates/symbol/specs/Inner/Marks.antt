-- Counting labels up to 3, two to a byte: the marks of the pairing check, in 512 bytes of its own.
--
--   digit w k        what is counted at k: the low or the high half of the byte k / 2
--   capped n         n up to 3
--   more d           one more than d, up to 3
--   CountedAt w w' k  w' counts one more than w at k, and the same elsewhere
--   Noted v x w w'   the same at the label that x is, and nothing more where x is no label
--   Tallied v p i w  w counts, up to 3, how often each label 1 to v + 1 stands among the first i pairings p
use Rattle.std.specs.Prelude.{◌≡◌, List, ℕ, suc, ◌+◌, ◌/◌, ◌%◌, ◌<◌, ltb, eqb, length, get_or, ℤ, pos}
use Rattle.matrix.specs.Matrix.{nth}
use Rattle.basics.specs.Choice.{pick}
use Rattle.basics.specs.Count.{count}
use Rattle.symbol.specs.Check.{eq_z}

abbrev pub digit : List ℕ → ℕ → ℕ
digit w k = pick (eqb (k % 2) 0) (get_or w (k / 2) 0 % 16) (get_or w (k / 2) 0 / 16)

abbrev pub capped : ℕ → ℕ
capped n = pick (ltb n 3) n 3

abbrev pub more : ℕ → ℕ
more d = pick (ltb d 3) (d + 1) d

pub record CountedAt (w w' : List ℕ) (k : ℕ) : Type 0 where
  pub long : length w' ≡ length w
  pub here : digit w' k ≡ more (digit w k)
  pub others : (j : ℕ) → (j ≡ k → ⊥) → digit w' j ≡ digit w j

pub record Noted (v : ℕ) (x : ℤ) (w w' : List ℕ) : Type 0 where
  pub long : length w' ≡ length w
  pub counts : (l : ℕ) → l < v + 1 → digit w' l ≡ pick (eq_z x (pos (suc l))) (more (digit w l)) (digit w l)

pub record Tallied (v : ℕ) (p : List ℤ) (i : ℕ) (w : List ℕ) : Type 0 where
  pub long : length w ≡ 512
  pub counts : (l : ℕ) → l < v + 1 → digit w l ≡ capped (count (λ (k : ℕ). eq_z (nth p k) (pos (suc l))) i)
