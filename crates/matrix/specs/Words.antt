-- Words in S, Q and P = Q⁻¹.
--
--   Letter, S Q P      the three letters
--   letter x           the matrix of the letter x
--   value l            the product of the letters of l, from left to right; the empty word is the identity
--   alternate x y      whether the letter y may follow x: one of them is S, and the other is a power of Q
--   Alternating l      no two S and no two powers of Q stand side by side in l
use Rattle.std.specs.Prelude.{Bool, true, false, List, [], ◌∷◌}
use Rattle.basics.specs.Choice.{IsTrue}
use Rattle.matrix.specs.Matrix.{Mat, ◌⊗◌, 𝟙, mat_s, mat_q, mat_p}

pub data Letter : Type 0 where
  S Q P : Letter

abbrev pub letter : Letter → Mat
letter S = mat_s
letter Q = mat_q
letter P = mat_p

abbrev pub value : List Letter → Mat
value [] = 𝟙
value (x ∷ l) = letter x ⊗ value l

abbrev pub alternate : Letter → Letter → Bool
alternate S S = false
alternate S Q = true
alternate S P = true
alternate Q S = true
alternate Q Q = false
alternate Q P = false
alternate P S = true
alternate P Q = false
alternate P P = false

abbrev pub Alternating : List Letter → Type 0
Alternating [] = IsTrue true
Alternating (x ∷ []) = IsTrue true
Alternating (x ∷ y ∷ l) = IsTrue (alternate x y) × Alternating (y ∷ l)
