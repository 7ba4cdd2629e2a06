-- Words in generators and their inverses, and THE SUBGROUP H that they generate.
--
--   IsLetter n z       z is a letter over n generators: j or -j, for some j from 1 to n
--   IsWord n w         each letter of w is one
--   letter_of gens z   the matrix of a letter: j stands for generator j, -j for its inverse
--   value_of gens w     the product of the letters' matrices from left to right; the empty word is the identity
--   InH gens m         m is in H: up to sign it is the value of some word, of whatever length
use Rattle.std.specs.Prelude.{List, [], ◌∷◌, ℕ, zero, suc, ◌≤◌, length, get_or, ℤ, pos, negsuc, nat_abs}
use Rattle.matrix.specs.Matrix.{Mat, ◌⊗◌, 𝟙, adj, ◌≈◌}

abbrev pub IsLetter : ℕ → ℤ → Type 0
IsLetter n z = (1 ≤ nat_abs z) × (nat_abs z ≤ n)

abbrev pub IsWord : ℕ → List ℤ → Type 0
IsWord n [] = Unit {0}
IsWord n (z ∷ w) = IsLetter n z × IsWord n w

-- 0 is no letter
abbrev pub letter_of : List Mat → ℤ → Mat
letter_of gens (pos zero) = 𝟙
letter_of gens (pos (suc j)) = get_or gens j 𝟙
letter_of gens (negsuc j) = adj (get_or gens j 𝟙)

abbrev pub value_of : List Mat → List ℤ → Mat
value_of gens [] = 𝟙
value_of gens (z ∷ w) = letter_of gens z ⊗ value_of gens w

pub record InH (gens : List Mat) (m : Mat) : Type 0 where
  pub word : List ℤ
  pub letters : IsWord (length gens) word
  pub is : m ≈ value_of gens word
