-- The subgroup that matrices generate is a condition on matrices (`generated`), and lies in another one where its generators do (`all_in`).
-- Why: words one after another are a product, and a word backwards, with each letter's sign turned, is the inverse.
-- Assumes nothing.
use mathlib.Core.Path.{◌≡◌, refl, sym, ◌∙◌, ap}
use mathlib.Core.Logic.{inl}
use mathlib.Core.List.{List, [], ◌∷◌, ◌++◌}
use Prim.Native.Nat.{ℕ, zero, suc}
use native.Mathlib.Omega.{arith}
use lib.ListN.{length, get_or}
use lib.IntN.{ℤ, pos, negsuc}
use Rattle.matrix.specs.Matrix.{Mat, ◌⊗◌, 𝟙, neg, adj, ◌≈◌}
use Rattle.matrix.proofs.Matrix.{⊗-idr, adj_adj, adj_product, ≈-refl, ≈-neg, ◌∙≈◌, ≈-both, ≈-adj}
use Rattle.pairing.specs.Subgroup.{IsLetter, IsWord, letter_of, value_of, InH}
use Rattle.polygon.proofs.Framed.{word_of-++}
use Rattle.right_cosets.specs.Condition.{Condition}
use Rattle.containment.specs.Group.{EachIn}

-- ---- words

-- the letter of the inverse
turned : ℤ → ℤ
turned (pos zero) = pos zero
turned (pos (suc j)) = negsuc j
turned (negsuc j) = pos (suc j)

-- the word of the inverse
inverted : List ℤ → List ℤ
inverted [] = []
inverted (z ∷ w) = inverted w ++ (turned z ∷ [])

word-++ : (n : ℕ) (u w : List ℤ) → IsWord n u → IsWord n w → IsWord n (u ++ w)
word-++ n [] w h k = k
word-++ n (z ∷ u) w h k = (h.0, word-++ n u w h.1 k)

turned_letter : (n : ℕ) (z : ℤ) → IsLetter n z → IsLetter n (turned z)
unfolding turned
turned_letter n (pos zero) h = h
turned_letter n (pos (suc j)) h = h
turned_letter n (negsuc j) h = h

inverted_word : (n : ℕ) (w : List ℤ) → IsWord n w → IsWord n (inverted w)
unfolding inverted
inverted_word n [] h = tt
inverted_word n (z ∷ w) h = word-++ n (inverted w) (turned z ∷ []) (inverted_word n w h.1) (turned_letter n z h.0, tt)

adj_one : adj 𝟙 ≡ 𝟙
unfolding adj 𝟙
adj_one = refl

module _ (gens : List Mat) where
  turned_is : (z : ℤ) → letter_of gens (turned z) ≡ adj (letter_of gens z)
  unfolding turned
  turned_is (pos zero) = sym adj_one
  turned_is (pos (suc j)) = refl
  turned_is (negsuc j) = sym (adj_adj (get_or gens j 𝟙))

  inverted_is : (w : List ℤ) → value_of gens (inverted w) ≡ adj (value_of gens w)
  unfolding inverted
  inverted_is [] = sym adj_one
  inverted_is (z ∷ w) =
      word_of-++ gens (inverted w) (turned z ∷ [])
      ∙ ap (λ (m : Mat). value_of gens (inverted w) ⊗ m) (⊗-idr (letter_of gens (turned z)) ∙ turned_is z)
      ∙ ap (λ (m : Mat). m ⊗ adj (letter_of gens z)) (inverted_is w)
      ∙ sym (adj_product (letter_of gens z) (value_of gens w))

  -- ---- the subgroup

  in_product : (m n : Mat) → InH gens m → InH gens n → InH gens (m ⊗ n)
  in_product m n h k = record {
    word = h.word ++ k.word;
    letters = word-++ (length gens) h.word k.word h.letters k.letters;
    is = ≈-both h.is k.is ∙≈ inl (sym (word_of-++ gens h.word k.word));
  }

  in_inverse : (m : Mat) → InH gens m → InH gens (adj m)
  in_inverse m h = record {
    word = inverted h.word;
    letters = inverted_word (length gens) h.word h.letters;
    is = ≈-adj h.is ∙≈ inl (sym (inverted_is h.word));
  }

  in_as : (m n : Mat) → m ≈ n → InH gens n → InH gens m
  in_as m n e h = record { word = h.word; letters = h.letters; is = e ∙≈ h.is }

  pub generated : Condition (InH gens)
  generated = record {
    one = record { word = []; letters = tt; is = ≈-refl };
    product = in_product;
    inverse = in_inverse;
    sign = λ m h. in_as (neg m) m (≈-neg m) h;
  }

  -- a generator is in its subgroup
  pub own_in : EachIn gens gens
  own_in j h = record { word = pos (suc j) ∷ []; letters = ((omega arith, omega arith), tt); is = inl (sym (⊗-idr (get_or gens j 𝟙))) }

-- ---- where the generators of one are in another, all of it is

module _ (gens gens' : List Mat) (each : EachIn gens gens') where
  letter_in_lem : (z : ℤ) → IsLetter (length gens) z → InH gens' (letter_of gens z)
  letter_in_lem (pos zero) h = (generated gens').one
  letter_in_lem (pos (suc j)) h = each j (let k = h.1 in omega arith)
  letter_in_lem (negsuc j) h = in_inverse gens' (get_or gens j 𝟙) (each j (let k = h.1 in omega arith))

  value_in : (w : List ℤ) → IsWord (length gens) w → InH gens' (value_of gens w)
  value_in [] h = (generated gens').one
  value_in (z ∷ w) h = in_product gens' (letter_of gens z) (value_of gens w) (letter_in_lem z h.0) (value_in w h.1)

  pub all_in : (m : Mat) → InH gens m → InH gens' m
  all_in m h = in_as gens' m (value_of gens h.word) h.is (value_in h.word h.letters)
