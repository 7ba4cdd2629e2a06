-- NORMAL FORMS: the word that a pair query finds is the only reduced word for its matrix up to sign, and no word for it
-- is shorter.
--
--   NormalForm v t m w   w is the normal form of m, in these parts:
--     letters, is     the letters of w stand for generators and their inverses, and their product is m up to sign
--     reduced         w is reduced (`Reduced`)
--     only            there is no other reduced word for m up to sign
--     shortest        and every word for m up to sign has at least as many letters
--   NormalForms v t      [proofs/Forms.antt, normal_forms]   the theorem, for every accepted symbol:
--     walk            of a matrix whose walk comes home, the word that the walk writes is the normal form
--     H IS THE FREE PRODUCT of the cyclic groups that its generators generate, of order 2 for an even one, 3 for an odd
--       one and infinite for a free
--     one: reduced words and elements of H up to sign correspond one to one, and the reduced word of a product comes
--       from its factors' words by the rule
--     of Reduce.antt, by which an even letter twice and an odd one three times leave nothing.
--     element         every element of H has a normal form, which is the walk's word
--     word            every reduced word is the walk's word of its own value, which is an element of H
--     apart           two reduced words with one value up to sign are the same word
--     reduces         every word, reduced letter by letter, is the normal form of its value
use Rattle.std.specs.Prelude.{◌≡◌, List, ℕ, ◌≤◌, length, ℤ, pos}
use Rattle.matrix.specs.Matrix.{Mat, det, ◌≈◌}
use Rattle.pairing.specs.Generator.{generators}
use Rattle.pairing.specs.Subgroup.{IsWord, value_of, InH}
use Rattle.polygon.specs.Step.{start_of}
use Rattle.polygon.specs.Walk.{walk_ends, walk_writes}
use Rattle.normal_forms.specs.Reduced.{Reduced}
use Rattle.normal_forms.specs.Reduce.{reduce}

pub record NormalForm (v : ℕ) (t : List ℤ) (m : Mat) (w : List ℤ) : Type 0 where
  pub letters : IsWord (length (generators v t)) w
  pub is : m ≈ value_of (generators v t) w
  pub reduced : Reduced v t w
  pub only : (u : List ℤ) → IsWord (length (generators v t)) u → Reduced v t u → m ≈ value_of (generators v t) u → u ≡ w
  pub shortest : (u : List ℤ) → IsWord (length (generators v t)) u → m ≈ value_of (generators v t) u
      → length w ≤ length u

pub record NormalForms (v : ℕ) (t : List ℤ) : Type 0 where
  pub walk : (m : Mat) → det m ≡ pos 1 → walk_ends v t m ≡ start_of v t → NormalForm v t m (walk_writes v t m)
  -- the free product
  pub element : (m : Mat) → det m ≡ pos 1 → InH (generators v t) m → NormalForm v t m (walk_writes v t m)
  pub word : (w : List ℤ) → IsWord (length (generators v t)) w → Reduced v t w
      → InH (generators v t) (value_of (generators v t) w) × (walk_writes v t (value_of (generators v t) w) ≡ w)
  pub apart : (u w : List ℤ) → IsWord (length (generators v t)) u → IsWord (length (generators v t)) w → Reduced v t u
      → Reduced v t w
      → value_of (generators v t) u ≈ value_of (generators v t) w → u ≡ w
  pub reduces : (w : List ℤ) → IsWord (length (generators v t)) w
      → NormalForm v t (value_of (generators v t) w) (reduce v t w)
