-- WHAT THE COSET TABLES SAY, for every accepted symbol: `Cosets v t s r u`, of its tables s, r and u of S, R and T,
-- which are tables of the right cosets of the subgroup H that its side pairings generate. The proof is `cosets_are`, in
-- proofs/Theorem.antt.
--
--   Cosets v t s r u    the promise, in these parts:
--     of_H              s and r are the tables of the right cosets of H (`CosetsOf`, in right_cosets/specs/Cosets.antt,
--                       of `InH`, in pairing/specs/Subgroup.antt): each has as many entries as the index says; point 0
--                       is H; two matrices lead to one point exactly where they are in one right coset of H; each point
--                       is some matrix's coset, so the number of points is the index of H; the points are numbered as
--                       docs/CONVENTIONS.md says
--     size-T, permutes-T    u has as many entries, and is a permutation
--     by-T, T-is        multiplication on the right by T is one step in u; T is S first and then R
-- So two matrices lead to one point exactly where a word in the generators takes one to the other, up to sign
-- (`SameCoset`, in polygon/specs/Theorem.antt): `in_words_lem`, in proofs/InWords.antt.
use Rattle.std.specs.Prelude.{◌≡◌, List, ℕ, length, ℤ, pos}
use Rattle.matrix.specs.Matrix.{Mat, ◌⊗◌, det, mat_t}
use Rattle.pairing.specs.Generator.{generators}
use Rattle.pairing.specs.Subgroup.{InH}
use Rattle.numbering.specs.Table.{image_at, ◌then_table◌, Permutes}
use Rattle.right_cosets.specs.Leads.{leads}
use Rattle.right_cosets.specs.Cosets.{CosetsOf}
use Rattle.coset.specs.Tables.{index_of}

pub record Cosets (v : ℕ) (t : List ℤ) (s r u : List ℕ) : Type 0 where
  pub of_H : CosetsOf (InH (generators v t)) (index_of v t) s r
  pub size_T : length u ≡ index_of v t
  pub permutes_T : Permutes u
  pub by_T : (m : Mat) → det m ≡ pos 1 → leads s r (m ⊗ mat_t) ≡ image_at u (leads s r m)
  pub T_is : u ≡ s then_table r
