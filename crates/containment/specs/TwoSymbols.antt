-- THE SAME FOR TWO SYMBOLS, whose right cosets have the tables that docs/CONVENTIONS.md, 4, says.
--
--   common_cosets v t v' t'       the pairs of cosets that are reached, by number; as many as the intersection has
--                                 right cosets
--   common_s, common_r, common_t  the tables of S, R and T of the intersection
--   InBoth gens gens'             the matrices that belong to both subgroups
--   Contained gens gens'          the subgroup that gens generate lies in that of gens'
--   contained v t v' t'           whether it does, of two symbols: every generator of the first fixes point 0 of the
--                                 second's tables
--   CommonSubgroup v t v' t'      of two symbols: the tables of the pairs are those of the right cosets of the
--                                 intersection, so a matrix fixes point 0 precisely when it belongs to both groups; T
--                                 is S first and then R
--   Containment v t v' t'         of two symbols: the first subgroup lies in the second exactly where `contained` says
--                                 so, exactly where every generator of the first is a word in those of the second,
--                                 exactly where some map follows, exactly where no coset of the first stands in two
--                                 pairs, and exactly where there are as many pairs as cosets of the first
--   SymbolPairs                   [symbol-pairs] that is so of all symbols; proofs/TwoSymbols.antt has the proof
use Rattle.std.specs.Prelude.{◌≡◌, ◌↔◌, Bool, true, ◌&&◌, List, [], ◌∷◌, ℕ, eqb, length, ℤ}
use Rattle.matrix.specs.Matrix.{Mat}
use Rattle.symbol.specs.Symbol.{IsSymbol}
use Rattle.pairing.specs.Generator.{generators}
use Rattle.pairing.specs.Subgroup.{InH}
use Rattle.numbering.specs.Table.{◌then_table◌}
use Rattle.coset.specs.Tables.{table_s, table_r, index_of}
use Rattle.right_cosets.specs.Leads.{leads}
use Rattle.right_cosets.specs.Cosets.{CosetsOf}
use Rattle.containment.specs.Group.{EachIn}
use Rattle.containment.specs.Pairs.{pairs_reached, pairs_s, pairs_r, pairs_t, ◌and◌}
use Rattle.containment.specs.Contained.{Followed, OnePartner}

module _ (v : ℕ) (t : List ℤ) (v' : ℕ) (t' : List ℤ) where
  unfoldable pub common_cosets : List ℕ
  common_cosets = pairs_reached (index_of v t) (index_of v' t') (table_s v t) (table_r v t) (table_s v' t') (table_r v' t')

  unfoldable pub common_s : List ℕ
  common_s = pairs_s (index_of v t) (index_of v' t') (table_s v t) (table_r v t) (table_s v' t') (table_r v' t')

  unfoldable pub common_r : List ℕ
  common_r = pairs_r (index_of v t) (index_of v' t') (table_s v t) (table_r v t) (table_s v' t') (table_r v' t')

  unfoldable pub common_t : List ℕ
  common_t = pairs_t (index_of v t) (index_of v' t') (table_s v t) (table_r v t) (table_s v' t') (table_r v' t')

abbrev pub InBoth : (gens gens' : List Mat) → Mat → Type 0
InBoth gens gens' = InH gens and InH gens'

abbrev pub Contained : (gens gens' : List Mat) → Type 0
Contained gens gens' = (m : Mat) → InH gens m → InH gens' m

-- whether each matrix of the list fixes point 0 of the tables
abbrev pub each_fixes : (s r : List ℕ) → List Mat → Bool
each_fixes s r [] = true
each_fixes s r (m ∷ l) = eqb (leads s r m) 0 && each_fixes s r l

unfoldable pub contained : (v : ℕ) (t : List ℤ) (v' : ℕ) (t' : List ℤ) → Bool
contained v t v' t' = each_fixes (table_s v' t') (table_r v' t') (generators v t)

pub record CommonSubgroup (v : ℕ) (t : List ℤ) (v' : ℕ) (t' : List ℤ) : Type 0 where
  pub cosets : CosetsOf (InBoth (generators v t) (generators v' t')) (length (common_cosets v t v' t'))
      (common_s v t v' t') (common_r v t v' t')
  pub T_is : common_t v t v' t' ≡ common_s v t v' t' then_table common_r v t v' t'

pub record Containment (v : ℕ) (t : List ℤ) (v' : ℕ) (t' : List ℤ) : Type 0 where
  pub decided : (contained v t v' t' ≡ true) ↔ Contained (generators v t) (generators v' t')
  pub by_words : EachIn (generators v t) (generators v' t') ↔ Contained (generators v t) (generators v' t')
  pub followed : Followed (index_of v t) (table_s v t) (table_r v t) (table_s v' t') (table_r v' t')
      ↔ Contained (generators v t) (generators v' t')
  pub one_partner : OnePartner (index_of v t) (index_of v' t') (table_s v t) (table_r v t) (table_s v' t') (table_r v' t')
      ↔ Contained (generators v t) (generators v' t')
  pub as_many : (length (common_cosets v t v' t') ≡ index_of v t) ↔ Contained (generators v t) (generators v' t')

abbrev pub SymbolPairs : Type 0
SymbolPairs = (v : ℕ) (t : List ℤ) (v' : ℕ) (t' : List ℤ) → IsSymbol v t → IsSymbol v' t' → CommonSubgroup v t v' t'
    × Containment v t v' t'
