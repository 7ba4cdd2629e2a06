-- ONE SUBGROUP, TWO SYMBOLS: when two symbols generate the same subgroup, and that their coset tables decide it.
--
--   SameGroup gens gens'     the subgroups that gens and gens' generate have the same matrices
--   EachIn gens gens'        each of gens is, up to sign, a word in gens' and their inverses
--   EachOther gens gens'     each of gens is one in gens', and each of gens' one in gens
--   equal_tables a b         whether two tables are equal
--   same_tables v t v' t'    whether the tables of S of two symbols are equal, and those of R
--   OneGroup v t v' t'       of two symbols: they generate the same subgroup exactly when these tables are equal, and
--                            exactly when every generator of each is a word in the other's
--   SameSymbols              [same-symbols] that is so of all symbols; proofs/Theorem.antt has the proof
use Rattle.std.specs.Prelude.{◌≡◌, ◌↔◌, Bool, true, false, ◌&&◌, List, [], ◌∷◌, ℕ, ◌<◌, eqb, length, get_or, ℤ}
use Rattle.matrix.specs.Matrix.{Mat, 𝟙}
use Rattle.symbol.specs.Symbol.{IsSymbol}
use Rattle.pairing.specs.Generator.{generators}
use Rattle.pairing.specs.Subgroup.{InH}
use Rattle.coset.specs.Tables.{table_s, table_r}

abbrev pub SameGroup : (gens gens' : List Mat) → Type 0
SameGroup gens gens' = (m : Mat) → InH gens m ↔ InH gens' m

abbrev pub EachIn : (gens gens' : List Mat) → Type 0
EachIn gens gens' = (j : ℕ) → j < length gens → InH gens' (get_or gens j 𝟙)

abbrev pub EachOther : (gens gens' : List Mat) → Type 0
EachOther gens gens' = EachIn gens gens' × EachIn gens' gens

abbrev pub equal_tables : List ℕ → List ℕ → Bool
equal_tables [] [] = true
equal_tables [] (y ∷ b) = false
equal_tables (x ∷ a) [] = false
equal_tables (x ∷ a) (y ∷ b) = eqb x y && equal_tables a b

unfoldable pub same_tables : (v : ℕ) (t : List ℤ) (v' : ℕ) (t' : List ℤ) → Bool
same_tables v t v' t' = equal_tables (table_s v t) (table_s v' t') && equal_tables (table_r v t) (table_r v' t')

pub record OneGroup (v : ℕ) (t : List ℤ) (v' : ℕ) (t' : List ℤ) : Type 0 where
  pub by_tables : (same_tables v t v' t' ≡ true) ↔ SameGroup (generators v t) (generators v' t')
  pub by_words : EachOther (generators v t) (generators v' t') ↔ SameGroup (generators v t) (generators v' t')

abbrev pub SameSymbols : Type 0
SameSymbols = (v : ℕ) (t : List ℤ) (v' : ℕ) (t' : List ℤ) → IsSymbol v t → IsSymbol v' t' → OneGroup v t v' t'
