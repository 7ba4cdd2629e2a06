-- The tables of the intersection of two symbols' subgroups.
--
--   most                 the most points that its tables may have
--   too_many n           24 where n is more
--   Intersected v t v' t' n    both tables are symbols, and the tables of n points are those of the right cosets of the
--                        matrices that belong to both subgroups
--   TooManyPoints        both tables are symbols, and the matrices that belong to both subgroups have more right cosets
--                        than that
--   IntersectionSays     what the number says: 0 that a matrix fixes point 0 of the tables precisely when it belongs to
--                        both subgroups, 24 that they have too many points
--   intersection_call    THE CALL: the first symbol's refusals, then the second's, then the work space, then 24, then
--                        the tables of S, R and T in their result spaces
use Rattle.std.specs.Prelude.{◌≡◌, List, ◌++◌, ℕ, ◌<◌, ltb, length, ℤ}
use Rattle.call.specs.Refusal.{Checked}
use Rattle.call.specs.declared.refusal.Refusal.TheVariants.{LargeIntersection}
use Rattle.call.specs.Call.{Lent, asks, work, stores, Contract}
use Rattle.symbol.specs.Check.{refuse, symbol_check}
use Rattle.symbol.specs.Symbol.{IsSymbol}
use Rattle.containment.specs.TwoSymbols.{common_cosets, common_s, common_r, common_t, CommonSubgroup}

abbrev pub most : ℕ
most = 3066

abbrev pub too_many : ℕ → Checked
too_many n = refuse (ltb most n) LargeIntersection

-- ---- what the answer means

pub record Intersected (v : ℕ) (t : List ℤ) (v' : ℕ) (t' : List ℤ) (n : ℕ) : Type 0 where
  pub one : IsSymbol v t
  pub other : IsSymbol v' t'
  pub points : n ≡ length (common_cosets v t v' t')
  pub group : CommonSubgroup v t v' t'

pub record TooManyPoints (v : ℕ) (t : List ℤ) (v' : ℕ) (t' : List ℤ) : Type 0 where
  pub one : IsSymbol v t
  pub other : IsSymbol v' t'
  pub more : most < length (common_cosets v t v' t')
  pub group : CommonSubgroup v t v' t'

pub record IntersectionSays (v : ℕ) (t : List ℤ) (v' : ℕ) (t' : List ℤ) (number place : ℕ) : Type 0 where
  pub made : number ≡ 0 → Intersected v t v' t' place
  pub large : number ≡ 24 → TooManyPoints v t v' t'

-- ---- the call

abbrev pub intersection_call : (v : ℕ) (t : List ℤ) (v' : ℕ) (t' : List ℤ) (w s r u : Lent (List ℕ)) → Contract
intersection_call v t v' t' w s r u = record {
  steps =
      asks (symbol_check v t) ++ asks (symbol_check v' t') ++ work w ++ asks (too_many (length (common_cosets v t v' t')))
      ++ stores (common_s v t v' t') s ++ stores (common_r v t v' t') r ++ stores (common_t v t v' t') u;
  count = length (common_cosets v t v' t');
  Says = IntersectionSays v t v' t';
}
