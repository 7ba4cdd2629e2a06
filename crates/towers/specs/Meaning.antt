-- WHAT THE ANSWER OF A TOWER MEANS, by the subgroups of its symbols.
--
--   AreSymbols n t        each entry has a symbol
--   NamesEarlier t e      entry e names an entry before it
--   NameListed t e        it does, or it names none
--   ClaimTrue n t e       the claim of entry e: the subgroup of the entry that it names, if it names one, contains its
--                         own (`Contains`, of the crate `containment`: every matrix of the one belongs to the other,
--                         and every generator of the one is a word in the other's)
--   TrueTower n t         each entry has a symbol, names an entry listed before it or none, and its claim is true
--   FirstUnlisted n t e   e is the first entry that names one not listed before it
--   FirstFalse n t e      e is the first entry whose claim is false, where all are symbols and no name is at fault
--   TowerSays n t work number place     THE TOWER PASSES PRECISELY WHEN IT IS TRUE, given a work space of the length
--                         `work`: then the number is 0; and what the numbers 25 and 26 say, with the entry as place
use Rattle.std.specs.Prelude.{◌≡◌, ◌⊎◌, List, ℕ, ◌≤◌, ◌<◌, ℤ, pos, negsuc}
use Rattle.call.specs.Space.{work_length}
use Rattle.symbol.specs.Symbol.{IsSymbol}
use Rattle.containment.specs.Inclusion.{Contains, ContainsNot}
use Rattle.towers.specs.Tower.{named_at, vertices_at, table_at}

abbrev pub AreSymbols : ℕ → List ℤ → Type 0
AreSymbols n t = (e : ℕ) → e < n → IsSymbol (vertices_at t e) (table_at n t e)

pub record NamesEarlier (t : List ℤ) (e : ℕ) : Type 0 where
  pub named : ℕ
  pub is : named_at t e ≡ pos named
  pub before : named < e

abbrev pub NameListed : List ℤ → ℕ → Type 0
NameListed t e = (named_at t e ≡ negsuc 0) ⊎ NamesEarlier t e

abbrev pub ClaimTrue : ℕ → List ℤ → ℕ → Type 0
ClaimTrue n t e =
    (j : ℕ) → named_at t e ≡ pos j → Contains (vertices_at t j) (table_at n t j) (vertices_at t e) (table_at n t e)

pub record TrueTower (n : ℕ) (t : List ℤ) : Type 0 where
  pub symbols : AreSymbols n t
  pub listed : (e : ℕ) → e < n → NameListed t e
  pub claims : (e : ℕ) → e < n → ClaimTrue n t e

pub record FirstUnlisted (n : ℕ) (t : List ℤ) (e : ℕ) : Type 0 where
  pub below : e < n
  pub symbols : AreSymbols n t
  pub earlier : (d : ℕ) → d < e → NameListed t d
  pub itself : NameListed t e → ⊥

pub record FirstFalse (n : ℕ) (t : List ℤ) (e : ℕ) : Type 0 where
  pub below : e < n
  pub symbols : AreSymbols n t
  pub listed : (d : ℕ) → d < n → NameListed t d
  pub earlier : (d : ℕ) → d < e → ClaimTrue n t d
  pub named : ℕ
  pub is : named_at t e ≡ pos named
  pub itself : ContainsNot (vertices_at t named) (table_at n t named) (vertices_at t e) (table_at n t e)

pub record TowerSays (n : ℕ) (t : List ℤ) (work number place : ℕ) : Type 0 where
  pub few : number ≡ 0 → n ≤ 64
  pub passes : number ≡ 0 → TrueTower n t
  pub true_passes : n ≤ 64 → TrueTower n t → (n ≡ 0) ⊎ (work_length ≤ work) → number ≡ 0
  pub not_listed : number ≡ 25 → FirstUnlisted n t place
  pub false_claim_is : number ≡ 26 → FirstFalse n t place
