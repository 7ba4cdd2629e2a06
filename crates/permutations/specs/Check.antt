-- The checks 12 to 15 of docs/CONVENTIONS.md, in their order, each with its place: s and r are the tables of S and R.
--
--   check12 .. check15   the four checks; 13 and 14 look at S before R
--   pair_check s r       all of them, in order: the first fault counts
--   Passport s r         what a pair of permutations is: from 1 to 3,066 points, as many in R as in S; in each table
--                        every entry is a point, and no two entries are the same; S twice and R three times move
--                        nothing; every point is reached from 0
--   PairVerdict s r c    c is the answer of the checks, and it is that the pair is accepted exactly when it is such a
--                        pair
--
-- proofs/Accepted.antt, `accepted`: the checks accept exactly the passports.
use Rattle.std.specs.Prelude.{Ok}
use Rattle.std.specs.Prelude.{◌≡◌, ◌↔◌, Bool, not, ◌&&◌, ◌||◌, List, ℕ, ◌≤◌, ◌<◌, leb, ltb, eqb, length, get_or}
use Rattle.call.specs.Refusal.{◌or_else◌, Checked}
use Rattle.call.specs.declared.refusal.Refusal.TheVariants.{PointCount, TableEntry, WrongOrder, Unreached}
use Rattle.basics.specs.Count.{first}
use Rattle.symbol.specs.Check.{refuse, refuse_at}
use Rattle.numbering.specs.Find.{is_in}
use Rattle.numbering.specs.Order.{order_of, Reached}
use Rattle.permutations.specs.Pair.{image}

-- 12: from 1 to 3,066 points, and as many in both tables
abbrev pub check12 : (s r : List ℕ) → Checked
check12 s r = refuse (not (leb 1 (length s) && leb (length s) 3066 && eqb (length r) (length s))) PointCount

-- 13: the entry at i is a point, and no earlier entry
abbrev pub earlier : List ℕ → ℕ → Bool
earlier t i = ltb (first (λ (j : ℕ). eqb (get_or t j 0) (get_or t i 0)) i) i

abbrev pub bad_entry : List ℕ → ℕ → Bool
bad_entry t i = not (ltb (get_or t i 0) (length t)) || earlier t i

abbrev pub check13 : List ℕ → Checked
check13 t = refuse_at (first (bad_entry t) (length t)) (length t) TableEntry

-- 14: S twice, and R three times, move nothing
abbrev pub twice_moved : List ℕ → ℕ → Bool
twice_moved s x = not (eqb (image s (image s x)) x)

abbrev pub thrice_moved : List ℕ → ℕ → Bool
thrice_moved r x = not (eqb (image r (image r (image r x))) x)

-- refused at the first x < n that is moved
abbrev pub refused_first : (ℕ → Bool) → ℕ → Checked
refused_first moved n = refuse_at (first moved n) n WrongOrder

abbrev pub check14 : (List ℕ → ℕ → Bool) → List ℕ → Checked
check14 moved t = refused_first (moved t) (length t)

-- 15: the numbering of the points from 0 has them all
abbrev pub not_reached : (s r : List ℕ) → ℕ → Bool
not_reached s r x = not (is_in (order_of (image s) (image r) 0 (length s)) x)

abbrev pub check15 : (s r : List ℕ) → Checked
check15 s r = refuse_at (first (not_reached s r) (length s)) (length s) Unreached

abbrev pub pair_check : (s r : List ℕ) → Checked
pair_check s r =
    check12 s r or_else check13 s or_else check13 r
    or_else check14 twice_moved s or_else check14 thrice_moved r or_else check15 s r

pub record Passport (s r : List ℕ) : Type 0 where
  pub some : 1 ≤ length s
  pub most : length s ≤ 3066
  pub even : length r ≡ length s
  pub points_S : (x : ℕ) → x < length s → image s x < length s
  pub points_R : (x : ℕ) → x < length r → image r x < length r
  pub one_S : (x y : ℕ) → x < length s → y < length s → image s x ≡ image s y → x ≡ y
  pub one_R : (x y : ℕ) → x < length r → y < length r → image r x ≡ image r y → x ≡ y
  pub twice : (x : ℕ) → x < length s → image s (image s x) ≡ x
  pub thrice : (x : ℕ) → x < length r → image r (image r (image r x)) ≡ x
  pub reached : (x : ℕ) → x < length s → Reached (image s) (image r) 0 x

pub record PairVerdict (s r : List ℕ) (c : Checked) : Type 0 where
  pub returned : c ≡ pair_check s r
  pub means : (c ≡ Ok tt) ↔ Passport s r
