-- Rows and sides: which side of a list a row is of (`Owner`).
-- Assumes nothing.
use mathlib.Core.Path.{◌≡◌, refl, ap}
use mathlib.Core.Logic.{inl, inr}
use mathlib.Core.Bool.{true}
use mathlib.Core.List.{List, [], ◌∷◌, ◌++◌}
use Prim.Native.Nat.{◌+◌}
use Rattle.basics.proofs.Choice.{clash}
use Rattle.import_rule.specs.Side.{Interval}
use Rattle.import_rule.specs.Rule.{Mark, unpaired, even, odd, free, Row, row, is_open}
use Rattle.import_rule.specs.Inner.Placed.{Placed, bare}
use Rattle.import_rule.proofs.Member.{In}

-- ---- rows and sides

abbrev pub sides_of : List Row → List Interval
sides_of [] = []
sides_of (r ∷ rs) = r.side ∷ sides_of rs

abbrev pub bares : List Placed → List Interval
bares [] = []
bares (u ∷ l) = bare u ∷ bares l

abbrev pub opened : List Placed → List Row
opened [] = []
opened (u ∷ l) = row (bare u) unpaired ∷ opened l

pub sides-++ : (l r : List Row) → sides_of (l ++ r) ≡ sides_of l ++ sides_of r
sides-++ [] r = refl
sides-++ (x ∷ l) r = ap (λ (y : List Interval). x.side ∷ y) (sides-++ l r)

pub bares-++ : (l r : List Placed) → bares (l ++ r) ≡ bares l ++ bares r
bares-++ [] r = refl
bares-++ (x ∷ l) r = ap (λ (y : List Interval). bare x ∷ y) (bares-++ l r)

pub sides_opened : (l : List Placed) → sides_of (opened l) ≡ bares l
sides_opened [] = refl
sides_opened (u ∷ l) = ap (λ (y : List Interval). bare u ∷ y) (sides_opened l)

pub in_sides : (r : Row) (rs : List Row) → In r rs → In r.side (sides_of rs)
in_sides r [] h = h
in_sides r (x ∷ rs) (inl e) = inl (ap (λ (y : Row). y.side) e)
in_sides r (x ∷ rs) (inr h) = inr (in_sides r rs h)

pub in_opened : (u : Placed) (l : List Placed) → In u l → In (row (bare u) unpaired) (opened l)
in_opened u [] h = h
in_opened u (x ∷ l) (inl e) = inl (ap (λ (y : Placed). row (bare y) unpaired) e)
in_opened u (x ∷ l) (inr h) = inr (in_opened u l h)

pub all_open : (r : Row) (l : List Placed) → In r (opened l) → is_open r.mark ≡ true
all_open r [] h = absurd h
all_open r (x ∷ l) (inl e) = ap (λ (y : Row). is_open y.mark) e
all_open r (x ∷ l) (inr h) = all_open r l h

-- the placed side of a row
pub record Owner (s : Interval) (l : List Placed) : Type 0 where
  pub side : Placed
  pub among : In side l
  pub is : s ≡ bare side

pub in_bares : (s : Interval) (l : List Placed) → In s (bares l) → Owner s l
in_bares s [] h = absurd h
in_bares s (u ∷ l) (inl e) = record { side = u; among = inl refl; is = e }
in_bares s (u ∷ l) (inr h) = let k = in_bares s l h in record { side = k.side; among = inr k.among; is = k.is }

pub open_is : (m : Mark) → is_open m ≡ true → m ≡ unpaired
open_is unpaired e = refl
open_is even e = clash e refl
open_is odd e = clash e refl
open_is (free x) e = clash e refl
