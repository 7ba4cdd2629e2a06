-- A REFUSAL IS TOLD BY ITS NUMBER AND ITS PLACE: the numbers are from 1 (`from_one`), and two refusals with the same number
-- and the same place are the same (`told_apart`). So checks with the number and the place of a refusal are that refusal
-- (`checks_told`). Assumes nothing.
use mathlib.Core.Path.{◌≡◌, refl, sym, ap, ap₂, ◌∙◌}
use mathlib.Core.List.{List, [], ◌∷◌}
use Prim.Native.Nat.{ℕ, ◌<◌}
use native.Mathlib.Omega.{arith}
use Rattle.std.specs.Prelude.{Ok, Err, get_or, ◌-◌}
use Rattle.call.specs.Refusal.{Checked, refusal_number, refusal_place, answer_number, answer_place}
use Rattle.call.specs.declared.refusal.Refusal.{Refusal}
use Rattle.call.specs.declared.refusal.Refusal.TheVariants.{BadVertexCount, TableLength, VertexEntry}
use Rattle.call.specs.declared.refusal.Refusal.TheVariants.{NotNeighbours, NoZero, BadPairing}
use Rattle.call.specs.declared.refusal.Refusal.TheVariants.{NoOddSide, MatrixEntry, BadDeterminant}
use Rattle.call.specs.declared.refusal.Refusal.TheVariants.{NoWord, TooShort, PointCount, TableEntry}
use Rattle.call.specs.declared.refusal.Refusal.TheVariants.{WrongOrder, Unreached, EntryTooLarge}
use Rattle.call.specs.declared.refusal.Refusal.TheVariants.{LevelTooLarge, NoGenus, BadText}
use Rattle.call.specs.declared.refusal.Refusal.TheVariants.{BadLevel, LargeIndex, TooLargeToDraw}
use Rattle.call.specs.declared.refusal.Refusal.TheVariants.{NotFreeLabel, LargeIntersection}
use Rattle.call.specs.declared.refusal.Refusal.TheVariants.{NotListedBefore, FalseClaim, BadCycles}
use Rattle.call.specs.declared.refusal.Refusal.TheVariants.{LargeEntry}

pub from_one : (f : Refusal) → 0 < refusal_number f
from_one BadVertexCount = omega arith
from_one (TableLength n) = omega arith
from_one (VertexEntry n) = omega arith
from_one (NotNeighbours n) = omega arith
from_one NoZero = omega arith
from_one (BadPairing n) = omega arith
from_one NoOddSide = omega arith
from_one (MatrixEntry n) = omega arith
from_one (BadDeterminant n) = omega arith
from_one NoWord = omega arith
from_one (TooShort n) = omega arith
from_one PointCount = omega arith
from_one (TableEntry n) = omega arith
from_one (WrongOrder n) = omega arith
from_one (Unreached n) = omega arith
from_one (EntryTooLarge n) = omega arith
from_one LevelTooLarge = omega arith
from_one NoGenus = omega arith
from_one (BadText n) = omega arith
from_one BadLevel = omega arith
from_one LargeIndex = omega arith
from_one (TooLargeToDraw n) = omega arith
from_one (NotFreeLabel n) = omega arith
from_one LargeIntersection = omega arith
from_one (NotListedBefore n) = omega arith
from_one (FalseClaim n) = omega arith
from_one (BadCycles n) = omega arith
from_one (LargeEntry n) = omega arith

-- the refusals at the place p, in the order of their numbers
abbrev listed_at : ℕ → List Refusal
listed_at p =
    BadVertexCount ∷ TableLength p ∷ VertexEntry p ∷ NotNeighbours p ∷ NoZero ∷ BadPairing p ∷ NoOddSide
    ∷ MatrixEntry p ∷ BadDeterminant p ∷ NoWord ∷ TooShort p ∷ PointCount ∷ TableEntry p ∷ WrongOrder p
    ∷ Unreached p ∷ EntryTooLarge p ∷ LevelTooLarge ∷ NoGenus ∷ BadText p ∷ BadLevel ∷ LargeIndex
    ∷ TooLargeToDraw p ∷ NotFreeLabel p ∷ LargeIntersection ∷ NotListedBefore p ∷ FalseClaim p ∷ BadCycles p
    ∷ LargeEntry p ∷ []

abbrev by_both : (n p : ℕ) → Refusal
by_both n p = get_or (listed_at p) (n - 1) BadVertexCount

by_its_own : (f : Refusal) → by_both (refusal_number f) (refusal_place f) ≡ f
by_its_own BadVertexCount = refl
by_its_own (TableLength n) = refl
by_its_own (VertexEntry n) = refl
by_its_own (NotNeighbours n) = refl
by_its_own NoZero = refl
by_its_own (BadPairing n) = refl
by_its_own NoOddSide = refl
by_its_own (MatrixEntry n) = refl
by_its_own (BadDeterminant n) = refl
by_its_own NoWord = refl
by_its_own (TooShort n) = refl
by_its_own PointCount = refl
by_its_own (TableEntry n) = refl
by_its_own (WrongOrder n) = refl
by_its_own (Unreached n) = refl
by_its_own (EntryTooLarge n) = refl
by_its_own LevelTooLarge = refl
by_its_own NoGenus = refl
by_its_own (BadText n) = refl
by_its_own BadLevel = refl
by_its_own LargeIndex = refl
by_its_own (TooLargeToDraw n) = refl
by_its_own (NotFreeLabel n) = refl
by_its_own LargeIntersection = refl
by_its_own (NotListedBefore n) = refl
by_its_own (FalseClaim n) = refl
by_its_own (BadCycles n) = refl
by_its_own (LargeEntry n) = refl

pub told_apart : (f g : Refusal) → refusal_number f ≡ refusal_number g → refusal_place f ≡ refusal_place g → f ≡ g
told_apart f g n p = sym (by_its_own f) ∙ ap₂ by_both n p ∙ by_its_own g

pub checks_told : (c : Checked) (f : Refusal) → answer_number c ≡ refusal_number f → answer_place c ≡ refusal_place f → c ≡ Err f
checks_told (Ok x) f n p = let k = from_one f in absurd (omega (arith, n, k))
checks_told (Err g) f n p = ap Err (told_apart g f n p)
