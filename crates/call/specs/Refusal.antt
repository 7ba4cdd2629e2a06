-- THE REFUSALS (docs/CONVENTIONS.md, 9): each has a number and a place. The list itself, with what each refusal says
-- and what its place is, stands in src/refusal.rt; the promises of all calls, the lines of the programs and the numbers
-- that the exported functions return are made from it.
--
--   refusal_number f, refusal_place f   the number of a refusal and its place
--   Answer A           an answer: of the kind A, or a refusal
--   Checked            the answer of checks: that they accept, or a refusal
--   Filled             the answer of a call that fills a result space: how many things it made, or its refusal
--   Decision           the answer of a call that decides: yes, no, or why neither can be said
--   answer_number a, answer_place a     what an answer tells of refusals: 0 and 0 where it is none
--   outcome a          what an answer says of refusals alone
--   c or_else d        the first refusal of the two
use Rattle.std.specs.Prelude.{ℕ, Bool, Result, Ok, Err}
use Rattle.call.specs.declared.refusal.Refusal.{Refusal}
use Rattle.call.specs.declared.refusal.Refusal.TheVariants.{BadVertexCount, TableLength, VertexEntry}
use Rattle.call.specs.declared.refusal.Refusal.TheVariants.{NotNeighbours, NoZero, BadPairing, NoOddSide}
use Rattle.call.specs.declared.refusal.Refusal.TheVariants.{MatrixEntry, BadDeterminant, NoWord, TooShort}
use Rattle.call.specs.declared.refusal.Refusal.TheVariants.{PointCount, TableEntry, WrongOrder, Unreached}
use Rattle.call.specs.declared.refusal.Refusal.TheVariants.{EntryTooLarge, LevelTooLarge, NoGenus, BadText}
use Rattle.call.specs.declared.refusal.Refusal.TheVariants.{BadLevel, LargeIndex, TooLargeToDraw, NotFreeLabel}
use Rattle.call.specs.declared.refusal.Refusal.TheVariants.{LargeIntersection, NotListedBefore, FalseClaim}
use Rattle.call.specs.declared.refusal.Refusal.TheVariants.{BadCycles, LargeEntry}

abbrev pub refusal_number : Refusal → ℕ
refusal_number BadVertexCount = 1
refusal_number (TableLength n) = 2
refusal_number (VertexEntry n) = 3
refusal_number (NotNeighbours n) = 4
refusal_number NoZero = 5
refusal_number (BadPairing n) = 6
refusal_number NoOddSide = 7
refusal_number (MatrixEntry n) = 8
refusal_number (BadDeterminant n) = 9
refusal_number NoWord = 10
refusal_number (TooShort n) = 11
refusal_number PointCount = 12
refusal_number (TableEntry n) = 13
refusal_number (WrongOrder n) = 14
refusal_number (Unreached n) = 15
refusal_number (EntryTooLarge n) = 16
refusal_number LevelTooLarge = 17
refusal_number NoGenus = 18
refusal_number (BadText n) = 19
refusal_number BadLevel = 20
refusal_number LargeIndex = 21
refusal_number (TooLargeToDraw n) = 22
refusal_number (NotFreeLabel n) = 23
refusal_number LargeIntersection = 24
refusal_number (NotListedBefore n) = 25
refusal_number (FalseClaim n) = 26
refusal_number (BadCycles n) = 27
refusal_number (LargeEntry n) = 28

abbrev pub refusal_place : Refusal → ℕ
refusal_place BadVertexCount = 0
refusal_place (TableLength n) = n
refusal_place (VertexEntry n) = n
refusal_place (NotNeighbours n) = n
refusal_place NoZero = 0
refusal_place (BadPairing n) = n
refusal_place NoOddSide = 0
refusal_place (MatrixEntry n) = n
refusal_place (BadDeterminant n) = n
refusal_place NoWord = 0
refusal_place (TooShort n) = n
refusal_place PointCount = 0
refusal_place (TableEntry n) = n
refusal_place (WrongOrder n) = n
refusal_place (Unreached n) = n
refusal_place (EntryTooLarge n) = n
refusal_place LevelTooLarge = 0
refusal_place NoGenus = 0
refusal_place (BadText n) = n
refusal_place BadLevel = 0
refusal_place LargeIndex = 0
refusal_place (TooLargeToDraw n) = n
refusal_place (NotFreeLabel n) = n
refusal_place LargeIntersection = 0
refusal_place (NotListedBefore n) = n
refusal_place (FalseClaim n) = n
refusal_place (BadCycles n) = n
refusal_place (LargeEntry n) = n

-- ---- answers

abbrev pub Answer : Type 0 → Type 0
Answer A = Result A Refusal

abbrev pub Checked : Type 0
Checked = Answer (Unit {0})

abbrev pub Filled : Type 0
Filled = Answer ℕ

abbrev pub Decision : Type 0
Decision = Answer Bool

abbrev pub answer_number : {A : Type 0} → Answer A → ℕ
answer_number (Ok x) = 0
answer_number (Err f) = refusal_number f

abbrev pub answer_place : {A : Type 0} → Answer A → ℕ
answer_place (Ok x) = 0
answer_place (Err f) = refusal_place f

abbrev pub outcome : {A : Type 0} → Answer A → Checked
outcome (Ok x) = Ok tt
outcome (Err f) = Err f

infixr 5 ◌or_else◌
abbrev pub ◌or_else◌ : Checked → Checked → Checked
Err f or_else c = Err f
Ok tt or_else c = c
