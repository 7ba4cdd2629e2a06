-- A test as a fact, and one of two values by a test.
--
--   IsTrue test      the test passes, as a fact
--   pick test x y    x where the test passes, else y
use Rattle.std.specs.Prelude.{Bool, true, false}
use Rattle.std.proofs.Math.Dec as tests

abbrev pub IsTrue : Bool → Type 0
IsTrue test = tests.T test

abbrev pub pick : {A : Type 0} → Bool → A → A → A
pick true x y = x
pick false x y = y
