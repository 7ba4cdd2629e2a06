-- Check 12 passed (`count_passed`); and what was accepted is a passport
-- (`passport_of`), and so the tables of a pair (`pair_of`).
-- Assumes nothing.
use Rattle.std.specs.Prelude.{Ok, Err}
use mathlib.Core.Path.{◌≡◌, ap}
use mathlib.Core.Bool.{Bool, true, not, ◌&&◌}
use mathlib.Core.List.{List}
use Prim.Native.Nat.{ℕ, ◌≤◌}
use lib.Dec.{leb, eqb}
use lib.ListN.{length}
use borrow.Author.Tests.{le-leb, eq-eqb}
use Rattle.call.specs.Refusal.{◌or_else◌, Checked}
use Rattle.call.specs.declared.refusal.Refusal.TheVariants.{PointCount}
use Rattle.call.proofs.Answers.{then_next}
use Rattle.basics.proofs.Choice.{pick_false}
use Rattle.permutations.specs.Pair.{Pair}
use Rattle.permutations.specs.Check.{check12, check13, check14, check15, twice_moved, thrice_moved, pair_check, Passport}
use Rattle.permutations.proofs.Accepted.{accepted, permuting_of}

-- ---- check 12

module _ (s r : List ℕ) where
  abbrev rest : Checked
  rest = check13 s or_else check13 r or_else check14 twice_moved s or_else check14 thrice_moved r or_else check15 s r

  abbrev test : Bool
  test = leb 1 (length s) && leb (length s) 3066 && eqb (length r) (length s)

  pub count_passed : 1 ≤ length s → length s ≤ 3066 → length r ≡ length s → rest ≡ pair_check s r
  count_passed a b c =
      let t : test ≡ true = rw (le-leb 1 (length s) a, le-leb (length s) 3066 b, eq-eqb (length r) (length s) c) in
      then_next (check12 s r) rest (pick_false (not test) (Err PointCount) (Ok tt) (ap not t))

-- ---- what was accepted

pub passport_of : (s r : List ℕ) → pair_check s r ≡ Ok tt → Passport s r
passport_of s r e = (accepted s r).0 e

pub pair_of : (s r : List ℕ) → Passport s r → Pair s r
pair_of s r p = record { permuting = permuting_of s r p; even = p.even; most = p.most }
