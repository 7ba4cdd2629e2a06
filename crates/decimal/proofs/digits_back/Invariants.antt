-- `decimal::digits_back` meets its contract: the digits of `rest` in front of what stands from `at` on are those of m.
-- The bound on `rest` keeps `at` from 1 on, which leaves a place for a minus. Assumes nothing.
use mathlib.Core.Path.{◌≡◌}
use mathlib.Core.List.{[]}
use Prim.Native.Nat.{◌≤◌, ◌<◌, ◌-◌, ◌^◌}
use lib.ListN.{length, drop}
use Rattle.decimal.proofs.Decimals.{in_front}
use Rattle.decimal.proofs.digits_back.Given as goal

abbrev pub invariant-loop-rest : goal.invariant-loop-rest
invariant-loop-rest l = (in_front l.m [] ≡ in_front l.rest (drop l.at l.buffer)) × (2 ≤ l.at) × (l.at ≤ 21) × (l.rest < 10 ^ (l.at - 1))
    × (length l.buffer ≡ 21)

abbrev pub decreases-loop-rest : goal.decreases-loop-rest
decreases-loop-rest l = l.rest
