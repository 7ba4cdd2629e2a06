-- `buckets::find` meets its contract. The loop's invariant, for each list held: p - 1 is in the bucket b, and the pair is
-- none from p on. No place is past the tables. The measure is p. Assumes nothing.
use Prim.Native.Nat.{ℕ, ◌≤◌}
use Rattle.buckets.specs.Inner.Pairs.{bucket_of, SeekPair}
use Rattle.buckets.proofs.Chain.{Searching}
use Rattle.buckets.proofs.find.Given as goal

abbrev pub invariant-loop-p : goal.invariant-loop-p
invariant-loop-p l =
    (l.p ≤ 4096)
    × ((count : ℕ) → SeekPair (bucket_of l.m) l.w l.b l.x l.y count → Searching (bucket_of l.m) l.w count l.b l.x l.y l.p)

abbrev pub decreases-loop-p : goal.decreases-loop-p
decreases-loop-p l = l.p
