-- `buckets::bucket` meets its contract: the product and the sum fit, and the rest is below 4,096. Assumes nothing.
use mathlib.Core.Path.{refl}
use native.Mathlib.Omega.{arith}
use native.Mathlib.Nat.{mod-lt}
use Rattle.buckets.specs.Inner.Pairs.{bucket_of}
use Rattle.buckets.proofs.bucket.Goals as goal

pub returns : goal.returns
unfolding bucket_of
returns c = (rw (c.from.ensures, c.from-2.ensures) refl, mod-lt _ (omega arith))
