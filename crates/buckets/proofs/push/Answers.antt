-- `buckets::push` meets its contract: four stores, each inside the work space. Assumes nothing.
use mathlib.Core.Path.{refl}
use Rattle.buckets.specs.Inner.Pairs.{with_pair}
use Rattle.buckets.proofs.push.Goals as goal

pub returns : goal.returns
unfolding with_pair
returns c = refl
