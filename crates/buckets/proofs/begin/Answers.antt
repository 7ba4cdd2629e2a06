-- `buckets::begin` meets its contract: the heads of the chains are a part of zeros. Assumes nothing.
use native.Mathlib.Omega.{arith}
use borrow.Author.Rules.{rules}
use Rattle.std.proofs.lemmas.List.{places}
use Rattle.buckets.proofs.Chain.{begun_filled}
use Rattle.buckets.proofs.begin.Goals as goal

pub returns : goal.returns
returns c = begun_filled c.requires (omega arith) (c.fill.ensures.after (λ y e. search rules)) (search (rules, places))
