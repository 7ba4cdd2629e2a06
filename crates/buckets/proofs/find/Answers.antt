use Prim.Native.Nat.{ℕ}
use native.Mathlib.Omega.{arith}
use Rattle.buckets.specs.Inner.Pairs.{bucket_of, SeekPair}
use Rattle.buckets.proofs.Chain.{search_found, search_falls, search_next, search_end, search_low}
use Rattle.buckets.proofs.find.Goals as goal

pub returns-then-same_pair : goal.returns-then-same_pair
returns-then-same_pair c =
    λ count a.
    let z = c.loop-p.invariant.1 count a in
    (omega (arith, z.low), search_found (omega arith) z c.same_pair.ensures c.if-same_pair.true)

pub loop-p-smaller : goal.loop-p-smaller
loop-p-smaller c =
    let asked = c.requires in
    search_falls asked.seek (omega arith) (c.loop-p.invariant.1 asked.count asked.seek) c.from-p-in-loop-p.ensures

pub loop-p-preserved : goal.loop-p-preserved
loop-p-preserved c =
    let asked = c.requires in
    let next = λ (count : ℕ) (a : SeekPair (bucket_of c.args.m) c.args.w.now c.args.b c.args.x c.args.y count).
    search_next a (omega arith) (c.loop-p.invariant.1 count a) c.same_pair.ensures c.if-same_pair.false
    c.from-p-in-loop-p.ensures in
    (search_low asked.seek (next asked.count asked.seek), next)

pub returns : goal.returns
returns c = λ count a. search_end (omega arith) (c.loop-p.invariant.1 count a)
