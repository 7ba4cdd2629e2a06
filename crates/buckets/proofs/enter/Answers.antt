-- `buckets::enter` meets its contract: the pair is found, or it is new and gets the place behind the last. Assumes nothing.
use native.Mathlib.Omega.{arith}
use Rattle.buckets.proofs.Entered.{seeks, entered_old, entered_new}
use Rattle.buckets.proofs.enter.Goals as goal

pub returns-in-Some : goal.returns-in-Some
returns-in-Some c =
    let bucket = c.bucket-b.ensures in
    let found = c.in-Some.ensures c.args.count (seeks c.requires bucket.0 bucket.1) in
    entered_old c.requires bucket.0 bucket.1 found.1 found.0

pub returns : goal.returns
returns c =
    let bucket = c.bucket-b.ensures in
    let none = c.in_default.ensures c.args.count (seeks c.requires bucket.0 bucket.1) in
    entered_new c.requires bucket.0 bucket.1 none (omega arith) c.push.ensures
