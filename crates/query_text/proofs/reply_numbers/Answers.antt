-- `reply_numbers` meets its contract: the numbers behind v are the symbol's table, and then A and B. Assumes nothing.
use mathlib.Core.Path.{◌≡◌, ap, ◌∙◌}
use Prim.Native.Nat.{ℕ, ◌-◌}
use native.Mathlib.Omega.{arith}
use lib.ListN.{length, take, drop}
use mir.Syntax.{w64}
use mir.Facts.{to_z-of_z}
use Rattle.matrix.specs.Matrix.{nth}
use Rattle.decimal.proofs.Placing.{puts_as}
use Rattle.query_text.specs.Inner.Spaces.{replied}
use Rattle.query_text.proofs.Replied.{asked_as, few_line, enough_line}
use Rattle.query_text.proofs.reply_numbers.Goals as goal

pub returns-then-k-lt10 : goal.returns-then-k-lt10
returns-then-k-lt10 c =
    let s = c in
    let ns = s.args.ns.now in
    let h = c.if-k-lt10.true in
    puts_as (few_line ns h) c.refusal_line.ensures

pub reply_pair-requires : goal.reply_pair-requires
reply_pair-requires c = c.requires

pub returns : goal.returns
returns c =
    let earlier = c in
    let b = c in
    let a = earlier in
    let n = earlier in
    let s = earlier in
    let ns = s.args.ns.now in
    let p = c.reply_pair.ensures in
    let h = earlier.if-k-lt10.false in
    let e = rw (to_z-of_z {w = w64} {z = nth ns 0} (record { sfits = n.vertex_count-arg-1.given })) at n.vertex_count-v.ensures in
    let less : length ns - 8 - 1 ≡ length ns - 9 = omega arith in
    let t = ap (λ (m : ℕ). take m (drop 1 ns)) less in
    let x = a.four_at-a.ensures in
    let y = b.four_at-b.ensures in
    puts_as (asked_as replied e t x y ∙ enough_line ns h) p
