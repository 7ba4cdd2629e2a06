-- `exchange_numbers`: the numbers behind v are the symbol's table, and the last two the labels (`enough_lines`). Assumes nothing.
use mathlib.Core.Path.{◌≡◌, ap, ◌∙◌}
use Prim.Native.Nat.{ℕ, ◌+◌, ◌-◌}
use native.Mathlib.Omega.{arith}
use lib.ListN.{length, take, drop}
use Rattle.matrix.specs.Matrix.{nth}
use Rattle.matrix.proofs.Bounds.{kept}
use Rattle.decimal.proofs.Placing.{puts_as}
use Rattle.symbol_texts.proofs.ExchangePrinting.{asked_as, few_lines, enough_lines}
use Rattle.symbol_texts.proofs.exchange_text.exchange_numbers.Goals as goal

pub returns-then-k-lt4 : goal.returns-then-k-lt4
returns-then-k-lt4 c =
    let s = c in
    let ns = s.args.ns.now in
    let h = c.if-k-lt4.true in
    puts_as (few_lines ns h) c.refusal_line.ensures

pub returns : goal.returns
returns c =
    let l = c in
    let a3 = l in
    let a2 = a3 in
    let vc = a2 in
    let i = vc in
    let s = i in
    let ns = s.args.ns.now in
    let k = length ns in
    let h = i.if-k-lt4.false in
    let e = rw (kept (nth ns 0) vc.vertex_count-arg-1.given) at vc.vertex_count-v.ensures in
    let less : k - 2 - 1 ≡ k - 3 = omega arith in
    let t = ap (λ (m : ℕ). take m (drop 1 ns)) less in
    let x = kept (nth ns (k - 2)) a2.exchange_lines-arg-2-1.given in
    let y = kept (nth ns (k - 2 + 1)) a3.exchange_lines-arg-3-1.given in
    puts_as (asked_as e t x y ∙ enough_lines ns h) l.exchange_lines.ensures
