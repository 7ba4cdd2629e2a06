use mathlib.Core.Path.{◌≡◌, refl, ap, ◌∙◌}
use native.Mathlib.Omega.{arith}
use Prim.Native.Nat.{ℕ, ◌+◌, ◌-◌, ◌*◌}
use Rattle.decimal.proofs.Placing.{puts_as, puts_none, puts_then, puts_same}
use Rattle.listing_text.specs.Listing.{generator_lines}
use Rattle.listing_text.proofs.Listed.{lines_more}
use Rattle.listing_text.proofs.lines.generator_lines.Goals as goal

pub loop-i-init : goal.loop-i-init
unfolding generator_lines
loop-i-init c = record { puts = puts_none c.args.at c.args.out.now; most = omega arith; same = refl }

pub loop-i-preserved : goal.loop-i-preserved
loop-i-preserved c =
    let q = c.loop-i in
    let e = c.generator_line-end.ensures in
    let same = puts_same e.0 (omega (arith, e.0.end_is, e.1, q.invariant.most, q.invariant.same)) in
    record {
      puts = puts_as (lines_more q.i (5 * q.i + 5 - 5 * q.i) c.args.table.now (omega arith))
          (puts_then q.invariant.puts e.0 (omega arith));
      most = omega (arith, e.1, q.invariant.most);
      same = same ∙ q.invariant.same;
    }

pub returns : goal.returns
returns c =
    let q = c.loop-i in
    let all : q.i ≡ c.args.n = omega arith in
    (puts_as (ap (λ (i : ℕ). generator_lines i c.args.table.now) all) q.invariant.puts, omega arith)
