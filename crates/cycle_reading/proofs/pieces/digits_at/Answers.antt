use mathlib.Core.Path.{◌≡◌, sym, ◌∙◌, ap}
use Prim.Native.Nat.{◌+◌, min}
use native.Mathlib.Omega.{arith}
use lib.ListN.{length, drop}
use Rattle.cycle_notation.specs.Piece.{run_value}
use Rattle.cycle_reading.proofs.Left.{digits_more, value_more, digits_stop, value_stop, digits_end, value_end}
use Rattle.cycle_reading.proofs.pieces.digits_at.Goals as goal

pub loop-i-preserved : goal.loop-i-preserved
loop-i-preserved c = let t = c.args.text.now in
    let l = c.loop-i in
    let e = sym c.digit.ensures ∙ c.if-not-digit.false in record {
      low = omega (arith, c.pushed-value.ensures);
      run = l.invariant.run ∙ digits_more t l.i (omega arith) e;
      said = l.invariant.said ∙ value_more t l.i (omega arith) l.value e
          ∙ ap (λ k. min (run_value k (drop (l.i + 1) t)) 3067) (sym c.pushed-value.ensures);
    }

pub returns-then-not-digit : goal.returns-then-not-digit
returns-then-not-digit c = let t = c.args.text.now in
    let l = c.loop-i in
    let e = sym c.digit.ensures ∙ c.if-not-digit.true in record {
      to_is = omega (arith, l.invariant.run, digits_stop t l.i (omega arith) e);
      value_is = omega (arith, l.invariant.said, value_stop t l.i (omega arith) l.value e);
    }

pub returns : goal.returns
returns c = let t = c.args.text.now in
    let l = c.loop-i in
    let e : l.i ≡ length t = omega arith in
    let q = rw e at l.invariant.run in
    let v = rw e at l.invariant.said in record {
      to_is = omega (arith, q, digits_end t);
      value_is = omega (arith, v, value_end t l.value);
    }
