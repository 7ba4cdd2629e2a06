use mathlib.Core.Path.{◌≡◌, sym, ap, ◌∙◌}
use native.Mathlib.Omega.{arith}
use lib.ListN.{length, get_or}
use Rattle.text.specs.Number.{within}
use Rattle.text.proofs.Numbers.{digits_bad, digits_more, digits_end, natural_onward, push_within, natural_empty}
use Rattle.text.proofs.numeral.magnitude.Goals as goal

pub returns-then-digits-eq0 : goal.returns-then-digits-eq0
returns-then-digits-eq0 c = sym (natural_empty c.args.most c.args.digits.now c.if-digits-eq0.true)

pub loop-digit-init : goal.loop-digit-init
loop-digit-init c = record {
  bounded = omega arith;
  same = ap (within c.args.most) (natural_onward c.args.digits.now (omega arith));
}

pub returns-in_err-m : goal.returns-in_err-m
returns-in_err-m c = let l = c.loop-digit in
    c.from_residual.ensures
    ∙ sym (l.invariant.same
    ∙ digits_bad c.args.most l.m c.args.digits.now l.digit-index c.loop-digit-test.true c.in_err-m.ensures)

pub loop-digit-preserved : goal.loop-digit-preserved
loop-digit-preserved c = let a = c.args in
    let l = c.loop-digit in
    record {
      bounded = push_within a.most l.m (get_or a.digits.now l.digit-index 0) c.in_ok-m.m (sym c.in_ok-m.ensures);
      same = l.invariant.same
          ∙ digits_more a.most l.m a.digits.now l.digit-index c.loop-digit-test.true c.in_ok-m.m c.in_ok-m.ensures;
    }

pub returns : goal.returns
returns c = let t = c.args.digits.now in
    let e : c.loop-digit.digit-index ≡ length t = omega arith in
    let q = rw e at c.loop-digit.invariant.same in
    sym (q ∙ digits_end c.args.most c.loop-digit.m t c.loop-digit.invariant.bounded)
