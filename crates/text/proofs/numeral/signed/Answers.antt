-- `text::signed` meets its contract: the first byte says which of the two forms the piece has, and the rest is
-- `magnitude`'s answer with its sign. Assumes nothing.
use Rattle.std.specs.Prelude.{Some}
use mathlib.Core.Path.{sym, ap, ◌∙◌}
use native.Mathlib.Omega.{arith}
use mir.Syntax.{w64}
use mir.Facts.{to_z-of_z, to_z_pos}
use Rattle.text.proofs.Numbers.{within_le, number_empty, minus_bad, minus_is, plain_bad, plain_is}
use Rattle.text.specs.Number.{natural_from}
use Rattle.text.proofs.numeral.signed.Goals as goal

pub returns-then-piece-eq0 : goal.returns-then-piece-eq0
returns-then-piece-eq0 c = sym (number_empty c.args.piece.now c.if-piece-eq0.true)

pub returns-in_err-m : goal.returns-in_err-m
returns-in_err-m c = c.from_residual.ensures
    ∙ minus_bad c.args.piece.now (omega arith) c.if-piece-eq45.true c.in_err-m.ensures

pub negative-requires : goal.negative-requires
negative-requires c = within_le 9223372036854775808 _ c.in_ok-m.m c.in_ok-m.ensures

pub returns-then-piece-eq45 : goal.returns-then-piece-eq45
returns-then-piece-eq45 c =
    ap Some
    (to_z-of_z {w = w64} {z = c.negative.result} (record { sfits = c.negative.type_inv }) ∙ c.negative.ensures)
    ∙ minus_is c.args.piece.now (omega arith) c.if-piece-eq45.true c.in_ok-m.m c.in_ok-m.ensures

pub returns-in_err-m-2 : goal.returns-in_err-m-2
returns-in_err-m-2 c = c.from_residual-in_err-m-2.ensures
    ∙ plain_bad c.args.piece.now (omega arith) c.if-piece-eq45.false c.in_err-m-2.ensures

pub overflow_cast-result : goal.overflow_cast-result
overflow_cast-result c = record {
  sfits = omega (
    arith,
    within_le 9223372036854775807 (natural_from c.args.piece.now) c.in_ok-m-2.m c.in_ok-m-2.ensures,
  );
}

pub returns : goal.returns
returns c = let p = c.args.piece.now in
    let m = c.in_ok-m-2.m in
    let e = c.in_ok-m-2.ensures in
    ap Some (to_z_pos w64 (omega (arith, within_le 9223372036854775807 (natural_from p) m e)))
    ∙ plain_is p (omega arith) c.if-piece-eq45.false m e
