use mathlib.Core.Path.{◌≡◌, sym, ◌∙◌, ap}
use Prim.Native.Nat.{◌+◌, ◌-◌, ◌≤◌}
use native.Mathlib.Omega.{arith}
use native.Mathlib.Numerals.{add-one}
use borrow.Author.Rules.{rules}
use mir.Syntax.{w64}
use mir.Val.{to_z, of_z}
use mir.Facts.{to_z-of_z}
use lib.IntN.{ℤ}
use Rattle.basics.specs.Count.{first}
use Rattle.basics.proofs.Count.{Clear, clear_zero, clear_more, clear_less, first_clear, first_hit}
use Rattle.partner_exchange.specs.Inner.Ready.{label_test}
use Rattle.partner_exchange.proofs.find_side.Goals as goal

pub loop-k-init : goal.loop-k-init
loop-k-init c = (clear_zero (label_test c.args.p.now (to_z w64 (of_z w64 c.args.x)) c.args.skip), omega arith)

pub returns-then-has_label : goal.returns-then-has_label
returns-then-has_label c =
    let l = c in
    let s = l in
    sym (first_hit (label_test s.args.p.now (to_z w64 (of_z w64 s.args.x)) s.args.skip) l.loop-k.k (s.args.v + 1) (omega arith) l.loop-k.invariant.0
    (sym c.has_label.ensures ∙ c.if-has_label.true))
    ∙ ap (λ (z : ℤ). first (label_test s.args.p.now z s.args.skip) (s.args.v + 1)) (to_z-of_z s.ranges.x)

pub loop-k-preserved : goal.loop-k-preserved
loop-k-preserved c =
    let l = c in
    let s = l in (
      rw add-one (clear_more (label_test s.args.p.now (to_z w64 (of_z w64 s.args.x)) s.args.skip) l.loop-k.k l.loop-k.invariant.0
          (sym c.has_label.ensures ∙ c.if-has_label.false)),
      omega arith,
    )

pub returns : goal.returns
returns c =
    let l = c in
    let s = l in
    let test = label_test s.args.p.now (to_z w64 (of_z w64 s.args.x)) s.args.skip in
    sym (first_clear test (s.args.v + 1) (clear_less test (s.args.v + 1) l.loop-k.k (omega arith) l.loop-k.invariant.0))
    ∙ ap (λ (z : ℤ). first (label_test s.args.p.now z s.args.skip) (s.args.v + 1)) (to_z-of_z s.ranges.x)
