-- `start_position` is the position under the chord from -1/0 to 0/1 where the walk starts turned round (`start_turned`), and else the one
-- beyond that chord (`start_upright`). Assumes nothing.
use mathlib.Core.Path.{sym, ◌∙◌, ap}
use Prim.Native.Nat.{ℕ, ◌+◌}
use native.Mathlib.Omega.{arith}
use lib.ListN.{get_or}
use Rattle.polygon.specs.Cut.{under_zero}
use Rattle.polygon.specs.Inner.Space.{FLIP}
use Rattle.polygon.proofs.Stepping.{start_turned, start_upright, under_low, flip_read}
use Rattle.polygon.proofs.walking.start_position.Goals as goal

pub returns-then-is_turned : goal.returns-then-is_turned
returns-then-is_turned c =
    let s = c in
    s.requires.1 ∙ sym (start_turned s.args.v s.args.t.now (sym c.is_turned.ensures ∙ c.if-is_turned.true))

pub beyond-requires : goal.beyond-requires
beyond-requires c =
    let s = c in
    (omega (arith, s.requires.1, s.requires.0.symbol.most, under_low s.args.v s.args.t.now s.requires.0.symbol), s.requires.0.long)

pub returns : goal.returns
returns c = let s = c in
    c.beyond.ensures
    ∙ ap (λ (k : ℕ). get_or s.args.w.now (FLIP + k) 0) s.requires.1
    ∙ flip_read s.args.t.now s.args.v s.args.w.now s.requires.0 (under_zero s.args.v s.args.t.now)
    (under_low s.args.v s.args.t.now s.requires.0.symbol)
    ∙ sym (start_upright s.args.v s.args.t.now (sym c.is_turned.ensures ∙ c.if-is_turned.false))
