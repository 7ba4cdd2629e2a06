-- `ready` tells whether the top of the stack is the mediant of its neighbours: its denominator is the sum of theirs (`ready_at`). On an
-- empty stack there is none (`ready_none`). Assumes nothing.
use mathlib.Core.Path.{sym}
use Prim.Native.Nat.{◌-◌}
use native.Mathlib.Omega.{arith}
use Rattle.polygon.proofs.Scanning.{ready_at, ready_none, below_low}
use Rattle.polygon.proofs.cutting.ready.Goals as goal

pub returns-then-n-eq0 : goal.returns-then-n-eq0
returns-then-n-eq0 c = let s = c in sym (ready_none s.args.t.now s.args.w.now s.args.n s.args.y c.if-n-eq0.true)

pub denominator-da-requires : goal.denominator-da-requires
denominator-da-requires c =
    let s = c in
    (s.requires.0, omega (arith, c.top_cell-a.ensures.vertex, below_low s.args.v s.args.w.now s.args.n s.args.n s.requires.1 (omega arith)))

pub denominator-db-requires : goal.denominator-db-requires
denominator-db-requires c =
    let s = c in (
      s.requires.0,
      omega (
        arith,
        c.top_cell-b.ensures.vertex,
        below_low s.args.v s.args.w.now s.args.n (s.args.n - 1) s.requires.1 (omega arith),
      ),
    )

pub returns : goal.returns
returns c = let s = c in
    rw (
      ready_at s.args.t.now s.args.w.now s.args.n s.args.y
          c.if-n-eq0.false,
      c.denominator-da.ensures.0,
      c.denominator-db.ensures.0,
      c.denominator-dy.ensures.0,
      c.top_cell-a.ensures.vertex,
      c.top_cell-b.ensures.vertex,
    )
