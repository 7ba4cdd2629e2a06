-- `fill` has two ways out: a line table that is too short, and the answers for all pairs. Assumes nothing.
use mathlib.Core.Path.{refl, ◌∙◌, ap}
use mathlib.Core.List.{◌++◌}
use Prim.Native.Nat.{ℕ, ◌*◌}
use native.Mathlib.Omega.{arith}
use lib.ListN.{length, drop}
use Rattle.call.specs.Space.{zeros}
use Rattle.call.proofs.Laws.{fills_as}
use Rattle.sheets.specs.Sheet.{pairs_in}
use Rattle.same_coset.specs.Pairs.{coset_lines}
use Rattle.same_coset.proofs.Whole.{no_room, in_room}
use Rattle.same_coset.proofs.pairs.fill.Goals as goal

pub returns-then-lines-k : goal.returns-then-lines-k
returns-then-lines-k c =
    let g = c.args in record { fills = fills_as (no_room g.v g.t.now g.p.now (length g.w.now) g.lines.now c.if-lines-k.true) refl; w_after = c.clear.ensures }

pub prepare-n-requires : goal.prepare-n-requires
prepare-n-requires c = let s = c in (s.requires.symbol, s.requires.work)

pub answer_pairs-requires : goal.answer_pairs-requires
answer_pairs-requires c =
    let g = c.prepare-n.ensures in
    (g.prepared, omega (arith, c.if-lines-k.false))

pub returns : goal.returns
returns c =
    let a = c.answer_pairs.ensures in
    let g = c.prepare-n.ensures in
    let s = c in
    let v = s.args.v in
    let t = s.args.t.now in
    let p = s.args.p.now in
    let n = pairs_in p in record {
      fills = fills_as
          (in_room v t p (length s.args.w.now) s.args.lines.now _
          c.if-lines-k.false
          (a v t s.args.w.now s.requires.symbol g ∙ ap (λ (k : ℕ). coset_lines v t p k n ++ drop (2 * n) s.args.lines.now) g.same)) refl;
      w_after = c.clear-2.ensures ∙ ap zeros g.same;
    }
