-- `fill` has two ways out: a line table that is too short, and the answers for all pairs. Assumes nothing.
use mathlib.Core.Path.{refl, ◌∙◌, ap}
use Prim.Native.Nat.{ℕ, ◌*◌}
use native.Mathlib.Omega.{arith}
use mathlib.Core.List.{◌++◌}
use lib.ListN.{length, drop}
use Rattle.call.specs.Space.{zeros}
use Rattle.call.proofs.Laws.{fills_as}
use Rattle.walk_runs.proofs.Tallying.{fresh_rounds}
use Rattle.sheets.specs.Sheet.{pairs_in, space_at, lines_to}
use Rattle.sheets.proofs.Whole.{no_room, in_room}
use Rattle.sheets.proofs.fill.Goals as goal

pub returns-then-lines-n : goal.returns-then-lines-n
returns-then-lines-n c =
    let s = c in
    let g = s.args in record { fills = fills_as (no_room g.v g.t.now g.p.now (length g.w.now) g.lines.now g.out.now c.if-lines-n.true) refl; w_after = c.clear.ensures }

pub answer_pairs-requires : goal.answer_pairs-requires
answer_pairs-requires c =
    let b = c in
    let s = b in (
      b.build-home.ensures.built_steps,
      record { symbol = s.requires.symbol; count = s.requires.count; work = b.build-home.ensures.built_steps.prepared.tables.long },
      omega (arith, b.if-lines-n.false),
      fresh_rounds s.args.v s.args.t.now 20481 refl,
    )

pub returns : goal.returns
returns c =
    let a = c in
    let b = a in
    let s = b in
    let g = s.args in
    let n = pairs_in g.p.now in
    let kept = b.build-home.ensures.w_len_unchanged in record {
      fills = fills_as
          (in_room g.v g.t.now g.p.now (length g.w.now) g.lines.now g.out.now _ _ b.if-lines-n.false
          (a.answer_pairs.ensures.lines_after ∙ ap (λ (k : ℕ). lines_to g.v g.t.now g.p.now k g.out.now n ++ drop (4 * n) g.lines.now) kept)
          (a.answer_pairs.ensures.out_after ∙ ap (λ (k : ℕ). (space_at g.v g.t.now g.p.now k g.out.now n).letters) kept)) refl;
      w_after = c.clear-2.ensures ∙ ap zeros kept;
    }
