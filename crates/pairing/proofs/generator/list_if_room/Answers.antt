-- `list_if_room` lists the generators where they fit. Why: the sides counted are the leading ones (`prepared_count`), and each gives a row
-- of five numbers. Assumes nothing.
use Rattle.std.specs.Prelude.{Ok}
use mathlib.Core.Path.{◌≡◌, refl, sym, ◌∙◌, ap}
use mathlib.Core.List.{[], ◌++◌}
use Prim.Native.Nat.{ℕ, ◌+◌, ◌*◌}
use native.Mathlib.Omega.{arith}
use lib.ListN.{length, drop}
use Rattle.pairing.specs.Generator.{is_leader_in, is_leader, leaders, generator_table}
use Rattle.call.proofs.Laws.{run_end, run_write, short_write, fills_as}
use Rattle.basics.proofs.Count.{count_le, length_those}
use Rattle.pairing.proofs.Rows.{prepared_count, length_rows}
use Rattle.pairing.proofs.generator.list_if_room.Goals.{After-count_leaders-n}
use Rattle.pairing.proofs.generator.list_if_room.Goals as goal

-- what was counted are the generators
number : (c : After-count_leaders-n) → c.count_leaders-n.result ≡ length (leaders c.args.v c.args.t.now)
number c = c.count_leaders-n.ensures ∙ prepared_count _ _ _ _ c.requires

pub overflow_mul-needed : goal.overflow_mul-needed
overflow_mul-needed c =
    omega (arith, c.count_leaders-n.ensures, count_le (is_leader_in c.args.v c.args.p.now) (c.args.v + 1), c.requires.symbol.most)

-- each has a row of five numbers
rows_long : (c : After-count_leaders-n) → length (generator_table c.args.v c.args.t.now) ≡ 5 * c.count_leaders-n.result
rows_long c = length_rows c.args.v c.args.t.now (leaders c.args.v c.args.t.now) ∙ ap (λ (k : ℕ). 5 * k) (sym (number c))

pub returns-then-out-needed : goal.returns-then-out-needed
returns-then-out-needed c =
    let long = rows_long (goal.at.returns-then-out-needed c).After-count_leaders-n in
    fills_as (short_write (generator_table c.args.v c.args.t.now) c.args.out.now (5 * c.count_leaders-n.result) long [] c.if-out-needed.true tt) refl

pub returns : goal.returns
returns c =
    let v = c.args.v in
    let t = c.args.t.now in
    let out = c.args.out.now in
    let counted = (goal.at.returns c).After-count_leaders-n in
    fills_as
    (run_write (generator_table v t) out (5 * c.count_leaders-n.result) (rows_long counted) [] _ c.if-out-needed.false
    (c.list_all.ensures ∙ ap (λ (k : ℕ). generator_table v t ++ drop (5 * k) out) (sym (length_those (is_leader v t) (v + 1)) ∙ sym (number counted))) run_end)
    (ap Ok (number counted))
