-- `fill_tables` meets its contract: the two tables are filled in; an index alone leaves all as it was. Assumes nothing.
use native.Mathlib.Omega.{arith}
use Prim.Native.Nat.{◌+◌, ◌-◌, ◌/◌}
use lib.ListN.{length}
use Rattle.call.specs.declared.refusal.Refusal.TheVariants.{PointCount}
use Rattle.symbol_texts.specs.ImportAnswer.{points_from}
use Rattle.symbol_texts.proofs.ImportAnswering.{few_numbers, enough_numbers, tables_none, tables_some, tables_as}
use Rattle.symbol_texts.proofs.ImportEntries.{table_length_lem, part_filled, filled_take}
use Rattle.symbol_texts.proofs.import_text.fill_tables.Goals as goal

pub returns-then-k-lt3 : goal.returns-then-k-lt3
returns-then-k-lt3 c =
    let s = c in
    tables_as (few_numbers s.args.numbers.now c.if-k-lt3.true) (tables_none PointCount s.args.s.now s.args.r.now)

pub returns : goal.returns
returns c =
    let b = c in
    let a = b in
    let d = a in
    let s = d in
    let ns = s.args.numbers.now in
    let n = (length ns - 1) / 2 in
    let first = part_filled 1 (n + 1 - 1) n ns s.args.s.now a.fill_points.new.out (omega arith) a.fill_points.ensures in
    let second = part_filled (n + 1) (n + 1 + n - (n + 1)) n ns s.args.r.now b.fill_points-2.new.out (omega arith) b.fill_points-2.ensures in
    let S = filled_take 1 n ns s.args.s.now a.fill_points.new.out first (omega (arith, d.if-k-lt3.false)) in
    let R = filled_take (n + 1) n ns s.args.r.now b.fill_points-2.new.out second (omega (arith, d.if-k-lt3.false)) in
    tables_as (enough_numbers ns d.if-k-lt3.false)
    (tables_some n (points_from 1 n ns) (points_from (n + 1) n ns) s.args.s.now s.args.r.now a.fill_points.new.out b.fill_points-2.new.out
    (table_length_lem 1 n ns (omega (arith, d.if-k-lt3.false))) (omega (arith, s.requires.1)) first second S R)
