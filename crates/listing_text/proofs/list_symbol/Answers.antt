-- `list_symbol` meets its contract: each answer of `generators` has its lines. Assumes nothing.
use mathlib.Core.Path.{sym}
use mathlib.Core.List.{List}
use native.Mathlib.Omega.{arith}
use Prim.Native.Nat.{ℕ, ◌*◌}
use lib.IntN.{ℤ}
use lib.ListN.{take}
use lib.Seq.{length-take-le}
use Rattle.decimal.proofs.Placing.{puts_as}
use Rattle.listing_text.proofs.Gathered.{Gathered, gathered, ungathered}
use Rattle.listing_text.proofs.Listed.{listed_refused, listed_accepted}
use Rattle.listing_text.proofs.list_symbol.Goals.{After-generators, In-Ok, Start}
use Rattle.listing_text.proofs.list_symbol.Goals as goal

-- the symbol was accepted
module _ (d : In-Ok) where
  abbrev f : After-generators
  f = (goal.at.In-Ok d).After-generators

  abbrev st : Start
  st = (goal.at.After-generators f).Start

  abbrev count : ℕ
  count = d.in-Ok.g

  abbrev rows : List ℤ
  rows = f.generators.new.out

  made : Gathered st.args.v st.args.t.now count (take (5 * count) rows)
  made = gathered st.args.v st.args.t.now st.args.w.now st.args.table.now f.generators.ensures count d.in-Ok.is

pub overflow_mul-end : goal.overflow_mul-end
overflow_mul-end c = omega (arith, (made (goal.at.overflow_mul-end c).In-Ok).few)

pub slice_bounds-list_accepted-end : goal.slice_bounds-list_accepted-end
slice_bounds-list_accepted-end c =
    omega (arith, (made (goal.at.slice_bounds-list_accepted-end c).In-Ok).few, c.table-1.given, (st (goal.at.slice_bounds-list_accepted-end c).In-Ok).requires.table_long)

pub slice_bounds-list_accepted-end-in-Ok : goal.slice_bounds-list_accepted-end-in-Ok
slice_bounds-list_accepted-end-in-Ok c =
    let d = c in
    sym (length-take-le (5 * count (goal.at.slice_bounds-list_accepted-end-in-Ok c).In-Ok) (rows (goal.at.slice_bounds-list_accepted-end-in-Ok c).In-Ok) (omega (arith, (made (goal.at.slice_bounds-list_accepted-end-in-Ok c).In-Ok).few, c.table-1.given, (st (goal.at.slice_bounds-list_accepted-end-in-Ok c).In-Ok).requires.table_long)))

pub list_accepted-requires : goal.list_accepted-requires
list_accepted-requires c =
    let d = c in
    let g = made (goal.at.list_accepted-requires c).In-Ok in
    let s = c in (
      g.symbol,
      g.count,
      g.rows_are,
      omega
          (arith, s.requires.work, c.w-1.given),
      s.requires.out_long,
    )

pub returns-in-Err : goal.returns-in-Err
returns-in-Err c =
    let a = c in
    let f = c in
    let s = c in
    let refusal = a.in-Err.refused in
    let v = s.args.v in
    let t = s.args.t.now in
    let why = ungathered v t s.args.w.now s.args.table.now s.requires.work s.requires.table_long f.generators.ensures refusal a.in-Err.is in
    puts_as (listed_refused v t refusal why) c.refusal_line.ensures

pub returns-in-Ok : goal.returns-in-Ok
returns-in-Ok c =
    let d = c in
    let s = st (goal.at.returns-in-Ok c).In-Ok in
    puts_as (listed_accepted s.args.v s.args.t.now (made (goal.at.returns-in-Ok c).In-Ok).passed) c.list_accepted.ensures
