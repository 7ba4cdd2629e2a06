use Rattle.std.specs.Prelude.{Err}
use Rattle.std.proofs.lemmas.Result.{err_from_is_err_and}
use mathlib.Core.Path.{◌≡◌, sym, ap, ◌∙◌}
use Prim.Native.Nat.{suc, ◌+◌}
use native.Mathlib.Omega.{arith}
use native.Mathlib.Numerals.{add-one}
use lib.Dec.{eqb}
use borrow.Author.Rules.{rules}
use Rattle.towers.specs.Tower.{entry_check, from_entry}
use Rattle.towers.proofs.Checks.{symbols_none, symbols_more, whole_passed, check_stops, entry_read}
use Rattle.towers.proofs.check_symbols.Goals.{After-check_entry}
use Rattle.towers.proofs.check_symbols.Goals as goal

pub loop-i-init : goal.loop-i-init
loop-i-init c = symbols_none c.args.n c.args.t.now

pub start_of-p-requires : goal.start_of-p-requires
start_of-p-requires c = let l = c in let s = l in whole_passed s.args.n s.args.t.now l.loop-i.i l.loop-i.invariant

pub offset_bounds-t-p : goal.offset_bounds-t-p
offset_bounds-t-p c = let h = c.start_of-p.ensures.inside in search rules

pub slice_bounds-check_entry-count : goal.slice_bounds-check_entry-count
slice_bounds-check_entry-count c = let h = c.start_of-p.ensures.inside in search rules

pub slice_bounds-check_entry-start : goal.slice_bounds-check_entry-start
slice_bounds-check_entry-start c = let h = c.start_of-p.ensures.inside in search rules

pub slice_bounds-check_entry-end : goal.slice_bounds-check_entry-end
slice_bounds-check_entry-end c = let h = c.start_of-p.ensures.inside in search rules

-- what the entry's checks said
said : (c : After-check_entry) → c.check_entry.result ≡ entry_check (eqb (suc c.loop-i.i) c.args.n) (from_entry c.args.t.now c.loop-i.i)
said c = entry_read c.args.n c.start_of-p.ensures (c.loop-i.i + 1) (add-one c.loop-i.i) c.check_entry.result c.check_entry.ensures

pub returns-in_err-check_entry : goal.returns-in_err-check_entry
returns-in_err-check_entry c =
    let e = err_from_is_err_and _ c.from_residual.ensures.1 in
    e.1 ∙ ap Err e.2
    ∙ check_stops c.args.n c.args.t.now c.args.n c.loop-i.i c.in_err-check_entry.field-0.0 (omega arith) c.loop-i.invariant
    (sym (said (goal.at.returns-in_err-check_entry c).After-check_entry) ∙ c.in_err-check_entry.was)

pub loop-i-preserved : goal.loop-i-preserved
loop-i-preserved c =
    rw add-one
    (symbols_more c.args.n c.args.t.now c.loop-i.i c.loop-i.invariant
    (sym (said (goal.at.loop-i-preserved c).After-check_entry) ∙ c.in_ok-check_entry.was))

pub returns : goal.returns
returns c =
    let e : c.loop-i.i ≡ c.args.n = omega (arith, c.loop-i.auto.i-end, c.loop-i-test.false) in
    sym (rw e at c.loop-i.invariant)
