-- `check_entry` gives 2 where there is no v, and else what the symbol's checks say of the part that `table_end` found. Assumes nothing.
use mathlib.Core.Path.{◌≡◌, sym, ◌∙◌, ap}
use Prim.Native.Nat.{ℕ}
use lib.Dec.{ltb}
use lib.ListN.{length}
use borrow.Author.Tests.{lt-ltb, le-ltb}
use Rattle.matrix.specs.Matrix.{nth}
use Rattle.matrix.proofs.Bounds.{kept}
use Rattle.basics.proofs.Choice.{pick_true, pick_false}
use Rattle.symbol.specs.Check.{symbol_check}
use Rattle.towers.specs.Tower.{entry_vertices, entry_table}
use Rattle.towers.proofs.check_entry.Goals.{After-or_zero-v}
use Rattle.towers.proofs.check_entry.Goals as goal

pub returns-then-l-lt2 : goal.returns-then-l-lt2
returns-then-l-lt2 c = let l = c.args.l.now in sym (pick_true (ltb (length l) 2) _ _ (lt-ltb (length l) 2 c.if-l-lt2.true))

-- its v was read
read : (c : After-or_zero-v) → c.or_zero-v.result ≡ entry_vertices c.args.l.now
read c = rw (kept (nth c.args.l.now 1) c.or_zero-arg-1.given) at c.or_zero-v.ensures

pub returns : goal.returns
returns c =
    let e = c in
    let o = e in
    let d = o in
    let l = d.args.l.now in
    c.check.ensures.returned
    ∙ ap (symbol_check o.or_zero-v.result) e.table_end-end.ensures.table
    ∙ ap (λ (v : ℕ). symbol_check v (entry_table d.args.last l)) (read (goal.at.returns c).After-or_zero-v)
    ∙ sym (pick_false (ltb (length l) 2) _ _ (le-ltb (length l) 2 d.if-l-lt2.false))
