use mathlib.Core.Path.{◌≡◌, sym, ◌∙◌, ap}
use mathlib.Core.Bool.{not}
use Prim.Native.Nat.{◌+◌, ◌<◌}
use native.Mathlib.Omega.{arith}
use native.Mathlib.Numerals.{add-one}
use lib.ListN.{length}
use lib.IntN.{ℤ}
use borrow.Author.Rules.{rules}
use Rattle.matrix.specs.Matrix.{nth}
use Rattle.matrix.proofs.Bounds.{kept}
use Rattle.basics.proofs.Count.{clear_zero, clear_more, clear_less, first_clear, first_hit}
use Rattle.towers.specs.Tower.{unlisted, listed_before, named_at}
use Rattle.towers.proofs.Entries.{whole_symbols, two_here, named_here}
use Rattle.towers.proofs.first_unlisted.Goals.{After-is_listed, After-start_of-p}
use Rattle.towers.proofs.first_unlisted.Goals as goal

pub loop-i-init : goal.loop-i-init
loop-i-init c = clear_zero (unlisted c.args.t.now)

pub start_of-p-requires : goal.start_of-p-requires
start_of-p-requires c = let l = c in let s = l in whole_symbols s.args.n s.args.t.now s.requires l.loop-i.i (omega arith)

-- the entry is inside the table
room : (c : After-start_of-p) → c.start_of-p.result + 1 < length c.args.t.now
room c =
    let l = c in
    two_here l.args.n c.start_of-p.ensures (l.requires l.loop-i.i c.loop-i-test.true)

-- whether the name that was read is listed
read : (c : After-is_listed) → c.is_listed.result ≡ listed_before
    (named_at c.args.t.now c.loop-i.i)
    c.loop-i.i
read c =
    let p = c in
    let l = p in
    let t = l.args.t.now in
    rw (kept (nth t p.start_of-p.result) c.is_listed-arg-1.given) at c.is_listed.ensures
    ∙ ap (λ (x : ℤ). listed_before x l.loop-i.i) (named_here p.start_of-p.ensures)

pub offset_bounds-t-p : goal.offset_bounds-t-p
offset_bounds-t-p c = let h = room c in search rules

pub bounds-t-p : goal.bounds-t-p
bounds-t-p c = let h = room c in search rules

pub returns-then-not-is_listed : goal.returns-then-not-is_listed
returns-then-not-is_listed c =
    let r = c in
    let l = r in
    let s = l in
    sym (first_hit (unlisted s.args.t.now) l.loop-i.i s.args.n (omega arith) l.loop-i.invariant (ap not (sym (read (goal.at.returns-then-not-is_listed c).After-is_listed) ∙ c.if-not-is_listed.true)))

pub loop-i-preserved : goal.loop-i-preserved
loop-i-preserved c =
    let r = c in
    let l = r in
    let s = l in
    rw add-one (clear_more (unlisted s.args.t.now) l.loop-i.i l.loop-i.invariant (ap not (sym (read (goal.at.loop-i-preserved c).After-is_listed) ∙ c.if-not-is_listed.false)))

pub returns : goal.returns
returns c =
    sym (first_clear (unlisted c.args.t.now) c.args.n (clear_less (unlisted c.args.t.now) c.args.n c.loop-i.i c.loop-i-test.false c.loop-i.invariant))
