-- `split_open` splits an open side whose mediant keeps to the limit (`parted`); any other stops the walk (`over`). Sums of codes don't overflow, each
-- being below 2³². Assumes nothing.
use mathlib.Core.Path.{refl, sym, ◌∙◌}
use native.Mathlib.Omega.{arith}
use Prim.Native.Nat.{◌+◌}
use Rattle.permutations.specs.Pair.{image}
use Rattle.import_rule.specs.Fixed.{by_q}
use Rattle.import_sides.proofs.Turn.{within_tells}
use Rattle.import_sides.specs.Inner.Cells.{over, parted}
use Rattle.import_sides.proofs.Turns.{chain_low, num_is, den_is, chain_of, counted_of_lem, fits_by, split_to}
use borrow.Author.Rules.{rules}
use Rattle.import_sides.proofs.queue.split_open.Goals as goal

pub low_num-requires : goal.low_num-requires
low_num-requires c =
    let e = c in
    let s = e in
    (chain_low _ _ _ e.entry-l.ensures.0 s.requires.chain, s.requires.long)

pub low_den-requires : goal.low_den-requires
low_den-requires c =
    let e = c in
    let s = e in
    (chain_low _ _ _ e.entry-l.ensures.0 s.requires.chain, s.requires.long)

pub overflow_sub-e : goal.overflow_sub-e
overflow_sub-e c =
    let i = c in
    let w = i in
    let n = w in
    let l = n in
    let a = l in
    let b = a in
    (within_tells (b.low_num.result + a.number_at.result) (l.low_den.result + n.number_at-2.result) (sym w.within.ensures ∙ i.if-within.true)).0

pub split_cell-requires : goal.split_cell-requires
split_cell-requires c =
    let i = c in
    let w = i in
    let n = w in
    let l = n in
    let e = l in
    let f = e in
    let s = f in
    let t = within_tells (f.low_num.result + e.number_at.result) (l.low_den.result + n.number_at-2.result) (sym w.within.ensures ∙ i.if-within.true) in
    let a = t.0 in
    let b = t.1 in
    let d = t.2 in
    let z = s.requires in
    (z, omega arith, omega arith)

pub returns-then-within : goal.returns-then-within
returns-then-within c =
    let a = c in
    let i = a in
    let w = i in
    let n = w in
    let l = n in
    let b = l in
    let d = b in
    let e = d in
    let f = e in
    let s = f.args in
    let sg = image s.s.now in
    let ka = by_q sg (image s.r.now) in
    let p = num_is s.w.now s.c _ e.entry-l.ensures.0 _ _ d.low_num.ensures.0 b.number_at.ensures.0 in
    let q = den_is s.w.now s.c _ e.entry-l.ensures.0 _ _ l.low_den.ensures.0 n.number_at-2.ensures.0 in
    parted (sym (fits_by sg ka s.w.now s.c s.k _ _ p q) ∙ sym w.within.ensures ∙ i.if-within.true)
    (split_to sg ka s.w.now s.c s.k _ _ p q _ a.split_cell.ensures) refl refl

pub count-i-requires : goal.count-i-requires
count-i-requires c =
    let e = c in
    let s = e in
    (chain_of s.args.w.now s.args.c _ e.entry-l.ensures.0 s.requires.chain, s.requires.long)

pub returns : goal.returns
returns c =
    let i = c in
    let w = i in
    let n = w in
    let l = n in
    let a = l in
    let b = a in
    let e = b in
    let d = e in
    let s = d.args in
    let sg = image s.s.now in
    let ka = by_q sg (image s.r.now) in
    let p = num_is s.w.now s.c _ e.entry-l.ensures.0 _ _ b.low_num.ensures.0 a.number_at.ensures.0 in
    let q = den_is s.w.now s.c _ e.entry-l.ensures.0 _ _ l.low_den.ensures.0 n.number_at-2.ensures.0 in
    over (sym (fits_by sg ka s.w.now s.c s.k _ _ p q) ∙ sym w.within.ensures ∙ i.if-within.false)
    (counted_of_lem s.w.now s.c _ e.entry-l.ensures.0 _ c.count-i.ensures) refl refl
