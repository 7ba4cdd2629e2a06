use mathlib.Core.Path.{◌≡◌, refl, sym, ◌∙◌, ap}
use native.Mathlib.Omega.{arith}
use native.Mathlib.Numerals.{add-one}
use Prim.Native.Nat.{◌+◌, ◌-◌, ◌*◌, ◌≤◌}
use Rattle.permutations.specs.Pair.{image}
use Rattle.import_rule.specs.Fixed.{by_q}
use Rattle.import_symbol.proofs.Written.{Labelled, labelled_none, labelled_length, labelled_all, pairs_more, pairs_side}
use borrow.Author.Rules.{rules}
use Rattle.import_symbol.proofs.write.write_pairings.Goals as goal

pub overflow_sub-v : goal.overflow_sub-v
overflow_sub-v c = let z = c.requires.0.some in omega arith

pub loop-i-init : goal.loop-i-init
loop-i-init c =
    let s = c in
    let S = s.args.s.now in
    let R = s.args.r.now in
    let W = s.args.w.now in
    let O = s.args.out.now in
    let D = s.args.d in
    let z = s.requires in
    (omega arith, labelled_none (image S) (by_q (image S) (image R)) W O D z.0.labels)

pub overflow_mul-v : goal.overflow_mul-v
overflow_mul-v c = let z = c.requires.0.most in omega arith

pub overflow_add-v : goal.overflow_add-v
overflow_add-v c = let z = c.requires.0.most in omega arith

pub write_pairing-c-requires : goal.write_pairing-c-requires
write_pairing-c-requires c =
    let s = c in
    let S = s.args.s.now in
    let R = s.args.r.now in
    let W = s.args.w.now in
    let O = s.args.out.now in
    let D = s.args.d in
    let z = s.requires in
    let l = c.loop-i in
    pairs_side S R W O D z.0 z.1 l.w l.out l.i l.c l.invariant.1 (omega arith)

pub loop-i-preserved : goal.loop-i-preserved
loop-i-preserved c =
    let s = c in
    let S = s.args.s.now in
    let R = s.args.r.now in
    let W = s.args.w.now in
    let O = s.args.out.now in
    let D = s.args.d in
    let z = s.requires in
    let l = c.loop-i in (
      omega arith,
      rw add-one (pairs_more S R W O D z.0 z.1 l.w l.out l.i l.c l.invariant.1 (omega arith) _ _ _
          c.write_pairing-c.ensures),
    )

pub shape_of-w : goal.shape_of-w
shape_of-w c =
    let s = c in
    let S = s.args.s.now in
    let R = s.args.r.now in
    let W = s.args.w.now in
    let O = s.args.out.now in
    let D = s.args.d in
    let z = s.requires in
    let l = c.loop-i in
    l.invariant.1.long

pub shape_of-out : goal.shape_of-out
shape_of-out c =
    let s = c in
    let S = s.args.s.now in
    let R = s.args.r.now in
    let W = s.args.w.now in
    let O = s.args.out.now in
    let D = s.args.d in
    let z = s.requires in
    let l = c.loop-i in
    labelled_length (image S) (by_q (image S) (image R)) W O D l.w l.out l.i l.c l.invariant.1
    (let so = z.0.some in let h = z.1 in omega (arith, l.invariant.0))

pub returns : goal.returns
returns c =
    let s = c in
    let S = s.args.s.now in
    let R = s.args.r.now in
    let W = s.args.w.now in
    let O = s.args.out.now in
    let D = s.args.d in
    let z = s.requires in
    let l = c.loop-i in
    let e : l.i ≡ D = omega (arith, l.invariant.0) in
    labelled_all (image S) (by_q (image S) (image R)) W O D l.w l.out l.c (let so = z.0.some in omega arith) (rw e at l.invariant.1)
