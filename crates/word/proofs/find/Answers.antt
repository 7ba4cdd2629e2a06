-- `find` knows where the walk ends and how many letters it writes (`told`). Three ends: the walk doesn't come home, 10; the word doesn't fit, 11 with its
-- length; it fits, and the walk stores it (`placed_out`). Assumes nothing.
use mathlib.Core.Path.{refl, sym, ◌∙◌}
use Rattle.matrix.specs.Matrix.{of_list}
use Rattle.word.specs.Inner.Ready.{letters_along, sign_along_walk, home_along}
use Rattle.word.proofs.Finding.{setting, result, told, placed_out, not_home, too_far, too_long, fitting, away, at_home}
use Rattle.word.proofs.find.Goals as goal

pub returns-then-end-home : goal.returns-then-end-home
returns-then-end-home c =
    let s = c in
    let q = s.requires.0 in
    let v = s.args.v in
    let t = s.args.t.now in
    let m = of_list s.args.m in
    let start = s.args.start in
    let out = s.args.out.now in
    let end = s.args.end in
    let r = told q s.requires.1 in
    not_home (home_along v t m) (letters_along v t m) out out start (sign_along_walk v t m) (away v t m r.0 (λ z. c.if-end-home.true (z ∙ sym q.start))) refl

pub returns-then-out-start : goal.returns-then-out-start
returns-then-out-start c =
    let s = c in
    let q = s.requires.0 in
    let v = s.args.v in
    let t = s.args.t.now in
    let m = of_list s.args.m in
    let start = s.args.start in
    let out = s.args.out.now in
    let end = s.args.end in
    let r = told q s.requires.1 in
    too_far (home_along v t m) (letters_along v t m) out out start (sign_along_walk v t m) (at_home v t m r.0 (c.if-end-home.false ∙ q.start))
    end.count r.1
    c.if-out-start.true refl

pub returns-then-out-start-2 : goal.returns-then-out-start-2
returns-then-out-start-2 c =
    let s = c in
    let q = s.requires.0 in
    let v = s.args.v in
    let t = s.args.t.now in
    let m = of_list s.args.m in
    let start = s.args.start in
    let out = s.args.out.now in
    let end = s.args.end in
    let r = told q s.requires.1 in
    too_long (home_along v t m) (letters_along v t m) out out start (sign_along_walk v t m) (at_home v t m r.0 (c.if-end-home.false ∙ q.start))
    end.count
    r.1 c.if-out-start.false c.if-out-start-2.true refl

pub walk-way-requires : goal.walk-way-requires
walk-way-requires c =
    let s = c in
    setting s.requires.0 s.args.start s.args.end.count s.args.out.now c.if-out-start-2.false

pub returns : goal.returns
returns c =
    let s = c in
    let q = s.requires.0 in
    let v = s.args.v in
    let t = s.args.t.now in
    let m = of_list s.args.m in
    let start = s.args.start in
    let out = s.args.out.now in
    let end = s.args.end in
    let r = told q s.requires.1 in
    let w = result q c.walk-way.ensures in
    fitting (home_along v t m) (letters_along v t m) out _ start (sign_along_walk v t m) (at_home v t m r.0
    (c.if-end-home.false ∙ q.start)) end.count r.1
    c.walk-way.result.sign w.sign c.if-out-start.false c.if-out-start-2.false (placed_out r.1
    c.if-out-start.false c.if-out-start-2.false w)
