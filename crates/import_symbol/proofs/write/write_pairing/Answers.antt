-- `write_pairing` has four cases, by the point m of the side: S fixes it, -2; Q fixes it, -3; else the smaller of m and its S image is the
-- label, which gets the next number (`pair_new`) or has one (`pair_old`). Assumes nothing.
use Rattle.import_symbol.proofs.Stored.{least_low, pair_new, pair_old}
use mathlib.Core.Path.{◌≡◌, refl, sym, ◌∙◌, ap}
use Prim.Native.Nat.{◌≤◌, ◌<◌}
use native.Mathlib.Omega.{arith}
use lib.ListN.{length}
use Rattle.call.specs.Space.{work_length}
use Rattle.import_sides.proofs.Turn.{low_is}
use Rattle.permutations.proofs.Images.{low_S}
use Rattle.permutations.specs.Pair.{image}
use Rattle.import_rule.specs.Fixed.{by_q}
use Rattle.import_symbol.specs.Inner.Writing.{is_even, is_odd_is, is_new, is_old}
use borrow.Author.Rules.{rules}
use Rattle.import_symbol.proofs.write.write_pairing.Goals.{After-least-l, Start}
use Rattle.import_symbol.proofs.write.write_pairing.Goals as goal

pub returns-then-x-m : goal.returns-then-x-m
returns-then-x-m c =
    let s = c in
    let sg = image s.args.s.now in
    let ka = by_q sg (image s.args.r.now) in
    let em = c.point_at-m.ensures.0 in
    let ex = c.image-x.ensures ∙ ap sg em in
    is_even (sym ex ∙ c.if-x-m.true ∙ em) refl c.store_entry.ensures refl

pub returns-then-q-m : goal.returns-then-q-m
returns-then-q-m c =
    let s = c in
    let sg = image s.args.s.now in
    let ka = by_q sg (image s.args.r.now) in
    let em = c.point_at-m.ensures.0 in
    let ex = c.image-x.ensures ∙ ap sg em in
    let eq = c.turned-q.ensures ∙ ap ka em in
    is_odd_is (λ t. c.if-x-m.false (ex ∙ t ∙ sym em)) (sym eq ∙ c.if-q-m.true ∙ em) refl
    c.store_entry-then-q-m.ensures refl

-- the smaller of the two points is a point, and its label has a place in the work space
module _ (l : After-least-l) where
  abbrev st : Start
  st = (goal.at.After-least-l l).Start

  place : (l.least-l.result < 3066) × (work_length ≤ length st.args.w.now)
  place =
      let z = st.requires in
      let m = low_is _ _ _ l.point_at-m.ensures.0 z.low in
      let x = (low_S _ _ z.pair _ _ m l.image-x.ensures).0 in
      (omega (arith, z.pair.most, least_low _ _ _ m x, l.least-l.ensures), z.long)

pub label_at-k-requires : goal.label_at-k-requires
label_at-k-requires c = let p = place (goal.at.label_at-k-requires c).After-least-l in (omega (arith, p.0), p.1)

pub overflow_add-w-then-k-eq0 : goal.overflow_add-w-then-k-eq0
overflow_add-w-then-k-eq0 c = let p = place (goal.at.overflow_add-w-then-k-eq0 c).After-least-l in omega (arith, p.0, p.1)

pub offset_bounds-w-l : goal.offset_bounds-w-l
offset_bounds-w-l c = let p = place (goal.at.offset_bounds-w-l c).After-least-l in omega (arith, p.0, p.1)

pub bounds-w-l : goal.bounds-w-l
bounds-w-l c = let p = place (goal.at.bounds-w-l c).After-least-l in omega (arith, p.0, p.1)

pub returns-then-k-eq0 : goal.returns-then-k-eq0
returns-then-k-eq0 c =
    let earlier = c in
    let s = earlier in
    let sg = image s.args.s.now in
    let ka = by_q sg (image s.args.r.now) in
    let em = earlier.point_at-m.ensures.0 in
    let ex = earlier.image-x.ensures ∙ ap sg em in
    pair_new sg ka s.args.w.now s.args.out.now s.args.j s.args.c _ _ _ _ _ _
    earlier.point_at-m.ensures.0
    earlier.image-x.ensures
    c.if-x-m.false
    c.turned-q.ensures
    c.if-q-m.false
    c.least-l.ensures c.label_at-k.ensures.0
    c.if-k-eq0.true _ _ c.signed-n.ensures c.signed-n.type_inv
    c.store_entry-then-k-eq0.ensures

pub returns : goal.returns
returns c =
    let earlier = c in
    let s = earlier in
    let sg = image s.args.s.now in
    let ka = by_q sg (image s.args.r.now) in
    let em = earlier.point_at-m.ensures.0 in
    let ex = earlier.image-x.ensures ∙ ap sg em in
    pair_old sg ka s.args.w.now s.args.out.now s.args.j s.args.c _ _ _ _ _ _
    earlier.point_at-m.ensures.0
    earlier.image-x.ensures
    c.if-x-m.false
    c.turned-q.ensures
    c.if-q-m.false
    c.least-l.ensures c.label_at-k.ensures.0
    c.if-k-eq0.false _ _ c.signed-n-2.ensures c.signed-n-2.type_inv
    c.store_entry-2.ensures
