-- `congruence_tables::visit` meets its contract: the image by S joins, and then the image by R; their places are images in the tables.
-- Assumes nothing.
use borrow.Author.Rules.{rules}
use native.Mathlib.Omega.{arith}
use Rattle.congruence_tables.proofs.Walked.{images_S, enters_S, images_R, enters_R, place_S, place_R, visited_by}
use Rattle.congruence_tables.proofs.visit.Goals as goal

pub image_s-y-requires : goal.image_s-y-requires
image_s-y-requires c = images_S c.requires c.load-x.ensures

pub enter-a-requires : goal.enter-a-requires
enter-a-requires c = enters_S c.requires c.load-x.ensures
    c.image_s-y.ensures

pub image_r-z-requires : goal.image_r-z-requires
image_r-z-requires c =
    let at_first = c in
    let first = at_first.enter-a in
    let at-by-s = at_first in
    let by_s_lem = at-by-s.image_s-y in
    let at_x = at-by-s in
    let x = at_x.load-x in
    let at-s = at_x in
    images_R at-s.requires x.ensures by_s_lem.ensures first.ensures

pub enter-b-requires : goal.enter-b-requires
enter-b-requires c =
    let at-by-r = c in
    let by_r_lem = at-by-r.image_r-z in
    let at_first = at-by-r in
    let first = at_first.enter-a in
    let at-by-s = at_first in
    let by_s_lem = at-by-s.image_s-y in
    let at_x = at-by-s in
    let x = at_x.load-x in
    let at-s = at_x in
    enters_R at-s.requires x.ensures by_s_lem.ensures first.ensures by_r_lem.ensures

pub narrow-requires : goal.narrow-requires
narrow-requires c =
    let at_first = c in
    let first = at_first.enter-a in
    let at-by-s = at_first in
    let by_s_lem = at-by-s.image_s-y in
    let at_x = at-by-s in
    let x = at_x.load-x in
    let at-s = at_x in
    place_S at-s.requires x.ensures by_s_lem.ensures first.ensures

pub offset_bounds-s-i : goal.offset_bounds-s-i
offset_bounds-s-i c =
    let early = c in
    let p = early.requires in
    omega (arith, p.low, p.some.holds.room)

pub bounds-s-i : goal.bounds-s-i
bounds-s-i c =
    let early = c in
    let p = early.requires in
    omega (arith, p.room_S)

pub narrow-requires-2 : goal.narrow-requires-2
narrow-requires-2 c =
    let at-two = c in
    let two = at-two.enter-b in
    let at-by-r = at-two in
    let by_r_lem = at-by-r.image_r-z in
    let at_first = at-by-r in
    let first = at_first.enter-a in
    let at-by-s = at_first in
    let by_s_lem = at-by-s.image_s-y in
    let at_x = at-by-s in
    let x = at_x.load-x in
    let at-s = at_x in
    place_R at-s.requires x.ensures by_s_lem.ensures first.ensures by_r_lem.ensures two.ensures

pub offset_bounds-r-i : goal.offset_bounds-r-i
offset_bounds-r-i c =
    let early = c in
    let p = early.requires in
    omega (arith, p.low, p.some.holds.room)

pub bounds-r-i : goal.bounds-r-i
bounds-r-i c =
    let early = c in
    let p = early.requires in
    omega (arith, p.room_R)

pub returns : goal.returns
returns c =
    let at-two = c in
    let two = at-two.enter-b in
    let at-by-r = at-two in
    let by_r_lem = at-by-r.image_r-z in
    let at_first = at-by-r in
    let first = at_first.enter-a in
    let at-by-s = at_first in
    let by_s_lem = at-by-s.image_s-y in
    let at_x = at-by-s in
    let x = at_x.load-x in
    let at-s = at_x in
    visited_by at-s.requires x.ensures by_s_lem.ensures first.ensures by_r_lem.ensures two.ensures c.narrow.ensures c.narrow-2.ensures
