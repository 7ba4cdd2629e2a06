-- `check_labels`: the first number that is no free label, then the second, then a repeat (`first_not`, `second_not`, `repeated`, `both_free`).
-- Assumes nothing.
use mathlib.Core.Path.{◌≡◌, sym, ◌∙◌}
use mir.Facts.{to_z-of_z}
use Rattle.partner_exchange.proofs.Copied.{first_not, second_not, repeated, both_free}
use borrow.Author.Rules.{rules}
use Rattle.partner_exchange.proofs.check_labels.Goals as goal

pub returns-then-not-is_free_label : goal.returns-then-not-is_free_label
returns-then-not-is_free_label c =
    let d = c in
    let s = d in
    first_not s.args.v s.args.p.now s.args.x s.args.y
    (sym (rw (to_z-of_z s.ranges.x) at d.is_free_label.ensures) ∙ c.if-not-is_free_label.true)

pub returns-then-not-is_free_label-2 : goal.returns-then-not-is_free_label-2
returns-then-not-is_free_label-2 c =
    let e = c in
    let d = e in
    let s = d in
    second_not s.args.v s.args.p.now s.args.x s.args.y
    (sym (rw (to_z-of_z s.ranges.x) at d.is_free_label.ensures) ∙ e.if-not-is_free_label.false)
    (sym (rw (to_z-of_z s.ranges.y) at e.is_free_label-2.ensures) ∙ c.if-not-is_free_label-2.true)

pub returns-then-equal : goal.returns-then-equal
returns-then-equal c =
    let q = c in
    let e = q in
    let d = e in
    let s = d in
    repeated s.args.v s.args.p.now s.args.x s.args.y
    (sym (rw (to_z-of_z s.ranges.x) at d.is_free_label.ensures) ∙ e.if-not-is_free_label.false)
    (sym (rw (to_z-of_z s.ranges.y) at e.is_free_label-2.ensures) ∙ q.if-not-is_free_label-2.false)
    (sym (rw (to_z-of_z s.ranges.x, to_z-of_z s.ranges.y) at q.equal.ensures) ∙ c.if-equal.true)

pub returns : goal.returns
returns c =
    let q = c in
    let e = q in
    let d = e in
    let s = d in
    both_free s.args.v s.args.p.now s.args.x s.args.y
    (sym (rw (to_z-of_z s.ranges.x) at d.is_free_label.ensures) ∙ e.if-not-is_free_label.false)
    (sym (rw (to_z-of_z s.ranges.y) at e.is_free_label-2.ensures) ∙ q.if-not-is_free_label-2.false)
    (sym (rw (to_z-of_z s.ranges.x, to_z-of_z s.ranges.y) at q.equal.ensures) ∙ c.if-equal.false)
