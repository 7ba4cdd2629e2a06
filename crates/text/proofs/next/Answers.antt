-- `text::next` meets its contract: past the blanks a piece begins, or the text ends, and what `signed` says of the
-- piece is what it says. Assumes nothing.
use mathlib.Core.Path.{◌≡◌, sym, ◌∙◌}
use native.Mathlib.Omega.{arith}
use Prim.Native.Nat.{◌≤◌}
use lib.ListN.{length}
use mir.Syntax.{w64}
use mir.Facts.{to_z-of_z}
use Rattle.std.specs.Prelude.{Err}
use Rattle.text.proofs.Exits.{handed_out}
use Rattle.text.proofs.Pieces.{left_end, step_inside, piece_bad, piece_is}
use borrow.Author.Rules.{rules}
use Rattle.text.proofs.next.Goals as goal

pub returns-then-text-at : goal.returns-then-text-at
returns-then-text-at c = left_end c.args.text.now c.args.from c.stretch_end-at.result
    c.requires c.stretch_end-at.ensures c.if-text-at.true

pub slice_bounds-signed-end : goal.slice_bounds-signed-end
slice_bounds-signed-end c = let a = c.args in
    let h : c.stretch_end-end.result ≤ length a.text.now =
    step_inside a.text.now a.from c.stretch_end-at.result c.requires
    c.stretch_end-at.ensures c.if-text-at.false c.stretch_end-end.result c.stretch_end-end.ensures in
    search rules

pub returns-in_err-value : goal.returns-in_err-value
returns-in_err-value c = let a = c.args in
    let at = c.stretch_end-at.result in
    let h = piece_bad a.text.now a.from c.stretch_end-at.result c.requires c.stretch_end-at.ensures
    c.if-text-at.false c.stretch_end-end.result c.stretch_end-end.ensures
    (sym c.in_err-value.ensures.ok_part ∙ c.signed.ensures) in
    let e : Err c.in_err-value.field-0.0 ≡ Err at = rw c.in_err-value.ensures.ok_part at c.in_err-value.ensures.value in
    let same : c.in_err-value.field-0.0 ≡ at = cc in
    rw (handed_out c.from_residual.result c.from_residual.ensures.1, same) h

pub returns : goal.returns
returns c = let a = c.args in
    let n = c.in_ok-value.value in
    rw (to_z-of_z {w = w64} {z = n} (record { sfits = omega arith }))
    (piece_is a.text.now a.from c.stretch_end-at.result c.requires c.stretch_end-at.ensures c.if-text-at.false
    c.stretch_end-end.result c.stretch_end-end.ensures n (sym c.in_ok-value.ensures.ok_part ∙ c.signed.ensures))
