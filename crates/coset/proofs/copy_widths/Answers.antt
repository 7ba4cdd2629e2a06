-- `copy_widths` copies the widths of k cusps where the result space has room (`run_write`), and else answers k and leaves the space (`short_write`).
-- Assumes nothing.
use Rattle.std.specs.Prelude.{Err}
use mathlib.Core.Path.{◌≡◌, refl, sym, ap, ◌∙◌}
use mathlib.Core.List.{[]}
use native.Mathlib.Omega.{arith}
use lib.ListN.{length}
use Rattle.call.specs.Space.{entries}
use Rattle.call.proofs.Laws.{run_end, run_write, short_write, fills_as, room_held, room_lacks}
use Rattle.numbering.specs.Inner.Space.{WIDTHS}
use Rattle.numbering.proofs.Space.{entries_length}
use borrow.Author.Rules.{rules}
use Rattle.coset.proofs.copy_widths.Goals as goal

pub returns-in_err-room : goal.returns-in_err-room
returns-in_err-room c =
    let e : c.from_residual.result ≡ Err c.in_err-room.field-0.0 = search rules in
    let k = c.args.k in
    let w = c.args.w.now in
    let lacks = room_lacks k (length c.args.out.now) (sym c.room.ensures ∙ c.in_err-room.was) in
    fills_as
    (short_write (entries WIDTHS k w) c.args.out.now k (entries_length WIDTHS k w (omega (arith, c.requires.0, c.requires.1))) [] lacks.0 tt)
    (e ∙ ap Err lacks.1)

pub returns : goal.returns
returns c =
    let k = c.args.k in
    let w = c.args.w.now in
    fills_as
    (run_write (entries WIDTHS k w) c.args.out.now k (entries_length WIDTHS k w (omega (arith, c.requires.0, c.requires.1))) [] _
    (room_held k (length c.args.out.now) (sym c.room.ensures ∙ c.in_ok-room.was)) c.copy_out.ensures run_end) refl
