use mathlib.Core.Path.{◌∙◌, ap}
use native.Mathlib.Omega.{arith}
use Rattle.std.specs.Prelude.{Err}
use Rattle.cycle_reading.proofs.Loop.{begun, again, lost_here, over_here, ended_here}
use Rattle.cycle_reading.proofs.Reader.read_part.Goals as goal

pub loop-at-init : goal.loop-at-init
loop-at-init c = begun _ _ _ _ _ _ c.requires c.fill_identity.ensures

pub returns-in-Err-Lost : goal.returns-in-Err-Lost
returns-in-Err-Lost c = let g = c.in-Err-Lost in
    lost_here _ _ c.args.self.in_range _ _ _ _ _ _ _ c.loop-at.invariant _ c.piece_at-found.ensures _ _ _
    c.take_piece.ensures (g.is ∙ ap Err g.field-0-is)

pub returns-in-Err-Over : goal.returns-in-Err-Over
returns-in-Err-Over c = let g = c.in-Err-Over in
    over_here _ _ c.args.self.in_range _ _ _ _ _ _ _ c.loop-at.invariant _ c.piece_at-found.ensures _ _ _
    c.take_piece.ensures (g.is ∙ ap Err g.field-0-is)

pub loop-at-preserved : goal.loop-at-preserved
loop-at-preserved c =
    again _ _ c.args.self.in_range _ _ _ _ _ _ _ c.loop-at.invariant _ c.piece_at-found.ensures _ _ _
    c.take_piece.ensures _ c.in-Ok.is

pub returns : goal.returns
returns c = let l = c.loop-at in ended_here _ _ _ _ _ _ _ _ _ l.invariant (omega (arith, l.invariant.within)) _ c.is_quiet.ensures
