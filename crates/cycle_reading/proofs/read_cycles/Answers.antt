use Rattle.cycle_reading.proofs.Filling.{reads_in, front_long}
use Rattle.cycle_reading.proofs.Answered.{cycles_read_lem}
use Rattle.cycle_reading.proofs.read_cycles.Goals as goal

pub slice_bounds-a-end : goal.slice_bounds-a-end
slice_bounds-a-end c = (reads_in _ _ _ _ c.read_text.ensures _ c.in_ok-n.was).0

pub slice_bounds-give-end : goal.slice_bounds-give-end
slice_bounds-give-end c = (front_long _ _ _ _ c.read_text.ensures _ c.in_ok-n.was).0

pub slice_bounds-b-end : goal.slice_bounds-b-end
slice_bounds-b-end c = (reads_in _ _ _ _ c.read_text.ensures _ c.in_ok-n.was).1

pub slice_bounds-give-end-2 : goal.slice_bounds-give-end-2
slice_bounds-give-end-2 c = (front_long _ _ _ _ c.read_text.ensures _ c.in_ok-n.was).1

pub returns : goal.returns
returns c = cycles_read_lem _ _ _ _ c.read_text.ensures _ _ _ c.in_ok-n.was c.give.ensures
