-- `cut` clears its table, scans all vertices, and joins the last side's outer face with what is left on top: the whole cut (`cut_left`).
-- The vertex 0/1 is there (`zeroth_below`), so the scan has noted the position under its chord. Assumes nothing.
use mathlib.Core.Path.{◌∙◌}
use native.Mathlib.Omega.{arith}
use Rattle.polygon.proofs.Space.{still}
use Rattle.polygon.proofs.Scan.{zeroth_below}
use Rattle.polygon.proofs.Scanning.{cut_left, handle_low}
use Rattle.polygon.proofs.cutting.cut.Goals as goal

pub link-requires : goal.link-requires
link-requires c = let s = c in
    let e = c.scan_vertices-r.ensures in
    let f = c.clear_flips.ensures in (
      omega (arith, s.requires.0.most),
      omega (arith, s.requires.0.most, c.top_cell-h.ensures.handle, handle_low s.args.v _ _ e.cells),
      still
          (e.frame.same ∙ f.frame.same) s.requires.1,
    )

pub returns : goal.returns
returns c =
    let earlier = c in
    let s = earlier in
    let ok = s.requires.0 in
    let z = earlier.zero_vertex-z.ensures in
    cut_left s.args.t.now s.args.v _ s.args.w.now _ _ _ _ _ _ ok.most
    earlier.clear_flips.ensures
    c.scan_vertices-r.ensures z
    (omega (arith, z, zeroth_below s.args.v s.args.t.now ok)) c.top_cell-h.ensures.handle
    c.link.ensures
