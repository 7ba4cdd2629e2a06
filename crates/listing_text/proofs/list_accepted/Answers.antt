-- `list_accepted` meets its contract: `survey` leaves the widths and the tables where the parts are listed from. Assumes nothing.
use mathlib.Core.Path.{ap}
use native.Mathlib.Omega.{arith}
use lib.ListN.{length}
use Rattle.decimal.proofs.Placing.{puts_as}
use Rattle.listing_text.proofs.Gathered.{leaders_most, rows_long}
use Rattle.listing_text.proofs.Listed.{parts_listed}
use Rattle.listing_text.proofs.list_accepted.Goals as goal

pub list_parts-requires : goal.list_parts-requires
list_parts-requires c =
    let f = c.survey-f.ensures in
    let s = c in
    let v = s.args.v in
    let t = s.args.t.now in
    let p = s.requires in (
      f.few,
      f.few_cusps,
      omega (arith, p.1, leaders_most v t p.0),
      omega (arith, p.1, ap length p.2, rows_long v t),
      omega (arith, f.same, p.3),
      p.4,
    )

pub returns : goal.returns
returns c =
    let f = c.survey-f.ensures in
    let s = c in
    puts_as (parts_listed s.args.g s.args.rows.now f s.requires.1 s.requires.2) c.list_parts.ensures
