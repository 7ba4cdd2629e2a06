-- `put` has three cases: 0 is no letter (`put_none`); a letter below the limit is stored and counted (`put_in`); a later one is counted
-- only (`put_out`). Assumes nothing.
use mir.Facts.{to_z-of_z}
use Rattle.walk.proofs.Letters.{put_none, put_in, put_out}
use Rattle.walk.proofs.put.Goals as goal

pub returns-then-letter-eq0 : goal.returns-then-letter-eq0
returns-then-letter-eq0 c =
    let s = c in
    put_none s.args.start s.args.limit s.args.count s.args.letter s.args.out.now s.ranges.letter c.if-letter-eq0.true

pub returns-then-count-limit : goal.returns-then-count-limit
returns-then-count-limit c =
    let s = c in
    put_in s.args.start s.args.limit s.args.count s.args.letter s.args.out.now _ (to_z-of_z s.ranges.letter) c.if-letter-eq0.false
    c.if-count-limit.true

pub returns : goal.returns
returns c =
    let s = c in
    put_out s.args.start s.args.limit s.args.count s.args.letter s.args.out.now c.if-letter-eq0.false c.if-count-limit.false
