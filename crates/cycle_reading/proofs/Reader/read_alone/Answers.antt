use Rattle.cycle_reading.proofs.Solos.{part_as, alone_over, over_in}
use Rattle.cycle_reading.proofs.Reader.read_alone.Goals as goal

pub read_second-requires : goal.read_second-requires
read_second-requires c = let a = c.args.self in over_in a.semi a.n a.text.now c.args.from _ _ (part_as c.in-Over.is c.read_part.ensures)

pub returns-in-Over : goal.returns-in-Over
returns-in-Over c = let a = c.args.self in
    alone_over a.semi a.n a.text.now _ _ _ _ _ (part_as c.in-Over.is c.read_part.ensures) c.read_second.ensures
