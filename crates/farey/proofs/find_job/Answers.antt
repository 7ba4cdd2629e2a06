-- `find_job` meets its contract: each arm has the bytes of its name. Assumes nothing.
use native.Mathlib.Omega.{arith}
use Rattle.farey.specs.Jobs.{name_of}
use Rattle.farey.specs.declared.Job.TheVariants as job
use Rattle.farey.proofs.Names.{spelled}
use Rattle.farey.proofs.find_job.Goals as goal

pub returns-in-105 : goal.returns-in-105
returns-in-105 c = spelled c.args.name.now (name_of job.ImportWide) (omega arith)
    (omega arith, (omega arith, (omega arith, (omega arith, (omega arith, (omega arith, (omega arith, (omega arith, (omega arith, (omega arith, (omega arith, tt)))))))))))

pub returns-in-intersection : goal.returns-in-intersection
returns-in-intersection c = spelled c.args.name.now (name_of job.Intersection) (omega arith)
    (omega arith, (omega arith, (omega arith, (omega arith, (omega arith, (omega arith, (omega arith, (omega arith, (omega arith, (omega arith, (omega arith, (omega arith, tt))))))))))))
