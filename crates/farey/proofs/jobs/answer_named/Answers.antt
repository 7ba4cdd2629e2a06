-- `answer_named` meets its contract: the job that the name finds answers (`by_job`); where it finds none, nothing is done (`by_none`). Assumes nothing.
use mathlib.Core.Path.{refl}
use Rattle.farey.proofs.Named.{by_job, by_none}
use Rattle.farey.proofs.jobs.answer_named.Goals as goal

pub returns-in_default : goal.returns-in_default
returns-in_default c =
    let d = c in
    by_none d.args.name.now d.find_job.result d.find_job.ensures c.in_default.is refl refl

pub returns : goal.returns
returns c =
    let k = c in
    let d = k in
    by_job d.args.name.now d.find_job.result d.find_job.ensures _ k.in-Some.is c.answer.ensures
