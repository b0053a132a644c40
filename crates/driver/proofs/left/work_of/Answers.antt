-- The parts together.
use Rattle.std.proofs.Common.{refl}
use Rattle.driver.proofs.Tables.{parts_work}
use Rattle.driver.proofs.left.work_of.Goals as goal

pub returns : goal.returns
returns c = parts_work c.args.s.now.state c.letters_work.result c.jobs_work.result c.rows_work.result
    c.stacks_work.result _
    c.letters_work.ensures.exact c.jobs_work.ensures.exact c.rows_work.ensures.exact c.stacks_work.ensures.exact refl
