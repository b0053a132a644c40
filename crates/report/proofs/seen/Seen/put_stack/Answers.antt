use Rattle.report.specs.Undone.{shown}
use Rattle.report.proofs.Backwards.{stack_back}
use Rattle.report.proofs.seen.Seen.put_stack.Goals as goal

pub returns-clause-undone : goal.returns-clause-undone
returns-clause-undone c =
    stack_back c.args.log.now.items c.push.new.self.items
    (shown c.args.self.now) c.args.name c.put-before.result c.put-before.new.self.items
    (rw c.requires.name c.put-before.ensures.back) c.push.ensures
