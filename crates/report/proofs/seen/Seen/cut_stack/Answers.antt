use Rattle.report.specs.Undone.{shown}
use Rattle.report.proofs.Backwards.{stack_back}
use Rattle.report.proofs.seen.Seen.cut_stack.Goals as goal

pub returns-clause-undone : goal.returns-clause-undone
returns-clause-undone c =
    stack_back c.args.log.now.items c.push.new.self.items
    (shown c.args.self.now) c.args.name c.cut-before.result c.cut-before.new.self.items c.cut-before.ensures.back
    c.push.ensures
