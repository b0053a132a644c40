use Rattle.std.proofs.Common.{◌∙◌}
use Rattle.heat_disk.proofs.Fillings.{image_left, image_longest}
use Rattle.heat_disk.proofs.memory.MemDisk.crash.Goals as goal

pub returns-clause-may_be_left : goal.returns-clause-may_be_left
returns-clause-may_be_left c =
    image_left c.args.fill c.args.self.now c.deref.result.now c.deref-2.result.now c.holding.result
    (c.deref.ensures.value ∙ c.in_ok-first.ensures) (c.deref-2.ensures.value ∙ c.in_ok-second.ensures) c.holding.ensures.fresh

pub returns-clause-longest : goal.returns-clause-longest
returns-clause-longest c some =
    image_longest c.args.fill some c.args.self.now c.deref.result.now c.deref-2.result.now c.holding.result
    (c.deref.ensures.value ∙ c.in_ok-first.ensures) (c.deref-2.ensures.value ∙ c.in_ok-second.ensures) c.holding.ensures.fresh
