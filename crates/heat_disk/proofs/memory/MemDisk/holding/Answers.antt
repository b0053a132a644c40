use Rattle.heat_disk.proofs.Breaks.{fresh_durable}
use Rattle.heat_disk.proofs.memory.MemDisk.holding.Goals as goal

pub returns-clause-durable : goal.returns-clause-durable
returns-clause-durable c = fresh_durable (c.in_ok-new.field-0.start, c.in_ok-new-2.field-0.start) c.new-3.result.calls c.new-3.ensures
