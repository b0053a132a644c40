use Rattle.heat_disk.proofs.Done.{synced_kept}
use Rattle.heat_disk.proofs.memory_disk.MemDiskDisk.sync.Goals as goal

pub returns-clause-content : goal.returns-clause-content
returns-clause-content c tells = synced_kept tt c.args.half c.args.self.now c.count.new.self c.settle.new.self c.count.ensures.after c.settle.ensures
