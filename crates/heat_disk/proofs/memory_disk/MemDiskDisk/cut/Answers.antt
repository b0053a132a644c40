use Rattle.heat_disk.proofs.Done.{cut_kept}
use Rattle.heat_disk.proofs.memory_disk.MemDiskDisk.cut.Goals as goal

pub returns-clause-content : goal.returns-clause-content
returns-clause-content c tells =
    cut_kept tt c.args.half c.args.self.now c.count.new.self c.shorten.new.self c.count.ensures.after c.args.len c.shorten.ensures (c.requires.len tells)
