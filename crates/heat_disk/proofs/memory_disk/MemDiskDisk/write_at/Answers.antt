use Rattle.heat_disk.proofs.Done.{wrote_kept}
use Rattle.heat_disk.proofs.memory_disk.MemDiskDisk.write_at.Goals as goal

pub returns-clause-content : goal.returns-clause-content
returns-clause-content c tells =
    wrote_kept tt c.args.half c.args.self.now c.count.new.self c.write.new.self c.count.ensures.after c.args.at c.args.bytes.now c.write.ensures (c.requires.at tells)
