use Rattle.std.proofs.Common.{◌∙◌}
use Rattle.row_journal.proofs.Staged.{after_opening, after_end}
use Rattle.row_journal.proofs.snapshots.open.Goals as goal

pub returns-in_err-write_at-clause-any_moment : goal.returns-in_err-write_at-clause-any_moment
returns-in_err-write_at-clause-any_moment g c tells epoch gate bytes before has =
    (after_opening c.args.half epoch gate bytes before (g.D.Disk.shown c.args.disk.now) (g.met.D.Disk.lawful c.args.disk.now tells) has
    (g.D.Disk.shown c.write_at.new.self) c.write_at.result (c.write_at.ensures.content tells)).leaves

pub returns-clause-any_moment : goal.returns-clause-any_moment
returns-clause-any_moment g c tells epoch gate bytes before has =
    let told = c.write_at.ensures.tells ∙ tells in
    (after_end c.args.half epoch gate bytes before (g.D.Disk.shown c.args.disk.now) (g.met.D.Disk.lawful c.args.disk.now tells) has
    (g.D.Disk.shown c.write_at.new.self) c.write_at.result (c.write_at.ensures.content tells)
    (g.D.Disk.shown c.sync.new.self) c.sync.result (c.sync.ensures.content told)).leaves
