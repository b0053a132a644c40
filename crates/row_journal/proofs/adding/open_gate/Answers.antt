use Rattle.std.proofs.Common.{◌∙◌}
use Rattle.row_journal.proofs.Gates.{at_first, first_unsynced, at_last, last_unsynced, ready_then}
use Rattle.row_journal.proofs.adding.open_gate.Goals as goal

pub returns-in_err-write_at-clause-any_moment : goal.returns-in_err-write_at-clause-any_moment
returns-in_err-write_at-clause-any_moment g c tells image payload is has =
    (at_first c.args.place image is payload (g.D.Disk.shown c.args.disk.now) (g.met.D.Disk.lawful c.args.disk.now tells) has
    (g.D.Disk.shown c.write_at.new.self) c.write_at.result (c.write_at.ensures.content tells)).leaves

pub returns-in_err-write_at-clause-unsynced : goal.returns-in_err-write_at-clause-unsynced
returns-in_err-write_at-clause-unsynced g c tells image payload is has =
    first_unsynced c.args.place image is payload (g.D.Disk.shown c.args.disk.now) (g.met.D.Disk.lawful c.args.disk.now tells) has
    (g.D.Disk.shown c.write_at.new.self) c.write_at.result (c.write_at.ensures.content tells)

pub returns-clause-any_moment : goal.returns-clause-any_moment
returns-clause-any_moment g c tells image payload is has =
    let told = c.write_at.ensures.tells ∙ tells in
    (at_last c.args.place image is payload (g.D.Disk.shown c.args.disk.now) (g.met.D.Disk.lawful c.args.disk.now tells) has
    (g.D.Disk.shown c.write_at.new.self) c.write_at.result (c.write_at.ensures.content tells)
    (g.D.Disk.shown c.sync.new.self) c.sync.result (c.sync.ensures.content told)).leaves

pub returns-clause-unsynced : goal.returns-clause-unsynced
returns-clause-unsynced g c tells image payload is has =
    let told = c.write_at.ensures.tells ∙ tells in
    last_unsynced c.args.place image is payload (g.D.Disk.shown c.args.disk.now) (g.met.D.Disk.lawful c.args.disk.now tells) has
    (g.D.Disk.shown c.write_at.new.self) c.write_at.result (c.write_at.ensures.content tells)
    (g.D.Disk.shown c.sync.new.self) c.sync.result (c.sync.ensures.content told)

pub returns-clause-ready : goal.returns-clause-ready
returns-clause-ready g c tells image payload is has =
    let told = c.write_at.ensures.tells ∙ tells in
    ready_then c.args.place image is payload (g.D.Disk.shown c.args.disk.now) (g.met.D.Disk.lawful c.args.disk.now tells) has
    (g.D.Disk.shown c.write_at.new.self) c.write_at.result (c.write_at.ensures.content tells)
    (g.D.Disk.shown c.sync.new.self) c.sync.result (c.sync.ensures.content told) (c.in_ok-write_at.ensures.content tells).written
