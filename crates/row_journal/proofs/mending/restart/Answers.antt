use Rattle.std.proofs.Common.{◌∙◌}
use Rattle.row_journal.proofs.Restart.{after_cut, cut_unsynced, after_write, write_unsynced, after_sync, sync_unsynced, after_ready, after_bytes}
use Rattle.row_journal.proofs.mending.restart.Goals as goal

pub returns-in_err-cut-clause-any_moment : goal.returns-in_err-cut-clause-any_moment
returns-in_err-cut-clause-any_moment g c tells image is settled =
    (after_cut c.args.place image is (g.D.Disk.shown c.args.disk.now) (g.met.D.Disk.lawful c.args.disk.now tells) settled
    (g.D.Disk.shown c.cut.new.self) c.cut.result (c.cut.ensures.content tells)).leaves

pub returns-in_err-write_at-clause-any_moment : goal.returns-in_err-write_at-clause-any_moment
returns-in_err-write_at-clause-any_moment g c tells image is settled =
    let told = c.cut.ensures.tells ∙ tells in
    (after_write c.args.place image is (g.D.Disk.shown c.args.disk.now) (g.met.D.Disk.lawful c.args.disk.now tells) settled
    (g.D.Disk.shown c.cut.new.self) c.cut.result (c.cut.ensures.content tells)
    (g.D.Disk.shown c.write_at.new.self) c.write_at.result (c.write_at.ensures.content told)).leaves

pub returns-clause-any_moment : goal.returns-clause-any_moment
returns-clause-any_moment g c tells image is settled =
    let told = c.cut.ensures.tells ∙ tells in
    let told_written = c.write_at.ensures.tells ∙ told in
    (after_sync c.args.place image is (g.D.Disk.shown c.args.disk.now) (g.met.D.Disk.lawful c.args.disk.now tells) settled
    (g.D.Disk.shown c.cut.new.self) c.cut.result (c.cut.ensures.content tells)
    (g.D.Disk.shown c.write_at.new.self) c.write_at.result (c.write_at.ensures.content told)
    (g.D.Disk.shown c.sync.new.self) c.sync.result (c.sync.ensures.content told_written)).leaves

pub returns-clause-ready : goal.returns-clause-ready
returns-clause-ready g c tells image is settled =
    let told = c.cut.ensures.tells ∙ tells in
    let told_written = c.write_at.ensures.tells ∙ told in
    after_ready c.args.place image is (g.D.Disk.shown c.args.disk.now) (g.met.D.Disk.lawful c.args.disk.now tells) settled
    (g.D.Disk.shown c.cut.new.self) c.cut.result (c.cut.ensures.content tells)
    (g.D.Disk.shown c.write_at.new.self) c.write_at.result (c.write_at.ensures.content told)
    (g.D.Disk.shown c.sync.new.self) c.sync.result (c.sync.ensures.content told_written)
    (c.in_ok-cut.ensures.content tells).cut (c.in_ok-write_at.ensures.content told).written

pub returns-clause-bytes : goal.returns-clause-bytes
returns-clause-bytes g c tells image is settled =
    let told = c.cut.ensures.tells ∙ tells in
    let told_written = c.write_at.ensures.tells ∙ told in
    after_bytes c.args.place image is (g.D.Disk.shown c.args.disk.now) (g.met.D.Disk.lawful c.args.disk.now tells) settled
    (g.D.Disk.shown c.cut.new.self) c.cut.result (c.cut.ensures.content tells)
    (g.D.Disk.shown c.write_at.new.self) c.write_at.result (c.write_at.ensures.content told)
    (g.D.Disk.shown c.sync.new.self) c.sync.result (c.sync.ensures.content told_written)
    (c.in_ok-cut.ensures.content tells).cut (c.in_ok-write_at.ensures.content told).written

pub returns-in_err-cut-clause-unsynced : goal.returns-in_err-cut-clause-unsynced
returns-in_err-cut-clause-unsynced g c tells image is settled =
    cut_unsynced c.args.place image is (g.D.Disk.shown c.args.disk.now) (g.met.D.Disk.lawful c.args.disk.now tells) settled
    (g.D.Disk.shown c.cut.new.self) c.cut.result (c.cut.ensures.content tells)

pub returns-in_err-write_at-clause-unsynced : goal.returns-in_err-write_at-clause-unsynced
returns-in_err-write_at-clause-unsynced g c tells image is settled =
    let told = c.cut.ensures.tells ∙ tells in
    write_unsynced c.args.place image is (g.D.Disk.shown c.args.disk.now) (g.met.D.Disk.lawful c.args.disk.now tells) settled
    (g.D.Disk.shown c.cut.new.self) c.cut.result (c.cut.ensures.content tells)
    (g.D.Disk.shown c.write_at.new.self) c.write_at.result (c.write_at.ensures.content told)

pub returns-clause-unsynced : goal.returns-clause-unsynced
returns-clause-unsynced g c tells image is settled =
    let told = c.cut.ensures.tells ∙ tells in
    let told_written = c.write_at.ensures.tells ∙ told in
    sync_unsynced c.args.place image is (g.D.Disk.shown c.args.disk.now) (g.met.D.Disk.lawful c.args.disk.now tells) settled
    (g.D.Disk.shown c.cut.new.self) c.cut.result (c.cut.ensures.content tells)
    (g.D.Disk.shown c.write_at.new.self) c.write_at.result (c.write_at.ensures.content told)
    (g.D.Disk.shown c.sync.new.self) c.sync.result (c.sync.ensures.content told_written)
