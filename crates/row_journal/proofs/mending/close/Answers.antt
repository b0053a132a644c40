use Rattle.std.proofs.Common.{◌∙◌}
use Rattle.row_journal.proofs.Settled.{at_end, first_leaves, first_unsynced, last_leaves, last_unsynced, last_ready, last_bytes}
use Rattle.row_journal.proofs.mending.close.Goals as goal

pub write_at-requires-clause-at : goal.write_at-requires-clause-at
write_at-requires-clause-at g c tells =
    let stands = c.requires.settled tells in
    at_end c.args.place stands.image stands.numbers (g.D.Disk.shown c.args.disk.now) (g.met.D.Disk.lawful c.args.disk.now tells) stands.settled

pub returns-in_err-write_at-clause-any_moment : goal.returns-in_err-write_at-clause-any_moment
returns-in_err-write_at-clause-any_moment g c tells image is settled tidy =
    (first_leaves c.args.place image is (g.D.Disk.shown c.args.disk.now) (g.met.D.Disk.lawful c.args.disk.now tells) settled
    (g.D.Disk.shown c.write_at.new.self) c.write_at.result (c.write_at.ensures.content tells) tidy).leaves

pub returns-clause-any_moment : goal.returns-clause-any_moment
returns-clause-any_moment g c tells image is settled tidy =
    let told = c.write_at.ensures.tells ∙ tells in
    (last_leaves c.args.place image is (g.D.Disk.shown c.args.disk.now) (g.met.D.Disk.lawful c.args.disk.now tells) settled
    (g.D.Disk.shown c.write_at.new.self) c.write_at.result (c.write_at.ensures.content tells)
    (g.D.Disk.shown c.sync.new.self) c.sync.result (c.sync.ensures.content told) tidy).leaves

pub returns-clause-ready : goal.returns-clause-ready
returns-clause-ready g c tells image is settled =
    let told = c.write_at.ensures.tells ∙ tells in
    last_ready c.args.place image is (g.D.Disk.shown c.args.disk.now) (g.met.D.Disk.lawful c.args.disk.now tells) settled
    (g.D.Disk.shown c.write_at.new.self) c.write_at.result (c.write_at.ensures.content tells)
    (g.D.Disk.shown c.sync.new.self) c.sync.result (c.sync.ensures.content told) (c.in_ok-write_at.ensures.content tells).written

pub returns-clause-bytes : goal.returns-clause-bytes
returns-clause-bytes g c tells image is settled =
    let told = c.write_at.ensures.tells ∙ tells in
    last_bytes c.args.place image is (g.D.Disk.shown c.args.disk.now) (g.met.D.Disk.lawful c.args.disk.now tells) settled
    (g.D.Disk.shown c.write_at.new.self) c.write_at.result (c.write_at.ensures.content tells)
    (g.D.Disk.shown c.sync.new.self) c.sync.result (c.sync.ensures.content told) (c.in_ok-write_at.ensures.content tells).written

pub returns-in_err-write_at-clause-unsynced : goal.returns-in_err-write_at-clause-unsynced
returns-in_err-write_at-clause-unsynced g c tells image is settled tidy =
    first_unsynced c.args.place image is (g.D.Disk.shown c.args.disk.now) (g.met.D.Disk.lawful c.args.disk.now tells) settled
    (g.D.Disk.shown c.write_at.new.self) c.write_at.result (c.write_at.ensures.content tells) tidy

pub returns-clause-unsynced : goal.returns-clause-unsynced
returns-clause-unsynced g c tells image is settled tidy =
    let told = c.write_at.ensures.tells ∙ tells in
    last_unsynced c.args.place image is (g.D.Disk.shown c.args.disk.now) (g.met.D.Disk.lawful c.args.disk.now tells) settled
    (g.D.Disk.shown c.write_at.new.self) c.write_at.result (c.write_at.ensures.content tells)
    (g.D.Disk.shown c.sync.new.self) c.sync.result (c.sync.ensures.content told) tidy
