use Rattle.std.proofs.Common.{◌∙◌}
use Rattle.row_journal.proofs.Recordings.{fits, past_still, on_any, at_first, first_unsynced, at_last, last_unsynced, is_durable, has_it}
use Rattle.row_journal.proofs.adding.stage.Goals as goal

pub write_at-requires-clause-at : goal.write_at-requires-clause-at
write_at-requires-clause-at g c tells = fits c.args.place (g.D.Disk.shown c.args.disk.now) (c.requires.ready tells)

pub returns-in_err-write_at-clause-any_moment : goal.returns-in_err-write_at-clause-any_moment
returns-in_err-write_at-clause-any_moment g c tells image is ready =
    (at_first c.args.place image is c.args.record_bytes.now (g.D.Disk.shown c.args.disk.now) (g.met.D.Disk.lawful c.args.disk.now tells) ready
    (g.D.Disk.shown c.write_at.new.self) c.write_at.result (c.write_at.ensures.content tells)).leaves

pub returns-in_err-write_at-clause-unsynced : goal.returns-in_err-write_at-clause-unsynced
returns-in_err-write_at-clause-unsynced g c tells image is ready =
    first_unsynced c.args.place image is c.args.record_bytes.now (g.D.Disk.shown c.args.disk.now) (g.met.D.Disk.lawful c.args.disk.now tells) ready
    (g.D.Disk.shown c.write_at.new.self) c.write_at.result (c.write_at.ensures.content tells)

pub returns-clause-any_moment : goal.returns-clause-any_moment
returns-clause-any_moment g c tells image is ready =
    let told = c.write_at.ensures.tells ∙ tells in
    (at_last c.args.place image is c.args.record_bytes.now (g.D.Disk.shown c.args.disk.now) (g.met.D.Disk.lawful c.args.disk.now tells) ready
    (g.D.Disk.shown c.write_at.new.self) c.write_at.result (c.write_at.ensures.content tells)
    (g.D.Disk.shown c.sync.new.self) c.sync.result (c.sync.ensures.content told)).leaves

pub returns-clause-unsynced : goal.returns-clause-unsynced
returns-clause-unsynced g c tells image is ready =
    let told = c.write_at.ensures.tells ∙ tells in
    last_unsynced c.args.place image is c.args.record_bytes.now (g.D.Disk.shown c.args.disk.now) (g.met.D.Disk.lawful c.args.disk.now tells) ready
    (g.D.Disk.shown c.write_at.new.self) c.write_at.result (c.write_at.ensures.content tells)
    (g.D.Disk.shown c.sync.new.self) c.sync.result (c.sync.ensures.content told)

pub returns-clause-staged : goal.returns-clause-staged
returns-clause-staged g c tells image payload is ready sized bytes =
    let told = c.write_at.ensures.tells ∙ tells in
    has_it c.args.place image is c.args.record_bytes.now (g.D.Disk.shown c.args.disk.now) (g.met.D.Disk.lawful c.args.disk.now tells) ready
    (g.D.Disk.shown c.write_at.new.self) c.write_at.result (c.write_at.ensures.content tells)
    (g.D.Disk.shown c.sync.new.self) c.sync.result (c.sync.ensures.content told) payload sized bytes (c.in_ok-write_at.ensures.content tells).written

pub returns-clause-durable : goal.returns-clause-durable
returns-clause-durable g c tells =
    let told = c.write_at.ensures.tells ∙ tells in
    let stands = c.requires.ready tells in
    is_durable c.args.place stands.image stands.numbers c.args.record_bytes.now (g.D.Disk.shown c.args.disk.now) (g.met.D.Disk.lawful c.args.disk.now tells) stands.ready
    (g.D.Disk.shown c.write_at.new.self) c.write_at.result (c.write_at.ensures.content tells)
    (g.D.Disk.shown c.sync.new.self) c.sync.result (c.sync.ensures.content told) (c.in_ok-write_at.ensures.content tells).written

pub returns-clause-at : goal.returns-clause-at
returns-clause-at g c tells =
    let told = c.write_at.ensures.tells ∙ tells in
    on_any c.sync.result
    (past_still c.args.place (g.D.Disk.shown c.args.disk.now) (c.requires.ready tells) c.args.record_bytes.now (g.D.Disk.shown c.write_at.new.self) (g.D.Disk.shown c.sync.new.self)
    (c.in_ok-write_at.ensures.content tells).written (c.sync.ensures.content told).alike.seen)
