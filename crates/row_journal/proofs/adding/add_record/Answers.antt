use Rattle.std.proofs.Common.{◌∙◌}
use Rattle.heat_disk.proofs.Moments.{joined}
use Rattle.row_journal.specs.Ends.{LeavesSealed, LeavesEither}
use Rattle.row_journal.proofs.Turning.{weaker}
use Rattle.row_journal.proofs.adding.add_record.Goals as goal

pub returns-in_err-stage-clause-any_moment : goal.returns-in_err-stage-clause-any_moment
returns-in_err-stage-clause-any_moment g c tells image payload is ready sized bytes =
    weaker (g.D.Disk.shown c.args.disk.now) (g.D.Disk.shown c.stage.new.disk) (LeavesSealed image) (LeavesEither image payload)
    (λ halves left. LeavesEither.without left) (c.stage.ensures.any_moment tells image is ready)

pub returns-clause-any_moment : goal.returns-clause-any_moment
returns-clause-any_moment g c tells image payload is ready sized bytes =
    let told = c.stage.ensures.tells ∙ tells in
    let staged = c.in_ok-stage.ensures.staged tells image payload is ready sized bytes in
    joined (g.D.Disk.shown c.args.disk.now) (g.D.Disk.shown c.stage.new.disk) (g.D.Disk.shown c.open_gate.new.disk) (LeavesEither image payload) (LeavesEither image payload)
    (weaker (g.D.Disk.shown c.args.disk.now) (g.D.Disk.shown c.stage.new.disk) (LeavesSealed image) (LeavesEither image payload)
    (λ halves left. LeavesEither.without left) (c.stage.ensures.any_moment tells image is ready))
    (c.open_gate.ensures.any_moment told image payload is staged) (λ halves left. left)

pub returns-in_err-stage-clause-unsynced : goal.returns-in_err-stage-clause-unsynced
returns-in_err-stage-clause-unsynced g c tells image payload is ready sized bytes = c.stage.ensures.unsynced tells image is ready

pub returns-clause-unsynced : goal.returns-clause-unsynced
returns-clause-unsynced g c tells image payload is ready sized bytes =
    c.open_gate.ensures.unsynced (c.stage.ensures.tells ∙ tells) image payload is (c.in_ok-stage.ensures.staged tells image payload is ready sized bytes)
