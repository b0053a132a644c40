use Rattle.std.proofs.Common.{sym, ap, refl, ◌∙◌, Some}
use Rattle.sim_cloud.specs.Simulated.{beside_of, delay_for}
use Rattle.sim_cloud.proofs.Clauses.{found, unplaced}
use Rattle.sim_cloud.proofs.Effects.{shows}
use Rattle.sim_cloud.proofs.sim_cloud.SimCloud.delay.Goals as goal

pub returns-in-Some-clause-polls : goal.returns-in-Some-clause-polls
returns-in-Some-clause-polls c =
    c.delay.ensures.polls ∙ sym (ap (delay_for c.args.self.now) (shows c.args.self.now.all.held.all (beside_of c.args.self.now.all) c.args.token.now (Some c.get.result.now)
    (found c.args.self.now.all.held.all c.args.token.now c.in-Some.at c.get.result.now (sym c.in-Some.ensures) c.get.ensures)))

pub returns-in-None-clause-polls : goal.returns-in-None-clause-polls
returns-in-None-clause-polls c =
    sym (ap (delay_for c.args.self.now) (unplaced c.args.self.now.all.held.all (beside_of c.args.self.now.all) c.args.token.now (sym c.in-None.ensures)))
