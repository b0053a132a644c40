use Rattle.std.proofs.Common.{◌≡◌, ◌++◌, ◌∷◌, [], refl, arith}
use Rattle.heat_plan.specs.declared.calls.Request.TheVariants.{Poll}
use Rattle.heat_plan.specs.declared.calls.Answered.TheVariants.{Ready}
use Rattle.provider.specs.declared.traced.Traced.TheVariants.{Called}
use Rattle.sim_cloud.specs.Simulated.{beside_of}
use Rattle.sim_cloud.proofs.Effects.{noted}
use Rattle.sim_cloud.proofs.Clauses.{poll_ready, at_place}
use Rattle.sim_cloud.proofs.Inventories.{with_trace}
use Rattle.sim_cloud.proofs.inventory.Inventory.tell_at.Goals as goal

pub returns-clause-ok : goal.returns-clause-ok
returns-clause-ok c =
    let (h, here) = at_place c.args.self.now.held.all c.args.token.now c.args.at c.requires.at in
    let told : c.note.new.trace ≡ c.args.self.now.trace ++ Called c.args.token.now Poll (Ready c.args.facts) ∷ [] = rw (← c.in_ok-copy.ensures) c.in_ok-note.ensures.ok in
    rw (c.mark_ready.ensures h here, c.in_ok-kept.ensures)
    (poll_ready c.args.self.now.held.all (beside_of c.args.self.now) (with_trace c.args.self.now c.note.new.trace) c.args.token.now c.args.facts c.args.at h c.requires.at here (c.requires.steady h here)
    (noted _ _ (beside_of c.args.self.now) (with_trace c.args.self.now c.note.new.trace) _ told (omega arith) refl))
