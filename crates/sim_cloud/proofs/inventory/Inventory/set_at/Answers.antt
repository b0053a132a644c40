use Rattle.sim_cloud.specs.Simulated.{beside_of}
use Rattle.sim_cloud.proofs.Clauses.{update_set, anew_set}
use Rattle.sim_cloud.proofs.Inventories.{with_trace}
use Rattle.sim_cloud.proofs.inventory.Inventory.set_at.Goals as goal

pub returns-clause-effect : goal.returns-clause-effect
returns-clause-effect c h at differs =
    rw (c.set.ensures h at, c.in_ok-copy.ensures) (update_set c.args.self.now.held.all (beside_of c.args.self.now) (with_trace c.args.self.now c.note.new.trace) c.args.token.now c.args.props.now c.in_ok-facts.facts c.args.left c.args.at h c.requires.at at differs)

pub returns-clause-made : goal.returns-clause-made
returns-clause-made c h at differs =
    rw (c.set.ensures h at, c.in_ok-copy.ensures, c.in_ok-facts.ensures h at) (anew_set c.args.self.now.held.all (beside_of c.args.self.now) (with_trace c.args.self.now c.note.new.trace) c.args.token.now c.args.props.now c.args.left c.args.at h c.requires.at at differs)
