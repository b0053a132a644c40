use Rattle.std.proofs.Common.{sym}
use Rattle.sim_cloud.specs.Simulated.{beside_of}
use Rattle.sim_cloud.proofs.Clauses.{not_placed, update_same, anew_same, on_ok}
use Rattle.sim_cloud.proofs.Inventories.{with_trace}
use Rattle.sim_cloud.proofs.inventory.Inventory.begin_update.Goals as goal

pub unreachable-requires : goal.unreachable-requires
unreachable-requires c = not_placed c.args.self.now.held.all (beside_of c.args.self.now) c.args.token.now (sym c.in-None.ensures) c.requires.there

pub returns-in_ok-copy-in-Some-clause-effect : goal.returns-in_ok-copy-in-Some-clause-effect
returns-in_ok-copy-in-Some-clause-effect c = on_ok c.note.result c.note.ensures.ok (λ _.
    update_same c.args.self.now.held.all (beside_of c.args.self.now) (with_trace c.args.self.now c.note.new.trace) c.args.token.now c.args.props.now c.in-Some.at c.get.result.now (sym c.in-Some.ensures) c.get.ensures (c.equals.ensures.0 c.if-equals.true))

pub returns-in_ok-copy-in-Some-clause-made : goal.returns-in_ok-copy-in-Some-clause-made
returns-in_ok-copy-in-Some-clause-made c = on_ok c.note.result c.note.ensures.ok (λ _.
    anew_same c.args.self.now.held.all (beside_of c.args.self.now) (with_trace c.args.self.now c.note.new.trace) c.args.token.now c.args.props.now c.args.left c.in-Some.at c.get.result.now (sym c.in-Some.ensures) c.get.ensures (c.equals.ensures.0 c.if-equals.true))
