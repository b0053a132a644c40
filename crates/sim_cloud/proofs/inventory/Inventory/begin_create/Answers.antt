use Rattle.std.proofs.Common.{sym}
use Rattle.sim_cloud.specs.Simulated.{beside_of}
use Rattle.sim_cloud.proofs.Clauses.{create_there, create_new, made_there, made_new, on_ok}
use Rattle.sim_cloud.proofs.Inventories.{with_trace}
use Rattle.sim_cloud.proofs.inventory.Inventory.begin_create.Goals as goal

pub returns-in-Some-clause-effect : goal.returns-in-Some-clause-effect
returns-in-Some-clause-effect c = create_there c.args.self.now.held.all (beside_of c.args.self.now) (with_trace c.args.self.now c.note.new.trace) c.args.token.now c.args.kind.now.name c.args.props.now c.in-Some.field-0 (sym c.in-Some.ensures)

pub returns-in-Some-clause-made : goal.returns-in-Some-clause-made
returns-in-Some-clause-made c = made_there c.args.self.now.held.all (beside_of c.args.self.now) (with_trace c.args.self.now c.note.new.trace) c.args.token.now c.args.kind.now c.args.props.now c.args.left c.in-Some.field-0 (sym c.in-Some.ensures)

pub returns-in-None-clause-effect : goal.returns-in-None-clause-effect
returns-in-None-clause-effect c = on_ok c.add_noted.result c.add_noted.ensures.ok (λ held.
    rw held (create_new c.args.self.now.held.all (beside_of c.args.self.now) (beside_of c.add_noted.new.self) c.args.token.now c.args.kind.now c.args.props.now c.args.left (sym c.in-None.ensures) c.requires.room))

pub returns-in-None-clause-made : goal.returns-in-None-clause-made
returns-in-None-clause-made c = on_ok c.add_noted.result c.add_noted.ensures.ok (λ held.
    rw held (made_new c.args.self.now.held.all (beside_of c.args.self.now) (beside_of c.add_noted.new.self) c.args.token.now c.args.kind.now c.args.props.now c.args.left (sym c.in-None.ensures)))
