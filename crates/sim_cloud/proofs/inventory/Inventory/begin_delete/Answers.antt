use Rattle.std.proofs.Common.{sym}
use Rattle.sim_cloud.specs.Simulated.{beside_of}
use Rattle.sim_cloud.proofs.Clauses.{delete_absent, delete_again, delete_first, sent_absent, sent_again, sent_first}
use Rattle.sim_cloud.proofs.Inventories.{with_trace}
use Rattle.sim_cloud.proofs.inventory.Inventory.begin_delete.Goals as goal

pub returns-in-None-clause-effect : goal.returns-in-None-clause-effect
returns-in-None-clause-effect c = delete_absent c.args.self.now.held.all (beside_of c.args.self.now) (with_trace c.args.self.now c.note.new.trace) c.args.token.now (sym c.in-None.ensures)

pub returns-in-None-clause-made : goal.returns-in-None-clause-made
returns-in-None-clause-made c = sent_absent c.args.self.now.held.all (beside_of c.args.self.now) (with_trace c.args.self.now c.note.new.trace) c.args.token.now c.args.left (sym c.in-None.ensures)

pub returns-then-not-get-clause-effect : goal.returns-then-not-get-clause-effect
returns-then-not-get-clause-effect c =
    rw (c.send_away.ensures c.get.result.now c.get.ensures) (delete_first c.args.self.now.held.all (beside_of c.args.self.now) (with_trace c.args.self.now c.note.new.trace) c.args.token.now c.args.left c.in-Some.at c.get.result.now (sym c.in-Some.ensures) c.get.ensures c.if-not-get.true)

pub returns-then-not-get-clause-made : goal.returns-then-not-get-clause-made
returns-then-not-get-clause-made c =
    rw (c.send_away.ensures c.get.result.now c.get.ensures) (sent_first c.args.self.now.held.all (beside_of c.args.self.now) (with_trace c.args.self.now c.note.new.trace) c.args.token.now c.args.left c.in-Some.at c.get.result.now (sym c.in-Some.ensures) c.get.ensures c.if-not-get.true)

pub returns-else-not-get-clause-effect : goal.returns-else-not-get-clause-effect
returns-else-not-get-clause-effect c = delete_again c.args.self.now.held.all (beside_of c.args.self.now) (with_trace c.args.self.now c.note.new.trace) c.args.token.now c.in-Some.at c.get.result.now (sym c.in-Some.ensures) c.get.ensures c.if-not-get.false

pub returns-else-not-get-clause-made : goal.returns-else-not-get-clause-made
returns-else-not-get-clause-made c = sent_again c.args.self.now.held.all (beside_of c.args.self.now) (with_trace c.args.self.now c.note.new.trace) c.args.token.now c.args.left c.in-Some.at c.get.result.now (sym c.in-Some.ensures) c.get.ensures c.if-not-get.false
