use Rattle.std.proofs.Common.{sym, refl, arith, ◌∙◌}
use Rattle.sim_cloud.specs.Simulated.{beside_of}
use Rattle.sim_cloud.proofs.Effects.{noted}
use Rattle.sim_cloud.proofs.Clauses.{gone_absent, leaving_at, left_at, left_absent}
use Rattle.sim_cloud.proofs.Inventories.{with_trace}
use Rattle.sim_cloud.proofs.inventory.Inventory.gone_now.Goals as goal

pub returns-in_ok-note-in-None-clause-gone : goal.returns-in_ok-note-in-None-clause-gone
returns-in_ok-note-in-None-clause-gone c _ =
    gone_absent c.args.self.now.held.all (beside_of c.args.self.now) (with_trace c.args.self.now c.note.new.trace) c.args.token.now (sym c.in-None.ensures) (noted c.args.self.now.held.all c.args.self.now.held.all (beside_of c.args.self.now) (with_trace c.args.self.now c.note.new.trace) _ c.in_ok-note-in-None.ensures.ok (omega arith) refl)

pub returns-in_ok-linger_at-in-Some-clause-not_yet : goal.returns-in_ok-linger_at-in-Some-clause-not_yet
returns-in_ok-linger_at-in-Some-clause-not_yet c _ =
    c.in_ok-linger_at-in-Some.ensures.ok c.get.result.now c.get.ensures c.if-get-gt0.true
    (leaving_at c.args.self.now.held.all (beside_of c.args.self.now) c.args.token.now c.in-Some.at c.get.result.now (sym c.in-Some.ensures) c.get.ensures c.requires)

pub returns-in_ok-let_go_at-in-Some-clause-gone : goal.returns-in_ok-let_go_at-in-Some-clause-gone
returns-in_ok-let_go_at-in-Some-clause-gone c _ =
    c.in_ok-let_go_at-in-Some.ensures.ok c.get.result.now c.get.ensures
    (leaving_at c.args.self.now.held.all (beside_of c.args.self.now) c.args.token.now c.in-Some.at c.get.result.now (sym c.in-Some.ensures) c.get.ensures c.requires)

pub returns-in_ok-note-in-None-clause-due : goal.returns-in_ok-note-in-None-clause-due
returns-in_ok-note-in-None-clause-due c _ = left_absent c.args.self.now.held.all c.args.token.now (sym c.in-None.ensures)

pub returns-in_ok-let_go_at-in-Some-clause-due : goal.returns-in_ok-let_go_at-in-Some-clause-due
returns-in_ok-let_go_at-in-Some-clause-due c _ =
    left_at c.args.self.now.held.all (beside_of c.args.self.now) c.args.token.now c.in-Some.at c.get.result.now (sym c.in-Some.ensures) c.get.ensures ∙ omega (arith, c.if-get-gt0.false)
