use Rattle.std.proofs.Common.{sym}
use Rattle.step_reads.proofs.ResendLemmas.{cleanup_resent, no_graph, no_stack, update_resent}
use Rattle.step_reads.proofs.resends.resent.Goals as goal

pub returns-in_default : goal.returns-in_default
returns-in_default c =
    no_graph c.args.s.now.state c.args.stack.now c.args.row (sym (rw c.in_default.is at c.graph.ensures))

pub returns-in_default-stack : goal.returns-in_default-stack
returns-in_default-stack c =
    no_stack c.args.s.now.state c.args.stack.now c.args.row (sym (rw c.in_default-stack.is at c.stack.ensures))

pub returns-in-Some-2 : goal.returns-in-Some-2
returns-in-Some-2 c =
    update_resent c.args.s.now.state c.args.stack.now c.args.row c.in-Some-stack.stack.now c.in-Some.graph.now
    c.in-Some-2.node
    (sym (rw c.in-Some-stack.is at c.stack.ensures)) (sym (rw c.in-Some.is at c.graph.ensures))
    (rw c.in-Some-2.is at c.in_ok-node.ensures)

pub returns-in_ok-waiting_cleanup-in-None : goal.returns-in_ok-waiting_cleanup-in-None
returns-in_ok-waiting_cleanup-in-None c =
    cleanup_resent c.args.s.now.state c.args.stack.now c.args.row c.in-Some-stack.stack.now c.in-Some.graph.now _
    (sym (rw c.in-Some-stack.is at c.stack.ensures)) (sym (rw c.in-Some.is at c.graph.ensures))
    (rw c.in-None.is at c.in_ok-node.ensures)
    c.in_ok-waiting_cleanup-in-None.ensures
