use Rattle.std.proofs.Common.{refl}
use Rattle.hot_groups.specs.References.{rewritten, nodes_rewritten}
use Rattle.hot_groups.proofs.Listed.{one_more}
use Rattle.hot_groups.proofs.Rewrites.{members_more}
use Rattle.hot_groups.proofs.rewriting.+rewriting.Goals as goal

pub nodes_rewritten-loop-value-preserved : goal.nodes_rewritten-loop-value-preserved
nodes_rewritten-loop-value-preserved t c =
    rw (c.in_ok-push.ensures.ok, c.loop-value.invariant) (one_more (nodes_rewritten c.args.groups.now)
    (rewritten c.args.groups.now) refl (λ d ns. refl) c.args.values.now c.loop-value.value-index
    c.value-item.result _ c.loop-value-test.true c.value-item.is c.in_ok-rewritten.ensures)

pub members_rewritten-loop-member-preserved : goal.members_rewritten-loop-member-preserved
members_rewritten-loop-member-preserved t c =
    rw (c.in_ok-put.ensures.ok, c.in_ok-copy.ensures, c.loop-member.invariant) (members_more c.args.groups.now
    c.args.members.now c.loop-member.member-index c.member-item.result _ c.requires c.loop-member-test.true
    c.member-item.is c.in_ok-rewritten.ensures)
