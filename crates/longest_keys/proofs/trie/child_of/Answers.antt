use Rattle.std.proofs.lemmas.Option.{slice_get-get_or}
use Rattle.longest_keys.proofs.TrieLemmas.{first_child, next_child, found_child, no_child}
use Rattle.longest_keys.proofs.trie.child_of.Goals as goal

pub loop-child-init : goal.loop-child-init
loop-child-init c =
    first_child c.args.nodes.now c.args.at c.args.byte _ c.requires.trie (slice_get-get_or c.args.nodes.now c.args.at _ c.requires.within)

pub returns-then-nodes-child : goal.returns-then-nodes-child
returns-then-nodes-child c =
    found_child c.args.nodes.now c.args.at c.args.byte c.loop-child.child _ c.loop-child.invariant c.loop-child-test.true
    (slice_get-get_or c.args.nodes.now c.loop-child.child _ c.loop-child.invariant.within) c.if-nodes-child.true

pub loop-child-smaller : goal.loop-child-smaller
loop-child-smaller c =
    (next_child c.args.nodes.now c.args.at c.args.byte c.loop-child.child _ c.requires.trie c.loop-child.invariant c.loop-child-test.true
    (slice_get-get_or c.args.nodes.now c.loop-child.child _ c.loop-child.invariant.within) c.if-nodes-child.false).1

pub loop-child-preserved : goal.loop-child-preserved
loop-child-preserved c =
    (next_child c.args.nodes.now c.args.at c.args.byte c.loop-child.child _ c.requires.trie c.loop-child.invariant c.loop-child-test.true
    (slice_get-get_or c.args.nodes.now c.loop-child.child _ c.loop-child.invariant.within) c.if-nodes-child.false).0

pub returns : goal.returns
returns c = no_child c.args.nodes.now c.args.at c.args.byte c.loop-child.child c.loop-child.invariant c.loop-child-test.false
