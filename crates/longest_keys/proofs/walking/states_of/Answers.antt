use Rattle.std.proofs.Common.{drop, arith}
use Rattle.longest_keys.proofs.WalkLemmas.{deepest_within, no_states, root_at_end, state_before}
use Rattle.longest_keys.proofs.walking.states_of.Goals as goal

pub loop-left-init : goal.loop-left-init
loop-left-init c = (
  omega arith,
  no_states c.args.nodes.now c.args.text.now c.in_ok-states.states.items (omega (arith, c.in_ok-states.ensures.len)),
  root_at_end c.args.nodes.now c.args.text.now,
)

pub after-at-requires-clause-within : goal.after-at-requires-clause-within
after-at-requires-clause-within c =
    let within = deepest_within c.args.nodes.now (drop c.loop-left.left c.args.text.now) c.loop-left.at c.requires.trie c.loop-left.invariant.2 in
    omega (arith, within, c.requires.size)

pub loop-left-preserved : goal.loop-left-preserved
loop-left-preserved c =
    state_before c.args.nodes.now c.args.text.now c.loop-left.states.items c.loop-left.left _ c.after-at.result (omega (arith, c.loop-left-test.true)) c.loop-left.invariant.0 c.loop-left.invariant.1
    (c.after-at.ensures.longest (drop c.loop-left.left c.args.text.now) c.loop-left.invariant.2)
