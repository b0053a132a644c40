use Rattle.longest_keys.proofs.TrieLemmas.{IsNext}
use Rattle.longest_keys.proofs.trie.child_of.Given as goal

-- no child with the byte stands behind
abbrev pub invariant-loop-child : goal.invariant-loop-child
invariant-loop-child l = IsNext l.nodes l.at l.byte l.child

abbrev pub decreases-loop-child : goal.decreases-loop-child
decreases-loop-child l = l.child
