use Rattle.std.proofs.Common.{List, subst}
use Rattle.longest_keys.specs.Tries.{IsEdge, LacksEdge}
use Rattle.longest_keys.specs.declared.trie.Node.{Node}
use Rattle.longest_keys.proofs.TrieLemmas.{same_grown}
use Rattle.longest_keys.proofs.trie.child_or_new.Goals as goal

pub returns-in-Some : goal.returns-in-Some
returns-in-Some c =
    same_grown c.args.nodes.now.items c.args.at c.args.byte c.in-Some.child c.requires.trie
    (subst (λ (ns : List Node). IsEdge ns c.args.at c.args.byte c.in-Some.child) c.as_slice.ensures.value c.in-Some.ensures)

pub add_child-requires-clause-none : goal.add_child-requires-clause-none
add_child-requires-clause-none c = subst (λ (ns : List Node). LacksEdge ns c.args.at c.args.byte) c.as_slice.ensures.value c.in-None.ensures
