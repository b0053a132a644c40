-- The keys with the node in them are the list with the node put in.
use Rattle.dep_graph.proofs.ReadyLemmas.{rising_keys, PutsIn-keys}
use Rattle.dep_graph.proofs.ready.Ready.insert.Goals as goal

pub invariant_of-self-2 : goal.invariant_of-self-2
invariant_of-self-2 c = rising_keys _ c.insert.ensures.ordered

pub returns : goal.returns
returns c = rw (← c.self.view_is) (PutsIn-keys _ _ _ c.in_ok-insert.ensures.updates c.insert.ensures.ordered)
