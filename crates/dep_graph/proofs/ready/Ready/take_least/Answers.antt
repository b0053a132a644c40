use Rattle.dep_graph.proofs.ReadyLemmas.{rising_keys}
use Rattle.dep_graph.proofs.ready.Ready.take_least.Goals as goal

pub invariant_of-self : goal.invariant_of-self
invariant_of-self c = rising_keys _ c.pop_first.ensures.ordered
