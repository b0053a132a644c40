-- The node is listed where its count came to none.
use Rattle.dep_graph.proofs.CountLemmas.{ListsReady-one}
use Rattle.dep_graph.proofs.taking.count_one.Goals as goal

pub returns-clause-ready : goal.returns-clause-ready
returns-clause-ready c =
    ListsReady-one _ _ _ _ _ _ c.requires.ready c.requires.within c.requires.marked c.requires.some
    c.in_ok-put_ready.ensures.none c.in_ok-put_ready.ensures.some
