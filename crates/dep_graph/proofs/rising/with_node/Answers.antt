-- The copy is the list, and the node goes in there.
use Rattle.dep_graph.proofs.rising.with_node.Goals as goal

pub put_in-requires : goal.put_in-requires
put_in-requires c = rw (c.from_vec-nodes.ensures, c.in_ok-from_slice.ensures.items, c.as_slice.ensures) c.requires

pub returns : goal.returns
returns c =
    rw (c.from_vec-nodes.ensures, c.in_ok-from_slice.ensures.items, c.as_slice.ensures) at c.in_ok-put_in.ensures.ok
