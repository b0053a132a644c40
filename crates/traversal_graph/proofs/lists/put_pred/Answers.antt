-- One list is put in place of another.
use Rattle.std.proofs.Common.{◌≡◌, ◌<◌, length, get_or}
use Rattle.dep_graph.proofs.EdgeLemmas.{rising_read}
use Rattle.traversal_graph.proofs.NeighbourLemmas.{PutsPred-set, PutsPred-past}
use Rattle.traversal_graph.proofs.lists.put_pred.Goals as goal

-- the list stands where it was read
within : (c : goal.After-index-as_slice-at) → c.args.after < length c.args.all.now
within c = rw (← c.len.ensures) c.if-at-len.true

read : (c : goal.After-index-as_slice-at) → c.index-as_slice-at.result ≡ get_or c.args.all.now c.args.after c.index-as_slice-at.result
read c = rw c.as_slice.ensures at c.index-as_slice-at.is

pub with_node-requires : goal.with_node-requires
with_node-requires c = rising_read _ _ _ c.requires (within c) (read c)

pub returns-in_ok-preds : goal.returns-in_ok-preds
returns-in_ok-preds c =
    let lt : c.args.after < length c.args.all.now = rw (← c.len.ensures) c.if-at-len.true in
    rw c.set.ensures (PutsPred-set _ _ _ _ _ lt (rw c.as_slice.ensures at c.index-as_slice-at.is) c.in_ok-preds.ensures)

pub returns-else-at-len : goal.returns-else-at-len
returns-else-at-len c = PutsPred-past _ _ _ (rw (← c.len.ensures) c.if-at-len.false)
