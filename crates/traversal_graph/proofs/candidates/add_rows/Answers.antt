-- Each turn adds the fan of one item more.
use Rattle.std.proofs.Common.{ap, ◌∙◌, ℕ, List, [], ◌≡◌, ◌<◌, length, get_or, arith}
use Rattle.std.proofs.lemmas.List.{get_or_read}
use Rattle.traversal_graph.specs.Candidates.{edges_out}
use Rattle.traversal_graph.proofs.FanLemmas.{Adds-all, Adds-fan, Adds-more, Adds-none}
use Rattle.traversal_graph.proofs.OwnerLemmas.{item_at, owned_rows}
use Rattle.traversal_graph.proofs.candidates.add_rows.Goals as goal

pub loop-place-init : goal.loop-place-init
loop-place-init c = Adds-none _ _

-- there are as many lists as items
inside : (c : goal.In_ok-push) → c.loop-place.place < length c.args.items.now
inside c = omega (arith, c.loop-place-test.true, c.in_ok-by_item.ensures.size, ap (λ (l : List (List ℕ)). length l) c.deref-nodes-items.ensures.value)

-- the fan has the item's list
nodes_are : (c : goal.In_ok-push) → c.from_vec-nodes.result ≡ get_or c.in_ok-by_item.by_item.items c.loop-place.place []
nodes_are c =
    c.from_vec-nodes.ensures ∙ c.in_ok-from_slice.ensures.items ∙ c.as_slice.ensures
    ∙ get_or_read _ _ _ c.loop-place-test.true c.nodes-item.is []
    ∙ ap (λ (l : List (List ℕ)). get_or l c.loop-place.place []) c.deref-nodes-items.ensures.value

pub loop-place-preserved : goal.loop-place-preserved
loop-place-preserved c =
    let item = item_at c.args.items.now c.loop-place.place (inside c) in
    Adds-more _ c.args.items.now c.loop-place.place item.0 _ _ _ _ (inside c) item.1 c.loop-place.invariant
    (Adds-fan _ _ _ _ _ c.in_ok-push.ensures.ok
    (ap (λ (l : List ℕ). edges_out c.loop-place.place l) (nodes_are c)
    ∙ c.in_ok-by_item.ensures.each_item c.loop-place.place (inside c)
    ∙ owned_rows c.args.items.now c.args.rows.now _ c.loop-place.place item.0 c.requires.rising (inside c) item.1)
    (omega (arith, inside c), rw (nodes_are c) (c.in_ok-by_item.ensures.within c.loop-place.place)))

pub returns : goal.returns
returns c =
    Adds-all _ c.args.items.now c.loop-place.place _ _ _
    (omega (arith, c.loop-place-test.false, c.in_ok-by_item.ensures.size, ap (λ (l : List (List ℕ)). length l) c.deref-nodes-items.ensures.value))
    c.loop-place.invariant
