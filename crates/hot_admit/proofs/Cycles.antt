-- What the search for an order answers, said of items.
use Rattle.std.proofs.Common.{◌≡◌, ◌<◌, ◌+◌, ℕ, List, [], ◌∷◌, ◌++◌, Option, Some, All, slice_get, length, get_or, take}
use Rattle.std.proofs.Common.{refl, sym, ap, ◌∙◌}
use Rattle.std.specs.Option.{option_map_or}
use Rattle.std.proofs.lemmas.Option.{slice_get_within}
use Rattle.std.proofs.lemmas.List.{take_more}
use Rattle.std.proofs.lemmas.List.Elements.{All-nil, All-cons}
use Rattle.heat_value.specs.declared.path.Step.{Step}
use Rattle.heat_value.specs.declared.path.Step.TheVariants.{Key}
use Rattle.dep_graph.specs.Edges.{Links, HasEdge, JoinsNodes}
use Rattle.dep_graph.specs.Paths.{Leads, IsCycle, Against}
use Rattle.dep_graph.specs.Orders.{Orders, FindsCycle}
use Rattle.heat_plan.specs.declared.item.Item.{Item}
use Rattle.traversal_graph.specs.Relations.{IsNeeded}
use Rattle.hot_admit.specs.Cycles.{HasNeeds, HasOrder, IsCycleOf, name_at, names_at}
use Rattle.hot_admit.proofs.Alike.{orders_alike, cycles_alike}
use Rattle.hot_admit.proofs.Edges.{needs_are_edges}

pub order_of_items : (is : List Item) (graph : Links) (order : List ℕ) → HasNeeds is (length is) graph
    → Orders (HasEdge graph) (length graph) order → HasOrder is
order_of_items is graph order has h =
    let same = needs_are_edges is graph has in (
      order,
      rw has.same at (orders_alike (HasEdge graph) (IsNeeded is) (λ x y. (same x y).0) (λ x y. (same x y).1)
          (length graph) order h),
    )

pub cycle_of_items : (is : List Item) (graph : Links) (cycle : List ℕ) (path : List Step)
    → HasNeeds is (length is) graph
    → FindsCycle (HasEdge graph) cycle → path ≡ names_at is cycle → IsCycleOf is path
cycle_of_items is graph cycle path has h made =
    let same = needs_are_edges is graph has in
    (cycle, cycles_alike (HasEdge graph) (IsNeeded is) (λ x y. (same x y).0) (λ x y. (same x y).1) cycle h, made)

-- ---- the nodes of a cycle are items

leads_within : (graph : Links) → JoinsNodes graph → (a : ℕ) (p : List ℕ) (b : ℕ)
    → Leads (Against (HasEdge graph)) a (p ++ b ∷ []) b
    → All (λ x. x < length graph) (a ∷ p)
leads_within graph joins a [] b h = All-cons (λ x. x < length graph) a [] (joins b a h.0).1
    (All-nil (λ x. x < length graph))
leads_within graph joins a (x ∷ p) b h = All-cons (λ y. y < length graph) a (x ∷ p) (joins x a h.0).1
    (leads_within graph joins x p b h.1)

cycle_within : (graph : Links) → JoinsNodes graph → (c : List ℕ) → IsCycle (Against (HasEdge graph)) c
    → All (λ x. x < length graph) c
cycle_within graph joins [] h = absurd h
cycle_within graph joins (x ∷ c) h = leads_within graph joins x c x h

-- each node of the graph of items is an item's place
joins_items : (is : List Item) (graph : Links) → HasNeeds is (length is) graph → JoinsNodes graph
joins_items is graph has x y h =
    let r = (needs_are_edges is graph has x y).0 h in (
      rw has.same (slice_get_within is x r.needed r.needed_at),
      rw has.same (slice_get_within is y r.needing r.needing_at),
    )

pub places_within : (is : List Item) (graph : Links) (cycle : List ℕ) → HasNeeds is (length is) graph
    → FindsCycle (HasEdge graph) cycle
    → All (λ p. p < length is) cycle
places_within is graph cycle has h = rw has.same at (cycle_within graph (joins_items is graph has) cycle h.back)

-- ---- the path of their names

names_push : (is : List Item) (ps : List ℕ) (p : ℕ) → names_at is (ps ++ p ∷ []) ≡ names_at is ps
    ++ Key (name_at is p) ∷ []
names_push is [] p = refl
names_push is (q ∷ ps) p = ap (λ (l : List Step). Key (name_at is q) ∷ l) (names_push is ps p)

pub names_more : (is : List Item) (ps : List ℕ) (n p : ℕ) (path : List Step) (name : List ℕ) → n < length ps
    → p ≡ get_or ps n p
    → path ≡ names_at is (take n ps) → name ≡ name_at is p → path ++ Key name ∷ [] ≡ names_at is (take (n + 1) ps)
names_more is ps n p path name below at so_far named =
    let more : take (n + 1) ps ≡ take n ps ++ p ∷ [] = take_more ps n p below
    ∙ ap (λ (w : ℕ). take n ps ++ w ∷ []) (sym at) in
    rw (more, names_push is (take n ps) p, so_far, named) refl

pub name_found : (is : List Item) (p : ℕ) (i : Item) → slice_get is p ≡ Some i → i.name ≡ name_at is p
name_found is p i at = sym (ap (λ (o : Option Item). option_map_or (λ (x : Item). x.name) o []) at)
