-- A cycle of names is a loop of places, and the least name that is on one stands at the least such place.
use Rattle.std.proofs.Common.{◌≡◌, ◌⊎◌, ◌∙◌, ◌<◌, ◌≤◌, ℕ, zero, suc, List, [], ◌∷◌, ◌++◌, Some, None, Result}
use Rattle.std.proofs.Common.{Ok}
use Rattle.std.proofs.Common.{Err, slice_get, length, refl, sym, ap, subst, inl, inr, arith}
use Rattle.std.proofs.lemmas.Bool.{cases_lt}
use Rattle.std.specs.Cmp.Lexicographic.{slice_cmp}
use Rattle.std.specs.List.Sorted.{IsStrictlySortedBy}
use Rattle.std.specs.Ordering.{nat_cmp}
use Rattle.std.specs.declared.cmp.Ordering.TheVariants.{Less}
use Rattle.dep_graph.specs.Edges.{Links, HasEdge}
use Rattle.dep_graph.specs.Lists.{IsLeast}
use Rattle.dep_graph.specs.Orders.{Orders}
use Rattle.dep_graph.specs.Paths.{Leads, HasPath, IsAcyclic}
use Rattle.dep_graph.proofs.PathLemmas.{HasPath-refl, HasPath-push, HasPath-first, IsPath-weaker, leads_of}
use Rattle.dep_graph.proofs.PathLemmas.{no_loop, acyclic_from}
use Rattle.dep_graph.specs.Loops.{IsOnLoop}
use Rattle.heat_plan.specs.Order.{Rising}
use Rattle.heat_value.proofs.Searches.{lookup_placed, at_place}
use Rattle.heat_value.specs.Data.{Data, Members, keys_of, lookup, Rises}
use Rattle.heat_value.specs.Meaning.{members_of}
use Rattle.heat_value.specs.Places.{place}
use Rattle.heat_value.specs.declared.value.Member.{Member}
use Rattle.hot_admit.specs.Naming.{IsNamedBy, HasNames, IsNamingOrder}
use Rattle.eval_words.specs.Conditions.{Names, IsChain, IsOnCycle, IsLeastOnCycle}
use Rattle.hot_admit.proofs.Alike.{orders_alike}
use Rattle.hot_admit.proofs.Keyed.{named_at, behind_at}

-- the condition at the place has the name
abbrev pub Stands : Members → ℕ → List ℕ → Type 0
Stands conds p name = slice_get (keys_of conds) p ≡ Some name

-- the name of an expression is that of a condition
placed : (ms : List Member) (name : List ℕ) (d : Data) → Rises (members_of ms) → lookup name (members_of ms) ≡ Some d
    → (p : ℕ) × Stands (members_of ms) p name
placed ms name d up found = by (place name ms) refl
  where
    by : (r : Result ℕ ℕ) → place name ms ≡ r → (p : ℕ) × Stands (members_of ms) p name
    by (Ok p) is = (p, named_at name ms p is)
    by (Err p) is =
        let none : Some d ≡ None = sym found ∙ lookup_placed name ms up ∙ ap (λ (r : Result ℕ ℕ). at_place r ms) is in
        cc

-- ---- from names to places

first_of : (conds : Members) (a : List ℕ) (through : List (List ℕ)) (c : List ℕ) → IsChain conds a through c
    → (d : Data) × (lookup a conds ≡ Some d)
first_of conds a [] c h = (h.0, h.1)
first_of conds a (b ∷ bs) c h = (h.0.0, h.0.1)

-- the last edge of a path of places, and what leads to it
abbrev Ends : Members → ℕ → ℕ → Type 0
Ends conds from to = (x : ℕ) × IsNamedBy conds x to × HasPath (IsNamedBy conds) from x

ends : (ms : List Member) (a : List ℕ) (through : List (List ℕ)) (c : List ℕ) (p q : ℕ) → Rises (members_of ms)
    → Stands (members_of ms) p a → Stands (members_of ms) q c → IsChain (members_of ms) a through c
    → Ends (members_of ms) q p
ends ms a [] c p q up at_a at_c h = (
  q,
  record { named = c; naming = a; named_at = at_c; naming_at = at_a; names = h },
  HasPath-refl (IsNamedBy (members_of ms)) q,
)
ends ms a (b ∷ bs) c p q up at_a at_c h =
    let first = first_of (members_of ms) b bs c h.1 in
    let there = placed ms b first.0 up first.1 in
    let rest = ends ms b bs c there.0 q up there.1 at_c h.1 in (
      there.0,
      record { named = b; naming = a; named_at = there.1; naming_at = at_a; names = h.0 },
      HasPath-push (IsNamedBy (members_of ms)) q rest.0 there.0 rest.2 rest.1,
    )

closes : (E : ℕ → ℕ → Type 0) (p x : ℕ) → E x p → HasPath E p x → IsOnLoop E p
closes E p x edge path = by (HasPath-first E p x path)
  where
    by : (p ≡ x) ⊎ ((y : ℕ) × E p y × HasPath E y x) → IsOnLoop E p
    by (inl e) =
        let From : ℕ → Type 0 = λ z. E z p in
        record { next = p; edge = subst From (sym e) edge; back = HasPath-refl E p }
    by (inr h) = record { next = h.0; edge = h.1; back = HasPath-push E h.0 x p h.2 edge }

-- a condition on a cycle stands on a loop
pub loop_of_cycle : (ms : List Member) (name : List ℕ) → Rises (members_of ms) → IsOnCycle (members_of ms) name
    → (p : ℕ) × Stands (members_of ms) p name × IsOnLoop (IsNamedBy (members_of ms)) p
loop_of_cycle ms name up cycle =
    let first = first_of (members_of ms) name cycle.0 name cycle.1 in
    let there = placed ms name first.0 up first.1 in
    let way = ends ms name cycle.0 name there.0 there.0 up there.1 there.1 cycle.1 in
    (there.0, there.1, closes (IsNamedBy (members_of ms)) there.0 way.0 way.1 way.2)

-- ---- from places to names

chain_push : (conds : Members) (a : List ℕ) (through : List (List ℕ)) (b c : List ℕ) → IsChain conds a through b
    → Names conds b c → IsChain conds a (through ++ b ∷ []) c
chain_push conds a [] b c h names = (h, names)
chain_push conds a (x ∷ xs) b c h names = (h.0, chain_push conds x xs b c h.1 names)

one_name : (conds : Members) (p : ℕ) (a b : List ℕ) → Stands conds p a → Stands conds p b → a ≡ b
one_name conds p a b x y = let both : Some a ≡ Some b = sym x ∙ y in cc

names_of_edge : (conds : Members) (x y : ℕ) (a b : List ℕ) → IsNamedBy conds x y → Stands conds x a → Stands conds y b
    → Names conds b a
names_of_edge conds x y a b edge at_a at_b =
    subst (λ (z : List ℕ). Names conds z a) (one_name conds y edge.naming b edge.naming_at at_b)
    (subst (λ (z : List ℕ). Names conds edge.naming z) (one_name conds x edge.named a edge.named_at at_a) edge.names)

chained : (conds : Members) (x y : ℕ) (path : List ℕ) (to : ℕ) (a b : List ℕ) → IsNamedBy conds x y
    → Leads (IsNamedBy conds) y path to → Stands conds x a → Stands conds to b
    → (through : List (List ℕ)) × IsChain conds b through a
chained conds x y [] to a b edge same at_a at_b =
    ([], names_of_edge conds x y a b edge at_a (subst (λ (z : ℕ). Stands conds z b) (sym same) at_b))
chained conds x y (z ∷ path) to a b edge way at_a at_b =
    let rest = chained conds y z path to edge.naming b way.0 way.1 edge.naming_at at_b in (
      rest.0 ++ edge.naming ∷ [],
      chain_push conds b rest.0 edge.naming a rest.1 (names_of_edge conds x y a edge.naming edge at_a edge.naming_at),
    )

-- the condition that stands on a loop is on a cycle
pub cycle_of_loop : (conds : Members) (p : ℕ) (name : List ℕ) → Stands conds p name → IsOnLoop (IsNamedBy conds) p
    → IsOnCycle conds name
cycle_of_loop conds p name at loop =
    let way = leads_of (IsNamedBy conds) loop.next p loop.back in
    chained conds p loop.next way.0 p name name loop.edge way.1 at at

-- ---- the graph's loops

pub loop_alike : (E F : ℕ → ℕ → Type 0) → ((x y : ℕ) → E x y → F x y) → (node : ℕ) → IsOnLoop E node → IsOnLoop F node
loop_alike E F to node loop = record {
  next = loop.next;
  edge = to node loop.next loop.edge;
  back = (loop.back.0, IsPath-weaker E F to loop.next node loop.back.0 loop.back.1);
}

-- what stands at a later place has a greater name
later : (names : List (List ℕ)) (i j : ℕ) (a b : List ℕ) → Rising names → i < j → slice_get names i ≡ Some a
    → slice_get names j ≡ Some b → slice_cmp nat_cmp a b ≡ Less
unfolding IsStrictlySortedBy
later [] i j a b up below at_a at_b = cc
later (n ∷ ns) i zero a b up below at_a at_b = absurd (omega (arith, below))
later (n ∷ ns) zero (suc j) a b up below at_a at_b =
    let is : n ≡ a = cc in
    subst (λ (z : List ℕ). slice_cmp nat_cmp z b ≡ Less) is (behind_at n ns j b up.0 at_b)
later (n ∷ ns) (suc i) (suc j) a b up below at_a at_b = later ns i j a b up.1 (omega (arith, below)) at_a at_b

pair_rises : (a b : List ℕ) → slice_cmp nat_cmp a b ≡ Less → Rising (a ∷ b ∷ [])
unfolding IsStrictlySortedBy
pair_rises a b less = ((less, tt), (tt, tt))

-- the condition at the least place on a loop is the least on a cycle
pub least_of_loops : (ms : List Member) (graph : Links) (p : ℕ) (name : List ℕ) → Rises (members_of ms)
    → HasNames (members_of ms) graph → Stands (members_of ms) p name → IsLeast (IsOnLoop (HasEdge graph)) p
    → IsLeastOnCycle (members_of ms) name
least_of_loops ms graph p name up has at least = record {
  cycle = cycle_of_loop (members_of ms) p name at
      (loop_alike (HasEdge graph) (IsNamedBy (members_of ms)) (λ x y. (has.edges x y).0) p least.is);
  least = λ other cycle. compared other (loop_of_cycle ms other up cycle);
}
  where
    compared : (other : List ℕ)
        → (q : ℕ) × Stands (members_of ms) q other × IsOnLoop (IsNamedBy (members_of ms)) q
        → (other ≡ name) ⊎ Rising (name ∷ other ∷ [])
    compared other (q, there, loop) = by (cases_lt p q)
      where
        lowest : p ≤ q
        lowest = least.least q
            (loop_alike (IsNamedBy (members_of ms)) (HasEdge graph) (λ x y. (has.edges x y).1) q loop)

        by : (p < q) ⊎ (q ≤ p) → (other ≡ name) ⊎ Rising (name ∷ other ∷ [])
        by (inl lt) = inr (pair_rises name other (later (keys_of (members_of ms)) p q name other up lt at there))
        by (inr le) =
            let same : q ≡ p = omega (arith, le, lowest) in
            inl (one_name (members_of ms) p other name
            (subst (λ (z : ℕ). Stands (members_of ms) z other) same there) at)

-- ---- orders

-- where no edges form a cycle no condition is on one
pub none_cyclic : (ms : List Member) → Rises (members_of ms) → IsAcyclic (IsNamedBy (members_of ms)) → (name : List ℕ)
    → IsOnCycle (members_of ms) name → ⊥
none_cyclic ms up acyclic name cycle =
    let h = loop_of_cycle ms name up cycle in
    no_loop (IsNamedBy (members_of ms)) acyclic h.0 (h.2.next, h.2.edge, h.2.back)

-- where no node is on a loop no edges form a cycle
pub acyclic_graph : (graph : Links) → ((node : ℕ) → IsOnLoop (HasEdge graph) node → ⊥) → IsAcyclic (HasEdge graph)
acyclic_graph graph none =
    acyclic_from (HasEdge graph) (λ node h. none node (record { next = h.0; edge = h.1; back = h.2 }))

pub order_of_names : (conds : Members) (graph : Links) (order : List ℕ) → HasNames conds graph
    → Orders (HasEdge graph) (length graph) order → IsNamingOrder conds order
order_of_names conds graph order has h =
    rw has.same at (orders_alike (HasEdge graph) (IsNamedBy conds) (λ x y. (has.edges x y).0) (λ x y. (has.edges x y).1)
    (length graph) order h)
