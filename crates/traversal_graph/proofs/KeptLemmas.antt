-- Candidates that form no cycle together are all kept, and what is kept once stays.
use Rattle.std.proofs.Common.{◌≡◌, ◌⊎◌, ℕ, zero, suc, ◌+◌, ◌<◌, ◌≤◌, Bool, true, false, cond, Some, None, Option, List, [], ◌∷◌, ◌++◌, length, get_or, take, drop, refl, sym, ap, subst, ◌∙◌, inl, inr, append_assoc, arith}
use Rattle.std.specs.Prelude.{Contains, nat_lt, slice_get}
use Rattle.std.specs.Str.{bytes_eq}
use Rattle.std.specs.Option.{option_map_or}
use Rattle.std.proofs.lemmas.Bool.{lt-ltb, le-ltb}
use Rattle.std.proofs.lemmas.List.{append-nil, same_from_push, take_all, take_more, take-append-drop}
use Rattle.std.proofs.lemmas.List.Elements.{Contains-append_left, Contains-append_right, Contains-append_cases, Contains-push, Contains-push_cases}
use Rattle.std.proofs.lemmas.Option.{slice_get_within}
use Rattle.dep_graph.specs.Paths.{IsAcyclic, HasPath}
use Rattle.dep_graph.proofs.PathLemmas.{HasPath-leads, Leads-weaker, leads_of, acyclic_from, no_loop}
use Rattle.heat_plan.specs.Order.{Rising}
use Rattle.heat_plan.specs.Plans.{names_of, IsPlan, IsListing}
use Rattle.heat_plan.specs.declared.item.Item.{Item}
use Rattle.traversal_graph.specs.declared.brief.RowBrief.{RowBrief}
use Rattle.traversal_graph.specs.declared.shape.TravGraph.{TravGraph}
use Rattle.traversal_graph.specs.Builds.{Joins, Considers, Keeps}
use Rattle.traversal_graph.specs.Builds.Keeps.{begins, goes_on}
use Rattle.traversal_graph.specs.Candidates.{place_of, need_edges, row_edges, require_edges, replace_edges, candidates}
use Rattle.traversal_graph.specs.Nodes.{IsBuilt}
use Rattle.traversal_graph.specs.Relations.{IsNeeded, IsRowOf}
use Rattle.traversal_graph.proofs.NeedMembers.{place_at, in_needs, in_rows}
use Rattle.traversal_graph.proofs.Listings.{acyclic_by_rank, rank_in, ranks_rise}

abbrev Pairs : Type 0
Pairs = List (ℕ × ℕ)

-- a list is empty or has a last pair
last_pair : (l : Pairs) → (l ≡ []) ⊎ ((front : Pairs) × (z : ℕ × ℕ) × (l ≡ front ++ z ∷ []))
last_pair [] = inl refl
last_pair (x ∷ l) = elim (last_pair l) [
  | inl e ↦ inr ([], x, ap (λ (m : Pairs). x ∷ m) e)
  | inr h ↦ inr (x ∷ h.0, h.1, ap (λ (m : Pairs). x ∷ m) h.2)
]

pub acyclic_weaker : (E F : ℕ → ℕ → Type 0) → ((x y : ℕ) → E x y → F x y) → IsAcyclic F → IsAcyclic E
acyclic_weaker E F f acyclic = acyclic_from E (λ a loop.
    let p = leads_of E loop.0 a loop.2 in
    no_loop F acyclic a (loop.0, f a loop.0 loop.1, HasPath-leads F loop.0 p.0 a (Leads-weaker E F f loop.0 p.0 a p.1)))

-- all but the last of candidates that form no cycle form none
fewer : (front earlier : Pairs) (last : ℕ × ℕ) → front ≡ earlier ++ last ∷ [] → IsAcyclic (Joins front) → IsAcyclic (Joins earlier)
fewer front earlier last is acyclic = acyclic_weaker (Joins earlier) (Joins front)
    (λ x y m. (let C : Pairs → Type 0 = λ l. Contains l (x, y) in subst C (sym is) (Contains-append_left earlier (last ∷ []) (x, y) m))) acyclic

-- what was kept stays kept
kept_more : (mid kept : Pairs) (before after : ℕ) → Considers mid before after kept → (p : ℕ × ℕ) → Contains mid p → Contains kept p
kept_more mid kept before after (inl h) p c = let C : Pairs → Type 0 = λ l. Contains l p in subst C (sym h.1) c
kept_more mid kept before after (inr h) p c = let C : Pairs → Type 0 = λ l. Contains l p in subst C (sym h.1) (Contains-append_left mid ((before, after) ∷ []) p c)

-- nothing but candidates is kept
only_of_step : (earlier mid kept : Pairs) (before after : ℕ) (p : ℕ × ℕ) → Considers mid before after kept → (Contains mid p → Contains earlier p)
    → Contains kept p → Contains (earlier ++ (before, after) ∷ []) p
only_of_step earlier mid kept before after p (inl k) from m =
    let D : Pairs → Type 0 = λ l. Contains l p in
    Contains-append_left earlier ((before, after) ∷ []) p (from (subst D k.1 m))
only_of_step earlier mid kept before after p (inr k) from m =
    let D : Pairs → Type 0 = λ l. Contains l p in
    elim (Contains-append_cases mid ((before, after) ∷ []) p (subst D k.1 m)) [
      | inl l ↦ Contains-append_left earlier ((before, after) ∷ []) p (from l)
      | inr l ↦ Contains-append_right earlier ((before, after) ∷ []) p l
    ]

kept_only : (cs kept : Pairs) → Keeps [] cs kept → (p : ℕ × ℕ) → Contains kept p → Contains cs p
kept_only cs kept (begins c k none is) p m = let C : Pairs → Type 0 = λ l. Contains l p in subst C (is ∙ sym none) m
kept_only cs kept (goes_on earlier mid c k before after h step is) p m =
    let C : Pairs → Type 0 = λ l. Contains l p in
    subst C (sym is) (only_of_step earlier mid k before after p step (kept_only earlier mid h p) m)

-- the last candidate of those that form no cycle is kept
last_kept : (front earlier mid kept : Pairs) (before after : ℕ) → IsAcyclic (Joins front) → front ≡ earlier ++ (before, after) ∷ []
    → ((p : ℕ × ℕ) → Contains mid p → Contains earlier p) → Considers mid before after kept → Contains kept (before, after)
last_kept front earlier mid kept before after acyclic is only (inr k) =
    let C : Pairs → Type 0 = λ l. Contains l (before, after) in subst C (sym k.1) (Contains-push mid (before, after))
last_kept front earlier mid kept before after acyclic is only (inl k) =
    let p = leads_of (Joins mid) after before k.0 in
    let C : ℕ → ℕ → Pairs → Type 0 = λ x y l. Contains l (x, y) in
    let up : (x y : ℕ) → Joins mid x y → Joins front x y = λ x y m. subst (C x y) (sym is) (Contains-append_left earlier ((before, after) ∷ []) (x, y) (only (x, y) m)) in
    absurd (no_loop (Joins front) acyclic before (
      after,
      subst (C before after) (sym is) (Contains-push earlier (before, after)),
      HasPath-leads (Joins front) after p.0 before (Leads-weaker (Joins mid) (Joins front) up after p.0 before p.1),
    ))

-- candidates in front that form no cycle are kept
pub front_kept : (all kept : Pairs) → Keeps [] all kept → (front rest : Pairs) → all ≡ front ++ rest → IsAcyclic (Joins front)
    → (p : ℕ × ℕ) → Contains front p → Contains kept p
front_kept all kept (begins c k none is) front rest e acyclic p m =
    let C : Pairs → Type 0 = λ l. Contains l p in
    let nowhere : Contains {X = ℕ × ℕ} [] p = subst C (sym e ∙ none) (Contains-append_left front rest p m) in
    absurd (omega (arith, nowhere.1))
front_kept all kept (goes_on earlier mid c k before after h step is) front rest e acyclic p m =
    elim (last_pair rest) [
      | inl none ↦ (let whole : front ≡ earlier ++ (before, after) ∷ [] = sym (append-nil front) ∙ ap (λ (l : Pairs). front ++ l) (sym none) ∙ sym e ∙ is in
          let C : Pairs → Type 0 = λ l. Contains l p in
          elim (Contains-push_cases earlier (before, after) p (subst C whole m)) [
            | inl l ↦ kept_more mid k before after step p (front_kept earlier mid h earlier [] (sym (append-nil earlier)) (fewer front earlier (before, after) whole acyclic) p l)
            | inr same ↦ (let K : ℕ × ℕ → Type 0 = λ z. Contains k z in
                subst K same (last_kept front earlier mid k before after acyclic whole (kept_only earlier mid h) step))
          ])
      | inr last ↦ (let parted = same_from_push earlier (front ++ last.0) (before, after) last.1
          (sym is ∙ e ∙ ap (λ (l : Pairs). front ++ l) last.2 ∙ sym (append_assoc front last.0 (last.1 ∷ []))) in
          kept_more mid k before after step p (front_kept earlier mid h front last.0 parted.0 acyclic p m))
    ]

-- candidates that form no cycle are kept, each
kept_before : (cs : Pairs) → IsAcyclic (Joins cs) → (n : ℕ) → n ≤ length cs → Keeps [] (take n cs) (take n cs)
kept_before cs acyclic zero le = begins [] [] refl refl
kept_before cs acyclic (suc n) le =
    let next : ℕ × ℕ = get_or cs n (0, 0) in
    let more : take (suc n) cs ≡ take n cs ++ next ∷ [] = ap (λ (m : ℕ). take m cs) {x = suc n} {y = n + 1} (omega arith) ∙ take_more cs n (0, 0) (omega arith) in
    goes_on (take n cs) (take n cs) (take (suc n) cs) (take (suc n) cs) next.0 next.1 (kept_before cs acyclic n (omega arith))
    (inr (open_ cs acyclic (take n cs) (drop (suc n) cs) next (sym (take-append-drop (suc n) cs) ∙ ap (λ (l : Pairs). l ++ drop (suc n) cs) more), more)) more
  where
    open_ : (cs : Pairs) → IsAcyclic (Joins cs) → (front back : Pairs) (next : ℕ × ℕ) → cs ≡ (front ++ next ∷ []) ++ back
        → HasPath (Joins front) next.1 next.0 → ⊥
    open_ cs acyclic front back next is h =
        let p = leads_of (Joins front) next.1 next.0 h in
        let C : ℕ × ℕ → Pairs → Type 0 = λ z l. Contains l z in
        let up : (x y : ℕ) → Joins front x y → Joins cs x y = λ x y m.
        subst (C (x, y)) (sym is) (Contains-append_left (front ++ next ∷ []) back (x, y) (Contains-append_left front (next ∷ []) (x, y) m)) in
        no_loop (Joins cs) acyclic next.0 (
          next.1,
          subst (C (next.0, next.1)) (sym is) (Contains-append_left (front ++ next ∷ []) back (next.0, next.1) (Contains-push front next)),
          HasPath-leads (Joins cs) next.1 p.0 next.0 (Leads-weaker (Joins front) (Joins cs) up next.1 p.0 next.0 p.1),
        )

pub keeps_all : (cs : Pairs) → IsAcyclic (Joins cs) → Keeps [] cs cs
keeps_all cs acyclic =
    let whole : take (length cs) cs ≡ cs = take_all (length cs) cs (omega arith) in
    rw whole at (kept_before cs acyclic (length cs) (omega arith))

-- ---- a plan's

-- a name's place is at most past all
place_at_most : (items : List Item) (name : List ℕ) → place_of items name ≤ length items
place_at_most [] name = omega arith
place_at_most (x ∷ items) name = by (bytes_eq name x.name) refl (place_at_most items name)
  where
    by : (b : Bool) → bytes_eq name x.name ≡ b → place_of items name ≤ length items → place_of (x ∷ items) name ≤ length (x ∷ items)
    by true e le = omega (arith, place_at x items name true e)
    by false e le = omega (arith, place_at x items name false e, le)

rank_at_most : (items listed : List Item) (x : ℕ) → rank_in items listed x ≤ length listed
rank_at_most items listed x = by (slice_get items x)
  where
    by : (o : Option Item) → option_map_or (λ (i : Item). place_of listed i.name) o (length listed) ≤ length listed
    by None = omega arith
    by (Some i) = place_at_most listed i.name

-- the rank of an update node, and of any clean-up node behind them all
abbrev node_rank : List Item → List Item → ℕ → ℕ
node_rank items listed x = cond (nat_lt x (length items)) (rank_in items listed x) (length listed + 1)

rank_update : (items listed : List Item) (x : ℕ) → x < length items → node_rank items listed x ≡ rank_in items listed x
rank_update items listed x lt = ap (λ (b : Bool). cond b (rank_in items listed x) (length listed + 1)) (lt-ltb x (length items) lt)

rank_cleanup : (items listed : List Item) (x : ℕ) → length items ≤ x → node_rank items listed x ≡ length listed + 1
rank_cleanup items listed x le = ap (λ (b : Bool). cond b (rank_in items listed x) (length listed + 1)) (le-ltb x (length items) le)

acyclic_plan : (items listed : List Item) (rows : List RowBrief) → Rising (names_of items) → IsListing items listed
    → IsAcyclic (Joins (need_edges items ++ row_edges items rows))
acyclic_plan items listed rows up list = acyclic_by_rank (Joins (need_edges items ++ row_edges items rows)) (node_rank items listed) rises
  where
    needed : (x y : ℕ) → IsNeeded items x y → node_rank items listed x < node_rank items listed y
    needed x y h =
        let r = ranks_rise items listed up list x y h in
        omega (arith, r.0, rank_update items listed x (slice_get_within items x h.needed h.needed_at), rank_update items listed y (slice_get_within items y h.needing h.needing_at))

    named : (x y r : ℕ) → y ≡ length items + r → IsRowOf items rows x r → node_rank items listed x < node_rank items listed y
    named x y r is h =
        omega (arith, rank_at_most items listed x, rank_update items listed x (slice_get_within items x h.item h.item_at), rank_cleanup items listed y (omega (arith, is)))

    rises : (x y : ℕ) → Joins (need_edges items ++ row_edges items rows) x y → node_rank items listed x < node_rank items listed y
    rises x y c = elim (Contains-append_cases (need_edges items) (row_edges items rows) (x, y) c) [
      | inl k ↦ needed x y (in_needs items x y k)
      | inr k ↦ (let h = in_rows items rows x y k in named x y h.0 h.1 h.2)
    ]

pub plan_kept : (items : List Item) (absent : List (List ℕ)) (chosen : List ℕ) (rows : List RowBrief) (graph : TravGraph) → IsPlan items absent
    → (built : IsBuilt items chosen rows graph) → (before after : ℕ)
    → Contains (need_edges items ++ row_edges items built.sorted) (before, after) → Joins graph.edges before after
plan_kept items absent chosen rows graph plan built before after c =
    let first : Pairs = need_edges items ++ row_edges items built.sorted in
    let third : Pairs = require_edges (length items) built.sorted in
    let fourth : Pairs = replace_edges (length items) built.sorted in
    front_kept (candidates items built.sorted) graph.edges built.edges first (third ++ fourth) (append_assoc first third fourth)
    (acyclic_plan items plan.acyclic.0 built.sorted plan.rising plan.acyclic.1) (before, after) c
