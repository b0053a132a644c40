-- The first two sorts of candidates, said by what stands in them.
use Rattle.std.proofs.Common.{◌≡◌, ℕ, zero, suc, ◌+◌, ◌<◌, ◌≤◌, Bool, true, false, not, cond, List, [], ◌∷◌, length, Some, refl, sym, ap, subst, ◌∙◌, arith}
use Rattle.std.specs.Prelude.{Contains, nat_lt, slice_get}
use Rattle.std.specs.Str.{bytes_eq}
use Rattle.std.specs.Ordering.{nat_cmp, ordering_reverse}
use Rattle.std.specs.Cmp.Lexicographic.{slice_cmp}
use Rattle.std.specs.declared.cmp.Ordering.{Ordering}
use Rattle.std.specs.declared.cmp.Ordering.TheVariants.{Less, Equal, Greater}
use Rattle.std.proofs.lemmas.Bool.{ltb-true, lt-ltb}
use Rattle.std.proofs.lemmas.Cmp.{nat_list_cmp_total}
use Rattle.std.proofs.lemmas.Slice.Eq.{bytes_eq-Decides}
use Rattle.std.proofs.lemmas.Option.{slice_get_within, slice_get-get_or, get_or_from_slice_get}
use Rattle.heat_plan.specs.Order.{Rising}
use Rattle.heat_plan.specs.Plans.{names_of}
use Rattle.heat_plan.specs.declared.item.Item.{Item}
use Rattle.traversal_graph.specs.declared.brief.RowBrief.{RowBrief}
use Rattle.traversal_graph.specs.Candidates.{edge_if, place_of, needs_into, need_edges, rows_behind, row_edges}
use Rattle.traversal_graph.specs.Relations.{IsNeeded, IsRowOf}
use Rattle.traversal_graph.proofs.EachMembers.{in_if, to_if, in_each, to_each}
use Rattle.traversal_graph.proofs.Membership.{same_pair}
use Rattle.traversal_graph.proofs.PlaceLemmas.{place_found}

-- a name compares equal to itself
level : (o : Ordering) → o ≡ ordering_reverse o → o ≡ Equal
level Less e = cc
level Equal e = refl
level Greater e = cc

pub same_name : (name : List ℕ) → slice_cmp nat_cmp name name ≡ Equal
same_name name = level (slice_cmp nat_cmp name name) (nat_list_cmp_total.antisymm name name)

-- ---- the place of a name

pub place_at : (x : Item) (items : List Item) (name : List ℕ) (b : Bool) → bytes_eq name x.name ≡ b
    → place_of (x ∷ items) name ≡ cond (not b) (1 + place_of items name) 0
place_at x items name b e = ap (λ (t : Bool). cond (not t) (1 + place_of items name) 0) e

abbrev pub Stands : List Item → List ℕ → Type 0
Stands items name = (i : Item) × (slice_get items (place_of items name) ≡ Some i) × (i.name ≡ name)

-- where a name's place is within the items, an item of the name stands there
pub place_there : (items : List Item) (name : List ℕ) → place_of items name < length items → Stands items name
place_there [] name lt = absurd (omega arith)
place_there (x ∷ items) name lt = by (bytes_eq name x.name) refl lt (place_there items name)
  where
    by : (b : Bool) → bytes_eq name x.name ≡ b → place_of (x ∷ items) name < length (x ∷ items)
        → (place_of items name < length items → Stands items name) → Stands (x ∷ items) name
    by true e lt more = (x, rw (place_at x items name true e) refl, sym ((bytes_eq-Decides name x.name).0 e))
    by false e lt more =
        let further : place_of (x ∷ items) name ≡ 1 + place_of items name = place_at x items name false e in
        let m = more (omega (arith, lt, further)) in
        let G : ℕ → Type 0 = λ n. slice_get (x ∷ items) n ≡ Some m.0 in
        (m.0, subst G {x = suc (place_of items name)} {y = place_of (x ∷ items) name} (omega (arith, further)) m.1, m.2)

-- an item of the name stands at the name's place or behind it
pub place_least : (items : List Item) (name : List ℕ) (q : ℕ) (i : Item) → slice_get items q ≡ Some i → i.name ≡ name → place_of items name ≤ q
place_least [] name q i at named = absurd (omega (arith, slice_get_within [] q i at))
place_least (x ∷ items) name q i at named = by (bytes_eq name x.name) refl q at (λ r at_r. place_least items name r i at_r named)
  where
    differs : (b : Bool) → b ≡ true → b ≡ false → ⊥
    differs b e f = cc

    by : (b : Bool) → bytes_eq name x.name ≡ b → (q : ℕ) → slice_get (x ∷ items) q ≡ Some i
        → ((r : ℕ) → slice_get items r ≡ Some i → place_of items name ≤ r) → place_of (x ∷ items) name ≤ q
    by true e q at more = omega (arith, place_at x items name true e)
    by false e zero at more =
        let same : x ≡ i = cc in
        absurd (differs (bytes_eq name x.name) ((bytes_eq-Decides name x.name).1 (sym named ∙ ap (λ (y : Item). y.name) (sym same))) e)
    by false e (suc r) at more = omega (arith, place_at x items name false e, more r at)

-- ---- needs

abbrev need_edge : List Item → ℕ → ℕ → List ℕ → List (ℕ × ℕ)
need_edge items place n need = edge_if (nat_lt (place_of items need) (length items)) (place_of items need) place

-- a need's edge comes from the item that is needed
in_needs_into : (items : List Item) (place : ℕ) (item : Item) (a b : ℕ) → slice_get items place ≡ Some item
    → Contains (needs_into items place item) (a, b) → (b ≡ place) × IsNeeded items a place
in_needs_into items place item a b at c =
    let e = in_each (need_edge items place) 0 item.needs (a, b) c in
    let need : List ℕ = e.1 in
    let h = in_if (nat_lt (place_of items need) (length items)) (place_of items need) place (a, b) e.3 in
    let here : place_of items need ≡ a = ap (λ (x : ℕ × ℕ). x.0) h.1 in
    let stands = place_there items need (ltb-true (place_of items need) (length items) h.0) in
    let G : ℕ → Type 0 = λ n. slice_get items n ≡ Some stands.0 in
    let N : List ℕ → Type 0 = λ n. Contains item.needs n in
    let listed : Contains item.needs need = (e.0, slice_get_within item.needs e.0 need e.2, get_or_from_slice_get item.needs e.0 need need e.2) in (
      sym (ap (λ (x : ℕ × ℕ). x.1) h.1),
      record {
        needed = stands.0;
        needing = item;
        needed_at = subst G here stands.1;
        needing_at = at;
        needs = subst N (sym stands.2) listed;
      },
    )

pub in_needs : (items : List Item) (a b : ℕ) → Contains (need_edges items) (a, b) → IsNeeded items a b
in_needs items a b c =
    let e = in_each (needs_into items) 0 items (a, b) c in
    let P : ℕ → Type 0 = λ n. slice_get items n ≡ Some e.1 in
    let at : slice_get items (0 + e.0) ≡ Some e.1 = subst P {x = e.0} {y = 0 + e.0} (omega arith) e.2 in
    let h = in_needs_into items (0 + e.0) e.1 a b at e.3 in
    let N : ℕ → Type 0 = λ n. IsNeeded items a n in
    subst N (sym h.0) h.1

pub to_needs : (items : List Item) (a b : ℕ) → Rising (names_of items) → IsNeeded items a b → Contains (need_edges items) (a, b)
to_needs items a b up h =
    let name : List ℕ = h.needed.name in
    let inside : a < length items = slice_get_within items a h.needed h.needed_at in
    let here : a ≡ place_of items name = place_found items name a up inside
    (λ d. ap (λ (x : Item). slice_cmp nat_cmp x.name name) (get_or_from_slice_get items a h.needed d h.needed_at) ∙ same_name name) in
    let k : ℕ = h.needs.0 in
    let listed : slice_get h.needing.needs k ≡ Some name = slice_get-get_or h.needing.needs k name h.needs.1 ∙ ap (λ (x : List ℕ). Some x) h.needs.2 in
    let edge : Contains (edge_if (nat_lt (place_of items name) (length items)) (place_of items name) (0 + b)) (place_of items name, 0 + b) =
    to_if (nat_lt (place_of items name) (length items)) (place_of items name) (0 + b) (lt-ltb (place_of items name) (length items) (rw (← here) inside)) in
    let In : ℕ × ℕ → Type 0 = λ p. Contains (edge_if (nat_lt (place_of items name) (length items)) (place_of items name) (0 + b)) p in
    to_each (needs_into items) 0 items b h.needing (a, b) h.needing_at
    (to_each (need_edge items (0 + b)) 0 h.needing.needs k name (a, b) listed
    (subst In (same_pair (place_of items name) (0 + b) a b (sym here) (omega arith)) edge))

-- ---- rows of a name

pub in_rows : (items : List Item) (rows : List RowBrief) (a b : ℕ) → Contains (row_edges items rows) (a, b)
    → (r : ℕ) × (b ≡ length items + r) × IsRowOf items rows a r
in_rows items rows a b c =
    let e = in_each (rows_behind (length items) rows) 0 items (a, b) c in
    let f = in_each (λ (r : ℕ) (row : RowBrief). edge_if (bytes_eq row.name e.1.name) (0 + e.0) (length items + r)) 0 rows (a, b) e.3 in
    let h = in_if (bytes_eq f.1.name e.1.name) (0 + e.0) (length items + (0 + f.0)) (a, b) f.3 in
    let P : ℕ → Type 0 = λ n. slice_get items n ≡ Some e.1 in (
      f.0,
      omega (arith, ap (λ (x : ℕ × ℕ). x.1) h.1),
      record {
        item = e.1;
        row = f.1;
        item_at = subst P {x = e.0} {y = a} (omega (arith, ap (λ (x : ℕ × ℕ). x.0) h.1)) e.2;
        row_at = f.2;
        named = (bytes_eq-Decides f.1.name e.1.name).0 h.0;
      },
    )

pub to_rows : (items : List Item) (rows : List RowBrief) (a b r : ℕ) → b ≡ length items + r → IsRowOf items rows a r
    → Contains (row_edges items rows) (a, b)
to_rows items rows a b r is h =
    let In : ℕ × ℕ → Type 0 = λ p. Contains (edge_if (bytes_eq h.row.name h.item.name) (0 + a) (length items + (0 + r))) p in
    to_each (rows_behind (length items) rows) 0 items a h.item (a, b) h.item_at
    (to_each (λ (q : ℕ) (row : RowBrief). edge_if (bytes_eq row.name h.item.name) (0 + a) (length items + q)) 0 rows r h.row (a, b) h.row_at
    (subst In (same_pair (0 + a) (length items + (0 + r)) a b (omega arith) (omega (arith, is)))
    (to_if (bytes_eq h.row.name h.item.name) (0 + a) (length items + (0 + r)) ((bytes_eq-Decides h.row.name h.item.name).1 h.named))))
