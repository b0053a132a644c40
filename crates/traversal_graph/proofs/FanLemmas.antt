-- Fans one after another, and their edges.
use Rattle.std.proofs.Common.{◌≡◌, ℕ, suc, ◌+◌, ◌<◌, ◌≤◌, ◌==◌, Bool, List, [], ◌∷◌, ◌++◌, length, get_or, set, take, replicate, refl, sym, ap, subst, ◌∙◌, inl, inr, append_assoc, arith}
use Rattle.std.specs.Prelude.{All}
use Rattle.std.proofs.lemmas.Bool.{cases_eq, cases_lt, eq-eqb, ne_eqb}
use Rattle.std.proofs.lemmas.List.{append-nil, take_all, take_more, get_or-set_same, get_or-set_other, get_or-replicate, get_or_past, length-replicate, length-set, length-take-le, length-map, get_or-map}
use Rattle.std.proofs.lemmas.List.Elements.{All-push, All-append}
use Rattle.heat_plan.specs.declared.item.Item.{Item}
use Rattle.traversal_graph.specs.declared.brief.RowBrief.{RowBrief}
use Rattle.traversal_graph.specs.declared.fans.Fan.{Fan}
use Rattle.traversal_graph.specs.declared.fans.Fan.TheVariants.{In, Out}
use Rattle.traversal_graph.specs.Candidates.{each, edges_in, edges_out, place_of}
use Rattle.traversal_graph.specs.Fans.{Adds, IsWithin, OwnsRows, all_edges, fan_edges, owned_behind}
use Rattle.traversal_graph.proofs.EachLemmas.{each_more, edges-pushed, edges-skipped, below_later, below_pushed}

all_edges-push : (fans : List Fan) (fan : Fan) → all_edges (fans ++ fan ∷ []) ≡ all_edges fans ++ fan_edges fan
all_edges-push [] fan = append-nil (fan_edges fan)
all_edges-push (f ∷ fans) fan =
    ap (λ (l : List (ℕ × ℕ)). fan_edges f ++ l) (all_edges-push fans fan)
    ∙ sym (append_assoc (fan_edges f) (all_edges fans) (fan_edges fan))

-- the edges of one fan more
pub all_edges-more : (fans : List Fan) (i : ℕ) (fan : Fan) → i < length fans → fan ≡ get_or fans i fan
    → all_edges (take (i + 1) fans) ≡ all_edges (take i fans) ++ fan_edges fan
all_edges-more fans i fan lt read =
    ap all_edges (take_more fans i fan lt ∙ ap (λ (f : Fan). take i fans ++ f ∷ []) (sym read))
    ∙ all_edges-push (take i fans) fan

pub Adds-none : (size : ℕ) (fans : List Fan) → Adds size [] fans fans
Adds-none size fans = record { edges = sym (append-nil (all_edges fans)); within = λ h. h }

pub Adds-append : (size : ℕ) (cs ds : List (ℕ × ℕ)) (old mid new : List Fan) → Adds size cs old mid → Adds size ds mid new
    → Adds size (cs ++ ds) old new
Adds-append size cs ds old mid new a b = record {
  edges = b.edges ∙ ap (λ (l : List (ℕ × ℕ)). l ++ ds) a.edges ∙ append_assoc (all_edges old) cs ds;
  within = λ h. b.within (a.within h);
}

-- a fan more
pub Adds-fan : (size : ℕ) (cs : List (ℕ × ℕ)) (old new : List Fan) (fan : Fan) → new ≡ old ++ fan ∷ [] → fan_edges fan ≡ cs
    → IsWithin size fan → Adds size cs old new
Adds-fan size cs old new fan is same within = record {
  edges = ap all_edges is ∙ all_edges-push old fan ∙ ap (λ (l : List (ℕ × ℕ)). all_edges old ++ l) same;
  within = λ h. rw is (All-push (IsWithin size) old fan h within);
}

-- a loop's step
pub Adds-more : {A : Type 0} (size : ℕ) (xs : List A) (i : ℕ) (x : A) (f : ℕ → A → List (ℕ × ℕ)) (old mid new : List Fan)
    → i < length xs → x ≡ get_or xs i x → Adds size (each (take i xs) f) old mid → Adds size (f i x) mid new
    → Adds size (each (take (i + 1) xs) f) old new
Adds-more size xs i x f old mid new lt read a b =
    rw (each_more xs i x f lt read) (Adds-append size (each (take i xs) f) (f i x) old mid new a b)

-- its end
pub Adds-all : {A : Type 0} (size : ℕ) (xs : List A) (i : ℕ) (f : ℕ → A → List (ℕ × ℕ)) (old new : List Fan) → length xs ≤ i
    → Adds size (each (take i xs) f) old new → Adds size (each xs f) old new
Adds-all size xs i f old new le h = rw (take_all i xs le) at h

-- ---- within a size

abbrev JoinBelow : ℕ → ℕ × ℕ → Type 0
JoinBelow size edge = (edge.0 < size) × (edge.1 < size)

in_below : (size : ℕ) (nodes : List ℕ) (after : ℕ) → after < size → All (λ node. node < size) nodes → All (JoinBelow size) (edges_in nodes after)
in_below size nodes after lt within k d inside =
    let f : ℕ → ℕ × ℕ = λ before. (before, after) in
    let inside' : k < length nodes = rw (length-map nodes f) at inside in
    rw (get_or-map f nodes k 0 d inside') (within k 0 inside', lt)

out_below : (size before : ℕ) (nodes : List ℕ) → before < size → All (λ node. node < size) nodes → All (JoinBelow size) (edges_out before nodes)
out_below size before nodes lt within k d inside =
    let f : ℕ → ℕ × ℕ = λ after. (before, after) in
    let inside' : k < length nodes = rw (length-map nodes f) at inside in
    rw (get_or-map f nodes k 0 d inside') (lt, within k 0 inside')

fan_below : (size : ℕ) (fan : Fan) → IsWithin size fan → All (JoinBelow size) (fan_edges fan)
fan_below size (In befores after) within = in_below size befores after within.1 within.0
fan_below size (Out before afters) within = out_below size before afters within.0 within.1

pub edges_below : (size : ℕ) (fans : List Fan) → All (IsWithin size) fans → All (JoinBelow size) (all_edges fans)
edges_below size [] within = λ k d lt. absurd (omega (arith, lt))
edges_below size (fan ∷ fans) within =
    All-append (JoinBelow size) (fan_edges fan) (all_edges fans) (fan_below size fan (within 0 fan (omega arith)))
    (edges_below size fans (λ k d lt. within (suc k) d (omega arith)))

-- ---- the rows of each item

none_owned : (n node : ℕ) → get_or {A = List ℕ} (replicate n []) node [] ≡ []
none_owned n node = elim (cases_lt node n) [
  | inl below ↦ get_or-replicate n node [] [] below
  | inr above ↦ get_or_past (replicate n []) node [] (rw (length-replicate {A = List ℕ} n []) above)
]

pub OwnsRows-none : (items : List Item) → OwnsRows items [] (replicate (length items) [])
OwnsRows-none items = record {
  size = length-replicate {A = List ℕ} (length items) [];
  each_item = λ place lt. rw (none_owned (length items) place) refl;
  within = λ place. rw (none_owned (length items) place) (λ k d lt. absurd (omega arith));
}

module _ (items : List Item) (rows : List RowBrief) (r : ℕ) (row : RowBrief) (lt : r < length rows) (read : row ≡ get_or rows r row) where
  abbrev stands_at : ℕ → RowBrief → Bool
  stands_at place other = place_of items other.name == place

  size_more : length (take (r + 1) rows) ≡ length (take r rows) + 1
  size_more = omega (arith, length-take-le (r + 1) rows (omega arith), length-take-le r rows (omega arith))

  skipped : (place : ℕ) (nodes : List ℕ) → (place_of items row.name ≡ place → ⊥)
      → edges_out place nodes ≡ owned_behind items (take r rows) (length items) place
      → edges_out place nodes ≡ owned_behind items (take (r + 1) rows) (length items) place
  skipped place nodes ne h =
      edges-skipped rows r row (stands_at place) nodes place (length items) lt read (ne_eqb (place_of items row.name) place ne) h

  grown : (nodes : List ℕ) → All (λ node. node < length items + length (take r rows)) nodes
      → All (λ node. node < length items + length (take (r + 1) rows)) nodes
  grown nodes = below_later nodes (length items + length (take r rows)) (length items + length (take (r + 1) rows)) (omega (arith, size_more))

  -- a row more of an item
  pub OwnsRows-more : (place : ℕ) (old new : List (List ℕ)) → place ≡ place_of items row.name → place < length items
      → OwnsRows items (take r rows) old → new ≡ set old place (get_or old place [] ++ (length items + r) ∷ [])
      → OwnsRows items (take (r + 1) rows) new
  OwnsRows-more place old new at inside h is = rw is (record {
    size = length-set old place (get_or old place [] ++ (length items + r) ∷ []) ∙ h.size;
    each_item = λ other below. elim (cases_eq other place) [
      | inl e ↦ (let E : ℕ → Type 0 = λ n. edges_out n (get_or (set old place more) n []) ≡ owned_behind items (take (r + 1) rows) (length items) n in
          subst E (sym e) here)
      | inr ne ↦ rw (get_or-set_other old place other more [] ne)
          (skipped other (get_or old other []) (λ e. ne (sym (at ∙ e))) (h.each_item other below))
    ];
    within = λ other. elim (cases_eq other place) [
      | inl e ↦ rw (e, same) (below_pushed (get_or old place []) (length items + length (take r rows)) (length items + length (take (r + 1) rows))
          (length items + r) (omega (arith, size_more)) (omega (arith, length-take-le (r + 1) rows (omega arith))) (h.within place))
      | inr ne ↦ rw (get_or-set_other old place other more [] ne) (grown (get_or old other []) (h.within other))
    ];
  })
    where
      more : List ℕ
      more = get_or old place [] ++ (length items + r) ∷ []

      same : get_or (set old place more) place [] ≡ more
      same = get_or-set_same old place more [] (rw h.size inside)

      here : edges_out place (get_or (set old place more) place []) ≡ owned_behind items (take (r + 1) rows) (length items) place
      here = rw same (edges-pushed rows r row (stands_at place) (get_or old place []) place (length items) lt read
          (eq-eqb (place_of items row.name) place (sym at)) (h.each_item place inside))

  -- a row more of none
  pub OwnsRows-past : (all : List (List ℕ)) → length items ≤ place_of items row.name → OwnsRows items (take r rows) all
      → OwnsRows items (take (r + 1) rows) all
  OwnsRows-past all past h = record {
    size = h.size;
    each_item = λ place below. skipped place (get_or all place []) (λ e. absurd (omega arith)) (h.each_item place below);
    within = λ place. grown (get_or all place []) (h.within place);
  }

pub OwnsRows-all : (items : List Item) (rows : List RowBrief) (r : ℕ) (all : List (List ℕ)) → length rows ≤ r
    → OwnsRows items (take r rows) all → OwnsRows items rows all
OwnsRows-all items rows r all le h = rw (take_all r rows le) at h
