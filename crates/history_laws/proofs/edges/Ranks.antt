-- A rank that edges of needs and edges from names to rows go up, and none goes down: `edges_fit`.
use Rattle.std.proofs.Common.{◌≡◌, ◌<◌, ◌≤◌, inl, inr, ℕ, ◌+◌, ◌==◌, false, List, [], ◌++◌, None, Option, Some, refl}
use Rattle.std.proofs.Common.{sym, ap, ◌∙◌, subst, arith}
use Rattle.std.specs.Prelude.{Contains, length, slice_get}
use Rattle.std.specs.List.{list_any}
use Rattle.std.specs.Option.{option_map_or}
use Rattle.std.proofs.lemmas.List.Elements.{All-contains, Contains-append_cases, Contains-append_left}
use Rattle.std.proofs.lemmas.List.Elements.{Contains-append_right}
use Rattle.std.proofs.lemmas.List.Sorted.{Contains-permutation, IsPermutation-sym}
use Rattle.std.proofs.lemmas.Option.{slice_get_within}
use Rattle.heat_plan.specs.Order.{Rising}
use Rattle.heat_plan.specs.Plans.{IsListing, StandsBefore, names_of}
use Rattle.heat_plan.specs.declared.item.Item.{Item}
use Rattle.traversal_graph.specs.Builds.{Joins, Keeps}
use Rattle.traversal_graph.specs.Candidates.{candidates, need_edges, place_of, replace_edges, require_edges, row_edges}
use Rattle.traversal_graph.specs.declared.brief.RowBrief.{RowBrief}
use Rattle.history_laws.specs.edges.Laws.{EdgesFitPlan}
use Rattle.history_laws.proofs.edges.ItemNames.{name_once}
use Rattle.history_laws.proofs.edges.Keeping.{kept_are, keeps_acyclic, rising_kept}
use Rattle.history_laws.proofs.edges.Members.{between_has, contained, contains_at, need_has, need_in, place_at, place_first}
use Rattle.history_laws.proofs.edges.Members.{place_named, row_has, row_in}

same_some : {A : Type 0} (x y : A) {o : Option A} → o ≡ Some x → o ≡ Some y → x ≡ y
same_some x y h i = cc

none_at : {A : Type 0} (xs : List A) (k : ℕ) (x : A) → slice_get xs k ≡ Some x → length xs ≤ k → ⊥
none_at xs k x at le = let lt = slice_get_within xs k x at in omega arith

-- an item's place in the listing; that of a row is behind all
rank_of : List Item → Option Item → ℕ
rank_of listed (Some item) = place_of listed item.name
rank_of listed None = length listed

module _ (items listed : List Item) (rows : List RowBrief) (rising : Rising (names_of items))
    (listing : IsListing items listed) where
  abbrev rank : ℕ → ℕ
  rank k = rank_of listed (slice_get items k)

  abbrev n : ℕ
  n = length items

  abbrev before_rows : List (ℕ × ℕ)
  before_rows = need_edges items ++ row_edges items rows

  abbrev before_all : List (ℕ × ℕ)
  before_all = before_rows ++ require_edges n rows

  -- those of needs and of names come first
  among : (e : ℕ × ℕ) → Contains before_rows e → Contains (candidates items rows) e
  among e c = Contains-append_left before_all (replace_edges n rows) e
      (Contains-append_left before_rows (require_edges n rows) e c)

  -- where an edge comes from, and where it goes to
  data Edge (b a : ℕ) : Type 0 where
    of_need : (item need : Item) → slice_get items a ≡ Some item → slice_get items b ≡ Some need
        → Contains item.needs need.name → Edge b a
    of_row : (item : Item) (r : ℕ) (row : RowBrief) → slice_get items b ≡ Some item → slice_get rows r ≡ Some row
        → a ≡ n + r → Edge b a
    of_rows : (r q : ℕ) → r < length rows → q < length rows → b ≡ n + r → a ≡ n + q → Edge b a

  edge_of : (b a : ℕ) → Joins (candidates items rows) b a → Edge b a
  edge_of b a c = elim (Contains-append_cases before_all (replace_edges n rows) (b, a) c) [
    | inl three ↦ elim (Contains-append_cases before_rows (require_edges n rows) (b, a) three) [
      | inl two ↦ elim (Contains-append_cases (need_edges items) (row_edges items rows) (b, a) two) [
        | inl one ↦
            let (item, name, at, has, place, lt) = need_has items b a one in
            let (need, at_b, called) = place_named items name (subst (λ (x : ℕ). x < length items) (sym place) lt) in
            of_need item need at (subst (λ (x : ℕ). slice_get items x ≡ Some need) place at_b)
            (subst (Contains item.needs) (sym called) has)
        | inr row ↦ let (item, r, row', at, at_r, is, called) = row_has items rows b a row in
            of_row item r row' at at_r is
      ]
      | inr last ↦ let (r, q, in_r, in_q, is_b, is_a) = between_has
          (λ (row other : RowBrief). list_any (λ no_. no_ == other.no) row.requires_) n rows b a last in
          of_rows r q in_r in_q is_b is_a
    ]
    | inr last ↦ let (r, q, in_r, in_q, is_b, is_a) = between_has
        (λ (row other : RowBrief). option_map_or (λ no_. no_ == other.no) row.replaces false) n rows b a last in
        of_rows r q in_r in_q is_b is_a
  ]

  -- the place of an item in the listing
  listed_at : (k : ℕ) (item : Item) → slice_get items k ≡ Some item → place_of listed item.name < length listed
  listed_at k item at =
      let (p, at_p) = contained listed item
      (Contains-permutation items listed item listing.same (contains_at items k item at)) in
      let le = place_first listed item.name p item at_p refl in
      let lt = slice_get_within listed p item at_p in omega arith

  item_there : (k : ℕ) (item : Item) → slice_get items k ≡ Some item
      → slice_get listed (place_of listed item.name) ≡ Some item
  item_there k item at =
      let (x, at_x, called) = place_named listed item.name (listed_at k item at) in
      let (m, at_m) = contained items x
      (Contains-permutation listed items x (IsPermutation-sym items listed listing.same)
      (contains_at listed (place_of listed item.name) x at_x)) in
      let place : m ≡ k = name_once items rising m k x item at_m at called in
      let same : x ≡ item = same_some x item (subst (λ (y : ℕ). slice_get items y ≡ Some x) place at_m) at in
      at_x ∙ ap Some same

  need_before : (k : ℕ) (item : Item) (name : List ℕ) → slice_get items k ≡ Some item → Contains item.needs name
      → place_of listed name < place_of listed item.name
  need_before k item name at has =
      let p = place_of listed item.name in
      let before : StandsBefore listed p name = All-contains (StandsBefore listed p) item.needs name
      (listing.behind p item (item_there k item at)) has in
      let le = place_first listed name before.place before.item before.found before.named in
      let lt = before.earlier in omega arith

  rank_item : (k : ℕ) (item : Item) → slice_get items k ≡ Some item → rank k ≡ place_of listed item.name
  unfolding rank_of
  rank_item k item at = ap (rank_of listed) at

  rank_row : (k r : ℕ) → k ≡ n + r → rank k ≡ length listed
  unfolding rank_of
  rank_row k r is = by (slice_get items k) refl where
    by : (o : Option Item) → slice_get items k ≡ o → rank_of listed o ≡ length listed
    by None at = refl
    by (Some x) at = absurd (none_at items k x at (let e = is in omega arith))

  need_up : (b a : ℕ) (item need : Item) → slice_get items a ≡ Some item → slice_get items b ≡ Some need
      → Contains item.needs need.name
      → rank b < rank a
  need_up b a item need at_a at_b has =
      let x = rank_item b need at_b in let y = rank_item a item at_a in
      let lt = need_before a item need.name at_a has in omega (arith, x, y, lt)

  row_up : (b a r : ℕ) (item : Item) → slice_get items b ≡ Some item → a ≡ n + r → rank b < rank a
  row_up b a r item at is =
      let x = rank_item b item at in let y = rank_row a r is in let lt = listed_at b item at in omega (arith, x, y, lt)

  none_down : (b a : ℕ) → Edge b a → rank b ≤ rank a
  none_down b a (of_need item need at_a at_b has) = let lt = need_up b a item need at_a at_b has in omega (arith, lt)
  none_down b a (of_row item r row at at_r is) = let lt = row_up b a r item at is in omega (arith, lt)
  none_down b a (of_rows r q in_r in_q is_b is_a) = let x = rank_row b r is_b in let y = rank_row a q is_a in
      omega (arith, x, y)

  edge_ends : (b a : ℕ) → Edge b a → (b < n + length rows) × (a < n + length rows)
  edge_ends b a (of_need item need at_a at_b has) =
      let x = slice_get_within items a item at_a in let y = slice_get_within items b need at_b in
      (omega arith, omega arith)
  edge_ends b a (of_row item r row at at_r is) =
      let x = slice_get_within items b item at in let y = slice_get_within rows r row at_r in let e = is in
      (omega arith, omega arith)
  edge_ends b a (of_rows r q in_r in_q is_b is_a) = let e = is_b in let f = is_a in (omega arith, omega arith)

  into_item : (b a : ℕ) (item : Item) → slice_get items a ≡ Some item → Edge b a
      → (need : Item) × (slice_get items b ≡ Some need) × Contains item.needs need.name
  into_item b a item at (of_need x need at_a at_b has) =
      (need, at_b, subst (λ (y : Item). Contains y.needs need.name) (same_some x item at_a at) has)
  into_item b a item at (of_row x r row at_b at_r is) = absurd (none_at items a item at (let e = is in omega arith))
  into_item b a item at (of_rows r q in_r in_q is_b is_a) =
      absurd (none_at items a item at (let e = is_a in omega arith))

  module _ (edges : List (ℕ × ℕ)) (keeps : Keeps [] (candidates items rows) edges) where
    kept_edge : (b a : ℕ) → Joins edges b a → Edge b a
    kept_edge b a c = edge_of b a (kept_are (candidates items rows) edges keeps (b, a) c)

    up_kept : (b a : ℕ) → Joins (candidates items rows) b a → rank b < rank a → Joins edges b a
    up_kept b a c lt = rising_kept rank (candidates items rows) edges keeps
        (λ x y d. none_down x y (edge_of x y d)) b a c lt

    needed : (b a : ℕ) (need item : Item) → slice_get items b ≡ Some need → slice_get items a ≡ Some item
        → Contains item.needs need.name → Joins edges b a
    needed b a need item at_b at_a has =
        let place : place_of items need.name ≡ b = place_at items rising need.name b need at_b refl in
        let lt : place_of items need.name < length items = subst (λ (x : ℕ). x < length items) (sym place)
        (slice_get_within items b need at_b) in
        up_kept b a (subst (λ (x : ℕ). Joins (candidates items rows) x a) place
        (among (place_of items need.name, a)
        (Contains-append_left (need_edges items) (row_edges items rows) (place_of items need.name, a)
        (need_in items a item need.name at_a has lt))))
        (need_up b a item need at_a at_b has)

    behind : (i r : ℕ) (item : Item) (row : RowBrief) → slice_get items i ≡ Some item → slice_get rows r ≡ Some row
        → row.name ≡ item.name
        → Joins edges i (n + r)
    behind i r item row at at_r called = up_kept i (n + r)
        (among (i, n + r) (Contains-append_right (need_edges items) (row_edges items rows) (i, n + r)
        (row_in items rows i r item row at at_r called)))
        (row_up i (n + r) r item at refl)

pub edges_fit : EdgesFitPlan
edges_fit items rows edges rising (listed, listing) keeps = record {
  acyclic = keeps_acyclic (candidates items rows) edges keeps;
  needed = needed items listed rows rising listing edges keeps;
  needs = λ b a item at c. into_item items listed rows rising listing b a item at
      (kept_edge items listed rows rising listing edges keeps b a c);
  behind = behind items listed rows rising listing edges keeps;
  ends = λ b a c. edge_ends items listed rows rising listing b a
      (kept_edge items listed rows rising listing edges keeps b a c);
}
