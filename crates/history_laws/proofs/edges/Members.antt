-- What the lists of candidates have: of needs, of names and rows, and of two rows.
use Rattle.std.proofs.Common.{◌≡◌, ◌<◌, ◌≤◌, inl, inr, ℕ, zero, suc, ◌+◌, Bool, true, false, List, [], ◌∷◌, Some, refl}
use Rattle.std.proofs.Common.{sym, ap, ◌∙◌, subst, arith}
use Rattle.std.specs.Prelude.{Contains, get_or, length, nat_lt, slice_get}
use Rattle.std.specs.Str.{bytes_eq}
use Rattle.std.proofs.lemmas.Bool.{cases_lt}
use Rattle.std.proofs.lemmas.Bool.Decides.{Decides-ltb}
use Rattle.std.proofs.lemmas.List.Elements.{Contains-append_cases, Contains-append_left, Contains-append_right}
use Rattle.std.proofs.lemmas.List.Sums.{fails_before_first, passes_at_first}
use Rattle.std.proofs.lemmas.Option.{get_or_from_slice_get, slice_get-get_or, slice_get_within}
use Rattle.std.proofs.lemmas.Slice.Eq.{bytes_eq-Decides}
use Rattle.heat_plan.specs.Plans.{names_of}
use Rattle.heat_plan.specs.Order.{Rising}
use Rattle.heat_plan.specs.declared.item.Item.{Item}
use Rattle.traversal_graph.specs.Builds.{Joins}
use Rattle.traversal_graph.specs.Candidates.{each, each_from, edge_if, need_edges, needs_into, place_of, row_edges}
use Rattle.traversal_graph.specs.Candidates.{rows_behind}
use Rattle.traversal_graph.specs.declared.brief.RowBrief.{RowBrief}
use Rattle.history_laws.proofs.edges.ItemNames.{name_once}
use Rattle.history_laws.proofs.edges.Keeping.{last_is, nothing}

pub contains_at : {X : Type 0} (xs : List X) (i : ℕ) (x : X) → slice_get xs i ≡ Some x → Contains xs x
contains_at xs i x at = (i, slice_get_within xs i x at, get_or_from_slice_get xs i x x at)

pub contained : {X : Type 0} (xs : List X) (x : X) → Contains xs x → (i : ℕ) × (slice_get xs i ≡ Some x)
contained xs x c = (c.0, slice_get-get_or xs c.0 x c.1 ∙ ap Some c.2)

-- an edge where a test passes
pub edge_if_has : (b : Bool) (i k : ℕ) (e : ℕ × ℕ) → Contains (edge_if b i k) e → (b ≡ true) × (i ≡ e.0) × (k ≡ e.1)
edge_if_has true i k e c = let is = last_is (i, k) e c in (refl, is.0, is.1)
edge_if_has false i k e c = absurd (nothing e c)

pub edge_if_in : (b : Bool) (i k : ℕ) → b ≡ true → Contains (edge_if b i k) (i, k)
edge_if_in true i k is = (0, omega arith, refl)
edge_if_in false i k is = cc

-- what each item of a list gives
module _ {A : Type 0} (f : ℕ → A → List (ℕ × ℕ)) where
  pub each_has : (place : ℕ) (xs : List A) (e : ℕ × ℕ) → Contains (each_from place xs f) e
      → (k : ℕ) × (x : A) × (slice_get xs k ≡ Some x) × Contains (f (place + k) x) e
  each_has place [] e c = absurd (nothing e c)
  each_has place (x ∷ xs) e c = elim (Contains-append_cases (f place x) (each_from (place + 1) xs f) e c) [
    | inl here ↦ let is : place ≡ place + 0 = omega arith in (0, x, refl, subst (λ (p : ℕ). Contains (f p x) e) is here)
    | inr there ↦ let (k, y, at, has) = each_has (place + 1) xs e there in
        let is : place + 1 + k ≡ place + suc k = omega arith in
        (suc k, y, at, subst (λ (p : ℕ). Contains (f p y) e) is has)
  ]

  pub each_in : (place : ℕ) (xs : List A) (e : ℕ × ℕ) (k : ℕ) (x : A) → slice_get xs k ≡ Some x
      → Contains (f (place + k) x) e
      → Contains (each_from place xs f) e
  each_in place [] e k x at c = cc
  each_in place (y ∷ xs) e zero x at c =
      let same : x ≡ y = cc in let is : place + 0 ≡ place = omega arith in
      Contains-append_left (f place y) (each_from (place + 1) xs f) e
      (subst (λ (z : A). Contains (f place z) e) same (subst (λ (p : ℕ). Contains (f p x) e) is c))
  each_in place (y ∷ xs) e (suc k) x at c =
      let is : place + suc k ≡ place + 1 + k = omega arith in
      Contains-append_right (f place y) (each_from (place + 1) xs f) e
      (each_in (place + 1) xs e k x at (subst (λ (p : ℕ). Contains (f p x) e) is c))

zero_on : (k : ℕ) → 0 + k ≡ k
zero_on k = omega arith

-- the place of a name: the first of an item that has it
pub place_named : (items : List Item) (name : List ℕ) → place_of items name < length items
    → (x : Item) × (slice_get items (place_of items name) ≡ Some x) × (x.name ≡ name)
place_named [] name lt = absurd (omega (arith, lt))
place_named (y ∷ items) name lt =
    let test = passes_at_first (λ (i : Item). bytes_eq name i.name) (y ∷ items) y lt in (
      get_or (y ∷ items) (place_of (y ∷ items) name) y,
      slice_get-get_or (y ∷ items) (place_of (y ∷ items) name) y lt,
      sym ((bytes_eq-Decides name (get_or (y ∷ items) (place_of (y ∷ items) name) y).name).0 test),
    )

pub place_first : (items : List Item) (name : List ℕ) (k : ℕ) (x : Item) → slice_get items k ≡ Some x → x.name ≡ name
    → place_of items name ≤ k
place_first items name k x at called = elim (cases_lt k (place_of items name)) [
  | inl lt ↦
      let test : bytes_eq name (get_or items k x).name ≡ false =
      fails_before_first (λ (i : Item). bytes_eq name i.name) items k x lt in
      let is : get_or items k x ≡ x = get_or_from_slice_get items k x x at in
      let pass : bytes_eq name (get_or items k x).name ≡ true = (bytes_eq-Decides name (get_or items k x).name).1
      (sym (ap (λ (i : Item). i.name) is ∙ called)) in
      cc
  | inr le ↦ le
]

pub place_at : (items : List Item) → Rising (names_of items) → (name : List ℕ) (k : ℕ) (x : Item)
    → slice_get items k ≡ Some x → x.name ≡ name
    → place_of items name ≡ k
place_at items rising name k x at called =
    let le = place_first items name k x at called in
    let within = slice_get_within items k x at in
    let (y, at_y, named) = place_named items name (omega arith) in
    name_once items rising (place_of items name) k y x at_y at (named ∙ sym called)

-- 1. from what an item needs to it
pub need_has : (items : List Item) (b a : ℕ) → Joins (need_edges items) b a
    → (item : Item) × (need : List ℕ) × (slice_get items a ≡ Some item) × Contains item.needs need
    × (place_of items need ≡ b) × (b < length items)
need_has items b a c =
    let (k, item, at, has) = each_has (needs_into items) 0 items (b, a) c in
    let (n, need, at_n, passes) = each_has (λ (_ : ℕ) (need : List ℕ). edge_if
    (nat_lt (place_of items need) (length items)) (place_of items need) (0 + k)) 0 item.needs (b, a) has in
    let (test, first, second) = edge_if_has (nat_lt (place_of items need) (length items)) (place_of items need) (0 + k)
    (b, a) passes in (
      item,
      need,
      subst (λ (x : ℕ). slice_get items x ≡ Some item) (sym (zero_on k) ∙ second) at,
      contains_at item.needs n need at_n,
      first,
      subst (λ (x : ℕ). x < length items) first ((Decides-ltb (place_of items need) (length items)).0 test),
    )

pub need_in : (items : List Item) (a : ℕ) (item : Item) (need : List ℕ) → slice_get items a ≡ Some item
    → Contains item.needs need
    → place_of items need < length items → Joins (need_edges items) (place_of items need) a
need_in items a item need at c lt =
    let (n, at_n) = contained item.needs need c in
    each_in (needs_into items) 0 items (place_of items need, a) a item at
    (each_in (λ (_ : ℕ) (need : List ℕ). edge_if (nat_lt (place_of items need) (length items)) (place_of items need)
    (0 + a)) 0 item.needs
    (place_of items need, a) n need at_n
    (subst (λ (x : ℕ). Contains (edge_if (nat_lt (place_of items need) (length items)) (place_of items need) (0 + a))
    (place_of items need, x)) (zero_on a)
    (edge_if_in (nat_lt (place_of items need) (length items)) (place_of items need) (0 + a)
    ((Decides-ltb (place_of items need) (length items)).1 lt))))

-- 2. from an item to each row of its name
pub row_has : (items : List Item) (rows : List RowBrief) (b a : ℕ) → Joins (row_edges items rows) b a
    → (item : Item) × (r : ℕ) × (row : RowBrief) × (slice_get items b ≡ Some item) × (slice_get rows r ≡ Some row)
    × (a ≡ length items + r) × (row.name ≡ item.name)
row_has items rows b a c =
    let (k, item, at, has) = each_has (rows_behind (length items) rows) 0 items (b, a) c in
    let (r, row, at_r, passes) = each_has (λ (r : ℕ) (row : RowBrief). edge_if (bytes_eq row.name item.name) (0 + k)
    (length items + r)) 0 rows (b, a) has in
    let (test, first, second) = edge_if_has (bytes_eq row.name item.name) (0 + k) (length items + (0 + r))
    (b, a) passes in (
      item,
      r,
      row,
      subst (λ (x : ℕ). slice_get items x ≡ Some item) (sym (zero_on k) ∙ first) at,
      at_r,
      sym second ∙ ap (λ (x : ℕ). length items + x) (zero_on r),
      (bytes_eq-Decides row.name item.name).0 test,
    )

pub row_in : (items : List Item) (rows : List RowBrief) (b r : ℕ) (item : Item) (row : RowBrief)
    → slice_get items b ≡ Some item
    → slice_get rows r ≡ Some row → row.name ≡ item.name → Joins (row_edges items rows) b (length items + r)
row_in items rows b r item row at at_r called =
    each_in (rows_behind (length items) rows) 0 items (b, length items + r) b item at
    (each_in (λ (r : ℕ) (row : RowBrief). edge_if (bytes_eq row.name item.name) (0 + b) (length items + r)) 0 rows
    (b, length items + r) r row at_r
    (subst (λ (x : ℕ). Contains (edge_if (bytes_eq row.name item.name) (0 + b) (length items + (0 + r)))
    (x, length items + r)) (zero_on b)
    (subst (λ (x : ℕ). Contains (edge_if (bytes_eq row.name item.name) (0 + b) (length items + (0 + r)))
    (0 + b, length items + x)) (zero_on r)
    (edge_if_in (bytes_eq row.name item.name) (0 + b) (length items + (0 + r))
    ((bytes_eq-Decides row.name item.name).1 called)))))

-- 3 and 4. from a row to a row
pub between_has : (test : RowBrief → RowBrief → Bool) (first : ℕ) (rows : List RowBrief) (b a : ℕ)
    → Joins (each rows (λ (r : ℕ) (row : RowBrief). each rows
    (λ (q : ℕ) (other : RowBrief). edge_if (test row other) (first + r) (first + q)))) b a
    → (r : ℕ) × (q : ℕ) × (r < length rows) × (q < length rows) × (b ≡ first + r) × (a ≡ first + q)
between_has test first rows b a c =
    let (r, row, at_r, has) = each_has (λ (r : ℕ) (row : RowBrief). each rows
    (λ (q : ℕ) (other : RowBrief). edge_if (test row other) (first + r) (first + q))) 0 rows (b, a) c in
    let (q, other, at_q, passes) = each_has
    (λ (q : ℕ) (other : RowBrief). edge_if (test row other) (first + (0 + r)) (first + q)) 0 rows (b, a) has in
    let (_, is_b, is_a) = edge_if_has (test row other) (first + (0 + r)) (first + (0 + q)) (b, a) passes in (
      r,
      q,
      slice_get_within rows r row at_r,
      slice_get_within rows q other at_q,
      sym is_b ∙ ap (λ (x : ℕ). first + x) (zero_on r),
      sym is_a ∙ ap (λ (x : ℕ). first + x) (zero_on q),
    )
