-- A row's item is at a place exactly where the row has that item's name.
use Rattle.std.proofs.Common.{◌≡◌, ℕ, zero, suc, ◌+◌, ◌<◌, ◌==◌, Bool, true, false, List, [], ◌∷◌, ◌++◌, length, get_or, Some, refl, sym, ap, subst, ◌∙◌, arith}
use Rattle.std.specs.Prelude.{slice_get}
use Rattle.std.specs.Str.{bytes_eq}
use Rattle.std.specs.Ordering.{nat_cmp}
use Rattle.std.specs.Cmp.Lexicographic.{slice_cmp}
use Rattle.std.specs.declared.cmp.Ordering.TheVariants.{Equal}
use Rattle.std.proofs.lemmas.Bool.Decides.{Decides-eqb}
use Rattle.std.proofs.lemmas.List.{get_or_default}
use Rattle.std.proofs.lemmas.Option.{slice_get-get_or}
use Rattle.std.proofs.lemmas.Slice.Eq.{bytes_eq-Decides}
use Rattle.heat_plan.specs.Order.{Rising}
use Rattle.heat_plan.specs.Plans.{names_of}
use Rattle.heat_plan.specs.declared.item.Item.{Item}
use Rattle.traversal_graph.specs.declared.brief.RowBrief.{RowBrief}
use Rattle.traversal_graph.specs.Candidates.{each_from, edge_if, place_of, rows_behind}
use Rattle.traversal_graph.specs.Fans.{owned_behind}
use Rattle.traversal_graph.proofs.NeedMembers.{same_name, place_there}
use Rattle.traversal_graph.proofs.PlaceLemmas.{place_found}

-- the item that stands at a place
pub item_at : {A : Type 0} (xs : List A) (i : ℕ) → i < length xs → (x : A) × (x ≡ get_or xs i x)
item_at [] i lt = absurd (omega arith)
item_at (x ∷ xs) zero lt = (x, refl)
item_at (x ∷ xs) (suc i) lt = item_at xs i (omega (arith, lt))

-- the place of a name is that of the item there exactly where the item has the name
owner_is : (items : List Item) (place : ℕ) (item : Item) (name : List ℕ) → Rising (names_of items) → place < length items
    → item ≡ get_or items place item → (place_of items name == place) ≡ bytes_eq name item.name
owner_is items place item name up lt at = by (bytes_eq name item.name) refl
  where
    is_there : name ≡ item.name → (d : Item) → slice_cmp nat_cmp (get_or items place d).name name ≡ Equal
    is_there e d =
        let here : get_or items place d ≡ item = get_or_default items place d item lt ∙ sym at in
        rw (here, e) (same_name item.name)

    other : (t : Bool) → (place_of items name == place) ≡ t → bytes_eq name item.name ≡ false → t ≡ false
    other false e f = refl
    other true e f =
        let same : place_of items name ≡ place = (Decides-eqb (place_of items name) place).0 e in
        let there = place_there items name (omega (arith, same, lt)) in
        let G : ℕ → Type 0 = λ n. slice_get items n ≡ slice_get items place in
        let item_is : there.0 ≡ item = (let one = sym there.1 ∙ (subst G (sym same) refl ∙ (slice_get-get_or items place item lt)) in
        let both = one ∙ ap Some (sym at) in cc) in
        let named : bytes_eq name item.name ≡ true = (bytes_eq-Decides name item.name).1 (sym there.2 ∙ ap (λ (x : Item). x.name) item_is) in
        cc

    by : (b : Bool) → bytes_eq name item.name ≡ b → (place_of items name == place) ≡ b
    by true e =
        (Decides-eqb (place_of items name) place).1
        (sym (place_found items name place up lt (is_there ((bytes_eq-Decides name item.name).0 e))))
    by false e = other (place_of items name == place) refl e

-- so that the rows behind an item are told by their items' places
pub owned_rows : (items : List Item) (rows : List RowBrief) (first place : ℕ) (item : Item) → Rising (names_of items)
    → place < length items → item ≡ get_or items place item
    → owned_behind items rows first place ≡ rows_behind first rows place item
owned_rows items rows first place item up lt at = go 0 rows
  where
    go : (n : ℕ) (rows : List RowBrief)
        → each_from n rows (λ (r : ℕ) (row : RowBrief). edge_if (place_of items row.name == place) place (first + r))
        ≡ each_from n rows (λ (r : ℕ) (row : RowBrief). edge_if (bytes_eq row.name item.name) place (first + r))
    go n [] = refl
    go n (row ∷ rows) =
        rw (owner_is items place item row.name up lt at)
        (ap (λ (l : List (ℕ × ℕ)). edge_if (bytes_eq row.name item.name) place (first + n) ++ l) (go (n + 1) rows))
