-- Noting a row for the item of its name is finding each item's row with that row behind the others.
use Rattle.std.proofs.Common.{◌≡◌, ◌∙◌, ℕ, ◌+◌, suc, Bool, true, false, List, [], ◌∷◌, ◌++◌, Option, Some, None, cond, map, slice_set, refl, sym, ap, arith}
use Rattle.std.specs.List.{AllByRecursion}
use Rattle.std.specs.List.Sorted.{IsStrictlySortedBy}
use Rattle.std.specs.Str.{bytes_eq}
use Rattle.std.specs.Ordering.{is_eq, nat_cmp}
use Rattle.std.specs.Cmp.Lexicographic.{slice_cmp}
use Rattle.std.specs.declared.cmp.Ordering.TheVariants.{Less}
use Rattle.std.proofs.lemmas.Map.Text.{is_eq-slice_cmp}
use Rattle.std.proofs.lemmas.Slice.Eq.{bytes_eq-Decides}
use Rattle.heat_plan.specs.Order.{Rising}
use Rattle.heat_plan.specs.Plans.{names_of}
use Rattle.heat_plan.specs.declared.item.Item.{Item}
use Rattle.traversal_graph.specs.Candidates.{place_of}
use Rattle.row_table.specs.declared.row.Row.{Row}
use Rattle.command_steps.specs.Choices.{found_for, is_current, last_for, noted, or_else, stands_for}

-- the row of a name, with one more row behind the others
last_for-more : (rows : List Row) (r : Row) (name : List ℕ)
    → last_for (rows ++ r ∷ []) name ≡ cond (stands_for r name) (Some r.no) (last_for rows name)
last_for-more [] r name = refl
last_for-more (q ∷ rows) r name = rw (last_for-more rows r name) (by (stands_for r name)) where
  other : Option ℕ
  other = cond (stands_for q name) (Some q.no) None

  by : (b : Bool)
      → or_else (cond b (Some r.no) (last_for rows name)) other ≡ cond b (Some r.no)
      (or_else (last_for rows name) other)
  by true = refl
  by false = refl

-- no name behind a lesser one is the same
others : (name : List ℕ) (f : Item → Option ℕ) (n : ℕ) (items : List Item)
    → AllByRecursion (λ other. slice_cmp nat_cmp name other ≡ Less) (names_of items)
    → map (λ (i : Item). cond (bytes_eq name i.name) (Some n) (f i)) items ≡ map f items
others name f n [] all = refl
others name f n (i ∷ items) all =
    let apart : bytes_eq name i.name ≡ false = sym (is_eq-slice_cmp name i.name) ∙ ap is_eq all.0 in
    rw apart (ap (λ rest. f i ∷ rest) (others name f n items all.1))

set-behind : (x y : Option ℕ) (xs : List (Option ℕ)) (n m : ℕ) → m ≡ 1 + n
    → slice_set (x ∷ xs) m y ≡ x ∷ slice_set xs n y
set-behind x y xs n m is = let e : m ≡ suc n = omega arith in rw e refl

-- the item of a name stands once among the items
set_by_name : (items : List Item) (name : List ℕ) (f : Item → Option ℕ) (n : ℕ) → Rising (names_of items)
    → map (λ (i : Item). cond (bytes_eq name i.name) (Some n) (f i)) items ≡ slice_set (map f items)
    (place_of items name) (Some n)
unfolding IsStrictlySortedBy
set_by_name [] name f n up = refl
set_by_name (i ∷ items) name f n up = by (bytes_eq name i.name) refl (set_by_name items name f n up.1) where
  by : (b : Bool) → bytes_eq name i.name ≡ b
      → map (λ (j : Item). cond (bytes_eq name j.name) (Some n) (f j)) items ≡ slice_set (map f items)
      (place_of items name) (Some n)
      → map (λ (j : Item). cond (bytes_eq name j.name) (Some n) (f j)) (i ∷ items) ≡ slice_set (map f (i ∷ items))
      (place_of (i ∷ items) name) (Some n)
  by true is behind =
      let same : name ≡ i.name = (bytes_eq-Decides name i.name).0 is in
      rw is (ap (λ rest. Some n ∷ rest) (others name f n items (rw same up.0)))
  by false is behind =
      rw is (ap (λ rest. f i ∷ rest) behind
      ∙ sym (set-behind (f i) (Some n) (map f items) (place_of items name) _ refl))

map-same : {A B : Type 0} (f g : A → B) → ((a : A) → f a ≡ g a) → (xs : List A) → map f xs ≡ map g xs
map-same f g same [] = refl
map-same f g same (x ∷ xs) = rw (same x) (ap (λ rest. g x ∷ rest) (map-same f g same xs))

pub noted_found : (items : List Item) (rows : List Row) (r : Row) → Rising (names_of items)
    → noted items r (found_for rows items) ≡ found_for (rows ++ r ∷ []) items
noted_found items rows r up = by (is_current r) refl where
  taken : is_current r ≡ true → (i : Item)
      → cond (bytes_eq r.name i.name) (Some r.no) (last_for rows i.name) ≡ last_for (rows ++ r ∷ []) i.name
  taken is i =
      let more : last_for (rows ++ r ∷ []) i.name ≡ cond (stands_for r i.name) (Some r.no) (last_for rows i.name) =
      last_for-more rows r i.name in
      sym (rw is at more)

  left : is_current r ≡ false → (i : Item) → last_for rows i.name ≡ last_for (rows ++ r ∷ []) i.name
  left is i =
      let more : last_for (rows ++ r ∷ []) i.name ≡ cond (stands_for r i.name) (Some r.no) (last_for rows i.name) =
      last_for-more rows r i.name in
      sym (rw is at more)

  by : (b : Bool) → is_current r ≡ b → noted items r (found_for rows items) ≡ found_for (rows ++ r ∷ []) items
  by true is = rw is (sym (set_by_name items r.name (λ (i : Item). last_for rows i.name) r.no up)
      ∙ map-same _ _ (taken is) items)
  by false is = rw is (map-same _ _ (left is) items)
