-- Rows that a command lays out.
use Rattle.std.proofs.Common.{◌≡◌, ◌⊎◌, inl, inr, ℕ, zero, suc, ◌+◌, List, [], ◌∷◌, ◌++◌, Some, refl, sym, ap, ◌∙◌}
use Rattle.std.proofs.Common.{subst, arith}
use Rattle.std.specs.Prelude.{All, Contains, bytes_eq, false, map, slice_get, true}
use Rattle.std.specs.List.{AllByRecursion}
use Rattle.std.specs.Ordering.{is_eq}
use Rattle.std.proofs.lemmas.List.Elements.{All-map, Contains-get_or, recursion_from_All}
use Rattle.std.proofs.lemmas.List.Sorted.{All-permutation}
use Rattle.std.proofs.lemmas.Map.Keys.{sorted_head, sorted_tail}
use Rattle.std.proofs.lemmas.Map.Text.{is_eq-slice_cmp}
use Rattle.std.proofs.lemmas.Slice.Eq.{bytes_eq-Decides}
use Rattle.std.specs.Cmp.Lexicographic.{slice_cmp}
use Rattle.std.specs.Ordering.{nat_cmp}
use Rattle.heat_plan.specs.Order.{Rising}
use Rattle.heat_plan.specs.declared.item.Item.{Item}
use Rattle.traversal_graph.specs.Nodes.{cleanup_nodes, update_nodes}
use Rattle.traversal_graph.specs.declared.brief.RowBrief.{RowBrief}
use Rattle.traversal_graph.specs.declared.shape.Node.{Node}
use Rattle.row_table.specs.Rows.{put_row, row_at}
use Rattle.row_table.specs.declared.row.Row.{Row}
use Rattle.step_relation.specs.Changes.{applied, apply}
use Rattle.step_relation.specs.State.{StateData}
use Rattle.step_relation.specs.declared.Change.{Change}
use Rattle.step_relation.specs.declared.Change.TheVariants.{PutRow}
use Rattle.step_relation.specs.Commands.{Chooses, Lays, brief_of, current, fresh, none}
use Rattle.step_relation.specs.Rows.{new_row}
use Rattle.step_relation.specs.Numbered.{row_of}
use Rattle.history_laws.proofs.tables.Rows.{row_else, row_here, same_or_not}

-- the rows after each of these was put
abbrev pub put_rows : List Row → List Row → List Row
put_rows [] rows = rows
put_rows (q ∷ qs) rows = put_rows qs (put_row q rows)

pub rows_first : (s : StateData) (qs : List Row) (rest : List Change)
    → applied (map PutRow qs ++ rest) s ≡ applied rest (record s { rows = put_rows qs s.rows })
rows_first s [] rest = refl
rows_first s (q ∷ qs) rest = rows_first (apply (PutRow q) s) qs rest

-- membership
pub contains_head : {A : Type 0} (x : A) (xs : List A) → Contains (x ∷ xs) x
contains_head x xs = (0, omega arith, refl)

pub contains_there : {A : Type 0} (x y : A) (xs : List A) → Contains xs y → Contains (x ∷ xs) y
contains_there x y xs (k, lt, is) = (suc k, omega arith, is)

pub contains_cases : {A : Type 0} (x y : A) (xs : List A) → Contains (x ∷ xs) y → (x ≡ y) ⊎ Contains xs y
contains_cases x y xs (zero, lt, is) = inl is
contains_cases x y xs (suc k, lt, is) = inr (k, omega arith, is)

pub contains_none : {A : Type 0} (y : A) → Contains [] y → ⊥
contains_none y (k, lt, is) = omega arith

-- what holds of all, of one of them
pub all_at : {A : Type 0} (P : A → Type 0) (xs : List A) (i : ℕ) (x : A) → AllByRecursion P xs
    → slice_get xs i ≡ Some x → P x
all_at P [] i x all at = cc
all_at P (y ∷ ys) zero x all at = let is : y ≡ x = cc in subst P is all.0
all_at P (y ∷ ys) (suc i) x all at = all_at P ys i x all.1 at

pub all_append : {A : Type 0} (P : A → Type 0) (xs ys : List A) → AllByRecursion P xs → AllByRecursion P ys
    → AllByRecursion P (xs ++ ys)
all_append P [] ys all more = more
all_append P (x ∷ xs) ys all more = (all.0, all_append P xs ys all.1 more)

pub all_contains : {A : Type 0} (P : A → Type 0) (xs : List A) (x : A) → AllByRecursion P xs → Contains xs x → P x
all_contains P [] x all has = absurd (contains_none x has)
all_contains P (y ∷ ys) x all has = elim (contains_cases y x ys has) [
  | inl is ↦ subst P is all.0
  | inr there ↦ all_contains P ys x all.1 there
]

-- of rising names the first isn't among the others
pub rising_apart : (x : List ℕ) (xs : List (List ℕ)) → Rising (x ∷ xs) → Contains xs x → ⊥
rising_apart x xs rising has =
    let less = all_contains _ xs x (sorted_head (slice_cmp nat_cmp) x xs rising) has in
    let apart : bytes_eq x x ≡ false = sym (is_eq-slice_cmp x x) ∙ ap is_eq less in
    let same : bytes_eq x x ≡ true = (bytes_eq-Decides x x).1 refl in
    cc

pub rising_rest : (x : List ℕ) (xs : List (List ℕ)) → Rising (x ∷ xs) → Rising xs
rising_rest x xs rising = sorted_tail (slice_cmp nat_cmp) x xs rising

-- a row of this stack stands at the number
abbrev pub Own : List ℕ → List Row → ℕ → Type 0
Own name rows n = (r : Row) × (row_at rows n ≡ Some r) × (r.stack ≡ name)

pub own_put : (name : List ℕ) (q : Row) (rows : List Row) (n : ℕ) → q.stack ≡ name → Own name rows n
    → Own name (put_row q rows) n
own_put name q rows n is (r, at, own) = elim (same_or_not q.no n) [
  | inl here ↦ (q, subst (λ (k : ℕ). row_at (put_row q rows) k ≡ Some q) here (row_here q rows), is)
  | inr ne ↦ (r, row_else q rows n ne ∙ at, own)
]

pub own_puts : (name : List ℕ) (qs rows : List Row) (n : ℕ) → AllByRecursion (λ (q : Row). q.stack ≡ name) qs
    → Own name rows n → Own name (put_rows qs rows) n
own_puts name [] rows n all own = own
own_puts name (q ∷ qs) rows n all own = own_puts name qs (put_row q rows) n all.1 (own_put name q rows n all.0 own)

-- the new rows are the stack's
pub chosen_rows_own : (s : StateData) (name : List ℕ) (trav next : ℕ) (items : List Item) (chosen : List ℕ)
    (qs : List Row)
    → Chooses s name trav next items chosen qs → AllByRecursion (λ (q : Row). q.stack ≡ name) qs
chosen_rows_own s name trav next _ _ _ (none _) = tt
chosen_rows_own s name trav next _ _ _ (current _ item items r chosen qs is more) =
    chosen_rows_own s name trav next items chosen qs more
chosen_rows_own s name trav next _ _ _ (fresh _ item items chosen qs lacks more) =
    (refl, chosen_rows_own s name trav (next + 1) items chosen qs more)

-- each chosen row stands then, and is the stack's
pub chosen_own : (s : StateData) (name : List ℕ) (trav next : ℕ) (items : List Item) (chosen : List ℕ) (qs : List Row)
    → Chooses s name trav next items chosen qs → (rows : List Row) → ((n : ℕ) → Own name s.rows n → Own name rows n)
    → AllByRecursion (Own name (put_rows qs rows)) chosen
chosen_own s name trav next _ _ _ (none _) rows old = tt
chosen_own s name trav next _ _ _ (current _ item items r chosen qs is more) rows old = (
  own_puts name qs rows r.no (chosen_rows_own s name trav next items chosen qs more)
      (old r.no (r, is.found, is.stack_is)),
  chosen_own s name trav next items chosen qs more rows old,
)
chosen_own s name trav next _ _ _ (fresh _ item items chosen qs lacks more) rows old =
    let q = new_row name trav next item in (
      own_puts name qs (put_row (new_row name trav next item) rows) next
          (chosen_rows_own s name trav (next + 1) items chosen qs more)
          (new_row name trav next item, row_here (new_row name trav next item) rows, refl),
      chosen_own s name trav (next + 1) items chosen qs more (put_row (new_row name trav next item) rows)
          (λ n own. own_put name (new_row name trav next item) rows n refl (old n own)),
    )

update_own : (P : ℕ → Type 0) (items : List Item) (chosen : List ℕ) → AllByRecursion P chosen
    → AllByRecursion (λ (node : Node). P (row_of node)) (update_nodes items chosen)
update_own P [] chosen all = tt
update_own P (item ∷ items) [] all = tt
update_own P (item ∷ items) (c ∷ chosen) all = (all.0, update_own P items chosen all.1)

cleanup_own : (P : ℕ → Type 0) (rows : List RowBrief) → AllByRecursion (λ (b : RowBrief). P b.no) rows
    → AllByRecursion (λ (node : Node). P (row_of node)) (cleanup_nodes rows)
cleanup_own P [] all = tt
cleanup_own P (b ∷ bs) all = (all.0, cleanup_own P bs all.1)

-- each node of the graph that a command lays out names a row of its stack, which stands then
pub laid_nodes_own : (s : StateData) (name : List ℕ) (items : List Item) (k : Lays s name items) (i : ℕ) (node : Node)
    → slice_get k.graph.nodes i ≡ Some node → Own name (put_rows k.rows s.rows) (row_of node)
laid_nodes_own s name items k i node at =
    all_at (λ (x : Node). Own name (put_rows k.rows s.rows) (row_of x))
    (update_nodes items k.chosen ++ cleanup_nodes k.built.sorted) i node
    (all_append _ (update_nodes items k.chosen) (cleanup_nodes k.built.sorted)
    (update_own (Own name (put_rows k.rows s.rows)) items k.chosen
    (chosen_own s name s.next.trav s.next.row items k.chosen k.rows k.chooses s.rows (λ n own. own)))
    (cleanup_own (Own name (put_rows k.rows s.rows)) k.built.sorted (recursion_from_All _ k.built.sorted sorted)))
    (subst (λ (x : List Node). slice_get x i ≡ Some node) k.built.nodes at) where
      standing : (r : Row) → Contains k.standing r → Own name (put_rows k.rows s.rows) r.no
      standing r has =
          let it = k.standing_are.only r has in
          own_puts name k.rows s.rows r.no
          (chosen_rows_own s name s.next.trav s.next.row items k.chosen k.rows k.chooses) (r, it.0, it.1)

      sorted : All (λ (b : RowBrief). Own name (put_rows k.rows s.rows) b.no) k.built.sorted
      sorted = All-permutation (λ (b : RowBrief). Own name (put_rows k.rows s.rows) b.no)
          (map brief_of k.standing) k.built.sorted k.built.rows_are.same
          (All-map (λ (b : RowBrief). Own name (put_rows k.rows s.rows) b.no) brief_of k.standing
          (λ n d lt. standing _ (Contains-get_or k.standing n d lt)))
