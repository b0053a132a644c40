-- A command keeps the links.
use Rattle.std.proofs.Common.{◌≡◌, ◌<◌, inl, inr, ℕ, ◌+◌, List, [], ◌∷◌, ◌++◌, map, Some, refl, sym, ap, ◌∙◌, subst}
use Rattle.std.proofs.Common.{arith}
use Rattle.std.specs.Prelude.{Contains, IsSome, bytes_eq, length, slice_get}
use Rattle.std.proofs.lemmas.List.Sorted.{length_permutation}
use Rattle.std.proofs.lemmas.Slice.Eq.{bytes_eq-Decides}
use Rattle.heat_plan.specs.declared.item.Item.{Item}
use Rattle.heat_plan.specs.declared.phase.Act.TheVariants.{Delete}
use Rattle.heat_plan.specs.declared.phase.Status.TheVariants.{InProgress}
use Rattle.traversal_graph.specs.Nodes.{cleanup_nodes, update_nodes}
use Rattle.traversal_graph.specs.declared.brief.RowBrief.{RowBrief}
use Rattle.traversal_graph.specs.declared.shape.Node.{Node}
use Rattle.row_table.specs.Rows.{row_at}
use Rattle.row_table.specs.declared.row.Row.{Row}
use Rattle.step_relation.specs.Changes.{applied, apply}
use Rattle.step_relation.specs.State.{StateData, stack_at, stack_key}
use Rattle.step_relation.specs.declared.Change.TheVariants.{PutGraph, PutPast, PutStack, Send}
use Rattle.step_relation.specs.declared.Numbers.{Numbers}
use Rattle.step_relation.specs.declared.Stack.{Stack}
use Rattle.step_relation.specs.Commands.{Chooses, Lays, Sets, brief_of, current, first_letters, fresh, laid_changes}
use Rattle.step_relation.specs.Commands.{none, past_command, settles_at_once, stack_set}
use Rattle.step_relation.specs.Applies.{NoneFalls}
use Rattle.step_relation.specs.Groups.{IsOrdered, KeptByCommands, creates, deletes, rolls_back, updates}
use Rattle.step_relation.specs.Linked.{IsOf, Links, by_row}
use Rattle.step_relation.specs.Numbered.{Numbered, StackBelow, row_of}
use Rattle.step_relation.specs.Sound.{Standing}
use Rattle.history_laws.proofs.links.NewRows.{NewRows, all_new, none_new}
use Rattle.history_laws.proofs.links.Numbers.{Numbered-Numbers, Numbered-PutGraph, Numbered-PutPast, Numbered-PutStack}
use Rattle.history_laws.proofs.links.Owners.{IsNodeOf, Owned-put_graph}
use Rattle.history_laws.proofs.links.Single.{Links-complete, Links-sends, NoRow, letters-below}
use Rattle.history_laws.proofs.tables.Ordered.{ordered_delete, ordered_plan}
use Rattle.history_laws.proofs.tables.Puts.{contains_none, laid_nodes_own, put_rows, rows_first}
use Rattle.history_laws.proofs.tables.Rows.{row-key, stack_here}
use Rattle.history_laws.proofs.tables.Tables.{some_put}
use Rattle.step_relation.specs.declared.Change.TheVariants as change_to

-- a command's stack is below the next numbers behind it
ordered_number : (s : StateData) → Standing s → (name : List ℕ) (items : List Item) (it : Sets)
    → IsOrdered s name items it
    → it.no_ < s.next.stack + it.stacks
ordered_number s S _ _ _ (creates name plan rollback free proper) = omega arith
ordered_number s S _ _ _ (updates st plan rollback at act proper) = let b =
    (S.links.numbered.stacks st.name st at).no_ in omega arith
ordered_number s S _ _ _ (deletes st at) = let b = (S.links.numbered.stacks st.name st at).no_ in omega arith
ordered_number s S _ _ _ (rolls_back st actor at forward unfinished) = let b =
    (S.links.numbered.stacks st.name st at).no_ in omega arith

-- no item, no new row
no_items : (s : StateData) (name : List ℕ) (trav next : ℕ) (items : List Item) (chosen : List ℕ) (qs : List Row)
    → Chooses s name trav next items chosen qs
    → items ≡ [] → qs ≡ []
no_items s name trav next _ _ _ (none _) is = refl
no_items s name trav next _ _ _ (current _ item items r chosen qs _ more) is = cc
no_items s name trav next _ _ _ (fresh _ item items chosen qs _ more) is = cc

-- without a node no row stands
no_nodes : (us : List Node) (sorted : List RowBrief) → us ++ cleanup_nodes sorted ≡ [] → sorted ≡ []
no_nodes [] [] is = refl
no_nodes [] (b ∷ bs) is = cc
no_nodes (u ∷ us) sorted is = cc

none_standing : (standing : List Row) → length (map brief_of standing) ≡ 0 → (r : Row) → Contains standing r → ⊥
none_standing [] is r has = contains_none r has
none_standing (x ∷ xs) is r has = omega arith

module _ (s : StateData) (S : Standing s) (name : List ℕ) (items : List Item) (it : Sets) (k : Lays s name items)
    (ordered : IsOrdered s name items it) where
  h : Links s
  h = S.links

  abbrev next : Numbers
  next = past_command s.next it.stacks (length k.rows) (length k.leaves)

  abbrev st : Stack
  st = stack_set s name it InProgress

  abbrev rows : List Row
  rows = put_rows k.rows s.rows

  up : NoneFalls s.next next
  up = record {
    stack = omega arith;
    trav = omega arith;
    row = omega arith;
    engine = omega arith;
    letter =
        omega arith;
  }

  st_below : StackBelow next.stack next.trav st
  st_below = record { no_ = ordered_number s S name items it ordered; newest = omega arith }

  N : NewRows s name (s.next.row + length k.rows) [] (put_rows k.rows s.rows)
  N = all_new s h name s.next.row items k.chosen k.rows k.chooses
      (ordered_plan s S name items it ordered).1.rising s.rows (none_new s h name items)

  -- the numbers, the stack and its past
  abbrev first : StateData
  first = apply (PutPast it.past) (apply (PutStack st) (apply (change_to.Numbers next) s))

  first_numbered : Numbered first
  first_numbered = Numbered-PutPast _ it.past (Numbered-PutStack _ st st_below
      (Numbered-Numbers s next up h.numbered))

  -- and the new rows
  abbrev mid : StateData
  mid = record first { rows = rows }

  in_table : (n : ℕ) (r : Row) → row_at rows n ≡ Some r → IsSome (stack_at first.stacks r.stack)
  in_table n r at = elim (N.in_table n r at) [
    | inl was ↦ some_put bytes_eq bytes_eq-Decides stack_key st s.stacks r.stack was
    | inr own ↦ subst (λ (x : List ℕ). IsSome (stack_at first.stacks x)) (sym own) (rw (stack_here st s.stacks) refl)
  ]

  mid_links : Links mid
  mid_links = record {
    numbered = record {
      in_table = in_table;
      stacks = first_numbered.stacks;
      rows = N.below;
      graphs = first_numbered.graphs;
      letters = first_numbered.letters;
      jobs = first_numbered.jobs;
      live = first_numbered.live;
      once = first_numbered.once;
    };
    current = N.current;
    chained = N.chained;
    locked = N.locked;
    owned = N.owned;
  }

  -- and the graph
  node_below : (i : ℕ) (node : Node) → slice_get k.graph.nodes i ≡ Some node → row_of node < next.row
  node_below i node at =
      let (r, at_r, own) = laid_nodes_own s name items k i node at in
      let b = (N.below (row_of node) r at_r).no_ in let n = row-key rows (row_of node) r at_r in omega arith

  node_own : (n : ℕ) (a : List ℕ) → IsNodeOf k.graph n → IsOf rows first.graphs first.jobs n a → name ≡ a
  node_own n a is x =
      let (r, at_r, own) = laid_nodes_own s name items k is.i is.node is.there in
      N.owned.one n name a (by_row r (subst (λ (m : ℕ). row_at rows m ≡ Some r) is.its at_r) own) x

  abbrev last : StateData
  last = apply (PutGraph name k.graph) mid

  last_links : Links last
  last_links = record {
    numbered = Numbered-PutGraph mid name k.graph node_below mid_links.numbered;
    current = N.current;
    chained = N.chained;
    locked = N.locked;
    owned = Owned-put_graph name k.graph rows first.graphs first.jobs node_own N.owned;
  }

  -- a delete with nothing to do has no row
  unrowed : k.graph.nodes ≡ [] → it.act ≡ Delete → NoRow rows name
  unrowed nodes act n r at own =
      let none_put : k.rows ≡ [] = no_items s name s.next.trav s.next.row items k.chosen k.rows k.chooses
      (ordered_delete s name items it ordered act) in
      let was : row_at s.rows n ≡ Some r = subst (λ (x : List Row). row_at
      (put_rows x s.rows) n ≡ Some r) none_put at in
      let sorted : k.built.sorted ≡ [] = no_nodes (update_nodes items k.chosen) k.built.sorted
      (sym k.built.nodes ∙ nodes) in
      let size : length (map brief_of k.standing) ≡ length k.built.sorted = sym
      (length_permutation (map brief_of k.standing) k.built.sorted k.built.rows_are.same) in
      none_standing k.standing (size ∙ ap length sorted) r (k.standing_are.each n r was own)

  marks : (nodes : List Node) → k.graph.nodes ≡ nodes → (t : StateData) → t.next ≡ next → t.rows ≡ rows → Links t
      → Links (applied (settles_at_once nodes s name it) t)
  marks [] is t same_next same_rows h_t =
      Links-complete t st (subst (λ (n : Numbers). StackBelow n.stack n.trav st) (sym same_next) st_below)
      (λ act. subst (λ (x : List Row). NoRow x name) (sym same_rows) (unrowed is act)) h_t
  marks (node ∷ nodes) is t same_next same_rows h_t = h_t

  pub laid : Links (applied (laid_changes s name items it k) s)
  laid =
      subst Links (sym (rows_first first k.rows _))
      (Links-sends last (first_letters s name items it k) (settles_at_once k.graph.nodes s name it)
      (letters-below next s.next.letter st k.leaves (omega arith) (omega arith))
      (λ t same_next same_rows h_t. marks k.graph.nodes refl t same_next same_rows h_t) last_links)

pub links_by_commands : KeptByCommands Links
links_by_commands s name items it k S ordered = laid s S name items it k ordered
