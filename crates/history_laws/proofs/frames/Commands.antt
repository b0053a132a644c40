-- Each command is on its stack.
use Rattle.std.proofs.Common.{◌≡◌, ◌<◌, ◌≤◌, inl, inr, ℕ, ◌+◌, List, [], ◌∷◌, Some, refl, sym, subst, arith}
use Rattle.std.specs.Prelude.{length}
use Rattle.heat_plan.specs.declared.item.Item.{Item}
use Rattle.heat_plan.specs.declared.phase.Status.TheVariants.{InProgress}
use Rattle.traversal_graph.specs.declared.shape.Node.{Node}
use Rattle.row_table.specs.Rows.{row_at}
use Rattle.row_table.specs.declared.row.Row.{Row}
use Rattle.step_relation.specs.Changes.{applied, apply}
use Rattle.step_relation.specs.State.{StateData}
use Rattle.step_relation.specs.declared.Change.TheVariants.{PutGraph, PutPast, PutRow, PutStack, Send}
use Rattle.step_relation.specs.declared.Numbers.{Numbers}
use Rattle.step_relation.specs.declared.Stack.{Stack}
use Rattle.step_relation.specs.Commands.{Chooses, Lays, Sets, current, first_letters, fresh, laid_changes, none}
use Rattle.step_relation.specs.Commands.{past_command, settles_at_once, stack_set}
use Rattle.step_relation.specs.Rows.{new_row}
use Rattle.step_relation.specs.Applies.{NoneFalls}
use Rattle.step_relation.specs.Elsewhere.{Elsewhere}
use Rattle.step_relation.specs.Linked.{Links}
use Rattle.history_laws.specs.frames.Laws.{CommandsAreOnOne}
use Rattle.history_laws.proofs.frames.Pieces.{completes, letters_new, older, sends}
use Rattle.history_laws.proofs.tables.Frame.{nowhere, on_graph, on_numbers, on_past, on_row, on_stack, then}
use Rattle.history_laws.proofs.tables.Ordered.{ordered_past}
use Rattle.history_laws.proofs.tables.Puts.{put_rows, rows_first}
use Rattle.history_laws.proofs.tables.Rows.{row-key, row_put}
use Rattle.step_relation.specs.declared.Change.TheVariants as change_to

-- new rows have numbers from this one on, and no row has one of those
new_rows : (s : StateData) (name : List ℕ) (trav next : ℕ) (items : List Item) (chosen : List ℕ) (qs : List Row)
    → Chooses s name trav next items chosen qs
    → (t : StateData) → t.next.row ≤ next → ((n : ℕ) (r : Row) → row_at t.rows n ≡ Some r → n < next)
    → Elsewhere name t (record t { rows = put_rows qs t.rows })
new_rows s name trav next _ _ _ (none _) t low old = nowhere name t
new_rows s name trav next _ _ _ (current _ item items r chosen qs is more) t low old =
    new_rows s name trav next items chosen qs more t low old
new_rows s name trav next _ _ _ (fresh _ item items chosen qs lacks more) t low old =
    then name t (apply (PutRow (new_row name trav next item)) t) _
    (on_row name t (new_row name trav next item) refl (λ o at. let lt = old next o at in absurd (omega arith))
    (λ free. low))
    (new_rows s name trav (next + 1) items chosen qs more (apply (PutRow (new_row name trav next item)) t) (omega arith)
    (λ n r at. elim (row_put (new_row name trav next item) t.rows at) [
      | inl new ↦ let is : next ≡ n = new.0 in omega arith
      | inr was ↦ let lt = old n r was.1 in omega arith
    ]))

module _ (s : StateData) (h : Links s) (name : List ℕ) (items : List Item) (it : Sets) (k : Lays s name items)
    (past : it.past.stack ≡ name) where
  abbrev next : Numbers
  next = past_command s.next it.stacks (length k.rows) (length k.leaves)

  abbrev st : Stack
  st = stack_set s name it InProgress

  -- the rows first, while the next row number is theirs
  abbrev rowed : StateData
  rowed = record s { rows = put_rows k.rows s.rows }

  abbrev set : StateData
  set = apply (PutPast it.past) (apply (PutStack st) (apply (change_to.Numbers next) s))

  abbrev last : StateData
  last = apply (PutGraph name k.graph) (record set { rows = put_rows k.rows s.rows })

  old : (n : ℕ) (r : Row) → row_at s.rows n ≡ Some r → n < s.next.row
  old n r at = let m = row-key s.rows n r at in let b = (h.numbered.rows n r at).no_ in omega arith

  up : NoneFalls s.next next
  up = record { stack = omega arith; trav = omega arith; row = omega arith; engine = omega arith; letter = omega arith }

  to_last : Elsewhere name s last
  to_last =
      then name s rowed last (new_rows s name s.next.trav s.next.row items k.chosen k.rows k.chooses s
      (omega arith) old)
      (then name rowed (apply (change_to.Numbers next) rowed) last (on_numbers name rowed next up)
      (then name _ (apply (PutStack st) (apply (change_to.Numbers next) rowed)) last
      (on_stack name (apply (change_to.Numbers next) rowed) st refl)
      (then name _ (record set { rows = put_rows k.rows s.rows }) last
      (on_past name (apply (PutStack st) (apply (change_to.Numbers next) rowed)) it.past past)
      (on_graph name (record set { rows = put_rows k.rows s.rows }) k.graph))))

  settles : (nodes : List Node) (t : StateData) → Elsewhere name t (applied (settles_at_once nodes s name it) t)
  settles [] t = completes t st
  settles (node ∷ nodes) t = nowhere name t

  pub laid_on : Elsewhere name s (applied (laid_changes s name items it k) s)
  laid_on =
      subst (Elsewhere name s) (sym (rows_first set k.rows _))
      (then name s last _ to_last
      (sends name s.next.letter last (first_letters s name items it k) (settles_at_once k.graph.nodes s name it)
      (letters_new name s.next.letter s.next.letter st k.leaves refl (omega arith)) (older name s h)
      (settles k.graph.nodes)))

pub commands_on_one : CommandsAreOnOne
commands_on_one s name items it k S ordered = laid_on s S.links name items it k (ordered_past s name items it ordered)
