-- A command leaves all rows fitting: nothing of its graph is done, and nothing was begun for it.
use Rattle.std.proofs.Common.{◌≡◌, ◌≢◌, inl, inr, ℕ, ◌+◌, List, [], ◌∷◌, Option, Some, None, refl, sym, subst, arith}
use Rattle.std.specs.List.{AllByRecursion}
use Rattle.heat_plan.specs.declared.item.Item.{Item}
use Rattle.heat_plan.specs.declared.phase.Act.{Act}
use Rattle.heat_plan.specs.declared.phase.Act.TheVariants.{Create, Delete, Init, Rollback, Update}
use Rattle.heat_plan.specs.declared.phase.Status.TheVariants.{Complete}
use Rattle.traversal_graph.specs.declared.shape.Node.{Node}
use Rattle.row_table.specs.Rows.{row_at}
use Rattle.row_table.specs.declared.row.Row.{Row}
use Rattle.core_state.specs.Changes.{applied, apply}
use Rattle.core_state.specs.Reads.{IsDone}
use Rattle.core_state.specs.State.{StateData, cut_stack, put_stack, stack_at}
use Rattle.core_state.specs.declared.change.Change.TheVariants.{PutStack}
use Rattle.core_state.specs.declared.graph.Graph.{Graph}
use Rattle.core_state.specs.declared.stack.Stack.{Stack}
use Rattle.step_relation.specs.Commands.{Chooses, Lays, Sets, current, fresh, laid_changes, none, settles_at_once}
use Rattle.step_relation.specs.Writes.{mark_complete}
use Rattle.step_relation.specs.GraphFits.{graph_of}
use Rattle.step_relation.specs.Groups.{IsOrdered, KeptByCommands}
use Rattle.step_relation.specs.RowsFit.{RowsFit}
use Rattle.step_relation.specs.Sound.{Standing}
use Rattle.graph_laws.proofs.fits.Own.{fit_by_own, fit_restated}
use Rattle.graph_laws.specs.fits.Laws.{AllRowsFit}
use Rattle.graph_laws.proofs.marks.Below.{commands_on_one}
use Rattle.graph_laws.proofs.marks.Laid.{after, fg, fresh_undone, its_graph, laid_is, put_one, rows_from, st}
use Rattle.history_laws.proofs.tables.Puts.{all_contains, put_rows}
use Rattle.history_laws.proofs.tables.Rows.{stack_gone}

new_init : (s : StateData) (name : List ℕ) (trav next : ℕ) (items : List Item) (chosen : List ℕ) (qs : List Row)
    → Chooses s name trav next items chosen qs
    → AllByRecursion (λ (q : Row). q.act ≡ Init) qs
new_init s name trav next _ _ _ (none _) = tt
new_init s name trav next _ _ _ (current _ item items r chosen qs is more) =
    new_init s name trav next items chosen qs more
new_init s name trav next _ _ _ (fresh _ item items chosen qs lacks more) =
    (refl, new_init s name trav (next + 1) items chosen qs more)

module _ (s : StateData) (S : Standing s) (name : List ℕ) (items : List Item) (it : Sets) (k : Lays s name items)
    (ordered : IsOrdered s name items it) where
  abbrev own : Stack
  own = st s S name items it k ordered

  abbrev g : Graph
  g = fg s S name items it k ordered

  abbrev then : StateData
  then = after s S name items it k ordered

  undone : (i : ℕ) → IsDone g i → ⊥
  undone i d = fresh_undone name 0 k.graph.nodes i d.point d.there d.done

  unbegun : (n : ℕ) (r : Row) → row_at (put_rows k.rows s.rows) n ≡ Some r → r.trav ≡ s.next.trav → r.act ≢ Init → ⊥
  unbegun n r at newest act = elim (rows_from k.rows s.rows n r at) [
    | inl was ↦ let b = (S.links.numbered.rows n r was).newest in omega arith
    | inr has ↦ act (all_contains (λ (q : Row). q.act ≡ Init) k.rows r
        (new_init s name s.next.trav s.next.row items k.chosen k.rows k.chooses) has)
  ]

  fits : (t : StateData) → t.rows ≡ put_rows k.rows s.rows → RowsFit t own g
  fits t rows = record {
    begun = λ i word r aims newest act. absurd (unbegun r.no r
        (subst (λ (xs : List Row). row_at xs r.no ≡ Some r) rows aims.found) newest act);
    made = λ i word r aims done. absurd (undone i done);
    cleaned = λ i r sweeps done. absurd (undone i done);
  }

  settled_put : (a : Act) → a ≡ it.act → (st' : Stack) → stack_at
      (put_stack (record own { act = a; status = Complete }) (put_stack own s.stacks)) name ≡ Some st'
      → RowsFit (apply (PutStack (record own { act = a; status = Complete })) then) st'
      (graph_of (apply (PutStack (record own { act = a; status = Complete })) then) name)
  settled_put a is st' at =
      subst (λ (x : Stack). RowsFit (apply (PutStack (record own { act = a; status = Complete })) then) x
      (graph_of (apply (PutStack (record own { act = a; status = Complete })) then) name))
      (put_one s S name items it k ordered (record own { act = a; status = Complete }) refl st'
      (put_stack own s.stacks) at)
      (subst (RowsFit (apply (PutStack (record own { act = a; status = Complete })) then)
      (record own { act = a; status = Complete })) (sym (its_graph s S name items it k ordered))
      (subst (λ (b : Act). RowsFit (apply (PutStack (record own { act = b; status = Complete })) then)
      (record own { act = b; status = Complete }) g) (sym is)
      (fit_restated (apply (PutStack (record own { status = Complete })) then) own g Complete
      (fits (apply (PutStack (record own { status = Complete })) then) refl))))

  settled : (a : Act) → a ≡ it.act → (st' : Stack) → stack_at
      (applied (mark_complete (record own { act = a })) then).stacks name ≡ Some st'
      → RowsFit (applied (mark_complete (record own { act = a })) then) st'
      (graph_of (applied (mark_complete (record own { act = a })) then) name)
  settled Delete is st' at =
      let gone : stack_at (cut_stack name (put_stack own s.stacks)) name ≡ None = stack_gone name
      (put_stack own s.stacks) in
      absurd (clash gone at) where
        clash : {o : Option Stack} → o ≡ None → o ≡ Some st' → ⊥
        clash a b = cc
  settled Init is st' at = settled_put Init is st' at
  settled Create is st' at = settled_put Create is st' at
  settled Update is st' at = settled_put Update is st' at
  settled Rollback is st' at = settled_put Rollback is st' at

  by_nodes : (nodes : List Node) (st' : Stack) → stack_at
      (applied (settles_at_once nodes s name it) then).stacks name ≡ Some st'
      → RowsFit (applied (settles_at_once nodes s name it) then) st'
      (graph_of (applied (settles_at_once nodes s name it) then) name)
  by_nodes [] st' at = settled it.act refl st' at
  by_nodes (node ∷ nodes) st' at =
      subst (λ (x : Stack). RowsFit then x (graph_of then name))
      (put_one s S name items it k ordered own refl st' s.stacks at)
      (subst (RowsFit then own) (sym (its_graph s S name items it k ordered)) (fits then refl))

  own_laid : (st' : Stack) → stack_at (applied (laid_changes s name items it k) s).stacks name ≡ Some st'
      → RowsFit (applied (laid_changes s name items it k) s) st'
      (graph_of (applied (laid_changes s name items it k) s) name)
  own_laid st' at =
      subst (λ (x : StateData). RowsFit x st' (graph_of x name)) (sym (laid_is s S name items it k ordered))
      (by_nodes k.graph.nodes st' (subst (λ (x : StateData). stack_at x.stacks name ≡ Some st')
      (laid_is s S name items it k ordered) at))

pub fit_by_commands : KeptByCommands AllRowsFit
fit_by_commands s name items it k S ordered =
    fit_by_own s S (applied (laid_changes s name items it k) s) name (commands_on_one s name items it k S ordered)
    (own_laid s S name items it k ordered)
