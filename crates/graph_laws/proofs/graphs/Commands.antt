-- Graphs fit after each command: `graphs_laid`.
use Rattle.std.proofs.Common.{◌≡◌, inl, inr, ℕ, List, [], ◌∷◌, ◌++◌, map, Some, refl, sym, ap, ◌∙◌, subst}
use Rattle.std.specs.Prelude.{length}
use Rattle.heat_plan.specs.declared.item.Item.{Item}
use Rattle.heat_plan.specs.declared.phase.Act.{Act}
use Rattle.heat_plan.specs.declared.phase.Act.TheVariants.{Create, Delete, Init, Rollback, Update}
use Rattle.heat_plan.specs.declared.phase.Status.{Status}
use Rattle.heat_plan.specs.declared.phase.Status.TheVariants.{Complete, InProgress}
use Rattle.traversal_graph.specs.declared.shape.Node.{Node}
use Rattle.core_state.specs.Changes.{applied, apply, fresh_graph}
use Rattle.core_state.specs.State.{StateData, graph_at, put_graph, put_past, put_stack, stack_at}
use Rattle.core_state.specs.declared.change.Change.TheVariants.{PutGraph, Send}
use Rattle.core_state.specs.declared.graph.Graph.{Graph}
use Rattle.core_state.specs.declared.stack.Stack.{Stack}
use Rattle.step_relation.specs.Commands.{Lays, Sets, first_letters, laid_changes, past_command, settles_at_once}
use Rattle.step_relation.specs.Commands.{stack_set}
use Rattle.step_relation.specs.Writes.{mark_complete}
use Rattle.step_relation.specs.Elsewhere.{Elsewhere}
use Rattle.step_relation.specs.GraphFits.{GraphFits, graph_of, graph_or}
use Rattle.step_relation.specs.Groups.{KeptByCommands}
use Rattle.step_relation.specs.Sound.{Standing}
use Rattle.history_laws.proofs.tables.Rows.{graph_here, same_some, stack_cut, stack_here, text_or_not}
use Rattle.history_laws.proofs.frames.Commands.{commands_on_one}
use Rattle.history_laws.proofs.frames.Others.{others_stand}
use Rattle.graph_laws.specs.graphs.Laws.{GraphsFit}
use Rattle.graph_laws.proofs.graphs.Built.{graph_built}
use Rattle.graph_laws.proofs.graphs.Chosen.{put_rows, puts_rows}
use Rattle.graph_laws.proofs.graphs.Kept.{sends, sent}
use Rattle.graph_laws.proofs.graphs.Ordered.{Asked, asked_of}
use Rattle.graph_laws.proofs.graphs.Restated.{restated, with_status}

-- the graph of this stack fits, if the stack is there
abbrev OwnFits : List ℕ → StateData → Type 0
OwnFits name t = (st : Stack) → stack_at t.stacks name ≡ Some st → GraphFits t st (graph_of t name)

module _ (s : StateData) (h : Standing s) (name : List ℕ) (items : List Item) (k : Lays s name items) where
  abbrev pub g : Graph
  g = fresh_graph name k.graph

  module _ (it : Sets) where
    abbrev pub st : Stack
    st = stack_set s name it InProgress

    abbrev pub begun : StateData
    begun = record s {
      next = past_command s.next it.stacks (length k.rows) (length k.leaves);
      stacks = put_stack st s.stacks;
      pasts = put_past it.past s.pasts;
    }

    -- the state before the mark
    abbrev pub laid : StateData
    laid = record begun {
      rows = put_rows k.rows s.rows;
      graphs = put_graph g s.graphs;
      letters = sent (first_letters s name items it k) s.letters;
    }

    pub comes : applied (laid_changes s name items it k) s ≡ applied (settles_at_once k.graph.nodes s name it) laid
    comes = puts_rows k.rows (PutGraph name k.graph
        ∷ (map Send (first_letters s name items it k) ++ settles_at_once k.graph.nodes s name it)) begun
        ∙ sends (first_letters s name items it k) (settles_at_once k.graph.nodes s name it)
        (apply (PutGraph name k.graph) (record begun { rows = put_rows k.rows s.rows }))

    -- with another status or the same
    fits : Asked items it → (t : StateData) → t.rows ≡ put_rows k.rows s.rows → t.graphs ≡ put_graph g s.graphs
        → (x : Status)
        → stack_at t.stacks name ≡ Some (with_status x st) → OwnFits name t
    fits asked t rows graphs x there st' at =
        let is : with_status x st ≡ st' = same_some (with_status x st) st' there at in
        let graph : graph_of t name ≡ g = ap (λ (gs : List Graph). graph_or name (graph_at gs name)) graphs
        ∙ ap (graph_or name) (graph_here g s.graphs) in
        subst (GraphFits t st') (sym graph) (subst (λ (y : Stack). GraphFits t y g) is
        (restated t st g x (graph_built s h name items it k asked t rows)))

  marked : (it : Sets) → Asked items it → (a : Act)
      → OwnFits name (applied (mark_complete (stack_set s name (record it { act = a }) InProgress))
      (laid (record it { act = a })))
  marked it asked Delete = λ st' at. absurd ((stack_cut name (laid (record it { act = Delete })).stacks at).0 refl)
  marked it asked Init = fits (record it { act = Init })
      (record { its = asked.its; rising = asked.rising; acyclic = asked.acyclic }) _ refl refl Complete
      (stack_here (with_status Complete (st (record it { act = Init })))
      (put_stack (st (record it { act = Init })) s.stacks))
  marked it asked Create = fits (record it { act = Create })
      (record { its = asked.its; rising = asked.rising; acyclic = asked.acyclic }) _ refl refl Complete
      (stack_here (with_status Complete (st (record it { act = Create })))
      (put_stack (st (record it { act = Create })) s.stacks))
  marked it asked Update = fits (record it { act = Update })
      (record { its = asked.its; rising = asked.rising; acyclic = asked.acyclic }) _ refl refl Complete
      (stack_here (with_status Complete (st (record it { act = Update })))
      (put_stack (st (record it { act = Update })) s.stacks))
  marked it asked Rollback = fits (record it { act = Rollback })
      (record { its = asked.its; rising = asked.rising; acyclic = asked.acyclic }) _ refl refl Complete
      (stack_here (with_status Complete (st (record it { act = Rollback })))
      (put_stack (st (record it { act = Rollback })) s.stacks))

  settled : (it : Sets) → Asked items it → (nodes : List Node)
      → OwnFits name (applied (settles_at_once nodes s name it) (laid it))
  settled it asked [] = marked it asked it.act
  settled it asked (node ∷ nodes) = fits it asked (laid it) refl refl InProgress (stack_here (st it) s.stacks)

  own_fits : (it : Sets) → Asked items it → OwnFits name (applied (laid_changes s name items it k) s)
  own_fits it asked = subst (OwnFits name) (sym (comes it)) (settled it asked k.graph.nodes)

pub graphs_laid : KeptByCommands GraphsFit
graphs_laid s name items it k h ordered = by (applied (laid_changes s name items it k) s)
    (commands_on_one s name items it k h ordered)
    (own_fits s h name items k it (asked_of s h name items it ordered)) where
      by : (t : StateData) → Elsewhere name s t → OwnFits name t → GraphsFit t
      by t frame own other st at = elim (text_or_not other name) [
        | inl is ↦ subst (λ (x : List ℕ). GraphFits t st (graph_of t x)) (sym is)
            (own st (subst (λ (x : List ℕ). stack_at t.stacks x ≡ Some st) is at))
        | inr ne ↦ (others_stand name s t frame h.links other ne).graphs st at
            (h.shape.graphs other st (sym (frame.stacks other ne) ∙ at))
      ]
