-- Nodes are covered after each command: each leaf has a letter, and no other node is ready: `covers_laid`.
use Rattle.std.proofs.Common.{◌≡◌, inl, inr, ℕ, List, Some, sym, ap, ◌∙◌, subst}
use Rattle.std.specs.Prelude.{Contains}
use Rattle.std.proofs.lemmas.Option.{slice_get_within}
use Rattle.heat_plan.specs.declared.item.Item.{Item}
use Rattle.traversal_graph.specs.declared.shape.Node.{Node}
use Rattle.sync_points.specs.declared.point.Input.{Input}
use Rattle.sync_points.specs.declared.point.Point.{Point}
use Rattle.mail_table.specs.Mails.{letter_at}
use Rattle.mail_table.specs.declared.mail.Letter.{Letter}
use Rattle.core_state.specs.Changes.{applied}
use Rattle.core_state.specs.Reads.{IsReady}
use Rattle.core_state.specs.State.{StateData, graph_at, stack_at}
use Rattle.core_state.specs.declared.graph.Graph.{Graph}
use Rattle.core_state.specs.declared.stack.Stack.{Stack}
use Rattle.step_relation.specs.Commands.{IsLeaf, Lays, Sets, laid_changes}
use Rattle.step_relation.specs.Elsewhere.{Elsewhere}
use Rattle.step_relation.specs.GraphFits.{IsNode}
use Rattle.step_relation.specs.Groups.{KeptByCommands}
use Rattle.step_relation.specs.Sound.{Standing}
use Rattle.step_relation.specs.Stir.{Covered, IsCovered, waits}
use Rattle.history_laws.proofs.tables.Rows.{same_some, stack-key, text_or_not}
use Rattle.history_laws.proofs.edges.Keeping.{nothing}
use Rattle.graph_laws.proofs.graphs.Below.{commands_on_one}
use Rattle.graph_laws.proofs.graphs.Below.{other_covered}
use Rattle.graph_laws.proofs.graphs.Commands.{g, st}
use Rattle.graph_laws.proofs.graphs.Places.{fresh_is}
use Rattle.graph_laws.proofs.jobs.Below.{Lain, lain}
use Rattle.graph_laws.proofs.covers.Finished.{letter_for}

module _ (s : StateData) (h : Standing s) (name : List ℕ) (items : List Item) (k : Lays s name items) (it : Sets)
    (t : StateData)
    (frame : Elsewhere name s t) (w : Lain s h name items k it t) where
  -- a node into which an edge leads has no input yet
  leaf : (i : ℕ) (node : Node) → IsNode (g s h name items k) i node → IsReady (g s h name items k) i → IsLeaf k.graph i
  leaf i node at ready = (
    slice_get_within k.graph.nodes i node at,
    λ a edge.
        let d = ready a edge in
        let is = fresh_is name 0 k.graph.nodes i d.point d.there in
        nothing d.input (subst (λ (l : List Input). Contains l d.input) (ap (λ (p : Point). p.inputs) is) d.among),
  )

  mine : (x : Stack) (i : ℕ) (node : Node) → stack_at t.stacks name ≡ Some x → IsNode (g s h name items k) i node
      → IsReady (g s h name items k) i
      → IsCovered t x i node
  mine x i node at at_i ready =
      let (n, l, at_l, to) = letter_for (st s h name items k it) k.leaves s.next.letter s.letters i
      ((k.leaves_are.each i).1 (leaf i node at_i ready)) in
      waits n l (subst (λ (y : List Letter). letter_at y n ≡ Some l) (sym w.letters) at_l) (record {
        stack = to.stack ∙ sym (stack-key t.stacks name x at);
        newest = to.newest ∙ sym (w.newest x at);
        node_is = to.node_is;
      })

  covers : Covered t
  covers = record {
    each = λ other x gr i node at status at_g at_i open_. elim (text_or_not other name) [
      | inl is ↦
          let at' : stack_at t.stacks name ≡ Some x = subst (λ (y : List ℕ). stack_at t.stacks y ≡ Some x) is at in
          let graph : gr ≡ g s h name items k = same_some gr (g s h name items k)
          (subst (λ (y : List ℕ). graph_at t.graphs y ≡ Some gr) is at_g) (w.graph x at') in
          mine x i node at' (subst (λ (y : Graph). IsNode y i node) graph at_i)
          (subst (λ (y : Graph). IsReady y i) graph open_.ready)
      | inr ne ↦ other_covered name s t frame h.links h.covered other ne x gr i node at status at_g at_i open_
    ];
  }

pub covers_laid : KeptByCommands Covered
covers_laid s name items it k h ordered =
    covers s h name items k it (applied (laid_changes s name items it k) s)
    (commands_on_one s name items it k h ordered) (lain s h name items k it)
