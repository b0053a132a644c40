-- Jobs fit after a finish, with or without the mark that it brings: `finish_keeps` and `finish_marks`.
use Rattle.std.proofs.Common.{◌≡◌, ◌≢◌, ◌⊎◌, inl, inr, ℕ, [], ◌∷◌, Bool, List, Some, refl, sym, ap, ◌∙◌, subst}
use Rattle.std.specs.Prelude.{slice_get, ◌||◌}
use Rattle.heat_plan.specs.declared.phase.Act.{Act}
use Rattle.heat_plan.specs.declared.phase.Act.TheVariants.{Create, Delete, Init, Rollback, Update}
use Rattle.heat_plan.specs.declared.phase.Status.TheVariants.{Complete}
use Rattle.traversal_graph.specs.declared.shape.Node.{Node}
use Rattle.row_table.specs.Rows.{row_at}
use Rattle.row_table.specs.declared.row.Row.{Row}
use Rattle.sync_points.specs.declared.point.Input.{Input}
use Rattle.mail_table.specs.Mails.{job_at}
use Rattle.mail_table.specs.declared.mail.Job.{Job}
use Rattle.core_state.specs.Changes.{applied}
use Rattle.core_state.specs.Reads.{IsDone}
use Rattle.core_state.specs.State.{StateData, cut_stack, graph_at, stack_at}
use Rattle.core_state.specs.declared.change.Change.TheVariants.{DropStack}
use Rattle.core_state.specs.declared.graph.Graph.{Graph}
use Rattle.core_state.specs.declared.stack.Stack.{Stack}
use Rattle.step_relation.specs.Finishes.{Finishes, finished_changes, given_input}
use Rattle.step_relation.specs.Inputs.{passed}
use Rattle.step_relation.specs.Targets.{IsTarget}
use Rattle.step_relation.specs.Writes.{mark_complete}
use Rattle.step_relation.specs.MailFits.{IsNewest, JobStands, JobsFit}
use Rattle.step_relation.specs.Sound.{Standing}
use Rattle.history_laws.proofs.tables.Rows.{graph_kept, same_some, stack-key, stack_cut, text_or_not}
use Rattle.history_laws.proofs.tables.Targets.{target_once}
use Rattle.graph_laws.proofs.graphs.Finished.{between, comes, its_stack, rows_then, v, written_else, written_here}
use Rattle.graph_laws.proofs.graphs.Kept.{SameStacks, stacks_marked, stacks_same}
use Rattle.graph_laws.proofs.graphs.Passed.{after_found, passed_is, same_test}
use Rattle.graph_laws.proofs.graphs.Placed.{job_target}
use Rattle.graph_laws.proofs.letters.Finished.{ready_still}
use Rattle.graph_laws.proofs.jobs.Onward.{Grounds, Grown}
use Rattle.graph_laws.proofs.jobs.Steps.{OthersWere, ended}
use Rattle.graph_laws.proofs.jobs.Told.{but_then}

-- no other node is done
done_was : (g : Graph) (i : ℕ) (x : Input) (succs : List ℕ) (k : ℕ) → IsDone (passed g i x succs) k
    → (k ≡ i) ⊎ IsDone g k
done_was g i x succs k done =
    let d = subst (λ (y : Graph). IsDone y k) (passed_is g i x succs) done in
    let (q, at, after) = after_found g i x succs k d.point d.there in elim (same_test k i) [
      | inl is ↦ inl is.0
      | inr ne ↦
          inr (record { point = q; there = at; done = sym (after.done ∙ ap (λ (b : Bool). b || q.done) ne.1) ∙ d.done })
    ]

module _ (s : StateData) (h : Standing s) (e : ℕ) (k : Finishes s e) where
  abbrev i : ℕ
  i = k.job.letter.node

  abbrev own : List ℕ
  own = k.job.letter.stack

  abbrev x : Input
  x = given_input s e k

  abbrev after : Graph
  after = passed k.fresh.graph i x k.succs

  its_name : k.fresh.stack.name ≡ own
  its_name = stack-key s.stacks own k.fresh.stack k.fresh.names.in_table

  -- another job of the newest traversal is at another node
  node_apart : (f : ℕ) (j : Job) → job_at s.jobs f ≡ Some j → e ≢ f → j.letter.stack ≡ own → (st : Stack)
      → IsNewest s j.letter st → j.letter.node ≢ i
  node_apart f j its ne is st newest same =
      let o : JobStands s j st = h.shape.jobs.newest f j st its newest in
      let stack : st ≡ k.fresh.stack = same_some st k.fresh.stack
      (subst (λ (y : List ℕ). stack_at s.stacks y ≡ Some st) is newest.in_table) k.fresh.names.in_table in
      let graph : o.graph ≡ k.fresh.graph = same_some o.graph k.fresh.graph
      (subst (λ (y : List ℕ). graph_at s.graphs y ≡ Some o.graph) is o.names.its_graph) k.fresh.names.its_graph in
      let node : o.node ≡ k.fresh.node = same_some o.node k.fresh.node
      (subst (λ (y : Graph). slice_get y.graph.nodes i ≡ Some o.node) graph
      (subst (λ (n : ℕ). slice_get o.graph.graph.nodes n ≡ Some o.node) same o.names.its_node))
      k.fresh.names.its_node in
      let to : IsTarget s.rows k.fresh.stack.name k.fresh.node j.row =
      subst (λ (y : Stack). IsTarget s.rows y.name k.fresh.node j.row) stack
      (subst (λ (y : Node). IsTarget s.rows st.name y j.row) node o.fits.target) in
      let mine : IsTarget s.rows k.fresh.stack.name k.fresh.node k.job.row =
      job_target s h e k.job k.works.its k.fresh.stack k.fresh.graph k.fresh.node k.fresh.names in
      ne (h.links.locked.apart e f k.job j k.works.its its
      (target_once s.rows k.fresh.stack.name k.fresh.node k.job.row j.row mine to))

  module _ (t : StateData) (stacks : SameStacks s.stacks t.stacks)
      (others : (name : List ℕ) → name ≢ own → graph_at t.graphs name ≡ graph_at s.graphs name)
      (mine : (st : Stack) → stack_at t.stacks own ≡ Some st → graph_at t.graphs own ≡ Some after) where
    grown : (f : ℕ) (j : Job) → job_at s.jobs f ≡ Some j → e ≢ f → (o : Stack) → IsNewest s j.letter o → (st : Stack)
        → stack_at t.stacks j.letter.stack ≡ Some st
        → (g : Graph) → graph_at s.graphs j.letter.stack ≡ Some g → Grown t j.letter.stack g j.letter.node
    grown f j its ne o was st at g at_g = elim (text_or_not j.letter.stack own) [
      | inl is ↦
          let same : k.fresh.graph ≡ g = same_some k.fresh.graph g k.fresh.names.its_graph
          (subst (λ (y : List ℕ). graph_at s.graphs y ≡ Some g) is at_g) in
          subst (λ (y : Graph). Grown t j.letter.stack y j.letter.node) same (record {
            graph = after;
            found = subst (λ (y : List ℕ). graph_at t.graphs y ≡ Some after) (sym is)
                (mine st (subst (λ (y : List ℕ). stack_at t.stacks y ≡ Some st) is at));
            nodes = λ n node there. subst (λ (y : Graph). slice_get y.graph.nodes n ≡ Some node)
                (sym (passed_is k.fresh.graph i x k.succs)) there;
            ready = ready_still k.fresh.graph i x k.succs;
            undone = λ open_ done. elim (done_was k.fresh.graph i x k.succs j.letter.node done) [
              | inl at_i ↦ node_apart f j its ne is o was at_i
              | inr old ↦ open_ old
            ];
          })
      | inr other ↦ record {
        graph = g;
        found = others j.letter.stack other ∙ at_g;
        nodes = λ n node there. there;
        ready = λ n ready. ready;
        undone = λ open_. open_;
      }
    ]

    were : OthersWere s t e
    were f j its ne st newest =
        let (o, status, at, is) = stacks j.letter.stack st newest.in_table in
        let was : IsNewest s j.letter o =
        record { in_table = at; newest = ap (λ (y : Stack). y.trav) is ∙ newest.newest } in
        record {
          stack = o;
          status = status;
          is = is;
          newest = was;
          grown = grown f j its ne o was st newest.in_table;
        }

    fits_then : t.rows ≡ rows_then k.fresh.row s.rows → t.jobs ≡ (between s h e k).jobs → Grounds t → JobsFit t
    fits_then rows jobs b = ended s t h b e k.job k.works.its
        (λ n ne lt. subst (λ (y : List Row). row_at y n ≡ row_at s.rows n) (sym rows)
        (but_then s h k.fresh.row k.job.row k.fresh.found n ne)) were jobs

  others_stay : (name : List ℕ) → name ≢ own → graph_at (between s h e k).graphs name ≡ graph_at s.graphs name
  others_stay name ne = written_else (v s h e k) own (its_stack s h e k) (i ∷ k.succs) s.graphs name ne

  mine_then : graph_at (between s h e k).graphs own ≡ Some after
  mine_then = written_here (v s h e k) own (its_stack s h e k)
      (i ∷ k.succs) s.graphs k.fresh.graph k.fresh.names.its_graph

  marked : (a : Act) → stack_at s.stacks own ≡ Some (record k.fresh.stack { act = a })
      → Grounds (applied (mark_complete (record k.fresh.stack { act = a })) (between s h e k))
      → JobsFit (applied (mark_complete (record k.fresh.stack { act = a })) (between s h e k))
  marked Delete at = fits_then (applied (DropStack k.fresh.stack.name ∷ []) (between s h e k)) cut
      (λ name ne. graph_kept k.fresh.stack.name (between s h e k).graphs name (λ eq. ne (sym eq ∙ its_name))
      ∙ others_stay name ne)
      (λ st there. absurd ((stack_cut k.fresh.stack.name s.stacks there).0 its_name)) refl refl where
        cut : SameStacks s.stacks (cut_stack k.fresh.stack.name s.stacks)
        cut name st there = (st, st.status, (stack_cut k.fresh.stack.name s.stacks there).1, refl)
  marked Init at = fits_then (applied (mark_complete (record k.fresh.stack { act = Init })) (between s h e k))
      (stacks_marked s.stacks own (record k.fresh.stack { act = Init }) Complete at) others_stay
      (λ st there. mine_then) refl refl
  marked Create at = fits_then (applied (mark_complete (record k.fresh.stack { act = Create })) (between s h e k))
      (stacks_marked s.stacks own (record k.fresh.stack { act = Create }) Complete at) others_stay
      (λ st there. mine_then) refl refl
  marked Update at = fits_then (applied (mark_complete (record k.fresh.stack { act = Update })) (between s h e k))
      (stacks_marked s.stacks own (record k.fresh.stack { act = Update }) Complete at) others_stay
      (λ st there. mine_then) refl refl
  marked Rollback at = fits_then (applied (mark_complete (record k.fresh.stack { act = Rollback })) (between s h e k))
      (stacks_marked s.stacks own (record k.fresh.stack { act = Rollback }) Complete at) others_stay
      (λ st there. mine_then) refl refl

  pub finish_keeps : Grounds (applied (finished_changes s e k []) s) → JobsFit (applied (finished_changes s e k []) s)
  finish_keeps b = subst JobsFit (sym (comes s h e k []))
      (fits_then (between s h e k) (stacks_same s.stacks) others_stay (λ st there. mine_then) refl refl
      (subst Grounds (comes s h e k []) b))

  pub finish_marks : Grounds (applied (finished_changes s e k (mark_complete k.fresh.stack)) s)
      → JobsFit (applied (finished_changes s e k (mark_complete k.fresh.stack)) s)
  finish_marks b = subst JobsFit (sym (comes s h e k (mark_complete k.fresh.stack)))
      (marked k.fresh.stack.act k.fresh.names.in_table (subst Grounds (comes s h e k (mark_complete k.fresh.stack)) b))
