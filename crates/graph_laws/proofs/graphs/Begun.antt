-- Graphs fit after the begin of a node in whatever form but a replacement, and after each answer of a poll.
use Rattle.std.proofs.Common.{◌≡◌, ℕ, List, Some, refl, sym, ap, ◌∙◌, subst}
use Rattle.std.specs.Prelude.{Contains}
use Rattle.heat_value.specs.Data.{Members}
use Rattle.heat_plan.specs.Plans.{names_of}
use Rattle.heat_plan.specs.declared.facts.Facts.{Facts}
use Rattle.heat_plan.specs.declared.phase.Act.TheVariants.{Delete}
use Rattle.heat_plan.specs.declared.phase.Status.{Status}
use Rattle.heat_plan.specs.declared.phase.Status.TheVariants.{Complete, InProgress}
use Rattle.traversal_graph.specs.declared.shape.Node.TheVariants.{U}
use Rattle.row_table.specs.Rows.{cut_row, row_at}
use Rattle.row_table.specs.declared.row.Row.{Row}
use Rattle.mail_table.specs.declared.mail.Stage.TheVariants.{Asking, Ending, Polling}
use Rattle.core_state.specs.Changes.{applied}
use Rattle.core_state.specs.Reads.{IsDone}
use Rattle.core_state.specs.State.{StateData, stack_at}
use Rattle.core_state.specs.declared.stack.Stack.{Stack}
use Rattle.step_relation.specs.Asks.{Calls}
use Rattle.step_relation.specs.Begins.{Begins, begun_changes}
use Rattle.step_relation.specs.Cleanups.{Cleans, IsKept, purged_changes, retained_changes}
use Rattle.step_relation.specs.Freshness.{plan_of}
use Rattle.step_relation.specs.Rows.{created_row, deleted_row, ready_row, same_row, updated_row}
use Rattle.step_relation.specs.Targets.{IsCurrentOf}
use Rattle.step_relation.specs.GraphFits.{IsNode, TargetFits, graph_of}
use Rattle.step_relation.specs.MailFits.{HasUnderWay, IsUnderWay, polls}
use Rattle.step_relation.specs.Sound.{Standing}
use Rattle.history_laws.proofs.tables.Rows.{row_self, same_some}
use Rattle.graph_laws.specs.graphs.Laws.{GraphsFit}
use Rattle.graph_laws.proofs.graphs.Carried.{aims_of}
use Rattle.graph_laws.proofs.graphs.Carriers.{carries_cut}
use Rattle.graph_laws.proofs.graphs.Kept.{CarriesAll, kept_by, stacks_same}
use Rattle.graph_laws.proofs.graphs.Shapes.{carries_shape, carries_up, create_is_kept, same_stack, update_is_kept}

abbrev IsPlanned : Stack → List ℕ → Type 0
IsPlanned st word = Contains (names_of (plan_of st.plan).items) word

-- no update node has the row as its target
abbrev pub IsNoTarget : StateData → Row → Type 0
IsNoTarget s r = (name : List ℕ) (st : Stack) (i m : ℕ) (word : List ℕ) → stack_at s.stacks name ≡ Some st
    → IsNode (graph_of s name) i (U word m) → TargetFits s st word m r → ⊥

module _ (s : StateData) (h : Standing s) where
  pub cuts : (t : StateData) (n : ℕ) (r : Row) → row_at s.rows n ≡ Some r → t.rows ≡ cut_row r.no s.rows
      → IsNoTarget s r → CarriesAll s t
  cuts t n r at same out name st at_st = carries_cut s t h name st at_st r.no same (λ i m word o node f is.
      let eq : o ≡ r = same_some o r f.is.found
      (subst (λ (x : ℕ). row_at s.rows x ≡ Some r) is (row_self s.rows n r at)) in
      out name st i m word at_st node (subst (λ (x : Row). TargetFits s st word m x) eq f))

  module _ (e : ℕ) (k : Begins s e) (props : Members) where
    pub creates : GraphsFit
        (applied (begun_changes k.job Asking (created_row k.row k.item k.stack.trav props k.required)) s)
    creates = kept_by s _ h (stacks_same s.stacks) refl
        (carries_up s _ h e k.job k.row k.works.its k.found k.stack k.names.in_table
        (created_row k.row k.item k.stack.trav props k.required) refl
        (record { no_ = refl; stack = refl; name = refl; newest = refl; replaced_by = refl; kept = λ _. k.kept }) refl
        (λ name st i m word at_st node f. create_is_kept))

    pub updates : GraphsFit
        (applied (begun_changes k.job Asking (updated_row k.row k.item k.stack.trav props k.required)) s)
    updates = kept_by s _ h (stacks_same s.stacks) refl
        (carries_up s _ h e k.job k.row k.works.its k.found k.stack k.names.in_table
        (updated_row k.row k.item k.stack.trav props k.required) refl
        (record { no_ = refl; stack = refl; name = refl; newest = refl; replaced_by = refl; kept = λ _. k.kept }) refl
        (λ name st i m word at_st node f. update_is_kept))

  pub keeps : (e : ℕ) (k : Begins s e)
      → GraphsFit (applied (begun_changes k.job Ending (same_row k.row k.item k.stack.trav k.required)) s)
  keeps e k = kept_by s _ h (stacks_same s.stacks) refl
      (carries_up s _ h e k.job k.row k.works.its k.found k.stack k.names.in_table
      (same_row k.row k.item k.stack.trav k.required) refl
      (record { no_ = refl; stack = refl; name = refl; newest = refl; replaced_by = refl; kept = λ _. k.kept }) refl
      (λ name st i m word at_st node f. k.kept))

  -- a row that isn't kept is no target
  module _ (e : ℕ) (k : Cleans s e) (r : Row) (at : row_at s.rows k.job.row ≡ Some r)
      (loose : ¬ IsKept s k.stack r) where
    no_target : IsNoTarget s r
    no_target name st i m word at_st node f =
        let own : k.stack ≡ st = same_stack s s h e k.job r k.works.its at k.stack k.names.in_table name st at_st
        f.is.stack_is in
        let planned = (h.shape.graphs name st at_st).nodes.only_items i m word node in
        loose (record {
          current = subst (λ (x : List ℕ). IsCurrentOf s.rows r.stack x r) (sym f.is.name_is)
              (subst (λ (x : List ℕ). IsCurrentOf s.rows x word r) (sym f.is.stack_is) f.is);
          planned = subst (λ (x : List ℕ). IsPlanned k.stack x) (sym f.is.name_is)
              (subst (λ (x : Stack). IsPlanned x word) (sym own) planned);
        })

    pub purges : GraphsFit (applied (purged_changes k.job r) s)
    purges = kept_by s _ h (stacks_same s.stacks) refl (cuts _ k.job.row r at refl no_target)

    pub retains : GraphsFit (applied (retained_changes k.job r) s)
    retains = kept_by s _ h (stacks_same s.stacks) refl (cuts _ k.job.row r at refl no_target)

    pub deletes : GraphsFit (applied (begun_changes k.job Asking (deleted_row r k.stack.trav)) s)
    deletes = kept_by s _ h (stacks_same s.stacks) refl
        (carries_up s _ h e k.job r k.works.its at k.stack k.names.in_table (deleted_row r k.stack.trav) refl
        (record {
          no_ = refl;
          stack = refl;
          name = refl;
          newest = refl;
          replaced_by = refl;
          kept = λ e. absurd (e refl);
        }) refl
        (λ name st i m word at_st node f. absurd (no_target name st i m word at_st node f)))

  -- a row that is polled is the target of no done node
  module _ (e : ℕ) (k : Calls s e Polling) where
    complete_is_over : {o : Status} → o ≡ InProgress → o ≡ Complete → ⊥
    complete_is_over u d = cc

    undone : (name : List ℕ) (st : Stack) (i m : ℕ) (word : List ℕ) → stack_at s.stacks name ≡ Some st
        → IsNode (graph_of s name) i (U word m)
        → TargetFits s st word m k.row → ¬ IsDone (graph_of s name) i
    undone name st i m word at_st node f done =
        let under : HasUnderWay s k.job = h.shape.jobs.under_way e k.job k.works.its
        (subst IsUnderWay (sym k.works.stage_is) polls) in
        let same : under.row ≡ k.row = same_some under.row k.row under.found k.found in
        let made = (h.shape.rows name st at_st).made i word k.row
        (aims_of s st (graph_of s name) i m word k.row node f) done in
        complete_is_over (ap (λ (x : Row). x.status) (sym same) ∙ under.status) made.status

    pub readies : (facts : Facts) → GraphsFit (applied (begun_changes k.job Ending (ready_row k.row facts)) s)
    readies facts = kept_by s _ h (stacks_same s.stacks) refl
        (carries_shape s _ h k.job.row k.row (ready_row k.row facts) k.found refl
        (record { no_ = refl; stack = refl; name = refl; act = refl; trav = refl; replaced_by = refl })
        (λ name st i m word at_st node f done. absurd (undone name st i m word at_st node f done)))

    pub goes : k.row.act ≡ Delete → GraphsFit (applied (purged_changes k.job k.row) s)
    goes act = kept_by s _ h (stacks_same s.stacks) refl
        (cuts _ k.job.row k.row k.found refl (λ name st i m word at_st node f. f.kept act))
