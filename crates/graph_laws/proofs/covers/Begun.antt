-- Nodes are covered after the begin of a node in each form, and after asks and polls that go on.
use Rattle.std.proofs.Common.{◌≡◌, ◌≢◌, inl, inr, ℕ, ◌++◌, List, Option, Some, refl, sym, ap, ◌∙◌, subst, arith}
use Rattle.heat_value.specs.Data.{Members}
use Rattle.heat_plan.specs.declared.facts.Facts.{Facts}
use Rattle.heat_plan.specs.declared.phase.Act.TheVariants.{Delete}
use Rattle.heat_plan.specs.declared.phase.Status.TheVariants.{Failed, InProgress}
use Rattle.traversal_graph.specs.declared.shape.Node.{Node}
use Rattle.traversal_graph.specs.declared.shape.Node.TheVariants.{C, U}
use Rattle.row_table.specs.Rows.{put_row, row_at}
use Rattle.row_table.specs.declared.row.Row.{Row}
use Rattle.mail_table.specs.Mails.{job_at}
use Rattle.mail_table.specs.declared.mail.Job.{Job}
use Rattle.mail_table.specs.declared.mail.Letter.{Letter}
use Rattle.mail_table.specs.declared.mail.Stage.{Stage}
use Rattle.mail_table.specs.declared.mail.Stage.TheVariants.{Asking, Ending, Polling}
use Rattle.core_state.specs.Changes.{applied}
use Rattle.core_state.specs.State.{StateData, put_stack, stack_at}
use Rattle.core_state.specs.declared.graph.Graph.{Graph}
use Rattle.core_state.specs.declared.stack.Stack.{Stack}
use Rattle.step_relation.specs.Asks.{Calls, Falls, marked, marks, overrun}
use Rattle.step_relation.specs.Begins.{Begins, begun_changes, left_changes, next_row, onward_changes, replaced_changes}
use Rattle.step_relation.specs.Cleanups.{purged_changes, retained_changes}
use Rattle.step_relation.specs.Rows.{ready_row, replaced, unlocked}
use Rattle.step_relation.specs.Targets.{IsTarget, of_c}
use Rattle.step_relation.specs.Writes.{mark_failed}
use Rattle.step_relation.specs.MailFits.{IsNewest, IsStale}
use Rattle.step_relation.specs.Sound.{Standing}
use Rattle.step_relation.specs.Stir.{Covered, IsTo}
use Rattle.history_laws.proofs.tables.Fresh.{overrun_is_old}
use Rattle.history_laws.proofs.tables.Rows.{job_kept, row-key, row_else, same_some, stack_put}
use Rattle.history_laws.proofs.tables.Targets.{cleanup_target}
use Rattle.graph_laws.proofs.graphs.Kept.{stacks_marked, stacks_same}
use Rattle.graph_laws.proofs.graphs.Restated.{with_status}
use Rattle.graph_laws.proofs.jobs.Begun.{but_cut, but_put, put_there}
use Rattle.graph_laws.proofs.jobs.Onward.{Grounds, target_in}
use Rattle.graph_laws.proofs.covers.Carried.{OpenAt, aimed}
use Rattle.graph_laws.proofs.covers.Steps.{failed_is_marked, goes_on, one_job, unmarked_put}

-- a letter of the newest traversal isn't stale
pub not_stale : (s : StateData) (l : Letter) (st : Stack) → IsNewest s l st → IsStale s.stacks l → ⊥
not_stale s l st k stale = stale st k.in_table k.newest

module _ (s : StateData) (h : Standing s) where
  module _ (e : ℕ) (j : Job) (st0 : Stack) (its : job_at s.jobs e ≡ Some j) (newest : IsNewest s j.letter st0) where
    -- a row is written and the job goes on
    pub puts : (x : Stage) (r q : Row) → row_at s.rows j.row ≡ Some r → q.no ≡ r.no
        → Grounds (applied (begun_changes j x q) s)
        → Covered (applied (begun_changes j x q) s)
    puts x r q at is b = goes_on s _ h b (λ name st at_st unmarked. at_st) (stacks_same s.stacks) refl e j its j.row x
        (but_put s q j.row (is ∙ row-key s.rows j.row r at)) refl refl
        (λ st g i node o at_st stale of to. absurd (not_stale s j.letter st0 newest stale))

    pub onward : (x : Stage) → Grounds (applied (onward_changes j x) s) → Covered (applied (onward_changes j x) s)
    onward x b = goes_on s _ h b (λ name st at_st unmarked. at_st) (stacks_same s.stacks) refl e j its j.row x
        (λ n ne lt. refl) refl refl (λ st g i node o at_st stale of to. absurd (not_stale s j.letter st0 newest stale))

    pub purged : (r : Row) → row_at s.rows j.row ≡ Some r → Grounds (applied (purged_changes j r) s)
        → Covered (applied (purged_changes j r) s)
    purged r at b = goes_on s _ h b (λ name st at_st unmarked. at_st) (stacks_same s.stacks) refl e j its j.row Ending
        (but_cut s r.no j.row (row-key s.rows j.row r at)) refl refl
        (λ st g i node o at_st stale of to. absurd (not_stale s j.letter st0 newest stale))

    pub retained : (r : Row) → row_at s.rows j.row ≡ Some r → Grounds (applied (retained_changes j r) s)
        → Covered (applied (retained_changes j r) s)
    retained r at b = goes_on s _ h b (λ name st at_st unmarked. at_st) (stacks_same s.stacks) refl e j its j.row Ending
        (but_cut s r.no j.row (row-key s.rows j.row r at)) refl refl
        (λ st g i node o at_st stale of to. absurd (not_stale s j.letter st0 newest stale))

    -- the job ends, and its stack is marked already or now
    its_stack : (st : Stack) (g : Graph) (i : ℕ) (node : Node) → OpenAt s st g i node → IsTo st i j.letter → st0 ≡ st
    its_stack st g i node o to =
        same_some st0 st newest.in_table
        (subst (λ (y : List ℕ). stack_at s.stacks y ≡ Some st) (sym to.stack) o.in_table)

    pub left : (r : Row) → row_at s.rows j.row ≡ Some r → st0.status ≢ InProgress
        → Grounds (applied (left_changes e r) s)
        → Covered (applied (left_changes e r) s)
    left r at mark b = one_job s _ h b (λ name st at_st unmarked. at_st) (stacks_same s.stacks) refl e j its
        (but_put s (unlocked r) j.row (row-key s.rows j.row r at)) (λ n l at_l. at_l)
        (λ f o at_o ne. job_kept e s.jobs f ne ∙ at_o)
        (λ st g i node o at_st to.
        absurd (mark (ap (λ (y : Stack). y.status) (its_stack st g i node o to) ∙ o.unmarked)))
        (λ st g i node o at_st stale of to. absurd (not_stale s j.letter st0 newest stale))

    pub faulted : (r : Row) (ls : List Letter) (failed : Option Stack) → row_at s.rows j.row ≡ Some r
        → Falls s j ls failed
        → Grounds (applied (left_changes e r ++ mark_failed failed) s)
        → Covered (applied (left_changes e r ++ mark_failed failed) s)
    faulted r ls failed at (overrun _ old _) b = absurd (overrun_is_old s h e j its old st0 newest)
    faulted r ls failed at (marked k ne) b = left r at (λ unmarked.
        ne (ap (λ (y : Stack). y.status) (same_some k.stack st0 k.names.in_table newest.in_table) ∙ unmarked)) b
    faulted r ls failed at (marks k unmarked) b =
        one_job s (applied (left_changes e r ++ mark_failed (Some k.stack)) s) h b
        (unmarked_put s.stacks k.stack Failed failed_is_marked)
        (stacks_marked s.stacks j.letter.stack k.stack Failed k.names.in_table) refl e j its
        (but_put s (unlocked r) j.row (row-key s.rows j.row r at)) (λ n l at_l. at_l)
        (λ f o at_o ne. job_kept e s.jobs f ne ∙ at_o)
        (λ st g i node o at_st to.
        absurd (failed_now st0 (same_some k.stack st0 k.names.in_table newest.in_table) st at_st o
        (its_stack st g i node o to)))
        (λ st g i node o at_st stale of to. absurd (not_stale s j.letter st0 newest stale)) where
          failed_now : (own : Stack) → k.stack ≡ own → (st : Stack)
              → stack_at (put_stack (with_status Failed k.stack) s.stacks) st.name ≡ Some st
              → {g : Graph} {i : ℕ} {node : Node} → OpenAt s st g i node → own ≡ st → ⊥
          failed_now own is st at_st o same = elim (stack_put (with_status Failed k.stack) s.stacks at_st) [
            | inl new ↦ failed_is_marked (ap (λ (y : Stack). y.status) new.1 ∙ o.unmarked)
            | inr was ↦ was.0 (ap (λ (y : Stack). y.name) (is ∙ same))
          ]

  -- another row takes the place of the job's
  pub replaces : (e : ℕ) (k : Begins s e) (props : Members) → Grounds (applied (replaced_changes s e k props) s)
      → Covered (applied (replaced_changes s e k props) s)
  replaces e k props b = goes_on s _ h b (λ name st at_st unmarked. at_st)
      (stacks_same s.stacks) refl e k.job k.works.its s.next.row Asking
      (λ n ne lt. row_else (replaced s.next.row k.row) (put_row (next_row s e k props) s.rows) n
      (λ eq. ne (sym (row-key s.rows k.job.row k.row k.found) ∙ eq))
      ∙ row_else (next_row s e k props) s.rows n (λ eq. let is : s.next.row ≡ n = eq in omega arith))
      refl refl (λ st g i node o at_st stale of to. absurd (not_stale s k.job.letter k.stack
      (record { in_table = k.names.in_table; newest = k.names.newest }) stale))

  -- the row of a job that asks is as it was
  pub asks_on : (e : ℕ) (k : Calls s e Asking) → Grounds (applied (onward_changes k.job Polling) s)
      → Covered (applied (onward_changes k.job Polling) s)
  asks_on e k b = goes_on s _ h b (λ name st at_st unmarked. at_st)
      (stacks_same s.stacks) refl e k.job k.works.its k.job.row Polling
      (λ n ne lt. refl) refl refl (λ st g i node o at_st stale of to. to)

  module _ (e : ℕ) (k : Calls s e Polling) where
    number : k.row.no ≡ k.job.row
    number = row-key s.rows k.job.row k.row k.found

    -- what is ready is its node's target still
    still_ready : (facts : Facts) → Grounds (applied (begun_changes k.job Ending (ready_row k.row facts)) s)
        → (st : Stack) (g : Graph) (i : ℕ) (node : Node)
        → OpenAt s st g i node → IsTarget s.rows st.name node k.job.row
        → IsTarget (applied (begun_changes k.job Ending (ready_row k.row facts)) s).rows st.name node k.job.row
    still_ready facts b st g i (C n) o to =
        subst (λ (x : ℕ). IsTarget
        (applied (begun_changes k.job Ending (ready_row k.row facts)) s).rows st.name (C n) x)
        (cleanup_target s.rows st.name n k.job.row to) (of_c n)
    still_ready facts b st g i (U word n) o to =
        let (q, at_q, f) = aimed s h st o.in_table g o.its_graph i n k.job.row word o.its_node to in
        let is : q ≡ k.row = same_some q k.row at_q k.found in
        target_in (applied (begun_changes k.job Ending (ready_row k.row facts)) s) b st.name st o.in_table g o.its_graph
        i n k.job.row word o.its_node
        (ready_row k.row facts) (put_there s (ready_row k.row facts) k.job.row number)
        (ap (λ (y : Row). y.stack) (sym is) ∙ f.is.stack_is) (ap (λ (y : Row). y.name) (sym is) ∙ f.is.name_is)
        (record {
          kept = λ act. f.is.current.kept (ap (λ (y : Row). y.act) is ∙ act);
          last = ap (λ (y : Row). y.replaced_by) (sym is) ∙ f.is.current.last;
        })

    pub readies : (facts : Facts) → Grounds (applied (begun_changes k.job Ending (ready_row k.row facts)) s)
        → Covered (applied (begun_changes k.job Ending (ready_row k.row facts)) s)
    readies facts b = goes_on s _ h b (λ name st at_st unmarked. at_st)
        (stacks_same s.stacks) refl e k.job k.works.its k.job.row Ending
        (but_put s (ready_row k.row facts) k.job.row number) refl refl
        (λ st g i node o at_st stale of to. still_ready facts b st g i node o to)

    -- what is gone is no update node's target
    still_gone : k.row.act ≡ Delete → (st : Stack) (g : Graph) (i : ℕ) (node : Node) → OpenAt s st g i node
        → IsTarget s.rows st.name node k.job.row
        → IsTarget (applied (purged_changes k.job k.row) s).rows st.name node k.job.row
    still_gone act st g i (C n) o to =
        subst (λ (x : ℕ). IsTarget (applied (purged_changes k.job k.row) s).rows st.name (C n) x)
        (cleanup_target s.rows st.name n k.job.row to) (of_c n)
    still_gone act st g i (U word n) o to =
        let (q, at_q, f) = aimed s h st o.in_table g o.its_graph i n k.job.row word o.its_node to in
        absurd (f.kept (ap (λ (y : Row). y.act) (same_some q k.row at_q k.found) ∙ act))

    pub goes : k.row.act ≡ Delete → Grounds (applied (purged_changes k.job k.row) s)
        → Covered (applied (purged_changes k.job k.row) s)
    goes act b = goes_on s _ h b (λ name st at_st unmarked. at_st)
        (stacks_same s.stacks) refl e k.job k.works.its k.job.row Ending
        (but_cut s k.row.no k.job.row number) refl refl
        (λ st g i node o at_st stale of to. still_gone act st g i node o to)
