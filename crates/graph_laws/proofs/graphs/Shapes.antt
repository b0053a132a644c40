-- How the writes of steps carry a row on: its lock, its failure, its begin and its end.
use Rattle.std.proofs.Common.{◌≡◌, ◌≢◌, ℕ, List, Some, refl, sym, ◌∙◌, subst}
use Rattle.heat_plan.specs.declared.phase.Act.TheVariants.{Create, Delete, Update}
use Rattle.traversal_graph.specs.declared.shape.Node.TheVariants.{U}
use Rattle.row_table.specs.Rows.{put_row, row_at}
use Rattle.row_table.specs.declared.row.Row.{Row}
use Rattle.mail_table.specs.Mails.{job_at}
use Rattle.mail_table.specs.declared.mail.Job.{Job}
use Rattle.core_state.specs.Reads.{IsDone}
use Rattle.core_state.specs.State.{StateData, stack_at}
use Rattle.core_state.specs.declared.stack.Stack.{Stack}
use Rattle.step_relation.specs.GraphFits.{IsNode, TargetFits, graph_of}
use Rattle.step_relation.specs.Linked.{by_job, by_row}
use Rattle.step_relation.specs.Sound.{Standing}
use Rattle.history_laws.proofs.tables.Rows.{row_self, same_some, stack-key}
use Rattle.graph_laws.proofs.graphs.Carried.{Onward}
use Rattle.graph_laws.proofs.graphs.Carriers.{carries_put}
use Rattle.graph_laws.proofs.graphs.Kept.{CarriesAll}

pub create_is_kept : Create ≢ Delete
create_is_kept e = cc

pub update_is_kept : Update ≢ Delete
update_is_kept e = cc

-- all that graphs read of a row stays
pub record SameShape (r q : Row) : Type 0 where
  pub no_ : q.no ≡ r.no
  pub stack : q.stack ≡ r.stack
  pub name : q.name ≡ r.name
  pub act : q.act ≡ r.act
  pub trav : q.trav ≡ r.trav
  pub replaced_by : q.replaced_by ≡ r.replaced_by

pub onward_shape : (trav : ℕ) (r q : Row) → SameShape r q → Onward trav r q
onward_shape trav r q k = record {
  no_ = k.no_;
  stack = k.stack;
  name = k.name;
  replaced_by = k.replaced_by;
  newest = λ e. k.trav ∙ e;
  old = λ other begun. (λ e. other (k.trav ∙ e), λ e. begun (k.act ∙ e));
  kept = λ e is. e (k.act ∙ is);
}

-- a row that this traversal takes up
pub record TakesUp (trav : ℕ) (r q : Row) : Type 0 where
  pub no_ : q.no ≡ r.no
  pub stack : q.stack ≡ r.stack
  pub name : q.name ≡ r.name
  pub newest : q.trav ≡ trav
  pub replaced_by : q.replaced_by ≡ r.replaced_by
  pub kept : q.act ≢ Delete → r.act ≢ Delete

pub onward_up : (trav : ℕ) (r q : Row) → TakesUp trav r q → Onward trav r q
onward_up trav r q k = record {
  no_ = k.no_;
  stack = k.stack;
  name = k.name;
  replaced_by = k.replaced_by;
  newest = λ e. k.newest;
  old = λ other begun. absurd (other k.newest);
  kept = k.kept;
}

module _ (s t : StateData) (h : Standing s) where
  -- a row is written with the same shape, and facts where its node isn't done
  pub carries_shape : (n : ℕ) (r q : Row) → row_at s.rows n ≡ Some r → t.rows ≡ put_row q s.rows → SameShape r q
      → ((name : List ℕ) (st : Stack) (i m : ℕ) (word : List ℕ) → stack_at s.stacks name ≡ Some st
      → IsNode (graph_of s name) i (U word m)
      → TargetFits s st word m r → IsDone (graph_of s name) i → q.facts ≡ r.facts)
      → CarriesAll s t
  carries_shape n r q at same k facts name st at_st =
      carries_put s t h name st at_st r q
      (subst (λ (x : ℕ). row_at s.rows x ≡ Some r) (sym k.no_) (row_self s.rows n r at)) same k.stack
      (λ is. onward_shape st.trav r q k)
      (λ i m word node f. (λ e. f.kept (sym k.act ∙ e), facts name st i m word at_st node f))

  -- a job's row is its stack's
  module _ (e : ℕ) (j : Job) (r : Row) (its : job_at s.jobs e ≡ Some j) (at : row_at s.rows j.row ≡ Some r) where
    pub job_stack : r.stack ≡ j.letter.stack
    job_stack = h.links.owned.one j.row r.stack j.letter.stack (by_row r at refl) (by_job e j its refl refl)

    pub its_name : (name : List ℕ) (st : Stack) → stack_at s.stacks name ≡ Some st → r.stack ≡ st.name
        → name ≡ j.letter.stack
    its_name name st at_st is = sym (stack-key s.stacks name st at_st) ∙ (sym is ∙ job_stack)

    pub same_stack : (own : Stack) → stack_at s.stacks j.letter.stack ≡ Some own → (name : List ℕ) (st : Stack)
        → stack_at s.stacks name ≡ Some st
        → r.stack ≡ st.name → own ≡ st
    same_stack own at_own name st at_st is =
        same_some own st at_own (subst (λ (x : List ℕ). stack_at s.stacks x ≡ Some st)
        (its_name name st at_st is) at_st)

    -- it is taken up by its stack's traversal
    pub carries_up : (own : Stack) → stack_at s.stacks j.letter.stack ≡ Some own → (q : Row) → t.rows ≡ put_row q s.rows
        → TakesUp own.trav r q
        → q.facts ≡ r.facts
        → ((name : List ℕ) (st : Stack) (i m : ℕ) (word : List ℕ) → stack_at s.stacks name ≡ Some st
        → IsNode (graph_of s name) i (U word m)
        → TargetFits s st word m r → q.act ≢ Delete)
        → CarriesAll s t
    carries_up own at_own q same k facts kept name st at_st =
        carries_put s t h name st at_st r q
        (subst (λ (x : ℕ). row_at s.rows x ≡ Some r) (sym k.no_) (row_self s.rows j.row r at)) same k.stack
        (λ is. onward_up st.trav r q
        (subst (λ (x : Stack). TakesUp x.trav r q) (same_stack own at_own name st at_st is) k))
        (λ i m word node f. (kept name st i m word at_st node f, λ done. facts))
