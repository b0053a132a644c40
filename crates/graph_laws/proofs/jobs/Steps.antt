-- Jobs fit after a step that ends a job, and after one that goes on with it: `ended`, `gone_on`.
use Rattle.std.proofs.Common.{◌≡◌, ◌≢◌, ◌<◌, inl, inr, ℕ, List, Some, sym, ap, ◌∙◌, subst}
use Rattle.heat_plan.specs.declared.phase.Act.{Act}
use Rattle.heat_plan.specs.declared.phase.Act.TheVariants.{Delete, Init}
use Rattle.heat_plan.specs.declared.phase.Status.TheVariants.{Complete, InProgress}
use Rattle.traversal_graph.specs.declared.shape.Node.{Node}
use Rattle.traversal_graph.specs.declared.shape.Node.TheVariants.{C, U}
use Rattle.row_table.specs.Chains.{IsCurrent}
use Rattle.row_table.specs.Rows.{row_at}
use Rattle.row_table.specs.declared.row.Row.{Row}
use Rattle.mail_table.specs.Mails.{cut_job, job_at, put_job}
use Rattle.mail_table.specs.declared.mail.Job.{Job}
use Rattle.mail_table.specs.declared.mail.Stage.{Stage}
use Rattle.mail_table.specs.declared.mail.Stage.TheVariants.{Ending}
use Rattle.core_state.specs.Reads.{IsDone, IsReady}
use Rattle.core_state.specs.State.{StateData, graph_at, stack_at}
use Rattle.core_state.specs.declared.graph.Graph.{Graph}
use Rattle.core_state.specs.declared.stack.Stack.{Stack}
use Rattle.step_relation.specs.Freshness.{Names}
use Rattle.step_relation.specs.Targets.{IsTarget, of_c}
use Rattle.step_relation.specs.MailFits.{HasMade, IsNewest, IsUnderWay, JobStands, JobsFit, SuitsAct, cleans, updates}
use Rattle.step_relation.specs.RowsFit.{IsWanted}
use Rattle.step_relation.specs.Sound.{Standing}
use Rattle.history_laws.proofs.tables.Rows.{job-key, job_cut, job_put, same_some}
use Rattle.history_laws.proofs.tables.Targets.{cleanup_target}
use Rattle.graph_laws.proofs.graphs.Kept.{SameStacks}
use Rattle.graph_laws.proofs.graphs.Placed.{job_graph, job_ready, job_target, job_undone}
use Rattle.graph_laws.proofs.jobs.Onward.{Goes, Grounds, Was, fits, grown_same, jobs_fit, stays, target_in}

pub u_is_no_c : (x : List ℕ) (n m : ℕ) → U x n ≡ C m → ⊥
u_is_no_c x n m e = cc

-- the rows are as they were but for that of this number, and new ones
abbrev pub SameBut : StateData → StateData → ℕ → Type 0
SameBut s t m = (n : ℕ) → m ≢ n → n < s.next.row → row_at t.rows n ≡ row_at s.rows n

-- what was said of the jobs but for one
abbrev pub OthersWere : StateData → StateData → ℕ → Type 0
OthersWere s t f = (e : ℕ) (j : Job) → job_at s.jobs e ≡ Some j → f ≢ e → (st : Stack) → IsNewest t j.letter st
    → Was s t j st

-- where at most the status of a stack is another
pub were_same : (s t : StateData) (f : ℕ) → SameStacks s.stacks t.stacks → t.graphs ≡ s.graphs → OthersWere s t f
were_same s t f stacks graphs e j its ne st k =
    let (o, x, at, is) = stacks j.letter.stack st k.in_table in record {
      stack = o;
      status = x;
      is = is;
      newest = record { in_table = at; newest = ap (λ (y : Stack). y.trav) is ∙ k.newest };
      grown = λ g at_g. grown_same s t graphs j.letter.stack g j.letter.node at_g;
    }

module _ (s t : StateData) (h : Standing s) (b : Grounds t) (f : ℕ) (j : Job) (its : job_at s.jobs f ≡ Some j)
    (rows : SameBut s t j.row)
    (were : OthersWere s t f) where
  -- another job has another row
  other_row : (e : ℕ) (o : Job) → job_at s.jobs e ≡ Some o → f ≢ e → row_at t.rows o.row ≡ row_at s.rows o.row
  other_row e o at ne = rows o.row (λ same. ne (h.links.locked.apart f e j o its at same))
      (h.links.numbered.jobs e o at).its_row

  other : (e : ℕ) (o : Job) → job_at s.jobs e ≡ Some o → f ≢ e → Goes s t e o
  other e o at ne = stays at (other_row e o at ne) (were e o at ne)

  -- the job ends
  pub ended : t.jobs ≡ cut_job f s.jobs → JobsFit t
  ended jobs = jobs_fit s t h b (λ e o at.
      let (ne, was) = job_cut f s.jobs (subst (λ (x : List Job). job_at x e ≡ Some o) jobs at) in other e o was ne)

  -- the job goes on with this row and stage
  pub gone_on : (m : ℕ) (x : Stage) → t.jobs ≡ put_job (record j { row = m; stage = x }) s.jobs
      → Goes s t f (record j { row = m; stage = x }) → JobsFit t
  gone_on m x jobs own = jobs_fit s t h b (λ e o at.
      elim (job_put (record j { row = m; stage = x }) s.jobs (subst (λ (y : List Job). job_at y e ≡ Some o) jobs at)) [
        | inl new ↦ subst (λ (y : Job). Goes s t e y) new.1
            (subst (λ (n : ℕ). Goes s t n (record j { row = m; stage = x })) (sym (job-key s.jobs f j its) ∙ new.0) own)
        | inr was ↦ other e o was.1 (λ same. was.0 (job-key s.jobs f j its ∙ same))
      ])

-- what the job's own part needs, where the stacks and the graphs are the same
module _ (s t : StateData) (h : Standing s) (b : Grounds t) (e : ℕ) (j : Job) (its : job_at s.jobs e ≡ Some j)
    (stacks : t.stacks ≡ s.stacks)
    (graphs : t.graphs ≡ s.graphs) where
  pub newest_was : (st : Stack) → IsNewest t j.letter st → IsNewest s j.letter st
  newest_was st k = record {
    in_table = subst (λ (x : List Stack). stack_at x j.letter.stack ≡ Some st) stacks
        k.in_table;
    newest = k.newest;
  }

  module _ (st : Stack) (gr : Graph) (node : Node) (names : Names s j.letter st gr node) where
    there : graph_at t.graphs j.letter.stack ≡ Some gr
    there = subst (λ (x : List Graph). graph_at x j.letter.stack ≡ Some gr) (sym graphs) names.its_graph

    at_stack : stack_at t.stacks j.letter.stack ≡ Some st
    at_stack = subst (λ (x : List Stack). stack_at x j.letter.stack ≡ Some st) (sym stacks) names.in_table

    pub own_at : (m : ℕ) (x : Stage) → IsTarget t.rows st.name node m
        → ((r : Row) → IsUnderWay x → row_at t.rows m ≡ Some r → SuitsAct r.act node)
        → ((word : List ℕ) (n : ℕ) → node ≡ U word n → x ≡ Ending → HasMade t (record j { row = m; stage = x }))
        → ((n : ℕ) (r : Row) → node ≡ C n → x ≡ Ending → row_at t.rows m ≡ Some r → IsWanted st r)
        → JobStands t (record j { row = m; stage = x }) st
    own_at m x target suits ends_u ends_c = record {
      graph = gr;
      node = node;
      names = record { in_table = at_stack; newest = names.newest; its_graph = there; its_node = names.its_node };
      fits = record {
        ready = subst (λ (y : Graph). IsReady y j.letter.node) (job_graph s h e j its st gr node names)
            (job_ready s h e j its st gr node names);
        undone = subst (λ (y : Graph). ¬ IsDone y j.letter.node) (job_graph s h e j its st gr node names)
            (job_undone s h e j its st gr node names);
        target = target;
        suits = suits;
        ends_update = ends_u;
        ends_cleanup = ends_c;
      };
    }

    same_as : (st' : Stack) → IsNewest t j.letter st' → st ≡ st'
    same_as st' k = same_some st st' at_stack k.in_table

  -- at an update node, with a current row of its name
  pub update_stands : (st : Stack) (gr : Graph) (word : List ℕ) (n : ℕ) → Names s j.letter st gr (U word n)
      → (m : ℕ) (x : Stage) (q : Row)
      → row_at t.rows m ≡ Some q → q.stack ≡ st.name → q.name ≡ word → IsCurrent q → q.trav ≡ st.trav
      → (x ≡ Ending → (q.status ≡ Complete) × (q.act ≢ Init)) → JobStands t (record j { row = m; stage = x }) st
  update_stands st gr word n names m x q at of called current trav end = own_at st gr (U word n) names m x
      (target_in t b j.letter.stack st (at_stack st gr (U word n) names) gr
      (there st gr (U word n) names) j.letter.node n m word names.its_node q at
      of called current)
      (λ r u at_r. updates r.act word n (λ act. current.kept (ap (λ (y : Row). y.act) (same_some q r at at_r) ∙ act)))
      (λ word' n' is stage. record {
        row = q;
        found = at;
        status = (end stage).0;
        begun = (end stage).1;
        newest = trav
            ∙ names.newest;
      })
      (λ n' r is stage at_r. absurd (u_is_no_c word n n' is))

  pub update_goes : (st : Stack) (gr : Graph) (word : List ℕ) (n : ℕ) → Names s j.letter st gr (U word n)
      → (m : ℕ) (x : Stage) (q : Row)
      → row_at t.rows m ≡ Some q → q.stack ≡ st.name → q.name ≡ word → IsCurrent q → q.trav ≡ st.trav
      → (IsUnderWay x → q.status ≡ InProgress) → (x ≡ Ending → (q.status ≡ Complete) × (q.act ≢ Init))
      → Goes s t e (record j { row = m; stage = x })
  update_goes st gr word n names m x q at of called current trav way end = fits
      (λ u. record { row = q; found = at; status = way u; newest = trav ∙ names.newest })
      (λ st' k. subst (JobStands t (record j { row = m; stage = x })) (same_as st gr (U word n) names st' k)
      (update_stands st gr word n names m x q at of called current trav end))

  -- a row that is being deleted for this traversal
  pub record Leaves (st : Stack) : Type 0 where
    pub row : Row
    pub found : row_at t.rows j.row ≡ Some row
    pub status : row.status ≡ InProgress
    pub newest : row.trav ≡ st.trav
    pub act : row.act ≡ Delete

  -- at a clean-up node, with its row, which may be gone
  pub cleanup_stands : (st : Stack) (gr : Graph) (n : ℕ) → Names s j.letter st gr (C n) → (x : Stage)
      → (IsUnderWay x → Leaves st)
      → ((r : Row) → x ≡ Ending → row_at t.rows j.row ≡ Some r → IsWanted st r)
      → JobStands t (record j { stage = x }) st
  cleanup_stands st gr n names x way end =
      own_at st gr (C n) names j.row x (subst (λ (m : ℕ). IsTarget t.rows st.name (C n) m) number (of_c n))
      (λ r u at_r. let k = way u in
      subst (λ (a : Act). SuitsAct a (C n))
      (sym k.act ∙ ap (λ (y : Row). y.act) (same_some k.row r k.found at_r)) (cleans n))
      (λ word m is stage. absurd (u_is_no_c word m n (sym is)))
      (λ m r is stage at_r. end r stage at_r) where
        number : n ≡ j.row
        number = cleanup_target s.rows st.name n j.row (job_target s h e j its st gr (C n) names)

  pub cleanup_goes : (st : Stack) (gr : Graph) (n : ℕ) → Names s j.letter st gr (C n) → (x : Stage)
      → (IsUnderWay x → Leaves st)
      → ((r : Row) → x ≡ Ending → row_at t.rows j.row ≡ Some r → IsWanted st r) → Goes s t e (record j { stage = x })
  cleanup_goes st gr n names x way end = fits
      (λ u. let k = way u in record {
        row = k.row;
        found = k.found;
        status = k.status;
        newest = k.newest
            ∙ names.newest;
      })
      (λ st' k. subst (JobStands t (record j { stage = x })) (same_as st gr (C n) names st' k)
      (cleanup_stands st gr n names x way end))
