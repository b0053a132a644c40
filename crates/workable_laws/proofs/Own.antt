-- The parts from which a step's end is put together: its rows, its job, its numbers, its silence.
use Rattle.std.proofs.Common.{◌≡◌, ◌≢◌, ◌⊎◌, inl, inr, ◌<◌, ◌≤◌, ℕ, List, ◌++◌, Some, sym, subst, ◌∙◌}
use Rattle.std.specs.Prelude.{Contains, IsSome, slice_get}
use Rattle.heat_plan.specs.declared.phase.Act.TheVariants.{Init, Update}
use Rattle.heat_plan.specs.declared.phase.Status.TheVariants.{Failed, InProgress}
use Rattle.heat_plan.specs.declared.token.Token.{Token}
use Rattle.provider.specs.Table.{TokenState}
use Rattle.traversal_graph.specs.declared.shape.Node.{Node}
use Rattle.row_table.specs.Chains.{Leads, ends, goes}
use Rattle.row_table.specs.Rows.{row_at}
use Rattle.row_table.specs.declared.row.Row.{Row}
use Rattle.mail_table.specs.Mails.{cut_job, job_at, put_job}
use Rattle.mail_table.specs.declared.mail.Job.{Job}
use Rattle.mail_table.specs.declared.mail.Stage.{Stage}
use Rattle.mail_table.specs.declared.mail.Stage.TheVariants.{Asking, Ending, Polling, Taken}
use Rattle.core_state.specs.Changes.{applied}
use Rattle.core_state.specs.State.{StateData, graph_at}
use Rattle.core_state.specs.declared.change.Change.{Change}
use Rattle.core_state.specs.declared.entry.Entry.{Entry}
use Rattle.core_state.specs.declared.graph.Graph.{Graph}
use Rattle.step_relation.specs.Rows.{token_of}
use Rattle.step_relation.specs.Targets.{IsTarget, of_c, of_u, renewed}
use Rattle.step_relation.specs.Could.{could_of}
use Rattle.step_relation.specs.Opening.{Opening}
use Rattle.step_relation.specs.MailFits.{IsUnderWay, asks, polls}
use Rattle.history_laws.proofs.tables.Rows.{job_gone, job_here, same_some}
use Rattle.history_laws.proofs.tells.Silence.{AreUncalling, could-silent}
use Rattle.workable_laws.specs.Workable.{AreWhole, Drawn, IsCalled, MustLive, Workable, ready, updating}
use Rattle.workable_laws.proofs.Drawing.{AllFit, drawn_applied, whole_applied}
use Rattle.workable_laws.proofs.Kept.{Kept, OwnJob, kept_cloud, kept_jobs}

-- rows that nothing has to live for
pub dead_begun : (q : Row) → q.status ≡ InProgress → q.act ≢ Update → MustLive q → ⊥
dead_begun q under ne (ready done begun kept) = cc
dead_begun q under ne (updating act status) = ne act

pub dead_failed : (q : Row) → q.status ≡ Failed → MustLive q → ⊥
dead_failed q fails (ready done begun kept) = cc
dead_failed q fails (updating act status) = cc

pub dead_new : (q : Row) → q.act ≡ Init → MustLive q → ⊥
dead_new q new (ready done begun kept) = begun new
dead_new q new (updating act status) = cc

pub like_live : (r q : Row) → q.status ≡ r.status → q.act ≡ r.act → MustLive q → MustLive r
like_live r q status act (ready done begun kept) = ready (sym status ∙ done) (λ e. begun (act ∙ e))
    (λ e. kept (act ∙ e))
like_live r q status act (updating up under) = updating (sym act ∙ up) (sym status ∙ under)

-- a job at Taken or Ending asks nothing
pub idle_taken : (stage : Stage) → stage ≡ Taken → IsUnderWay stage → ⊥
idle_taken _ is asks = cc
idle_taken _ is polls = cc

pub idle_ending : (stage : Stage) → stage ≡ Ending → IsUnderWay stage → ⊥
idle_ending _ is asks = cc
idle_ending _ is polls = cc

module _ (o : Opening) (h : List Entry) (s : StateData) (w : Workable o h s) where
  -- a move is done
  pub done : (cs : List Change) (es : List Entry) (e m : ℕ) → AllFit s s.next cs
      → Kept o h (h ++ es) s (applied cs s) e m
      → Workable o (h ++ es) (applied cs s)
  done cs es e m fits k = record {
    drawn = drawn_applied s cs s fits w.drawn;
    once = k.once;
    graphs = whole_applied cs s fits w.graphs;
    jobs = kept_jobs o h (h ++ es) s (applied cs s) e m w.drawn w.jobs w.cloud k;
    cloud = kept_cloud o h (h ++ es) s (applied cs s) e m w.drawn w.jobs w.cloud k;
  }

  pub done_with : (t : StateData) (es : List Entry) (e m : ℕ) → Drawn t → AreWhole t → Kept o h (h ++ es) s t e m
      → Workable o (h ++ es) t
  done_with t es e m d whole k = record {
    drawn = d;
    once = k.once;
    graphs = whole;
    jobs = kept_jobs o h (h ++ es) s t e m w.drawn w.jobs w.cloud k;
    cloud = kept_cloud o h (h ++ es) s t e m w.drawn w.jobs w.cloud k;
  }

  -- what lived lives, where nobody is called
  pub lived : (es : List Entry) → AreUncalling es → (n : ℕ) (r q : Row) → row_at s.rows n ≡ Some r
      → token_of q ≡ token_of r
      → (MustLive q → MustLive r) → MustLive q → (x : TokenState)
      → Contains (could_of o (h ++ es) (token_of q)) x → IsSome x
  lived es silent n r q at token back must x among =
      w.cloud.lives n r x at (back must)
      (subst (λ (l : List TokenState). Contains l x) (could-silent o h es (token_of r) silent)
      (subst (λ (t : Token). Contains (could_of o (h ++ es) t) x) token among))

  -- a node's target is drawn
  leads_drawn : (n t : ℕ) → Leads s.rows n t → t < s.next.row
  leads_drawn n t (ends _ r at l) = w.drawn.rows n r at
  leads_drawn n t (goes _ m _ r at by up on) = leads_drawn m t on

  pub target_drawn : (name : List ℕ) (g : Graph) (i : ℕ) (node : Node) (t : ℕ) → graph_at s.graphs name ≡ Some g
      → slice_get g.graph.nodes i ≡ Some node
      → IsTarget s.rows name node t → t < s.next.row
  target_drawn name g i node t at there (of_c _) = w.drawn.cleanups name g i t at there
  target_drawn name g i node t at there (of_u word n _ on) = leads_drawn n t on
  target_drawn name g i node t at there (renewed word n r none is) = w.drawn.rows r.no r is.found

-- the engine's own job, after a write and after its end
pub own_is : (jobs : List Job) (k q : Job) (e : ℕ) → k.engine ≡ e → job_at (put_job k jobs) e ≡ Some q → k ≡ q
own_is jobs k q e is at = same_some k q (subst (λ (f : ℕ). job_at (put_job k jobs) f ≡ Some k) is (job_here k jobs)) at

pub own_none : (jobs : List Job) (q : Job) (e : ℕ) → job_at (cut_job e jobs) e ≡ Some q → ⊥
own_none jobs q e at = let none = job_gone e jobs in cc

-- one that asks nothing
pub still_job : (o : Opening) (g : List Entry) (s t : StateData) (m : ℕ) (k : Job) → k.row ≡ m
    → (k.stage ≡ Taken) ⊎ (k.stage ≡ Ending) → OwnJob o g s t m k
still_job o g s t m k place (inl is) = record {
  place = inl place;
  called = λ way. absurd (idle_taken k.stage is way);
  polled = λ stage. absurd (let e : Taken ≡ Polling = sym is ∙ stage in cc);
}
still_job o g s t m k place (inr is) = record {
  place = inl place;
  called = λ way. absurd (idle_ending k.stage is way);
  polled = λ stage. absurd (let e : Ending ≡ Polling = sym is ∙ stage in cc);
}

-- one that asks for a row that was begun
pub asking_job : (o : Opening) (g : List Entry) (s t : StateData) (m : ℕ) (k : Job) → (k.row ≡ m) ⊎ (s.next.row ≤ k.row)
    → k.stage ≡ Asking
    → IsCalled t k → OwnJob o g s t m k
asking_job o g s t m k place is called = record {
  place = place;
  called = λ way. called;
  polled = λ stage. absurd (let e : Asking ≡ Polling = sym is ∙ stage in cc);
}
