-- Jobs fit after a stop of an engine, an enlisting and a restart: `jobs_kept`.
use Rattle.std.proofs.Common.{◌≡◌, [], ◌∷◌, List, Some, refl, sym, subst}
use Rattle.row_table.specs.declared.row.Row.{Row}
use Rattle.mail_table.specs.Mails.{job_at}
use Rattle.mail_table.specs.declared.mail.Job.{Job}
use Rattle.row_table.specs.Rows.{row_at}
use Rattle.core_state.specs.Changes.{applied}
use Rattle.core_state.specs.State.{StateData, stack_at}
use Rattle.core_state.specs.declared.change.Change.TheVariants.{Enlist, Stop}
use Rattle.core_state.specs.declared.stack.Stack.{Stack}
use Rattle.step_relation.specs.Steps.{engines_from, past_engines, restart_changes}
use Rattle.step_relation.specs.Groups.{KeptByEngines}
use Rattle.step_relation.specs.MailFits.{IsNewest, JobsFit}
use Rattle.step_relation.specs.Sound.{Standing}
use Rattle.graph_laws.proofs.graphs.Engines.{graphs_kept, lives}
use Rattle.history_laws.proofs.links.Engines.{links_by_engines}
use Rattle.graph_laws.proofs.jobs.Onward.{Grounds, Was, grown_same, jobs_fit, stays}
use Rattle.core_state.specs.declared.change.Change.TheVariants as change_to

-- neither jobs nor rows, graphs or stacks are written
pub quiet : (s t : StateData) → Standing s → Grounds t → t.jobs ≡ s.jobs → t.rows ≡ s.rows → t.graphs ≡ s.graphs
    → t.stacks ≡ s.stacks → JobsFit t
quiet s t h b jobs rows graphs stacks = jobs_fit s t h b (λ e j at.
    stays (subst (λ (y : List Job). job_at y e ≡ Some j) jobs at)
    (subst (λ (y : List Row). row_at y j.row ≡ row_at s.rows j.row) (sym rows) refl)
    (was j)) where
      was : (j : Job) (st : Stack) → IsNewest t j.letter st → Was s t j st
      was j st newest = record {
        stack = st;
        status = st.status;
        is = refl;
        newest = record {
          in_table = subst (λ (y : List Stack). stack_at y j.letter.stack ≡ Some st) stacks
              newest.in_table;
          newest = newest.newest;
        };
        grown = λ g at. grown_same s t graphs j.letter.stack g j.letter.node at;
      }

pub jobs_kept : KeptByEngines JobsFit
jobs_kept = record {
  stop = λ s e h live. quiet s (applied (Stop e ∷ []) s) h
      (record { current = (links_by_engines.stop s e h live).current; graphs = graphs_kept.stop s e h live }) refl
      refl refl refl;
  enlist = λ s h. quiet s (applied (change_to.Numbers (past_engines s.next 1) ∷ Enlist s.next.engine ∷ []) s) h
      (record { current = (links_by_engines.enlist s h).current; graphs = graphs_kept.enlist s h }) refl refl refl refl;
  restart = λ s count h.
      let b : Grounds (applied (restart_changes s count) s) =
      record { current = (links_by_engines.restart s count h).current; graphs = graphs_kept.restart s count h } in
      let is = lives s.live (engines_from s.next.engine count) (record s { next = past_engines s.next count }) in
      subst JobsFit (sym is) (quiet s _ h (subst Grounds is b) refl refl refl refl);
}
