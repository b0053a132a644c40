-- Jobs fit after each command: those of its stack are stale, and all rows that jobs have are as they were: `jobs_laid`.
use Rattle.std.proofs.Common.{◌≡◌, inl, inr, ℕ, List, Some, refl, sym, ◌∙◌, subst, arith}
use Rattle.row_table.specs.Rows.{row_at}
use Rattle.row_table.specs.declared.row.Row.{Row}
use Rattle.mail_table.specs.Mails.{job_at}
use Rattle.mail_table.specs.declared.mail.Job.{Job}
use Rattle.heat_plan.specs.declared.item.Item.{Item}
use Rattle.core_state.specs.Changes.{applied}
use Rattle.core_state.specs.State.{StateData, stack_at}
use Rattle.core_state.specs.declared.stack.Stack.{Stack}
use Rattle.step_relation.specs.Commands.{Lays, Sets, laid_changes}
use Rattle.step_relation.specs.Elsewhere.{Elsewhere}
use Rattle.step_relation.specs.Groups.{KeptByCommands}
use Rattle.step_relation.specs.MailFits.{IsNewest, JobsFit}
use Rattle.step_relation.specs.Sound.{Standing}
use Rattle.history_laws.proofs.tables.Rows.{text_or_not}
use Rattle.graph_laws.proofs.letters.Below.{commands_on_one}
use Rattle.graph_laws.proofs.graphs.Chosen.{old_stays}
use Rattle.graph_laws.proofs.graphs.Commands.{graphs_laid}
use Rattle.graph_laws.proofs.letters.Commands.{Lain, lain}
use Rattle.history_laws.proofs.links.Laid.{links_by_commands}
use Rattle.graph_laws.proofs.jobs.Onward.{Grounds, Was, jobs_fit, stays}

module _ (s : StateData) (h : Standing s) (name : List ℕ) (items : List Item) (k : Lays s name items) (it : Sets)
    (t : StateData)
    (frame : Elsewhere name s t) (w : Lain s h name items k it t) where
  was : (e : ℕ) (j : Job) → job_at s.jobs e ≡ Some j → (st : Stack) → IsNewest t j.letter st → Was s t j st
  was e j its st newest = elim (text_or_not j.letter.stack name) [
    | inl is ↦
        let lt = (h.links.numbered.jobs e j its).its_letter.newest in
        let same = newest.newest in
        let new = w.newest st (subst (λ (y : List ℕ). stack_at t.stacks y ≡ Some st) is newest.in_table) in
        absurd (omega arith)
    | inr ne ↦ record {
      stack = st;
      status = st.status;
      is = refl;
      newest = record { in_table = sym (frame.stacks j.letter.stack ne) ∙ newest.in_table; newest = newest.newest };
      grown = λ g at. record {
        graph = g;
        found = frame.graphs j.letter.stack ne ∙ at;
        nodes = λ n node there. there;
        ready = λ n ready. ready;
        undone = λ open_. open_;
      };
    }
  ]

  laid_fits : Grounds t → JobsFit t
  laid_fits b = jobs_fit s t h b (λ e j at.
      let its : job_at s.jobs e ≡ Some j = subst (λ (y : List Job). job_at y e ≡ Some j) w.jobs at in
      stays its (subst (λ (y : List Row). row_at y j.row ≡ row_at s.rows j.row) (sym w.rows)
      (old_stays s name s.next.trav s.next.row items k.chosen k.rows s.rows k.chooses j.row
      (h.links.numbered.jobs e j its).its_row))
      (was e j its))

pub jobs_laid : KeptByCommands JobsFit
jobs_laid s name items it k h ordered =
    laid_fits s h name items k it (applied (laid_changes s name items it k) s)
    (commands_on_one s name items it k h ordered) (lain s h name items k it)
    (record {
      current = (links_by_commands s name items it k h ordered).current;
      graphs = graphs_laid s name items it k h ordered;
    })
