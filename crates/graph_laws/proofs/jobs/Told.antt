-- Jobs fit after asks, polls, releases, failures and finishes.
use Rattle.std.proofs.Common.{◌≡◌, ◌≢◌, ℕ, [], List, None, Option, Some, refl, sym, ap, ◌∙◌, subst}
use Rattle.heat_plan.specs.declared.facts.Facts.{Facts}
use Rattle.heat_plan.specs.declared.phase.Act.{Act}
use Rattle.heat_plan.specs.declared.phase.Act.TheVariants.{Delete}
use Rattle.heat_plan.specs.declared.phase.Status.{Status}
use Rattle.heat_plan.specs.declared.phase.Status.TheVariants.{Complete, Failed, InProgress}
use Rattle.traversal_graph.specs.declared.shape.Node.{Node}
use Rattle.traversal_graph.specs.declared.shape.Node.TheVariants.{C, U}
use Rattle.row_table.specs.Rows.{row_at}
use Rattle.row_table.specs.declared.row.Row.{Row}
use Rattle.mail_table.specs.Mails.{job_at}
use Rattle.mail_table.specs.declared.mail.Job.{Job}
use Rattle.mail_table.specs.declared.mail.Letter.{Letter}
use Rattle.mail_table.specs.declared.mail.Stage.TheVariants.{Asking, Ending, Polling}
use Rattle.core_state.specs.Changes.{applied}
use Rattle.core_state.specs.State.{StateData}
use Rattle.core_state.specs.declared.graph.Graph.{Graph}
use Rattle.core_state.specs.declared.stack.Stack.{Stack}
use Rattle.step_relation.specs.Asks.{Calls, Falls, failed_changes, marked, marks, overrun}
use Rattle.step_relation.specs.Begins.{begun_changes, onward_changes}
use Rattle.step_relation.specs.Cleanups.{purged_changes}
use Rattle.step_relation.specs.Freshness.{Names}
use Rattle.step_relation.specs.Rows.{failed_row, ready_row, unlocked}
use Rattle.step_relation.specs.Takes.{released_changes}
use Rattle.step_relation.specs.Writes.{mark_failed}
use Rattle.step_relation.specs.GraphFits.{GraphFits, TargetFits}
use Rattle.step_relation.specs.MailFits.{HasUnderWay, IsNewest, IsUnderWay, JobStands, JobsFit, SuitsAct, asks, cleans}
use Rattle.step_relation.specs.MailFits.{polls, updates}
use Rattle.step_relation.specs.Sound.{Standing}
use Rattle.history_laws.proofs.tables.Rows.{row-key, row_else, same_some}
use Rattle.history_laws.proofs.tables.Targets.{target_once}
use Rattle.graph_laws.proofs.graphs.Finished.{rows_then}
use Rattle.graph_laws.proofs.graphs.Kept.{stacks_marked, stacks_same}
use Rattle.graph_laws.proofs.graphs.Placed.{job_target}
use Rattle.graph_laws.proofs.letters.Sent.{failed_to, failure_comes, release_comes, released_to}
use Rattle.graph_laws.proofs.jobs.Begun.{but_cut, but_put, cut_gone, not_over, put_there}
use Rattle.graph_laws.proofs.jobs.Onward.{Grounds, fits, graph_there}
use Rattle.graph_laws.proofs.jobs.Steps.{cleanup_stands, ended, gone_on, newest_was, own_at, update_stands, were_same}

polling_goes_on : Polling ≡ Ending → ⊥
polling_goes_on e = cc

complete_is_over : {o : Status} → o ≡ InProgress → o ≡ Complete → ⊥
complete_is_over u d = cc

-- the row of a job at an update node is the name's current one
pub job_aims : (s : StateData) → Standing s → (e : ℕ) (j : Job) → job_at s.jobs e ≡ Some j
    → (st : Stack) (gr : Graph) (word : List ℕ) (n : ℕ)
    → Names s j.letter st gr (U word n) → (r : Row) → row_at s.rows j.row ≡ Some r → TargetFits s st word n r
job_aims s h e j its st gr word n names r at =
    let f : GraphFits s st gr = subst (GraphFits s st) (graph_there s j.letter.stack gr names.its_graph)
    (h.shape.graphs j.letter.stack st names.in_table) in
    let (q, is) = f.targets.updates j.letter.node n word names.its_node in
    let number : q.no ≡ j.row = target_once s.rows st.name (U word n) q.no j.row is.to
    (job_target s h e j its st gr (U word n) names) in
    subst (λ (x : Row). TargetFits s st word n x)
    (same_some q r (subst (λ (m : ℕ). row_at s.rows m ≡ Some q) number is.is.found) at) is

suits_update : (act : Act) (word : List ℕ) (n : ℕ) → SuitsAct act (U word n) → act ≢ Delete
suits_update _ _ _ (updates act word n ne) = ne

suits_cleanup : (act : Act) (n : ℕ) → SuitsAct act (C n) → act ≡ Delete
suits_cleanup _ _ (cleans n) = refl

module _ (s : StateData) (h : Standing s) where
  module _ (e : ℕ) (k : Calls s e Asking) where
    abbrev asked_to : StateData
    asked_to = applied (onward_changes k.job Polling) s

    way : HasUnderWay s k.job
    way = h.shape.jobs.under_way e k.job k.works.its (subst IsUnderWay (sym k.works.stage_is) asks)

    pub asks_on : Grounds (applied (onward_changes k.job Polling) s)
        → JobsFit (applied (onward_changes k.job Polling) s)
    asks_on b = gone_on s asked_to h b e k.job k.works.its (λ n ne lt. refl)
        (were_same s asked_to e (stacks_same s.stacks) refl) k.job.row Polling refl
        (fits (λ u. record { row = way.row; found = way.found; status = way.status; newest = way.newest }) stand) where
          stand : (st : Stack) → IsNewest asked_to k.job.letter st
              → JobStands asked_to (record k.job { row = k.job.row; stage = Polling }) st
          stand st newest =
              let o : JobStands s k.job st = h.shape.jobs.newest e k.job st k.works.its
              (newest_was s asked_to h b e k.job k.works.its refl refl st newest) in
              own_at s asked_to h b e k.job k.works.its refl refl st o.graph o.node o.names k.job.row Polling
              o.fits.target
              (λ r u at. o.fits.suits r (subst IsUnderWay (sym k.works.stage_is) asks) at)
              (λ word n is stage. absurd (polling_goes_on stage))
              (λ n r is stage at. absurd (polling_goes_on stage))

  module _ (e : ℕ) (k : Calls s e Polling) where
    is_polling : IsUnderWay k.job.stage
    is_polling = subst IsUnderWay (sym k.works.stage_is) polls

    its_way : HasUnderWay s k.job
    its_way = h.shape.jobs.under_way e k.job k.works.its is_polling

    same_row : its_way.row ≡ k.row
    same_row = same_some its_way.row k.row its_way.found k.found

    in_progress : k.row.status ≡ InProgress
    in_progress = ap (λ (x : Row). x.status) (sym same_row) ∙ its_way.status

    its_trav : k.row.trav ≡ k.job.letter.trav
    its_trav = ap (λ (x : Row). x.trav) (sym same_row) ∙ its_way.newest

    number : k.row.no ≡ k.job.row
    number = row-key s.rows k.job.row k.row k.found

    -- the row is ready
    module _ (facts : Facts) (kept : k.row.act ≢ Delete) where
      abbrev ready_to : StateData
      ready_to = applied (begun_changes k.job Ending (ready_row k.row facts)) s

      ready_stands : Grounds ready_to → (st : Stack) (gr : Graph) (node : Node) → Names s k.job.letter st gr node
          → SuitsAct k.row.act node
          → JobStands ready_to (record k.job { row = k.job.row; stage = Ending }) st
      ready_stands b st gr (C n) names suits = absurd (kept (suits_cleanup k.row.act n suits))
      ready_stands b st gr (U word n) names suits =
          let f = job_aims s h e k.job k.works.its st gr word n names k.row k.found in
          update_stands s ready_to h b e k.job k.works.its refl refl st gr word n names k.job.row Ending
          (ready_row k.row facts)
          (put_there s (ready_row k.row facts) k.job.row number) f.is.stack_is f.is.name_is
          (record { kept = f.is.current.kept; last = f.is.current.last }) (its_trav ∙ sym names.newest)
          (λ stage. (refl, λ act. complete_is_over in_progress ((h.shape.each_row k.job.row k.row k.found).init act)))

      pub readies : Grounds ready_to → JobsFit ready_to
      readies b = gone_on s ready_to h b e k.job k.works.its (but_put s (ready_row k.row facts) k.job.row number)
          (were_same s ready_to e (stacks_same s.stacks) refl) k.job.row Ending refl
          (fits (λ u. absurd (not_over Ending u refl)) (λ st newest.
          let o : JobStands s k.job st = h.shape.jobs.newest e k.job st k.works.its
          (newest_was s ready_to h b e k.job k.works.its refl refl st newest) in
          ready_stands b st o.graph o.node o.names (o.fits.suits k.row is_polling k.found)))

    -- the row is gone
    module _ (act : k.row.act ≡ Delete) where
      abbrev gone_to : StateData
      gone_to = applied (purged_changes k.job k.row) s

      gone_stands : Grounds gone_to → (st : Stack) (gr : Graph) (node : Node) → Names s k.job.letter st gr node
          → SuitsAct k.row.act node
          → JobStands gone_to (record k.job { stage = Ending }) st
      gone_stands b st gr (U word n) names suits = absurd (suits_update k.row.act word n suits act)
      gone_stands b st gr (C n) names suits =
          cleanup_stands s gone_to h b e k.job k.works.its refl refl st gr n names Ending
          (λ u. absurd (not_over Ending u refl)) (λ q stage at_q. absurd (cut_gone s k.row.no k.job.row q number at_q))

      pub goes : Grounds gone_to → JobsFit gone_to
      goes b = gone_on s gone_to h b e k.job k.works.its (but_cut s k.row.no k.job.row number)
          (were_same s gone_to e (stacks_same s.stacks) refl) k.job.row Ending refl
          (fits (λ u. absurd (not_over Ending u refl)) (λ st newest.
          let o : JobStands s k.job st = h.shape.jobs.newest e k.job st k.works.its
          (newest_was s gone_to h b e k.job k.works.its refl refl st newest) in
          gone_stands b st o.graph o.node o.names (o.fits.suits k.row is_polling k.found)))

  -- the rows but for one that is unlocked
  pub but_then : (r : Option Row) (m : ℕ) → row_at s.rows m ≡ r → (n : ℕ) → m ≢ n
      → row_at (rows_then r s.rows) n ≡ row_at s.rows n
  but_then None m at n ne = refl
  but_then (Some r) m at n ne = row_else (unlocked r) s.rows n (λ eq. ne (sym (row-key s.rows m r at) ∙ eq))

  pub releases : (f : ℕ) (j : Job) (r : Option Row) (ls : List Letter) → job_at s.jobs f ≡ Some j
      → row_at s.rows j.row ≡ r
      → Grounds (applied (released_changes s f r ls) s) → JobsFit (applied (released_changes s f r ls) s)
  releases f j r ls its at b = subst JobsFit (sym (release_comes s f r ls))
      (ended s (released_to s f r ls) h (subst Grounds (release_comes s f r ls) b) f j its
      (λ n ne lt. but_then r j.row at n ne)
      (were_same s (released_to s f r ls) f (stacks_same s.stacks) refl) refl)

  pub falls : (e : ℕ) (j : Job) (r : Row) (ls : List Letter) (failed : Option Stack) → job_at s.jobs e ≡ Some j
      → row_at s.rows j.row ≡ Some r
      → Falls s j ls failed → Grounds (applied (failed_changes s e r ls failed) s)
      → JobsFit (applied (failed_changes s e r ls failed) s)
  falls e j r ls failed its at f b = subst JobsFit (sym (failure_comes s e r ls failed))
      (by ls failed f (subst Grounds (failure_comes s e r ls failed) b)) where
        by : (ls : List Letter) (failed : Option Stack) → Falls s j ls failed
            → Grounds (applied (mark_failed failed) (failed_to s e r ls))
            → JobsFit (applied (mark_failed failed) (failed_to s e r ls))
        by ls failed (overrun _ _ _) c = ended s (failed_to s e r ls) h c e j its
            (but_put s (failed_row r) j.row (row-key s.rows j.row r at))
            (were_same s (failed_to s e r ls) e (stacks_same s.stacks) refl) refl
        by ls failed (marked _ _) c = ended s (failed_to s e r []) h c e j its
            (but_put s (failed_row r) j.row (row-key s.rows j.row r at))
            (were_same s (failed_to s e r []) e (stacks_same s.stacks) refl) refl
        by ls failed (marks k _) c = ended s (applied (mark_failed (Some k.stack)) (failed_to s e r [])) h c e j its
            (but_put s (failed_row r) j.row (row-key s.rows j.row r at))
            (were_same s (applied (mark_failed (Some k.stack)) (failed_to s e r [])) e
            (stacks_marked s.stacks j.letter.stack k.stack Failed k.names.in_table) refl) refl
