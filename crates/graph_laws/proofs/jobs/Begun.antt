-- Jobs fit after the begin of a node, in each form.
use Rattle.std.proofs.Common.{◌≡◌, ◌≢◌, ◌<◌, ℕ, ◌++◌, List, None, Option, Some, refl, sym, ◌∙◌, subst, arith}
use Rattle.heat_value.specs.Data.{Members}
use Rattle.heat_plan.specs.declared.phase.Act.TheVariants.{Delete, Init}
use Rattle.heat_plan.specs.declared.phase.Status.TheVariants.{Complete, Failed, InProgress}
use Rattle.row_table.specs.Rows.{cut_row, put_row, row_at}
use Rattle.row_table.specs.declared.row.Row.{Row}
use Rattle.mail_table.specs.Mails.{job_at}
use Rattle.mail_table.specs.declared.mail.Job.{Job}
use Rattle.mail_table.specs.declared.mail.Letter.{Letter}
use Rattle.mail_table.specs.declared.mail.Stage.{Stage}
use Rattle.mail_table.specs.declared.mail.Stage.TheVariants.{Asking, Ending}
use Rattle.core_state.specs.Changes.{applied}
use Rattle.core_state.specs.State.{StateData}
use Rattle.core_state.specs.declared.stack.Stack.{Stack}
use Rattle.step_relation.specs.Asks.{Falls, marked, marks, overrun}
use Rattle.step_relation.specs.Begins.{Begins, begun_changes, left_changes, next_row, onward_changes, replaced_changes}
use Rattle.step_relation.specs.Cleanups.{Cleans, IsKept, purged_changes, retained_changes}
use Rattle.step_relation.specs.Rows.{created_row, deleted_row, replaced, same_row, unlocked, updated_row}
use Rattle.step_relation.specs.Writes.{mark_failed}
use Rattle.step_relation.specs.MailFits.{IsUnderWay, JobsFit, asks, polls}
use Rattle.step_relation.specs.RowsFit.{IsWanted}
use Rattle.step_relation.specs.Sound.{Standing}
use Rattle.history_laws.proofs.tables.Rows.{row-key, row_else, row_gone, row_here, row_kept, same_some}
use Rattle.graph_laws.proofs.graphs.Kept.{stacks_marked, stacks_same}
use Rattle.graph_laws.proofs.graphs.Placed.{its_item, its_target}
use Rattle.graph_laws.proofs.graphs.Shapes.{create_is_kept, update_is_kept}
use Rattle.graph_laws.proofs.jobs.Onward.{Grounds}
use Rattle.graph_laws.proofs.jobs.Steps.{cleanup_goes, ended, gone_on, update_goes, were_same}

pub not_over : (x : Stage) → IsUnderWay x → x ≡ Ending → ⊥
not_over _ asks e = cc
not_over _ polls e = cc

pub not_ending : Asking ≡ Ending → ⊥
not_ending e = cc

none_there : {o : Option Row} (r : Row) → o ≡ None → o ≡ Some r → ⊥
none_there r a b = cc

-- a row is written over that of this number, or cut
pub but_put : (s : StateData) (q : Row) (m : ℕ) → q.no ≡ m → (n : ℕ) → m ≢ n → n < s.next.row
    → row_at (put_row q s.rows) n ≡ row_at s.rows n
but_put s q m is n ne lt = row_else q s.rows n (λ e. ne (sym is ∙ e))

pub but_cut : (s : StateData) (c m : ℕ) → c ≡ m → (n : ℕ) → m ≢ n → n < s.next.row
    → row_at (cut_row c s.rows) n ≡ row_at s.rows n
but_cut s c m is n ne lt = row_kept c s.rows n (λ e. ne (sym is ∙ e))

pub put_there : (s : StateData) (q : Row) (m : ℕ) → q.no ≡ m → row_at (put_row q s.rows) m ≡ Some q
put_there s q m is = subst (λ (n : ℕ). row_at (put_row q s.rows) n ≡ Some q) is (row_here q s.rows)

pub cut_gone : (s : StateData) (c m : ℕ) (r : Row) → c ≡ m → row_at (cut_row c s.rows) m ≡ Some r → ⊥
cut_gone s c m r is at = none_there r (subst (λ (n : ℕ). row_at (cut_row c s.rows) n ≡ None) is (row_gone c s.rows)) at

module _ (s : StateData) (h : Standing s) where
  -- a row is left, and the stack may be marked
  pub leaves : (e : ℕ) (j : Job) (r : Row) → job_at s.jobs e ≡ Some j → row_at s.rows j.row ≡ Some r
      → Grounds (applied (left_changes e r) s)
      → JobsFit (applied (left_changes e r) s)
  leaves e j r its at b = ended s _ h b e j its (but_put s (unlocked r) j.row (row-key s.rows j.row r at))
      (were_same s _ e (stacks_same s.stacks) refl) refl

  pub faults : (e : ℕ) (j : Job) (r : Row) (ls : List Letter) (failed : Option Stack) → job_at s.jobs e ≡ Some j
      → row_at s.rows j.row ≡ Some r
      → Falls s j ls failed → Grounds (applied (left_changes e r ++ mark_failed failed) s)
      → JobsFit (applied (left_changes e r ++ mark_failed failed) s)
  faults e j r ls failed its at (overrun _ _ _) b = leaves e j r its at b
  faults e j r ls failed its at (marked _ _) b = leaves e j r its at b
  faults e j r ls failed its at (marks k _) b =
      ended s _ h b e j its (but_put s (unlocked r) j.row (row-key s.rows j.row r at))
      (were_same s _ e (stacks_marked s.stacks j.letter.stack k.stack Failed k.names.in_table) refl) refl

  module _ (e : ℕ) (k : Begins s e) where
    number : k.row.no ≡ k.job.row
    number = row-key s.rows k.job.row k.row k.found

    -- the node's row is taken up
    begun : (x : Stage) (q : Row) → q.no ≡ k.row.no → q.stack ≡ k.row.stack → q.name ≡ k.row.name
        → q.replaced_by ≡ k.row.replaced_by
        → q.act ≢ Delete → q.trav ≡ k.stack.trav → (IsUnderWay x → q.status ≡ InProgress)
        → (x ≡ Ending → (q.status ≡ Complete) × (q.act ≢ Init)) → Grounds (applied (begun_changes k.job x q) s)
        → JobsFit (applied (begun_changes k.job x q) s)
    begun x q no_ stack name by kept trav way end b =
        let f = its_target s h e k in
        gone_on s _ h b e k.job k.works.its (but_put s q k.job.row (no_ ∙ number))
        (were_same s _ e (stacks_same s.stacks) refl)
        k.job.row x refl
        (update_goes s _ h b e k.job k.works.its refl refl k.stack k.graph k.name k.chosen k.names k.job.row x q
        (put_there s q k.job.row (no_ ∙ number)) (stack ∙ f.is.stack_is) (name ∙ f.is.name_is)
        (record { kept = kept; last = by ∙ f.is.current.last }) trav way end)

    pub creates : (props : Members)
        → Grounds (applied (begun_changes k.job Asking (created_row k.row k.item k.stack.trav props k.required)) s)
        → JobsFit (applied (begun_changes k.job Asking (created_row k.row k.item k.stack.trav props k.required)) s)
    creates props = begun Asking
        (created_row k.row k.item k.stack.trav props k.required) refl refl refl refl create_is_kept refl
        (λ u. refl) (λ stage. absurd (not_ending stage))

    pub updates : (props : Members)
        → Grounds (applied (begun_changes k.job Asking (updated_row k.row k.item k.stack.trav props k.required)) s)
        → JobsFit (applied (begun_changes k.job Asking (updated_row k.row k.item k.stack.trav props k.required)) s)
    updates props = begun Asking
        (updated_row k.row k.item k.stack.trav props k.required) refl refl refl refl update_is_kept refl
        (λ u. refl) (λ stage. absurd (not_ending stage))

    pub keeps : k.row.act ≢ Init → k.row.status ≡ Complete
        → Grounds (applied (begun_changes k.job Ending (same_row k.row k.item k.stack.trav k.required)) s)
        → JobsFit (applied (begun_changes k.job Ending (same_row k.row k.item k.stack.trav k.required)) s)
    keeps act status = begun Ending (same_row k.row k.item k.stack.trav k.required) refl refl refl refl k.kept refl
        (λ u. absurd (not_over Ending u refl)) (λ stage. (status, act))

    pub resumes : k.row.status ≡ InProgress → k.row.trav ≡ k.stack.trav
        → Grounds (applied (onward_changes k.job Asking) s)
        → JobsFit (applied (onward_changes k.job Asking) s)
    resumes status trav b =
        let f = its_target s h e k in
        gone_on s _ h b e k.job k.works.its (λ n ne lt. refl)
        (were_same s _ e (stacks_same s.stacks) refl) k.job.row Asking refl
        (update_goes s _ h b e k.job k.works.its refl refl k.stack k.graph k.name k.chosen k.names k.job.row Asking
        k.row k.found
        f.is.stack_is f.is.name_is f.is.current trav (λ u. status) (λ stage. absurd (not_ending stage)))

    -- another row takes its place
    module _ (props : Members) where
      abbrev new : Row
      new = next_row s e k props

      abbrev old : Row
      old = replaced s.next.row k.row

      below : k.row.no < s.next.row
      below = (h.links.numbered.rows k.job.row k.row k.found).no_

      pub replaces : Grounds (applied (replaced_changes s e k props) s)
          → JobsFit (applied (replaced_changes s e k props) s)
      replaces b =
          gone_on s _ h b e k.job k.works.its
          (λ n ne lt. row_else old (put_row new s.rows) n (λ eq. ne (sym number ∙ eq))
          ∙ row_else new s.rows n (λ eq. let is : s.next.row ≡ n = eq in omega arith))
          (were_same s _ e (stacks_same s.stacks) refl) s.next.row Asking refl
          (update_goes s _ h b e k.job k.works.its refl refl k.stack k.graph k.name k.chosen k.names
          s.next.row Asking new
          (row_else old (put_row new s.rows) s.next.row
          (λ eq. let is : k.row.no ≡ s.next.row = eq in let lt = below in omega arith) ∙ row_here new s.rows)
          refl (its_item s h e k) (record { kept = create_is_kept; last = refl }) refl (λ u. refl)
          (λ stage. absurd (not_ending stage)))

  module _ (e : ℕ) (k : Cleans s e) where
    pub gone : row_at s.rows k.job.row ≡ None → Grounds (applied (onward_changes k.job Ending) s)
        → JobsFit (applied (onward_changes k.job Ending) s)
    gone none b = gone_on s _ h b e k.job k.works.its (λ n ne lt. refl)
        (were_same s _ e (stacks_same s.stacks) refl) k.job.row Ending refl
        (cleanup_goes s _ h b e k.job k.works.its refl refl k.stack k.graph k.number k.names Ending
        (λ u. absurd (not_over Ending u refl))
        (λ r stage at. absurd (none_there r none at)))

    module _ (r : Row) (at : row_at s.rows k.job.row ≡ Some r) where
      its_number : r.no ≡ k.job.row
      its_number = row-key s.rows k.job.row r at

      pub stays_kept : IsKept s k.stack r → Grounds (applied (onward_changes k.job Ending) s)
          → JobsFit (applied (onward_changes k.job Ending) s)
      stays_kept kept b = gone_on s _ h b e k.job k.works.its (λ n ne lt. refl)
          (were_same s _ e (stacks_same s.stacks) refl) k.job.row Ending refl
          (cleanup_goes s _ h b e k.job k.works.its refl refl k.stack k.graph k.number k.names Ending
          (λ u. absurd (not_over Ending u refl))
          (λ q stage at_q. subst (IsWanted k.stack) (same_some r q at at_q)
          (record { current = kept.current.current; planned = kept.planned })))

      pub purges : Grounds (applied (purged_changes k.job r) s) → JobsFit (applied (purged_changes k.job r) s)
      purges b = gone_on s _ h b e k.job k.works.its (but_cut s r.no k.job.row its_number)
          (were_same s _ e (stacks_same s.stacks) refl)
          k.job.row Ending refl
          (cleanup_goes s _ h b e k.job k.works.its refl refl k.stack k.graph k.number k.names Ending
          (λ u. absurd (not_over Ending u refl))
          (λ q stage at_q. absurd (cut_gone s r.no k.job.row q its_number at_q)))

      pub retains : Grounds (applied (retained_changes k.job r) s) → JobsFit (applied (retained_changes k.job r) s)
      retains b = gone_on s _ h b e k.job k.works.its (but_cut s r.no k.job.row its_number)
          (were_same s _ e (stacks_same s.stacks) refl)
          k.job.row Ending refl
          (cleanup_goes s _ h b e k.job k.works.its refl refl k.stack k.graph k.number k.names Ending
          (λ u. absurd (not_over Ending u refl))
          (λ q stage at_q. absurd (cut_gone s r.no k.job.row q its_number at_q)))

      pub deletes : Grounds (applied (begun_changes k.job Asking (deleted_row r k.stack.trav)) s)
          → JobsFit (applied (begun_changes k.job Asking (deleted_row r k.stack.trav)) s)
      deletes b = gone_on s _ h b e k.job k.works.its (but_put s (deleted_row r k.stack.trav) k.job.row its_number)
          (were_same s _ e (stacks_same s.stacks) refl) k.job.row Asking refl
          (cleanup_goes s _ h b e k.job k.works.its refl refl k.stack k.graph k.number k.names Asking
          (λ u. record {
            row = deleted_row r k.stack.trav;
            found = put_there s
                (deleted_row r k.stack.trav) k.job.row its_number;
            status = refl;
            newest = refl;
            act = refl;
          })
          (λ q stage at_q. absurd (not_ending stage)))
