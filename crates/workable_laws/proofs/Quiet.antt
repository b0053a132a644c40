-- A step that writes no row and no job.
use Rattle.std.proofs.Common.{◌≡◌, ◌⊎◌, inl, ◌≤◌, ℕ, List, ◌++◌, Some, sym, subst, arith}
use Rattle.std.specs.Prelude.{Contains}
use Rattle.heat_plan.specs.declared.token.Token.{Token}
use Rattle.row_table.specs.declared.row.Row.{Row}
use Rattle.mail_table.specs.Mails.{job_at}
use Rattle.mail_table.specs.declared.mail.Job.{Job}
use Rattle.core_state.specs.Changes.{applied}
use Rattle.core_state.specs.State.{StateData}
use Rattle.core_state.specs.declared.change.Change.{Change}
use Rattle.core_state.specs.declared.entry.Entry.{Entry}
use Rattle.step_relation.specs.Opening.{Opening}
use Rattle.history_laws.proofs.tells.Silence.{AreUncalling, could-silent}
use Rattle.step_relation.specs.Numbered.{EachOnce}
use Rattle.workable_laws.specs.Workable.{Workable}
use Rattle.workable_laws.proofs.Drawing.{AllFit}
use Rattle.workable_laws.proofs.Kept.{JobsKept, Kept, RowsKept}
use Rattle.workable_laws.proofs.Own.{done}
use Rattle.workable_laws.proofs.Tables.{rows_untouched}

-- rows, jobs and tokens stay, and an engine that is live was, or is new
pub record IsSame (s t : StateData) : Type 0 where
  pub rows : t.rows ≡ s.rows
  pub jobs : t.jobs ≡ s.jobs
  pub released : t.released ≡ s.released
  pub live : (f : ℕ) → Contains t.live f → Contains s.live f ⊎ (s.next.engine ≤ f)

module _ (o : Opening) (h : List Entry) (s : StateData) (w : Workable o h s) where
  -- no row has the next number, and no engine of that number has a job
  pub same_kept : (es : List Entry) → AreUncalling es → (t : StateData) → IsSame s t → EachOnce t.live
      → Kept o h (h ++ es) s t s.next.engine s.next.row
  same_kept es silent t same once = record {
    live = same.live;
    rows = subst (λ (l : List Row). RowsKept o (h ++ es) s l s.next.row) (sym same.rows)
        (rows_untouched o h (h ++ es) s w.drawn w.jobs w.cloud s.next.row
        (λ q at must x among. let lt = w.drawn.rows s.next.row q at in absurd (omega (arith, lt))));
    jobs = subst (λ (l : List Job). JobsKept s l s.next.engine s.next.row) (sym same.jobs)
        (record { else_ = λ f j at ne. (at, (λ is. let lt = w.drawn.jobs f j at in omega (arith, lt, is))) });
    own = λ q at. let lt = w.drawn.holders s.next.engine q
        (subst (λ (l : List Job). job_at l s.next.engine ≡ Some q) same.jobs at) in absurd (omega (arith, lt));
    could = λ x ne. could-silent o h es x silent;
    released = λ x c. inl (subst (λ (l : List Token). Contains l x) same.released c);
    once = once;
  }

  pub same_workable : (cs : List Change) (es : List Entry) → AreUncalling es → AllFit s s.next cs
      → IsSame s (applied cs s)
      → EachOnce (applied cs s).live → Workable o (h ++ es) (applied cs s)
  same_workable cs es silent fits same once = done o h s w cs es s.next.engine s.next.row fits
      (same_kept es silent (applied cs s) same once)
