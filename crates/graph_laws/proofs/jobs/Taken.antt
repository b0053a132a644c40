-- Jobs fit after a take, whether the row was free or a stopped engine's: `takes`, `steals`.
use Rattle.std.proofs.Common.{◌≡◌, ◌≢◌, inl, inr, ℕ, [], ◌∷◌, List, None, Option, Some, refl, sym, ap, ◌∙◌, subst}
use Rattle.row_table.specs.Rows.{put_row, row_at}
use Rattle.row_table.specs.declared.row.Row.{Row}
use Rattle.mail_table.specs.Mails.{cut_job, job_at, put_job}
use Rattle.mail_table.specs.declared.mail.Job.{Job}
use Rattle.mail_table.specs.declared.mail.Stage.{Stage}
use Rattle.mail_table.specs.declared.mail.Stage.TheVariants.{Ending, Taken}
use Rattle.core_state.specs.Changes.{applied}
use Rattle.core_state.specs.Reads.{IsReady}
use Rattle.core_state.specs.State.{StateData, graph_at, stack_at}
use Rattle.core_state.specs.declared.change.Change.TheVariants.{Drop, EndJob, PutJob, PutRow}
use Rattle.core_state.specs.declared.graph.Graph.{Graph}
use Rattle.core_state.specs.declared.stack.Stack.{Stack}
use Rattle.step_relation.specs.Rows.{locked}
use Rattle.step_relation.specs.Takes.{HasNoHolder, IsHolder, Takes, taken_job}
use Rattle.step_relation.specs.Targets.{IsTarget}
use Rattle.step_relation.specs.Writes.{lock}
use Rattle.step_relation.specs.MailFits.{IsUnderWay, JobStands, JobsFit, LetterStands, asks, polls}
use Rattle.step_relation.specs.Sound.{Standing}
use Rattle.history_laws.proofs.tables.Alike.{Alike-put}
use Rattle.history_laws.proofs.tables.Rows.{job_cut, job_put, row-key, row_else, row_self, same_some, stack-key}
use Rattle.history_laws.proofs.tables.Targets.{SameWay, SameWay-same, target_kept}
use Rattle.graph_laws.proofs.graphs.Kept.{SameStacks, stacks_same}
use Rattle.graph_laws.proofs.jobs.Onward.{Goes, Grounds, fits, jobs_fit, stays}
use Rattle.graph_laws.proofs.jobs.Steps.{were_same}

taken_is_no_way : (x : Stage) → IsUnderWay x → x ≡ Taken → ⊥
taken_is_no_way _ asks e = cc
taken_is_no_way _ polls e = cc

taken_goes_on : Taken ≡ Ending → ⊥
taken_goes_on e = cc

-- the rows after one was locked, if it stood
abbrev pub locked_then : Option Row → ℕ → List Row → List Row
locked_then None e rows = rows
locked_then (Some r) e rows = put_row (locked e r) rows

module _ (s : StateData) (h : Standing s) (e : ℕ) (k : Takes s e) where
  abbrev n : ℕ
  n = k.meant.target

  target_then : (r : Option Row) → row_at s.rows n ≡ r → (stack : List ℕ) → IsTarget s.rows stack k.meant.fresh.node n
      → IsTarget (locked_then r e s.rows) stack k.meant.fresh.node n
  target_then None at stack to = to
  target_then (Some r) at stack to = target_kept s.rows (put_row (locked e r) s.rows)
      (Alike-put SameWay SameWay-same r (locked e r) s.rows (row_self s.rows n r at)
      (record { no_ = refl; stack = refl; name = refl; act = refl; replaced_by = refl })) stack k.meant.fresh.node n to

  pub rows_else : (r : Option Row) → row_at s.rows n ≡ r → (m : ℕ) → n ≢ m
      → row_at (locked_then r e s.rows) m ≡ row_at s.rows m
  rows_else None at m ne = refl
  rows_else (Some r) at m ne = row_else (locked e r) s.rows m (λ eq. ne (sym (row-key s.rows n r at) ∙ eq))

  module _ (t : StateData) (b : Grounds t) (stacks : t.stacks ≡ s.stacks) (graphs : t.graphs ≡ s.graphs)
      (rows : t.rows ≡ locked_then k.meant.fresh.row e s.rows) where
    its_graph : graph_at t.graphs k.letter.stack ≡ Some k.meant.fresh.graph
    its_graph = subst (λ (y : List Graph). graph_at y k.letter.stack ≡ Some k.meant.fresh.graph)
        (sym graphs) k.meant.fresh.names.its_graph

    in_table : stack_at t.stacks k.letter.stack ≡ Some k.meant.fresh.stack
    in_table = subst (λ (y : List Stack). stack_at y k.letter.stack ≡ Some k.meant.fresh.stack)
        (sym stacks) k.meant.fresh.names.in_table

    letter_stands : LetterStands s k.letter k.meant.fresh.stack
    letter_stands = h.shape.letters.newest k.letter.no k.letter k.meant.fresh.stack k.next.first.waits
        (record { in_table = k.meant.fresh.names.in_table; newest = k.meant.fresh.names.newest })

    ready : IsReady k.meant.fresh.graph k.letter.node
    ready = subst (λ (y : Graph). IsReady y k.letter.node)
        (same_some letter_stands.graph k.meant.fresh.graph letter_stands.names.its_graph k.meant.fresh.names.its_graph)
        letter_stands.ready

    stands : JobStands t (taken_job s e k) k.meant.fresh.stack
    stands = record {
      graph = k.meant.fresh.graph;
      node = k.meant.fresh.node;
      names = record {
        in_table = in_table;
        newest = k.meant.fresh.names.newest;
        its_graph = its_graph;
        its_node = k.meant.fresh.names.its_node;
      };
      fits = record {
        ready = ready;
        undone = k.open_;
        target = subst (λ (y : List Row). IsTarget y k.meant.fresh.stack.name k.meant.fresh.node n) (sym rows)
            (target_then k.meant.fresh.row k.meant.fresh.found k.meant.fresh.stack.name
            (subst (λ (y : List ℕ). IsTarget s.rows y k.meant.fresh.node n)
            (sym (stack-key s.stacks k.letter.stack k.meant.fresh.stack k.meant.fresh.names.in_table)) k.meant.to));
        suits = λ r under at. absurd (taken_is_no_way Taken under refl);
        ends_update = λ word m is stage. absurd (taken_goes_on stage);
        ends_cleanup = λ m r is stage at. absurd (taken_goes_on stage);
      };
    }

    own : Goes s t e (taken_job s e k)
    own = fits (λ under. absurd (taken_is_no_way Taken under refl))
        (λ st newest. subst (JobStands t (taken_job s e k))
        (same_some k.meant.fresh.stack st in_table newest.in_table) stands)

    other : (f : ℕ) (j : Job) → job_at s.jobs f ≡ Some j → j.row ≢ n → e ≢ f → Goes s t f j
    other f j its ne apart = stays its
        (subst (λ (y : List Row). row_at y j.row ≡ row_at s.rows j.row) (sym rows)
        (rows_else k.meant.fresh.row k.meant.fresh.found j.row (λ eq. ne (sym eq))))
        (were_same s t e same graphs f j its apart) where
          same : SameStacks s.stacks t.stacks
          same = subst (λ (y : List Stack). SameStacks s.stacks y) (sym stacks) (stacks_same s.stacks)

    free : HasNoHolder s.jobs n → t.jobs ≡ put_job (taken_job s e k) s.jobs → JobsFit t
    free nobody jobs = jobs_fit s t h b (λ f j at.
        elim (job_put (taken_job s e k) s.jobs (subst (λ (y : List Job). job_at y f ≡ Some j) jobs at)) [
          | inl new ↦ subst (λ (y : Job). Goes s t f y) new.1
              (subst (λ (m : ℕ). Goes s t m (taken_job s e k)) new.0 own)
          | inr was ↦ other f j was.1 (nobody f j was.1) was.0
        ])

    stolen : (f : ℕ) (j : Job) → IsHolder s.jobs n f j
        → t.jobs ≡ put_job (taken_job s e k) (cut_job f s.jobs) → JobsFit t
    stolen f j holder jobs = jobs_fit s t h b (λ m o at.
        elim (job_put (taken_job s e k) (cut_job f s.jobs) (subst (λ (y : List Job). job_at y m ≡ Some o) jobs at)) [
          | inl new ↦ subst (λ (y : Job). Goes s t m y) new.1
              (subst (λ (z : ℕ). Goes s t z (taken_job s e k)) new.0 own)
          | inr kept ↦ let (ne, was) = job_cut f s.jobs kept.1 in
              other m o was (λ eq. ne (h.links.locked.apart f m j o holder.its was (holder.has ∙ sym eq))) kept.0
        ])

  pub takes : HasNoHolder s.jobs n
      → Grounds (applied (lock k.meant.fresh.row e (Drop k.letter.no ∷ PutJob (taken_job s e k) ∷ [])) s)
      → JobsFit (applied (lock k.meant.fresh.row e (Drop k.letter.no ∷ PutJob (taken_job s e k) ∷ [])) s)
  takes nobody = by k.meant.fresh.row refl where
    by : (r : Option Row) → k.meant.fresh.row ≡ r
        → Grounds (applied (lock r e (Drop k.letter.no ∷ PutJob (taken_job s e k) ∷ [])) s)
        → JobsFit (applied (lock r e (Drop k.letter.no ∷ PutJob (taken_job s e k) ∷ [])) s)
    by None is b = free (applied (Drop k.letter.no ∷ PutJob (taken_job s e k) ∷ []) s) b refl refl
        (ap (λ (y : Option Row). locked_then y e s.rows) (sym is)) nobody refl
    by (Some r) is b =
        free (applied (PutRow (locked e r) ∷ Drop k.letter.no ∷ PutJob (taken_job s e k) ∷ []) s) b refl refl
        (ap (λ (y : Option Row). locked_then y e s.rows) (sym is)) nobody refl

  pub steals : (f : ℕ) (j : Job) → IsHolder s.jobs n f j
      → Grounds (applied (lock k.meant.fresh.row e (Drop k.letter.no ∷ EndJob f ∷ PutJob (taken_job s e k) ∷ [])) s)
      → JobsFit (applied (lock k.meant.fresh.row e (Drop k.letter.no ∷ EndJob f ∷ PutJob (taken_job s e k) ∷ [])) s)
  steals f j holder = by k.meant.fresh.row refl where
    by : (r : Option Row) → k.meant.fresh.row ≡ r
        → Grounds (applied (lock r e (Drop k.letter.no ∷ EndJob f ∷ PutJob (taken_job s e k) ∷ [])) s)
        → JobsFit (applied (lock r e (Drop k.letter.no ∷ EndJob f ∷ PutJob (taken_job s e k) ∷ [])) s)
    by None is b = stolen (applied (Drop k.letter.no ∷ EndJob f ∷ PutJob (taken_job s e k) ∷ []) s) b refl refl
        (ap (λ (y : Option Row). locked_then y e s.rows) (sym is)) f j holder refl
    by (Some r) is b = stolen
        (applied (PutRow (locked e r) ∷ Drop k.letter.no ∷ EndJob f ∷ PutJob (taken_job s e k) ∷ []) s) b refl refl
        (ap (λ (y : Option Row). locked_then y e s.rows) (sym is)) f j holder refl
