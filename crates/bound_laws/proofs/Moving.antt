-- Each move lowers the work.
use Rattle.std.proofs.Common.{◌≡◌, ◌≢◌, ◌⊎◌, inl, inr, ◌<◌, ℕ, List, [], ◌∷◌, ◌++◌, Option, Some, None, refl, sym, ap}
use Rattle.std.proofs.Common.{subst, ◌∙◌}
use Rattle.std.specs.Prelude.{Contains}
use Rattle.heat_plan.specs.declared.phase.Act.TheVariants.{Init}
use Rattle.heat_plan.specs.declared.token.Token.{Token}
use Rattle.row_table.specs.Chains.{IsCurrent}
use Rattle.row_table.specs.Rows.{put_row, row_at}
use Rattle.row_table.specs.declared.row.Row.{Row}
use Rattle.mail_table.specs.Mails.{cut_job, job_at}
use Rattle.mail_table.specs.declared.mail.Job.{Job}
use Rattle.mail_table.specs.declared.mail.Letter.{Letter}
use Rattle.mail_table.specs.declared.mail.Stage.{Stage}
use Rattle.mail_table.specs.declared.mail.Stage.TheVariants.{Asking, Ending, Polling, Taken}
use Rattle.core_state.specs.Changes.{applied}
use Rattle.core_state.specs.State.{StateData, stack_at}
use Rattle.core_state.specs.declared.change.Change.{Change}
use Rattle.core_state.specs.declared.change.Change.TheVariants.{Drop, EndJob, PutJob}
use Rattle.core_state.specs.declared.entry.Entry.{Entry}
use Rattle.core_state.specs.declared.stack.Stack.{Stack}
use Rattle.step_relation.specs.Asks.{Falls, failed_changes, marked, marks, overrun}
use Rattle.step_relation.specs.Begins.{begun_changes, left_changes, onward_changes}
use Rattle.step_relation.specs.Cleanups.{purged_changes, retained_changes}
use Rattle.step_relation.specs.Freshness.{IsOverrun}
use Rattle.step_relation.specs.Given.{Given}
use Rattle.step_relation.specs.Moves.{Move, ask_begun, ask_failed, begin_failed, begin_faulted, begin_in_place}
use Rattle.step_relation.specs.Moves.{begin_init, begin_overrun, begin_replaced, begin_resumed, begin_same}
use Rattle.step_relation.specs.Moves.{clean_deleted, clean_gone, clean_init, clean_kept, clean_retained, clean_stuck}
use Rattle.step_relation.specs.Moves.{finish, finish_last, finish_overrun, poll_failed, poll_gone, poll_ready}
use Rattle.step_relation.specs.Moves.{poll_waits, take_dropped, take_free, take_stolen, takeover_fresh}
use Rattle.step_relation.specs.Moves.{takeover_overrun}
use Rattle.step_relation.specs.Resends.{Resends, cleanup, nobody, update}
use Rattle.step_relation.specs.Rows.{deleted_row, failed_row, locked, token_of}
use Rattle.step_relation.specs.Runs.{IsTied, Judges}
use Rattle.step_relation.specs.Takes.{Takes, relayed_letter, released_changes, taken_job}
use Rattle.step_relation.specs.Writes.{letter_to, lock, mark_complete, mark_failed, with_stage}
use Rattle.step_relation.specs.MailFits.{IsStale}
use Rattle.step_relation.specs.Sound.{Standing}
use Rattle.history_laws.proofs.tables.Facts.{job_row_stack}
use Rattle.history_laws.proofs.tables.Fresh.{overrun_is_old}
use Rattle.history_laws.proofs.tables.Rows.{job-key, row_self, same_some, stack-key}
use Rattle.workable_laws.proofs.Below.{failed_end, released_end, released_state, sent_to}
use Rattle.graph_laws.proofs.graphs.Finished.{comes, rows_then}
use Rattle.graph_laws.proofs.graphs.Known.{never_again}
use Rattle.bound_laws.specs.Bound.{IsWork}
use Rattle.bound_laws.specs.Rolls.{MayRoll}
use Rattle.bound_laws.proofs.Ended.{form_unlocked}
use Rattle.bound_laws.proofs.Falls.{PollsFall}
use Rattle.bound_laws.proofs.Finishing.{FinishEnd, finishes}
use Rattle.bound_laws.proofs.Forms.{RowForm, form_cut, form_put, form_same, jobs_put, jobs_stolen, own_is}
use Rattle.bound_laws.proofs.Lowers.{SendsOne, drops, ends, releases, sends_none, sends_one, takes, takes_over}
use Rattle.bound_laws.proofs.Onward.{on_asking, on_polling, on_taken, waits}
use Rattle.bound_laws.proofs.Replaces.{replaces}
use Rattle.bound_laws.proofs.Rows.{IsFar}
use Rattle.bound_laws.proofs.Still.{still_marked, still_same}
use Rattle.bound_laws.proofs.Ended as ended

-- an overrun job is of an old traversal
overrun_stale : (s : StateData) → Standing s → (e : ℕ) (j : Job) → job_at s.jobs e ≡ Some j → IsOverrun s j
    → IsStale s.stacks j.letter
overrun_stale s hs e j its over st at is = overrun_is_old s hs e j its over st (record { in_table = at; newest = is })

-- what a release sends
sends_of : (s t : StateData) (name : List ℕ) (n : ℕ) (ls : List Letter) → Resends s name n ls
    → t.letters ≡ sent_to ls s.letters → SendsOne s t name
sends_of s t name n ls (update st g i has least) is = sends_one (letter_to st s.next.letter i)
    (stack-key s.stacks name st has.in_table) is
sends_of s t name n ls (cleanup st g i has none least) is = sends_one (letter_to st s.next.letter i)
    (stack-key s.stacks name st has.in_table) is
sends_of s t name n ls (nobody none none') is = sends_none is

abbrev locked_rows : ℕ → Option Row → List Row → List Row
locked_rows e None rows = rows
locked_rows e (Some r) rows = put_row (locked e r) rows

locked_form : (s t : StateData) (e n : ℕ) (row : Option Row) → row_at s.rows n ≡ row → t.rows ≡ locked_rows e row s.rows
    → RowForm s t
locked_form s t e n None at is = form_same s t is
locked_form s t e n (Some r) at is = form_put s t r (locked e r) (row_self s.rows n r at) refl is
    (λ c. record { kept = c.kept; last = c.last }) (λ st may far. far)

module _ (judges : Judges) (before after : Token → ℕ) (s : StateData) (e : ℕ) (given : Given)
    (falls : PollsFall before after s e given) (hs : Standing s)
    (n : ℕ) (a : IsWork before s n) where
  -- these changes lower the work
  abbrev Lowers : List Change → Type 0
  Lowers cs = Standing (applied cs s) → (m : ℕ) → IsWork after (applied cs s) m → m < n

  by_case : (cs ds : List Change) → cs ≡ ds → Lowers ds → Lowers cs
  by_case cs ds is goal = subst Lowers (sym is) goal

  -- a row of a job's stack, for the stack's traversal and not at INIT, isn't far
  not_far : (j : Job) (r q : Row) (st : Stack) → job_at s.jobs e ≡ Some j → row_at s.rows j.row ≡ Some r
      → q.stack ≡ r.stack → stack_at s.stacks j.letter.stack ≡ Some st
      → q.trav ≡ st.trav → q.act ≢ Init → (x : Stack) → MayRoll s q.stack x → IsFar x.trav q → IsFar x.trav r
  not_far j r q st its found stacks at trav begun x may (inl init) = absurd (begun init)
  not_far j r q st its found stacks at trav begun x may (inr away) =
      let name : q.stack ≡ j.letter.stack = stacks ∙ job_row_stack s hs.links e j r its found in
      let same : x ≡ st = same_some x st (subst (λ (y : List ℕ). stack_at s.stacks y ≡ Some x) name may.in_table) at in
      absurd (away (trav ∙ ap (λ (y : Stack). y.trav) (sym same)))

  -- a row that is written over the job's
  row_form : (t : StateData) (j : Job) (r q : Row) → row_at s.rows j.row ≡ Some r → token_of q ≡ token_of r
      → t.rows ≡ put_row q s.rows → (IsCurrent q → IsCurrent r)
      → ((st : Stack) → MayRoll s q.stack st → IsFar st.trav q → IsFar st.trav r) → RowForm s t
  row_form t j r q found token is current far =
      let number : q.no ≡ r.no = ap (λ (y : Token). y.row) token in
      form_put s t r q (subst (λ (x : ℕ). row_at s.rows x ≡ Some r) (sym number) (row_self s.rows j.row r found)) token
      is current far

  -- begins
  began : (j : Job) (r q : Row) (st : Stack) → job_at s.jobs e ≡ Some j → Contains s.live e → j.stage ≡ Taken
      → row_at s.rows j.row ≡ Some r
      → stack_at s.stacks j.letter.stack ≡ Some st → token_of q ≡ token_of r → q.trav ≡ st.trav → q.act ≢ Init
      → (IsCurrent q → IsCurrent r)
      → (stage : Stage) → (stage ≡ Asking) ⊎ (stage ≡ Ending) → Lowers (begun_changes j stage q)
  began j r q st its live at found in_table token trav begun current stage to ht m b =
      on_taken before after s _ e given falls hs ht n m a b (still_same s _ refl refl refl)
      (row_form _ j r q found token refl current
      (not_far j r q st its found (ap (λ (y : Token). y.stack) token) in_table trav begun))
      j (with_stage stage j) its live (job-key s.jobs e j its) refl refl refl refl at to

  onward : (j : Job) → job_at s.jobs e ≡ Some j → Contains s.live e → j.stage ≡ Taken → (stage : Stage)
      → (stage ≡ Asking) ⊎ (stage ≡ Ending) → Lowers (onward_changes j stage)
  onward j its live at stage to ht m b = on_taken before after s _ e given falls hs ht n m a b
      (still_same s _ refl refl refl) (form_same s _ refl)
      j (with_stage stage j) its live (job-key s.jobs e j its) refl refl refl refl at to

  left : (j : Job) (r : Row) → job_at s.jobs e ≡ Some j → Contains s.live e → row_at s.rows j.row ≡ Some r
      → Lowers (left_changes e r)
  left j r its live found ht m b = ends before after s _ e given falls hs ht n m a b (still_same s _ refl refl refl)
      (form_unlocked s _ j.row (Some r) found refl) j its live refl refl refl

  left_marked : (j : Job) (r : Row) → job_at s.jobs e ≡ Some j → Contains s.live e → row_at s.rows j.row ≡ Some r
      → (f : Option Stack)
      → ((st : Stack) → f ≡ Some st → stack_at s.stacks st.name ≡ Some st) → Lowers (left_changes e r ++ mark_failed f)
  left_marked j r its live found None table ht m b = ends before after s _ e given falls hs ht n m a b
      (still_same s _ refl refl refl) (form_unlocked s _ j.row (Some r) found refl) j its live refl refl refl
  left_marked j r its live found (Some st) table ht m b = ends before after s _ e given falls hs ht n m a b
      (still_marked s _ st (table st refl) refl refl refl)
      (form_unlocked s _ j.row (Some r) found refl) j its live refl refl refl

  purged : (j : Job) (r : Row) → job_at s.jobs e ≡ Some j → Contains s.live e → (j.stage ≡ Taken) ⊎ (j.stage ≡ Polling)
      → Lowers (purged_changes j r)
  purged j r its live (inl at) ht m b = on_taken before after s _ e given falls hs ht n m a b
      (still_same s _ refl refl refl) (form_cut s _ r.no refl)
      j (with_stage Ending j) its live (job-key s.jobs e j its) refl refl refl refl at (inr refl)
  purged j r its live (inr at) ht m b = on_polling before after s _ e given falls hs ht n m a b
      (still_same s _ refl refl refl) (form_cut s _ r.no refl)
      j (with_stage Ending j) its live (job-key s.jobs e j its) refl refl refl refl at refl

  retained : (j : Job) (r : Row) → job_at s.jobs e ≡ Some j → Contains s.live e → j.stage ≡ Taken
      → Lowers (retained_changes j r)
  retained j r its live at ht m b = on_taken before after s _ e given falls hs ht n m a b
      (still_same s _ refl refl refl) (form_cut s _ r.no refl)
      j (with_stage Ending j) its live (job-key s.jobs e j its) refl refl refl refl at (inr refl)

  -- releases, of its own and of a stopped engine's job
  released : (j : Job) (row : Option Row) (ls : List Letter) → job_at s.jobs e ≡ Some j → Contains s.live e
      → IsOverrun s j → row_at s.rows j.row ≡ row
      → Resends s j.letter.stack j.row ls → Lowers (released_changes s e row ls)
  released j row ls its live over found sends ht m b =
      let t = applied (released_changes s e row ls) s in
      let end = released_end s e row ls in
      releases before after s t e given falls hs ht n m a b
      (still_same s t (ap (λ (x : StateData). x.stacks) end) (ap (λ (x : StateData). x.graphs) end)
      (ap (λ (x : StateData). x.pasts) end))
      (form_unlocked s t j.row row found (ap (λ (x : StateData). x.rows) end ∙ rows_are row)) j its live
      (ap (λ (x : StateData). x.live) end) (ap (λ (x : StateData). x.jobs) end) (overrun_stale s hs e j its over)
      (sends_of s t j.letter.stack j.row ls sends (ap (λ (x : StateData). x.letters) end))
    where
      rows_are : (x : Option Row) → (released_state s e x ls).rows ≡ rows_then x s.rows
      rows_are None = refl
      rows_are (Some r) = refl

  relieved : (f : ℕ) (j : Job) (row : Option Row) (ls : List Letter) → job_at s.jobs e ≡ None → job_at s.jobs f ≡ Some j
      → ¬ Contains s.live f → row_at s.rows j.row ≡ row
      → ((t : StateData) → t.letters ≡ sent_to ls s.letters → SendsOne s t j.letter.stack)
      → Lowers (released_changes s f row ls)
  relieved f j row ls none its stopped found sends ht m b =
      let t = applied (released_changes s f row ls) s in
      let end = released_end s f row ls in
      takes_over before after s t e given falls hs ht n m a b
      (still_same s t (ap (λ (x : StateData). x.stacks) end) (ap (λ (x : StateData). x.graphs) end)
      (ap (λ (x : StateData). x.pasts) end))
      (form_unlocked s t j.row row found (ap (λ (x : StateData). x.rows) end ∙ rows_are row)) f j none its stopped
      (ap (λ (x : StateData). x.live) end) (ap (λ (x : StateData). x.jobs) end)
      (sends t (ap (λ (x : StateData). x.letters) end))
    where
      rows_are : (x : Option Row) → (released_state s f x ls).rows ≡ rows_then x s.rows
      rows_are None = refl
      rows_are (Some r) = refl

  -- failures
  failed_form : (t : StateData) (j : Job) (r : Row) → row_at s.rows j.row ≡ Some r
      → t.rows ≡ put_row (failed_row r) s.rows → RowForm s t
  failed_form t j r found is = row_form t j r (failed_row r) found refl is
      (λ c. record { kept = c.kept; last = c.last }) (λ st may far. far)

  failed : (j : Job) (r : Row) (ls : List Letter) (f : Option Stack) → job_at s.jobs e ≡ Some j → Contains s.live e
      → row_at s.rows j.row ≡ Some r → Falls s j ls f
      → Lowers (failed_changes s e r ls f)
  failed j r ls f its live found (overrun _ over sends) ht m b =
      let t = applied (failed_changes s e r ls None) s in
      let end = failed_end s e r ls None in
      releases before after s t e given falls hs ht n m a b
      (still_same s t (ap (λ (x : StateData). x.stacks) end) (ap (λ (x : StateData). x.graphs) end)
      (ap (λ (x : StateData). x.pasts) end))
      (failed_form t j r found (ap (λ (x : StateData). x.rows) end)) j its live
      (ap (λ (x : StateData). x.live) end) (ap (λ (x : StateData). x.jobs) end) (overrun_stale s hs e j its over)
      (sends_of s t j.letter.stack j.row ls sends (ap (λ (x : StateData). x.letters) end))
  failed j r ls f its live found (marked k not) ht m b = ends before after s _ e given falls hs ht n m a b
      (still_same s _ refl refl refl) (failed_form _ j r found refl) j its live refl refl refl
  failed j r ls f its live found (marks k is) ht m b = ends before after s _ e given falls hs ht n m a b
      (still_marked s _ k.stack (subst (λ (x : List ℕ). stack_at s.stacks x ≡ Some k.stack)
      (sym (stack-key s.stacks j.letter.stack k.stack k.names.in_table)) k.names.in_table) refl refl refl)
      (failed_form _ j r found refl) j its live refl refl refl

  falls_table : (j : Job) (ls : List Letter) (f : Option Stack) → Falls s j ls f → (st : Stack) → f ≡ Some st
      → stack_at s.stacks st.name ≡ Some st
  falls_table j ls f (overrun _ over sends) st is = cc
  falls_table j ls f (marked k not) st is = cc
  falls_table j ls f (marks k under) st is = let same : k.stack ≡ st = cc in
      subst (λ (x : Stack). stack_at s.stacks x.name ≡ Some x) same
      (subst (λ (x : List ℕ). stack_at s.stacks x ≡ Some k.stack)
      (sym (stack-key s.stacks j.letter.stack k.stack k.names.in_table)) k.names.in_table)

  -- takes
  module _ (k : Takes s e) where
    table : (x : Stack) → MayRoll s k.letter.stack x → x ≡ k.meant.fresh.stack
    table x may = same_some x k.meant.fresh.stack may.in_table k.meant.fresh.names.in_table

    not_stale : ¬ IsStale s.stacks k.letter
    not_stale old = old k.meant.fresh.stack k.meant.fresh.names.in_table k.meant.fresh.names.newest

    free_lowers : (row : Option Row) → row_at s.rows k.meant.target ≡ row
        → Lowers (lock row e (Drop k.letter.no ∷ PutJob (taken_job s e k) ∷ []))
    free_lowers None at ht m b = let t = applied (lock None e (Drop k.letter.no ∷ PutJob (taken_job s e k) ∷ [])) s in
        takes before after s t e given falls hs ht n m a b
        (still_same s _ refl refl refl) k.letter k.next.first.waits k.next.jobless k.next.live
        (form_same s _ refl) refl refl (taken_job s e k) refl refl refl k.meant.fresh.stack
        (sym k.meant.fresh.names.newest) table not_stale
        (jobs_put s _ refl e (taken_job s e k) refl refl) (own_is t s.jobs e (taken_job s e k) refl refl)
    free_lowers (Some r) at ht m b = let t =
        applied (lock (Some r) e (Drop k.letter.no ∷ PutJob (taken_job s e k) ∷ [])) s in takes before after s t e given
        falls hs ht n m a b (still_same s _ refl refl refl) k.letter k.next.first.waits k.next.jobless k.next.live
        (locked_form s _ e k.meant.target (Some r) at refl) refl refl
        (taken_job s e k) refl refl refl k.meant.fresh.stack (sym k.meant.fresh.names.newest) table not_stale
        (jobs_put s _ refl e (taken_job s e k) refl refl) (own_is t s.jobs e (taken_job s e k) refl refl)

    stolen_lowers : (f : ℕ) (row : Option Row) → row_at s.rows k.meant.target ≡ row
        → Lowers (lock row e (Drop k.letter.no ∷ EndJob f ∷ PutJob (taken_job s e k) ∷ []))
    stolen_lowers f None at ht m b = let t =
        applied (lock None e (Drop k.letter.no ∷ EndJob f ∷ PutJob (taken_job s e k) ∷ [])) s in
        takes before after s t e
        given falls hs ht n m a b (still_same s _ refl refl refl) k.letter k.next.first.waits k.next.jobless k.next.live
        (form_same s _ refl) refl refl (taken_job s e k) refl refl refl k.meant.fresh.stack
        (sym k.meant.fresh.names.newest) table not_stale
        (jobs_stolen s _ refl e f (taken_job s e k) refl refl)
        (own_is t (cut_job f s.jobs) e (taken_job s e k) refl refl)
    stolen_lowers f (Some r) at ht m b = let t = applied
        (lock (Some r) e (Drop k.letter.no ∷ EndJob f ∷ PutJob (taken_job s e k) ∷ [])) s in takes before after s t e
        given falls hs ht n m a b (still_same s _ refl refl refl) k.letter k.next.first.waits k.next.jobless k.next.live
        (locked_form s _ e k.meant.target (Some r) at refl) refl refl
        (taken_job s e k) refl refl refl k.meant.fresh.stack (sym k.meant.fresh.names.newest) table not_stale
        (jobs_stolen s _ refl e f (taken_job s e k) refl refl)
        (own_is t (cut_job f s.jobs) e (taken_job s e k) refl refl)

pub move_lowers : (judges : Judges) (before after : Token → ℕ) (s : StateData) (e : ℕ) (given : Given)
    → PollsFall before after s e given → Standing s → (n : ℕ)
    → IsWork before s n → (failed_ : Option Stack) (cs : List Change) (es : List Entry) → Move s e given failed_ cs es
    → IsTied judges s e given
    → Standing (applied cs s) → (m : ℕ) → IsWork after (applied cs s) m → m < n
move_lowers judges before after s e given falls hs n a failed_ cs es (take_dropped l _ _ t i c d) tied =
    by_case judges before after s e given falls hs n a cs _ c
    (λ ht m b. drops before after s _ e given falls hs ht n m a b (still_same s _ refl refl refl)
    l t.first.waits t.jobless (form_same s _ refl) refl refl refl)
move_lowers judges before after s e given falls hs n a failed_ cs es (take_free k _ _ free c d) tied =
    by_case judges before after s e given falls hs n a cs _ c
    (free_lowers judges before after s e given falls hs n a k k.meant.fresh.row k.meant.fresh.found)
move_lowers judges before after s e given falls hs n a failed_ cs es (take_stolen k f j _ _ holds stopped c d) tied =
    by_case judges before after s e given falls hs n a cs _ c
    (stolen_lowers judges before after s e given falls hs n a k f k.meant.fresh.row k.meant.fresh.found)
move_lowers judges before after s e given falls hs n a failed_ cs es (begin_overrun j _ _ w k c d) tied =
    by_case judges before after s e given falls hs n a cs _ c
    (released judges before after s e given falls hs n a j k.row k.letters w.its w.live k.overrun k.found k.resends)
move_lowers judges before after s e given falls hs n a failed_ cs es (begin_faulted k code path _ _ _ f c d) tied =
    by_case judges before after s e given falls hs n a cs _ c
    (left_marked judges before after s e given falls hs n a k.job k.row k.works.its k.works.live k.found failed_
    (falls_table judges before after s e given falls hs n a k.job [] failed_ f))
move_lowers judges before after s e given falls hs n a failed_ cs es (begin_init k props effect _ _ i c d) tied =
    by_case judges before after s e given falls hs n a cs _ c
    (began judges before after s e given falls hs n a k.job k.row _ k.stack k.works.its k.works.live k.works.stage_is
    k.found k.names.in_table refl refl (λ x. cc) (λ x. record { kept = k.kept; last = x.last }) Asking (inl refl))
move_lowers judges before after s e given falls hs n a failed_ cs es
    (begin_same k props effect _ _ begun i x c d) tied = by_case judges before after s e given falls hs n a cs _ c
    (began judges before after s e given falls hs n a k.job k.row _ k.stack k.works.its k.works.live k.works.stage_is
    k.found k.names.in_table refl refl begun (λ y. record { kept = k.kept; last = y.last }) Ending (inr refl))
move_lowers judges before after s e given falls hs n a failed_ cs es
    (begin_in_place k props effect _ _ begun i x c d) tied = by_case judges before after s e given falls hs n a cs _ c
    (began judges before after s e given falls hs n a k.job k.row _ k.stack k.works.its k.works.live k.works.stage_is
    k.found k.names.in_table refl refl (λ y. cc) (λ y. record { kept = k.kept; last = y.last }) Asking (inl refl))
move_lowers judges before after s e given falls hs n a failed_ cs es
    (begin_resumed k props effect _ _ begun i x c d) tied = by_case judges before after s e given falls hs n a cs _ c
    (onward judges before after s e given falls hs n a k.job k.works.its k.works.live k.works.stage_is
    Asking (inl refl))
move_lowers judges before after s e given falls hs n a failed_ cs es
    (begin_failed k props effect _ _ begun i x c d) tied = by_case judges before after s e given falls hs n a cs _ c
    (left judges before after s e given falls hs n a k.job k.row k.works.its k.works.live k.found)
move_lowers judges before after s e given falls hs n a failed_ cs es
    (begin_replaced k props effect _ _ begun goes c d) tied = by_case judges before after s e given falls hs n a cs _ c
    (λ ht m b. replaces before after s e given falls hs k props ht n m a b
    (never_again judges s hs e k props effect tied begun goes))
move_lowers judges before after s e given falls hs n a failed_ cs es (clean_gone k _ _ at c d) tied =
    by_case judges before after s e given falls hs n a cs _ c
    (onward judges before after s e given falls hs n a k.job k.works.its k.works.live k.works.stage_is
    Ending (inr refl))
move_lowers judges before after s e given falls hs n a failed_ cs es (clean_kept k r _ _ at x c d) tied =
    by_case judges before after s e given falls hs n a cs _ c
    (onward judges before after s e given falls hs n a k.job k.works.its k.works.live k.works.stage_is
    Ending (inr refl))
move_lowers judges before after s e given falls hs n a failed_ cs es (clean_init k r _ _ at x i c d) tied =
    by_case judges before after s e given falls hs n a cs _ c
    (purged judges before after s e given falls hs n a k.job r k.works.its k.works.live (inl k.works.stage_is))
move_lowers judges before after s e given falls hs n a failed_ cs es (clean_stuck k r _ _ at x i c d) tied =
    by_case judges before after s e given falls hs n a cs _ c
    (left judges before after s e given falls hs n a k.job r k.works.its k.works.live at)
move_lowers judges before after s e given falls hs n a failed_ cs es (clean_retained k r _ _ at x begun i p c d) tied =
    by_case judges before after s e given falls hs n a cs _ c
    (retained judges before after s e given falls hs n a k.job r k.works.its k.works.live k.works.stage_is)
move_lowers judges before after s e given falls hs n a failed_ cs es (clean_deleted k r _ _ at x begun i p c d) tied =
    by_case judges before after s e given falls hs n a cs _ c
    (began judges before after s e given falls hs n a k.job r
    (deleted_row r k.stack.trav) k.stack k.works.its k.works.live k.works.stage_is at k.names.in_table refl refl
    (λ y. cc) (λ y. absurd (y.kept refl)) Asking (inl refl))
move_lowers judges before after s e given falls hs n a failed_ cs es (ask_begun k asked _ _ x c d) tied =
    by_case judges before after s e given falls hs n a cs _ c
    (λ ht m b. on_asking before after s _ e given falls hs ht n m a b (still_same s _ refl refl refl)
    (form_same s _ refl) k.job (with_stage Polling k.job) k.works.its k.works.live
    (job-key s.jobs e k.job k.works.its) refl refl refl refl k.works.stage_is refl)
move_lowers judges before after s e given falls hs n a failed_ cs es
    (ask_failed k asked g reason ls _ _ _ x y f c d) tied = by_case judges before after s e given falls hs n a cs _ c
    (failed judges before after s e given falls hs n a k.job k.row ls failed_ k.works.its k.works.live k.found f)
move_lowers judges before after s e given falls hs n a failed_ cs es (poll_waits k asked _ _ x c d) tied =
    by_case judges before after s e given falls hs n a cs _ c
    (λ ht m b. waits before after s e given falls hs n m a b k.job k.works.its k.works.live k.works.stage_is
    k.row k.found
    (falls.falls (token_of k.row) refl
    (record { job = k.job; row = k.row; its = k.works.its; found = k.found; token = refl })))
move_lowers judges before after s e given falls hs n a failed_ cs es (poll_ready k facts _ _ x c d) tied =
    by_case judges before after s e given falls hs n a cs _ c
    (λ ht m b. on_polling before after s _ e given falls hs ht n m a b (still_same s _ refl refl refl)
    (row_form judges before after s e given falls hs n a _ k.job k.row _ k.found refl refl
    (λ y. record { kept = y.kept; last = y.last }) (λ st may far. far))
    k.job (with_stage Ending k.job) k.works.its k.works.live
    (job-key s.jobs e k.job k.works.its) refl refl refl refl k.works.stage_is refl)
move_lowers judges before after s e given falls hs n a failed_ cs es (poll_gone k _ _ x c d) tied =
    by_case judges before after s e given falls hs n a cs _ c
    (purged judges before after s e given falls hs n a k.job k.row k.works.its k.works.live (inr k.works.stage_is))
move_lowers judges before after s e given falls hs n a failed_ cs es
    (poll_failed k asked g reason ls _ _ _ x y f c d) tied = by_case judges before after s e given falls hs n a cs _ c
    (failed judges before after s e given falls hs n a k.job k.row ls failed_ k.works.its k.works.live k.found f)
move_lowers judges before after s e given falls hs n a failed_ cs es (finish_overrun j _ _ w k c d) tied =
    by_case judges before after s e given falls hs n a cs _ c
    (released judges before after s e given falls hs n a j k.row k.letters w.its w.live k.overrun k.found k.resends)
move_lowers judges before after s e given falls hs n a failed_ cs es (finish k _ _ not c d) tied = by_case judges before
    after s e given falls hs n a cs _ c (λ ht m b. finishes before after s e given falls hs k _ ht n m a b
    (subst (FinishEnd s e k) (sym (comes s hs e k [])) (ended.unmarked s hs e k)))
move_lowers judges before after s e given falls hs n a failed_ cs es (finish_last k _ _ yes_ c d) tied = by_case judges
    before after s e given falls hs n a cs _ c (λ ht m b. finishes before after s e given falls hs k _ ht n m a b
    (subst (FinishEnd s e k) (sym (comes s hs e k (mark_complete k.fresh.stack))) (ended.marked s hs e k yes_)))
move_lowers judges before after s e given falls hs n a failed_ cs es (takeover_overrun f j _ _ t k c d) tied =
    by_case judges before after s e given falls hs n a cs _ c
    (relieved judges before after s e given falls hs n a f j k.row k.letters t.jobless t.left.its t.left.stopped k.found
    (λ x is. sends_of s x j.letter.stack j.row k.letters k.resends is))
move_lowers judges before after s e given falls hs n a failed_ cs es (takeover_fresh f k _ _ c d) tied =
    by_case judges before after s e given falls hs n a cs _ c
    (relieved judges before after s e given falls hs n a f k.job k.fresh.row
    (relayed_letter s e f k ∷ []) k.next.jobless k.next.left.its k.next.left.stopped k.fresh.found
    (λ x is. sends_one (relayed_letter s e f k)
    (stack-key s.stacks k.job.letter.stack k.fresh.stack k.fresh.names.in_table) is))
