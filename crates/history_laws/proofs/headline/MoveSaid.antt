-- What the entries of each move say.
use Rattle.std.proofs.Common.{List, ap, append-nil, append_assoc, refl, subst, sym, ◌∙◌}
use Rattle.std.specs.Prelude.{List, None, Option, Some, [], map, ℕ, ◌++◌, ◌∷◌, ◌≡◌, ◌≢◌}
use Rattle.heat_value.specs.declared.path.Step.{Step}
use Rattle.heat_plan.specs.declared.calls.Answered.{Answered}
use Rattle.heat_plan.specs.declared.calls.Request.{Request}
use Rattle.heat_plan.specs.declared.phase.Status.TheVariants.{InProgress}
use Rattle.heat_plan.specs.declared.token.Token.{Token}
use Rattle.traversal_graph.specs.declared.shape.Node.TheVariants.{C}
use Rattle.row_table.specs.declared.row.Row.{Row}
use Rattle.mail_table.specs.declared.mail.Letter.{Letter}
use Rattle.mail_table.specs.declared.mail.Stage.TheVariants.{Asking, Ending, Polling}
use Rattle.step_relation.specs.State.{StateData, stack_at}
use Rattle.step_relation.specs.declared.Change.{Change}
use Rattle.step_relation.specs.declared.Actor.{Actor}
use Rattle.step_relation.specs.declared.Actor.TheVariants.{Engine}
use Rattle.step_relation.specs.declared.Cause.{Cause}
use Rattle.step_relation.specs.declared.Entry.{Entry}
use Rattle.step_relation.specs.declared.MailWrite.{MailWrite}
use Rattle.step_relation.specs.declared.MailWrite.TheVariants.{Dropped, Ended, Held, Sent}
use Rattle.step_relation.specs.declared.RowWrite.{RowWrite}
use Rattle.step_relation.specs.declared.RowWrite.TheVariants.{Purge, Set}
use Rattle.step_relation.specs.declared.Why.{Why}
use Rattle.step_relation.specs.declared.Stack.{Stack}
use Rattle.step_relation.specs.Asks.{Falls, Refuses, cause_at, failed_entries, fault_of, marked, marks, overrun}
use Rattle.step_relation.specs.Begins.{Begins, left_entries, moved_job, next_row}
use Rattle.step_relation.specs.Finishes.{ready_letters}
use Rattle.step_relation.specs.Given.{Answer, Faulted, Given}
use Rattle.step_relation.specs.Moves.{Move, ask_begun, ask_failed, begin_failed, begin_faulted, begin_in_place}
use Rattle.step_relation.specs.Moves.{begin_init, begin_overrun, begin_replaced, begin_resumed, begin_same}
use Rattle.step_relation.specs.Moves.{clean_deleted, clean_gone, clean_init, clean_kept, clean_retained, clean_stuck}
use Rattle.step_relation.specs.Moves.{finish, finish_last, finish_overrun, poll_failed, poll_gone, poll_ready}
use Rattle.step_relation.specs.Moves.{poll_waits, take_dropped, take_free, take_stolen, takeover_fresh}
use Rattle.step_relation.specs.Moves.{takeover_overrun}
use Rattle.step_relation.specs.Rows.{created_row, deleted_row, failed_row, ready_row, replaced, same_row, unlocked}
use Rattle.step_relation.specs.Rows.{updated_row}
use Rattle.step_relation.specs.Runs.{IsTied, Judges, fault}
use Rattle.step_relation.specs.Takes.{relayed_letter, taken_job}
use Rattle.step_relation.specs.Writes.{call_entry, complete_mark, entry_of, failed_mark, lock_writes, mail_entry}
use Rattle.step_relation.specs.Writes.{rows_entry, unlock_writes, with_stage}
use Rattle.step_relation.specs.Caused.{IsCaused}
use Rattle.step_relation.specs.Could.{IsPossible}
use Rattle.step_relation.specs.Marked.{Completed, mark_of}
use Rattle.step_relation.specs.Opening.{Opening}
use Rattle.step_relation.specs.Headline.{AtPrefix, FitsIn}
use Rattle.step_relation.specs.Linked.{by_job, by_row}
use Rattle.step_relation.specs.MailFits.{asks, polls}
use Rattle.step_relation.specs.Sound.{Sound}
use Rattle.history_laws.proofs.tables.Rows.{stack-key}
use Rattle.history_laws.proofs.tells.Silence.{AreUnmarking, unmarking-both, unmarking_mail, unmarking_rows}
use Rattle.history_laws.proofs.agrees.Asked.{asks_gone, asks_poll, calls_for}
use Rattle.history_laws.proofs.agrees.CallTold.{CallsFor}
use Rattle.history_laws.proofs.agrees.Suits.{at_asking, at_polling}
use Rattle.history_laws.proofs.headline.CallSaid.{call_fits, caused_by_call}
use Rattle.history_laws.proofs.headline.MarkSaid.{completed_fits, failed_fits, not_completed}
use Rattle.history_laws.proofs.headline.Once.{possible_before}
use Rattle.history_laws.proofs.headline.Parts.{at_mark, said_call, said_mark, said_written}
use Rattle.history_laws.proofs.headline.PlanSaid.{caused_by_plan}
use Rattle.history_laws.proofs.headline.ReleaseSaid.{open_job, retained_said}
use Rattle.history_laws.proofs.headline.Said.{AllSaid, at_sound, said_both}
use Rattle.history_laws.proofs.headline.Steps.{KeepsSound}
use Rattle.heat_plan.specs.declared.calls.Answered.TheVariants as answer
use Rattle.heat_plan.specs.declared.calls.Request.TheVariants as request
use Rattle.step_relation.specs.declared.What.TheVariants as what

module _ (keeps : KeepsSound) (judges : Judges) (o : Opening) (h : List Entry) (s : StateData) (x : Sound o h s) where
  -- before and behind a step
  abbrev Ends : List Entry → Type 0
  Ends es = AtPrefix o h × AtPrefix o (h ++ es)

  -- rows and mail alone
  written : (actor : Actor) (rs : List RowWrite) (ws : List MailWrite)
      → Ends (rows_entry actor rs ++ mail_entry actor ws)
      → AllSaid o h [] (rows_entry actor rs ++ mail_entry actor ws)
  written actor rs ws k = said_written o h [] actor rs ws (subst (AtPrefix o) (sym (append-nil h)) k.0) k.1

  -- a call, and then rows and mail
  called_written : (e : ℕ) (r : Row) (asked : Request) (given : Answered) (rs : List RowWrite) (ws : List MailWrite)
      → FitsIn o h (call_entry e r asked given)
      → AtPrefix o (h ++ call_entry e r asked given ∷ []) → Ends
      (call_entry e r asked given ∷ (rows_entry (Engine e) rs ++ mail_entry (Engine e) ws))
      → AllSaid o h [] (call_entry e r asked given ∷ (rows_entry (Engine e) rs ++ mail_entry (Engine e) ws))
  called_written e r asked given rs ws fits_ mid k =
      said_both o h [] (call_entry e r asked given ∷ []) (rows_entry (Engine e) rs ++ mail_entry (Engine e) ws)
      (said_call o h e r asked given k.0 fits_ mid)
      (said_written o h (call_entry e r asked given ∷ []) (Engine e) rs ws mid k.1)

  -- and a mark behind them
  marked_last : (first : List Entry) (actor : Actor) (st : Stack) (cause : Option Cause) → AllSaid o h [] first
      → FitsIn o (h ++ first) (entry_of actor (what.Mark st.name st.trav st.act cause))
      → mark_of o (h ++ first) st.name ≢ Some Completed
      → AtPrefix o (h ++ (first ++ entry_of actor (what.Mark st.name st.trav st.act cause) ∷ []))
      → AllSaid o h [] (first ++ entry_of actor (what.Mark st.name st.trav st.act cause) ∷ [])
  marked_last first actor st cause k fits_ open_ l =
      said_both o h [] first (entry_of actor (what.Mark st.name st.trav st.act cause) ∷ []) k
      (said_mark o h first actor st.name st.trav st.act cause fits_ open_ l)

  before_mark : (first : List Entry) (actor : Actor) (st : Stack) (cause : Option Cause)
      → mark_of o (h ++ first) st.name ≢ Some Completed
      → AtPrefix o (h ++ (first ++ entry_of actor (what.Mark st.name st.trav st.act cause) ∷ []))
      → AtPrefix o (h ++ first)
  before_mark first actor st cause open_ l =
      at_mark o (h ++ first) actor st.name st.trav st.act cause open_
      (subst (AtPrefix o) (sym
      (append_assoc h first (entry_of actor (what.Mark st.name st.trav st.act cause) ∷ []))) l)

  module _ (e : ℕ) where
    taken_said : (row : Option Row) (ws : List MailWrite) → Ends
        (rows_entry (Engine e) (lock_writes row e) ++ mail_entry (Engine e) ws)
        → AllSaid o h [] (rows_entry (Engine e) (lock_writes row e) ++ mail_entry (Engine e) ws)
    taken_said row ws k = written (Engine e) (lock_writes row e) ws k

    failed_said : (first : List Entry) (st : Stack) (cause : Cause) → stack_at s.stacks st.name ≡ Some st
        → st.status ≡ InProgress → AreUnmarking first
        → IsCaused o (h ++ first) (Engine e) st.name cause → AtPrefix o
        (h ++ (first ++ failed_mark (Engine e) (Some st) cause))
        → (AtPrefix o (h ++ first) → AllSaid o h [] first)
        → AllSaid o h [] (first ++ failed_mark (Engine e) (Some st) cause)
    failed_said first st cause found progress silent caused l k =
        let open_ = not_completed o h s x st found progress first silent in
        marked_last first (Engine e) st (Some cause) (k (before_mark first (Engine e) st (Some cause) open_ l))
        (failed_fits o h s x st found progress first (Engine e) cause silent caused) open_ l

    completed_said : (first : List Entry) (st : Stack) → stack_at s.stacks st.name ≡ Some st → st.status ≡ InProgress
        → AreUnmarking first
        → AtPrefix o (h ++ (first ++ complete_mark (Engine e) st ∷ []))
        → (AtPrefix o (h ++ first) → AllSaid o h [] first)
        → AllSaid o h [] (first ++ complete_mark (Engine e) st ∷ [])
    completed_said first st found progress silent l k =
        let open_ = not_completed o h s x st found progress first silent in
        marked_last first (Engine e) st None (k (before_mark first (Engine e) st None open_ l))
        (completed_fits o h s x st found progress first (Engine e) silent
        (subst (AtPrefix o) (sym (append_assoc h first (complete_mark (Engine e) st ∷ []))) l)) open_ l

    -- the failure of a call
    call_failed : (possible : IsPossible o h) (r : Row) (asked : Request) (given : Answered)
        (c : CallsFor s e r asked) (letters : List Letter) (failed_ : Option Stack)
        (reason : Why) → Refuses r.act asked given reason → Falls s c.job letters failed_
        → AtPrefix o (h ++ call_entry e r asked given ∷ [])
        → Ends (call_entry e r asked given ∷ failed_entries e r letters failed_ reason)
        → AllSaid o h [] (call_entry e r asked given ∷ failed_entries e r letters failed_ reason)
    call_failed possible r asked given c letters _ reason refuses (overrun _ over resends) mid k =
        called_written e r asked given (Set (failed_row r) ∷ []) (Ended e ∷ map Sent letters)
        (call_fits o h s x possible e r asked given c) mid k
    call_failed possible r asked given c _ _ reason refuses (marked fresh_ ne) mid k =
        called_written e r asked given (Set (failed_row r) ∷ []) (Ended e ∷ [])
        (call_fits o h s x possible e r asked given c) mid k
    call_failed possible r asked given c _ _ reason refuses (marks fresh_ progress) mid k =
        let first = call_entry e r asked given ∷ (rows_entry (Engine e) (Set (failed_row r) ∷ []) ++ mail_entry
        (Engine e) (Ended e ∷ [])) in
        let key = stack-key s.stacks c.job.letter.stack fresh_.stack fresh_.names.in_table in
        failed_said first fresh_.stack (cause_at r reason)
        (subst (λ (n : List ℕ). stack_at s.stacks n ≡ Some fresh_.stack) (sym key) fresh_.names.in_table) progress
        (tt, (tt, (tt, tt)))
        (caused_by_call o h s x e r asked given c fresh_.stack fresh_.names.in_table reason refuses) k.1
        (λ l. called_written e r asked given (Set (failed_row r) ∷ []) (Ended e ∷ [])
        (call_fits o h s x possible e r asked given c) mid (k.0, l))

    -- the fault of a plan
    plan_failed : (possible : IsPossible o h) (k : Begins s e) (code : List ℕ) (path : List Step)
        (failed_ : Option Stack) → Falls s k.job [] failed_
        → IsTied judges s e (Faulted code path)
        → Ends (left_entries e k.row ++ failed_mark (Engine e) failed_ (fault_of k.item.name k.row.no code path))
        → AllSaid o h [] (left_entries e k.row ++ failed_mark (Engine e) failed_
        (fault_of k.item.name k.row.no code path))
    plan_failed possible k code path _ (overrun _ over resends) tied ends_ =
        written (Engine e) (Set (unlocked k.row) ∷ []) (Ended e ∷ []) ends_
    plan_failed possible k code path _ (marked fresh_ ne) tied ends_ =
        written (Engine e) (Set (unlocked k.row) ∷ []) (Ended e ∷ []) ends_
    plan_failed possible k code path _ (marks fresh_ progress) (fault b _ _ resolves) ends_ =
        let key = stack-key s.stacks k.job.letter.stack fresh_.stack fresh_.names.in_table in
        failed_said (left_entries e k.row) fresh_.stack (fault_of k.item.name k.row.no code path)
        (subst (λ (n : List ℕ). stack_at s.stacks n ≡ Some fresh_.stack) (sym key) fresh_.names.in_table) progress
        (tt, (tt, tt))
        (caused_by_plan o h s x possible e k b code path resolves fresh_.stack fresh_.names.in_table) ends_.1
        (λ l. written (Engine e) (Set (unlocked k.row) ∷ []) (Ended e ∷ []) (ends_.0, l))

-- the entries of each move, where it leaves a sound state
module _ (keeps : KeepsSound) (judges : Judges) (o : Opening) (h : List Entry) (s : StateData) (x : Sound o h s)
    (e : ℕ) where
  by_entries : (es told_ : List Entry) → es ≡ told_ → (AtPrefix o (h ++ told_) → AllSaid o h [] told_)
      → AtPrefix o (h ++ es) → AllSaid o h [] es
  by_entries es told_ is k l = subst (λ (y : List Entry). AllSaid o h [] y) (sym is)
      (k (subst (λ (y : List Entry). AtPrefix o (h ++ y)) is l))

  call_at : (possible : IsPossible o h) (given : Answered) (failed_ : Option Stack) (cs : List Change)
      (es : List Entry) (call : Entry) (rest : List Entry)
      → Move s e (Answer given) failed_ cs es → es ≡ call ∷ rest
      → ((token : Token) × (request : Request) × (a : Answered) × (call.what ≡ what.Call token request a))
      → IsPossible o (h ++ es) → AtPrefix o (h ++ call ∷ [])
  call_at possible given failed_ cs es call rest move is is_call later =
      let possible_call : IsPossible o (h ++ call ∷ []) = possible_before o (h ++ call ∷ []) rest
      (subst (IsPossible o) (ap (λ (y : List Entry). h ++ y) is ∙ sym (append_assoc h (call ∷ []) rest)) later)
      in
      at_sound o (h ++ call ∷ []) s (keeps.unstored o h s e given failed_ cs es call x move
      (record { rest = rest; entries = is; is_call = is_call }) possible_call) possible_call

  pub move_said : (given : Given) (failed_ : Option Stack) (cs : List Change) (es : List Entry)
      → Move s e given failed_ cs es → IsTied judges s e given
      → IsPossible o (h ++ es) → AtPrefix o (h ++ es) → AllSaid o h [] es
  move_said given failed_ cs es move tied later at_end_ = by given failed_ cs es move tied later at_end_ where
    possible : IsPossible o h
    possible = possible_before o h es later

    now : AtPrefix o h
    now = at_sound o h s x possible

    plain_said : (fs : List Entry) (rs : List RowWrite) (ws : List MailWrite)
        → fs ≡ rows_entry (Engine e) rs ++ mail_entry (Engine e) ws
        → AtPrefix o (h ++ fs) → AllSaid o h [] fs
    plain_said fs rs ws is l = by_entries fs (rows_entry (Engine e) rs ++ mail_entry (Engine e) ws) is
        (λ k. written keeps judges o h s x (Engine e) rs ws (now, k)) l

    by : (a : Given) (f : Option Stack) (bs : List Change) (fs : List Entry) → Move s e a f bs fs
        → IsTied judges s e a → IsPossible o (h ++ fs) → AtPrefix o (h ++ fs) → AllSaid o h [] fs
    by _ _ _ fs (take_dropped l bs _ next idle c d) tied p k = plain_said fs [] (Dropped l.no ∷ []) d k
    by _ _ _ fs (take_free w bs _ free c d) tied p k = plain_said fs (lock_writes w.meant.fresh.row e)
        (Dropped w.letter.no ∷ Held (taken_job s e w) ∷ []) d k
    by _ _ _ fs (take_stolen w f j bs _ held stopped c d) tied p k =
        plain_said fs (lock_writes w.meant.fresh.row e) (Dropped w.letter.no ∷ Ended f ∷ Held (taken_job s e w) ∷ [])
        d k
    by _ _ _ fs (begin_overrun j bs _ own w c d) tied p k = plain_said fs (unlock_writes w.row)
        (Ended e ∷ map Sent w.letters) d k
    by _ _ _ fs (begin_faulted w code path f bs _ falls c d) tied p k =
        by_entries fs _ d (λ l. plan_failed keeps judges o h s x e possible w code path f falls tied (now, l)) k
    by _ _ _ fs (begin_init w props effect bs _ init c d) tied p k =
        plain_said fs (Set (created_row w.row w.item w.stack.trav props w.required) ∷ [])
        (Held (with_stage Asking w.job) ∷ []) d k
    by _ _ _ fs (begin_same w props effect bs _ begun_ status same c d) tied p k =
        plain_said fs (Set (same_row w.row w.item w.stack.trav w.required) ∷ [])
        (Held (with_stage Ending w.job) ∷ []) d k
    by _ _ _ fs (begin_in_place w props effect bs _ begun_ status soft c d) tied p k =
        plain_said fs (Set (updated_row w.row w.item w.stack.trav props w.required) ∷ [])
        (Held (with_stage Asking w.job) ∷ []) d k
    by _ _ _ fs (begin_resumed w props effect bs _ begun_ status trav c d) tied p k =
        plain_said fs [] (Held (with_stage Asking w.job) ∷ []) d k
    by _ _ _ fs (begin_failed w props effect bs _ begun_ status trav c d) tied p k =
        plain_said fs (Set (unlocked w.row) ∷ []) (Ended e ∷ []) d k
    by _ _ _ fs (begin_replaced w props effect bs _ begun_ must c d) tied p k =
        plain_said fs (Set (next_row s e w props) ∷ Set (replaced s.next.row w.row) ∷ [])
        (Held (moved_job s w.job) ∷ []) d k
    by _ _ _ fs (clean_gone w bs _ none c d) tied p k = plain_said fs [] (Held (with_stage Ending w.job) ∷ []) d k
    by _ _ _ fs (clean_kept w r bs _ found keeps_ c d) tied p k =
        plain_said fs [] (Held (with_stage Ending w.job) ∷ []) d k
    by _ _ _ fs (clean_init w r bs _ found keeps_ init c d) tied p k =
        plain_said fs (Purge r.no ∷ []) (Held (with_stage Ending w.job) ∷ []) d k
    by _ _ _ fs (clean_stuck w r bs _ found keeps_ stuck c d) tied p k =
        plain_said fs (Set (unlocked r) ∷ []) (Ended e ∷ []) d k
    by _ _ _ fs (clean_retained w r bs _ found keeps_ begun_ stuck policy c d) tied p k =
        let own : r.stack ≡ w.job.letter.stack = x.standing.links.owned.one w.job.row r.stack w.job.letter.stack
        (by_row r found refl) (by_job e w.job w.works.its refl refl) in
        by_entries fs _ d (λ l. retained_said o h s x possible e w.job r found
        (λ m. open_job o h s x e w.job w.stack w.graph (C w.number) w.works.its w.names
        (subst (λ (n : List ℕ). mark_of o h n ≡ Some Completed) own m)) policy now l) k
    by _ _ _ fs (clean_deleted w r bs _ found keeps_ begun_ stuck policy c d) tied p k =
        plain_said fs (Set (deleted_row r w.stack.trav) ∷ []) (Held (with_stage Asking w.job) ∷ []) d k
    by _ _ _ fs (ask_begun w asked bs _ asks_ c d) tied p k =
        by_entries fs _ d (λ l. called_written keeps judges o h s x e w.row asked answer.Begun []
        (Held (with_stage Polling w.job) ∷ [])
        (call_fits o h s x possible e w.row asked answer.Begun
        (calls_for s e Asking w asked asks (at_asking refl asks_)))
        (call_at possible answer.Begun None bs fs _ _ (ask_begun w asked bs fs asks_ c d) d (_, _, _, refl) p)
        (now, l)) k
    by _ _ _ fs (ask_failed w asked given_ reason letters f bs _ asks_ refuses falls c d) tied p k =
        by_entries fs _ d (λ l. call_failed keeps judges o h s x e possible w.row asked given_
        (calls_for s e Asking w asked asks (at_asking refl asks_)) letters f reason refuses falls
        (call_at possible given_ f bs fs _ _
        (ask_failed w asked given_ reason letters f bs fs asks_ refuses falls c d) d (_, _, _, refl) p)
        (now, l)) k
    by _ _ _ fs (poll_waits w asked bs _ polls_ c d) tied p k =
        by_entries fs _ d (λ l. said_call o h e w.row asked answer.NotYet now
        (call_fits o h s x possible e w.row asked answer.NotYet
        (calls_for s e Polling w asked polls (at_polling refl polls_))) l) k
    by _ _ _ fs (poll_ready w facts bs _ ne c d) tied p k =
        by_entries fs _ d (λ l. called_written keeps judges o h s x e w.row request.Poll (answer.Ready facts)
        (Set (ready_row w.row facts) ∷ []) (Held (with_stage Ending w.job) ∷ [])
        (call_fits o h s x possible e w.row request.Poll (answer.Ready facts)
        (calls_for s e Polling w request.Poll polls (at_polling refl (asks_poll w.row ne))))
        (call_at possible (answer.Ready facts) None bs fs _ _ (poll_ready w facts bs fs ne c d) d (_, _, _, refl) p)
        (now, l)) k
    by _ _ _ fs (poll_gone w bs _ act c d) tied p k =
        by_entries fs _ d (λ l. called_written keeps judges o h s x e w.row request.Gone answer.Gone
        (Purge w.row.no ∷ []) (Held (with_stage Ending w.job) ∷ [])
        (call_fits o h s x possible e w.row request.Gone answer.Gone
        (calls_for s e Polling w request.Gone polls (at_polling refl (asks_gone w.row act))))
        (call_at possible answer.Gone None bs fs _ _ (poll_gone w bs fs act c d) d (_, _, _, refl) p) (now, l)) k
    by _ _ _ fs (poll_failed w asked given_ reason letters f bs _ polls_ refuses falls c d) tied p k =
        by_entries fs _ d (λ l. call_failed keeps judges o h s x e possible w.row asked given_
        (calls_for s e Polling w asked polls (at_polling refl polls_)) letters f reason refuses falls
        (call_at possible given_ f bs fs _ _
        (poll_failed w asked given_ reason letters f bs fs polls_ refuses falls c d) d (_, _, _, refl) p)
        (now, l)) k
    by _ _ _ fs (finish_overrun j bs _ own w c d) tied p k =
        plain_said fs (unlock_writes w.row) (Ended e ∷ map Sent w.letters) d k
    by _ _ _ fs (finish w bs _ open_ c d) tied p k = plain_said fs (unlock_writes w.fresh.row)
        (Ended e ∷ map Sent (ready_letters s e w)) d k
    by _ _ _ fs (finish_last w bs _ settles c d) tied p k =
        let rs = unlock_writes w.fresh.row in
        let ws = Ended e ∷ map Sent (ready_letters s e w) in
        let key = stack-key s.stacks w.job.letter.stack w.fresh.stack w.fresh.names.in_table in
        by_entries fs _ (d ∙ sym (append_assoc (rows_entry (Engine e) rs) (mail_entry (Engine e) ws)
        (complete_mark (Engine e) w.fresh.stack ∷ [])))
        (λ l. completed_said keeps judges o h s x e (rows_entry (Engine e) rs ++ mail_entry (Engine e) ws)
        w.fresh.stack
        (subst (λ (n : List ℕ). stack_at s.stacks n ≡ Some w.fresh.stack) (sym key) w.fresh.names.in_table)
        settles.unmarked
        (unmarking-both (rows_entry (Engine e) rs) (mail_entry (Engine e) ws) (unmarking_rows (Engine e) rs)
        (unmarking_mail (Engine e) ws)) l
        (λ m. written keeps judges o h s x (Engine e) rs ws (now, m))) k
    by _ _ _ fs (takeover_overrun f j bs _ over w c d) tied p k =
        plain_said fs (unlock_writes w.row) (Ended f ∷ map Sent w.letters) d k
    by _ _ _ fs (takeover_fresh f w bs _ c d) tied p k = plain_said fs (unlock_writes w.fresh.row)
        (Ended f ∷ map Sent (relayed_letter s e f w ∷ [])) d k
