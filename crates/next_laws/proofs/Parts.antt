-- The moves by what is next for the engine: each is of one part, and a part has one outcome.
use Rattle.std.proofs.Common.{◌≡◌, ◌≢◌, ℕ, List, [], ◌∷◌, ◌++◌, Option, None, Some, refl, sym, ap, ◌∙◌}
use Rattle.std.specs.Prelude.{Contains}
use Rattle.heat_value.specs.Data.{Members}
use Rattle.heat_value.specs.declared.path.Step.{Step}
use Rattle.heat_plan.specs.declared.calls.Answered.{Answered}
use Rattle.heat_plan.specs.declared.calls.Request.{Request}
use Rattle.heat_plan.specs.declared.facts.Facts.{Facts}
use Rattle.heat_plan.specs.declared.phase.Act.TheVariants.{Delete}
use Rattle.row_table.specs.Rows.{row_at}
use Rattle.row_table.specs.declared.row.Row.{Row}
use Rattle.mail_table.specs.Mails.{job_at, letter_at}
use Rattle.mail_table.specs.declared.mail.Job.{Job}
use Rattle.mail_table.specs.declared.mail.Letter.{Letter}
use Rattle.mail_table.specs.declared.mail.Stage.{Stage}
use Rattle.mail_table.specs.declared.mail.Stage.TheVariants.{Asking, Ending, Polling, Taken}
use Rattle.core_state.specs.State.{StateData}
use Rattle.core_state.specs.declared.change.Change.{Change}
use Rattle.core_state.specs.declared.change.Change.TheVariants.{Drop, EndJob, PutJob}
use Rattle.core_state.specs.declared.entry.Actor.TheVariants.{Engine}
use Rattle.core_state.specs.declared.entry.Entry.{Entry}
use Rattle.core_state.specs.declared.entry.MailWrite.TheVariants.{Dropped, Ended, Held}
use Rattle.core_state.specs.declared.entry.Why.{Why}
use Rattle.core_state.specs.declared.stack.Stack.{Stack}
use Rattle.type_catalog.specs.declared.effect.Effect.{Effect}
use Rattle.history_laws.specs.Asks.{Asks, Calls, Falls, Polls, Refuses, failed_changes, failed_entries, fault_of}
use Rattle.history_laws.specs.Begins.{Begins, begun_changes, begun_entries, left_changes, left_entries, onward_changes}
use Rattle.history_laws.specs.Begins.{onward_entries, replaced_changes, replaced_entries}
use Rattle.history_laws.specs.Cleanups.{Cleans, purged_changes, purged_entries, retained_changes, retained_entries}
use Rattle.history_laws.specs.Finishes.{Finishes, Settles, finished_changes, finished_entries}
use Rattle.history_laws.specs.Given.{Answer, Faulted, Given, Nothing, Prepared}
use Rattle.history_laws.specs.Moves.{Move, ask_begun, ask_failed, begin_failed, begin_faulted, begin_in_place}
use Rattle.history_laws.specs.Moves.{begin_init, begin_overrun, begin_replaced, begin_resumed, begin_same}
use Rattle.history_laws.specs.Moves.{clean_deleted, clean_gone, clean_init, clean_kept, clean_retained, clean_stuck}
use Rattle.history_laws.specs.Moves.{finish, finish_last, finish_overrun, poll_failed, poll_gone, poll_ready}
use Rattle.history_laws.specs.Moves.{poll_waits, take_dropped, take_free, take_stolen, takeover_fresh}
use Rattle.history_laws.specs.Moves.{takeover_overrun}
use Rattle.history_laws.specs.Nexts.{TakesNext, TakesOver, Works}
use Rattle.history_laws.specs.Rows.{created_row, deleted_row, ready_row, same_row, updated_row}
use Rattle.history_laws.specs.Takes.{HasNoHolder, IsHolder, IsIdleLetter, Relays, Releases, Takes, relayed_letter}
use Rattle.history_laws.specs.Takes.{released_changes, released_entries, taken_job}
use Rattle.history_laws.specs.Writes.{call_entry, complete_mark, failed_mark, lock, lock_writes, mail_entry}
use Rattle.history_laws.specs.Writes.{mark_complete, mark_failed, rows_entry}
use Rattle.next_laws.proofs.Verdicts.{Clears, Created, Decides, Deleted, Fate, Kept, Left, Lot, Passed, Purged}
use Rattle.next_laws.proofs.Verdicts.{Replaced, Resumed, Retained, Stuck, Updated, creates, deletes, gone, keeps, kept}
use Rattle.next_laws.proofs.Verdicts.{leaves, purges, replaces, resumes, retains, sticks, updates}
use Rattle.heat_plan.specs.declared.calls.Answered.TheVariants as answer
use Rattle.heat_plan.specs.declared.calls.Request.TheVariants as request

-- what is next for an engine
pub data Kind : Type 0 where
  ByLetter : Kind
  AtJob : Stage → Kind
  ByLeft : Kind

pub data IsNext (s : StateData) (e : ℕ) : Kind → Type 0 where
  by_letter : (l : Letter) → TakesNext s e l → IsNext s e ByLetter
  at_job : (j : Job) (stage : Stage) → Works s e j stage → IsNext s e (AtJob stage)
  by_left : (f : ℕ) (j : Job) → TakesOver s e f j → IsNext s e ByLeft

module _ (s : StateData) (e : ℕ) where
  no_job : (j : Job) → job_at s.jobs e ≡ None → job_at s.jobs e ≡ Some j → ⊥
  no_job j n at = cc

  no_letter : (l : Letter) → letter_at s.letters l.no ≡ None → letter_at s.letters l.no ≡ Some l → ⊥
  no_letter l n at = cc

  stage_one : (j i : Job) (a b : Stage) → Works s e j a → Works s e i b → a ≡ b
  stage_one j i a b w v =
      let at = w.its in let at' = v.its in let is = w.stage_is in let is' = v.stage_is in let same : j ≡ i = cc in
      sym is ∙ (ap (λ (x : Job). x.stage) same ∙ is')

  pub kind_one : (a b : Kind) → IsNext s e a → IsNext s e b → a ≡ b
  kind_one a b (by_letter l t) (by_letter m u) = refl
  kind_one a b (by_letter l t) (at_job j stage w) = absurd (no_job j t.jobless w.its)
  kind_one a b (by_letter l t) (by_left f j u) = absurd (no_letter l (u.silent l.no) t.first.waits)
  kind_one a b (at_job j stage w) (by_letter l t) = absurd (no_job j t.jobless w.its)
  kind_one a b (at_job j stage w) (at_job i other v) = ap AtJob (stage_one j i stage other w v)
  kind_one a b (at_job j stage w) (by_left f i t) = absurd (no_job j t.jobless w.its)
  kind_one a b (by_left f j t) (by_letter l u) = absurd (no_letter l (t.silent l.no) u.first.waits)
  kind_one a b (by_left f j t) (at_job i stage w) = absurd (no_job i t.jobless w.its)
  kind_one a b (by_left f j t) (by_left g i u) = refl

-- what a begin changes and tells, by the row's fate
abbrev pub fate_changes : (s : StateData) (e : ℕ) → Begins s e → Members → Fate → List Change
fate_changes s e k props Created = begun_changes k.job Asking (created_row k.row k.item k.stack.trav props k.required)
fate_changes s e k props Kept = begun_changes k.job Ending (same_row k.row k.item k.stack.trav k.required)
fate_changes s e k props Updated = begun_changes k.job Asking (updated_row k.row k.item k.stack.trav props k.required)
fate_changes s e k props Resumed = onward_changes k.job Asking
fate_changes s e k props Left = left_changes e k.row
fate_changes s e k props Replaced = replaced_changes s e k props

abbrev pub fate_entries : (s : StateData) (e : ℕ) → Begins s e → Members → Fate → List Entry
fate_entries s e k props Created = begun_entries e k.job Asking (created_row k.row k.item k.stack.trav props k.required)
fate_entries s e k props Kept = begun_entries e k.job Ending (same_row k.row k.item k.stack.trav k.required)
fate_entries s e k props Updated = begun_entries e k.job Asking (updated_row k.row k.item k.stack.trav props k.required)
fate_entries s e k props Resumed = onward_entries e k.job Asking
fate_entries s e k props Left = left_entries e k.row
fate_entries s e k props Replaced = replaced_entries s e k props

abbrev pub lot_changes : ℕ → Job → ℕ → Lot → List Change
lot_changes e j trav Passed = onward_changes j Ending
lot_changes e j trav (Purged r) = purged_changes j r
lot_changes e j trav (Stuck r) = left_changes e r
lot_changes e j trav (Retained r) = retained_changes j r
lot_changes e j trav (Deleted r) = begun_changes j Asking (deleted_row r trav)

abbrev pub lot_entries : ℕ → Job → ℕ → Lot → List Entry
lot_entries e j trav Passed = onward_entries e j Ending
lot_entries e j trav (Purged r) = purged_entries e j r
lot_entries e j trav (Stuck r) = left_entries e r
lot_entries e j trav (Retained r) = retained_entries e j r
lot_entries e j trav (Deleted r) = begun_entries e j Asking (deleted_row r trav)

-- what a call asks at its stage
pub data IsAsked (r : Row) : Stage → Request → Type 0 where
  at_ask : (asked : Request) → Asks r asked → IsAsked r Asking asked
  at_poll : (asked : Request) → Polls r asked → IsAsked r Polling asked

-- a move by what is next
pub data Part (s : StateData) (e : ℕ) : Kind → Given → Option Stack → List Change → List Entry → Type 0 where
  drops : (l : Letter) (cs : List Change) (es : List Entry) → TakesNext s e l → IsIdleLetter s l
      → cs ≡ Drop l.no ∷ []
      → es ≡ mail_entry (Engine e) (Dropped l.no ∷ [])
      → Part s e ByLetter Nothing None cs es
  takes : (k : Takes s e) (cs : List Change) (es : List Entry) → HasNoHolder s.jobs k.meant.target
      → cs ≡ lock k.meant.fresh.row e (Drop k.letter.no ∷ PutJob (taken_job s e k) ∷ [])
      → es ≡ rows_entry (Engine e) (lock_writes k.meant.fresh.row e)
      ++ mail_entry (Engine e) (Dropped k.letter.no ∷ Held (taken_job s e k) ∷ [])
      → Part s e ByLetter Nothing None cs es
  steals : (k : Takes s e) (f : ℕ) (j : Job) (cs : List Change) (es : List Entry)
      → IsHolder s.jobs k.meant.target f j → ¬ Contains s.live f
      → cs ≡ lock k.meant.fresh.row e (Drop k.letter.no ∷ EndJob f ∷ PutJob (taken_job s e k) ∷ [])
      → es ≡ rows_entry (Engine e) (lock_writes k.meant.fresh.row e)
      ++ mail_entry (Engine e) (Dropped k.letter.no ∷ Ended f ∷ Held (taken_job s e k) ∷ [])
      → Part s e ByLetter Nothing None cs es
  overruns : (j : Job) (stage : Stage) (cs : List Change) (es : List Entry) → Works s e j stage → (k : Releases s e j)
      → cs ≡ released_changes s e k.row k.letters
      → es ≡ released_entries e e k.row k.letters
      → Part s e (AtJob stage) Nothing None cs es
  faults : (k : Begins s e) (code : List ℕ) (path : List Step) (failed : Option Stack) (cs : List Change)
      (es : List Entry)
      → Falls s k.job [] failed
      → cs ≡ left_changes e k.row ++ mark_failed failed
      → es ≡ left_entries e k.row ++ failed_mark (Engine e) failed (fault_of k.item.name k.row.no code path)
      → Part s e (AtJob Taken) (Faulted code path) failed cs es
  prepares : (k : Begins s e) (props : Members) (effect : Effect) (fate : Fate) (cs : List Change) (es : List Entry)
      → Decides k.row k.item k.stack.trav props effect fate
      → cs ≡ fate_changes s e k props fate
      → es ≡ fate_entries s e k props fate
      → Part s e (AtJob Taken) (Prepared props effect) None cs es
  clears : (k : Cleans s e) (row : Option Row) (lot : Lot) (cs : List Change) (es : List Entry)
      → row_at s.rows k.job.row ≡ row
      → Clears s k.stack row lot
      → cs ≡ lot_changes e k.job k.stack.trav lot
      → es ≡ lot_entries e k.job k.stack.trav lot
      → Part s e (AtJob Taken) Nothing None cs es
  begins : (k : Calls s e Asking) (asked : Request) (cs : List Change) (es : List Entry) → Asks k.row asked
      → cs ≡ onward_changes k.job Polling
      → es ≡ call_entry e k.row asked answer.Begun ∷ onward_entries e k.job Polling
      → Part s e (AtJob Asking) (Answer answer.Begun) None cs es
  waits : (k : Calls s e Polling) (asked : Request) (cs : List Change) (es : List Entry) → Polls k.row asked
      → cs ≡ []
      → es ≡ call_entry e k.row asked answer.NotYet ∷ []
      → Part s e (AtJob Polling) (Answer answer.NotYet) None cs es
  readies : (k : Calls s e Polling) (facts : Facts) (cs : List Change) (es : List Entry) → k.row.act ≢ Delete
      → cs ≡ begun_changes k.job Ending (ready_row k.row facts)
      → es ≡ call_entry e k.row request.Poll (answer.Ready facts) ∷ begun_entries e k.job Ending (ready_row k.row facts)
      → Part s e (AtJob Polling) (Answer (answer.Ready facts)) None cs es
  goes : (k : Calls s e Polling) (cs : List Change) (es : List Entry) → k.row.act ≡ Delete
      → cs ≡ purged_changes k.job k.row
      → es ≡ call_entry e k.row request.Gone answer.Gone ∷ purged_entries e k.job k.row
      → Part s e (AtJob Polling) (Answer answer.Gone) None cs es
  refuses : (stage : Stage) (k : Calls s e stage) (asked : Request) (given : Answered) (reason : Why)
      (letters : List Letter) (failed : Option Stack)
      (cs : List Change) (es : List Entry) → IsAsked k.row stage asked → Refuses k.row.act asked given reason
      → Falls s k.job letters failed
      → cs ≡ failed_changes s e k.row letters failed
      → es ≡ call_entry e k.row asked given ∷ failed_entries e k.row letters failed reason
      → Part s e (AtJob stage) (Answer given) failed cs es
  ends : (k : Finishes s e) (cs : List Change) (es : List Entry) → ¬ Settles s e k
      → cs ≡ finished_changes s e k []
      → es ≡ finished_entries s e k []
      → Part s e (AtJob Ending) Nothing None cs es
  settles : (k : Finishes s e) (cs : List Change) (es : List Entry) → Settles s e k
      → cs ≡ finished_changes s e k (mark_complete k.fresh.stack)
      → es ≡ finished_entries s e k (complete_mark (Engine e) k.fresh.stack ∷ [])
      → Part s e (AtJob Ending) Nothing None cs es
  relieves : (f : ℕ) (j : Job) (cs : List Change) (es : List Entry) → TakesOver s e f j → (k : Releases s f j)
      → cs ≡ released_changes s f k.row k.letters
      → es ≡ released_entries e f k.row k.letters
      → Part s e ByLeft Nothing None cs es
  relays : (f : ℕ) (k : Relays s e f) (cs : List Change) (es : List Entry)
      → cs ≡ released_changes s f k.fresh.row (relayed_letter s e f k ∷ [])
      → es ≡ released_entries e f k.fresh.row (relayed_letter s e f k ∷ [])
      → Part s e ByLeft Nothing None cs es

-- each move is of a part, and that is next
pub record Placed (s : StateData) (e : ℕ) (given : Given) (failed : Option Stack) (cs : List Change)
    (es : List Entry) : Type 0 where
  pub kind : Kind
  pub next : IsNext s e kind
  pub part : Part s e kind given failed cs es

pub placed : (s : StateData) (e : ℕ) (given : Given) (failed : Option Stack) (cs : List Change) (es : List Entry)
    → Move s e given failed cs es
    → Placed s e given failed cs es
placed s e given failed cs es (take_dropped l _ _ t i c d) =
    record { kind = _; next = by_letter l t; part = drops l cs es t i c d }
placed s e given failed cs es (take_free k _ _ free c d) =
    record { kind = _; next = by_letter k.letter k.next; part = takes k cs es free c d }
placed s e given failed cs es (take_stolen k f j _ _ h n c d) =
    record { kind = _; next = by_letter k.letter k.next; part = steals k f j cs es h n c d }
placed s e given failed cs es (begin_overrun j _ _ w k c d) =
    record { kind = _; next = at_job j Taken w; part = overruns j Taken cs es w k c d }
placed s e given failed cs es (begin_faulted k code path _ _ _ f c d) =
    record { kind = _; next = at_job k.job Taken k.works; part = faults k code path failed cs es f c d }
placed s e given failed cs es (begin_init k props effect _ _ i c d) =
    record { kind = _; next = at_job k.job Taken k.works; part = prepares k props effect Created cs es (creates i) c d }
placed s e given failed cs es (begin_same k props effect _ _ n i x c d) =
    record { kind = _; next = at_job k.job Taken k.works; part = prepares k props effect Kept cs es (keeps n i x) c d }
placed s e given failed cs es (begin_in_place k props effect _ _ n i x c d) =
    record {
      kind = _;
      next = at_job k.job Taken k.works;
      part = prepares k props effect Updated cs es (updates n i x) c d;
    }
placed s e given failed cs es (begin_resumed k props effect _ _ n i x c d) =
    record {
      kind = _;
      next = at_job k.job Taken k.works;
      part = prepares k props effect Resumed cs es (resumes n i x) c d;
    }
placed s e given failed cs es (begin_failed k props effect _ _ n i x c d) =
    record { kind = _; next = at_job k.job Taken k.works; part = prepares k props effect Left cs es (leaves n i x) c d }
placed s e given failed cs es (begin_replaced k props effect _ _ n x c d) =
    record {
      kind = _;
      next = at_job k.job Taken k.works;
      part = prepares k props effect Replaced cs es (replaces n x) c d;
    }
placed s e given failed cs es (clean_gone k _ _ at c d) =
    record { kind = _; next = at_job k.job Taken k.works; part = clears k None Passed cs es at gone c d }
placed s e given failed cs es (clean_kept k r _ _ at x c d) =
    record { kind = _; next = at_job k.job Taken k.works; part = clears k (Some r) Passed cs es at (kept r x) c d }
placed s e given failed cs es (clean_init k r _ _ at x i c d) =
    record {
      kind = _;
      next = at_job k.job Taken k.works;
      part = clears k (Some r) (Purged r) cs es at (purges r x i) c d;
    }
placed s e given failed cs es (clean_stuck k r _ _ at x i c d) =
    record {
      kind = _;
      next = at_job k.job Taken k.works;
      part = clears k (Some r) (Stuck r) cs es at (sticks r x i) c d;
    }
placed s e given failed cs es (clean_retained k r _ _ at x n i p c d) =
    record {
      kind = _;
      next = at_job k.job Taken k.works;
      part = clears k (Some r) (Retained r) cs es at (retains r x n i p) c d;
    }
placed s e given failed cs es (clean_deleted k r _ _ at x n i p c d) =
    record {
      kind = _;
      next = at_job k.job Taken k.works;
      part = clears k (Some r) (Deleted r) cs es at (deletes r x n i p) c d;
    }
placed s e given failed cs es (ask_begun k asked _ _ a c d) =
    record { kind = _; next = at_job k.job Asking k.works; part = begins k asked cs es a c d }
placed s e given failed cs es (ask_failed k asked g reason letters _ _ _ a x f c d) =
    record {
      kind = _;
      next = at_job k.job Asking k.works;
      part = refuses Asking k asked g reason letters failed cs es (at_ask asked a) x f c d;
    }
placed s e given failed cs es (poll_waits k asked _ _ a c d) =
    record { kind = _; next = at_job k.job Polling k.works; part = waits k asked cs es a c d }
placed s e given failed cs es (poll_ready k facts _ _ a c d) =
    record { kind = _; next = at_job k.job Polling k.works; part = readies k facts cs es a c d }
placed s e given failed cs es (poll_gone k _ _ a c d) =
    record { kind = _; next = at_job k.job Polling k.works; part = goes k cs es a c d }
placed s e given failed cs es (poll_failed k asked g reason letters _ _ _ a x f c d) =
    record {
      kind = _;
      next = at_job k.job Polling k.works;
      part = refuses Polling k asked g reason letters failed cs es (at_poll asked a) x f c d;
    }
placed s e given failed cs es (finish_overrun j _ _ w k c d) =
    record { kind = _; next = at_job j Ending w; part = overruns j Ending cs es w k c d }
placed s e given failed cs es (finish k _ _ n c d) =
    record { kind = _; next = at_job k.job Ending k.works; part = ends k cs es n c d }
placed s e given failed cs es (finish_last k _ _ y c d) =
    record { kind = _; next = at_job k.job Ending k.works; part = settles k cs es y c d }
placed s e given failed cs es (takeover_overrun f j _ _ t k c d) =
    record { kind = _; next = by_left f j t; part = relieves f j cs es t k c d }
placed s e given failed cs es (takeover_fresh f k _ _ c d) =
    record { kind = _; next = by_left f k.job k.next; part = relays f k cs es c d }
