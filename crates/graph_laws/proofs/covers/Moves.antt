-- Nodes are covered after each move of an engine: `covers_moved`.
use Rattle.std.proofs.Common.{◌≡◌, ◌≢◌, ℕ, [], List, Option, Some, refl, sym, ◌∙◌, subst}
use Rattle.heat_plan.specs.declared.phase.Status.TheVariants.{Failed, InProgress}
use Rattle.row_table.specs.Rows.{row_at}
use Rattle.row_table.specs.declared.row.Row.{Row}
use Rattle.mail_table.specs.Mails.{job_at}
use Rattle.mail_table.specs.declared.mail.Job.{Job}
use Rattle.mail_table.specs.declared.mail.Stage.TheVariants.{Asking, Ending}
use Rattle.core_state.specs.Changes.{applied}
use Rattle.core_state.specs.State.{StateData}
use Rattle.core_state.specs.declared.change.Change.{Change}
use Rattle.core_state.specs.declared.entry.Entry.{Entry}
use Rattle.core_state.specs.declared.stack.Stack.{Stack}
use Rattle.step_relation.specs.Begins.{Begins}
use Rattle.step_relation.specs.Cleanups.{Cleans}
use Rattle.step_relation.specs.Given.{Given}
use Rattle.step_relation.specs.Moves.{Move, ask_begun, ask_failed, begin_failed, begin_faulted, begin_in_place}
use Rattle.step_relation.specs.Moves.{begin_init, begin_overrun, begin_replaced, begin_resumed, begin_same}
use Rattle.step_relation.specs.Moves.{clean_deleted, clean_gone, clean_init, clean_kept, clean_retained, clean_stuck}
use Rattle.step_relation.specs.Moves.{finish, finish_last, finish_overrun, poll_failed, poll_gone, poll_ready}
use Rattle.step_relation.specs.Moves.{poll_waits, take_dropped, take_free, take_stolen, takeover_fresh}
use Rattle.step_relation.specs.Moves.{takeover_overrun}
use Rattle.step_relation.specs.Rows.{created_row, deleted_row, same_row, updated_row}
use Rattle.step_relation.specs.Groups.{KeptByMoves}
use Rattle.step_relation.specs.MailFits.{IsNewest}
use Rattle.step_relation.specs.Sound.{Standing}
use Rattle.step_relation.specs.Stir.{Covered}
use Rattle.history_laws.proofs.tables.Rows.{stack-key}
use Rattle.graph_laws.proofs.graphs.Moves.{graphs_moved}
use Rattle.graph_laws.proofs.graphs.Shapes.{job_stack}
use Rattle.graph_laws.proofs.jobs.Below.{links_by_moves}
use Rattle.graph_laws.proofs.jobs.Onward.{Grounds}
use Rattle.graph_laws.proofs.covers.Begun.{asks_on, faulted, goes, left, onward, purged, puts, readies, replaces, retained}
use Rattle.graph_laws.proofs.covers.Finished.{finish_keeps, finish_marks}
use Rattle.graph_laws.proofs.covers.Steps.{failed_is_marked}
use Rattle.graph_laws.proofs.covers.Taken.{drops, steals, takes}
use Rattle.graph_laws.proofs.covers.Told.{falls, relays, releases}

newest_of : (s : StateData) (e : ℕ) (k : Begins s e) → IsNewest s k.job.letter k.stack
newest_of s e k = record { in_table = k.names.in_table; newest = k.names.newest }

newest_at : (s : StateData) (e : ℕ) (k : Cleans s e) → IsNewest s k.job.letter k.stack
newest_at s e k = record { in_table = k.names.in_table; newest = k.names.newest }

-- where a row of this traversal failed, its stack has the mark
failed_stack : (s : StateData) → Standing s → (e : ℕ) (j : Job) (st : Stack) → job_at s.jobs e ≡ Some j
    → IsNewest s j.letter st → (r : Row)
    → row_at s.rows j.row ≡ Some r → r.status ≡ Failed → r.trav ≡ st.trav → st.status ≢ InProgress
failed_stack s h e j st its newest r at status trav unmarked =
    let of : r.stack ≡ st.name = job_stack s s h e j r its at
    ∙ sym (stack-key s.stacks j.letter.stack st newest.in_table) in
    failed_is_marked
    (sym ((h.marks.each j.letter.stack st newest.in_table).failing j.row r at of status trav) ∙ unmarked)

by_changes : (s : StateData) (cs to : List Change) → cs ≡ to → Grounds (applied cs s)
    → (Grounds (applied to s) → Covered (applied to s)) → Covered (applied cs s)
by_changes s cs to is b fits =
    subst (λ (x : List Change). Covered (applied x s)) (sym is)
    (fits (subst (λ (x : List Change). Grounds (applied x s)) is b))

by_move : (s : StateData) (e : ℕ) (given : Given) (failed : Option Stack) (cs : List Change) (es : List Entry)
    → Standing s
    → Move s e given failed cs es → Grounds (applied cs s) → Covered (applied cs s)
by_move s e given failed cs es h (take_dropped l _ _ next idle is _) b =
    by_changes s cs _ is b (λ b. drops s h e l next idle)
by_move s e given failed cs es h (take_free k _ _ free is _) b = by_changes s cs _ is b (takes s h e k free)
by_move s e given failed cs es h (take_stolen k f j _ _ holder stopped is _) b =
    by_changes s cs _ is b (steals s h e k f j holder)
by_move s e given failed cs es h (begin_overrun j _ _ works k is _) b =
    by_changes s cs _ is b (releases s h e j k.row k.letters works.its k.found k.overrun k.resends)
by_move s e given failed cs es h (begin_faulted k code path _ _ _ f is _) b =
    by_changes s cs _ is b (faulted s h e k.job k.stack k.works.its (newest_of s e k) k.row [] failed k.found f)
by_move s e given failed cs es h (begin_init k props effect _ _ act is _) b =
    by_changes s cs _ is b (puts s h e k.job k.stack k.works.its (newest_of s e k) Asking k.row
    (created_row k.row k.item k.stack.trav props k.required) k.found refl)
by_move s e given failed cs es h (begin_same k props effect _ _ act status same is _) b =
    by_changes s cs _ is b (puts s h e k.job k.stack k.works.its (newest_of s e k) Ending k.row
    (same_row k.row k.item k.stack.trav k.required) k.found refl)
by_move s e given failed cs es h (begin_in_place k props effect _ _ act status soft is _) b =
    by_changes s cs _ is b (puts s h e k.job k.stack k.works.its (newest_of s e k) Asking k.row
    (updated_row k.row k.item k.stack.trav props k.required) k.found refl)
by_move s e given failed cs es h (begin_resumed k props effect _ _ act status newest is _) b =
    by_changes s cs _ is b (onward s h e k.job k.stack k.works.its (newest_of s e k) Asking)
by_move s e given failed cs es h (begin_failed k props effect _ _ act status newest is _) b =
    by_changes s cs _ is b (left s h e k.job k.stack k.works.its (newest_of s e k) k.row k.found
    (failed_stack s h e k.job k.stack k.works.its (newest_of s e k) k.row k.found status newest))
by_move s e given failed cs es h (begin_replaced k props effect _ _ act go is _) b =
    by_changes s cs _ is b (replaces s h e k props)
by_move s e given failed cs es h (clean_gone k _ _ none is _) b =
    by_changes s cs _ is b (onward s h e k.job k.stack k.works.its (newest_at s e k) Ending)
by_move s e given failed cs es h (clean_kept k r _ _ at kept is _) b =
    by_changes s cs _ is b (onward s h e k.job k.stack k.works.its (newest_at s e k) Ending)
by_move s e given failed cs es h (clean_init k r _ _ at loose act is _) b =
    by_changes s cs _ is b (purged s h e k.job k.stack k.works.its (newest_at s e k) r at)
by_move s e given failed cs es h (clean_stuck k r _ _ at loose stuck is _) b =
    by_changes s cs _ is b (left s h e k.job k.stack k.works.its (newest_at s e k) r at
    (failed_stack s h e k.job k.stack k.works.its (newest_at s e k) r at stuck.status stuck.newest))
by_move s e given failed cs es h (clean_retained k r _ _ at loose act unstuck policy is _) b =
    by_changes s cs _ is b (retained s h e k.job k.stack k.works.its (newest_at s e k) r at)
by_move s e given failed cs es h (clean_deleted k r _ _ at loose act unstuck policy is _) b = by_changes s cs _ is b
    (puts s h e k.job k.stack k.works.its (newest_at s e k) Asking r (deleted_row r k.stack.trav) at refl)
by_move s e given failed cs es h (ask_begun k asked _ _ asks is _) b = by_changes s cs _ is b (asks_on s h e k)
by_move s e given failed cs es h (ask_failed k asked answer reason letters _ _ _ asks refuses f is _) b =
    by_changes s cs _ is b (falls s h e k.job k.row letters failed k.works.its k.found f)
by_move s e given failed cs es h (poll_waits k asked _ _ asks is _) b = by_changes s cs _ is b (λ b. h.covered)
by_move s e given failed cs es h (poll_ready k facts _ _ act is _) b = by_changes s cs _ is b (readies s h e k facts)
by_move s e given failed cs es h (poll_gone k _ _ act is _) b = by_changes s cs _ is b (goes s h e k act)
by_move s e given failed cs es h (poll_failed k asked answer reason letters _ _ _ asks refuses f is _) b =
    by_changes s cs _ is b (falls s h e k.job k.row letters failed k.works.its k.found f)
by_move s e given failed cs es h (finish_overrun j _ _ works k is _) b =
    by_changes s cs _ is b (releases s h e j k.row k.letters works.its k.found k.overrun k.resends)
by_move s e given failed cs es h (finish k _ _ open_ is _) b = by_changes s cs _ is b (λ b. finish_keeps s h e k)
by_move s e given failed cs es h (finish_last k _ _ all is _) b = by_changes s cs _ is b (λ b. finish_marks s h e k)
by_move s e given failed cs es h (takeover_overrun f j _ _ over k is _) b =
    by_changes s cs _ is b (releases s h f j k.row k.letters over.left.its k.found k.overrun k.resends)
by_move s e given failed cs es h (takeover_fresh f k _ _ is _) b =
    by_changes s cs _ is b (relays s h f k.job k.fresh.row k.next.left.its k.fresh.found k.fresh)

pub covers_moved : KeptByMoves Covered
covers_moved judges s e given failed cs es h move tied = by_move s e given failed cs es h move
    (record {
      current = (links_by_moves judges s e given failed cs es h move tied).current;
      graphs = graphs_moved judges s e given failed cs es h move tied;
    })
