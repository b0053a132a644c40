-- Each move keeps the links.
use Rattle.std.proofs.Common.{◌≡◌, ℕ, List, [], ◌∷◌, Option, Some, None, refl, sym, subst, arith}
use Rattle.mail_table.specs.declared.mail.Stage.TheVariants.{Asking, Ending, Polling}
use Rattle.row_table.specs.Rows.{row_at}
use Rattle.row_table.specs.declared.row.Row.{Row}
use Rattle.mail_table.specs.Mails.{job_at}
use Rattle.mail_table.specs.declared.mail.Job.{Job}
use Rattle.mail_table.specs.declared.mail.Letter.{Letter}
use Rattle.step_relation.specs.Changes.{applied, apply}
use Rattle.step_relation.specs.State.{StateData}
use Rattle.step_relation.specs.declared.Change.{Change}
use Rattle.step_relation.specs.declared.Change.TheVariants.{EndJob, Release}
use Rattle.step_relation.specs.declared.Stack.{Stack}
use Rattle.step_relation.specs.Asks.{Falls, marked, marks, overrun}
use Rattle.step_relation.specs.Finishes.{Finishes, Settles, finished_changes}
use Rattle.step_relation.specs.declared.Entry.{Entry}
use Rattle.step_relation.specs.Moves.{Move, ask_begun, ask_failed, begin_failed, begin_faulted, begin_in_place}
use Rattle.step_relation.specs.Moves.{begin_init, begin_overrun, begin_replaced, begin_resumed, begin_same}
use Rattle.step_relation.specs.Moves.{clean_deleted, clean_gone, clean_init, clean_kept, clean_retained, clean_stuck}
use Rattle.step_relation.specs.Moves.{finish, finish_last, finish_overrun, poll_failed, poll_gone, poll_ready}
use Rattle.step_relation.specs.Moves.{poll_waits, take_dropped, take_free, take_stolen, takeover_fresh}
use Rattle.step_relation.specs.Moves.{takeover_overrun}
use Rattle.step_relation.specs.Given.{Given}
use Rattle.step_relation.specs.Rows.{token_of, unlocked}
use Rattle.step_relation.specs.Takes.{Relays, Releases, Takes, relayed_letter, released_changes}
use Rattle.step_relation.specs.Writes.{mark_complete, unlock}
use Rattle.step_relation.specs.Groups.{KeptByMoves}
use Rattle.step_relation.specs.Linked.{IsOf, Links}
use Rattle.step_relation.specs.Numbered.{StackBelow}
use Rattle.step_relation.specs.Sound.{Standing}
use Rattle.history_laws.proofs.links.Begins.{Links-faulted, Links-replaced, rewrites_created, rewrites_deleted, rewrites_ready}
use Rattle.history_laws.proofs.links.Begins.{rewrites_same, rewrites_updated}
use Rattle.history_laws.proofs.links.Finishes.{Links-call_failed, Links-finished, none_left, st_below}
use Rattle.history_laws.proofs.links.Rewrites.{Links-begun, Links-left, Links-onward, Links-purged, rewrites_unlocked}
use Rattle.history_laws.proofs.links.Single.{Links-Drop, Links-Release, Links-complete, MarkFor, NoRow, NoRow-put, letters-below}
use Rattle.history_laws.proofs.links.Takes.{Links-released, Links-stolen, Links-taken, resent_below}
use Rattle.history_laws.proofs.tables.Facts.{named_owned, target_owned}

by_changes : (s : StateData) (cs ds : List Change) → cs ≡ ds → Links (applied ds s) → Links (applied cs s)
by_changes s cs ds is now = subst (λ (xs : List Change). Links (applied xs s)) (sym is) now

-- a letter's target is its stack's
pub taken_owned : (s : StateData) → Standing s → (e : ℕ) (k : Takes s e)
    → IsOf s.rows s.graphs s.jobs k.meant.target k.letter.stack
taken_owned s S e k =
    target_owned s S.links k.letter.stack k.meant.fresh.node k.meant.target
    (named_owned s S k.letter k.meant.fresh.stack k.meant.fresh.graph k.meant.fresh.node k.meant.fresh.names) k.meant.to

-- a mark of a failure is of a stack of the table
falls_below : (s : StateData) → Standing s → (j : Job) (letters : List Letter) (failed : Option Stack)
    → Falls s j letters failed → MarkFor s.next failed
falls_below s S j letters _ (overrun _ _ _) st is = cc
falls_below s S j _ _ (marked _ _) st is = cc
falls_below s S j _ _ (marks k _) st is =
    let same : k.stack ≡ st = cc in
    subst (StackBelow s.next.stack s.next.trav) same (S.links.numbered.stacks j.letter.stack k.stack k.names.in_table)

released_to : (s : StateData) → Standing s → (f : ℕ) (j : Job) → job_at s.jobs f ≡ Some j → (k : Releases s f j)
    → Links (applied (released_changes s f k.row k.letters) s)
released_to s S f j its k =
    Links-released s S.links f j its k.row k.found k.letters
    (resent_below s S.links j.letter.stack j.row k.letters k.resends)

relayed_to : (s : StateData) → Standing s → (e f : ℕ) (k : Relays s e f)
    → Links (applied (released_changes s f k.fresh.row (relayed_letter s e f k ∷ [])) s)
relayed_to s S e f k =
    let b = (S.links.numbered.stacks k.job.letter.stack k.fresh.stack k.fresh.names.in_table).newest in
    Links-released s S.links f k.job k.next.left.its k.fresh.row k.fresh.found (relayed_letter s e f k ∷ [])
    (λ next le same. letters-below next s.next.letter k.fresh.stack (k.job.letter.node ∷ []) (omega arith) le)

-- the rows behind the end of a job
ended_rows : (s : StateData) → Standing s → (e : ℕ) (j : Job) → job_at s.jobs e ≡ Some j → (name : List ℕ)
    → NoRow s.rows name
    → (r : Option Row) → row_at s.rows j.row ≡ r → NoRow (applied (unlock r (EndJob e ∷ [])) s).rows name
ended_rows s S e j its name none None at = none
ended_rows s S e j its name none (Some r) at = NoRow-put s.rows name (unlocked r) (none j.row r at) none

last_to : (s : StateData) → Standing s → (e : ℕ) (k : Finishes s e) → Settles s e k
    → Links (applied (finished_changes s e k (mark_complete k.fresh.stack)) s)
last_to s S e k settles = Links-finished s S e k (mark_complete k.fresh.stack) (λ t up rows h_t.
    Links-complete t k.fresh.stack (st_below s S e k t.next up)
    (λ act. subst (λ (x : List Row). NoRow x k.fresh.stack.name) (sym rows)
    (ended_rows s S e k.job k.works.its k.fresh.stack.name
    (none_left s S e k settles.all act) k.fresh.row k.fresh.found)) h_t)

pub links_after : (s : StateData) (e : ℕ) (given : Given) (failed : Option Stack) (cs : List Change)
    (es : List Entry) → Standing s
    → Move s e given failed cs es → Links (applied cs s)
links_after s e given failed cs es S (take_dropped l _ _ next idle is _) = by_changes s cs _ is
    (Links-Drop s l.no S.links)
links_after s e given failed cs es S (take_free k _ _ free is _) =
    by_changes s cs _ is (Links-taken s S.links e k.letter k.meant.target
    (taken_owned s S e k) k.next k.meant.fresh.row k.meant.fresh.found free)
links_after s e given failed cs es S (take_stolen k f j _ _ holder stopped is _) =
    by_changes s cs _ is
    (Links-stolen s S.links e k.letter k.meant.target
    (taken_owned s S e k) k.next k.meant.fresh.row f j k.meant.fresh.found holder.its holder.has)
links_after s e given failed cs es S (begin_overrun j _ _ works k is _) = by_changes s cs _ is
    (released_to s S e j works.its k)
links_after s e given failed cs es S (begin_faulted k code path mark _ _ falls is _) =
    by_changes s cs _ is (Links-faulted s S.links e k.job k.works.its k.row k.found mark
    (falls_below s S k.job [] mark falls))
links_after s e given failed cs es S (begin_init k props effect _ _ init is _) =
    by_changes s cs _ is (Links-begun s S.links e k.job k.works.its Asking k.row _
    (rewrites_created s S e k props) refl)
links_after s e given failed cs es S (begin_same k props effect _ _ act complete same is _) =
    by_changes s cs _ is (Links-begun s S.links e k.job k.works.its Ending k.row _ (rewrites_same s S e k) refl)
links_after s e given failed cs es S (begin_in_place k props effect _ _ act complete soft is _) =
    by_changes s cs _ is (Links-begun s S.links e k.job k.works.its Asking k.row _
    (rewrites_updated s S e k props) refl)
links_after s e given failed cs es S (begin_resumed k props effect _ _ act status newest is _) =
    by_changes s cs _ is (Links-onward s S.links e k.job k.works.its Asking)
links_after s e given failed cs es S (begin_failed k props effect _ _ act status newest is _) =
    by_changes s cs _ is (Links-left s S.links e k.job k.works.its k.row (unlocked k.row) k.found refl refl
    (rewrites_unlocked s S.links k.job.row k.row k.found))
links_after s e given failed cs es S (begin_replaced k props effect _ _ act go is _) =
    by_changes s cs _ is (Links-replaced s S e k props)
links_after s e given failed cs es S (clean_gone k _ _ none is _) = by_changes s cs _ is
    (Links-onward s S.links e k.job k.works.its Ending)
links_after s e given failed cs es S (clean_kept k r _ _ found kept is _) = by_changes s cs _ is
    (Links-onward s S.links e k.job k.works.its Ending)
links_after s e given failed cs es S (clean_init k r _ _ found unkept init is _) =
    by_changes s cs _ is (Links-purged s S.links e k.job k.works.its Ending r.no)
links_after s e given failed cs es S (clean_stuck k r _ _ found unkept stuck is _) =
    by_changes s cs _ is (Links-left s S.links e k.job k.works.its r (unlocked r) found refl refl
    (rewrites_unlocked s S.links k.job.row r found))
links_after s e given failed cs es S (clean_retained k r _ _ found unkept act unstuck retained is _) =
    by_changes s cs _ is (Links-purged (apply (Release (token_of r)) s)
    (Links-Release s (token_of r) S.links) e k.job k.works.its Ending r.no)
links_after s e given failed cs es S (clean_deleted k r _ _ found unkept act unstuck other is _) =
    by_changes s cs _ is (Links-begun s S.links e k.job k.works.its Asking r _
    (rewrites_deleted s S.links k.job.row r found k.stack.trav
    (S.links.numbered.stacks k.job.letter.stack k.stack k.names.in_table).newest) refl)
links_after s e given failed cs es S (ask_begun k asked _ _ asks is _) = by_changes s cs _ is
    (Links-onward s S.links e k.job k.works.its Polling)
links_after s e given failed cs es S (ask_failed k asked answer reason letters mark _ _ asks refuses falls is _) =
    by_changes s cs _ is (Links-call_failed s S.links e k.job k.works.its k.row k.found letters mark falls)
links_after s e given failed cs es S (poll_waits k asked _ _ asks is _) = by_changes s cs _ is S.links
links_after s e given failed cs es S (poll_ready k facts _ _ act is _) =
    by_changes s cs _ is (Links-begun s S.links e k.job k.works.its Ending k.row _
    (rewrites_ready s S.links k.job.row k.row k.found facts) refl)
links_after s e given failed cs es S (poll_gone k _ _ act is _) = by_changes s cs _ is
    (Links-purged s S.links e k.job k.works.its Ending k.row.no)
links_after s e given failed cs es S (poll_failed k asked answer reason letters mark _ _ asks refuses falls is _) =
    by_changes s cs _ is (Links-call_failed s S.links e k.job k.works.its k.row k.found letters mark falls)
links_after s e given failed cs es S (finish_overrun j _ _ works k is _) = by_changes s cs _ is
    (released_to s S e j works.its k)
links_after s e given failed cs es S (finish k _ _ unsettled is _) = by_changes s cs _ is
    (Links-finished s S e k [] (λ t up rows h_t. h_t))
links_after s e given failed cs es S (finish_last k _ _ settles is _) = by_changes s cs _ is (last_to s S e k settles)
links_after s e given failed cs es S (takeover_overrun f j _ _ next k is _) = by_changes s cs _ is
    (released_to s S f j next.left.its k)
links_after s e given failed cs es S (takeover_fresh f k _ _ is _) = by_changes s cs _ is (relayed_to s S e f k)

pub links_by_moves : KeptByMoves Links
links_by_moves judges s e given failed cs es S move tied = links_after s e given failed cs es S move
