-- No step but `close` tells that the input is closed, and a run has one such at most.
use Rattle.std.proofs.Common.{◌≡◌, inl, inr, ℕ, List, [], ◌∷◌, ◌++◌, map, Option, Some, None, sym, subst}
use Rattle.std.specs.List.{AllByRecursion}
use Rattle.std.proofs.lemmas.List.Elements.{Contains-append_cases}
use Rattle.heat_plan.specs.declared.item.Item.{Item}
use Rattle.traversal_graph.specs.declared.shape.Node.{Node}
use Rattle.step_relation.specs.State.{StateData}
use Rattle.step_relation.specs.declared.Change.{Change}
use Rattle.step_relation.specs.declared.Actor.{Actor}
use Rattle.step_relation.specs.declared.Actor.TheVariants.{Engine}
use Rattle.step_relation.specs.declared.Cause.{Cause}
use Rattle.step_relation.specs.declared.Entry.{Entry}
use Rattle.step_relation.specs.declared.MailWrite.{MailWrite}
use Rattle.step_relation.specs.declared.MailWrite.TheVariants.{Ended, Sent}
use Rattle.step_relation.specs.declared.RowWrite.{RowWrite}
use Rattle.step_relation.specs.declared.RowWrite.TheVariants.{Set}
use Rattle.step_relation.specs.declared.What.{What}
use Rattle.step_relation.specs.declared.Stack.{Stack}
use Rattle.step_relation.specs.Asks.{cause_at, fault_of}
use Rattle.step_relation.specs.Commands.{Lays, Sets, first_letters, laid_entries, settled_mark}
use Rattle.step_relation.specs.Finishes.{ready_letters}
use Rattle.step_relation.specs.Given.{Answer, Given}
use Rattle.step_relation.specs.Moves.{Move, ask_begun, ask_failed, begin_failed, begin_faulted, begin_in_place}
use Rattle.step_relation.specs.Moves.{begin_init, begin_overrun, begin_replaced, begin_resumed, begin_same}
use Rattle.step_relation.specs.Moves.{clean_deleted, clean_gone, clean_init, clean_kept, clean_retained, clean_stuck}
use Rattle.step_relation.specs.Moves.{finish, finish_last, finish_overrun, poll_failed, poll_gone, poll_ready}
use Rattle.step_relation.specs.Moves.{poll_waits, take_dropped, take_free, take_stolen, takeover_fresh}
use Rattle.step_relation.specs.Moves.{takeover_overrun}
use Rattle.step_relation.specs.Orders.{Command, cancel, create, delete, update}
use Rattle.step_relation.specs.Runs.{ClosesOnce, IsClosed, begins, goes_on}
use Rattle.step_relation.specs.Steps.{IsNote, Step, close, command, enlist, notes, note, ran, restart}
use Rattle.step_relation.specs.Steps.{previews, shows, stop, turn, turned, unstored}
use Rattle.step_relation.specs.Turns.{Turn, plain, rolls}
use Rattle.step_relation.specs.Writes.{failed_mark, lock_writes, mail_entry, rows_entry, unlock_writes}
use Rattle.history_laws.proofs.tables.Puts.{all_append, contains_cases, contains_head, contains_none, contains_there}
use Rattle.history_laws.specs.leaves.Closings.{ClosedOnce, RunsCloseOnce}
use Rattle.step_relation.specs.declared.What.TheVariants as what

-- anything but that the input is closed
abbrev IsOpen : What → Type 0
IsOpen (what.Command stack trav act plan rollback) = Unit {0}
IsOpen (what.Call token request given) = Unit {0}
IsOpen (what.Release token) = Unit {0}
IsOpen (what.Mark stack trav act cause) = Unit {0}
IsOpen (what.Rows writes) = Unit {0}
IsOpen (what.Mail writes) = Unit {0}
IsOpen (what.Engine change) = Unit {0}
IsOpen (what.Show it stack) = Unit {0}
IsOpen (what.Note line code path) = Unit {0}
IsOpen (what.Ran idle turns) = Unit {0}
IsOpen (what.Turned engine lost) = Unit {0}
IsOpen (what.Preview stack forecast) = Unit {0}
IsOpen what.Closed = ⊥

abbrev AllOpen : List Entry → Type 0
AllOpen es = AllByRecursion (λ (e : Entry). IsOpen e.what) es

both : (es fs : List Entry) → AllOpen es → AllOpen fs → AllOpen (es ++ fs)
both es fs one two = all_append (λ (e : Entry). IsOpen e.what) es fs one two

rows_open : (actor : Actor) (ws : List RowWrite) → AllOpen (rows_entry actor ws)
rows_open actor [] = tt
rows_open actor (w ∷ ws) = (tt, tt)

mail_open : (actor : Actor) (ws : List MailWrite) → AllOpen (mail_entry actor ws)
mail_open actor [] = tt
mail_open actor (w ∷ ws) = (tt, tt)

mark_open : (actor : Actor) (f : Option Stack) (cause : Cause) → AllOpen (failed_mark actor f cause)
mark_open actor None cause = tt
mark_open actor (Some st) cause = (tt, tt)

written : (actor : Actor) (ws : List RowWrite) (ms : List MailWrite) (rest : List Entry) → AllOpen rest
    → AllOpen (rows_entry actor ws ++ (mail_entry actor ms ++ rest))
written actor ws ms rest open_ =
    both (rows_entry actor ws) _ (rows_open actor ws) (both (mail_entry actor ms) rest (mail_open actor ms) open_)

told : (actor : Actor) (ws : List RowWrite) (m : MailWrite) (ms : List MailWrite)
    → AllOpen (rows_entry actor ws ++ mail_entry actor (m ∷ ms))
told actor ws m ms = both (rows_entry actor ws) (mail_entry actor (m ∷ ms)) (rows_open actor ws) (tt, tt)

as_told : (es fs : List Entry) → es ≡ fs → AllOpen fs → AllOpen es
as_told es fs is open_ = subst AllOpen (sym is) open_

move_open : (s : StateData) (e : ℕ) (given : Given) (f : Option Stack) (cs : List Change) (es : List Entry)
    → Move s e given f cs es → AllOpen es
move_open s e _ _ cs es (take_dropped l _ _ t i c d) = as_told es _ d (tt, tt)
move_open s e _ _ cs es (take_free k _ _ free c d) =
    as_told es _ d (told (Engine e) (lock_writes k.meant.fresh.row e) _ _)
move_open s e _ _ cs es (take_stolen k g j _ _ holds n c d) =
    as_told es _ d (told (Engine e) (lock_writes k.meant.fresh.row e) _ _)
move_open s e _ _ cs es (begin_overrun j _ _ v k c d) = as_told es _ d (told (Engine e) (unlock_writes k.row) _ _)
move_open s e _ _ cs es (begin_faulted k code path f _ _ falls c d) =
    as_told es _ d (tt, (tt, mark_open (Engine e) f (fault_of k.item.name k.row.no code path)))
move_open s e _ _ cs es (begin_init k props effect _ _ i c d) = as_told es _ d (tt, (tt, tt))
move_open s e _ _ cs es (begin_same k props effect _ _ n i x c d) = as_told es _ d (tt, (tt, tt))
move_open s e _ _ cs es (begin_in_place k props effect _ _ n i x c d) = as_told es _ d (tt, (tt, tt))
move_open s e _ _ cs es (begin_resumed k props effect _ _ n i x c d) = as_told es _ d (tt, tt)
move_open s e _ _ cs es (begin_failed k props effect _ _ n i x c d) = as_told es _ d (tt, (tt, tt))
move_open s e _ _ cs es (begin_replaced k props effect _ _ n x c d) = as_told es _ d (tt, (tt, tt))
move_open s e _ _ cs es (clean_gone k _ _ at c d) = as_told es _ d (tt, tt)
move_open s e _ _ cs es (clean_kept k r _ _ at x c d) = as_told es _ d (tt, tt)
move_open s e _ _ cs es (clean_init k r _ _ at x i c d) = as_told es _ d (tt, (tt, tt))
move_open s e _ _ cs es (clean_stuck k r _ _ at x i c d) = as_told es _ d (tt, (tt, tt))
move_open s e _ _ cs es (clean_retained k r _ _ at x n i p c d) = as_told es _ d (tt, (tt, (tt, tt)))
move_open s e _ _ cs es (clean_deleted k r _ _ at x n i p c d) = as_told es _ d (tt, (tt, tt))
move_open s e _ _ cs es (ask_begun k asked _ _ a c d) = as_told es _ d (tt, (tt, tt))
move_open s e _ _ cs es (ask_failed k asked g reason ls f _ _ a x falls c d) =
    as_told es _ d (tt, (tt, (tt, mark_open (Engine e) f (cause_at k.row reason))))
move_open s e _ _ cs es (poll_waits k asked _ _ a c d) = as_told es _ d (tt, tt)
move_open s e _ _ cs es (poll_ready k facts _ _ a c d) = as_told es _ d (tt, (tt, (tt, tt)))
move_open s e _ _ cs es (poll_gone k _ _ a c d) = as_told es _ d (tt, (tt, (tt, tt)))
move_open s e _ _ cs es (poll_failed k asked g reason ls f _ _ a x falls c d) =
    as_told es _ d (tt, (tt, (tt, mark_open (Engine e) f (cause_at k.row reason))))
move_open s e _ _ cs es (finish_overrun j _ _ v k c d) = as_told es _ d (told (Engine e) (unlock_writes k.row) _ _)
move_open s e _ _ cs es (finish k _ _ n c d) = as_told es _ d (written (Engine e) (unlock_writes k.fresh.row)
    (Ended e ∷ map Sent (ready_letters s e k)) [] tt)
move_open s e _ _ cs es (finish_last k _ _ y c d) = as_told es _ d (written (Engine e) (unlock_writes k.fresh.row)
    (Ended e ∷ map Sent (ready_letters s e k)) _ (tt, tt))
move_open s e _ _ cs es (takeover_overrun g j _ _ t k c d) =
    as_told es _ d (told (Engine e) (unlock_writes k.row) _ _)
move_open s e _ _ cs es (takeover_fresh g k _ _ c d) =
    as_told es _ d (told (Engine e) (unlock_writes k.fresh.row) _ _)

laid_open : (s : StateData) (name : List ℕ) (items : List Item) (it : Sets) (k : Lays s name items)
    → AllOpen (laid_entries s name items it k)
laid_open s name items it k = (
  tt,
  written it.actor (map Set k.rows) (map Sent (first_letters s name items it k)) _
      (settled k.graph.nodes),
) where
  settled : (nodes : List Node) → AllOpen (settled_mark nodes s name it)
  settled [] = (tt, tt)
  settled (node ∷ nodes) = tt

turn_open : (s : StateData) (e : ℕ) (given : Given) (cs : List Change) (es : List Entry) → Turn s e given cs es
    → AllOpen es
turn_open s e given cs es (plain f move quiet) = move_open s e given f cs es move
turn_open s e given cs es (rolls st first last firsts lasts move due follows is made) = as_told es _ made
    (both firsts lasts (move_open s e given (Some st) first firsts move)
    (as_told lasts _ follows.entries (laid_open _ follows.failed.name _ _ follows.lays)))

command_open : (s : StateData) (cs : List Change) (es : List Entry) → Command s cs es → AllOpen es
command_open s cs es (create name plan rollback k p none few room c d) =
    as_told es _ d (laid_open s name plan.items _ k)
command_open s cs es (update st plan rollback k p at act room c d) = as_told es _ d (laid_open s st.name plan.items _ k)
command_open s cs es (delete st k at c d) = as_told es _ d (laid_open s st.name [] _ k)
command_open s cs es (cancel st k at forward under room c d) = as_told es _ d (laid_open s st.name _ _ k)

note_open : (it : What) → IsNote it → IsOpen it
note_open _ (shows it stack) = tt
note_open _ (notes line code path) = tt
note_open _ (ran idle turns) = tt
note_open _ (turned e lost) = tt
note_open _ (previews stack forecast) = tt

-- such entries don't close the input, and so close it once at most
open_not_closed : (es : List Entry) → AllOpen es → ¬ IsClosed es
open_not_closed [] open_ k = contains_none k.entry k.among
open_not_closed (e ∷ es) open_ k = elim (contains_cases e k.entry es k.among) [
  | inl is ↦ closed_one e (subst (λ (x : Entry). x.what ≡ what.Closed) (sym is) k.closes) open_.0
  | inr later ↦ open_not_closed es open_.1 (record { entry = k.entry; among = later; closes = k.closes })
] where
  closed_one : (x : Entry) → x.what ≡ what.Closed → IsOpen x.what → ⊥
  closed_one x is open_ = subst IsOpen is open_

open_once : (es : List Entry) → AllOpen es → ClosedOnce es
open_once [] open_ = tt
open_once (e ∷ es) open_ = ((λ is. open_not_closed es open_.1), open_once es open_.1)

once_both : (es fs : List Entry) → ClosedOnce es → ClosedOnce fs → (IsClosed es → ¬ IsClosed fs) → ClosedOnce (es ++ fs)
once_both [] fs one two apart = two
once_both (e ∷ es) fs one two apart = (first, once_both es fs one.1 two (λ k. apart (still k))) where
  still : IsClosed es → IsClosed (e ∷ es)
  still k = record { entry = k.entry; among = contains_there e k.entry es k.among; closes = k.closes }

  first : e.what ≡ what.Closed → ¬ IsClosed (es ++ fs)
  first is k = elim (Contains-append_cases es fs k.entry k.among) [
    | inl own ↦ one.0 is (record { entry = k.entry; among = own; closes = k.closes })
    | inr later ↦ apart (record { entry = e; among = contains_head e es; closes = is })
        (record { entry = k.entry; among = later; closes = k.closes })
  ]

-- what a step tells, behind what was told before
record Tells (before es : List Entry) : Type 0 where
  pub once : ClosedOnce es
  pub apart : IsClosed before → ¬ IsClosed es

quietly : (before es : List Entry) → AllOpen es → Tells before es
quietly before es open_ = record { once = open_once es open_; apart = λ k. open_not_closed es open_ }

step_tells : (before : List Entry) (s : StateData) (cs : List Change) (es : List Entry) → (step : Step s cs es)
    → ClosesOnce before s cs es step → Tells before es
step_tells before s cs es (command it fits) closes = quietly before es (command_open s cs es it)
step_tells before s cs es (turn e given it fits) closes = quietly before es (turn_open s e given cs es it)
step_tells before s cs es (unstored e given lost all call it some fits first is made) closes =
    quietly before es (as_told es (call ∷ []) made
    ((subst AllOpen first.entries (turn_open s e (Answer given) lost all it)).0, tt))
step_tells before s cs es (stop e live is made) closes = quietly before es (as_told es _ made (tt, tt))
step_tells before s cs es (enlist few below is made) closes = quietly before es (as_told es _ made (tt, tt))
step_tells before s cs es (restart count some few below is made) closes = quietly before es (as_told es _ made (tt, tt))
step_tells before s cs es (note it noted is made) closes =
    quietly before es (as_told es _ made (note_open it noted, tt))
step_tells before s cs es (close is made) closes = subst (Tells before) (sym made) (record {
  once = ((λ c k. contains_none k.entry k.among), tt);
  apart = λ k more. closes k;
})

pub runs_close_once : RunsCloseOnce
runs_close_once registries first last h (begins _ _ is none) = subst ClosedOnce (sym none) tt
runs_close_once registries first last h (goes_on judges mid _ cs before after _ run step among tied closes is made) =
    let now = step_tells before mid cs after step closes in
    subst ClosedOnce (sym made)
    (once_both before after (runs_close_once registries first mid before run) now.once now.apart)
