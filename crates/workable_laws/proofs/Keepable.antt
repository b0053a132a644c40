-- A record may hold the changes of each step from a workable state: no row that it writes is at ROLLBACK or has a key of 2^62.
use Rattle.std.proofs.Common.{◌≡◌, ◌≢◌, inl, inr, ◌<◌, ℕ, zero, suc, ◌+◌, List, [], ◌∷◌, ◌++◌, map, Option, Some, None}
use Rattle.std.proofs.Common.{sym, ap, subst, ◌∙◌}
use Rattle.std.specs.List.{AllByRecursion}
use Rattle.std.specs.Prelude.{Contains, ◌^◌}
use Rattle.heat_plan.specs.declared.item.Item.{Item}
use Rattle.heat_plan.specs.declared.phase.Act.{Act}
use Rattle.heat_plan.specs.declared.phase.Act.TheVariants.{Create, Delete, Init, Rollback, Update}
use Rattle.heat_plan.specs.declared.phase.Status.TheVariants.{InProgress}
use Rattle.traversal_graph.specs.declared.shape.Node.{Node}
use Rattle.row_table.specs.Rows.{row_at}
use Rattle.row_table.specs.declared.row.Row.{Row}
use Rattle.sync_points.specs.declared.point.Point.{Point}
use Rattle.mail_table.specs.declared.mail.Letter.{Letter}
use Rattle.core_state.specs.Changes.{applied}
use Rattle.core_state.specs.State.{StateData}
use Rattle.core_state.specs.declared.change.Change.{Change}
use Rattle.core_state.specs.declared.change.Change.TheVariants.{Drop, DropRow, DropStack, EndJob, Enlist, PutGraph}
use Rattle.core_state.specs.declared.change.Change.TheVariants.{PutJob, PutPast, PutPoint, PutRow, PutStack, Release}
use Rattle.core_state.specs.declared.change.Change.TheVariants.{Send, Stop}
use Rattle.core_state.specs.declared.entry.Entry.{Entry}
use Rattle.core_state.specs.declared.numbers.Numbers.{Numbers}
use Rattle.core_state.specs.declared.stack.Stack.{Stack}
use Rattle.step_relation.specs.Asks.{failed_changes}
use Rattle.step_relation.specs.Commands.{Chooses, Lays, Sets, current, first_letters, fresh, laid_changes, none}
use Rattle.step_relation.specs.Commands.{settles_at_once, stack_set}
use Rattle.step_relation.specs.Finishes.{given_input, ready_letters}
use Rattle.step_relation.specs.Given.{Given}
use Rattle.step_relation.specs.Images.{AreKeepable}
use Rattle.step_relation.specs.Inputs.{passed_points}
use Rattle.step_relation.specs.Moves.{Move, ask_begun, ask_failed, begin_failed, begin_faulted, begin_in_place}
use Rattle.step_relation.specs.Moves.{begin_init, begin_overrun, begin_replaced, begin_resumed, begin_same}
use Rattle.step_relation.specs.Moves.{clean_deleted, clean_gone, clean_init, clean_kept, clean_retained, clean_stuck}
use Rattle.step_relation.specs.Moves.{finish, finish_last, finish_overrun, poll_failed, poll_gone, poll_ready}
use Rattle.step_relation.specs.Moves.{poll_waits, take_dropped, take_free, take_stolen, takeover_fresh}
use Rattle.step_relation.specs.Moves.{takeover_overrun}
use Rattle.step_relation.specs.Orders.{Command, cancel, create, delete, update}
use Rattle.step_relation.specs.Steps.{close, command, engines_from, enlist, note, restart, stop}
use Rattle.step_relation.specs.Steps.{turn, unstored}
use Rattle.step_relation.specs.Takes.{relayed_letter, released_changes}
use Rattle.step_relation.specs.Turns.{IsWorn, Turn, key}
use Rattle.step_relation.specs.Writes.{draw_letters, lock, mark_complete, mark_failed, unlock}
use Rattle.history_laws.proofs.tables.Puts.{all_append, all_contains}
use Rattle.next_laws.proofs.Decide.{below_or_not}
use Rattle.next_laws.proofs.Listings.{cons_cases, in_head, in_tail, no_member}
use Rattle.next_laws.proofs.Turns.{ByMove, Whole, by_move, follows, stops}
use Rattle.workable_laws.specs.Laws.{StepsAreKeepable}
use Rattle.core_state.specs.declared.change.Change.TheVariants as change_to
use Rattle.step_relation.specs.Given as like

-- the row that is written, if one is, has P
abbrev Puts : (Row → Type 0) → Change → Type 0
Puts P (PutRow r) = P r
Puts P (PutStack st) = Unit {0}
Puts P (DropStack name) = Unit {0}
Puts P (DropRow n) = Unit {0}
Puts P (PutGraph name g) = Unit {0}
Puts P (PutPoint p) = Unit {0}
Puts P (Send l) = Unit {0}
Puts P (Drop n) = Unit {0}
Puts P (PutJob j) = Unit {0}
Puts P (EndJob e) = Unit {0}
Puts P (Enlist e) = Unit {0}
Puts P (Stop e) = Unit {0}
Puts P (change_to.Numbers n) = Unit {0}
Puts P (PutPast p) = Unit {0}
Puts P (Release t) = Unit {0}

abbrev AllPut : (Row → Type 0) → List Change → Type 0
AllPut P cs = AllByRecursion (Puts P) cs

-- its act is no rollback
abbrev IsActed : Row → Type 0
IsActed r = r.act ≢ Rollback

as_is : (P : Row → Type 0) (cs ds : List Change) → cs ≡ ds → AllPut P ds → AllPut P cs
as_is P cs ds is fit = subst (AllPut P) (sym is) fit

acted : (a b : Act) → a ≡ b → b ≢ Rollback → a ≢ Rollback
acted a b is not = λ at. not (sym is ∙ at)

created : Create ≢ Rollback
created is = cc

updated : Update ≢ Rollback
updated is = cc

deleted : Delete ≢ Rollback
deleted is = cc

fresh_act : Init ≢ Rollback
fresh_act is = cc

draw_acts : (next : Numbers) (ls : List Letter) (rest : List Change) → AllPut IsActed rest
    → AllPut IsActed (draw_letters next ls rest)
draw_acts next [] rest fit = fit
draw_acts next (l ∷ ls) rest fit = (tt, fit)

send_acts : (ls : List Letter) (rest : List Change) → AllPut IsActed rest → AllPut IsActed (map Send ls ++ rest)
send_acts [] rest fit = fit
send_acts (l ∷ ls) rest fit = (tt, send_acts ls rest fit)

sent_acts : (ls : List Letter) → AllPut IsActed (map Send ls)
sent_acts [] = tt
sent_acts (l ∷ ls) = (tt, sent_acts ls)

point_acts : (ps : List Point) (rest : List Change) → AllPut IsActed rest → AllPut IsActed (map PutPoint ps ++ rest)
point_acts [] rest fit = fit
point_acts (p ∷ ps) rest fit = (tt, point_acts ps rest fit)

row_acts : (rs : List Row) (rest : List Change) → ((r : Row) → Contains rs r → IsActed r) → AllPut IsActed rest
    → AllPut IsActed (map PutRow rs ++ rest)
row_acts [] rest each fit = fit
row_acts (r ∷ rs) rest each fit = (each r (in_head rs r), row_acts rs rest (λ q c. each q (in_tail rs r q c)) fit)

failure_acts : (f : Option Stack) → AllPut IsActed (mark_failed f)
failure_acts None = tt
failure_acts (Some st) = (tt, tt)

mark_acts : (st : Stack) → AllPut IsActed (mark_complete st)
mark_acts st = by st.act where
  by : (a : Act) → AllPut IsActed (mark_complete (record st { act = a }))
  by Delete = (tt, tt)
  by Init = (tt, tt)
  by Create = (tt, tt)
  by Update = (tt, tt)
  by Rollback = (tt, tt)

module _ (s : StateData) (acts : (n : ℕ) (r : Row) → row_at s.rows n ≡ Some r → r.act ≢ Rollback) where
  lock_acts : (e n : ℕ) (r : Option Row) → row_at s.rows n ≡ r → (rest : List Change) → AllPut IsActed rest
      → AllPut IsActed (lock r e rest)
  lock_acts e n None at rest fit = fit
  lock_acts e n (Some r) at rest fit = (acts n r at, fit)

  unlock_acts : (n : ℕ) (r : Option Row) → row_at s.rows n ≡ r → (rest : List Change) → AllPut IsActed rest
      → AllPut IsActed (unlock r rest)
  unlock_acts n None at rest fit = fit
  unlock_acts n (Some r) at rest fit = (acts n r at, fit)

  released_acts : (f n : ℕ) (r : Option Row) → row_at s.rows n ≡ r → (ls : List Letter)
      → AllPut IsActed (released_changes s f r ls)
  released_acts f n r at ls = draw_acts s.next ls _ (unlock_acts n r at _ (tt, sent_acts ls))

  failed_acts : (e n : ℕ) (r : Row) → row_at s.rows n ≡ Some r → (ls : List Letter) (f : Option Stack)
      → AllPut IsActed (failed_changes s e r ls f)
  failed_acts e n r at ls f =
      draw_acts s.next ls _ (acts n r at, (tt, send_acts ls (mark_failed f) (failure_acts f)))

  move_acts : (e : ℕ) (given : Given) (f : Option Stack) (cs : List Change) (es : List Entry) → Move s e given f cs es
      → AllPut IsActed cs
  move_acts e _ _ cs es (take_dropped l _ _ t i c d) = as_is IsActed cs _ c (tt, tt)
  move_acts e _ _ cs es (take_free k _ _ free c d) = as_is IsActed cs _ c
      (lock_acts e k.meant.target k.meant.fresh.row k.meant.fresh.found _ (tt, (tt, tt)))
  move_acts e _ _ cs es (take_stolen k g j _ _ holds n c d) = as_is IsActed cs _ c
      (lock_acts e k.meant.target k.meant.fresh.row k.meant.fresh.found _ (tt, (tt, (tt, tt))))
  move_acts e _ _ cs es (begin_overrun j _ _ v k c d) =
      as_is IsActed cs _ c (released_acts e j.row k.row k.found k.letters)
  move_acts e _ _ cs es (begin_faulted k code path f _ _ falls c d) =
      as_is IsActed cs _ c (acts k.job.row k.row k.found, (tt, failure_acts f))
  move_acts e _ _ cs es (begin_init k props effect _ _ i c d) = as_is IsActed cs _ c (created, (tt, tt))
  move_acts e _ _ cs es (begin_same k props effect _ _ n i x c d) =
      as_is IsActed cs _ c (acts k.job.row k.row k.found, (tt, tt))
  move_acts e _ _ cs es (begin_in_place k props effect _ _ n i x c d) = as_is IsActed cs _ c (updated, (tt, tt))
  move_acts e _ _ cs es (begin_resumed k props effect _ _ n i x c d) = as_is IsActed cs _ c (tt, tt)
  move_acts e _ _ cs es (begin_failed k props effect _ _ n i x c d) =
      as_is IsActed cs _ c (acts k.job.row k.row k.found, (tt, tt))
  move_acts e _ _ cs es (begin_replaced k props effect _ _ n x c d) =
      as_is IsActed cs _ c (tt, (created, (acts k.job.row k.row k.found, (tt, tt))))
  move_acts e _ _ cs es (clean_gone k _ _ at c d) = as_is IsActed cs _ c (tt, tt)
  move_acts e _ _ cs es (clean_kept k r _ _ at x c d) = as_is IsActed cs _ c (tt, tt)
  move_acts e _ _ cs es (clean_init k r _ _ at x i c d) = as_is IsActed cs _ c (tt, (tt, tt))
  move_acts e _ _ cs es (clean_stuck k r _ _ at x i c d) = as_is IsActed cs _ c (acts k.job.row r at, (tt, tt))
  move_acts e _ _ cs es (clean_retained k r _ _ at x n i p c d) = as_is IsActed cs _ c (tt, (tt, (tt, tt)))
  move_acts e _ _ cs es (clean_deleted k r _ _ at x n i p c d) = as_is IsActed cs _ c (deleted, (tt, tt))
  move_acts e _ _ cs es (ask_begun k asked _ _ a c d) = as_is IsActed cs _ c (tt, tt)
  move_acts e _ _ cs es (ask_failed k asked g reason ls f _ _ a x falls c d) =
      as_is IsActed cs _ c (failed_acts e k.job.row k.row k.found ls f)
  move_acts e _ _ cs es (poll_waits k asked _ _ a c d) = as_is IsActed cs _ c tt
  move_acts e _ _ cs es (poll_ready k facts _ _ a c d) =
      as_is IsActed cs _ c (acts k.job.row k.row k.found, (tt, tt))
  move_acts e _ _ cs es (poll_gone k _ _ a c d) = as_is IsActed cs _ c (tt, (tt, tt))
  move_acts e _ _ cs es (poll_failed k asked g reason ls f _ _ a x falls c d) =
      as_is IsActed cs _ c (failed_acts e k.job.row k.row k.found ls f)
  move_acts e _ _ cs es (finish_overrun j _ _ v k c d) =
      as_is IsActed cs _ c (released_acts e j.row k.row k.found k.letters)
  move_acts e _ _ cs es (finish k _ _ n c d) = as_is IsActed cs _ c (draw_acts s.next (ready_letters s e k) _
      (unlock_acts k.job.row k.fresh.row k.fresh.found _ (
        tt,
        point_acts (passed_points k.fresh.graph k.job.letter.node (given_input s e k) k.succs) _
            (send_acts (ready_letters s e k) [] tt),
      )))
  move_acts e _ _ cs es (finish_last k _ _ y c d) = as_is IsActed cs _ c (draw_acts s.next (ready_letters s e k) _
      (unlock_acts k.job.row k.fresh.row k.fresh.found _ (
        tt,
        point_acts (passed_points k.fresh.graph k.job.letter.node (given_input s e k) k.succs) _
            (send_acts (ready_letters s e k) _ (mark_acts k.fresh.stack)),
      )))
  move_acts e _ _ cs es (takeover_overrun g j _ _ t k c d) =
      as_is IsActed cs _ c (released_acts g j.row k.row k.found k.letters)
  move_acts e _ _ cs es (takeover_fresh g k _ _ c d) = as_is IsActed cs _ c
      (released_acts g k.job.row k.fresh.row k.fresh.found (relayed_letter s e g k ∷ []))

-- the rows that a command makes are at INIT
new_acts : (s : StateData) (own : List ℕ) (number next : ℕ) (items : List Item) (ns : List ℕ) (rs : List Row)
    → Chooses s own number next items ns rs → (r : Row) → Contains rs r → IsActed r
new_acts s own number next _ _ _ (none _) r c = absurd (no_member r c)
new_acts s own number next _ _ _ (current _ item items q chosen rows is on) r c =
    new_acts s own number next items chosen rows on r c
new_acts s own number next _ _ _ (fresh _ item items chosen rows is on) r c = elim (cons_cases rows _ r c) [
  | inl new ↦ acted r.act Init (ap (λ (x : Row). x.act) new) fresh_act
  | inr later ↦ new_acts s own number (next + 1) items chosen rows on r later
]

laid_acts : (s : StateData) (name : List ℕ) (items : List Item) (it : Sets) (k : Lays s name items)
    → AllPut IsActed (laid_changes s name items it k)
laid_acts s name items it k = (
  tt,
  (
    tt,
    (
      tt,
      row_acts k.rows _ (new_acts s name s.next.trav s.next.row items k.chosen k.rows k.chooses)
          (tt, send_acts (first_letters s name items it k) _ (settled k.graph.nodes)),
    ),
  ),
) where
  settled : (nodes : List Node) → AllPut IsActed (settles_at_once nodes s name it)
  settled (node ∷ nodes) = tt
  settled [] = mark_acts (stack_set s name it InProgress)

command_acts : (s : StateData) (cs : List Change) (es : List Entry) → Command s cs es → AllPut IsActed cs
command_acts s cs es (create name plan rollback k p none_ few room c d) =
    as_is IsActed cs _ c (laid_acts s name plan.items _ k)
command_acts s cs es (update st plan rollback k p at act room c d) =
    as_is IsActed cs _ c (laid_acts s st.name plan.items _ k)
command_acts s cs es (delete st k at c d) = as_is IsActed cs _ c (laid_acts s st.name [] _ k)
command_acts s cs es (cancel st k at forward under room c d) = as_is IsActed cs _ c (laid_acts s st.name _ _ k)

turn_acts : (s : StateData) → ((n : ℕ) (r : Row) → row_at s.rows n ≡ Some r → r.act ≢ Rollback)
    → (e : ℕ) (given : Given) (cs : List Change) (es : List Entry) → Turn s e given cs es → AllPut IsActed cs
turn_acts s acts e given cs es t = let m = by_move s e given cs es t in by m m.whole where
  by : (m : ByMove s e given cs es) → Whole s e m.failed m.first m.firsts cs es → AllPut IsActed cs
  by m (stops p c d) = as_is IsActed cs _ c (move_acts s acts e given m.failed m.first m.firsts m.move)
  by m (follows st last lasts is due k c d) = as_is IsActed cs _ c
      (all_append (Puts IsActed) m.first last (move_acts s acts e given m.failed m.first m.firsts m.move)
      (as_is IsActed last _ k.changes (laid_acts (applied m.first s) k.failed.name _ _ k.lays)))

-- engines that stop and start write no row
abbrev IsNone : Row → Type 0
IsNone r = ⊥

starts_none : (first count : ℕ) → AllPut IsNone (map Enlist (engines_from first count))
starts_none first zero = tt
starts_none first (suc count) = (tt, starts_none (first + 1) count)

stops_none : (es : List ℕ) (rest : List Change) → AllPut IsNone rest → AllPut IsNone (map Stop es ++ rest)
stops_none [] rest fit = fit
stops_none (e ∷ es) rest fit = (tt, stops_none es rest fit)

-- what isn't worn has keys below 2^62
small : (cs : List Change) → ¬ IsWorn cs → (r : Row) → Contains cs (PutRow r) → r.key < 2 ^ 62
small cs fits r c = elim (below_or_not r.key (2 ^ 62)) [
  | inl below ↦ below
  | inr over ↦ absurd (fits (record { change = PutRow r; among = c; overflows = key r over }))
]

no_rows : (cs : List Change) → AllPut IsNone cs → AreKeepable cs
no_rows cs fit r c = absurd (all_contains (Puts IsNone) cs (PutRow r) fit c)

rows_of : (cs : List Change) → ¬ IsWorn cs → AllPut IsActed cs → AreKeepable cs
rows_of cs fits acts r c = record {
  key = small cs fits r c;
  act = all_contains (Puts IsActed) cs (PutRow r) acts c;
}

nothing : (cs : List Change) → cs ≡ [] → AreKeepable cs
nothing cs is = no_rows cs (as_is IsNone cs [] is tt)

pub steps_are_keepable : StepsAreKeepable
steps_are_keepable o h s cs es w (command it fits) = rows_of cs fits (command_acts s cs es it)
steps_are_keepable o h s cs es w (turn e given it fits) = rows_of cs
    (λ worn. fits (record { other = given; like = like.same given; changes = cs; entries = es; turn = it; worn = worn }))
    (turn_acts s (λ n r at. (w.jobs.rows n r at).act) e given cs es it)
steps_are_keepable o h s cs es w (unstored e given lost all call it some fits first c d) = nothing cs c
steps_are_keepable o h s cs es w (stop e live c d) = no_rows cs (as_is IsNone cs _ c (tt, tt))
steps_are_keepable o h s cs es w (enlist few below c d) = no_rows cs (as_is IsNone cs _ c (tt, (tt, tt)))
steps_are_keepable o h s cs es w (restart count some few below c d) = no_rows cs (as_is IsNone cs _ c
    (tt, stops_none s.live _ (starts_none s.next.engine count)))
steps_are_keepable o h s cs es w (note it noted c d) = nothing cs c
steps_are_keepable o h s cs es w (close c d) = nothing cs c
