-- After every step each row fits its act and status.
use Rattle.std.proofs.Common.{List, ap, subst, sym, ◌∙◌}
use Rattle.std.specs.Prelude.{List, None, Option, Some, [], map, ℕ, ◌+◌, ◌∷◌, ◌≡◌}
use Rattle.heat_plan.specs.declared.item.Item.{Item}
use Rattle.heat_plan.specs.declared.phase.Act.{Act}
use Rattle.heat_plan.specs.declared.phase.Act.TheVariants.{Create, Delete, Init, Rollback, Update}
use Rattle.heat_plan.specs.declared.phase.Status.TheVariants.{InProgress}
use Rattle.traversal_graph.specs.declared.shape.Node.{Node}
use Rattle.provider.specs.Table.{begun, going}
use Rattle.row_table.specs.Rows.{row_at}
use Rattle.row_table.specs.declared.row.Row.{Row}
use Rattle.mail_table.specs.declared.mail.Letter.{Letter}
use Rattle.mail_table.specs.declared.mail.Stage.{Stage}
use Rattle.mail_table.specs.declared.mail.Stage.TheVariants.{Asking, Polling}
use Rattle.step_relation.specs.Changes.{applied}
use Rattle.step_relation.specs.State.{StateData}
use Rattle.step_relation.specs.declared.Change.{Change}
use Rattle.step_relation.specs.declared.Change.TheVariants.{Enlist, PutPoint, PutRow, Send, Stop}
use Rattle.step_relation.specs.declared.Stack.{Stack}
use Rattle.step_relation.specs.Asks.{Calls, failed_changes}
use Rattle.step_relation.specs.Commands.{Chooses, Sets, current, first_letters, fresh, laid_changes, none}
use Rattle.step_relation.specs.Commands.{settles_at_once, stack_set}
use Rattle.step_relation.specs.Finishes.{Finishes, finished_changes, given_input, ready_letters}
use Rattle.step_relation.specs.Inputs.{passed_points}
use Rattle.step_relation.specs.Moves.{ask_begun, ask_failed, begin_failed, begin_faulted, begin_in_place, begin_init}
use Rattle.step_relation.specs.Moves.{begin_overrun, begin_replaced, begin_resumed, begin_same, clean_deleted}
use Rattle.step_relation.specs.Moves.{clean_gone, clean_init, clean_kept, clean_retained, clean_stuck, finish}
use Rattle.step_relation.specs.Moves.{finish_last, finish_overrun, poll_failed, poll_gone, poll_ready, poll_waits}
use Rattle.step_relation.specs.Moves.{take_dropped, take_free, take_stolen, takeover_fresh, takeover_overrun}
use Rattle.step_relation.specs.Steps.{engines_from, restart_changes}
use Rattle.step_relation.specs.Takes.{relayed_letter, released_changes}
use Rattle.step_relation.specs.Writes.{lock, mark_complete, mark_failed, unlock}
use Rattle.step_relation.specs.Newest.{newest}
use Rattle.step_relation.specs.MailFits.{IsUnderWay, asks, polls}
use Rattle.step_relation.specs.RowsFit.{RowFits}
use Rattle.step_relation.specs.Sound.{Standing}
use Rattle.history_laws.proofs.tables.Rows.{same_some}
use Rattle.history_laws.proofs.rows.RowKinds.{created_fits, deleted_fits, failed_fits, locked_fits, new_fits, ready_fits}
use Rattle.history_laws.proofs.rows.RowKinds.{replaced_fits, replacement_fits, same_fits, unlocked_fits, updated_fits}
use Rattle.history_laws.proofs.rows.Written.{AreFine, EachIs, fine_applied, fine_both, fine_drawn, fine_mark_failed, fine_points}
use Rattle.history_laws.proofs.rows.Written.{fine_sends}
use Rattle.history_laws.specs.rows.Laws.{EachRowFitsByCommands, EachRowFitsByEngines, EachRowFitsByMoves}

module _ (s : StateData) (h : Standing s) where
  old : EachIs RowFits s.rows
  old = h.shape.each_row

  by_changes : (cs ds : List Change) → cs ≡ ds → AreFine RowFits ds → EachIs RowFits (applied cs s).rows
  by_changes cs ds is fine = fine_applied RowFits cs s old (subst (AreFine RowFits) (sym is) fine)

  lock_fine : (e : ℕ) (row : Option Row) (n : ℕ) (rest : List Change) → row_at s.rows n ≡ row → AreFine RowFits rest
      → AreFine RowFits (lock row e rest)
  lock_fine e None n rest at fine = fine
  lock_fine e (Some r) n rest at fine = (locked_fits e r (old n r at), fine)

  unlock_fine : (row : Option Row) (n : ℕ) (rest : List Change) → row_at s.rows n ≡ row → AreFine RowFits rest
      → AreFine RowFits (unlock row rest)
  unlock_fine None n rest at fine = fine
  unlock_fine (Some r) n rest at fine = (unlocked_fits r (old n r at), fine)

  released_fine : (f n : ℕ) (row : Option Row) (letters : List Letter) → row_at s.rows n ≡ row
      → AreFine RowFits (released_changes s f row letters)
  released_fine f n row letters at =
      fine_drawn RowFits s.next letters _ (unlock_fine row n _ at (tt, fine_sends RowFits letters))

  -- a row that a call is for is under way
  under_way : (e : ℕ) (stage : Stage) (k : Calls s e stage) → IsUnderWay stage → k.row.status ≡ InProgress
  under_way e stage k way =
      let u = h.shape.jobs.under_way e k.job k.works.its (subst IsUnderWay (sym k.works.stage_is) way) in
      ap (λ (r : Row). r.status) (same_some k.row u.row k.found u.found) ∙ u.status

  failed_fine : (e : ℕ) (stage : Stage) (k : Calls s e stage) (letters : List Letter) (failed : Option Stack)
      → IsUnderWay stage
      → AreFine RowFits (failed_changes s e k.row letters failed)
  failed_fine e stage k letters failed way =
      fine_drawn RowFits s.next letters _ (
        failed_fits k.row (old k.job.row k.row k.found) (under_way e stage k way),
        (
          tt,
          fine_both RowFits (map Send letters) (mark_failed failed) (fine_sends RowFits letters)
              (fine_mark_failed RowFits failed),
        ),
      )

  finished_fine : (e : ℕ) (k : Finishes s e) (mark : List Change) → AreFine RowFits mark
      → AreFine RowFits (finished_changes s e k mark)
  finished_fine e k mark fine =
      fine_drawn RowFits s.next (ready_letters s e k) _ (unlock_fine k.fresh.row k.job.row _ k.fresh.found (
        tt,
        fine_both RowFits (map PutPoint (passed_points k.fresh.graph k.job.letter.node (given_input s e k) k.succs)) _
            (fine_points RowFits (passed_points k.fresh.graph k.job.letter.node (given_input s e k) k.succs))
            (fine_both RowFits (map Send (ready_letters s e k)) mark (fine_sends RowFits (ready_letters s e k)) fine),
      ))

  complete_fine : (st : Stack) → AreFine RowFits (mark_complete st)
  complete_fine st = by st.act where
    by : (act : Act) → AreFine RowFits (mark_complete (record st { act = act }))
    by Init = (tt, tt)
    by Create = (tt, tt)
    by Update = (tt, tt)
    by Delete = (tt, tt)
    by Rollback = (tt, tt)

pub each_row_moves : EachRowFitsByMoves
each_row_moves judges s e given failed cs es h (take_dropped l _ _ next idle is _) tied =
    by_changes s h cs _ is (tt, tt)
each_row_moves judges s e given failed cs es h (take_free k _ _ free is _) tied =
    by_changes s h cs _ is (lock_fine s h e k.meant.fresh.row k.meant.target _ k.meant.fresh.found (tt, (tt, tt)))
each_row_moves judges s e given failed cs es h (take_stolen k f j _ _ holder stopped is _) tied =
    by_changes s h cs _ is (lock_fine s h e k.meant.fresh.row k.meant.target _ k.meant.fresh.found (tt, (tt, (tt, tt))))
each_row_moves judges s e given failed cs es h (begin_overrun j _ _ works k is _) tied =
    by_changes s h cs _ is (released_fine s h e j.row k.row k.letters k.found)
each_row_moves judges s e given failed cs es h (begin_faulted k code path _ _ _ falls is _) tied =
    by_changes s h cs _ is (
      unlocked_fits k.row (h.shape.each_row k.job.row k.row k.found),
      (tt, fine_mark_failed RowFits failed),
    )
each_row_moves judges s e given failed cs es h (begin_init k props effect _ _ init is _) tied =
    by_changes s h cs _ is (
      created_fits k.row k.item k.stack.trav props k.required
          (h.shape.each_row k.job.row k.row k.found) init,
      (tt, tt),
    )
each_row_moves judges s e given failed cs es h (begin_same k props effect _ _ begun complete same is _) tied =
    by_changes s h cs _ is (
      same_fits k.row k.item k.stack.trav k.required
          (h.shape.each_row k.job.row k.row k.found),
      (tt, tt),
    )
each_row_moves judges s e given failed cs es h (begin_in_place k props effect _ _ begun complete soft is _) tied =
    by_changes s h cs _ is (updated_fits k.row k.item k.stack.trav props k.required, (tt, tt))
each_row_moves judges s e given failed cs es h (begin_resumed k props effect _ _ begun way newest is _) tied =
    by_changes s h cs _ is (tt, tt)
each_row_moves judges s e given failed cs es h (begin_failed k props effect _ _ begun fell newest is _) tied =
    by_changes s h cs _ is (unlocked_fits k.row (h.shape.each_row k.job.row k.row k.found), (tt, tt))
each_row_moves judges s e given failed cs es h (begin_replaced k props effect _ _ begun must is _) tied =
    by_changes s h cs _ is (
      tt,
      (
        replacement_fits s.next.row e k.stack.trav k.stack.name k.item props k.required k.row,
        (replaced_fits s.next.row k.row (h.shape.each_row k.job.row k.row k.found), (tt, tt)),
      ),
    )
each_row_moves judges s e given failed cs es h (clean_gone k _ _ gone is _) tied = by_changes s h cs _ is (tt, tt)
each_row_moves judges s e given failed cs es h (clean_kept k r _ _ at kept is _) tied = by_changes s h cs _ is (tt, tt)
each_row_moves judges s e given failed cs es h (clean_init k r _ _ at drop init is _) tied =
    by_changes s h cs _ is (tt, (tt, tt))
each_row_moves judges s e given failed cs es h (clean_stuck k r _ _ at drop stuck is _) tied =
    by_changes s h cs _ is (unlocked_fits r (h.shape.each_row k.job.row r at), (tt, tt))
each_row_moves judges s e given failed cs es h (clean_retained k r _ _ at drop begun free retain is _) tied =
    by_changes s h cs _ is (tt, (tt, (tt, tt)))
each_row_moves judges s e given failed cs es h (clean_deleted k r _ _ at drop begun free other is _) tied =
    by_changes s h cs _ is (deleted_fits r k.stack.trav, (tt, tt))
each_row_moves judges s e given failed cs es h (ask_begun k asked _ _ its is _) tied = by_changes s h cs _ is (tt, tt)
each_row_moves judges s e given failed cs es h
    (ask_failed k asked answered reason letters _ _ _ its refuses falls is _) tied =
    by_changes s h cs _ is (failed_fine s h e Asking k letters failed asks)
each_row_moves judges s e given failed cs es h (poll_waits k asked _ _ its is _) tied = by_changes s h cs _ is tt
each_row_moves judges s e given failed cs es h (poll_ready k facts _ _ stays is _) tied =
    by_changes s h cs _ is (ready_fits k.row facts (h.shape.each_row k.job.row k.row k.found) stays, (tt, tt))
each_row_moves judges s e given failed cs es h (poll_gone k _ _ going is _) tied = by_changes s h cs _ is (tt, (tt, tt))
each_row_moves judges s e given failed cs es h
    (poll_failed k asked answered reason letters _ _ _ its refuses falls is _) tied =
    by_changes s h cs _ is (failed_fine s h e Polling k letters failed polls)
each_row_moves judges s e given failed cs es h (finish_overrun j _ _ works k is _) tied =
    by_changes s h cs _ is (released_fine s h e j.row k.row k.letters k.found)
each_row_moves judges s e given failed cs es h (finish k _ _ more is _) tied =
    by_changes s h cs _ is (finished_fine s h e k [] tt)
each_row_moves judges s e given failed cs es h (finish_last k _ _ all is _) tied =
    by_changes s h cs _ is (finished_fine s h e k (mark_complete k.fresh.stack) (complete_fine s h k.fresh.stack))
each_row_moves judges s e given failed cs es h (takeover_overrun f j _ _ next k is _) tied =
    by_changes s h cs _ is (released_fine s h f j.row k.row k.letters k.found)
each_row_moves judges s e given failed cs es h (takeover_fresh f k _ _ is _) tied =
    by_changes s h cs _ is (released_fine s h f k.job.row k.fresh.row (relayed_letter s e f k ∷ []) k.fresh.found)

-- the rows that a command adds
chosen_fine : (s : StateData) (stack : List ℕ) (trav next : ℕ) (items : List Item) (chosen : List ℕ) (rows : List Row)
    → Chooses s stack trav next items chosen rows → AreFine RowFits (map PutRow rows)
chosen_fine s stack trav next _ _ _ (none _) = tt
chosen_fine s stack trav next _ _ _ (current _ item items r chosen rows is rest) =
    chosen_fine s stack trav next items chosen rows rest
chosen_fine s stack trav next _ _ _ (fresh _ item items chosen rows no_ rest) =
    (new_fits stack trav next item, chosen_fine s stack trav (next + 1) items chosen rows rest)

settled_fine : (s : StateData) (h : Standing s) (nodes : List Node) (name : List ℕ) (it : Sets)
    → AreFine RowFits (settles_at_once nodes s name it)
settled_fine s h [] name it = complete_fine s h (stack_set s name it InProgress)
settled_fine s h (node ∷ nodes) name it = tt

pub each_row_commands : EachRowFitsByCommands
each_row_commands s name items it k h ordered =
    fine_applied RowFits (laid_changes s name items it k) s h.shape.each_row (
      tt,
      (
        tt,
        (
          tt,
          fine_both RowFits (map PutRow k.rows) _
              (chosen_fine s name s.next.trav s.next.row items k.chosen k.rows k.chooses) (
                tt,
                fine_both RowFits (map Send (first_letters s name items it k)) _
                    (fine_sends RowFits (first_letters s name items it k))
                    (settled_fine s h k.graph.nodes name it),
              ),
        ),
      ),
    )

restart_fine : (es : List ℕ) → AreFine RowFits (map Stop es)
restart_fine [] = tt
restart_fine (e ∷ es) = (tt, restart_fine es)

enlist_fine : (es : List ℕ) → AreFine RowFits (map Enlist es)
enlist_fine [] = tt
enlist_fine (e ∷ es) = (tt, enlist_fine es)

pub each_row_engines : EachRowFitsByEngines
each_row_engines = record {
  stop = λ s e h live. h.shape.each_row;
  enlist = λ s h. h.shape.each_row;
  restart = λ s count h. fine_applied RowFits (restart_changes s count) s h.shape.each_row (
    tt,
    fine_both RowFits (map Stop s.live) _ (restart_fine s.live)
        (enlist_fine (engines_from s.next.engine count)),
  );
}
