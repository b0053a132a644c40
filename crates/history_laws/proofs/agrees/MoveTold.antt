-- Each move has an outcome, and so what its history tells of it holds.
use Rattle.std.proofs.Common.{List, refl, subst, sym}
use Rattle.std.specs.Prelude.{List, Option, [], ℕ, ◌∷◌, ◌≡◌}
use Rattle.mail_table.specs.declared.mail.Stage.TheVariants.{Asking, Ending, Polling}
use Rattle.step_relation.specs.Changes.{applied}
use Rattle.step_relation.specs.State.{StateData}
use Rattle.step_relation.specs.declared.Change.{Change}
use Rattle.step_relation.specs.declared.Entry.{Entry}
use Rattle.step_relation.specs.declared.Stack.{Stack}
use Rattle.step_relation.specs.Asks.{fault_of}
use Rattle.step_relation.specs.Given.{Given}
use Rattle.step_relation.specs.Moves.{Move, ask_begun, ask_failed, begin_failed, begin_faulted, begin_in_place}
use Rattle.step_relation.specs.Moves.{begin_init, begin_overrun, begin_replaced, begin_resumed, begin_same}
use Rattle.step_relation.specs.Moves.{clean_deleted, clean_gone, clean_init, clean_kept, clean_retained, clean_stuck}
use Rattle.step_relation.specs.Moves.{finish, finish_last, finish_overrun, poll_failed, poll_gone, poll_ready}
use Rattle.step_relation.specs.Moves.{poll_waits, take_dropped, take_free, take_stolen, takeover_fresh}
use Rattle.step_relation.specs.Moves.{takeover_overrun}
use Rattle.step_relation.specs.Takes.{relayed_letter}
use Rattle.step_relation.specs.Opening.{Opening}
use Rattle.step_relation.specs.Agrees.{Agrees}
use Rattle.step_relation.specs.Groups.{ToldByMoves}
use Rattle.step_relation.specs.MailFits.{asks, polls}
use Rattle.step_relation.specs.Sound.{Sound}
use Rattle.step_relation.specs.Tells.{ReleasedFits, Tells}
use Rattle.history_laws.proofs.agrees.Asked.{asked_outcome, asks_gone, asks_poll, calls_for, failed_outcome, gone_outcome}
use Rattle.history_laws.proofs.agrees.Asked.{ready_outcome, waits_outcome}
use Rattle.history_laws.proofs.agrees.Begun.{deleted_outcome, faulted_outcome, in_place_outcome, init_outcome, left_outcome}
use Rattle.history_laws.proofs.agrees.Begun.{onward_outcome, purged_outcome, replaced_outcome, retained_outcome, same_outcome}
use Rattle.history_laws.proofs.agrees.Finished.{finished_outcome, last_outcome}
use Rattle.history_laws.proofs.agrees.Outcome.{Outcome, outcome_agrees, outcome_released, outcome_tells}
use Rattle.history_laws.proofs.agrees.Suits.{at_asking, at_polling}
use Rattle.history_laws.proofs.agrees.Taken.{dropped_outcome, free_outcome, released_outcome, stolen_outcome}
use Rattle.heat_plan.specs.declared.calls.Answered.TheVariants as answer
use Rattle.heat_plan.specs.declared.calls.Request.TheVariants as request

module _ (o : Opening) (h : List Entry) (s : StateData) (e : ℕ) (x : Sound o h s) where
  by_changes : (cs left : List Change) (es told_ : List Entry) → cs ≡ left → es ≡ told_
      → Outcome o h s (applied left s) e told_
      → Outcome o h s (applied cs s) e es
  by_changes cs left es told_ changes entries k =
      subst (λ (c : List Change). Outcome o h s (applied c s) e es) (sym changes)
      (subst (λ (y : List Entry). Outcome o h s (applied left s) e y) (sym entries) k)

  pub move_outcome : (given : Given) (failed_ : Option Stack) (cs : List Change) (es : List Entry)
      → Move s e given failed_ cs es
      → Outcome o h s (applied cs s) e es
  move_outcome _ _ _ _ (take_dropped l cs es next idle c d) = by_changes cs _ es _ c d (dropped_outcome o h s e x l)
  move_outcome _ _ _ _ (take_free k cs es free c d) = by_changes cs _ es _ c d
      (free_outcome o h s e x k free k.meant.fresh.row k.meant.fresh.found)
  move_outcome _ _ _ _ (take_stolen k f j cs es held stopped c d) =
      by_changes cs _ es _ c d (stolen_outcome o h s e x k f j held k.meant.fresh.row k.meant.fresh.found)
  move_outcome _ _ _ _ (begin_overrun j cs es own k c d) = by_changes cs _ es _ c d
      (released_outcome o h s e x e j own.its k.row k.found k.letters)
  move_outcome _ _ _ _ (begin_faulted k code path failed_ cs es falls c d) =
      by_changes cs _ es _ c d (faulted_outcome o h s e x k.job k.row
      (fault_of k.item.name k.row.no code path) k.works.its k.found failed_ falls)
  move_outcome _ _ _ _ (begin_init k props effect cs es init c d) =
      by_changes cs _ es _ c d (init_outcome o h s e x k props init)
  move_outcome _ _ _ _ (begin_same k props effect cs es begun_ status same c d) =
      by_changes cs _ es _ c d (same_outcome o h s e x k props)
  move_outcome _ _ _ _ (begin_in_place k props effect cs es begun_ status soft c d) =
      by_changes cs _ es _ c d (in_place_outcome o h s e x k props begun_ status)
  move_outcome _ _ _ _ (begin_resumed k props effect cs es begun_ status trav c d) =
      by_changes cs _ es _ c d (onward_outcome o h s e x k.job k.works.its Asking (λ i. cc))
  move_outcome _ _ _ _ (begin_failed k props effect cs es begun_ status trav c d) =
      by_changes cs _ es _ c d (left_outcome o h s e x k.job k.row k.works.its k.found)
  move_outcome _ _ _ _ (begin_replaced k props effect cs es begun_ must c d) =
      by_changes cs _ es _ c d (replaced_outcome o h s e x k props)
  move_outcome _ _ _ _ (clean_gone k cs es none c d) = by_changes cs _ es _ c d
      (onward_outcome o h s e x k.job k.works.its Ending (λ i. cc))
  move_outcome _ _ _ _ (clean_kept k r cs es found keeps c d) =
      by_changes cs _ es _ c d (onward_outcome o h s e x k.job k.works.its Ending (λ i. cc))
  move_outcome _ _ _ _ (clean_init k r cs es found keeps init c d) =
      by_changes cs _ es _ c d (purged_outcome o h s e x k.job r k.works.its found init)
  move_outcome _ _ _ _ (clean_stuck k r cs es found keeps stuck c d) =
      by_changes cs _ es _ c d (left_outcome o h s e x k.job r k.works.its found)
  move_outcome _ _ _ _ (clean_retained k r cs es found keeps begun_ stuck policy c d) =
      by_changes cs _ es _ c d (retained_outcome o h s e x k.job r k.works.its found policy)
  move_outcome _ _ _ _ (clean_deleted k r cs es found keeps begun_ stuck policy c d) =
      by_changes cs _ es _ c d (deleted_outcome o h s e x k.job r k.works.its found k.stack.trav policy)
  move_outcome _ _ _ _ (ask_begun k asked cs es asks_ c d) =
      by_changes cs _ es _ c d (asked_outcome o h s e x k.row asked
      (calls_for s e Asking k asked asks (at_asking refl asks_)) asks_)
  move_outcome _ _ _ _ (ask_failed k asked given reason letters failed_ cs es asks_ refuses falls c d) =
      by_changes cs _ es _ c d (failed_outcome o h s e x k.row asked given
      (calls_for s e Asking k asked asks (at_asking refl asks_)) letters failed_ reason falls)
  move_outcome _ _ _ _ (poll_waits k asked cs es polls_ c d) =
      by_changes cs _ es _ c d (waits_outcome o h s e x k.row asked answer.NotYet
      (calls_for s e Polling k asked polls (at_polling refl polls_)))
  move_outcome _ _ _ _ (poll_ready k facts cs es ne c d) =
      by_changes cs _ es _ c d (ready_outcome o h s e x k.row facts
      (calls_for s e Polling k request.Poll polls (at_polling refl (asks_poll k.row ne))) k.works.stage_is ne)
  move_outcome _ _ _ _ (poll_gone k cs es act c d) =
      by_changes cs _ es _ c d (gone_outcome o h s e x k.row
      (calls_for s e Polling k request.Gone polls (at_polling refl (asks_gone k.row act))))
  move_outcome _ _ _ _ (poll_failed k asked given reason letters failed_ cs es polls_ refuses falls c d) =
      by_changes cs _ es _ c d (failed_outcome o h s e x k.row asked given
      (calls_for s e Polling k asked polls (at_polling refl polls_)) letters failed_ reason falls)
  move_outcome _ _ _ _ (finish_overrun j cs es own k c d) = by_changes cs _ es _ c d
      (released_outcome o h s e x e j own.its k.row k.found k.letters)
  move_outcome _ _ _ _ (finish k cs es open_ c d) = by_changes cs _ es _ c d (finished_outcome o h s e x k)
  move_outcome _ _ _ _ (finish_last k cs es settles c d) = by_changes cs _ es _ c d
      (last_outcome o h s e x k settles.unmarked)
  move_outcome _ _ _ _ (takeover_overrun f j cs es over k c d) =
      by_changes cs _ es _ c d (released_outcome o h s e x f j over.left.its k.row k.found k.letters)
  move_outcome _ _ _ _ (takeover_fresh f k cs es c d) =
      by_changes cs _ es _ c d (released_outcome o h s e x f k.job k.next.left.its k.fresh.row k.fresh.found
      (relayed_letter s e f k ∷ []))

pub moves_tell : ToldByMoves Tells
moves_tell judges o h s e given failed_ cs es x move tied possible =
    outcome_tells o h s (applied cs s) e es x (move_outcome o h s e x given failed_ cs es move)

pub moves_agree : ToldByMoves Agrees
moves_agree judges o h s e given failed_ cs es x move tied possible =
    outcome_agrees o h s (applied cs s) e es x (move_outcome o h s e x given failed_ cs es move)

pub moves_release : ToldByMoves ReleasedFits
moves_release judges o h s e given failed_ cs es x move tied possible =
    outcome_released o h s (applied cs s) e es x (move_outcome o h s e x given failed_ cs es move)
