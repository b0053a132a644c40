-- What a turn was given suits the engine's next step, which a live engine alone has.
use Rattle.std.proofs.Common.{◌≡◌, ℕ, List, Option, Some}
use Rattle.std.specs.Prelude.{Contains}
use Rattle.heat_plan.specs.declared.calls.Answered.{Answered}
use Rattle.heat_plan.specs.declared.calls.Request.{Request}
use Rattle.heat_plan.specs.declared.phase.Act.{Act}
use Rattle.row_table.specs.declared.row.Row.{Row}
use Rattle.mail_table.specs.Mails.{job_at, letter_at}
use Rattle.mail_table.specs.declared.mail.Job.{Job}
use Rattle.mail_table.specs.declared.mail.Letter.{Letter}
use Rattle.core_state.specs.State.{StateData}
use Rattle.core_state.specs.declared.change.Change.{Change}
use Rattle.core_state.specs.declared.entry.Entry.{Entry}
use Rattle.core_state.specs.declared.entry.Why.{Why}
use Rattle.core_state.specs.declared.stack.Stack.{Stack}
use Rattle.history_laws.specs.Asks.{Asks, Polls, Refuses, by_code, by_failure, by_quota, creates, deletes, looks}
use Rattle.history_laws.specs.Asks.{updates}
use Rattle.history_laws.specs.Given.{Given}
use Rattle.history_laws.specs.Moves.{Move, ask_begun, ask_failed, begin_failed, begin_faulted, begin_in_place}
use Rattle.history_laws.specs.Moves.{begin_init, begin_overrun, begin_replaced, begin_resumed, begin_same}
use Rattle.history_laws.specs.Moves.{clean_deleted, clean_gone, clean_init, clean_kept, clean_retained, clean_stuck}
use Rattle.history_laws.specs.Moves.{finish, finish_last, finish_overrun, poll_failed, poll_gone, poll_ready}
use Rattle.history_laws.specs.Moves.{poll_waits, take_dropped, take_free, take_stolen, takeover_fresh}
use Rattle.history_laws.specs.Moves.{takeover_overrun}
use Rattle.history_laws.specs.Nexts.{IsIdle}
use Rattle.history_laws.specs.Turns.{plain, rolls}
use Rattle.next_laws.proofs.Parts.{IsNext, Kind, Placed, at_job, by_left, by_letter, placed}
use Rattle.next_laws.specs.Fits.{TurnIsLive, TurnSuits}
use Rattle.next_laws.specs.Suits.{MayAnswer, Suits, asks, cleans, create_begun, create_quota, delete_begun, ends}
use Rattle.next_laws.specs.Suits.{failed, faults, gone, gone_waits, overruns, poll_broken, poll_ready, prepares, takes}
use Rattle.next_laws.specs.Suits.{takes_over, update_begun}
use Rattle.heat_plan.specs.declared.calls.Answered.TheVariants as answer
use Rattle.heat_plan.specs.declared.calls.Request.TheVariants as request
use Rattle.history_laws.specs.Asks as call
use Rattle.next_laws.specs.Suits as may

-- the answers
begun_fits : (r : Row) (asked : Request) → Asks r asked → MayAnswer asked answer.Begun
begun_fits r _ (creates is) = create_begun r.kind.name r.props
begun_fits r _ (updates is) = update_begun _
begun_fits r _ (deletes is) = delete_begun

waiting_fits : (r : Row) (asked : Request) → Polls r asked → MayAnswer asked answer.NotYet
waiting_fits r _ (call.polls ne) = may.poll_waits
waiting_fits r _ (looks is) = gone_waits

refusal_fits : (act : Act) (asked : Request) (given : Answered) (reason : Why) → Refuses act asked given reason
    → MayAnswer asked given
refusal_fits act _ _ _ (by_quota kind props) = create_quota kind props
refusal_fits act asked _ _ (by_failure _) = failed asked
refusal_fits act _ _ _ (by_code code) = poll_broken code

move_suits : (s : StateData) (e : ℕ) (given : Given) (marked : Option Stack) (cs : List Change) (es : List Entry)
    → Move s e given marked cs es → Suits s e given
move_suits s e _ _ _ _ (take_dropped l _ _ t _ _ _) = takes l t
move_suits s e _ _ _ _ (take_free k _ _ _ _ _) = takes k.letter k.next
move_suits s e _ _ _ _ (take_stolen k _ _ _ _ _ _ _ _) = takes k.letter k.next
move_suits s e _ _ _ _ (begin_overrun j _ _ w k _ _) = overruns j w k.overrun
move_suits s e _ _ _ _ (begin_faulted k code path _ _ _ _ _ _) = faults k code path
move_suits s e _ _ _ _ (begin_init k props effect _ _ _ _ _) = prepares k props effect
move_suits s e _ _ _ _ (begin_same k props effect _ _ _ _ _ _ _) = prepares k props effect
move_suits s e _ _ _ _ (begin_in_place k props effect _ _ _ _ _ _ _) = prepares k props effect
move_suits s e _ _ _ _ (begin_resumed k props effect _ _ _ _ _ _ _) = prepares k props effect
move_suits s e _ _ _ _ (begin_failed k props effect _ _ _ _ _ _ _) = prepares k props effect
move_suits s e _ _ _ _ (begin_replaced k props effect _ _ _ _ _ _) = prepares k props effect
move_suits s e _ _ _ _ (clean_gone k _ _ _ _ _) = cleans k
move_suits s e _ _ _ _ (clean_kept k _ _ _ _ _ _ _) = cleans k
move_suits s e _ _ _ _ (clean_init k _ _ _ _ _ _ _ _) = cleans k
move_suits s e _ _ _ _ (clean_stuck k _ _ _ _ _ _ _ _) = cleans k
move_suits s e _ _ _ _ (clean_retained k _ _ _ _ _ _ _ _ _ _) = cleans k
move_suits s e _ _ _ _ (clean_deleted k _ _ _ _ _ _ _ _ _ _) = cleans k
move_suits s e _ _ _ _ (ask_begun k asked _ _ a _ _) = asks k asked _ a (begun_fits k.row asked a)
move_suits s e _ _ _ _ (ask_failed k asked g reason _ _ _ _ a x _ _ _) =
    asks k asked g a (refusal_fits k.row.act asked g reason x)
move_suits s e _ _ _ _ (poll_waits k asked _ _ a _ _) = may.polls k asked _ a (waiting_fits k.row asked a)
move_suits s e _ _ _ _ (poll_ready k facts _ _ ne _ _) =
    may.polls k request.Poll _ (call.polls ne) (may.poll_ready facts)
move_suits s e _ _ _ _ (poll_gone k _ _ is _ _) = may.polls k request.Gone _ (looks is) gone
move_suits s e _ _ _ _ (poll_failed k asked g reason _ _ _ _ a x _ _ _) =
    may.polls k asked g a (refusal_fits k.row.act asked g reason x)
move_suits s e _ _ _ _ (finish_overrun j _ _ w _ _ _) = ends j w
move_suits s e _ _ _ _ (finish k _ _ _ _ _) = ends k.job k.works
move_suits s e _ _ _ _ (finish_last k _ _ _ _ _) = ends k.job k.works
move_suits s e _ _ _ _ (takeover_overrun f j _ _ t _ _ _) = takes_over f j t
move_suits s e _ _ _ _ (takeover_fresh f k _ _ _ _) = takes_over f k.job k.next

pub turn_suits : TurnSuits
turn_suits s e given cs es (plain marked m _) = move_suits s e given marked cs es m
turn_suits s e given cs es (rolls st first _ firsts _ m _ _ _ _) = move_suits s e given (Some st) first firsts m

-- what is next is so for a live engine that isn't idle
module _ (s : StateData) (e : ℕ) where
  next_live : (kind : Kind) → IsNext s e kind → Contains s.live e
  next_live kind (by_letter l t) = t.live
  next_live kind (at_job j stage w) = w.live
  next_live kind (by_left f j t) = t.live

  letter_waits : (l : Letter) → letter_at s.letters l.no ≡ Some l → ¬ IsIdle s e
  letter_waits l waits idle = let none = idle.silent l.no in cc

  has_job : (j : Job) → job_at s.jobs e ≡ Some j → ¬ IsIdle s e
  has_job j its idle = let none = idle.jobless in cc

  next_busy : (kind : Kind) → IsNext s e kind → ¬ IsIdle s e
  next_busy kind (by_letter l t) idle = letter_waits l t.first.waits idle
  next_busy kind (at_job j stage w) idle = has_job j w.its idle
  next_busy kind (by_left f j t) idle = idle.none_left f j t.left

  by_place : (given : Given) (marked : Option Stack) (cs : List Change) (es : List Entry)
      → Placed s e given marked cs es → Contains s.live e × ¬ IsIdle s e
  by_place given marked cs es p = (next_live p.kind p.next, next_busy p.kind p.next)

pub turn_is_live : TurnIsLive
turn_is_live s e given cs es (plain marked m _) = by_place s e given marked cs es (placed s e given marked cs es m)
turn_is_live s e given cs es (rolls st first _ firsts _ m _ _ _ _) =
    by_place s e given (Some st) first firsts (placed s e given (Some st) first firsts m)
