-- All marks fit after each move.
use Rattle.std.proofs.Common.{◌≡◌, ℕ, List, [], ◌∷◌, Option, Some, refl, sym, ap, subst}
use Rattle.heat_plan.specs.declared.phase.Act.TheVariants.{Init}
use Rattle.heat_plan.specs.declared.phase.Status.TheVariants.{Complete}
use Rattle.row_table.specs.Rows.{row_at}
use Rattle.row_table.specs.declared.row.Row.{Row}
use Rattle.mail_table.specs.declared.mail.Stage.{Stage}
use Rattle.mail_table.specs.declared.mail.Stage.TheVariants.{Asking, Ending, Polling}
use Rattle.core_state.specs.Changes.{applied}
use Rattle.core_state.specs.State.{StateData, stack_at}
use Rattle.core_state.specs.declared.change.Change.{Change}
use Rattle.core_state.specs.declared.entry.Entry.{Entry}
use Rattle.core_state.specs.declared.stack.Stack.{Stack}
use Rattle.step_relation.specs.Given.{Given}
use Rattle.step_relation.specs.Moves.{Move, ask_begun, ask_failed, begin_failed, begin_faulted, begin_in_place}
use Rattle.step_relation.specs.Moves.{begin_init, begin_overrun, begin_replaced, begin_resumed, begin_same}
use Rattle.step_relation.specs.Moves.{clean_deleted, clean_gone, clean_init, clean_kept, clean_retained, clean_stuck}
use Rattle.step_relation.specs.Moves.{finish, finish_last, finish_overrun, poll_failed, poll_gone, poll_ready}
use Rattle.step_relation.specs.Moves.{poll_waits, take_dropped, take_free, take_stolen, takeover_fresh}
use Rattle.step_relation.specs.Moves.{takeover_overrun}
use Rattle.step_relation.specs.Runs.{IsTied, Judges}
use Rattle.step_relation.specs.Takes.{relayed_letter}
use Rattle.step_relation.specs.Groups.{KeptByMoves}
use Rattle.step_relation.specs.Linked.{Links}
use Rattle.step_relation.specs.MailFits.{IsUnderWay, asks, polls}
use Rattle.step_relation.specs.MarkFits.{MarkFits, MarksFit}
use Rattle.step_relation.specs.Sound.{Standing}
use Rattle.step_relation.specs.GraphFits.{graph_of}
use Rattle.history_laws.proofs.frames.OnOne.{moves_on_one}
use Rattle.history_laws.specs.frames.Laws.{stack_of}
use Rattle.graph_laws.proofs.graphs.Known.{never_again}
use Rattle.graph_laws.proofs.graphs.Moves.{graphs_moved}
use Rattle.graph_laws.specs.graphs.Laws.{GraphsFit}
use Rattle.history_laws.proofs.links.Kept.{links_after}
use Rattle.graph_laws.proofs.marks.Fails.{own_failed, own_faulted_tied}
use Rattle.graph_laws.proofs.marks.Finish.{own_finished, own_last}
use Rattle.graph_laws.proofs.marks.Jobs.{under_way}
use Rattle.graph_laws.proofs.marks.Moves.{complete_clash, progress_clash, quiet_begun, quiet_left, quiet_locked, quiet_purged}
use Rattle.graph_laws.proofs.marks.Moves.{quiet_replaced, quiet_stolen, uncounted}
use Rattle.graph_laws.proofs.marks.Own.{IsQuiet, marks_by_own, own_quiet, quiet_released, row_same}

init_complete : (s : StateData) → Standing s → (n : ℕ) (r : Row) → row_at s.rows n ≡ Some r → r.act ≡ Init
    → r.status ≡ Complete
init_complete s S n r at act = (S.shape.each_row n r at).init act

module _ (s : StateData) (cs : List Change) (own : List ℕ) where
  by_changes : (ds : List Change) → cs ≡ ds → IsQuiet s (applied ds s) own → IsQuiet s (applied cs s) own
  by_changes ds is now = subst (λ (xs : List Change). IsQuiet s (applied xs s) own) (sym is) now

at_stage : (a b : Stage) → a ≡ b → IsUnderWay b → IsUnderWay a
at_stage a b is under = subst IsUnderWay (sym is) under

state_is : (s : StateData) (cs ds : List Change) → cs ≡ ds → applied cs s ≡ applied ds s
state_is s cs ds is = ap (λ (xs : List Change). applied xs s) is

own_marks : (judges : Judges) (s : StateData) (e : ℕ) (given : Given) (failed : Option Stack) (cs : List Change)
    (es : List Entry) → Standing s
    → (move : Move s e given failed cs es) → IsTied judges s e given → GraphsFit (applied cs s) → Links
    (applied cs s) → (st : Stack)
    → stack_at (applied cs s).stacks (stack_of s e given failed cs es move) ≡ Some st
    → MarkFits (applied cs s) st (graph_of (applied cs s) (stack_of s e given failed cs es move))
own_marks judges s e given failed cs es S (take_dropped l _ _ next idle is _) tied G L =
    own_quiet s S (applied cs s) G L l.stack (by_changes s cs l.stack _ is
    (record { stacks = refl; graphs = refl; rows = λ st at_st. row_same s S l.stack st at_st }))
own_marks judges s e given failed cs es S (take_free k _ _ free is _) tied G L =
    own_quiet s S (applied cs s) G L k.letter.stack (by_changes s cs k.letter.stack _ is
    (quiet_locked s S k.letter.stack e k.meant.target k.meant.fresh.row _ _ k.meant.fresh.found))
own_marks judges s e given failed cs es S (take_stolen k f j _ _ holder stopped is _) tied G L =
    own_quiet s S (applied cs s) G L k.letter.stack (by_changes s cs k.letter.stack _ is
    (quiet_stolen s S k.letter.stack e k.meant.target f k.meant.fresh.row _ _ k.meant.fresh.found))
own_marks judges s e given failed cs es S (begin_overrun j _ _ works k is _) tied G L =
    own_quiet s S (applied cs s) G L j.letter.stack (by_changes s cs j.letter.stack _ is
    (quiet_released s S j.letter.stack e j.row k.row k.letters k.found))
own_marks judges s e given failed cs es S (begin_faulted k code path mark _ _ falls is _) tied G L =
    own_faulted_tied judges s S e k code path tied mark falls (applied cs s) (state_is s cs _ is) G L
own_marks judges s e given failed cs es S (begin_init k props effect _ _ init is _) tied G L =
    own_quiet s S (applied cs s) G L k.job.letter.stack
    (by_changes s cs k.job.letter.stack _ is (quiet_begun s S k.job.letter.stack k.job Asking k.row _ k.found refl
    (λ st at_st now. absurd (progress_clash refl now.status))
    (λ st at_st now counts. complete_clash (init_complete s S k.job.row k.row k.found init) now.status)))
own_marks judges s e given failed cs es S (begin_same k props effect _ _ act complete same is _) tied G L =
    own_quiet s S (applied cs s) G L k.job.letter.stack
    (by_changes s cs k.job.letter.stack _ is (quiet_begun s S k.job.letter.stack k.job Ending k.row _ k.found refl
    (λ st at_st now. absurd (complete_clash complete now.status))
    (λ st at_st now counts. complete_clash complete now.status)))
own_marks judges s e given failed cs es S (begin_in_place k props effect _ _ act complete soft is _) tied G L =
    own_quiet s S (applied cs s) G L k.job.letter.stack
    (by_changes s cs k.job.letter.stack _ is (quiet_begun s S k.job.letter.stack k.job Asking k.row _ k.found refl
    (λ st at_st now. absurd (progress_clash refl now.status))
    (λ st at_st now counts. complete_clash complete now.status)))
own_marks judges s e given failed cs es S (begin_resumed k props effect _ _ act status newest is _) tied G L =
    own_quiet s S (applied cs s) G L k.job.letter.stack
    (by_changes s cs k.job.letter.stack _ is (record {
      stacks = refl;
      graphs = refl;
      rows =
          λ st at_st. row_same s S k.job.letter.stack st at_st;
    }))
own_marks judges s e given failed cs es S (begin_failed k props effect _ _ act status newest is _) tied G L =
    own_quiet s S (applied cs s) G L k.job.letter.stack
    (by_changes s cs k.job.letter.stack _ is (quiet_left s S k.job.letter.stack k.job e k.row k.found))
own_marks judges s e given failed cs es S (begin_replaced k props effect _ _ act go is _) tied G L =
    own_quiet s S (applied cs s) G L k.job.letter.stack
    (by_changes s cs k.job.letter.stack _ is (quiet_replaced s S e k props
    (never_again judges s S e k props effect tied act go)))
own_marks judges s e given failed cs es S (clean_gone k _ _ none is _) tied G L =
    own_quiet s S (applied cs s) G L k.job.letter.stack
    (by_changes s cs k.job.letter.stack _ is (record {
      stacks = refl;
      graphs = refl;
      rows =
          λ st at_st. row_same s S k.job.letter.stack st at_st;
    }))
own_marks judges s e given failed cs es S (clean_kept k r _ _ found kept is _) tied G L =
    own_quiet s S (applied cs s) G L k.job.letter.stack
    (by_changes s cs k.job.letter.stack _ is (record {
      stacks = refl;
      graphs = refl;
      rows =
          λ st at_st. row_same s S k.job.letter.stack st at_st;
    }))
own_marks judges s e given failed cs es S (clean_init k r _ _ found unkept init is _) tied G L =
    own_quiet s S (applied cs s) G L k.job.letter.stack
    (by_changes s cs k.job.letter.stack _ is (quiet_purged s S k.job.letter.stack k.job Ending r found
    (λ st at_st now counts. complete_clash (init_complete s S k.job.row r found init) now.status)))
own_marks judges s e given failed cs es S (clean_stuck k r _ _ found unkept stuck is _) tied G L =
    own_quiet s S (applied cs s) G L k.job.letter.stack
    (by_changes s cs k.job.letter.stack _ is (quiet_left s S k.job.letter.stack k.job e r found))
own_marks judges s e given failed cs es S (clean_retained k r _ _ found unkept act unstuck retained is _) tied G L =
    own_quiet s S (applied cs s) G L k.job.letter.stack (by_changes s cs k.job.letter.stack _ is
    (let q = quiet_purged s S k.job.letter.stack k.job Ending r found (uncounted s S e k r found unkept unstuck) in
    record { stacks = q.stacks; graphs = q.graphs; rows = q.rows }))
own_marks judges s e given failed cs es S (clean_deleted k r _ _ found unkept act unstuck other is _) tied G L =
    own_quiet s S (applied cs s) G L k.job.letter.stack
    (by_changes s cs k.job.letter.stack _ is (quiet_begun s S k.job.letter.stack k.job Asking r _ found refl
    (λ st at_st now. absurd (progress_clash refl now.status)) (uncounted s S e k r found unkept unstuck)))
own_marks judges s e given failed cs es S (ask_begun k asked _ _ calls is _) tied G L =
    own_quiet s S (applied cs s) G L k.job.letter.stack
    (by_changes s cs k.job.letter.stack _ is (record {
      stacks = refl;
      graphs = refl;
      rows =
          λ st at_st. row_same s S k.job.letter.stack st at_st;
    }))
own_marks judges s e given failed cs es S
    (ask_failed k asked answer reason letters mark _ _ calls refuses falls is _) tied G L =
    own_failed s S e k.job k.works.its (at_stage k.job.stage Asking k.works.stage_is asks) k.row k.found letters mark
    falls (applied cs s) (state_is s cs _ is) G L
own_marks judges s e given failed cs es S (poll_waits k asked _ _ calls is _) tied G L =
    own_quiet s S (applied cs s) G L k.job.letter.stack
    (by_changes s cs k.job.letter.stack _ is (record {
      stacks = refl;
      graphs = refl;
      rows =
          λ st at_st. row_same s S k.job.letter.stack st at_st;
    }))
own_marks judges s e given failed cs es S (poll_ready k facts _ _ act is _) tied G L =
    let way = under_way s S e k.job k.row k.works.its (at_stage k.job.stage Polling k.works.stage_is polls) k.found in
    own_quiet s S (applied cs s) G L k.job.letter.stack
    (by_changes s cs k.job.letter.stack _ is (quiet_begun s S k.job.letter.stack k.job Ending k.row _ k.found refl
    (λ st at_st now. absurd (complete_clash refl now.status))
    (λ st at_st now counts. progress_clash way.0 now.status)))
own_marks judges s e given failed cs es S (poll_gone k _ _ act is _) tied G L =
    let way = under_way s S e k.job k.row k.works.its (at_stage k.job.stage Polling k.works.stage_is polls) k.found in
    own_quiet s S (applied cs s) G L k.job.letter.stack
    (by_changes s cs k.job.letter.stack _ is (quiet_purged s S k.job.letter.stack k.job Ending k.row k.found
    (λ st at_st now counts. progress_clash way.0 now.status)))
own_marks judges s e given failed cs es S
    (poll_failed k asked answer reason letters mark _ _ calls refuses falls is _) tied G L =
    own_failed s S e k.job k.works.its (at_stage k.job.stage Polling k.works.stage_is polls) k.row k.found letters mark
    falls (applied cs s) (state_is s cs _ is) G L
own_marks judges s e given failed cs es S (finish_overrun j _ _ works k is _) tied G L =
    own_quiet s S (applied cs s) G L j.letter.stack (by_changes s cs j.letter.stack _ is
    (quiet_released s S j.letter.stack e j.row k.row k.letters k.found))
own_marks judges s e given failed cs es S (finish k _ _ unsettled is _) tied G L = own_finished s S e k unsettled
    (applied cs s) (state_is s cs _ is) G L
own_marks judges s e given failed cs es S (finish_last k _ _ settles is _) tied G L = own_last s S e k settles
    (applied cs s) (state_is s cs _ is)
own_marks judges s e given failed cs es S (takeover_overrun f j _ _ next k is _) tied G L =
    own_quiet s S (applied cs s) G L j.letter.stack (by_changes s cs j.letter.stack _ is
    (quiet_released s S j.letter.stack f j.row k.row k.letters k.found))
own_marks judges s e given failed cs es S (takeover_fresh f k _ _ is _) tied G L =
    own_quiet s S (applied cs s) G L k.job.letter.stack
    (by_changes s cs k.job.letter.stack _ is (quiet_released s S k.job.letter.stack f k.job.row k.fresh.row
    (relayed_letter s e f k ∷ []) k.fresh.found))

pub marks_by_moves : KeptByMoves MarksFit
marks_by_moves judges s e given failed cs es S move tied =
    let G = graphs_moved judges s e given failed cs es S move tied in
    let L = links_after s e given failed cs es S move in
    marks_by_own s S (applied cs s) (stack_of s e given failed cs es move)
    (moves_on_one s e given failed cs es S move)
    (own_marks judges s e given failed cs es S move tied G L)
