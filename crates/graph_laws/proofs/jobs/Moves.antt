-- Jobs fit after each move of an engine: `jobs_moved`.
use Rattle.std.proofs.Common.{◌≡◌, ℕ, [], ◌∷◌, List, Option, refl, sym, subst}
use Rattle.core_state.specs.Changes.{applied}
use Rattle.core_state.specs.State.{StateData}
use Rattle.core_state.specs.declared.change.Change.{Change}
use Rattle.core_state.specs.declared.entry.Entry.{Entry}
use Rattle.core_state.specs.declared.stack.Stack.{Stack}
use Rattle.step_relation.specs.Given.{Given}
use Rattle.step_relation.specs.Moves.{Move, ask_begun, ask_failed, begin_failed, begin_faulted, begin_in_place}
use Rattle.step_relation.specs.Moves.{begin_init, begin_overrun, begin_replaced, begin_resumed, begin_same}
use Rattle.step_relation.specs.Moves.{clean_deleted, clean_gone, clean_init, clean_kept, clean_retained, clean_stuck}
use Rattle.step_relation.specs.Moves.{finish, finish_last, finish_overrun, poll_failed, poll_gone, poll_ready}
use Rattle.step_relation.specs.Moves.{poll_waits, take_dropped, take_free, take_stolen, takeover_fresh}
use Rattle.step_relation.specs.Moves.{takeover_overrun}
use Rattle.step_relation.specs.Takes.{relayed_letter}
use Rattle.step_relation.specs.Groups.{KeptByMoves}
use Rattle.step_relation.specs.MailFits.{JobsFit}
use Rattle.step_relation.specs.Sound.{Standing}
use Rattle.graph_laws.proofs.graphs.Moves.{graphs_moved}
use Rattle.history_laws.proofs.links.Kept.{links_by_moves}
use Rattle.graph_laws.proofs.jobs.Begun.{creates, deletes, faults, gone, keeps, leaves, purges, replaces, resumes, retains}
use Rattle.graph_laws.proofs.jobs.Begun.{stays_kept, updates}
use Rattle.graph_laws.proofs.jobs.Engines.{quiet}
use Rattle.graph_laws.proofs.jobs.Finished.{finish_keeps, finish_marks}
use Rattle.graph_laws.proofs.jobs.Onward.{Grounds}
use Rattle.graph_laws.proofs.jobs.Taken.{steals, takes}
use Rattle.graph_laws.proofs.jobs.Told.{asks_on, falls, goes, readies, releases}

by_changes : (s : StateData) (cs to : List Change) → cs ≡ to → Grounds (applied cs s)
    → (Grounds (applied to s) → JobsFit (applied to s)) → JobsFit (applied cs s)
by_changes s cs to is b fits =
    subst (λ (x : List Change). JobsFit (applied x s)) (sym is)
    (fits (subst (λ (x : List Change). Grounds (applied x s)) is b))

by_move : (s : StateData) (e : ℕ) (given : Given) (failed : Option Stack) (cs : List Change) (es : List Entry)
    → Standing s
    → Move s e given failed cs es → Grounds (applied cs s) → JobsFit (applied cs s)
by_move s e given failed cs es h (take_dropped l _ _ next idle is _) b =
    by_changes s cs _ is b (λ b. quiet s _ h b refl refl refl refl)
by_move s e given failed cs es h (take_free k _ _ free is _) b = by_changes s cs _ is b (takes s h e k free)
by_move s e given failed cs es h (take_stolen k f j _ _ holder stopped is _) b =
    by_changes s cs _ is b (steals s h e k f j holder)
by_move s e given failed cs es h (begin_overrun j _ _ works k is _) b =
    by_changes s cs _ is b (releases s h e j k.row k.letters works.its k.found)
by_move s e given failed cs es h (begin_faulted k code path _ _ _ f is _) b =
    by_changes s cs _ is b (faults s h e k.job k.row [] failed k.works.its k.found f)
by_move s e given failed cs es h (begin_init k props effect _ _ act is _) b =
    by_changes s cs _ is b (creates s h e k props)
by_move s e given failed cs es h (begin_same k props effect _ _ act status same is _) b =
    by_changes s cs _ is b (keeps s h e k act status)
by_move s e given failed cs es h (begin_in_place k props effect _ _ act status soft is _) b =
    by_changes s cs _ is b (updates s h e k props)
by_move s e given failed cs es h (begin_resumed k props effect _ _ act status newest is _) b =
    by_changes s cs _ is b (resumes s h e k status newest)
by_move s e given failed cs es h (begin_failed k props effect _ _ act status newest is _) b =
    by_changes s cs _ is b (leaves s h e k.job k.row k.works.its k.found)
by_move s e given failed cs es h (begin_replaced k props effect _ _ act go is _) b =
    by_changes s cs _ is b (replaces s h e k props)
by_move s e given failed cs es h (clean_gone k _ _ none is _) b = by_changes s cs _ is b (gone s h e k none)
by_move s e given failed cs es h (clean_kept k r _ _ at kept is _) b =
    by_changes s cs _ is b (stays_kept s h e k r at kept)
by_move s e given failed cs es h (clean_init k r _ _ at loose act is _) b = by_changes s cs _ is b (purges s h e k r at)
by_move s e given failed cs es h (clean_stuck k r _ _ at loose stuck is _) b =
    by_changes s cs _ is b (leaves s h e k.job r k.works.its at)
by_move s e given failed cs es h (clean_retained k r _ _ at loose act unstuck policy is _) b =
    by_changes s cs _ is b (retains s h e k r at)
by_move s e given failed cs es h (clean_deleted k r _ _ at loose act unstuck policy is _) b =
    by_changes s cs _ is b (deletes s h e k r at)
by_move s e given failed cs es h (ask_begun k asked _ _ asks is _) b = by_changes s cs _ is b (asks_on s h e k)
by_move s e given failed cs es h (ask_failed k asked answer reason letters _ _ _ asks refuses f is _) b =
    by_changes s cs _ is b (falls s h e k.job k.row letters failed k.works.its k.found f)
by_move s e given failed cs es h (poll_waits k asked _ _ asks is _) b = by_changes s cs _ is b (λ b. h.shape.jobs)
by_move s e given failed cs es h (poll_ready k facts _ _ act is _) b =
    by_changes s cs _ is b (readies s h e k facts act)
by_move s e given failed cs es h (poll_gone k _ _ act is _) b = by_changes s cs _ is b (goes s h e k act)
by_move s e given failed cs es h (poll_failed k asked answer reason letters _ _ _ asks refuses f is _) b =
    by_changes s cs _ is b (falls s h e k.job k.row letters failed k.works.its k.found f)
by_move s e given failed cs es h (finish_overrun j _ _ works k is _) b =
    by_changes s cs _ is b (releases s h e j k.row k.letters works.its k.found)
by_move s e given failed cs es h (finish k _ _ open_ is _) b = by_changes s cs _ is b (finish_keeps s h e k)
by_move s e given failed cs es h (finish_last k _ _ all is _) b = by_changes s cs _ is b (finish_marks s h e k)
by_move s e given failed cs es h (takeover_overrun f j _ _ over k is _) b =
    by_changes s cs _ is b (releases s h f j k.row k.letters over.left.its k.found)
by_move s e given failed cs es h (takeover_fresh f k _ _ is _) b =
    by_changes s cs _ is b
    (releases s h f k.job k.fresh.row (relayed_letter s e f k ∷ []) k.next.left.its k.fresh.found)

pub jobs_moved : KeptByMoves JobsFit
jobs_moved judges s e given failed cs es h move tied = by_move s e given failed cs es h move
    (record {
      current = (links_by_moves judges s e given failed cs es h move tied).current;
      graphs = graphs_moved judges s e given failed cs es h move tied;
    })
