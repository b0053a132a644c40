-- Graphs fit after each move of an engine: `graphs_moved`.
use Rattle.std.proofs.Common.{◌≡◌, [], ◌∷◌, List, refl, sym, subst}
use Rattle.core_state.specs.Changes.{applied}
use Rattle.core_state.specs.State.{StateData}
use Rattle.core_state.specs.declared.change.Change.{Change}
use Rattle.step_relation.specs.Moves.{ask_begun, ask_failed, begin_failed, begin_faulted, begin_in_place, begin_init}
use Rattle.step_relation.specs.Moves.{begin_overrun, begin_replaced, begin_resumed, begin_same, clean_deleted}
use Rattle.step_relation.specs.Moves.{clean_gone, clean_init, clean_kept, clean_retained, clean_stuck, finish}
use Rattle.step_relation.specs.Moves.{finish_last, finish_overrun, poll_failed, poll_gone, poll_ready, poll_waits}
use Rattle.step_relation.specs.Moves.{take_dropped, take_free, take_stolen, takeover_fresh, takeover_overrun}
use Rattle.step_relation.specs.Takes.{relayed_letter}
use Rattle.step_relation.specs.Groups.{KeptByMoves}
use Rattle.graph_laws.specs.graphs.Laws.{GraphsFit}
use Rattle.graph_laws.proofs.graphs.Begun.{creates, deletes, goes, keeps, purges, readies, retains, updates}
use Rattle.graph_laws.proofs.graphs.Finished.{finish_keeps, finish_marks}
use Rattle.graph_laws.proofs.graphs.Known.{never_again}
use Rattle.graph_laws.proofs.graphs.Replaced.{graph_replaced}
use Rattle.graph_laws.proofs.graphs.Taken.{falls, faults, leaves, locks, quiet, releases, steals}

by_changes : (s : StateData) (cs to : List Change) → cs ≡ to → GraphsFit (applied to s) → GraphsFit (applied cs s)
by_changes s cs to is = subst (λ (x : List Change). GraphsFit (applied x s)) (sym is)

pub graphs_moved : KeptByMoves GraphsFit
graphs_moved judges s e given failed cs es h (take_dropped l _ _ next idle is _) tied =
    by_changes s cs _ is (quiet s h _ refl refl refl)
graphs_moved judges s e given failed cs es h (take_free k _ _ free is _) tied =
    by_changes s cs _ is (locks s h e k.meant.target k.meant.fresh.row k.letter.no _ k.meant.fresh.found)
graphs_moved judges s e given failed cs es h (take_stolen k f j _ _ holder stopped is _) tied =
    by_changes s cs _ is (steals s h e k.meant.target f k.meant.fresh.row k.letter.no _ k.meant.fresh.found)
graphs_moved judges s e given failed cs es h (begin_overrun j _ _ works k is _) tied =
    by_changes s cs _ is (releases s h e j.row k.row k.letters k.found)
graphs_moved judges s e given failed cs es h (begin_faulted k code path _ _ _ f is _) tied =
    by_changes s cs _ is (faults s h e k.job.row k.row k.job [] failed k.found f)
graphs_moved judges s e given failed cs es h (begin_init k props effect _ _ act is _) tied =
    by_changes s cs _ is (creates s h e k props)
graphs_moved judges s e given failed cs es h (begin_same k props effect _ _ act status same is _) tied =
    by_changes s cs _ is (keeps s h e k)
graphs_moved judges s e given failed cs es h (begin_in_place k props effect _ _ act status soft is _) tied =
    by_changes s cs _ is (updates s h e k props)
graphs_moved judges s e given failed cs es h (begin_resumed k props effect _ _ act status newest is _) tied =
    by_changes s cs _ is (quiet s h _ refl refl refl)
graphs_moved judges s e given failed cs es h (begin_failed k props effect _ _ act status newest is _) tied =
    by_changes s cs _ is (leaves s h e k.job.row k.row k.found)
graphs_moved judges s e given failed cs es h (begin_replaced k props effect _ _ act go is _) tied =
    by_changes s cs _ is (graph_replaced s h e k props (never_again judges s h e k props effect tied act go) act)
graphs_moved judges s e given failed cs es h (clean_gone k _ _ none is _) tied =
    by_changes s cs _ is (quiet s h _ refl refl refl)
graphs_moved judges s e given failed cs es h (clean_kept k r _ _ at kept is _) tied =
    by_changes s cs _ is (quiet s h _ refl refl refl)
graphs_moved judges s e given failed cs es h (clean_init k r _ _ at loose act is _) tied =
    by_changes s cs _ is (purges s h e k r at loose)
graphs_moved judges s e given failed cs es h (clean_stuck k r _ _ at loose stuck is _) tied =
    by_changes s cs _ is (leaves s h e k.job.row r at)
graphs_moved judges s e given failed cs es h (clean_retained k r _ _ at loose act unstuck policy is _) tied =
    by_changes s cs _ is (retains s h e k r at loose)
graphs_moved judges s e given failed cs es h (clean_deleted k r _ _ at loose act unstuck policy is _) tied =
    by_changes s cs _ is (deletes s h e k r at loose)
graphs_moved judges s e given failed cs es h (ask_begun k asked _ _ asks is _) tied =
    by_changes s cs _ is (quiet s h _ refl refl refl)
graphs_moved judges s e given failed cs es h (ask_failed k asked answer reason letters _ _ _ asks refuses f is _) tied =
    by_changes s cs _ is (falls s h e k.job.row k.row k.job letters failed k.found f)
graphs_moved judges s e given failed cs es h (poll_waits k asked _ _ asks is _) tied =
    by_changes s cs _ is (quiet s h _ refl refl refl)
graphs_moved judges s e given failed cs es h (poll_ready k facts _ _ act is _) tied =
    by_changes s cs _ is (readies s h e k facts)
graphs_moved judges s e given failed cs es h (poll_gone k _ _ act is _) tied = by_changes s cs _ is (goes s h e k act)
graphs_moved judges s e given failed cs es h
    (poll_failed k asked answer reason letters _ _ _ asks refuses f is _) tied =
    by_changes s cs _ is (falls s h e k.job.row k.row k.job letters failed k.found f)
graphs_moved judges s e given failed cs es h (finish_overrun j _ _ works k is _) tied =
    by_changes s cs _ is (releases s h e j.row k.row k.letters k.found)
graphs_moved judges s e given failed cs es h (finish k _ _ open_ is _) tied =
    by_changes s cs _ is (finish_keeps s h e k)
graphs_moved judges s e given failed cs es h (finish_last k _ _ all is _) tied =
    by_changes s cs _ is (finish_marks s h e k)
graphs_moved judges s e given failed cs es h (takeover_overrun f j _ _ over k is _) tied =
    by_changes s cs _ is (releases s h f j.row k.row k.letters k.found)
graphs_moved judges s e given failed cs es h (takeover_fresh f k _ _ is _) tied =
    by_changes s cs _ is (releases s h f k.job.row k.fresh.row (relayed_letter s e f k ∷ []) k.fresh.found)
