-- Letters fit after each move of an engine: `letters_moved`.
use Rattle.std.proofs.Common.{◌≡◌, ℕ, [], List, Some, refl, sym, subst}
use Rattle.core_state.specs.Changes.{applied}
use Rattle.core_state.specs.State.{StateData}
use Rattle.core_state.specs.declared.change.Change.{Change}
use Rattle.step_relation.specs.Moves.{ask_begun, ask_failed, begin_failed, begin_faulted, begin_in_place, begin_init}
use Rattle.step_relation.specs.Moves.{begin_overrun, begin_replaced, begin_resumed, begin_same, clean_deleted}
use Rattle.step_relation.specs.Moves.{clean_gone, clean_init, clean_kept, clean_retained, clean_stuck, finish}
use Rattle.step_relation.specs.Moves.{finish_last, finish_overrun, poll_failed, poll_gone, poll_ready, poll_waits}
use Rattle.step_relation.specs.Moves.{take_dropped, take_free, take_stolen, takeover_fresh, takeover_overrun}
use Rattle.step_relation.specs.Groups.{KeptByMoves}
use Rattle.core_state.specs.Reads.{IsReady}
use Rattle.core_state.specs.State.{graph_at}
use Rattle.core_state.specs.declared.graph.Graph.{Graph}
use Rattle.step_relation.specs.MailFits.{LettersFit}
use Rattle.step_relation.specs.Sound.{Standing}
use Rattle.step_relation.specs.Takes.{Relays}
use Rattle.graph_laws.proofs.graphs.Below.{stack-key}
use Rattle.graph_laws.proofs.graphs.Kept.{stacks_same}
use Rattle.graph_laws.proofs.graphs.Placed.{job_graph, job_ready}
use Rattle.graph_laws.proofs.letters.Finished.{finish_keeps, finish_marks}
use Rattle.graph_laws.proofs.letters.Sent.{dropped, falls, faults, locks, relays, releases, silent, steals}

by_changes : (s : StateData) (cs to : List Change) → cs ≡ to → LettersFit (applied to s) → LettersFit (applied cs s)
by_changes s cs to is = subst (λ (x : List Change). LettersFit (applied x s)) (sym is)

-- the node of a job that is taken over is ready
relay_ready : (s : StateData) → Standing s → (e f : ℕ) (k : Relays s e f) → IsReady k.fresh.graph k.job.letter.node
relay_ready s h e f k = subst (λ (x : Graph). IsReady x k.job.letter.node)
    (job_graph s h f k.job k.next.left.its k.fresh.stack k.fresh.graph k.fresh.node k.fresh.names)
    (job_ready s h f k.job k.next.left.its k.fresh.stack k.fresh.graph k.fresh.node k.fresh.names)

pub letters_moved : KeptByMoves LettersFit
letters_moved judges s e given failed cs es h (take_dropped l _ _ next idle is _) tied =
    by_changes s cs _ is (dropped s h _ l.no (stacks_same s.stacks) refl refl)
letters_moved judges s e given failed cs es h (take_free k _ _ free is _) tied =
    by_changes s cs _ is (locks s h e k.meant.fresh.row k.letter.no _)
letters_moved judges s e given failed cs es h (take_stolen k f j _ _ holder stopped is _) tied =
    by_changes s cs _ is (steals s h e f k.meant.fresh.row k.letter.no _)
letters_moved judges s e given failed cs es h (begin_overrun j _ _ works k is _) tied =
    by_changes s cs _ is (releases s h e k.row k.letters j.letter.stack j.row k.resends)
letters_moved judges s e given failed cs es h (begin_faulted k code path _ _ _ f is _) tied =
    by_changes s cs _ is (faults s h e k.row k.job [] failed f)
letters_moved judges s e given failed cs es h (begin_init k props effect _ _ act is _) tied =
    by_changes s cs _ is (silent s h _ (stacks_same s.stacks) refl refl)
letters_moved judges s e given failed cs es h (begin_same k props effect _ _ act status same is _) tied =
    by_changes s cs _ is (silent s h _ (stacks_same s.stacks) refl refl)
letters_moved judges s e given failed cs es h (begin_in_place k props effect _ _ act status soft is _) tied =
    by_changes s cs _ is (silent s h _ (stacks_same s.stacks) refl refl)
letters_moved judges s e given failed cs es h (begin_resumed k props effect _ _ act status newest is _) tied =
    by_changes s cs _ is (silent s h _ (stacks_same s.stacks) refl refl)
letters_moved judges s e given failed cs es h (begin_failed k props effect _ _ act status newest is _) tied =
    by_changes s cs _ is (silent s h _ (stacks_same s.stacks) refl refl)
letters_moved judges s e given failed cs es h (begin_replaced k props effect _ _ act go is _) tied =
    by_changes s cs _ is (silent s h _ (stacks_same s.stacks) refl refl)
letters_moved judges s e given failed cs es h (clean_gone k _ _ none is _) tied =
    by_changes s cs _ is (silent s h _ (stacks_same s.stacks) refl refl)
letters_moved judges s e given failed cs es h (clean_kept k r _ _ at kept is _) tied =
    by_changes s cs _ is (silent s h _ (stacks_same s.stacks) refl refl)
letters_moved judges s e given failed cs es h (clean_init k r _ _ at loose act is _) tied =
    by_changes s cs _ is (silent s h _ (stacks_same s.stacks) refl refl)
letters_moved judges s e given failed cs es h (clean_stuck k r _ _ at loose stuck is _) tied =
    by_changes s cs _ is (silent s h _ (stacks_same s.stacks) refl refl)
letters_moved judges s e given failed cs es h (clean_retained k r _ _ at loose act unstuck policy is _) tied =
    by_changes s cs _ is (silent s h _ (stacks_same s.stacks) refl refl)
letters_moved judges s e given failed cs es h (clean_deleted k r _ _ at loose act unstuck policy is _) tied =
    by_changes s cs _ is (silent s h _ (stacks_same s.stacks) refl refl)
letters_moved judges s e given failed cs es h (ask_begun k asked _ _ asks is _) tied =
    by_changes s cs _ is (silent s h _ (stacks_same s.stacks) refl refl)
letters_moved judges s e given failed cs es h
    (ask_failed k asked answer reason letters _ _ _ asks refuses f is _) tied =
    by_changes s cs _ is (falls s h e k.row k.job letters failed f)
letters_moved judges s e given failed cs es h (poll_waits k asked _ _ asks is _) tied =
    by_changes s cs _ is (silent s h _ (stacks_same s.stacks) refl refl)
letters_moved judges s e given failed cs es h (poll_ready k facts _ _ act is _) tied =
    by_changes s cs _ is (silent s h _ (stacks_same s.stacks) refl refl)
letters_moved judges s e given failed cs es h (poll_gone k _ _ act is _) tied =
    by_changes s cs _ is (silent s h _ (stacks_same s.stacks) refl refl)
letters_moved judges s e given failed cs es h
    (poll_failed k asked answer reason letters _ _ _ asks refuses f is _) tied =
    by_changes s cs _ is (falls s h e k.row k.job letters failed f)
letters_moved judges s e given failed cs es h (finish_overrun j _ _ works k is _) tied =
    by_changes s cs _ is (releases s h e k.row k.letters j.letter.stack j.row k.resends)
letters_moved judges s e given failed cs es h (finish k _ _ open_ is _) tied =
    by_changes s cs _ is (finish_keeps s h e k)
letters_moved judges s e given failed cs es h (finish_last k _ _ all is _) tied =
    by_changes s cs _ is (finish_marks s h e k)
letters_moved judges s e given failed cs es h (takeover_overrun f j _ _ over k is _) tied =
    by_changes s cs _ is (releases s h f k.row k.letters j.letter.stack j.row k.resends)
letters_moved judges s e given failed cs es h (takeover_fresh f k _ _ is _) tied =
    by_changes s cs _ is (relays s h f k.fresh.row k.fresh.stack k.job.letter.node k.fresh.graph k.fresh.node
    (subst (λ (x : List ℕ). graph_at s.graphs x ≡ Some k.fresh.graph)
    (sym (stack-key s.stacks k.job.letter.stack k.fresh.stack k.fresh.names.in_table)) k.fresh.names.its_graph)
    k.fresh.names.its_node (relay_ready s h e f k))
