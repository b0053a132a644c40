-- Single moves with their changes written out: behind each the open nodes are covered.
use Rattle.std.specs.Prelude.{Option, [], ℕ, ◌∷◌, ◌≡◌}
use Rattle.dep_graph.specs.Lists.{IsLeast}
use Rattle.row_table.specs.Rows.{row_at}
use Rattle.row_table.specs.declared.row.Row.{Row}
use Rattle.mail_table.specs.declared.mail.Job.{Job}
use Rattle.mail_table.specs.declared.mail.Stage.TheVariants.{Ending}
use Rattle.core_state.specs.Changes.{applied}
use Rattle.core_state.specs.State.{StateData}
use Rattle.core_state.specs.declared.change.Change.TheVariants.{EndJob, Send}
use Rattle.core_state.specs.declared.graph.Graph.{Graph}
use Rattle.core_state.specs.declared.stack.Stack.{Stack}
use Rattle.step_relation.specs.Freshness.{IsOverrun}
use Rattle.step_relation.specs.Nexts.{TakesOver, Works}
use Rattle.step_relation.specs.Resends.{AwaitsCleanup, AwaitsUpdate, HasGraph}
use Rattle.step_relation.specs.Writes.{draw_letters, letter_to, unlock}
use Rattle.step_relation.specs.Sound.{Standing}
use Rattle.step_relation.specs.Stir.{Covered}

-- a stopped engine's job that is overrun ends: the update node that waits for its row is told
abbrev pub StaleTakeOverTells : Type 0
StaleTakeOverTells = (s : StateData) (e f : ℕ) (j : Job) (row : Option Row) (st : Stack) (g : Graph) (i : ℕ)
    → Standing s
    → TakesOver s e f j → row_at s.rows j.row ≡ row → IsOverrun s j → HasGraph s j.letter.stack st g
    → IsLeast (AwaitsUpdate s st g j.row) i
    → Covered (applied (draw_letters s.next (letter_to st s.next.letter i ∷ [])
    (unlock row (EndJob f ∷ Send (letter_to st s.next.letter i) ∷ []))) s)

-- a job that has come to its end and is overrun ends: the clean-up node that waits for its row is told
abbrev pub StaleEndTells : Type 0
StaleEndTells = (s : StateData) (e : ℕ) (j : Job) (row : Option Row) (st : Stack) (g : Graph) (i : ℕ) → Standing s
    → Works s e j Ending → row_at s.rows j.row ≡ row → IsOverrun s j → HasGraph s j.letter.stack st g
    → ((k : ℕ) → ¬ AwaitsUpdate s st g j.row k) → IsLeast (AwaitsCleanup g j.row) i
    → Covered (applied (draw_letters s.next (letter_to st s.next.letter i ∷ [])
    (unlock row (EndJob e ∷ Send (letter_to st s.next.letter i) ∷ []))) s)
