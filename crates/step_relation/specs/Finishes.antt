-- The end of a job: its node is done, and the nodes behind it are told.
use Rattle.std.specs.Prelude.{Contains, List, map, ℕ, ◌++◌, ◌∷◌, ◌≡◌}
use Rattle.heat_plan.specs.declared.phase.Status.TheVariants.{InProgress}
use Rattle.dep_graph.specs.Lists.{ListsAll}
use Rattle.traversal_graph.specs.Builds.{Joins}
use Rattle.sync_points.specs.declared.point.Input.{Input}
use Rattle.mail_table.specs.declared.mail.Job.{Job}
use Rattle.mail_table.specs.declared.mail.Letter.{Letter}
use Rattle.mail_table.specs.declared.mail.Stage.TheVariants.{Ending}
use Rattle.core_state.specs.Reads.{IsReady}
use Rattle.core_state.specs.State.{StateData}
use Rattle.core_state.specs.declared.change.Change.{Change}
use Rattle.core_state.specs.declared.change.Change.TheVariants.{EndJob, PutPoint, Send}
use Rattle.core_state.specs.declared.entry.Actor.TheVariants.{Engine}
use Rattle.core_state.specs.declared.entry.Entry.{Entry}
use Rattle.core_state.specs.declared.entry.MailWrite.TheVariants.{Ended, Sent}
use Rattle.core_state.specs.declared.graph.Graph.{Graph}
use Rattle.step_relation.specs.Freshness.{IsFresh}
use Rattle.step_relation.specs.Inputs.{AllDone, input_of, passed, passed_points}
use Rattle.step_relation.specs.Nexts.{Works}
use Rattle.step_relation.specs.Writes.{draw_letters, letters_to, mail_entry, rows_entry, unlock, unlock_writes}

-- a job at Ending that has work, the nodes behind its own, and those of them that are ready then
pub record Finishes (s : StateData) (e : ℕ) : Type 0 where
  pub job : Job
  pub works : Works s e job Ending
  pub fresh : IsFresh s job.letter job.row
  pub succs : List ℕ
  pub behind : ListsAll (Joins fresh.graph.graph.edges job.letter.node) succs
  pub ready : List ℕ
  pub ready_are : ListsAll (λ (k : ℕ). Contains succs k
      × IsReady (passed fresh.graph job.letter.node (input_of job.letter.node fresh.node job.row fresh.row) succs) k)
      ready

-- the input that the node gives
abbrev pub given_input : (s : StateData) (e : ℕ) → Finishes s e → Input
given_input s e k = input_of k.job.letter.node k.fresh.node k.job.row k.fresh.row

-- its graph then
abbrev pub graph_then : (s : StateData) (e : ℕ) → Finishes s e → Graph
graph_then s e k = passed k.fresh.graph k.job.letter.node (given_input s e k) k.succs

-- a letter to each node that is ready then
abbrev pub ready_letters : (s : StateData) (e : ℕ) → Finishes s e → List Letter
ready_letters s e k = letters_to k.fresh.stack s.next.letter k.ready

-- the row is unlocked, the job ends, the node is done; each node behind it gets the input, and a letter if then ready
abbrev pub finished_changes : (s : StateData) (e : ℕ) → Finishes s e → List Change → List Change
finished_changes s e k mark =
    draw_letters s.next (ready_letters s e k) (unlock k.fresh.row (EndJob e
    ∷ (map PutPoint (passed_points k.fresh.graph k.job.letter.node (given_input s e k) k.succs)
    ++ (map Send (ready_letters s e k) ++ mark))))

-- what is told of it: the row, then the job's end and the letters, then the mark
abbrev pub finished_entries : (s : StateData) (e : ℕ) → Finishes s e → List Entry → List Entry
finished_entries s e k mark =
    rows_entry (Engine e) (unlock_writes k.fresh.row)
    ++ (mail_entry (Engine e) (Ended e ∷ map Sent (ready_letters s e k)) ++ mark)

-- all nodes are done, and the stack has no mark
pub record Settles (s : StateData) (e : ℕ) (k : Finishes s e) : Type 0 where
  pub all : AllDone (graph_then s e k)
  pub unmarked : k.fresh.stack.status ≡ InProgress
