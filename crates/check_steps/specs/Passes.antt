-- The end of a job that has work, with what was read of the state and of the graph.
use Rattle.std.specs.Prelude.{List, map, option_map, ℕ, ◌++◌, ◌∷◌, ◌≡◌}
use Rattle.dep_graph.specs.Lists.{ListsAll}
use Rattle.traversal_graph.specs.Builds.{Joins}
use Rattle.sync_points.specs.declared.point.Input.{Input}
use Rattle.mail_table.specs.declared.mail.Job.{Job}
use Rattle.mail_table.specs.declared.mail.Letter.{Letter}
use Rattle.mail_table.specs.declared.mail.Stage.TheVariants.{Ending}
use Rattle.core_state.specs.State.{StateData}
use Rattle.core_state.specs.declared.change.Change.{Change}
use Rattle.core_state.specs.declared.change.Change.TheVariants.{EndJob, PutPoint, Send}
use Rattle.core_state.specs.declared.entry.Actor.TheVariants.{Engine}
use Rattle.core_state.specs.declared.entry.Entry.{Entry}
use Rattle.core_state.specs.declared.entry.MailWrite.TheVariants.{Ended, Sent}
use Rattle.step_relation.specs.Finishes.{Finishes}
use Rattle.step_relation.specs.Inputs.{input_of, passed_points}
use Rattle.step_relation.specs.Nexts.{Works}
use Rattle.step_relation.specs.Writes.{draw_letters, letters_to, mail_entry, rows_entry, unlock, unlock_writes}
use Rattle.step_reads.specs.Waiting.{IsReadyThen}
use Rattle.step_reads.specs.Work.{IsFreshOf, fresh_of}
use Rattle.step_reads.specs.declared.work.Fresh.{Fresh}
use Rattle.check_steps.specs.declared.finish_found.Passed.{Passed}

-- the input that the job's node gives
abbrev pub its_input : Passed → Input
its_input it =
    input_of it.job.now.letter.node it.fresh.node.now it.job.now.row (option_map (λ r. r.now) it.fresh.row)

-- the job still has this work
abbrev pub IsAtWork : StateData → Job → Fresh → Type 0
IsAtWork s j it =
    IsFreshOf s j.letter j.row it.stack.now it.graph.now it.node.now (option_map (λ r. r.now) it.row)

-- these are the parts of the end of a job
pub record IsPassed (s : StateData) (e : ℕ) (it : Passed) : Type 0 where
  pub works : Works s e it.job.now Ending
  pub fresh : IsAtWork s it.job.now it.fresh
  pub input_is : it.input ≡ its_input it
  pub behind : ListsAll (Joins it.fresh.graph.now.graph.edges it.job.now.letter.node) it.succs
  pub ready_are : ListsAll (IsReadyThen it.fresh.graph.now it.job.now.letter.node (its_input it) it.succs) it.ready

-- the end that they make
abbrev pub finish_of : (s : StateData) (e : ℕ) (it : Passed) → IsPassed s e it → Finishes s e
finish_of s e it passed = record {
  job = it.job.now;
  works = passed.works;
  fresh = fresh_of s it.job.now.letter it.job.now.row it.fresh.stack.now it.fresh.graph.now it.fresh.node.now
      (option_map (λ r. r.now) it.fresh.row) passed.fresh;
  succs = it.succs;
  behind = passed.behind;
  ready = it.ready;
  ready_are = passed.ready_are;
}

-- a letter to each node that is ready then
abbrev pub passed_letters : StateData → Passed → List Letter
passed_letters s it = letters_to it.fresh.stack.now s.next.letter it.ready

-- the row is unlocked, the job ends, the points change, these letters are sent, and the mark follows
abbrev pub sent_changes : StateData → ℕ → Passed → List Letter → List Change → List Change
sent_changes s e it letters mark =
    draw_letters s.next letters (unlock (option_map (λ r. r.now) it.fresh.row) (EndJob e
    ∷ (map PutPoint (passed_points it.fresh.graph.now it.job.now.letter.node it.input it.succs)
    ++ (map Send letters ++ mark))))

abbrev pub sent_entries : ℕ → Passed → List Letter → List Entry → List Entry
sent_entries e it letters told =
    rows_entry (Engine e) (unlock_writes (option_map (λ r. r.now) it.fresh.row))
    ++ (mail_entry (Engine e) (Ended e ∷ map Sent letters) ++ told)

abbrev pub passed_changes : StateData → ℕ → Passed → List Change → List Change
passed_changes s e it mark = sent_changes s e it (passed_letters s it) mark

abbrev pub passed_entries : StateData → ℕ → Passed → List Entry → List Entry
passed_entries s e it told = sent_entries e it (passed_letters s it) told
