-- The moves of the end of a job, by what was read.
use Rattle.std.proofs.Common.{◌≡◌, ◌∙◌, [], None, ap, map}
use Rattle.std.specs.Prelude.{List, option_map, ℕ, ◌++◌, ◌∷◌}
use Rattle.sync_points.specs.declared.point.Input.{Input}
use Rattle.core_state.specs.State.{StateData}
use Rattle.core_state.specs.declared.change.Change.{Change}
use Rattle.core_state.specs.declared.change.Change.TheVariants.{EndJob, PutPoint, Send}
use Rattle.core_state.specs.declared.entry.Actor.TheVariants.{Engine}
use Rattle.core_state.specs.declared.entry.Entry.{Entry}
use Rattle.step_relation.specs.Finishes.{Settles, finished_changes}
use Rattle.step_relation.specs.Given.{Nothing}
use Rattle.step_relation.specs.Inputs.{passed_points}
use Rattle.step_relation.specs.Moves.{Move, finish, finish_last}
use Rattle.step_relation.specs.Writes.{complete_mark, draw_letters, mark_complete, unlock}
use Rattle.check_steps.specs.Passes.{IsPassed, finish_of, passed_changes, passed_entries, passed_letters}
use Rattle.check_steps.specs.declared.finish_found.Passed.{Passed}

module _ (s : StateData) (e : ℕ) (it : Passed) (passed : IsPassed s e it) where
  -- the changes by the input that is given
  abbrev given : List Change → Input → List Change
  given mark x =
      draw_letters s.next (passed_letters s it) (unlock (option_map (λ r. r.now) it.fresh.row) (EndJob e
      ∷ (map PutPoint (passed_points it.fresh.graph.now it.job.now.letter.node x it.succs)
      ++ (map Send (passed_letters s it) ++ mark))))

  finished : (mark : List Change) → passed_changes s e it mark ≡ finished_changes s e (finish_of s e it passed) mark
  finished mark = ap (given mark) passed.input_is

  pub passes : (mark : List Change) (told : List Entry) → mark ≡ [] → told ≡ [] → ¬ Settles s e
      (finish_of s e it passed)
      → Move s e Nothing None (passed_changes s e it mark) (passed_entries s e it told)
  passes mark told none silent unsettled = finish (finish_of s e it passed) _ _ unsettled
      (finished mark ∙ ap (finished_changes s e (finish_of s e it passed)) none) (ap (passed_entries s e it) silent)

  pub completes : (mark : List Change) (told : List Entry) → mark ≡ mark_complete it.fresh.stack.now
      → told ≡ complete_mark (Engine e) it.fresh.stack.now ∷ [] → Settles s e (finish_of s e it passed)
      → Move s e Nothing None (passed_changes s e it mark) (passed_entries s e it told)
  completes mark told marks tells settled = finish_last (finish_of s e it passed) _ _ settled
      (finished mark ∙ ap (finished_changes s e (finish_of s e it passed)) marks) (ap (passed_entries s e it) tells)
