-- The overtaken job under the delete: it asks, hears that it is ready, and is released: `run_freed`.
use Rattle.std.proofs.Common.{List, None, Some, [], arith, refl, subst, suc, sym, zero, ℕ, ◌∷◌, ◌≡◌}
use Rattle.std.specs.Prelude.{codes, ◌≤◌}
use Rattle.heat_plan.specs.Tables.{at, cut, put}
use Rattle.heat_plan.specs.declared.phase.Act.TheVariants.{Create}
use Rattle.row_table.specs.declared.row.Row.{Row}
use Rattle.mail_table.specs.declared.mail.Job.{Job}
use Rattle.mail_table.specs.declared.mail.Stage.{Stage}
use Rattle.mail_table.specs.declared.mail.Stage.TheVariants.{Asking, Ending, Polling}
use Rattle.core_state.specs.State.{StateData}
use Rattle.core_state.specs.declared.change.Change.{Change}
use Rattle.core_state.specs.declared.change.Change.TheVariants.{EndJob, PutJob, PutRow, Send}
use Rattle.core_state.specs.declared.stack.Stack.{Stack}
use Rattle.step_relation.specs.Asks.{Calls, by_failure, creates, polls}
use Rattle.step_relation.specs.Freshness.{IsOverrun}
use Rattle.step_relation.specs.Given.{Nothing}
use Rattle.step_relation.specs.Moves.{ask_begun, ask_failed, finish_overrun, poll_failed, poll_ready}
use Rattle.step_relation.specs.Resends.{AwaitsCleanup, AwaitsUpdate, HasGraph, Resends}
use Rattle.step_relation.specs.Rows.{failed_row}
use Rattle.step_relation.specs.Runs.{Run, nothing}
use Rattle.step_relation.specs.Takes.{Releases}
use Rattle.step_relation.specs.Turns.{plain, unfailed}
use Rattle.history_laws.proofs.edges.Keeping.{last_is}
use Rattle.history_laws.proofs.tables.Puts.{contains_head}
use Rattle.history_laws.proofs.tables.Rows.{same_some}
use Rattle.history_examples.specs.Completed.{facts_two, row_made, row_old, row_ready}
use Rattle.history_examples.specs.Deleted.{ask_tells, asked, freed, late, ready, ready_tells, release_tells}
use Rattle.history_examples.specs.Deleted.{until_asked, until_freed, until_ready}
use Rattle.history_examples.specs.DeletedHalfway.{deleting, graph_three, history, stack_three}
use Rattle.history_examples.specs.Setting.{letter, opening, registries, sized, stack_name}
use Rattle.history_examples.specs.Updates.{open_point, row_two}
use Rattle.history_examples.proofs.DeletedHalfway.{run_deleting}
use Rattle.history_examples.proofs.Lists.{not_done}
use Rattle.history_examples.proofs.Steps.{by_call, by_turn}
use Rattle.core_state.specs.declared.change.Change.TheVariants as change_to
use Rattle.core_state.specs.declared.entry.Why.TheVariants as why
use Rattle.heat_plan.specs.declared.calls.Answered.TheVariants as reply
use Rattle.heat_plan.specs.declared.calls.Request.TheVariants as request
use Rattle.step_relation.specs.Asks as ask
use Rattle.step_relation.specs.Resends as tell

-- the second row and the job at it, moment by moment
abbrev moment : Row → List Job → StateData
moment r jobs = record deleting { rows = row_old ∷ r ∷ []; jobs = jobs }

overrun : (r : Row) (jobs : List Job) (stage : Stage) → IsOverrun (moment r jobs) (late stage)
unfolding at
overrun r jobs stage x =
    let is : stack_three ≡ x.stack = same_some stack_three x.stack refl x.names.in_table in
    let trav : 3 ≡ 2 = subst (λ (y : Stack). y.trav ≡ 2) (sym is) x.names.newest in
    omega (arith, trav)

-- no update node waits for a row, and of the clean-up nodes the second one waits for the second row
no_update : (s : StateData) (k : ℕ) → ¬ AwaitsUpdate s stack_three graph_three 2 k
no_update s zero x = let node = x.node in cc
no_update s (suc zero) x = let node = x.node in cc
no_update s (suc (suc k)) x = let node = x.node in cc

second_waits : AwaitsCleanup graph_three 2 1
second_waits = record {
  node = refl;
  open_ = record {
    ready = λ b edge. let is = (last_is (1, 0) (b, 1) edge).1 in absurd (omega (arith, is));
    undone = λ d. not_done (open_point 1) d.point refl d.there d.done;
  };
}

least : (k : ℕ) → AwaitsCleanup graph_three 2 k → 1 ≤ k
least zero x = let node = x.node in cc
least (suc k) x = omega arith

told : (r : Row) (jobs : List Job) → Resends (moment r jobs) stack_name 2 (letter 4 3 1 ∷ [])
unfolding at
told r jobs = tell.cleanup stack_three graph_three 1 (record { in_table = refl; its_graph = refl })
    (no_update (moment r jobs)) (record { is = second_waits; least = least })

calls : (stage : Stage) → Calls (moment (row_two 2) (late stage ∷ [])) 1 stage
unfolding at
calls stage = record {
  job = late stage;
  row = row_two 2;
  works = record { live = contains_head 1 (2 ∷ []); its = refl; stage_is = refl };
  found = refl;
}

abbrev fail_changes : List Change
fail_changes =
    change_to.Numbers (record { stack = 2; trav = 4; row = 3; engine = 3; letter = 5 })
    ∷ PutRow (failed_row (row_two 2)) ∷ EndJob 1 ∷ Send (letter 4 3 1) ∷ []

run_asked : Run registries opening.state asked until_asked
unfolding at put cut calls
run_asked = by_call deleting asked (PutJob
    (late Polling) ∷ []) history ask_tells run_deleting refl 1 reply.Begun fail_changes _
    (plain None (ask_begun (calls Asking) (request.Create (codes "Box") (sized 2)) _ _
    (creates refl) refl refl) unfailed)
    (plain None (ask_failed (calls Asking) (request.Create (codes "Box") (sized 2)) reply.Failed (why.Failed Create)
    (letter 4 3 1 ∷ []) None _ _ (creates refl) (by_failure _) (ask.overrun (letter 4 3 1 ∷ [])
    (overrun (row_two 2) (late Asking ∷ []) Asking) (told (row_two 2) (late Asking ∷ []))) refl refl) unfailed) refl

run_ready : Run registries opening.state ready until_ready
unfolding at put cut calls
run_ready = by_call asked ready (PutRow row_ready ∷ PutJob (late Ending) ∷ []) until_asked ready_tells run_asked refl
    1 (reply.Ready facts_two) fail_changes _
    (plain None (poll_ready (calls Polling) facts_two _ _ (λ is. cc) refl refl) unfailed)
    (plain None (poll_failed (calls Polling) request.Poll reply.Failed (why.Failed Create)
    (letter 4 3 1 ∷ []) None _ _ (polls (λ is. cc)) (by_failure _) (ask.overrun (letter 4 3 1 ∷ [])
    (overrun (row_two 2) (late Polling ∷ []) Polling) (told (row_two 2) (late Polling ∷ []))) refl refl) unfailed) refl

releases : Releases ready 1 (late Ending)
unfolding at
releases = record {
  row = Some row_ready;
  found = refl;
  overrun = overrun row_ready (late Ending ∷ []) Ending;
  letters = letter 4 3 1 ∷ [];
  resends = told row_ready (late Ending ∷ []);
}

pub run_freed : Run registries opening.state freed until_freed
unfolding at put cut releases
run_freed = by_turn ready freed
    (change_to.Numbers (record { stack = 2; trav = 4; row = 3; engine = 3; letter = 5 })
    ∷ PutRow row_made ∷ EndJob 1 ∷ Send (letter 4 3 1) ∷ []) until_ready release_tells run_ready refl 1 Nothing
    (λ a is. cc)
    (plain None (finish_overrun (late Ending) _ _
    (record { live = contains_head 1 (2 ∷ []); its = refl; stage_is = refl }) releases refl refl) unfailed) refl nothing
