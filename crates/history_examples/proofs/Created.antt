-- The create, from the ask on, and what a failed ask would do: `is_created`, `failing`.
use Rattle.std.proofs.Common.{Bool, List, None, Some, [], arith, false, refl, true, zero, suc, ◌∷◌}
use Rattle.std.specs.Prelude.{codes, length, ◌++◌}
use Rattle.heat_plan.specs.Tables.{at, cut, put}
use Rattle.heat_plan.specs.declared.item.Policy.{Policy}
use Rattle.heat_plan.specs.declared.item.Policy.TheVariants.{Delete}
use Rattle.heat_plan.specs.declared.phase.Act.TheVariants.{Create}
use Rattle.heat_plan.specs.declared.phase.Status.TheVariants.{Complete, Failed, InProgress}
use Rattle.traversal_graph.specs.declared.shape.Node.TheVariants.{U}
use Rattle.provider.specs.Same.{same_token}
use Rattle.mail_table.specs.declared.mail.Stage.TheVariants.{Asking, Ending, Polling}
use Rattle.core_state.specs.Changes.{put_point}
use Rattle.core_state.specs.declared.change.Change.{Change}
use Rattle.core_state.specs.declared.change.Change.TheVariants.{EndJob, PutJob, PutPoint, PutRow, PutStack}
use Rattle.step_relation.specs.Asks.{Calls, by_failure, creates, marks, polls}
use Rattle.step_relation.specs.Finishes.{Finishes}
use Rattle.step_relation.specs.Freshness.{IsFresh, updates}
use Rattle.step_relation.specs.Given.{Answer, Nothing}
use Rattle.step_relation.specs.Inputs.{AllDone}
use Rattle.step_relation.specs.Moves.{Move, ask_begun, ask_failed, finish_last, poll_failed, poll_ready}
use Rattle.step_relation.specs.Rows.{failed_row}
use Rattle.step_relation.specs.Runs.{Run, nothing}
use Rattle.step_relation.specs.Steps.{}
use Rattle.step_relation.specs.Turns.{Turn, plain, stays, unfailed}
use Rattle.step_relation.specs.Could.{IsPossible}
use Rattle.step_relation.specs.Headline.{Headline}
use Rattle.history_laws.proofs.tables.Puts.{contains_head, contains_none}
use Rattle.history_laws.proofs.headline.Empty.{empty_is_sound}
use Rattle.graph_laws.proofs.whole.Whole.{runs_headline}
use Rattle.history_examples.specs.Created.{IsCreated, ask_tells, asked, begun, begun_under, created, finish_tells}
use Rattle.history_examples.specs.Created.{graph, history, point, poll_tells, ready, stack, stack_under, until_asked}
use Rattle.history_examples.specs.Created.{until_begun}
use Rattle.history_examples.specs.FailedFirst.{fail_tells, fail_tells_under}
use Rattle.history_examples.specs.FirstRow.{row_begun, row_begun_under, row_done, row_ready}
use Rattle.history_examples.specs.Setting.{facts, item, item_name, item_under, job, letter, opening, plan, registries}
use Rattle.history_examples.specs.Setting.{sized}
use Rattle.history_examples.specs.Setting.{stack_name, token}
use Rattle.history_examples.proofs.Begun.{run_begun}
use Rattle.history_examples.proofs.Lists.{lists_none}
use Rattle.history_examples.proofs.Possible.{begun_states, ready_states, some_ready}
use Rattle.history_examples.proofs.Steps.{by_call, by_turn}
use Rattle.core_state.specs.declared.entry.Why.TheVariants as why
use Rattle.heat_plan.specs.declared.calls.Answered.TheVariants as reply
use Rattle.heat_plan.specs.declared.calls.Request.TheVariants as request

-- the ask, and what its failure would do
asks : (policy : Policy) (rollback : Bool) → Calls (begun_under policy rollback) 1 Asking
unfolding at
asks policy rollback = record {
  job = job 1 (letter 1 1 0) 1 Asking;
  row = row_begun_under policy;
  works = record { live = contains_head 1 (2 ∷ []); its = refl; stage_is = refl };
  found = refl;
}

fresh_asking : (policy : Policy) (rollback : Bool) → IsFresh (begun_under policy rollback) (letter 1 1 0) 1
unfolding at
fresh_asking policy rollback = record {
  stack = stack_under policy InProgress;
  graph = graph false;
  node = U item_name 1;
  row = Some (row_begun_under policy);
  names = record { in_table = refl; newest = refl; its_graph = refl; its_node = refl };
  found = refl;
  serves = updates item_name 1 (item_under policy 1) (row_begun_under policy) refl (λ is. cc);
}

abbrev pub ask_changes : List Change
ask_changes = PutJob (job 1 (letter 1 1 0) 1 Polling) ∷ []

abbrev pub fail_changes_under : Policy → List Change
fail_changes_under policy = PutRow (failed_row (row_begun_under policy)) ∷ EndJob 1
    ∷ PutStack (stack_under policy Failed) ∷ []

abbrev pub fail_changes : List Change
fail_changes = fail_changes_under Delete

pub failing : (policy : Policy) (rollback : Bool) → Move (begun_under policy rollback) 1 (Answer reply.Failed)
    (Some (stack_under policy InProgress)) (fail_changes_under policy) (fail_tells_under policy)
unfolding at asks fresh_asking
failing policy rollback = ask_failed (asks policy rollback) (request.Create (codes "Box") (sized 1)) reply.Failed
    (why.Failed Create) [] (Some (stack_under policy InProgress)) _ _ (creates refl) (by_failure _)
    (marks (fresh_asking policy rollback) refl) refl refl

pub fails : Turn (begun false) 1 (Answer reply.Failed) fail_changes fail_tells
unfolding at put cut
fails = plain (Some (stack InProgress)) (failing Delete false)
    (stays (stack InProgress) (λ due. let no_ = due.asked in cc))

pub run_asked : Run registries opening.state (asked false) (until_asked false)
unfolding at put cut asks
run_asked = by_call (begun false) (asked false) ask_changes (until_begun false) ask_tells (run_begun Delete false) refl
    1 reply.Begun fail_changes fail_tells
    (plain None (ask_begun (asks Delete false) (request.Create (codes "Box") (sized 1)) _ _
    (creates refl) refl refl) unfailed)
    fails refl

-- the poll, and what its failure would do
polls_ : Calls (asked false) 1 Polling
unfolding at
polls_ = record {
  job = job 1 (letter 1 1 0) 1 Polling;
  row = row_begun;
  works = record { live = contains_head 1 (2 ∷ []); its = refl; stage_is = refl };
  found = refl;
}

fresh_polling : IsFresh (asked false) (letter 1 1 0) 1
unfolding at
fresh_polling = record {
  stack = stack InProgress;
  graph = graph false;
  node = U item_name 1;
  row = Some row_begun;
  names = record { in_table = refl; newest = refl; its_graph = refl; its_node = refl };
  found = refl;
  serves = updates item_name 1 (item 1) row_begun refl (λ is. cc);
}

abbrev pub poll_changes : List Change
poll_changes = PutRow row_ready ∷ PutJob (job 1 (letter 1 1 0) 1 Ending) ∷ []

pub run_ready : Run registries opening.state (ready false) (until_asked false ++ poll_tells)
unfolding at put cut polls_ fresh_polling
run_ready = by_call (asked false) (ready false) poll_changes (until_asked false) poll_tells run_asked refl
    1 (reply.Ready facts) fail_changes _
    (plain None (poll_ready polls_ facts _ _ (λ is. cc) refl refl) unfailed)
    (plain (Some (stack InProgress)) (poll_failed polls_ request.Poll reply.Failed (why.Failed Create) []
    (Some (stack InProgress)) _ _ (polls (λ is. cc)) (by_failure _) (marks fresh_polling refl) refl refl)
    (stays (stack InProgress) (λ due. let no_ = due.asked in cc))) refl

-- the finish
finishes : Finishes (ready false) 1
unfolding at
finishes = record {
  job = job 1 (letter 1 1 0) 1 Ending;
  works = record { live = contains_head 1 (2 ∷ []); its = refl; stage_is = refl };
  fresh = record {
    stack = stack InProgress;
    graph = graph false;
    node = U item_name 1;
    row = Some row_ready;
    names = record { in_table = refl; newest = refl; its_graph = refl; its_node = refl };
    found = refl;
    serves = updates item_name 1 (item 1) row_ready refl (λ is. cc);
  };
  succs = [];
  behind = lists_none _ (λ k edge. contains_none (0, k) edge);
  ready = [];
  ready_are = lists_none _ (λ k it. contains_none k it.0);
}

all_done : AllDone (graph true)
all_done zero node is = record { point = point true; there = refl; done = refl }
all_done (suc i) node is = cc

abbrev pub finish_changes : List Change
finish_changes = PutRow row_done ∷ EndJob 1 ∷ PutPoint (point true) ∷ PutStack (stack Complete) ∷ []

pub run_created : Run registries opening.state (created false) history
unfolding at put cut put_point finishes
run_created =
    by_turn (ready false) (created false) finish_changes (until_asked false ++ poll_tells) finish_tells run_ready refl
    1 Nothing (λ a is. cc)
    (plain None (finish_last finishes _ _ (record { all = all_done; unmarked = refl }) refl refl) unfailed) refl nothing

-- the answers are ones that a provider gives
pub possible : IsPossible opening history
unfolding ready_states begun_states
possible t = some_ready (same_token (token 1) t)

pub main_theorem : Headline registries opening history (created false)
main_theorem = runs_headline registries opening (created false) history (empty_is_sound 2 (λ t. false)) run_created
    possible

pub is_created : IsCreated
unfolding at put cut
is_created = record {
  run = run_created;
  headline = main_theorem;
  mark = refl;
  fits = (main_theorem.prefixes (length history) (omega arith)).complete stack_name
      (record { trav = 1; act = Create; plan = Some (plan 1) }) refl refl;
  alive = refl;
  rows = refl;
}
