-- The update that overtook, up to the new row that is made: `run_made`.
use Rattle.std.proofs.Common.{None, Some, [], arith, refl, sym, List, ◌≤◌, ◌∷◌, ◌≢◌}
use Rattle.std.specs.Prelude.{codes}
use Rattle.heat_plan.specs.Tables.{at, cut, put}
use Rattle.heat_plan.specs.declared.phase.Act.TheVariants.{Create}
use Rattle.heat_plan.specs.declared.phase.Status.TheVariants.{Failed, InProgress}
use Rattle.traversal_graph.specs.declared.shape.Node.TheVariants.{C, U}
use Rattle.row_table.specs.Chains.{ends}
use Rattle.mail_table.specs.declared.mail.Stage.{Stage}
use Rattle.mail_table.specs.declared.mail.Stage.TheVariants.{Asking, Ending, Polling, Taken}
use Rattle.core_state.specs.Changes.{put_point}
use Rattle.core_state.specs.Reads.{IsReady}
use Rattle.core_state.specs.declared.change.Change.{Change}
use Rattle.core_state.specs.declared.change.Change.TheVariants.{Drop, EndJob, PutJob, PutPoint, PutRow, PutStack, Send}
use Rattle.type_catalog.specs.Changes.{replace}
use Rattle.type_catalog.specs.declared.effect.Effect.TheVariants.{Replace}
use Rattle.step_relation.specs.Asks.{Calls, by_failure, creates, marks, polls}
use Rattle.step_relation.specs.Begins.{Begins, changed}
use Rattle.step_relation.specs.Finishes.{Finishes, Settles}
use Rattle.step_relation.specs.Freshness.{IsFresh}
use Rattle.step_relation.specs.Given.{Nothing, Prepared}
use Rattle.step_relation.specs.Moves.{ask_begun, ask_failed, begin_replaced, finish, poll_failed, poll_ready, take_free}
use Rattle.step_relation.specs.Rows.{failed_row}
use Rattle.step_relation.specs.Runs.{Run, nothing, props}
use Rattle.step_relation.specs.Takes.{Takes}
use Rattle.step_relation.specs.Targets.{of_u}
use Rattle.step_relation.specs.Turns.{plain, stays, unfailed}
use Rattle.history_laws.proofs.edges.Keeping.{last_is, only_one}
use Rattle.history_laws.proofs.tables.Puts.{contains_head, contains_none}
use Rattle.history_laws.proofs.tables.Rows.{letter-key}
use Rattle.history_examples.specs.Completed.{ask_tells, asked, facts_two, first_done, given, graph, held, made}
use Rattle.history_examples.specs.Completed.{made_tells, moved, ready, ready_tells, row_made, row_old, row_ready}
use Rattle.history_examples.specs.Completed.{second_ready, until_asked, until_held, until_made, until_moved}
use Rattle.history_examples.specs.Completed.{until_ready, updates}
use Rattle.history_examples.specs.FirstRow.{row_done}
use Rattle.history_examples.specs.Overtaken.{freed, history}
use Rattle.history_examples.specs.Setting.{item, item_name, letter, opening, registries, sized}
use Rattle.history_examples.specs.Updates.{again, graph_two, open_point, replace_tells, retake_tells, row_two}
use Rattle.history_examples.specs.Updates.{stack_two}
use Rattle.history_examples.proofs.Finds.{each_job, each_letter}
use Rattle.history_examples.proofs.Lists.{lists_one, not_done, requires_none}
use Rattle.history_examples.proofs.Overtaken.{run_freed}
use Rattle.history_examples.proofs.Resolved.{of_size_two}
use Rattle.history_examples.proofs.Steps.{by_call, by_turn}
use Rattle.core_state.specs.declared.change.Change.TheVariants as change_to
use Rattle.core_state.specs.declared.entry.Why.TheVariants as why
use Rattle.heat_plan.specs.declared.calls.Answered.TheVariants as reply
use Rattle.heat_plan.specs.declared.calls.Request.TheVariants as request
use Rattle.step_relation.specs.Freshness as serve
use Rattle.step_relation.specs.Inputs as input

-- the first of the two letters is taken
takes : Takes freed 1
unfolding at
takes = record {
  letter = letter 2 2 0;
  next = record {
    live = contains_head 1 (2 ∷ []);
    jobless = refl;
    first = record {
      waits = refl;
      lowest = λ n other at_n.
          let key = letter-key (letter 2 2 0 ∷ letter 3 2 0 ∷ []) n other at_n in
          let is = each_letter (λ l. 2 ≤ l.no) (letter 2 2 0 ∷ letter 3 2 0 ∷ []) (omega arith, (omega arith, tt)) n
          other at_n in
          omega (arith, key, is);
    };
  };
  meant = record {
    target = 1;
    fresh = record {
      stack = stack_two 2 InProgress;
      graph = graph_two;
      node = U item_name 1;
      row = Some row_done;
      names = record { in_table = refl; newest = refl; its_graph = refl; its_node = refl };
      found = refl;
      serves = serve.updates item_name 1 (item 2) row_done refl (λ is. cc);
    };
    to = of_u item_name 1 1 (ends 1 row_done refl (λ m q is lt found. cc));
  };
  open_ = λ d. not_done (open_point 0) d.point refl d.there d.done;
}

run_held : Run registries opening.state held until_held
unfolding at put cut takes
run_held = by_turn freed held (PutRow (again row_done) ∷ Drop 2 ∷ PutJob (updates 1 Taken) ∷ []) history
    (retake_tells row_done)
    run_freed refl 1 Nothing (λ a is. cc)
    (plain None (take_free takes _ _ (λ g j at_g. each_job (λ j. j.row ≢ 1) [] tt g j at_g) refl refl) unfailed) refl
    nothing

-- the row of another size is replaced
begins_ : Begins held 1
unfolding at
begins_ = record {
  job = updates 1 Taken;
  stack = stack_two 2 InProgress;
  graph = graph_two;
  name = item_name;
  chosen = 1;
  item = item 2;
  row = again row_done;
  point = open_point 0;
  required = [];
  works = record { live = contains_head 1 (2 ∷ []); its = refl; stage_is = refl };
  names = record { in_table = refl; newest = refl; its_graph = refl; its_node = refl };
  asked = refl;
  found = refl;
  kept = λ is. cc;
  its_point = refl;
  requires_are = requires_none;
}

run_moved : Run registries opening.state moved until_moved
unfolding at put cut begins_
run_moved = by_turn held moved
    (change_to.Numbers (record { stack = 2; trav = 3; row = 3; engine = 3; letter = 4 })
    ∷ PutRow (row_two 2) ∷ PutRow row_old ∷ PutJob (updates 2 Asking) ∷ []) until_held (replace_tells 2 row_done)
    run_held refl
    1 (Prepared (sized 2) Replace) (λ a is. cc) (plain None (begin_replaced begins_ (sized 2) Replace _ _ (λ is. cc)
    (changed refl (λ is. let same = is.props_are in cc) (λ is. let place = is.in_place in cc)) refl refl) unfailed) refl
    (props begins_ (sized 2) Replace
    (record { known = []; known_are = input.none; result_is = of_size_two _ [] })
    (replace (codes "size") (λ is. cc) (contains_none (codes "size"))))

-- the cloud is asked for it, and what a failure would do
fresh_at : (stage : Stage) → IsFresh (record moved { jobs = updates 2 stage ∷ [] }) (letter 2 2 0) 2
unfolding at
fresh_at stage = record {
  stack = stack_two 2 InProgress;
  graph = graph_two;
  node = U item_name 1;
  row = Some (row_two 2);
  names = record { in_table = refl; newest = refl; its_graph = refl; its_node = refl };
  found = refl;
  serves = serve.updates item_name 1 (item 2) (row_two 2) refl (λ is. cc);
}

calls : (stage : Stage) → Calls (record moved { jobs = updates 2 stage ∷ [] }) 1 stage
unfolding at
calls stage = record {
  job = updates 2 stage;
  row = row_two 2;
  works = record { live = contains_head 1 (2 ∷ []); its = refl; stage_is = refl };
  found = refl;
}

abbrev fail_changes : List Change
fail_changes = PutRow (failed_row (row_two 2)) ∷ EndJob 1 ∷ PutStack (stack_two 2 Failed) ∷ []

run_asked : Run registries opening.state asked until_asked
unfolding at put cut calls fresh_at
run_asked = by_call moved asked (PutJob (updates 2 Polling) ∷ []) until_moved ask_tells run_moved refl 1 reply.Begun
    fail_changes _
    (plain None (ask_begun (calls Asking) (request.Create (codes "Box") (sized 2)) _ _ (creates refl) refl refl)
    unfailed)
    (plain (Some (stack_two 2 InProgress))
    (ask_failed (calls Asking) (request.Create (codes "Box") (sized 2)) reply.Failed
    (why.Failed Create) [] (Some (stack_two 2 InProgress)) _ _ (creates refl) (by_failure _)
    (marks (fresh_at Asking) refl) refl refl)
    (stays (stack_two 2 InProgress) (λ due. let no_ = due.asked in cc))) refl

run_ready : Run registries opening.state ready until_ready
unfolding at put cut calls fresh_at
run_ready = by_call asked ready (PutRow row_ready ∷ PutJob (updates 2 Ending) ∷ []) until_asked ready_tells run_asked
    refl
    1 (reply.Ready facts_two) fail_changes _
    (plain None (poll_ready (calls Polling) facts_two _ _ (λ is. cc) refl refl) unfailed)
    (plain (Some (stack_two 2 InProgress)) (poll_failed (calls Polling) request.Poll reply.Failed (why.Failed Create) []
    (Some (stack_two 2 InProgress)) _ _ (polls (λ is. cc)) (by_failure _) (marks (fresh_at Polling) refl) refl refl)
    (stays (stack_two 2 InProgress) (λ due. let no_ = due.asked in cc))) refl

-- the update node is done, and the clean-up node is ready
ready_then : IsReady (graph second_ready) 1
ready_then a edge = record {
  point = second_ready;
  input = given;
  there = refl;
  among = contains_head given [];
  from = (last_is (0, 1) (a, 1) edge).0;
}

finishes : Finishes ready 1
unfolding at
finishes = record {
  job = updates 2 Ending;
  works = record { live = contains_head 1 (2 ∷ []); its = refl; stage_is = refl };
  fresh = record {
    stack = stack_two 2 InProgress;
    graph = graph_two;
    node = U item_name 1;
    row = Some row_ready;
    names = record { in_table = refl; newest = refl; its_graph = refl; its_node = refl };
    found = refl;
    serves = serve.updates item_name 1 (item 2) row_ready refl (λ is. cc);
  };
  succs = 1 ∷ [];
  behind = lists_one _ 1 (contains_head (0, 1) []) (λ n edge. sym (last_is (0, 1) (0, n) edge).1);
  ready = 1 ∷ [];
  ready_are = lists_one _ 1 (contains_head 1 [], ready_then) (λ n it. sym (only_one 1 n it.0));
}

unsettled : ¬ Settles ready 1 finishes
unfolding at finishes
unsettled it = let d = it.all 1 (C 1) refl in not_done second_ready d.point refl d.there d.done

pub run_made : Run registries opening.state made until_made
unfolding at put cut put_point finishes
run_made = by_turn ready made
    (change_to.Numbers (record { stack = 2; trav = 3; row = 3; engine = 3; letter = 5 })
    ∷ PutRow row_made ∷ EndJob 1 ∷ PutPoint first_done ∷ PutPoint second_ready ∷ Send (letter 4 2 1) ∷ []) until_ready
    made_tells
    run_ready refl 1 Nothing (λ a is. cc) (plain None (finish finishes _ _ unsettled refl refl) unfailed) refl nothing
