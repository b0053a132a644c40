-- The old row is cleaned up, and the update that overtook is complete: `is_completed`; and what the spoiled history
-- breaks.
use Rattle.std.proofs.Common.{List, None, Some, [], arith, refl, suc, zero, ◌≤◌, ◌∷◌, ◌≡◌, ◌≢◌}
use Rattle.std.proofs.lemmas.List.Elements.{All-head}
use Rattle.std.specs.Prelude.{length, ◌++◌}
use Rattle.heat_plan.specs.Tables.{at, cut, put}
use Rattle.heat_plan.specs.declared.phase.Act.TheVariants.{Delete, Update}
use Rattle.heat_plan.specs.declared.phase.Status.TheVariants.{Complete, Failed, InProgress}
use Rattle.traversal_graph.specs.declared.shape.Node.TheVariants.{C, U}
use Rattle.provider.specs.Same.{same_token}
use Rattle.row_table.specs.Chains.{ends, goes}
use Rattle.mail_table.specs.declared.mail.Stage.{Stage}
use Rattle.mail_table.specs.declared.mail.Stage.TheVariants.{Asking, Ending, Polling, Taken}
use Rattle.core_state.specs.Changes.{put_point}
use Rattle.core_state.specs.declared.change.Change.{Change}
use Rattle.core_state.specs.declared.change.Change.TheVariants.{Drop, DropRow, EndJob, PutJob, PutPoint, PutRow}
use Rattle.core_state.specs.declared.change.Change.TheVariants.{PutStack}
use Rattle.core_state.specs.declared.entry.Actor.TheVariants.{Engine}
use Rattle.core_state.specs.declared.entry.Entry.{Entry}
use Rattle.step_relation.specs.Asks.{Calls, by_failure, deletes, looks, marks}
use Rattle.step_relation.specs.Cleanups.{Cleans}
use Rattle.step_relation.specs.Finishes.{Finishes}
use Rattle.step_relation.specs.Freshness.{IsFresh, IsMeant}
use Rattle.step_relation.specs.Given.{Nothing}
use Rattle.step_relation.specs.Inputs.{AllDone}
use Rattle.step_relation.specs.Moves.{ask_begun, ask_failed, clean_deleted, finish_last, poll_failed, poll_gone}
use Rattle.step_relation.specs.Moves.{take_dropped, take_free}
use Rattle.step_relation.specs.Nexts.{TakesNext}
use Rattle.step_relation.specs.Rows.{failed_row}
use Rattle.step_relation.specs.Runs.{Run, nothing}
use Rattle.step_relation.specs.Takes.{Takes, done}
use Rattle.step_relation.specs.Targets.{of_c, of_u}
use Rattle.step_relation.specs.Turns.{plain, stays, unfailed}
use Rattle.step_relation.specs.Could.{IsPossible}
use Rattle.step_relation.specs.Fits.{Fits, HasExactly}
use Rattle.step_relation.specs.Headline.{Headline}
use Rattle.history_laws.proofs.edges.Keeping.{last_is}
use Rattle.history_laws.proofs.tables.Puts.{contains_head, contains_none}
use Rattle.history_laws.proofs.tables.Rows.{letter-key}
use Rattle.history_examples.specs.Completed.{IsCompleted, clean_tells, cleaning, cleans, complete_before_clean_up}
use Rattle.history_examples.specs.Completed.{complete_tells, completed, drop_tells, dropped, facts_two, first_done}
use Rattle.history_examples.specs.Completed.{going, going_tells, gone, gone_tells, graph, history, leave_tells, leaving}
use Rattle.history_examples.specs.Completed.{made, row_held, row_leaving, row_made, row_old, second_done, second_ready}
use Rattle.history_examples.specs.Completed.{until_cleaning, until_dropped, until_going, until_gone, until_leaving}
use Rattle.history_examples.specs.Completed.{until_made}
use Rattle.history_examples.specs.Setting.{facts, item, item_name, letter, living, opening, plan, registries}
use Rattle.history_examples.specs.Setting.{stack_name}
use Rattle.history_examples.specs.Setting.{token}
use Rattle.history_examples.specs.Spoiled.{IsNoRun}
use Rattle.history_examples.specs.Updates.{stack_two}
use Rattle.history_examples.proofs.Finds.{each_job, each_letter}
use Rattle.history_examples.proofs.Kept.{incomplete}
use Rattle.history_examples.proofs.Lists.{lists_none, not_done}
use Rattle.history_examples.proofs.Possible.{begun_states, gone_states, made_states, ready_states, some_gone, some_made}
use Rattle.history_examples.proofs.Replaced.{run_made}
use Rattle.history_examples.proofs.Sentences.{runs_have_headline, within}
use Rattle.history_examples.proofs.Steps.{by_call, by_turn}
use Rattle.core_state.specs.declared.entry.Why.TheVariants as why
use Rattle.heat_plan.specs.declared.calls.Answered.TheVariants as reply
use Rattle.heat_plan.specs.declared.calls.Request.TheVariants as request
use Rattle.step_relation.specs.Freshness as serve

-- the second letter names a node that is done: it goes
drops : TakesNext made 1 (letter 3 2 0)
unfolding at
drops = record {
  live = contains_head 1 (2 ∷ []);
  jobless = refl;
  first = record {
    waits = refl;
    lowest = λ n other at_n.
        let key = letter-key (letter 3 2 0 ∷ letter 4 2 1 ∷ []) n other at_n in
        let is = each_letter (λ l. 3 ≤ l.no) (letter 3 2 0 ∷ letter 4 2 1 ∷ []) (omega arith, (omega arith, tt)) n other
        at_n in
        omega (arith, key, is);
  };
}

means : IsMeant made (letter 3 2 0)
unfolding at
means = record {
  target = 2;
  fresh = record {
    stack = stack_two 2 InProgress;
    graph = graph second_ready;
    node = U item_name 1;
    row = Some row_made;
    names = record { in_table = refl; newest = refl; its_graph = refl; its_node = refl };
    found = refl;
    serves = serve.updates item_name 1 (item 2) row_made refl (λ is. cc);
  };
  to = of_u item_name 1 2 (goes 1 2 2 row_old refl refl (omega arith) (ends 2 row_made refl (λ m q is lt found. cc)));
}

run_dropped : Run registries opening.state dropped until_dropped
unfolding at put cut means
run_dropped = by_turn made dropped (Drop 3 ∷ []) until_made drop_tells run_made refl 1 Nothing (λ a is. cc)
    (plain None (take_dropped (letter 3 2 0) _ _ drops
    (done means (record { point = first_done; there = refl; done = refl })) refl refl)
    unfailed) refl nothing

-- the third one is for the clean-up node
takes : Takes dropped 1
unfolding at
takes = record {
  letter = letter 4 2 1;
  next = record {
    live = contains_head 1 (2 ∷ []);
    jobless = refl;
    first = record {
      waits = refl;
      lowest = λ n other at_n.
          let key = letter-key (letter 4 2 1 ∷ []) n other at_n in
          let is = each_letter (λ l. l.no ≡ 4) (letter 4 2 1 ∷ []) (refl, tt) n other at_n in
          omega (arith, key, is);
    };
  };
  meant = record {
    target = 1;
    fresh = record {
      stack = stack_two 2 InProgress;
      graph = graph second_ready;
      node = C 1;
      row = Some row_old;
      names = record { in_table = refl; newest = refl; its_graph = refl; its_node = refl };
      found = refl;
      serves = serve.cleans 1 (Some row_old);
    };
    to = of_c 1;
  };
  open_ = λ d. not_done second_ready d.point refl d.there d.done;
}

run_cleaning : Run registries opening.state cleaning until_cleaning
unfolding at put cut takes
run_cleaning =
    by_turn dropped cleaning (PutRow row_held ∷ Drop 4 ∷ PutJob (cleans Taken) ∷ []) until_dropped clean_tells
    run_dropped refl
    1 Nothing (λ a is. cc)
    (plain None (take_free takes _ _ (λ g j at_g. each_job (λ j. j.row ≢ 1) [] tt g j at_g) refl refl) unfailed) refl
    nothing

-- the old row is to go
begins_ : Cleans cleaning 1
unfolding at
begins_ = record {
  job = cleans Taken;
  stack = stack_two 2 InProgress;
  graph = graph second_ready;
  number = 1;
  works = record { live = contains_head 1 (2 ∷ []); its = refl; stage_is = refl };
  names = record { in_table = refl; newest = refl; its_graph = refl; its_node = refl };
}

run_leaving : Run registries opening.state leaving until_leaving
unfolding at put cut begins_
run_leaving = by_turn cleaning leaving (PutRow row_leaving ∷ PutJob (cleans Asking) ∷ []) until_cleaning leave_tells
    run_cleaning refl
    1 Nothing (λ a is. cc)
    (plain None (clean_deleted begins_ row_held _ _ refl (λ kept. let last = kept.current.current.last in cc)
    (λ is. cc) (λ stuck. let act = stuck.act in cc) (λ is. cc) refl refl) unfailed) refl nothing

-- the cloud is asked for that, and what a failure would do
fresh_at : (stage : Stage) → IsFresh (record leaving { jobs = cleans stage ∷ [] }) (letter 4 2 1) 1
unfolding at
fresh_at stage = record {
  stack = stack_two 2 InProgress;
  graph = graph second_ready;
  node = C 1;
  row = Some row_leaving;
  names = record { in_table = refl; newest = refl; its_graph = refl; its_node = refl };
  found = refl;
  serves = serve.cleans 1 (Some row_leaving);
}

calls : (stage : Stage) → Calls (record leaving { jobs = cleans stage ∷ [] }) 1 stage
unfolding at
calls stage = record {
  job = cleans stage;
  row = row_leaving;
  works = record { live = contains_head 1 (2 ∷ []); its = refl; stage_is = refl };
  found = refl;
}

abbrev fail_changes : List Change
fail_changes = PutRow (failed_row row_leaving) ∷ EndJob 1 ∷ PutStack (stack_two 2 Failed) ∷ []

run_going : Run registries opening.state going until_going
unfolding at put cut calls fresh_at
run_going = by_call leaving going (PutJob (cleans Polling) ∷ []) until_leaving going_tells run_leaving refl 1
    reply.Begun fail_changes _
    (plain None (ask_begun (calls Asking) request.Delete _ _ (deletes refl) refl refl) unfailed)
    (plain (Some (stack_two 2 InProgress)) (ask_failed (calls Asking) request.Delete reply.Failed (why.Failed Delete) []
    (Some (stack_two 2 InProgress)) _ _ (deletes refl) (by_failure _) (marks (fresh_at Asking) refl) refl refl)
    (stays (stack_two 2 InProgress) (λ due. let no_ = due.asked in cc))) refl

run_gone : Run registries opening.state gone until_gone
unfolding at put cut calls fresh_at
run_gone = by_call going gone (DropRow 1 ∷ PutJob (cleans Ending) ∷ []) until_going gone_tells run_going refl 1
    reply.Gone fail_changes _
    (plain None (poll_gone (calls Polling) _ _ refl refl refl) unfailed)
    (plain (Some (stack_two 2 InProgress)) (poll_failed (calls Polling) request.Gone reply.Failed (why.Failed Delete) []
    (Some (stack_two 2 InProgress)) _ _ (looks refl) (by_failure _) (marks (fresh_at Polling) refl) refl refl)
    (stays (stack_two 2 InProgress) (λ due. let no_ = due.asked in cc))) refl

-- the last node is done
finishes : Finishes gone 1
unfolding at
finishes = record {
  job = cleans Ending;
  works = record { live = contains_head 1 (2 ∷ []); its = refl; stage_is = refl };
  fresh = record {
    stack = stack_two 2 InProgress;
    graph = graph second_ready;
    node = C 1;
    row = None;
    names = record { in_table = refl; newest = refl; its_graph = refl; its_node = refl };
    found = refl;
    serves = serve.cleans 1 None;
  };
  succs = [];
  behind = lists_none _ (λ k edge. let is = (last_is (0, 1) (1, k) edge).0 in omega (arith, is));
  ready = [];
  ready_are = lists_none _ (λ k it. contains_none k it.0);
}

all_done : AllDone (graph second_done)
all_done zero node is = record { point = first_done; there = refl; done = refl }
all_done (suc zero) node is = record { point = second_done; there = refl; done = refl }
all_done (suc (suc i)) node is = cc

run_completed : Run registries opening.state completed history
unfolding at put cut put_point finishes
run_completed =
    by_turn gone completed (EndJob 1 ∷ PutPoint second_done ∷ PutStack (stack_two 2 Complete) ∷ []) until_gone
    complete_tells
    run_gone refl 1 Nothing (λ a is. cc)
    (plain None (finish_last finishes _ _ (record { all = all_done; unmarked = refl }) refl refl) unfailed) refl nothing

possible : IsPossible opening history
unfolding gone_states made_states ready_states begun_states
possible t = some_gone (same_token (token 1) t) (same_token (token 2) t)

main_theorem : Headline registries opening history completed
main_theorem = runs_have_headline registries completed history run_completed possible

pub is_completed : IsCompleted
unfolding at put cut
is_completed = record {
  run = run_completed;
  headline = main_theorem;
  mark = refl;
  fits = (main_theorem.prefixes (length history) (omega arith)).complete stack_name
      (record { trav = 2; act = Update; plan = Some (plan 2) }) refl refl;
  alive = refl;
  absent = refl;
  rows = refl;
}

-- two resources are alive under one name
too_many : ¬ Fits opening until_made stack_name (plan 2)
too_many fitted =
    let it : HasExactly opening until_made stack_name (plan 2) (item 2) =
    All-head (HasExactly opening until_made stack_name (plan 2)) (item 2) [] fitted.each in
    let old = it.only 1 (
      refl,
      record {
        lives = record { it = living 1 (Some facts); among = contains_head (Some (living 1 (Some facts))) [] };
        owned = λ c. contains_none (token 1) c;
      },
    ) in
    let new = it.only 2 (
      refl,
      record {
        lives = record {
          it = living 2 (Some facts_two);
          among = contains_head (Some (living 2 (Some facts_two))) [];
        };
        owned = λ c. contains_none (token 2) c;
      },
    ) in
    omega (arith, old, new)

abbrev after_made : List Entry
after_made = drop_tells ++ (clean_tells ++ (leave_tells ++ (going_tells ++ (gone_tells ++ complete_tells))))

pub before_clean_up : IsNoRun complete_before_clean_up
unfolding made_states ready_states begun_states at
before_clean_up = incomplete until_made (within registries completed until_made after_made main_theorem) (Engine 1)
    stack_name 2 Update (record { trav = 2; act = Update; plan = Some (plan 2) }) refl too_many refl refl refl refl
    registries made [] run_made (λ t. some_made (same_token (token 1) t) (same_token (token 2) t))
