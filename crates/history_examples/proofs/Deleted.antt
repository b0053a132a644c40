-- The resource that it was to replace goes, and then the stack: `is_deleted`; and what the spoiled history breaks.
use Rattle.std.proofs.Common.{List, None, Some, [], arith, refl, suc, sym, zero, ◌∷◌, ◌≢◌}
use Rattle.std.specs.Prelude.{length, ◌++◌, ◌≤◌}
use Rattle.heat_plan.specs.Tables.{at, cut, put}
use Rattle.heat_plan.specs.declared.phase.Act.TheVariants.{Delete}
use Rattle.heat_plan.specs.declared.phase.Status.TheVariants.{Failed}
use Rattle.traversal_graph.specs.declared.shape.Node.TheVariants.{C}
use Rattle.provider.specs.Same.{same_token}
use Rattle.mail_table.specs.declared.mail.Stage.{Stage}
use Rattle.mail_table.specs.declared.mail.Stage.TheVariants.{Asking, Ending, Polling, Taken}
use Rattle.core_state.specs.Changes.{put_point}
use Rattle.core_state.specs.Reads.{IsReady}
use Rattle.core_state.specs.declared.change.Change.{Change}
use Rattle.core_state.specs.declared.change.Change.TheVariants.{Drop, DropRow, DropStack, EndJob, PutJob, PutPoint}
use Rattle.core_state.specs.declared.change.Change.TheVariants.{PutRow, PutStack, Send}
use Rattle.core_state.specs.declared.entry.Actor.TheVariants.{Engine}
use Rattle.step_relation.specs.Asks.{Calls, by_failure, deletes, looks, marks}
use Rattle.step_relation.specs.Cleanups.{Cleans}
use Rattle.step_relation.specs.Finishes.{Finishes, Settles}
use Rattle.step_relation.specs.Freshness.{IsFresh, IsMeant, plan_of}
use Rattle.step_relation.specs.Given.{Nothing}
use Rattle.step_relation.specs.Inputs.{AllDone}
use Rattle.step_relation.specs.Moves.{ask_begun, ask_failed, clean_deleted, finish, finish_last, poll_failed, poll_gone}
use Rattle.step_relation.specs.Moves.{take_dropped, take_free}
use Rattle.step_relation.specs.Nexts.{TakesNext}
use Rattle.step_relation.specs.Rows.{failed_row}
use Rattle.step_relation.specs.Runs.{Run, nothing}
use Rattle.step_relation.specs.Takes.{Takes, done}
use Rattle.step_relation.specs.Targets.{of_c}
use Rattle.step_relation.specs.Turns.{plain, stays, unfailed}
use Rattle.step_relation.specs.Could.{IsPossible}
use Rattle.step_relation.specs.Fits.{Fits}
use Rattle.step_relation.specs.Headline.{Headline}
use Rattle.history_laws.proofs.edges.Keeping.{last_is, only_one}
use Rattle.history_laws.proofs.tables.Puts.{contains_head, contains_none}
use Rattle.history_laws.proofs.tables.Rows.{letter-key}
use Rattle.history_examples.specs.Completed.{row_old}
use Rattle.history_examples.specs.Deleted.{IsDeleted, between, complete_tells, deleted, drop_tells, dropped, first}
use Rattle.history_examples.specs.Deleted.{first_asks, first_begins, first_cleaning, first_done, first_goes}
use Rattle.history_examples.specs.Deleted.{first_going, first_gone, first_held, first_leaves, first_leaving}
use Rattle.history_examples.specs.Deleted.{first_ready, first_takes, given, graph, history, marked_while_a_row_stands}
use Rattle.history_examples.specs.Deleted.{second, second_done, second_ends, second_gone, until_dropped}
use Rattle.history_examples.specs.Deleted.{until_first_gone, until_second_gone}
use Rattle.history_examples.specs.DeletedHalfway.{graph_three, stack_three}
use Rattle.history_examples.specs.Setting.{facts, letter, living, opening, registries, stack_name, token}
use Rattle.history_examples.specs.Spoiled.{IsNoRun}
use Rattle.history_examples.proofs.Finds.{each_job, each_letter}
use Rattle.history_examples.proofs.Kept.{incomplete}
use Rattle.history_examples.proofs.Lists.{lists_none, lists_one, not_done}
use Rattle.history_examples.proofs.Possible.{begun_states, cleared_states, deleted_states, made_states, ready_states}
use Rattle.history_examples.proofs.Possible.{some_cleared, some_deleted}
use Rattle.history_examples.proofs.SecondGone.{second_leaves_cloud}
use Rattle.history_examples.proofs.Sentences.{runs_have_headline, within}
use Rattle.history_examples.proofs.Steps.{by_call, by_turn}
use Rattle.core_state.specs.declared.change.Change.TheVariants as change_to
use Rattle.core_state.specs.declared.entry.Why.TheVariants as why
use Rattle.heat_plan.specs.declared.calls.Answered.TheVariants as reply
use Rattle.heat_plan.specs.declared.calls.Request.TheVariants as request
use Rattle.step_relation.specs.Freshness as serve

-- the second row's node is done, and the first row's node is ready
ready_then : IsReady (graph first_ready) 0
ready_then a edge = record {
  point = first_ready;
  input = given;
  there = refl;
  among = contains_head given [];
  from = (last_is (1, 0) (a, 0) edge).0;
}

finishes : Finishes second_gone 1
unfolding at
finishes = record {
  job = second Ending;
  works = record { live = contains_head 1 (2 ∷ []); its = refl; stage_is = refl };
  fresh = record {
    stack = stack_three;
    graph = graph_three;
    node = C 2;
    row = None;
    names = record { in_table = refl; newest = refl; its_graph = refl; its_node = refl };
    found = refl;
    serves = serve.cleans 2 None;
  };
  succs = 0 ∷ [];
  behind = lists_one _ 0 (contains_head (1, 0) []) (λ n edge. sym (last_is (1, 0) (1, n) edge).1);
  ready = 0 ∷ [];
  ready_are = lists_one _ 0 (contains_head 0 [], ready_then) (λ n it. sym (only_one 0 n it.0));
}

unsettled : ¬ Settles second_gone 1 finishes
unfolding at finishes
unsettled it = let d = it.all 0 (C 1) refl in not_done first_ready d.point refl d.there d.done

run_between : Run registries opening.state between (until_second_gone ++ second_ends)
unfolding at put cut put_point finishes
run_between = by_turn second_gone between
    (change_to.Numbers (record { stack = 2; trav = 4; row = 3; engine = 3; letter = 6 })
    ∷ EndJob 1 ∷ PutPoint second_done ∷ PutPoint first_ready ∷ Send (letter 5 3 0) ∷ []) until_second_gone second_ends
    second_leaves_cloud refl 1 Nothing (λ a is. cc)
    (plain None (finish finishes _ _ unsettled refl refl) unfailed) refl nothing

-- the letter that the release sent names a node that is done: it goes
drops : TakesNext between 1 (letter 4 3 1)
unfolding at
drops = record {
  live = contains_head 1 (2 ∷ []);
  jobless = refl;
  first = record {
    waits = refl;
    lowest = λ n other at_n.
        let key = letter-key (letter 4 3 1 ∷ letter 5 3 0 ∷ []) n other at_n in
        let is = each_letter (λ l. 4 ≤ l.no) (letter 4 3 1 ∷ letter 5 3 0 ∷ [])
        (omega arith, (omega arith, tt)) n other at_n in
        omega (arith, key, is);
  };
}

means : IsMeant between (letter 4 3 1)
unfolding at
means = record {
  target = 2;
  fresh = record {
    stack = stack_three;
    graph = graph first_ready;
    node = C 2;
    row = None;
    names = record { in_table = refl; newest = refl; its_graph = refl; its_node = refl };
    found = refl;
    serves = serve.cleans 2 None;
  };
  to = of_c 2;
}

run_dropped : Run registries opening.state dropped until_dropped
unfolding at put cut means
run_dropped = by_turn between dropped (Drop 4 ∷ [])
    (until_second_gone ++ second_ends) drop_tells run_between refl 1 Nothing (λ a is. cc)
    (plain None (take_dropped (letter 4 3 1) _ _ drops
    (done means (record { point = second_done; there = refl; done = refl })) refl refl)
    unfailed) refl nothing

-- the first row is taken
first_taking : Takes dropped 1
unfolding at
first_taking = record {
  letter = (letter 5 3 0);
  next = record {
    live = contains_head 1 (2 ∷ []);
    jobless = refl;
    first = record {
      waits = refl;
      lowest = λ n other at_n.
          let key = letter-key (letter 5 3 0 ∷ []) n other at_n in
          let is = each_letter (λ l. 5 ≤ l.no) (letter 5 3 0 ∷ []) (omega arith, tt) n other at_n in
          omega (arith, key, is);
    };
  };
  meant = record {
    target = 1;
    fresh = record {
      stack = stack_three;
      graph = (graph first_ready);
      node = C 1;
      row = Some row_old;
      names = record { in_table = refl; newest = refl; its_graph = refl; its_node = refl };
      found = refl;
      serves = serve.cleans 1 (Some row_old);
    };
    to = of_c 1;
  };
  open_ = λ d. not_done first_ready d.point refl d.there d.done;
}

first_taken : Run registries opening.state first_cleaning (until_dropped ++ first_takes)
unfolding at put cut first_taking
first_taken = by_turn dropped first_cleaning
    (PutRow first_held ∷ Drop 5 ∷ PutJob (first Taken) ∷ []) until_dropped first_takes run_dropped refl 1 Nothing
    (λ a is. cc)
    (plain None (take_free first_taking _ _
    (λ g j at_g. each_job (λ j. j.row ≢ 1) [] tt g j at_g) refl refl) unfailed) refl nothing

-- it is to go
first_cleans : Cleans first_cleaning 1
unfolding at
first_cleans = record {
  job = first Taken;
  stack = stack_three;
  graph = (graph first_ready);
  number = 1;
  works = record { live = contains_head 1 (2 ∷ []); its = refl; stage_is = refl };
  names = record { in_table = refl; newest = refl; its_graph = refl; its_node = refl };
}

first_begun : Run registries opening.state first_leaving ((until_dropped ++ first_takes) ++ first_begins)
unfolding at put cut first_cleans
first_begun = by_turn first_cleaning first_leaving (PutRow first_leaves ∷ PutJob (first Asking) ∷ [])
    (until_dropped ++ first_takes) first_begins first_taken refl
    1 Nothing (λ a is. cc) (plain None (clean_deleted first_cleans first_held _ _ refl
    (λ kept. contains_none _ kept.planned)
    (λ is. cc) (λ stuck. let act = stuck.act in cc) (λ is. cc) refl refl) unfailed) refl nothing

-- the cloud is asked for that, and what a failure would do
first_fresh : (stage : Stage) → IsFresh (record first_leaving { jobs = first stage ∷ [] }) (letter 5 3 0) 1
unfolding at
first_fresh stage = record {
  stack = stack_three;
  graph = (graph first_ready);
  node = C 1;
  row = Some first_leaves;
  names = record { in_table = refl; newest = refl; its_graph = refl; its_node = refl };
  found = refl;
  serves = serve.cleans 1 (Some first_leaves);
}

first_calls : (stage : Stage) → Calls (record first_leaving { jobs = first stage ∷ [] }) 1 stage
unfolding at
first_calls stage = record {
  job = first stage;
  row = first_leaves;
  works = record { live = contains_head 1 (2 ∷ []); its = refl; stage_is = refl };
  found = refl;
}

abbrev first_fails : List Change
first_fails = PutRow (failed_row first_leaves) ∷ EndJob 1 ∷ PutStack (record stack_three { status = Failed }) ∷ []

first_asked : Run registries opening.state first_going (((until_dropped ++ first_takes) ++ first_begins) ++ first_asks)
unfolding at put cut first_calls first_fresh
first_asked = by_call first_leaving first_going (PutJob (first Polling) ∷ [])
    ((until_dropped ++ first_takes) ++ first_begins) first_asks first_begun refl 1 reply.Begun first_fails _
    (plain None (ask_begun (first_calls Asking) request.Delete _ _ (deletes refl) refl refl) unfailed)
    (plain (Some stack_three) (ask_failed (first_calls Asking) request.Delete reply.Failed (why.Failed Delete) []
    (Some stack_three) _ _ (deletes refl) (by_failure _) (marks (first_fresh Asking) refl) refl refl)
    (stays stack_three (λ due. let no_ = due.asked in cc))) refl

first_leaves_cloud : Run registries opening.state first_gone until_first_gone
unfolding at put cut first_calls first_fresh
first_leaves_cloud = by_call first_going first_gone (DropRow 1 ∷ PutJob (first Ending) ∷ [])
    (((until_dropped ++ first_takes) ++ first_begins) ++ first_asks) first_goes first_asked refl 1 reply.Gone
    first_fails _
    (plain None (poll_gone (first_calls Polling) _ _ refl refl refl) unfailed)
    (plain (Some stack_three) (poll_failed (first_calls Polling) request.Gone reply.Failed (why.Failed Delete) []
    (Some stack_three) _ _ (looks refl) (by_failure _) (marks (first_fresh Polling) refl) refl refl)
    (stays stack_three (λ due. let no_ = due.asked in cc))) refl

-- the last node is done, and the stack goes
last_finishes : Finishes first_gone 1
unfolding at
last_finishes = record {
  job = first Ending;
  works = record { live = contains_head 1 (2 ∷ []); its = refl; stage_is = refl };
  fresh = record {
    stack = stack_three;
    graph = graph first_ready;
    node = C 1;
    row = None;
    names = record { in_table = refl; newest = refl; its_graph = refl; its_node = refl };
    found = refl;
    serves = serve.cleans 1 None;
  };
  succs = [];
  behind = lists_none _ (λ k edge. let is = (last_is (1, 0) (0, k) edge).0 in omega (arith, is));
  ready = [];
  ready_are = lists_none _ (λ k it. contains_none k it.0);
}

all_done : AllDone (graph first_done)
all_done zero node is = record { point = first_done; there = refl; done = refl }
all_done (suc zero) node is = record { point = second_done; there = refl; done = refl }
all_done (suc (suc i)) node is = cc

run_deleted : Run registries opening.state deleted history
unfolding at put cut put_point last_finishes
run_deleted = by_turn first_gone deleted (EndJob 1 ∷ PutPoint first_done ∷ DropStack stack_name ∷ []) until_first_gone
    complete_tells
    first_leaves_cloud refl 1 Nothing (λ a is. cc)
    (plain None (finish_last last_finishes _ _
    (record { all = all_done; unmarked = refl }) refl refl) unfailed) refl nothing

possible : IsPossible opening history
unfolding deleted_states cleared_states made_states ready_states begun_states
possible t = some_deleted (same_token (token 1) t) (same_token (token 2) t)

main_theorem : Headline registries opening history deleted
main_theorem = runs_have_headline registries deleted history run_deleted possible

pub is_deleted : IsDeleted
unfolding at put cut
is_deleted = record {
  run = run_deleted;
  headline = main_theorem;
  mark = refl;
  fits = (main_theorem.prefixes (length history) (omega arith)).complete stack_name
      (record { trav = 3; act = Delete; plan = None }) refl refl;
  first_absent = refl;
  second_absent = refl;
  rows = refl;
}

-- the first row's resource is alive still
still_alive : ¬ Fits opening until_dropped stack_name (plan_of None)
still_alive fits = contains_none _ (fits.no_other (token 1) (
  refl,
  record {
    lives = record { it = living 1 (Some facts); among = contains_head (Some (living 1 (Some facts))) [] };
    owned = λ c. contains_none (token 1) c;
  },
))

pub a_row_stands : IsNoRun marked_while_a_row_stands
unfolding cleared_states made_states ready_states begun_states at
a_row_stands = incomplete until_dropped (within registries dropped until_dropped [] right) (Engine 1)
    stack_name 3 Delete (record { trav = 3; act = Delete; plan = None }) refl still_alive refl refl refl refl
    registries dropped [] run_dropped some
  where
    some : IsPossible opening until_dropped
    some t = some_cleared (same_token (token 1) t) (same_token (token 2) t)

    right : Headline registries opening until_dropped dropped
    right = runs_have_headline registries dropped until_dropped run_dropped some
