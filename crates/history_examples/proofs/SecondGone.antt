-- The late resource goes: `second_leaves_cloud`.
use Rattle.std.proofs.Common.{List, None, Some, [], arith, refl, ◌∷◌, ◌≢◌}
use Rattle.std.specs.Prelude.{◌++◌, ◌≤◌}
use Rattle.heat_plan.specs.Tables.{at, cut, put}
use Rattle.heat_plan.specs.declared.phase.Act.TheVariants.{Delete}
use Rattle.heat_plan.specs.declared.phase.Status.TheVariants.{Failed}
use Rattle.traversal_graph.specs.declared.shape.Node.TheVariants.{C}
use Rattle.mail_table.specs.declared.mail.Stage.{Stage}
use Rattle.mail_table.specs.declared.mail.Stage.TheVariants.{Asking, Ending, Polling, Taken}
use Rattle.core_state.specs.declared.change.Change.{Change}
use Rattle.core_state.specs.declared.change.Change.TheVariants.{Drop, DropRow, EndJob, PutJob, PutRow, PutStack}
use Rattle.step_relation.specs.Asks.{Calls, by_failure, deletes, looks, marks}
use Rattle.step_relation.specs.Cleanups.{Cleans}
use Rattle.step_relation.specs.Freshness.{IsFresh, IsMeant, plan_of}
use Rattle.step_relation.specs.Given.{Nothing}
use Rattle.step_relation.specs.Moves.{ask_begun, ask_failed, clean_deleted, poll_failed, poll_gone, take_free}
use Rattle.step_relation.specs.Rows.{failed_row}
use Rattle.step_relation.specs.Runs.{Run, nothing}
use Rattle.step_relation.specs.Takes.{Takes}
use Rattle.step_relation.specs.Targets.{of_c}
use Rattle.step_relation.specs.Turns.{plain, stays, unfailed}
use Rattle.history_laws.proofs.tables.Puts.{contains_head, contains_none}
use Rattle.history_laws.proofs.tables.Rows.{letter-key}
use Rattle.history_examples.specs.Completed.{row_made}
use Rattle.history_examples.specs.Deleted.{freed, second, second_asks, second_begins, second_cleaning, second_goes}
use Rattle.history_examples.specs.Deleted.{second_going, second_gone, second_held, second_leaves, second_leaving}
use Rattle.history_examples.specs.Deleted.{second_takes, until_freed, until_second_gone}
use Rattle.history_examples.specs.DeletedHalfway.{graph_three, stack_three}
use Rattle.history_examples.specs.Setting.{letter, opening, registries}
use Rattle.history_examples.specs.Updates.{open_point}
use Rattle.history_examples.proofs.Finds.{each_job, each_letter}
use Rattle.history_examples.proofs.Lists.{not_done}
use Rattle.history_examples.proofs.Released.{run_freed}
use Rattle.history_examples.proofs.Steps.{by_call, by_turn}
use Rattle.core_state.specs.declared.entry.Why.TheVariants as why
use Rattle.heat_plan.specs.declared.calls.Answered.TheVariants as reply
use Rattle.heat_plan.specs.declared.calls.Request.TheVariants as request
use Rattle.step_relation.specs.Freshness as serve

-- the second row is taken
second_taking : Takes freed 1
unfolding at
second_taking = record {
  letter = (letter 3 3 1);
  next = record {
    live = contains_head 1 (2 ∷ []);
    jobless = refl;
    first = record {
      waits = refl;
      lowest = λ n other at_n.
          let key = letter-key (letter 3 3 1 ∷ letter 4 3 1 ∷ []) n other at_n in
          let is = each_letter (λ l. 3 ≤ l.no) (letter 3 3 1 ∷ letter 4 3 1 ∷ [])
          (omega arith, (omega arith, tt)) n other at_n in
          omega (arith, key, is);
    };
  };
  meant = record {
    target = 2;
    fresh = record {
      stack = stack_three;
      graph = graph_three;
      node = C 2;
      row = Some row_made;
      names = record { in_table = refl; newest = refl; its_graph = refl; its_node = refl };
      found = refl;
      serves = serve.cleans 2 (Some row_made);
    };
    to = of_c 2;
  };
  open_ = λ d. not_done (open_point 1) d.point refl d.there d.done;
}

second_taken : Run registries opening.state second_cleaning (until_freed ++ second_takes)
unfolding at put cut second_taking
second_taken = by_turn freed second_cleaning
    (PutRow second_held ∷ Drop 3 ∷ PutJob (second Taken) ∷ []) until_freed second_takes run_freed refl 1 Nothing
    (λ a is. cc)
    (plain None (take_free second_taking _ _
    (λ g j at_g. each_job (λ j. j.row ≢ 2) [] tt g j at_g) refl refl) unfailed) refl nothing

-- it is to go
second_cleans : Cleans second_cleaning 1
unfolding at
second_cleans = record {
  job = second Taken;
  stack = stack_three;
  graph = graph_three;
  number = 2;
  works = record { live = contains_head 1 (2 ∷ []); its = refl; stage_is = refl };
  names = record { in_table = refl; newest = refl; its_graph = refl; its_node = refl };
}

second_begun : Run registries opening.state second_leaving ((until_freed ++ second_takes) ++ second_begins)
unfolding at put cut second_cleans
second_begun = by_turn second_cleaning second_leaving (PutRow second_leaves ∷ PutJob (second Asking) ∷ [])
    (until_freed ++ second_takes) second_begins second_taken refl
    1 Nothing (λ a is. cc) (plain None (clean_deleted second_cleans second_held _ _ refl
    (λ kept. contains_none _ kept.planned)
    (λ is. cc) (λ stuck. let act = stuck.act in cc) (λ is. cc) refl refl) unfailed) refl nothing

-- the cloud is asked for that, and what a failure would do
second_fresh : (stage : Stage) → IsFresh (record second_leaving { jobs = second stage ∷ [] }) (letter 3 3 1) 2
unfolding at
second_fresh stage = record {
  stack = stack_three;
  graph = graph_three;
  node = C 2;
  row = Some second_leaves;
  names = record { in_table = refl; newest = refl; its_graph = refl; its_node = refl };
  found = refl;
  serves = serve.cleans 2 (Some second_leaves);
}

second_calls : (stage : Stage) → Calls (record second_leaving { jobs = second stage ∷ [] }) 1 stage
unfolding at
second_calls stage = record {
  job = second stage;
  row = second_leaves;
  works = record { live = contains_head 1 (2 ∷ []); its = refl; stage_is = refl };
  found = refl;
}

abbrev second_fails : List Change
second_fails = PutRow (failed_row second_leaves) ∷ EndJob 1 ∷ PutStack (record stack_three { status = Failed }) ∷ []

second_asked : Run registries opening.state second_going
    (((until_freed ++ second_takes) ++ second_begins) ++ second_asks)
unfolding at put cut second_calls second_fresh
second_asked = by_call second_leaving second_going (PutJob (second Polling) ∷ [])
    ((until_freed ++ second_takes) ++ second_begins) second_asks second_begun refl 1 reply.Begun second_fails _
    (plain None (ask_begun (second_calls Asking) request.Delete _ _ (deletes refl) refl refl) unfailed)
    (plain (Some stack_three) (ask_failed (second_calls Asking) request.Delete reply.Failed (why.Failed Delete) []
    (Some stack_three) _ _ (deletes refl) (by_failure _) (marks (second_fresh Asking) refl) refl refl)
    (stays stack_three (λ due. let no_ = due.asked in cc))) refl

pub second_leaves_cloud : Run registries opening.state second_gone until_second_gone
unfolding at put cut second_calls second_fresh
second_leaves_cloud = by_call second_going second_gone (DropRow 2 ∷ PutJob (second Ending) ∷ [])
    (((until_freed ++ second_takes) ++ second_begins) ++ second_asks) second_goes second_asked refl 1 reply.Gone
    second_fails _
    (plain None (poll_gone (second_calls Polling) _ _ refl refl refl) unfailed)
    (plain (Some stack_three) (poll_failed (second_calls Polling) request.Gone reply.Failed (why.Failed Delete) []
    (Some stack_three) _ _ (looks refl) (by_failure _) (marks (second_fresh Polling) refl) refl refl)
    (stays stack_three (λ due. let no_ = due.asked in cc))) refl
