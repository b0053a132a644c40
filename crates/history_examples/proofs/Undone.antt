-- The rollback, step by step to its end: `is_undone`; and what the spoiled history breaks.
use Rattle.std.proofs.Common.{List, None, Some, [], arith, refl, suc, zero, ◌∷◌, ◌≡◌, ◌≢◌}
use Rattle.std.specs.Prelude.{length}
use Rattle.heat_plan.specs.Tables.{at, cut, put}
use Rattle.heat_plan.specs.declared.item.Policy.{Policy}
use Rattle.heat_plan.specs.declared.phase.Act.TheVariants.{Delete, Rollback}
use Rattle.heat_plan.specs.declared.phase.Status.TheVariants.{Failed}
use Rattle.traversal_graph.specs.declared.shape.Node.TheVariants.{C}
use Rattle.heat_plan.specs.declared.token.Token.{Token}
use Rattle.provider.specs.Same.{same_token}
use Rattle.mail_table.specs.declared.mail.Stage.{Stage}
use Rattle.mail_table.specs.declared.mail.Stage.TheVariants.{Asking, Ending, Polling, Taken}
use Rattle.core_state.specs.Changes.{put_point}
use Rattle.core_state.specs.declared.change.Change.{Change}
use Rattle.core_state.specs.declared.change.Change.TheVariants.{Drop, DropRow, EndJob, PutJob, PutPoint, PutRow}
use Rattle.core_state.specs.declared.change.Change.TheVariants.{PutStack}
use Rattle.core_state.specs.declared.entry.Actor.TheVariants.{Engine}
use Rattle.step_relation.specs.Asks.{Calls, by_failure, deletes, looks, marks}
use Rattle.step_relation.specs.Cleanups.{Cleans}
use Rattle.step_relation.specs.Finishes.{Finishes}
use Rattle.step_relation.specs.Freshness.{IsFresh, plan_of}
use Rattle.step_relation.specs.Given.{Nothing}
use Rattle.step_relation.specs.Inputs.{AllDone}
use Rattle.step_relation.specs.Moves.{ask_begun, ask_failed, clean_deleted, finish_last, poll_failed, poll_gone}
use Rattle.step_relation.specs.Moves.{take_free}
use Rattle.step_relation.specs.Rows.{failed_row}
use Rattle.step_relation.specs.Runs.{Run, nothing}
use Rattle.step_relation.specs.Takes.{Takes}
use Rattle.step_relation.specs.Targets.{of_c}
use Rattle.step_relation.specs.Turns.{plain, stays, unfailed}
use Rattle.step_relation.specs.Could.{IsPossible}
use Rattle.step_relation.specs.Fits.{Fits}
use Rattle.step_relation.specs.Tokens.{IsCertain}
use Rattle.step_relation.specs.Headline.{Headline}
use Rattle.history_laws.proofs.tables.Puts.{contains_head, contains_none}
use Rattle.history_laws.proofs.tables.Rows.{letter-key}
use Rattle.history_examples.specs.FailedFirst.{row_failed_under}
use Rattle.history_examples.specs.RolledBack.{going_back, going_back_under, graph_back, stack_back}
use Rattle.history_examples.specs.Setting.{letter, living, opening, registries, stack_name, token}
use Rattle.history_examples.specs.Spoiled.{IsNoRun}
use Rattle.history_examples.specs.Undone.{IsUndone, clean_tells, cleaning, cleaning_under, cleans, complete_tells, done}
use Rattle.history_examples.specs.Undone.{going, going_tells, gone, gone_tells, graph_done, history, leave_tells}
use Rattle.history_examples.specs.Undone.{leaving}
use Rattle.history_examples.specs.Undone.{marked_in_doubt, row_held, row_held_under, row_leaving, stack_undone, undone}
use Rattle.history_examples.specs.Undone.{until_cleaning, until_cleaning_under, until_going, until_gone, until_leaving}
use Rattle.history_examples.specs.Updates.{open_point}
use Rattle.history_examples.proofs.Finds.{each_job, each_letter}
use Rattle.history_examples.proofs.Kept.{incomplete}
use Rattle.history_examples.proofs.Lists.{lists_none, not_done}
use Rattle.history_examples.proofs.Possible.{failed_states, some_failed, some_undone, undone_states}
use Rattle.history_examples.proofs.RolledBack.{run_back}
use Rattle.history_examples.proofs.Sentences.{runs_have_headline, within}
use Rattle.history_examples.proofs.Steps.{by_call, by_turn}
use Rattle.core_state.specs.declared.entry.Why.TheVariants as why
use Rattle.heat_plan.specs.declared.item.Policy.TheVariants as policies
use Rattle.heat_plan.specs.declared.calls.Answered.TheVariants as reply
use Rattle.heat_plan.specs.declared.calls.Request.TheVariants as request
use Rattle.history_examples.specs.RolledBack as before
use Rattle.step_relation.specs.Freshness as serve

-- the letter for the clean-up node is taken
takes : (policy : Policy) → Takes (going_back_under policy) 1
unfolding at
takes policy = record {
  letter = letter 2 2 0;
  next = record {
    live = contains_head 1 (2 ∷ []);
    jobless = refl;
    first = record {
      waits = refl;
      lowest = λ n other at_n.
          let key = letter-key (letter 2 2 0 ∷ []) n other at_n in
          let is = each_letter (λ l. l.no ≡ 2) (letter 2 2 0 ∷ []) (refl, tt) n other at_n in
          omega (arith, key, is);
    };
  };
  meant = record {
    target = 1;
    fresh = record {
      stack = stack_back;
      graph = graph_back;
      node = C 1;
      row = Some (row_failed_under policy);
      names = record { in_table = refl; newest = refl; its_graph = refl; its_node = refl };
      found = refl;
      serves = serve.cleans 1 (Some (row_failed_under policy));
    };
    to = of_c 1;
  };
  open_ = λ d. not_done (open_point 0) d.point refl d.there d.done;
}

pub run_cleaning : (policy : Policy)
    → Run registries opening.state (cleaning_under policy) (until_cleaning_under policy)
unfolding at put cut takes
run_cleaning policy = by_turn (going_back_under policy) (cleaning_under policy)
    (PutRow (row_held_under policy) ∷ Drop 2 ∷ PutJob (cleans Taken) ∷ []) (before.history_under policy)
    (clean_tells policy) (run_back policy) refl
    1 Nothing (λ a is. cc)
    (plain None (take_free (takes policy) _ _ (λ g j at_g. each_job (λ j. j.row ≢ 1) [] tt g j at_g) refl refl)
    unfailed)
    refl nothing

-- no plan has the row's name any more: it is to go
unfoldable pub begins_ : (policy : Policy) → Cleans (cleaning_under policy) 1
unfolding at
begins_ policy = record {
  job = cleans Taken;
  stack = stack_back;
  graph = graph_back;
  number = 1;
  works = record { live = contains_head 1 (2 ∷ []); its = refl; stage_is = refl };
  names = record { in_table = refl; newest = refl; its_graph = refl; its_node = refl };
}

run_leaving : Run registries opening.state leaving until_leaving
unfolding at put cut begins_
run_leaving = by_turn cleaning leaving (PutRow row_leaving ∷ PutJob (cleans Asking) ∷ []) until_cleaning leave_tells
    (run_cleaning policies.Delete) refl
    1 Nothing (λ a is. cc)
    (plain None (clean_deleted (begins_ policies.Delete) row_held _ _ refl (λ kept. contains_none _ kept.planned)
    (λ is. cc) (λ stuck. let act = stuck.act in cc) (λ is. cc) refl refl) unfailed) refl nothing

-- the cloud is asked for that, and what a failure would do
fresh_at : (stage : Stage) → IsFresh (record leaving { jobs = cleans stage ∷ [] }) (letter 2 2 0) 1
unfolding at
fresh_at stage = record {
  stack = stack_back;
  graph = graph_back;
  node = C 1;
  row = Some row_leaving;
  names = record { in_table = refl; newest = refl; its_graph = refl; its_node = refl };
  found = refl;
  serves = serve.cleans 1 (Some row_leaving);
}

calls : (stage : Stage) → Calls (record leaving { jobs = cleans stage ∷ [] }) 1 stage
unfolding at
calls stage = record {
  job = cleans stage;
  row = row_leaving;
  works = record { live = contains_head 1 (2 ∷ []); its = refl; stage_is = refl };
  found = refl;
}

abbrev fail_changes : List Change
fail_changes = PutRow (failed_row row_leaving) ∷ EndJob 1 ∷ PutStack (record stack_back { status = Failed }) ∷ []

run_going : Run registries opening.state going until_going
unfolding at put cut calls fresh_at
run_going = by_call leaving going (PutJob (cleans Polling) ∷ []) until_leaving going_tells run_leaving refl 1
    reply.Begun fail_changes _
    (plain None (ask_begun (calls Asking) request.Delete _ _ (deletes refl) refl refl) unfailed)
    (plain (Some stack_back) (ask_failed (calls Asking) request.Delete reply.Failed (why.Failed Delete) []
    (Some stack_back) _ _ (deletes refl) (by_failure _) (marks (fresh_at Asking) refl) refl refl)
    (stays stack_back (λ due. let no_ = due.asked in cc))) refl

run_gone : Run registries opening.state gone until_gone
unfolding at put cut calls fresh_at
run_gone = by_call going gone (DropRow 1 ∷ PutJob (cleans Ending) ∷ []) until_going gone_tells run_going refl 1
    reply.Gone fail_changes _
    (plain None (poll_gone (calls Polling) _ _ refl refl refl) unfailed)
    (plain (Some stack_back) (poll_failed (calls Polling) request.Gone reply.Failed (why.Failed Delete) []
    (Some stack_back) _ _ (looks refl) (by_failure _) (marks (fresh_at Polling) refl) refl refl)
    (stays stack_back (λ due. let no_ = due.asked in cc))) refl

-- the only node is done
unfoldable pub finishes : (given : List Token) → Finishes (record gone { released = given }) 1
unfolding at
finishes given = record {
  job = cleans Ending;
  works = record { live = contains_head 1 (2 ∷ []); its = refl; stage_is = refl };
  fresh = record {
    stack = stack_back;
    graph = graph_back;
    node = C 1;
    row = None;
    names = record { in_table = refl; newest = refl; its_graph = refl; its_node = refl };
    found = refl;
    serves = serve.cleans 1 None;
  };
  succs = [];
  behind = lists_none _ (λ k edge. contains_none (0, k) edge);
  ready = [];
  ready_are = lists_none _ (λ k it. contains_none k it.0);
}

pub all_done : AllDone graph_done
all_done zero node is = record { point = done; there = refl; done = refl }
all_done (suc i) node is = cc

run_undone : Run registries opening.state undone history
unfolding at put cut put_point finishes
run_undone = by_turn gone undone (EndJob 1 ∷ PutPoint done ∷ PutStack stack_undone ∷ []) until_gone complete_tells
    run_gone refl 1 Nothing (λ a is. cc)
    (plain None (finish_last (finishes []) _ _ (record { all = all_done; unmarked = refl }) refl refl) unfailed)
    refl nothing

possible : IsPossible opening history
unfolding undone_states failed_states
possible t = some_undone (same_token (token 1) t)

main_theorem : Headline registries opening history undone
main_theorem = runs_have_headline registries undone history run_undone possible

pub is_undone : IsUndone
unfolding at put cut
is_undone = record {
  run = run_undone;
  headline = main_theorem;
  mark = refl;
  fits = (main_theorem.prefixes (length history) (omega arith)).complete stack_name
      (record { trav = 2; act = Rollback; plan = Some (plan_of None) }) refl refl;
  absent = refl;
  rows = refl;
}

-- a token that may be absent or alive is in doubt
in_doubt : IsCertain (None ∷ Some (living 1 None) ∷ []) → ⊥
in_doubt it = let alone : None ∷ Some (living 1 None) ∷ [] ≡ it.state ∷ [] = it.alone in cc

doubted : ¬ Fits opening before.history stack_name (plan_of None)
doubted fits = in_doubt (fits.certain (token 1) refl (λ c. contains_none (token 1) c))

pub not_in_doubt : IsNoRun marked_in_doubt
unfolding failed_states at
not_in_doubt = incomplete before.history (within registries going_back before.history [] right) (Engine 1)
    stack_name 2 Rollback (record { trav = 2; act = Rollback; plan = Some (plan_of None) }) refl doubted refl
    refl refl refl
    registries going_back [] (run_back policies.Delete) some
  where
    some : IsPossible opening before.history
    some t = some_failed (same_token (token 1) t)

    right : Headline registries opening before.history going_back
    right = runs_have_headline registries going_back before.history (run_back policies.Delete) some
