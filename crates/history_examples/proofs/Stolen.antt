-- The steal, step by step: `is_stolen`; and what spoils it.
use Rattle.std.proofs.Common.{None, Some, [], arith, false, refl, ◌++◌, ◌∷◌, ◌≡◌}
use Rattle.std.proofs.lemmas.List.Elements.{All-head}
use Rattle.heat_plan.specs.Tables.{at, cut, put}
use Rattle.heat_plan.specs.declared.phase.Act.TheVariants.{Update}
use Rattle.heat_plan.specs.declared.phase.Status.TheVariants.{InProgress}
use Rattle.traversal_graph.specs.declared.shape.Node.TheVariants.{U}
use Rattle.provider.specs.Same.{same_token}
use Rattle.row_table.specs.Chains.{ends}
use Rattle.mail_table.specs.declared.mail.Stage.TheVariants.{Polling, Taken}
use Rattle.core_state.specs.declared.change.Change.TheVariants.{Drop, EndJob, PutJob, PutRow, Stop}
use Rattle.core_state.specs.declared.entry.Actor.TheVariants.{Engine}
use Rattle.step_relation.specs.Freshness.{IsFresh, updates}
use Rattle.step_relation.specs.Given.{Nothing}
use Rattle.step_relation.specs.Moves.{take_stolen}
use Rattle.step_relation.specs.Runs.{Run, goes_on, nothing}
use Rattle.step_relation.specs.Steps.{stop}
use Rattle.step_relation.specs.Takes.{IsHolder, Takes}
use Rattle.step_relation.specs.Targets.{of_u}
use Rattle.step_relation.specs.Turns.{plain, unfailed}
use Rattle.step_relation.specs.Unjudged.{unjudged}
use Rattle.step_relation.specs.Could.{IsPossible}
use Rattle.step_relation.specs.Fits.{Fits, HasExactly}
use Rattle.step_relation.specs.Tokens.{token_at}
use Rattle.step_relation.specs.Headline.{Headline}
use Rattle.history_laws.proofs.edges.Keeping.{only_one}
use Rattle.history_laws.proofs.tables.Puts.{contains_head}
use Rattle.history_laws.proofs.tables.Rows.{job-key, letter-key}
use Rattle.history_examples.specs.Created.{until_asked}
use Rattle.history_examples.specs.FirstRow.{row_begun}
use Rattle.history_examples.specs.Overtaken.{overtaken}
use Rattle.history_examples.specs.Setting.{item, item_name, job, letter, opening, plan, registries, stack_name, token}
use Rattle.history_examples.specs.Spoiled.{IsNoRun}
use Rattle.history_examples.specs.Stolen.{IsStolen, history, left, marked_at_the_steal, row_stolen, steal_tells, stolen}
use Rattle.history_examples.specs.Stolen.{until_left}
use Rattle.history_examples.specs.TakenOver.{stop_tells}
use Rattle.history_examples.specs.Updates.{graph_two, open_point, stack_two, update_tells}
use Rattle.history_examples.proofs.Finds.{each_job, each_letter}
use Rattle.history_examples.proofs.Kept.{incomplete}
use Rattle.history_examples.proofs.Lists.{not_done}
use Rattle.history_examples.proofs.Overtaken.{run_overtaken}
use Rattle.history_examples.proofs.Possible.{begun_states, some_begun}
use Rattle.history_examples.proofs.Sentences.{runs_have_headline, within}
use Rattle.history_examples.proofs.Spoiled.{none_ready}
use Rattle.history_examples.proofs.Steps.{by_turn}

run_left : Run registries opening.state left until_left
unfolding at put cut
run_left = goes_on unjudged overtaken left (Stop 1 ∷ [])
    (until_asked false ++ update_tells 2) stop_tells _ run_overtaken
    (stop 1 (contains_head 1 (2 ∷ [])) refl refl) (contains_head unjudged []) tt tt refl refl

-- the second engine takes the letter, and the row from the stopped engine's job
fresh : IsFresh left (letter 2 2 0) 1
unfolding at
fresh = record {
  stack = stack_two 2 InProgress;
  graph = graph_two;
  node = U item_name 1;
  row = Some row_begun;
  names = record { in_table = refl; newest = refl; its_graph = refl; its_node = refl };
  found = refl;
  serves = updates item_name 1 (item 2) row_begun refl (λ is. cc);
}

takes : Takes left 2
unfolding at fresh
takes = record {
  letter = letter 2 2 0;
  next = record {
    live = contains_head 2 [];
    jobless = refl;
    first = record {
      waits = refl;
      lowest = λ n other at_n.
          let key = letter-key (letter 2 2 0 ∷ []) n other at_n in
          let is = each_letter (λ l. l.no ≡ 2) (letter 2 2 0 ∷ []) (refl, tt) n other at_n in
          omega (arith, key, is);
    };
  };
  meant = record { target = 1; fresh = fresh; to = of_u item_name 1 1 (ends 1 row_begun refl (λ m q is lt found. cc)) };
  open_ = λ d. not_done (open_point 0) d.point refl d.there d.done;
}

held : IsHolder left.jobs 1 1 (job 1 (letter 1 1 0) 1 Polling)
unfolding at
held = record {
  its = refl;
  has = refl;
  lowest = λ g k its on.
      let key = job-key (job 1 (letter 1 1 0) 1 Polling ∷ []) g k its in
      let is = each_job (λ j. j.engine ≡ 1) (job 1 (letter 1 1 0) 1 Polling ∷ []) (refl, tt) g k its in
      omega (arith, key, is);
}

run_stolen : Run registries opening.state stolen history
unfolding at put cut takes fresh
run_stolen = by_turn left stolen (PutRow row_stolen ∷ Drop 2 ∷ EndJob 1 ∷ PutJob (job 2 (letter 2 2 0) 1 Taken) ∷ [])
    until_left steal_tells run_left refl 2 Nothing (λ a is. cc)
    (plain None (take_stolen takes 1 (job 1 (letter 1 1 0) 1 Polling) _ _ held
    (λ c. let is = only_one 2 1 c in omega (arith, is)) refl refl) unfailed) refl nothing

possible : IsPossible opening history
unfolding begun_states
possible t = some_begun (same_token (token 1) t)

main_theorem : Headline registries opening history stolen
main_theorem = runs_have_headline registries stolen history run_stolen possible

pub is_stolen : IsStolen
unfolding at put cut
is_stolen = record {
  run = run_stolen;
  headline = main_theorem;
  traversal = refl;
  mark = refl;
  alive = refl;
  rows = refl;
}

-- what is alive isn't ready
unready : ¬ Fits opening history stack_name (plan 2)
unfolding begun_states
unready fits =
    let it : HasExactly opening history stack_name (plan 2) (item 2) =
    All-head (HasExactly opening history stack_name (plan 2)) (item 2) [] fits.each in
    none_ready (same_token (token 1) (token_at stack_name item_name it.row)) it.it it.state it.ready

pub not_at_the_steal : IsNoRun marked_at_the_steal
unfolding begun_states at
not_at_the_steal = incomplete history (within registries stolen history [] main_theorem) (Engine 2)
    stack_name 2 Update (record { trav = 2; act = Update; plan = Some (plan 2) }) refl unready refl refl refl refl
    registries stolen [] run_stolen possible
