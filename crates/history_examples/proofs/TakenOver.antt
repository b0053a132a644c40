-- The take-over, step by step: `is_taken_over`; and what the spoiled history breaks.
use Rattle.std.proofs.Common.{None, Some, [], arith, false, refl, ◌++◌, ◌∷◌, ◌≡◌, ◌≢◌}
use Rattle.heat_plan.specs.Tables.{at, cut, put}
use Rattle.heat_plan.specs.declared.phase.Status.TheVariants.{InProgress}
use Rattle.heat_plan.specs.declared.token.Token.{Token}
use Rattle.traversal_graph.specs.declared.shape.Node.TheVariants.{U}
use Rattle.provider.specs.Same.{same_token}
use Rattle.row_table.specs.Chains.{ends}
use Rattle.mail_table.specs.declared.mail.Stage.TheVariants.{Asking, Polling, Taken}
use Rattle.core_state.specs.declared.change.Change.TheVariants.{Drop, EndJob, PutJob, PutRow, Send, Stop}
use Rattle.core_state.specs.declared.entry.Actor.TheVariants.{Engine}
use Rattle.core_state.specs.declared.entry.Entry.{Entry}
use Rattle.core_state.specs.declared.entry.RowWrite.TheVariants.{Purge}
use Rattle.type_catalog.specs.Changes.{same}
use Rattle.type_catalog.specs.declared.effect.Effect.TheVariants.{Same}
use Rattle.step_relation.specs.Begins.{Begins}
use Rattle.step_relation.specs.Freshness.{IsFresh, updates}
use Rattle.step_relation.specs.Given.{Nothing, Prepared}
use Rattle.step_relation.specs.Moves.{begin_resumed, take_free, takeover_fresh}
use Rattle.step_relation.specs.Runs.{Run, goes_on, nothing, props}
use Rattle.step_relation.specs.Steps.{stop}
use Rattle.step_relation.specs.Takes.{Relays, Takes}
use Rattle.step_relation.specs.Targets.{of_u}
use Rattle.step_relation.specs.Turns.{plain, unfailed}
use Rattle.step_relation.specs.Unjudged.{unjudged}
use Rattle.step_relation.specs.Could.{could_of}
use Rattle.step_relation.specs.Tokens.{HasRow}
use Rattle.step_relation.specs.Headline.{Headline}
use Rattle.history_laws.proofs.edges.Keeping.{only_one}
use Rattle.history_laws.proofs.tables.Puts.{contains_head, contains_none}
use Rattle.history_laws.proofs.tables.Rows.{job-key, letter-key}
use Rattle.next_laws.proofs.Listings.{in_head}
use Rattle.history_examples.specs.Created.{asked, graph, point, stack, until_asked}
use Rattle.history_examples.specs.FirstRow.{row_begun}
use Rattle.history_examples.specs.Sentences.{Holds, Named, Rows, Sentence}
use Rattle.history_examples.specs.Setting.{item, item_name, job, letter, living, opening, registries, row_writes, sized}
use Rattle.history_examples.specs.Setting.{token}
use Rattle.history_examples.specs.Spoiled.{IsNoRun}
use Rattle.history_examples.specs.TakenOver.{IsTakenOver, history, keep_tells, kept, purged_at_the_take_over}
use Rattle.history_examples.specs.TakenOver.{relay_tells, relayed, resume_tells, resumed, row_free, row_kept}
use Rattle.history_examples.specs.TakenOver.{stop_tells, stopped, until_kept, until_relayed, until_stopped}
use Rattle.history_examples.proofs.Created.{run_asked}
use Rattle.history_examples.proofs.Finds.{each_job, each_letter}
use Rattle.history_examples.proofs.Kept.{write_keeps}
use Rattle.history_examples.proofs.Lists.{not_done, requires_none}
use Rattle.history_examples.proofs.Possible.{begun_states, some_begun}
use Rattle.history_examples.proofs.Resolved.{of_size_one}
use Rattle.history_examples.proofs.Sentences.{no_run, of_one, runs_have_headline, within}
use Rattle.history_examples.proofs.Steps.{by_turn}
use Rattle.core_state.specs.declared.change.Change.TheVariants as change_to
use Rattle.step_relation.specs.Inputs as input

run_stopped : Run registries opening.state stopped until_stopped
unfolding at put cut
run_stopped = goes_on unjudged (asked false) stopped (Stop 1 ∷ []) (until_asked false) stop_tells _ run_asked
    (stop 1 (contains_head 1 (2 ∷ [])) refl refl) (contains_head unjudged []) tt tt refl refl

-- the second engine takes the job over
relays : Relays stopped 2 1
unfolding at
relays = record {
  job = job 1 (letter 1 1 0) 1 Polling;
  next = record {
    live = contains_head 2 [];
    jobless = refl;
    silent = λ n. refl;
    left = record { stopped = λ c. let is = only_one 2 1 c in omega (arith, is); its = refl };
    lowest = λ g k it.
        let key = job-key (job 1 (letter 1 1 0) 1 Polling ∷ []) g k it.its in
        let is = each_job (λ j. j.engine ≡ 1) (job 1 (letter 1 1 0) 1 Polling ∷ []) (refl, tt) g k it.its in
        omega (arith, key, is);
  };
  fresh = record {
    stack = stack InProgress;
    graph = graph false;
    node = U item_name 1;
    row = Some row_begun;
    names = record { in_table = refl; newest = refl; its_graph = refl; its_node = refl };
    found = refl;
    serves = updates item_name 1 (item 1) row_begun refl (λ is. cc);
  };
}

run_relayed : Run registries opening.state relayed until_relayed
unfolding at put cut relays
run_relayed = by_turn stopped relayed
    (change_to.Numbers (record { stack = 2; trav = 2; row = 2; engine = 3; letter = 3 })
    ∷ PutRow row_free ∷ EndJob 1 ∷ Send (letter 2 1 0) ∷ []) until_stopped relay_tells run_stopped refl 2 Nothing
    (λ a is. cc)
    (plain None (takeover_fresh 1 relays _ _ refl refl) unfailed) refl nothing

-- it takes the letter
fresh : IsFresh relayed (letter 2 1 0) 1
unfolding at
fresh = record {
  stack = stack InProgress;
  graph = graph false;
  node = U item_name 1;
  row = Some row_free;
  names = record { in_table = refl; newest = refl; its_graph = refl; its_node = refl };
  found = refl;
  serves = updates item_name 1 (item 1) row_free refl (λ is. cc);
}

takes : Takes relayed 2
unfolding at fresh
takes = record {
  letter = letter 2 1 0;
  next = record {
    live = contains_head 2 [];
    jobless = refl;
    first = record {
      waits = refl;
      lowest = λ n other at_n.
          let key = letter-key (letter 2 1 0 ∷ []) n other at_n in
          let is = each_letter (λ l. l.no ≡ 2) (letter 2 1 0 ∷ []) (refl, tt) n other at_n in
          omega (arith, key, is);
    };
  };
  meant = record { target = 1; fresh = fresh; to = of_u item_name 1 1 (ends 1 row_free refl (λ m q is lt found. cc)) };
  open_ = λ d. not_done (point false) d.point refl d.there d.done;
}

run_kept : Run registries opening.state kept until_kept
unfolding at put cut takes fresh
run_kept = by_turn relayed kept (PutRow row_kept ∷ Drop 2 ∷ PutJob (job 2 (letter 2 1 0) 1 Taken) ∷ []) until_relayed
    keep_tells
    run_relayed refl 2 Nothing (λ a is. cc)
    (plain None (take_free takes _ _ (λ g j at_g. each_job (λ j. j.row ≢ 1) [] tt g j at_g) refl refl) unfailed) refl
    nothing

-- and goes on with the row
begins_ : Begins kept 2
unfolding at
begins_ = record {
  job = job 2 (letter 2 1 0) 1 Taken;
  stack = stack InProgress;
  graph = graph false;
  name = item_name;
  chosen = 1;
  item = item 1;
  row = row_kept;
  point = point false;
  required = [];
  works = record { live = contains_head 2 []; its = refl; stage_is = refl };
  names = record { in_table = refl; newest = refl; its_graph = refl; its_node = refl };
  asked = refl;
  found = refl;
  kept = λ is. cc;
  its_point = refl;
  requires_are = requires_none;
}

run_resumed : Run registries opening.state resumed history
unfolding at put cut begins_
run_resumed = by_turn kept resumed (PutJob (job 2 (letter 2 1 0) 1 Asking) ∷ []) until_kept resume_tells run_kept refl
    2 (Prepared (sized 1) Same) (λ a is. cc)
    (plain None (begin_resumed begins_ (sized 1) Same _ _ (λ is. cc) refl refl refl refl) unfailed) refl
    (props begins_ (sized 1) Same
    (record { known = []; known_are = input.none; result_is = of_size_one _ [] }) (same refl))

main_theorem : Headline registries opening history resumed
unfolding begun_states
main_theorem = runs_have_headline registries resumed history run_resumed (λ t. some_begun (same_token (token 1) t))

pub is_taken_over : IsTakenOver
unfolding at put cut
is_taken_over = record { run = run_resumed; headline = main_theorem; mark = refl; alive = refl; rows = refl }

-- no row names what is alive
abbrev purge : Entry
purge = row_writes 2 (Purge 1 ∷ [])

nameless : HasRow opening (until_stopped ++ purge ∷ []) (token 1) → ⊥
unfolding at put cut
nameless w = let none : None ≡ Some w.row = w.found in cc

unnamed : ¬ Holds Named opening until_stopped purge
unnamed named = nameless (named (token 1) (record {
  lives = record { it = living 1 None; among = contains_head (Some (living 1 None)) [] };
  owned = λ c. contains_none (token 1) c;
}))

no_rows : Holds Rows opening until_stopped purge
unfolding at put cut
no_rows n r state found among = let none : None ≡ Some r = found in cc

pub purged : IsNoRun purged_at_the_take_over
unfolding begun_states
purged = no_run purged_at_the_take_over registries stopped [] run_stopped some Named (in_head [] Named)
    (of_one (λ (y : Sentence). ¬ Holds y opening until_stopped purge) Named unnamed)
    (write_keeps until_stopped (Engine 2) (Purge 1 ∷ []) (Named ∷ [])
    (within registries stopped until_stopped [] (runs_have_headline registries stopped until_stopped run_stopped some))
    (λ not. absurd (not (in_head [] Named))) (λ not. no_rows))
  where
    some : (t : Token) → could_of opening until_stopped t ≢ []
    some t = some_begun (same_token (token 1) t)
