-- The create, up to the row that is begun: `run_begun`.
use Rattle.std.proofs.Common.{Bool, List, None, Some, [], arith, false, refl, ◌∷◌, ◌≡◌, ◌≢◌}
use Rattle.std.proofs.lemmas.List.Sorted.{IsPermutation-refl}
use Rattle.std.specs.Prelude.{codes}
use Rattle.heat_plan.proofs.OneItem.{one_is_plan}
use Rattle.heat_plan.specs.Tables.{at, cut, put}
use Rattle.heat_plan.specs.declared.item.Policy.{Policy}
use Rattle.heat_plan.specs.declared.phase.Status.TheVariants.{InProgress}
use Rattle.traversal_graph.specs.Builds.{begins}
use Rattle.traversal_graph.specs.declared.shape.Node.TheVariants.{U}
use Rattle.row_table.specs.Chains.{ends}
use Rattle.mail_table.specs.declared.mail.Stage.TheVariants.{Asking, Taken}
use Rattle.core_state.specs.declared.change.Change.{Change}
use Rattle.core_state.specs.declared.change.Change.TheVariants.{Drop, EndJob, PutGraph, PutJob, PutPast, PutPoint}
use Rattle.core_state.specs.declared.change.Change.TheVariants.{PutRow, PutStack, Send}
use Rattle.type_catalog.specs.Changes.{replace}
use Rattle.type_catalog.specs.declared.effect.Effect.TheVariants.{Replace}
use Rattle.step_relation.specs.Begins.{Begins}
use Rattle.step_relation.specs.Commands.{Lays, fresh}
use Rattle.step_relation.specs.Freshness.{IsFresh, updates}
use Rattle.step_relation.specs.Given.{Nothing, Prepared}
use Rattle.step_relation.specs.Inputs.{AllDone}
use Rattle.step_relation.specs.Moves.{begin_init, take_free}
use Rattle.step_relation.specs.Orders.{Command, create}
use Rattle.step_relation.specs.Runs.{IsTied, Run, begins as starts, nothing, props}
use Rattle.step_relation.specs.Steps.{}
use Rattle.step_relation.specs.Takes.{Takes}
use Rattle.step_relation.specs.Targets.{of_u}
use Rattle.step_relation.specs.Turns.{plain, unfailed}
use Rattle.step_relation.specs.Unjudged.{unjudged}
use Rattle.history_laws.proofs.tables.Puts.{contains_head, contains_none}
use Rattle.history_laws.proofs.tables.Rows.{letter-key}
use Rattle.history_examples.specs.Created.{begin_tells, begun_under, command_tells, commanded_under, graph, one_node}
use Rattle.history_examples.specs.Created.{past, point, stack_under, take_tells, taken_under, until_begun_under}
use Rattle.history_examples.specs.Created.{until_taken}
use Rattle.history_examples.specs.FirstRow.{row_begun_under, row_made_under, row_taken_under}
use Rattle.history_examples.specs.Setting.{item_name, item_under, job, letter, opening, plan_under, registries, sized}
use Rattle.history_examples.specs.Setting.{stack_name}
use Rattle.history_examples.proofs.Finds.{each_job, each_letter}
use Rattle.history_examples.proofs.Lists.{lists_one, not_done, requires_none}
use Rattle.history_examples.proofs.Resolved.{of_size_one}
use Rattle.history_examples.proofs.Steps.{by_command, by_turn}
use Rattle.core_state.specs.declared.change.Change.TheVariants as change_to
use Rattle.step_relation.specs.Commands as lay
use Rattle.step_relation.specs.Inputs as input

module _ (policy : Policy) where
  -- the command
  pub lays : Lays opening.state stack_name (plan_under policy 1).items
  unfolding at
  lays = record {
    chosen = 1 ∷ [];
    rows = row_made_under policy ∷ [];
    chooses = fresh 1 (item_under policy 1) [] [] [] (λ m q found stack_is name_is current. cc)
        (lay.none 2);
    standing = [];
    standing_are = record {
      rising = λ i j d lt within. absurd (omega (arith, within));
      each = λ n r found its. cc;
      only = λ r c. absurd (contains_none r c);
    };
    graph = one_node;
    built = record {
      sorted = [];
      rows_are = record {
        same = IsPermutation-refl [];
        ordered = λ i j d le within. absurd (omega (arith, within));
        rising = λ distinct k within. absurd (omega (arith, within));
      };
      nodes = refl;
      edges = begins _ _ refl refl;
    };
    leaves = 0 ∷ [];
    leaves_are = lists_one _ 0 (omega arith, λ b edge. contains_none (b, 0) edge) (λ n (lt, none). omega (arith, lt));
  }

  abbrev pub command_changes : Bool → List Change
  command_changes rollback =
      change_to.Numbers (record { stack = 2; trav = 2; row = 2; engine = 3; letter = 2 })
      ∷ PutStack (stack_under policy InProgress) ∷ PutPast (past rollback) ∷ PutRow (row_made_under policy)
      ∷ PutGraph stack_name one_node
      ∷ Send (letter 1 1 0) ∷ []

  commands : (rollback : Bool) → Command opening.state (command_changes rollback) (command_tells policy rollback)
  unfolding at lays
  commands rollback = create stack_name (plan_under policy 1) rollback lays
      (one_is_plan (item_under policy 1) refl) refl (omega arith)
      (omega arith) refl refl

  pub run_commanded : (rollback : Bool)
      → Run registries opening.state (commanded_under policy rollback) (command_tells policy rollback)
  unfolding at put
  run_commanded rollback =
      by_command opening.state (commanded_under policy rollback) (command_changes rollback) []
      (command_tells policy rollback)
      (starts opening.state [] refl refl) refl (commands rollback) refl

  -- the take
  first_fresh : (rollback : Bool) → IsFresh (commanded_under policy rollback) (letter 1 1 0) 1
  unfolding at
  first_fresh rollback = record {
    stack = stack_under policy InProgress;
    graph = graph false;
    node = U item_name 1;
    row = Some (row_made_under policy);
    names = record { in_table = refl; newest = refl; its_graph = refl; its_node = refl };
    found = refl;
    serves = updates item_name 1 (item_under policy 1) (row_made_under policy) refl (λ is. cc);
  }

  takes : (rollback : Bool) → Takes (commanded_under policy rollback) 1
  unfolding at first_fresh
  takes rollback = record {
    letter = letter 1 1 0;
    next = record {
      live = contains_head 1 (2 ∷ []);
      jobless = refl;
      first = record {
        waits = refl;
        lowest = λ n other at_n.
            let key = letter-key (letter 1 1 0 ∷ []) n other at_n in
            let is = each_letter (λ l. l.no ≡ 1) (letter 1 1 0 ∷ []) (refl, tt) n other at_n in
            omega (arith, key, is);
      };
    };
    meant = record {
      target = 1;
      fresh = first_fresh rollback;
      to = of_u item_name 1 1 (ends 1 (row_made_under policy) refl (λ m q is lt found. cc));
    };
    open_ = λ d. not_done (point false) d.point refl d.there d.done;
  }

  abbrev pub take_changes : List Change
  take_changes = PutRow (row_taken_under policy) ∷ Drop 1 ∷ PutJob (job 1 (letter 1 1 0) 1 Taken) ∷ []

  pub run_taken : (rollback : Bool)
      → Run registries opening.state (taken_under policy rollback) (until_taken policy rollback)
  unfolding at put cut takes first_fresh
  run_taken rollback = by_turn (commanded_under policy rollback) (taken_under policy rollback) take_changes
      (command_tells policy rollback) (take_tells policy)
      (run_commanded rollback) refl
      1 Nothing (λ a is. cc)
      (plain None (take_free (takes rollback) _ _ (λ f j at_f. each_job (λ j. j.row ≢ 1) [] tt f j at_f) refl refl)
      unfailed) refl nothing

  -- the begin
  begins_ : (rollback : Bool) → Begins (taken_under policy rollback) 1
  unfolding at
  begins_ rollback = record {
    job = job 1 (letter 1 1 0) 1 Taken;
    stack = stack_under policy InProgress;
    graph = graph false;
    name = item_name;
    chosen = 1;
    item = item_under policy 1;
    row = row_taken_under policy;
    point = point false;
    required = [];
    works = record { live = contains_head 1 (2 ∷ []); its = refl; stage_is = refl };
    names = record { in_table = refl; newest = refl; its_graph = refl; its_node = refl };
    asked = refl;
    found = refl;
    kept = λ is. cc;
    its_point = refl;
    requires_are = requires_none;
  }

  begin_tied : (rollback : Bool) → IsTied unjudged (taken_under policy rollback) 1 (Prepared (sized 1) Replace)
  unfolding begins_
  begin_tied rollback = props (begins_ rollback) (sized 1) Replace
      (record { known = []; known_are = input.none; result_is = of_size_one policy [] })
      (replace (codes "size") (λ is. cc) (contains_none (codes "size")))

  abbrev pub begin_changes : List Change
  begin_changes = PutRow (row_begun_under policy) ∷ PutJob (job 1 (letter 1 1 0) 1 Asking) ∷ []

  pub run_begun : (rollback : Bool)
      → Run registries opening.state (begun_under policy rollback) (until_begun_under policy rollback)
  unfolding at put cut begins_
  run_begun rollback = by_turn (taken_under policy rollback) (begun_under policy rollback) begin_changes
      (until_taken policy rollback) (begin_tells policy)
      (run_taken rollback) refl
      1 (Prepared (sized 1) Replace) (λ a is. cc)
      (plain None (begin_init (begins_ rollback) (sized 1) Replace _ _ refl refl refl) unfailed) refl
      (begin_tied rollback)
