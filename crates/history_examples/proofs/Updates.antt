-- An update over one row, its take and the row's replacement, whatever the row: `run_updated`, `run_retaken`,
-- `run_replaced`.
use Rattle.std.proofs.Common.{Bool, List, None, Option, Some, [], arith, false, inr, refl, subst, sym, true, zero, suc}
use Rattle.std.proofs.Common.{ℕ, ◌+◌, ◌∷◌, ◌≡◌, ◌≢◌}
use Rattle.std.specs.Prelude.{Contains, ltb, ◌++◌, ◌^◌}
use Rattle.heat_value.specs.Data.{Members}
use Rattle.heat_plan.specs.Plans.{PlanData}
use Rattle.heat_plan.proofs.OneItem.{one_is_plan}
use Rattle.heat_plan.specs.Tables.{at, cut, put}
use Rattle.heat_plan.specs.declared.facts.Facts.{Facts}
use Rattle.heat_plan.specs.declared.phase.Act.{Act}
use Rattle.heat_plan.specs.declared.phase.Act.TheVariants.{Delete, Init}
use Rattle.heat_plan.specs.declared.phase.Status.{Status}
use Rattle.heat_plan.specs.declared.phase.Status.TheVariants.{InProgress}
use Rattle.traversal_graph.specs.Builds.{begins, goes_on}
use Rattle.traversal_graph.specs.declared.shape.Node.TheVariants.{U}
use Rattle.row_table.specs.Chains.{ends}
use Rattle.row_table.specs.Rows.{row_at}
use Rattle.row_table.specs.declared.row.Row.{Row}
use Rattle.mail_table.specs.declared.mail.Job.{Job}
use Rattle.mail_table.specs.declared.mail.Stage.{Stage}
use Rattle.mail_table.specs.declared.mail.Stage.TheVariants.{Asking, Taken}
use Rattle.core_state.specs.State.{StateData}
use Rattle.core_state.specs.declared.change.Change.{Change}
use Rattle.core_state.specs.declared.change.Change.TheVariants.{Drop, PutGraph, PutJob, PutPast, PutRow, PutStack, Send}
use Rattle.core_state.specs.declared.entry.Entry.{Entry}
use Rattle.core_state.specs.declared.stack.Stack.{Stack}
use Rattle.eval_words.specs.Resolve.{Props, resolve}
use Rattle.type_catalog.specs.Changes.{ChangeOf}
use Rattle.type_catalog.specs.declared.effect.Effect.{Effect}
use Rattle.step_relation.specs.Begins.{Begins, MustGo}
use Rattle.step_relation.specs.Commands.{IsLeaf, Lays, brief_of}
use Rattle.step_relation.specs.Freshness.{IsFresh, IsOverrun, updates}
use Rattle.step_relation.specs.Given.{Nothing, Prepared}
use Rattle.step_relation.specs.Moves.{begin_replaced, take_free}
use Rattle.step_relation.specs.Orders.{Command, back_after, update}
use Rattle.step_relation.specs.Resends.{AwaitsUpdate, Resends}
use Rattle.step_relation.specs.Runs.{Run, nothing, props}
use Rattle.step_relation.specs.Takes.{Takes}
use Rattle.step_relation.specs.Targets.{IsCurrentOf, of_u}
use Rattle.step_relation.specs.Turns.{plain, unfailed}
use Rattle.history_laws.proofs.edges.Keeping.{last_is, only_one}
use Rattle.history_laws.proofs.tables.Puts.{contains_head}
use Rattle.history_laws.proofs.tables.Rows.{letter-key, row-key, same_some}
use Rattle.history_examples.specs.Created.{commanded, graph, past, stack}
use Rattle.history_examples.specs.FirstRow.{row_made}
use Rattle.history_examples.specs.Setting.{item, item_name, job, letter, opening, plan, registries, sized, stack_name}
use Rattle.history_examples.specs.Updates.{again, graph_two, left, open_point, replace_tells, replaced, retake_tells}
use Rattle.history_examples.specs.Updates.{retaken, row_two, stack_two, two_nodes, update_tells, updated}
use Rattle.history_examples.proofs.Finds.{each_job, each_letter, each_row}
use Rattle.history_examples.proofs.Lists.{lists_one, no_path, not_done, one_sorted, requires_none}
use Rattle.history_examples.proofs.Steps.{by_command, by_turn}
use Rattle.core_state.specs.declared.change.Change.TheVariants as change_to
use Rattle.step_relation.specs.Commands as lay
use Rattle.step_relation.specs.Inputs as input
use Rattle.step_relation.specs.Resends as tell

-- the graph's one edge leads to its second node
first_is_leaf : IsLeaf two_nodes 0
first_is_leaf = (omega arith, λ b edge. let is = (last_is (0, 1) (b, 0) edge).1 in omega (arith, is))

only_leaf : (n : ℕ) → IsLeaf two_nodes n → n ≡ 0
only_leaf zero leaf = refl
only_leaf (suc zero) (lt, none) = absurd (none 0 (contains_head (0, 1) []))
only_leaf (suc (suc n)) (lt, none) = absurd (omega (arith, lt))

module _ (a : Act) (kept : a ≢ Delete) (status : Status) (p : Members) (f : Option Facts) (e : Option ℕ) (k : ℕ) where
  abbrev r : Row
  r = record row_made { act = a; status = status; props = p; facts = f; engine = e; key = k }

  current : (rows : List Row) → rows ≡ r ∷ [] → IsCurrentOf rows stack_name item_name r
  unfolding at
  current rows is = rw is (record {
    found = refl;
    stack_is = refl;
    name_is = refl;
    current = record { kept = kept; last = refl };
    greatest = λ m q at_m stack_is name_is c.
        let key = row-key (r ∷ []) m q at_m in
        let it = each_row (λ x. x.no ≡ 1) (r ∷ []) (refl, tt) m q at_m in
        omega (arith, key, it);
  })

  -- before the command
  module _ (mark : Status) (done : Bool) (jobs : List Job) (size : ℕ) where
    abbrev before : StateData
    before = record (commanded false) {
      stacks = stack mark ∷ [];
      graphs = graph done ∷ [];
      rows = r ∷ [];
      letters = [];
      jobs = jobs;
    }

    lays : Lays before stack_name (plan size).items
    unfolding at
    lays = record {
      chosen = 1 ∷ [];
      rows = [];
      chooses = lay.current 2 (item size) [] r [] [] (current (r ∷ []) refl) (lay.none 2);
      standing = r ∷ [];
      standing_are = record {
        rising = λ i j d lt within. absurd (omega (arith, lt, within));
        each = λ n q found its. each_row (Contains (r ∷ [])) (r ∷ []) (contains_head r [], tt) n q found;
        only = λ q c. subst (λ (x : Row). (row_at (r ∷ []) x.no ≡ Some x) × (x.stack ≡ stack_name)) (only_one r q c)
            (refl, refl);
      };
      graph = two_nodes;
      built = record {
        sorted = brief_of r ∷ [];
        rows_are = one_sorted (brief_of r);
        nodes = refl;
        edges = goes_on [] [] _ _ 0 1 (begins [] [] refl refl) (inr (no_path 1 0 (λ is. omega (arith, is)), refl)) refl;
      };
      leaves = 0 ∷ [];
      leaves_are = lists_one _ 0 first_is_leaf only_leaf;
    }

    abbrev update_changes : List Change
    update_changes =
        change_to.Numbers (record { stack = 2; trav = 3; row = 2; engine = 3; letter = 3 })
        ∷ PutStack (stack_two size InProgress)
        ∷ PutPast (record { stack = stack_name; rollback = false; back = back_after (stack mark) (past false) })
        ∷ PutGraph stack_name two_nodes ∷ Send (letter 2 2 0) ∷ []

    updating : Command before update_changes (update_tells size)
    unfolding at lays
    updating = update (stack mark) (plan size) false lays (one_is_plan (item size) refl) refl (λ is. cc)
        (omega arith) refl refl

    pub run_updated : (h : List Entry) → Run registries opening.state before h
        → Run registries opening.state (updated size (back_after (stack mark) (past false)) r jobs)
        (h ++ update_tells size)
    unfolding at put
    run_updated h run = by_command before (updated size (back_after (stack mark) (past false)) r jobs) update_changes h
        (update_tells size)
        run refl updating refl

  -- behind it
  module _ (size : ℕ) (back : Option PlanData) where
    pub fresh : (jobs : List Job) → IsFresh (updated size back r jobs) (letter 2 2 0) 1
    unfolding at
    fresh jobs = record {
      stack = stack_two size InProgress;
      graph = graph_two;
      node = U item_name 1;
      row = Some r;
      names = record { in_table = refl; newest = refl; its_graph = refl; its_node = refl };
      found = refl;
      serves = updates item_name 1 (item size) r refl kept;
    }

    -- a job of the first traversal is overrun
    pub overrun : (jobs : List Job) (stage : Stage) → IsOverrun (updated size back r jobs)
        (job 1 (letter 1 1 0) 1 stage)
    unfolding at
    overrun jobs stage x =
        let is : stack_two size InProgress ≡ x.stack =
        same_some (stack_two size InProgress) x.stack refl x.names.in_table in
        let trav : 2 ≡ 1 = subst (λ (y : Stack). y.trav ≡ 1) (sym is) x.names.newest in
        omega (arith, trav)

    -- and whoever waits for the row is told again
    pub told_again : (jobs : List Job) → Resends (updated size back r jobs) stack_name 1 (letter 3 2 0 ∷ [])
    unfolding at
    told_again jobs = tell.update (stack_two size InProgress) graph_two 0 (record { in_table = refl; its_graph = refl })
        (record {
          is = record {
            name = item_name;
            chosen = 1;
            node = refl;
            to = of_u item_name 1 1 (ends 1 r refl (λ m q is lt found. cc));
            open_ = record {
              ready = λ b edge. let is = (last_is (0, 1) (b, 0) edge).1 in absurd (omega (arith, is));
              undone = λ d. not_done (open_point 0) d.point refl d.there d.done;
            };
          };
          least = λ other it. omega arith;
        })

    takes : Takes (updated size back r []) 1
    unfolding at fresh
    takes = record {
      letter = letter 2 2 0;
      next = record {
        live = contains_head 1 (2 ∷ []);
        jobless = refl;
        first = record {
          waits = refl;
          lowest = λ n other at_n.
              let key = letter-key (letter 2 2 0 ∷ []) n other at_n in
              let is = each_letter (λ l. l.no ≡ 2) (letter 2 2 0 ∷ []) (refl, tt) n other at_n in
              omega (arith, key, is);
        };
      };
      meant = record { target = 1; fresh = fresh []; to = of_u item_name 1 1 (ends 1 r refl (λ m q is lt found. cc)) };
      open_ = λ d. not_done (open_point 0) d.point refl d.there d.done;
    }

    pub run_retaken : (h : List Entry) → ltb (k + 1) (2 ^ 62) ≡ true
        → Run registries opening.state (updated size back r []) h
        → Run registries opening.state (retaken size back r) (h ++ retake_tells r)
    unfolding at put cut takes fresh
    run_retaken h small run = by_turn (updated size back r []) (retaken size back r)
        (PutRow (again r) ∷ Drop 2 ∷ PutJob (job 1 (letter 2 2 0) 1 Taken) ∷ []) h (retake_tells r) run refl 1 Nothing
        (λ x is. cc)
        (plain None (take_free takes _ _ (λ g j at_g. each_job (λ j. j.row ≢ 1) [] tt g j at_g) refl refl) unfailed)
        (rw small refl)
        nothing

    unfoldable pub begins_ : Begins (retaken size back r) 1
    unfolding at
    begins_ = record {
      job = job 1 (letter 2 2 0) 1 Taken;
      stack = stack_two size InProgress;
      graph = graph_two;
      name = item_name;
      chosen = 1;
      item = item size;
      row = again r;
      point = open_point 0;
      required = [];
      works = record { live = contains_head 1 (2 ∷ []); its = refl; stage_is = refl };
      names = record { in_table = refl; newest = refl; its_graph = refl; its_node = refl };
      asked = refl;
      found = refl;
      kept = kept;
      its_point = refl;
      requires_are = requires_none;
    }

    pub run_replaced : (h : List Entry) (effect : Effect) → resolve (plan size) (item size) [] ≡ Props (sized size)
        → a ≢ Init → MustGo (again r) (item size) 2 (sized size) effect
        → ChangeOf [] p (sized size) effect → ltb (k + 1 + 1) (2 ^ 62) ≡ true
        → Run registries opening.state (retaken size back r) h
        → Run registries opening.state (replaced size back r) (h ++ replace_tells size r)
    unfolding at put cut begins_
    run_replaced h effect resolved begun go change small run = by_turn (retaken size back r) (replaced size back r)
        (change_to.Numbers (record { stack = 2; trav = 3; row = 3; engine = 3; letter = 3 })
        ∷ PutRow (row_two size) ∷ PutRow (left r) ∷ PutJob (job 1 (letter 2 2 0) 2 Asking) ∷ []) h
        (replace_tells size r) run refl
        1 (Prepared (sized size) effect) (λ x is. cc)
        (plain None (begin_replaced begins_ (sized size) effect _ _ begun go refl refl) unfailed)
        (rw small refl)
        (props begins_ (sized size) effect (record { known = []; known_are = input.none; result_is = resolved }) change)
