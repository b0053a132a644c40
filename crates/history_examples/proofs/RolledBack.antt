-- The failure with its rollback, in one step: `is_rolled_back`; and what the spoiled history breaks.
use Rattle.std.proofs.Common.{List, None, Option, Some, [], arith, false, refl, subst, suc, true, zero, ℕ, ◌∷◌, ◌≡◌}
use Rattle.std.specs.Prelude.{Contains, ◌++◌}
use Rattle.heat_plan.specs.Tables.{at, cut, put}
use Rattle.heat_plan.specs.declared.facts.Facts.{Facts}
use Rattle.heat_plan.specs.declared.item.Policy.{Policy}
use Rattle.heat_plan.specs.declared.phase.Act.{Act}
use Rattle.heat_plan.specs.declared.phase.Act.TheVariants.{Create, Update}
use Rattle.heat_plan.specs.declared.phase.Status.{Status}
use Rattle.heat_plan.specs.declared.phase.Status.TheVariants.{Failed, InProgress}
use Rattle.traversal_graph.specs.Builds.{begins}
use Rattle.provider.specs.Same.{same_token}
use Rattle.row_table.specs.Rows.{row_at}
use Rattle.row_table.specs.declared.row.Row.{Row}
use Rattle.core_state.specs.State.{StateData}
use Rattle.core_state.specs.declared.change.Change.{Change}
use Rattle.core_state.specs.declared.change.Change.TheVariants.{PutGraph, PutPast, PutStack, Send}
use Rattle.core_state.specs.declared.entry.Actor.TheVariants.{Engine}
use Rattle.core_state.specs.declared.entry.Entry.{Entry}
use Rattle.step_relation.specs.Commands.{IsLeaf, Lays, brief_of}
use Rattle.step_relation.specs.Given.{Answer}
use Rattle.step_relation.specs.Orders.{of_create}
use Rattle.step_relation.specs.Runs.{Run}
use Rattle.step_relation.specs.Turns.{FollowsFailure, IsDue, Turn, rolls}
use Rattle.step_relation.specs.Headline.{Headline}
use Rattle.history_laws.proofs.edges.Keeping.{only_one}
use Rattle.history_laws.proofs.tables.Puts.{contains_head, contains_none}
use Rattle.next_laws.proofs.Listings.{in_head}
use Rattle.history_examples.specs.Created.{begun_under, stack_under, until_begun, until_begun_under}
use Rattle.history_examples.specs.FailedFirst.{fail_tells, fail_tells_under, row_failed_under}
use Rattle.history_examples.specs.FirstRow.{row_made_under}
use Rattle.history_examples.specs.RolledBack.{IsRolledBack, going_back, going_back_under, history, history_under}
use Rattle.history_examples.specs.RolledBack.{one_row}
use Rattle.history_examples.specs.RolledBack.{rollback_tells, stack_back, updated_by_an_engine}
use Rattle.history_examples.specs.Sentences.{Follows, Holds, Sentence}
use Rattle.history_examples.specs.Setting.{letter, opening, plan, registries, says, sized, stack_name, token}
use Rattle.history_examples.specs.Spoiled.{IsNoRun}
use Rattle.history_examples.proofs.Begun.{run_begun}
use Rattle.history_examples.proofs.Created.{fail_changes_under, failing}
use Rattle.history_examples.proofs.Finds.{each_row}
use Rattle.history_examples.proofs.Kept.{command_keeps}
use Rattle.history_examples.proofs.Lists.{lists_one, one_sorted}
use Rattle.history_examples.proofs.Possible.{failed_states, some_failed}
use Rattle.history_examples.proofs.Sentences.{no_run, of_one, runs_have_headline, within}
use Rattle.history_examples.proofs.Steps.{by_call}
use Rattle.core_state.specs.declared.entry.What.TheVariants as what
use Rattle.core_state.specs.declared.change.Change.TheVariants as change_to
use Rattle.heat_plan.specs.declared.item.Policy.TheVariants as policies
use Rattle.heat_plan.specs.declared.calls.Answered.TheVariants as reply
use Rattle.step_relation.specs.Commands as lay

pub only_leaf : (n : ℕ) → IsLeaf one_row n → n ≡ 0
only_leaf zero leaf = refl
only_leaf (suc n) (lt, none) = absurd (omega (arith, lt))

-- the rollback's graph: the one row is to be cleaned up
module _ (base : StateData) (policy : Policy) (a : Act) (status : Status) (f : Option Facts) (e : Option ℕ)
    (k : ℕ) where
  abbrev r : Row
  r = record (row_made_under policy) { act = a; status = status; props = sized 1; facts = f; engine = e; key = k }

  unfoldable pub lays_back : Lays (record base { rows = r ∷ [] }) stack_name []
  unfolding at
  lays_back = record {
    chosen = [];
    rows = [];
    chooses = lay.none base.next.row;
    standing = r ∷ [];
    standing_are = record {
      rising = λ i j d lt within. absurd (omega (arith, lt, within));
      each = λ n q found its. each_row (Contains (r ∷ [])) (r ∷ []) (contains_head r [], tt) n q found;
      only = λ q c. subst (λ (x : Row). (row_at (r ∷ []) x.no ≡ Some x) × (x.stack ≡ stack_name)) (only_one r q c)
          (refl, refl);
    };
    graph = one_row;
    built = record {
      sorted = brief_of r ∷ [];
      rows_are = one_sorted (brief_of r);
      nodes = refl;
      edges = begins _ _ refl refl;
    };
    leaves = 0 ∷ [];
    leaves_are = lists_one _ 0 (omega arith, λ b edge. contains_none (b, 0) edge) only_leaf;
  }

abbrev pub back_changes : List Change
back_changes =
    change_to.Numbers (record { stack = 2; trav = 3; row = 2; engine = 3; letter = 3 })
    ∷ PutStack stack_back ∷ PutPast (record { stack = stack_name; rollback = false; back = None })
    ∷ PutGraph stack_name one_row ∷ Send (letter 2 2 0) ∷ []

module _ (policy : Policy) where
  -- what the mark left
  abbrev failed : StateData
  failed = record (begun_under policy true) {
    stacks = stack_under policy Failed ∷ [];
    rows = row_failed_under policy ∷ [];
    jobs = [];
  }

  abbrev lays : Lays failed stack_name []
  lays = lays_back failed policy Create Failed None None 2

  due : IsDue failed (stack_under policy InProgress)
  unfolding at
  due = record { forward = of_create; asked = refl; room = omega arith }

  follows : FollowsFailure failed 1 (stack_under policy InProgress) back_changes rollback_tells
  unfolding at lays_back
  follows = record {
    failed = stack_under policy Failed;
    is = refl;
    its_name = refl;
    lays = lays;
    changes = refl;
    entries = refl;
  }

  abbrev whole_changes : List Change
  whole_changes = fail_changes_under policy ++ back_changes

  rolls_back : Turn (begun_under policy true) 1 (Answer reply.Failed) whole_changes
      (fail_tells_under policy ++ rollback_tells)
  unfolding at put cut
  rolls_back = rolls (stack_under policy InProgress) (fail_changes_under policy) back_changes (fail_tells_under policy)
      rollback_tells (failing policy true) due follows refl refl

  pub run_back : Run registries opening.state (going_back_under policy) (history_under policy)
  unfolding at put cut
  run_back = by_call (begun_under policy true) (going_back_under policy) whole_changes (until_begun_under policy true)
      (fail_tells_under policy ++ rollback_tells) (run_begun policy true) refl
      1 reply.Failed whole_changes (fail_tells_under policy ++ rollback_tells) rolls_back rolls_back refl

main_theorem : Headline registries opening history going_back
unfolding failed_states
main_theorem = runs_have_headline registries going_back history (run_back policies.Delete)
    (λ t. some_failed (same_token (token 1) t))

pub is_rolled_back : IsRolledBack
unfolding at put cut
is_rolled_back = record {
  run = run_back policies.Delete;
  headline = main_theorem;
  traversal = refl;
  mark = refl;
  alive = refl;
  rows = refl;
}

-- an engine commands nothing but a rollback
abbrev other : Entry
other = says (Engine 1) (what.Command stack_name 2 Update (Some (plan 2)) false)

abbrev until_marked : List Entry
until_marked = until_begun true ++ fail_tells

other_command : ¬ Holds Follows opening until_marked other
other_command holds = let is = (holds 1 stack_name 2 Update (Some (plan 2)) false refl).0 in cc

pub not_an_update : IsNoRun updated_by_an_engine
unfolding failed_states
not_an_update = no_run updated_by_an_engine registries going_back rollback_tells (run_back policies.Delete)
    (λ t. some_failed (same_token (token 1) t)) Follows (in_head [] Follows)
    (of_one (λ (y : Sentence). ¬ Holds y opening until_marked other) Follows other_command)
    (command_keeps until_marked (within registries going_back until_marked rollback_tells main_theorem)
    (Engine 1) stack_name 2 Update (Some (plan 2)) false (Follows ∷ []) (λ s t its back is. cc)
    (λ not. absurd (not (in_head [] Follows))))
