-- The delete over a half-made replacement, step by step: `is_deleted_halfway`; and what the spoiled history breaks.
use Rattle.std.proofs.Common.{List, None, Some, [], arith, false, inr, refl, suc, true, zero, ℕ, ◌∷◌, ◌≡◌}
use Rattle.std.proofs.lemmas.List.Sorted.{IsPermutation-refl}
use Rattle.std.specs.List.Sorted.{IsNonDecreasing}
use Rattle.std.specs.Prelude.{Contains, codes}
use Rattle.heat_plan.specs.Tables.{at, cut, put}
use Rattle.heat_plan.specs.declared.phase.Act.TheVariants.{Create, Delete}
use Rattle.heat_plan.specs.declared.phase.Status.TheVariants.{Complete, InProgress}
use Rattle.traversal_graph.specs.Builds.{begins, goes_on}
use Rattle.provider.specs.Same.{same_token}
use Rattle.row_table.specs.Rows.{row_at}
use Rattle.row_table.specs.declared.row.Row.{Row}
use Rattle.core_state.specs.declared.change.Change.{Change}
use Rattle.core_state.specs.declared.change.Change.TheVariants.{PutGraph, PutPast, PutStack, Send}
use Rattle.core_state.specs.declared.entry.Actor.TheVariants.{Main}
use Rattle.type_catalog.specs.Changes.{replace}
use Rattle.type_catalog.specs.declared.effect.Effect.TheVariants.{Replace}
use Rattle.step_relation.specs.Begins.{changed}
use Rattle.step_relation.specs.Commands.{IsLeaf, Lays, brief_of}
use Rattle.step_relation.specs.Freshness.{plan_of}
use Rattle.step_relation.specs.Orders.{Command, delete}
use Rattle.step_relation.specs.Runs.{Run}
use Rattle.step_relation.specs.Headline.{Headline}
use Rattle.history_laws.proofs.edges.Keeping.{last_is}
use Rattle.history_laws.proofs.tables.Puts.{all_contains, contains_head, contains_none, contains_there}
use Rattle.step_relation.specs.Fits.{Fits}
use Rattle.history_examples.specs.DeletedHalfway.{IsDeletedHalfway, delete_tells, deleting, halfway, history}
use Rattle.history_examples.specs.DeletedHalfway.{marked_while_alive, stack_three, two_rows, until_halfway}
use Rattle.history_examples.specs.DeletedHalfway.{until_retaken, until_updated}
use Rattle.history_examples.specs.FirstRow.{row_done}
use Rattle.history_examples.specs.Setting.{facts, letter, living, opening, plan, registries, sized, stack_name, token}
use Rattle.history_examples.specs.Spoiled.{IsNoRun}
use Rattle.history_examples.specs.Updates.{left, retaken, row_two, stack_two, updated}
use Rattle.history_examples.proofs.Created.{run_created}
use Rattle.history_examples.proofs.Finds.{each_row}
use Rattle.history_examples.proofs.Kept.{incomplete}
use Rattle.history_examples.proofs.Lists.{lists_one, no_path}
use Rattle.history_examples.proofs.Possible.{begun_states, ready_states, some_ready}
use Rattle.history_examples.proofs.Resolved.{of_size_two}
use Rattle.history_examples.proofs.Sentences.{runs_have_headline, within}
use Rattle.history_examples.proofs.Steps.{by_command}
use Rattle.history_examples.proofs.Updates.{run_replaced, run_retaken, run_updated}
use Rattle.core_state.specs.declared.change.Change.TheVariants as change_to
use Rattle.history_examples.specs.Created as create
use Rattle.step_relation.specs.Commands as lay

run_again : Run registries opening.state (updated 2 (Some (plan 1)) row_done []) until_updated
run_again = run_updated Create (λ is. cc) Complete (sized 1) (Some facts) None 2 Complete true [] 2 create.history
    run_created

run_taken : Run registries opening.state (retaken 2 (Some (plan 1)) row_done) until_retaken
run_taken = run_retaken Create (λ is. cc) Complete (sized 1) (Some facts) None 2 2 (Some (plan 1)) until_updated refl
    run_again

run_halfway : Run registries opening.state halfway until_halfway
run_halfway = run_replaced Create (λ is. cc) Complete (sized 1) (Some facts) None 2 2 (Some (plan 1)) until_retaken
    Replace (of_size_two _ []) (λ is. cc)
    (changed refl (λ is. let same = is.props_are in cc) (λ is. let place = is.in_place in cc))
    (replace (codes "size") (λ is. cc) (contains_none (codes "size"))) refl run_taken

-- the delete's graph: its one edge leads from the second row to the first
last_is_leaf : IsLeaf two_rows 1
last_is_leaf = (omega arith, λ b edge. let is = (last_is (1, 0) (b, 1) edge).1 in omega (arith, is))

only_leaf : (n : ℕ) → IsLeaf two_rows n → n ≡ 1
only_leaf zero (lt, none) = absurd (none 1 (contains_head (1, 0) []))
only_leaf (suc zero) leaf = refl
only_leaf (suc (suc n)) (lt, none) = absurd (omega (arith, lt))

-- both rows stand
abbrev both : List Row
both = left row_done ∷ row_two 2 ∷ []

ordered : IsNonDecreasing (1 ∷ 2 ∷ [])
ordered zero zero d le within = omega arith
ordered zero (suc zero) d le within = omega arith
ordered zero (suc (suc j)) d le within = absurd (omega (arith, within))
ordered (suc i) zero d le within = absurd (omega (arith, le))
ordered (suc zero) (suc zero) d le within = omega arith
ordered (suc (suc i)) (suc zero) d le within = absurd (omega (arith, le))
ordered (suc i) (suc (suc j)) d le within = absurd (omega (arith, within))

lays : Lays halfway stack_name []
unfolding at
lays = record {
  chosen = [];
  rows = [];
  chooses = lay.none 3;
  standing = both;
  standing_are = record {
    rising = λ i j d lt within.
        let first : i ≡ 0 = omega (arith, lt, within) in
        let second : j ≡ 1 = omega (arith, lt, within) in
        rw (first, second) (omega arith);
    each = λ n q found its. each_row (Contains both) both (
      contains_head (left row_done) (row_two 2 ∷ []),
      (contains_there (left row_done) (row_two 2) (row_two 2 ∷ []) (contains_head (row_two 2) []), tt),
    )
        n q found;
    only = λ q c. all_contains (λ (x : Row). (row_at both x.no ≡ Some x) × (x.stack ≡ stack_name)) both q
        ((refl, refl), ((refl, refl), tt)) c;
  };
  graph = two_rows;
  built = record {
    sorted = brief_of (left row_done) ∷ brief_of (row_two 2) ∷ [];
    rows_are = record {
      same = IsPermutation-refl (brief_of (left row_done) ∷ brief_of (row_two 2) ∷ []);
      ordered = ordered;
      rising = λ distinct k within. let first : k ≡ 0 = omega (arith, within) in rw first (omega arith);
    };
    nodes = refl;
    edges = goes_on [] [] _ _ 1 0 (begins [] [] refl refl) (inr (no_path 0 1 (λ is. omega (arith, is)), refl)) refl;
  };
  leaves = 1 ∷ [];
  leaves_are = lists_one _ 1 last_is_leaf only_leaf;
}

abbrev delete_changes : List Change
delete_changes =
    change_to.Numbers (record { stack = 2; trav = 4; row = 3; engine = 3; letter = 4 })
    ∷ PutStack stack_three ∷ PutPast (record { stack = stack_name; rollback = false; back = Some (plan 1) })
    ∷ PutGraph stack_name two_rows ∷ Send (letter 3 3 1) ∷ []

deletes : Command halfway delete_changes delete_tells
unfolding at lays
deletes = delete (stack_two 2 InProgress) lays refl refl refl

pub run_deleting : Run registries opening.state deleting history
unfolding at put
run_deleting = by_command halfway deleting delete_changes until_halfway delete_tells run_halfway refl deletes refl

main_theorem : Headline registries opening history deleting
unfolding ready_states begun_states
main_theorem = runs_have_headline registries deleting history run_deleting (λ t. some_ready (same_token (token 1) t))

pub is_deleted_halfway : IsDeletedHalfway
unfolding at put cut
is_deleted_halfway = record {
  run = run_deleting;
  headline = main_theorem;
  traversal = refl;
  mark = refl;
  alive = refl;
  rows = refl;
}

-- the resource of the first row is alive, and the plan of a delete has none
still_alive : ¬ Fits opening history stack_name (plan_of None)
still_alive fits = contains_none _ (fits.no_other (token 1) (
  refl,
  record {
    lives = record { it = living 1 (Some facts); among = contains_head (Some (living 1 (Some facts))) [] };
    owned = λ c. contains_none (token 1) c;
  },
))

pub alive_then : IsNoRun marked_while_alive
unfolding ready_states begun_states at
alive_then = incomplete history (within registries deleting history [] main_theorem) Main
    stack_name 3 Delete (record { trav = 3; act = Delete; plan = None }) refl still_alive refl refl refl refl
    registries deleting [] run_deleting (λ t. some_ready (same_token (token 1) t))
