-- The cancel, one command: `is_cancelled`; and what spoils it.
use Rattle.std.proofs.Common.{List, None, Some, [], ap, arith, false, length, refl, subst, sym, ℕ, ◌++◌, ◌∙◌, ◌∷◌}
use Rattle.std.proofs.Common.{◌≡◌}
use Rattle.std.proofs.lemmas.List.{length-append}
use Rattle.std.specs.Prelude.{option_map, slice_get}
use Rattle.heat_plan.specs.Tables.{at, put}
use Rattle.heat_plan.specs.declared.item.Policy.TheVariants.{Delete}
use Rattle.heat_plan.specs.declared.phase.Act.TheVariants.{Create, Rollback}
use Rattle.heat_plan.specs.declared.phase.Status.TheVariants.{InProgress}
use Rattle.provider.specs.Same.{same_token}
use Rattle.core_state.specs.declared.entry.Actor.TheVariants.{Engine}
use Rattle.core_state.specs.declared.entry.Entry.{Entry}
use Rattle.step_relation.specs.Commands.{Lays}
use Rattle.step_relation.specs.Freshness.{plan_of}
use Rattle.step_relation.specs.Orders.{Command, cancel, of_create}
use Rattle.step_relation.specs.Runs.{Run}
use Rattle.step_relation.specs.Last.{IsLast}
use Rattle.step_relation.specs.Headline.{EndsFailed, Headline}
use Rattle.next_laws.proofs.Listings.{in_head}
use Rattle.history_examples.specs.Cancelled.{IsCancelled, cancel_tells, cancelled, cancelled_by_an_engine, history}
use Rattle.history_examples.specs.Created.{asked, stack, until_asked}
use Rattle.history_examples.specs.Sentences.{Follows, Holds, Rolls, Sentence}
use Rattle.history_examples.specs.Setting.{opening, registries, says, stack_name, token}
use Rattle.history_examples.specs.Spoiled.{IsNoRun}
use Rattle.history_examples.proofs.Created.{run_asked}
use Rattle.history_examples.proofs.Kept.{command_keeps}
use Rattle.history_examples.proofs.Possible.{begun_states, some_begun}
use Rattle.history_examples.proofs.RolledBack.{back_changes, lays_back}
use Rattle.history_examples.proofs.Sentences.{last_there, no_run, of_one, runs_have_headline, within}
use Rattle.history_examples.proofs.Steps.{by_command}
use Rattle.core_state.specs.declared.entry.What.TheVariants as what

abbrev lays : Lays (asked false) stack_name []
lays = lays_back (asked false) Delete Create InProgress None (Some 1) 1

cancels : Command (asked false) back_changes cancel_tells
unfolding at lays_back
cancels = cancel (stack InProgress) lays refl of_create refl (omega arith) refl refl

run_cancelled : Run registries opening.state cancelled history
unfolding at put
run_cancelled = by_command (asked false) cancelled back_changes
    (until_asked false) cancel_tells run_asked refl cancels refl

main_theorem : Headline registries opening history cancelled
unfolding begun_states
main_theorem = runs_have_headline registries cancelled history run_cancelled (λ t. some_begun (same_token (token 1) t))

none_reached : IsLast opening (until_asked false) stack_name (plan_of None)
none_reached =
    let (back, is, last) = (main_theorem.entries 9 _ refl).rolls stack_name 2 (Some (plan_of None)) false refl in
    let same : plan_of None ≡ back = cc in
    subst (IsLast opening (until_asked false) stack_name) (sym same) last

pub is_cancelled : IsCancelled
unfolding at put
is_cancelled = record {
  run = run_cancelled;
  headline = main_theorem;
  traversal = refl;
  last = none_reached;
  mark = refl;
  alive = refl;
  rows = refl;
}

-- no mark stands before it
abbrev orders : Entry
orders = says (Engine 1) (what.Command stack_name 2 Rollback (Some (plan_of None)) false)

no_failure : ¬ EndsFailed (until_asked false) (Engine 1) stack_name
no_failure k =
    let mark = says (Engine 1) (what.Mark stack_name k.trav k.act (Some k.cause)) in
    let long : 9 ≡ length (k.earlier ++ mark ∷ []) = ap length k.entries in
    let sum = length-append k.earlier (mark ∷ []) in
    let place : length k.earlier ≡ 8 = omega (arith, long, sum) in
    let there = last_there k.earlier mark in
    let here : slice_get (until_asked false) 8 ≡ Some mark =
    ap (λ (l : List Entry). slice_get l 8) k.entries
    ∙ subst (λ (n : ℕ). slice_get (k.earlier ++ mark ∷ []) n ≡ Some mark) place there in
    let said = ap (option_map (λ (x : Entry). x.what)) here in
    cc

by_itself : ¬ Holds Follows opening (until_asked false) orders
by_itself holds = no_failure (holds 1 stack_name 2 Rollback (Some (plan_of None)) false refl).1

rolls_still : Holds Rolls opening (until_asked false) orders
rolls_still s t plan rollback is =
    let same : stack_name ≡ s = cc in
    let its : Some (plan_of None) ≡ plan = cc in (
      plan_of None,
      sym its,
      subst (λ (n : List ℕ). IsLast opening (until_asked false) n (plan_of None)) same
          none_reached,
    )

pub not_by_an_engine : IsNoRun cancelled_by_an_engine
unfolding begun_states
not_by_an_engine = no_run cancelled_by_an_engine registries (asked false) [] run_asked
    (λ t. some_begun (same_token (token 1) t)) Follows (in_head [] Follows)
    (of_one (λ (y : Sentence). ¬ Holds y opening (until_asked false) orders) Follows by_itself)
    (command_keeps (until_asked false) (within registries cancelled (until_asked false) cancel_tells main_theorem)
    (Engine 1) stack_name 2 Rollback (Some (plan_of None)) false (Follows ∷ []) rolls_still
    (λ not. absurd (not (in_head [] Follows))))
