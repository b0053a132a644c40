-- The update of a failed stack, step by step: `is_updated_after_failure`; and what the spoiled history breaks.
use Rattle.std.proofs.Common.{Bool, None, Option, Some, [], arith, false, refl, true, ◌∷◌, ◌≢◌}
use Rattle.std.proofs.lemmas.List.Elements.{All-head}
use Rattle.std.specs.Prelude.{Contains, IsSome, bytes_eq, option_map, if◌then◌else◌}
use Rattle.heat_plan.specs.Tables.{at, cut, put}
use Rattle.heat_plan.specs.declared.phase.Act.TheVariants.{Create}
use Rattle.heat_plan.specs.declared.phase.Status.TheVariants.{Failed}
use Rattle.provider.specs.Same.{same_token}
use Rattle.provider.specs.Table.{TokenState}
use Rattle.core_state.specs.declared.entry.Actor.TheVariants.{Engine}
use Rattle.core_state.specs.declared.entry.Entry.{Entry}
use Rattle.type_catalog.specs.Changes.{same}
use Rattle.type_catalog.specs.declared.effect.Effect.TheVariants.{Same}
use Rattle.step_relation.specs.Begins.{given_up}
use Rattle.step_relation.specs.Rows.{token_of}
use Rattle.step_relation.specs.Runs.{Run}
use Rattle.step_relation.specs.Headline.{AtPrefix, Headline, MayBeAsked, update}
use Rattle.step_relation.specs.Marked.{Completed, Mark, Marked, Unmarked, marked_again}
use Rattle.next_laws.proofs.Listings.{in_head, in_tail}
use Rattle.history_examples.specs.Created.{begun, until_begun}
use Rattle.history_examples.specs.FailedFirst.{IsUpdatedAfterFailure, asked_of_what_may_be_absent, cause, fail_tells}
use Rattle.history_examples.specs.FailedFirst.{failed, history, row_failed, until_failed, until_retaken, until_updated}
use Rattle.history_examples.specs.Sentences.{Asked, Holds, Named, Rows, Sentence}
use Rattle.history_examples.specs.Setting.{living, opening, registries, says, sized, stack_name, token}
use Rattle.history_examples.specs.Spoiled.{IsNoRun}
use Rattle.history_examples.specs.Updates.{replace_tells, replaced, retaken, updated}
use Rattle.history_examples.proofs.Begun.{run_begun}
use Rattle.history_examples.proofs.Created.{fail_changes, fails}
use Rattle.history_examples.proofs.Kept.{call_keeps}
use Rattle.history_examples.proofs.Possible.{failed_states, some_failed, some_updated, updated_states}
use Rattle.history_examples.proofs.Resolved.{of_size_one}
use Rattle.history_examples.proofs.Sentences.{no_run, of_one, runs_have_headline, within}
use Rattle.history_examples.proofs.Steps.{by_call}
use Rattle.history_examples.proofs.Updates.{run_replaced, run_retaken, run_updated}
use Rattle.core_state.specs.declared.entry.What.TheVariants as what
use Rattle.heat_plan.specs.declared.item.Policy.TheVariants as policies
use Rattle.heat_plan.specs.declared.calls.Answered.TheVariants as reply
use Rattle.heat_plan.specs.declared.calls.Request.TheVariants as request

run_failed : Run registries opening.state failed until_failed
unfolding at put cut
run_failed = by_call (begun false) failed fail_changes (until_begun false) fail_tells
    (run_begun policies.Delete false) refl 1
    reply.Failed fail_changes fail_tells
    fails fails refl

run_again : Run registries opening.state (updated 1 None row_failed []) until_updated
run_again = run_updated Create (λ is. cc) Failed (sized 1) None None 2 Failed false [] 1 until_failed run_failed

run_taken : Run registries opening.state (retaken 1 None row_failed) until_retaken
run_taken = run_retaken Create (λ is. cc) Failed (sized 1) None None 2 1 None until_updated refl run_again

run_moved : Run registries opening.state (replaced 1 None row_failed) history
run_moved = run_replaced Create (λ is. cc) Failed (sized 1) None None 2 1 None until_retaken Same
    (of_size_one _ []) (λ is. cc) (given_up refl (λ is. omega (arith, is))) (same refl) refl run_taken

main_theorem : Headline registries opening history (replaced 1 None row_failed)
unfolding failed_states
main_theorem =
    runs_have_headline registries (replaced 1 None row_failed) history run_moved
    (λ t. some_failed (same_token (token 1) t))

pub is_updated_after_failure : IsUpdatedAfterFailure
unfolding at put cut
is_updated_after_failure = record {
  run = run_moved;
  headline = main_theorem;
  failure = refl;
  mark = refl;
  alive = refl;
  rows = refl;
}

-- a token that may be absent isn't asked for an update
not_asked : MayBeAsked (None ∷ Some (living 1 None) ∷ []) (request.Update (sized 1)) → ⊥
not_asked (update _ all) = let it = All-head IsSome None (Some (living 1 None) ∷ []) all in cc

abbrev asking : Entry
asking = says (Engine 1) (what.Call (token 1) (request.Update (sized 1)) reply.Begun)

asked_wrongly : ¬ Holds Asked opening until_retaken asking
asked_wrongly holds = not_asked (holds (token 1) (request.Update (sized 1)) reply.Begun refl)

-- no stack is complete, before it and behind it
abbrev created_where : Bool → Option Marked
created_where called = if called then Some (record { trav = 1; mark = Unmarked }) else None

abbrev mark_where : Bool → Option Mark
mark_where called = option_map (λ (x : Marked). x.mark) (if called then Some (record { trav = 2; mark = Unmarked })
    else (if called then option_map (marked_again 1 (Some cause)) (created_where called) else created_where called))

incomplete_there : (called : Bool) → mark_where called ≢ Some Completed
incomplete_there true is = cc
incomplete_there false is = cc

-- what may be alive behind it could be before
were : (called : Bool) (state : TokenState) → Contains (updated_states called) state
    → Contains (failed_states called) state
unfolding updated_states failed_states
were true state among = in_tail (Some (living 1 None) ∷ []) None state among
were false state among = among

retaken_right : AtPrefix opening until_retaken
retaken_right = within registries (replaced 1 None row_failed) until_retaken (replace_tells 1 row_failed) main_theorem

named_then : Holds Named opening until_retaken asking
unfolding updated_states failed_states
named_then t alive =
    let w = retaken_right.named t (record {
      lives = record {
        it = alive.lives.it;
        among = were (same_token (token 1) t) (Some alive.lives.it) alive.lives.among;
      };
      owned = alive.owned;
    }) in
    record { row = w.row; found = w.found; its = w.its; begun = w.begun }

rows_then : Holds Rows opening until_retaken asking
unfolding updated_states failed_states
rows_then n r state found among =
    retaken_right.rows n r state found (were (same_token (token 1) (token_of r)) state among)

pub not_absent : IsNoRun asked_of_what_may_be_absent
unfolding updated_states failed_states at
not_absent = no_run asked_of_what_may_be_absent registries (replaced 1 None row_failed)
    (replace_tells 1 row_failed) run_moved
    (λ t. some_updated (same_token (token 1) t)) Asked (in_head [] Asked)
    (of_one (λ (y : Sentence). ¬ Holds y opening until_retaken asking) Asked asked_wrongly)
    (call_keeps until_retaken (Engine 1) (token 1) (request.Update (sized 1)) reply.Begun (Asked ∷ [])
    (λ not t asked given is. incomplete_there (bytes_eq stack_name t.stack))
    (λ not. absurd (not (in_head [] Asked)))
    (λ stack it new marked. absurd (incomplete_there (bytes_eq stack_name stack) marked)) named_then rows_then)
