-- The update in place, step by step: `is_updated_in_place`; and what spoils it.
use Rattle.std.proofs.Common.{Bool, List, None, Some, [], false, inl, inr, refl, subst, true, ℕ, ◌++◌, ◌∷◌}
use Rattle.std.proofs.Common.{◌≡◌}
use Rattle.std.specs.Prelude.{Contains, bytes_eq, codes, if◌then◌else◌, pos}
use Rattle.heat_plan.specs.Tables.{at, cut, put}
use Rattle.heat_plan.specs.declared.phase.Act.TheVariants.{Create, Update}
use Rattle.heat_plan.specs.declared.phase.Status.TheVariants.{Complete, Failed, InProgress}
use Rattle.heat_plan.specs.declared.token.Token.{Token}
use Rattle.heat_value.specs.Data.{whole}
use Rattle.traversal_graph.specs.declared.shape.Node.TheVariants.{U}
use Rattle.provider.proofs.Sames.{same_token-true}
use Rattle.provider.specs.Same.{same_token}
use Rattle.mail_table.specs.declared.mail.Stage.{Stage}
use Rattle.mail_table.specs.declared.mail.Stage.TheVariants.{Asking, Ending, Polling}
use Rattle.core_state.specs.State.{StateData}
use Rattle.core_state.specs.declared.change.Change.{Change}
use Rattle.core_state.specs.declared.change.Change.TheVariants.{EndJob, PutJob, PutRow, PutStack}
use Rattle.core_state.specs.declared.entry.Actor.TheVariants.{Engine}
use Rattle.core_state.specs.declared.entry.Entry.{Entry}
use Rattle.core_state.specs.declared.entry.RowWrite.TheVariants.{Set}
use Rattle.type_catalog.specs.Changes.{Differs, in_place}
use Rattle.type_catalog.specs.declared.effect.Effect.TheVariants.{InPlace}
use Rattle.step_relation.specs.Asks.{Calls, by_failure, marks, polls, updates}
use Rattle.step_relation.specs.Begins.{Begins}
use Rattle.step_relation.specs.Freshness.{IsFresh}
use Rattle.step_relation.specs.Given.{Prepared}
use Rattle.step_relation.specs.Moves.{ask_begun, ask_failed, begin_in_place, poll_failed, poll_ready}
use Rattle.step_relation.specs.Rows.{failed_row}
use Rattle.step_relation.specs.Runs.{Run, begins, goes_on, props}
use Rattle.step_relation.specs.Turns.{plain, stays, unfailed}
use Rattle.step_relation.specs.Unjudged.{unjudged}
use Rattle.step_relation.specs.Tokens.{HasRow, MayLive}
use Rattle.step_relation.specs.Headline.{Headline}
use Rattle.history_laws.proofs.edges.Keeping.{only_one}
use Rattle.history_laws.proofs.tables.Puts.{contains_head, contains_there}
use Rattle.next_laws.proofs.Listings.{in_head}
use Rattle.history_examples.specs.FirstRow.{row_done}
use Rattle.history_examples.specs.InPlace.{IsUpdatedInPlace, ask_tells, asked, begin_tells, begun, facts_now, history}
use Rattle.history_examples.specs.InPlace.{judged, poll_tells, ready, row_updated, row_updating, two_registries}
use Rattle.history_examples.specs.InPlace.{until_asked, until_begun, until_retaken, updated_without_asking, works}
use Rattle.history_examples.specs.Sentences.{Holds, Named, Rows, Sentence}
use Rattle.history_examples.specs.Setting.{facts, item, item_name, letter, living, opening, plan, registries}
use Rattle.history_examples.specs.Setting.{row_writes}
use Rattle.history_examples.specs.Setting.{sized, token}
use Rattle.history_examples.specs.Spoiled.{IsNoRun}
use Rattle.history_examples.specs.Updates.{graph_two, retaken, stack_two, update_tells}
use Rattle.history_examples.proofs.Created.{run_created}
use Rattle.history_examples.proofs.Kept.{text_cases, write_keeps}
use Rattle.history_examples.proofs.Possible.{begun_states, changed_states, ready_states, some_changed, some_ready}
use Rattle.history_examples.proofs.Resolved.{of_size_two}
use Rattle.history_examples.proofs.Sentences.{no_run, of_one, runs_have_headline, within}
use Rattle.history_examples.proofs.Steps.{goes_by_call, goes_quietly}
use Rattle.history_examples.proofs.Updates.{begins_, run_retaken, run_updated}
use Rattle.core_state.specs.declared.entry.Why.TheVariants as why
use Rattle.heat_plan.specs.declared.calls.Answered.TheVariants as reply
use Rattle.heat_plan.specs.declared.calls.Request.TheVariants as request
use Rattle.history_examples.specs.Created as create
use Rattle.step_relation.specs.Freshness as serve
use Rattle.step_relation.specs.Inputs as input

-- a run under the one registry is one under both
wider : (s t : StateData) (h : List Entry) → Run registries s t h → Run two_registries s t h
wider s t h (begins _ _ is none) = begins t h is none
wider s t h (goes_on judges mid _ cs before after _ run step among tied once is told) =
    goes_on judges mid t cs before after h (wider s mid before run) step
    (subst (Contains two_registries) (only_one unjudged judges among) (contains_head unjudged (judged ∷ []))) tied
    once is told

run_again : Run registries opening.state (retaken 2 (Some (plan 1)) row_done) until_retaken
run_again = run_retaken Create (λ is. cc) Complete (sized 1) (Some facts) None 2 2 (Some (plan 1))
    (create.history ++ update_tells 2) refl
    (run_updated Create (λ is. cc) Complete (sized 1) (Some facts) None 2 Complete true [] 2 create.history run_created)

-- only the size differs, and may change in place
size_alone : (key : List ℕ) → Differs (sized 1) (sized 2) key → Contains (codes "size" ∷ []) key
size_alone key differs = elim (text_cases (codes "size") key) [
  | inl t ↦ subst (Contains (codes "size" ∷ [])) t.1 (contains_head (codes "size") [])
  | inr f ↦ absurd (differs (none_there (bytes_eq (codes "size") key) f.0))
] where
  none_there : (b : Bool) → b ≡ false
      → (if b then Some (whole (pos 1)) else None) ≡ (if b then Some (whole (pos 2)) else None)
  none_there true is = cc
  none_there false is = refl

abbrev begun_at : Begins (retaken 2 (Some (plan 1)) row_done) 1
begun_at = begins_ Create (λ is. cc) Complete (sized 1) (Some facts) None 2 2 (Some (plan 1))

run_begun : Run two_registries opening.state begun until_begun
unfolding at put cut begins_
run_begun = goes_quietly two_registries judged (contains_there unjudged judged (judged ∷ []) (contains_head judged []))
    (retaken 2 (Some (plan 1)) row_done) begun
    (PutRow row_updating ∷ PutJob (works Asking) ∷ []) until_retaken begin_tells
    (wider opening.state (retaken 2 (Some (plan 1)) row_done) until_retaken run_again) refl
    1 (Prepared (sized 2) InPlace) (λ a is. cc)
    (plain None (begin_in_place begun_at (sized 2) InPlace _ _ (λ is. cc) refl
    (record { kind = refl; differs = λ is. cc; in_place = refl }) refl refl) unfailed) refl
    (props begun_at (sized 2) InPlace
    (record { known = []; known_are = input.none; result_is = of_size_two _ [] })
    (in_place (λ is. cc) size_alone))

-- the cloud is asked, and what a failure would do
fresh_at : (stage : Stage) → IsFresh (record begun { jobs = works stage ∷ [] }) (letter 2 2 0) 1
unfolding at
fresh_at stage = record {
  stack = stack_two 2 InProgress;
  graph = graph_two;
  node = U item_name 1;
  row = Some row_updating;
  names = record { in_table = refl; newest = refl; its_graph = refl; its_node = refl };
  found = refl;
  serves = serve.updates item_name 1 (item 2) row_updating refl (λ is. cc);
}

calls : (stage : Stage) → Calls (record begun { jobs = works stage ∷ [] }) 1 stage
unfolding at
calls stage = record {
  job = works stage;
  row = row_updating;
  works = record { live = contains_head 1 (2 ∷ []); its = refl; stage_is = refl };
  found = refl;
}

abbrev fail_changes : List Change
fail_changes = PutRow (failed_row row_updating) ∷ EndJob 1 ∷ PutStack (stack_two 2 Failed) ∷ []

run_asked : Run two_registries opening.state asked until_asked
unfolding at put cut calls fresh_at
run_asked = goes_by_call two_registries unjudged (contains_head unjudged (judged ∷ [])) begun asked
    (PutJob (works Polling) ∷ []) until_begun ask_tells run_begun refl 1 reply.Begun fail_changes _
    (plain None (ask_begun (calls Asking) (request.Update (sized 2)) _ _ (updates refl) refl refl) unfailed)
    (plain (Some (stack_two 2 InProgress))
    (ask_failed (calls Asking) (request.Update (sized 2)) reply.Failed (why.Failed Update) []
    (Some (stack_two 2 InProgress)) _ _ (updates refl) (by_failure _) (marks (fresh_at Asking) refl) refl refl)
    (stays (stack_two 2 InProgress) (λ due. let no_ = due.asked in cc))) refl

run_ready : Run two_registries opening.state ready history
unfolding at put cut calls fresh_at
run_ready = goes_by_call two_registries unjudged (contains_head unjudged (judged ∷ [])) asked ready
    (PutRow row_updated ∷ PutJob (works Ending) ∷ []) until_asked poll_tells run_asked refl
    1 (reply.Ready facts_now) fail_changes _
    (plain None (poll_ready (calls Polling) facts_now _ _ (λ is. cc) refl refl) unfailed)
    (plain (Some (stack_two 2 InProgress)) (poll_failed (calls Polling) request.Poll reply.Failed (why.Failed Update) []
    (Some (stack_two 2 InProgress)) _ _ (polls (λ is. cc)) (by_failure _) (marks (fresh_at Polling) refl) refl refl)
    (stays (stack_two 2 InProgress) (λ due. let no_ = due.asked in cc))) refl

main_theorem : Headline two_registries opening history ready
unfolding changed_states ready_states begun_states
main_theorem = runs_have_headline two_registries ready history run_ready (λ t. some_changed (same_token (token 1) t))

pub is_updated_in_place : IsUpdatedInPlace
unfolding at put cut
is_updated_in_place = record { run = run_ready; headline = main_theorem; mark = refl; alive = refl; rows = refl }

-- the row is of the new size, and the resource isn't
abbrev write : Entry
write = row_writes 1 (Set row_updated ∷ [])

unasked : ¬ Holds Rows opening until_begun write
unfolding at put cut
unasked holds =
    let fits = holds 1 row_updated (Some (living 1 (Some facts))) refl
    (contains_head (Some (living 1 (Some facts))) []) in
    let one = (fits.ready refl (λ is. cc) (λ is. cc)).alive in
    let alive : Some (living 1 (Some facts)) ≡ Some one.it = one.alive in
    let size : one.it.props ≡ sized 2 = one.props_are in
    let same : sized 1 ≡ one.it.props = cc in
    let old : sized 1 ≡ sized 2 = cc in
    cc

first_named : HasRow opening (until_begun ++ write ∷ []) (token 1)
unfolding at put cut
first_named = record { row = row_updated; found = refl; its = refl; begun = λ is. cc }

named_at : (called : Bool) (t : Token) → (called ≡ true → token 1 ≡ t) → MayLive (ready_states called)
    → HasRow opening (until_begun ++ write ∷ []) t
unfolding ready_states begun_states
named_at true t same lives = subst (HasRow opening (until_begun ++ write ∷ [])) (same refl) first_named
named_at false t same lives = let is = only_one None (Some lives.it) lives.among in cc

still_named : Holds Named opening until_begun write
unfolding ready_states begun_states
still_named t alive = named_at (same_token (token 1) t) t (same_token-true (token 1) t) alive.lives

pub not_without_asking : IsNoRun updated_without_asking
unfolding ready_states begun_states
not_without_asking = no_run updated_without_asking two_registries begun [] run_begun
    (λ t. some_ready (same_token (token 1) t)) Rows (in_head [] Rows)
    (of_one (λ (y : Sentence). ¬ Holds y opening until_begun write) Rows unasked)
    (write_keeps until_begun (Engine 1) (Set row_updated ∷ []) (Rows ∷ [])
    (within two_registries ready until_begun (ask_tells ++ poll_tells) main_theorem)
    (λ not. still_named) (λ not. absurd (not (in_head [] Rows))))
