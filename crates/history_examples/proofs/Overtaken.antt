-- The update that overtakes, step by step: `is_overtaken`; and what the spoiled history breaks.
use Rattle.std.proofs.Common.{Bool, List, None, Some, [], ap, arith, false, refl, sym, true, ◌∙◌, ◌∷◌, ◌≡◌, ◌≢◌}
use Rattle.std.proofs.lemmas.List.Elements.{All-head}
use Rattle.std.specs.Prelude.{◌++◌}
use Rattle.heat_plan.specs.Tables.{at, cut, put}
use Rattle.heat_plan.specs.declared.phase.Act.TheVariants.{Create, Update}
use Rattle.heat_plan.specs.declared.phase.Status.TheVariants.{Complete, InProgress}
use Rattle.provider.specs.Same.{same_token}
use Rattle.provider.specs.Table.{Living}
use Rattle.mail_table.specs.declared.mail.Stage.TheVariants.{Ending, Polling}
use Rattle.core_state.specs.declared.change.Change.{Change}
use Rattle.core_state.specs.declared.change.Change.TheVariants.{EndJob, PutJob, PutRow, Send}
use Rattle.core_state.specs.declared.entry.Actor.TheVariants.{Engine}
use Rattle.core_state.specs.declared.entry.Entry.{Entry}
use Rattle.step_relation.specs.Asks.{Calls, by_failure, polls}
use Rattle.step_relation.specs.Given.{Nothing}
use Rattle.step_relation.specs.Moves.{finish_overrun, poll_failed, poll_ready}
use Rattle.step_relation.specs.Rows.{failed_row}
use Rattle.step_relation.specs.Runs.{Run, nothing}
use Rattle.step_relation.specs.Takes.{Releases}
use Rattle.step_relation.specs.Turns.{plain, unfailed}
use Rattle.step_relation.specs.Fits.{Fits, HasExactly}
use Rattle.step_relation.specs.Newest.{Latest}
use Rattle.step_relation.specs.Tokens.{token_at}
use Rattle.step_relation.specs.Headline.{AtPrefix, Headline}
use Rattle.history_laws.proofs.tables.Puts.{contains_head}
use Rattle.history_laws.proofs.tables.Rows.{same_some}
use Rattle.eval_words.specs.Resolve.{Props}
use Rattle.next_laws.proofs.Listings.{in_head, in_tail}
use Rattle.history_examples.specs.Created.{poll_tells, until_asked}
use Rattle.history_examples.specs.FirstRow.{row_begun, row_done, row_ready}
use Rattle.history_examples.specs.Overtaken.{IsOvertaken, freed, history, late, marked_though_overtaken, overtaken}
use Rattle.history_examples.specs.Overtaken.{release_tells, until_late}
use Rattle.history_examples.specs.Sentences.{Completes, Holds, Marks, Sentence}
use Rattle.history_examples.specs.Setting.{facts, item, item_name, job, letter, opening, plan, registries, says, sized}
use Rattle.history_examples.specs.Setting.{stack_name, token}
use Rattle.history_examples.specs.Spoiled.{IsNoRun}
use Rattle.history_examples.specs.Updates.{update_tells}
use Rattle.history_examples.proofs.Created.{run_asked}
use Rattle.history_examples.proofs.Kept.{fits_still, mark_keeps, not_completes}
use Rattle.history_examples.proofs.Possible.{begun_states, ready_states, some_ready}
use Rattle.history_examples.proofs.Resolved.{of_size_two}
use Rattle.history_examples.proofs.Sentences.{no_run, of_two, runs_have_headline, within}
use Rattle.history_examples.proofs.Steps.{by_call, by_turn}
use Rattle.history_examples.proofs.Updates.{overrun, run_updated, told_again}
use Rattle.core_state.specs.declared.entry.What.TheVariants as what
use Rattle.core_state.specs.declared.change.Change.TheVariants as change_to
use Rattle.core_state.specs.declared.entry.Why.TheVariants as why
use Rattle.heat_plan.specs.declared.calls.Answered.TheVariants as reply
use Rattle.heat_plan.specs.declared.calls.Request.TheVariants as request
use Rattle.step_relation.specs.Asks as ask

pub run_overtaken : Run registries opening.state overtaken (until_asked false ++ update_tells 2)
run_overtaken =
    run_updated Create (λ is. cc) InProgress (sized 1) None (Some 1) 1 InProgress false
    (job 1 (letter 1 1 0) 1 Polling ∷ []) 2
    (until_asked false) run_asked

-- the late answer, and what a failure would do
polls_ : Calls overtaken 1 Polling
unfolding at
polls_ = record {
  job = job 1 (letter 1 1 0) 1 Polling;
  row = row_begun;
  works = record { live = contains_head 1 (2 ∷ []); its = refl; stage_is = refl };
  found = refl;
}

abbrev fail_changes : List Change
fail_changes =
    change_to.Numbers (record { stack = 2; trav = 3; row = 2; engine = 3; letter = 4 })
    ∷ PutRow (failed_row row_begun) ∷ EndJob 1 ∷ Send (letter 3 2 0) ∷ []

run_late : Run registries opening.state late until_late
unfolding at put cut polls_
run_late = by_call overtaken late (PutRow row_ready ∷ PutJob (job 1 (letter 1 1 0) 1 Ending) ∷ [])
    (until_asked false ++ update_tells 2)
    poll_tells run_overtaken refl 1 (reply.Ready facts) fail_changes _
    (plain None (poll_ready polls_ facts _ _ (λ is. cc) refl refl) unfailed)
    (plain None (poll_failed polls_ request.Poll reply.Failed (why.Failed Create) (letter 3 2 0 ∷ []) None _ _
    (polls (λ is. cc)) (by_failure _)
    (ask.overrun (letter 3 2 0 ∷ [])
    (overrun Create (λ is. cc) InProgress (sized 1) None (Some 1) 1 2 None (job 1 (letter 1 1 0) 1 Polling ∷ [])
    Polling)
    (told_again Create (λ is. cc) InProgress (sized 1) None (Some 1) 1 2 None (job 1 (letter 1 1 0) 1 Polling ∷ [])))
    refl refl) unfailed) refl

releases : Releases late 1 (job 1 (letter 1 1 0) 1 Ending)
unfolding at
releases = record {
  row = Some row_ready;
  found = refl;
  overrun = overrun Create (λ is. cc) Complete (sized 1) (Some facts) (Some 1) 1 2 None
      (job 1 (letter 1 1 0) 1 Ending ∷ []) Ending;
  letters = letter 3 2 0 ∷ [];
  resends = told_again Create (λ is. cc) Complete (sized 1) (Some facts) (Some 1) 1 2 None
      (job 1 (letter 1 1 0) 1 Ending ∷ []);
}

pub run_freed : Run registries opening.state freed history
unfolding at put cut releases
run_freed = by_turn late freed
    (change_to.Numbers (record { stack = 2; trav = 3; row = 2; engine = 3; letter = 4 })
    ∷ PutRow row_done ∷ EndJob 1 ∷ Send (letter 3 2 0) ∷ []) until_late release_tells run_late refl 1 Nothing
    (λ a is. cc)
    (plain None (finish_overrun (job 1 (letter 1 1 0) 1 Ending) _ _
    (record { live = contains_head 1 (2 ∷ []); its = refl; stage_is = refl }) releases refl refl) unfailed) refl nothing

main_theorem : Headline registries opening history freed
unfolding ready_states begun_states
main_theorem = runs_have_headline registries freed history run_freed (λ t. some_ready (same_token (token 1) t))

pub is_overtaken : IsOvertaken
unfolding at put cut
is_overtaken = record {
  run = run_freed;
  headline = main_theorem;
  traversal = refl;
  mark = refl;
  stirs = main_theorem.stirs;
  alive = refl;
  rows = refl;
}

abbrev newer : Latest
newer = record { trav = 2; act = Update; plan = Some (plan 2) }

abbrev old : Entry
old = says (Engine 1) (what.Mark stack_name 1 Create None)

old_mark : ¬ Holds Marks opening until_late old
unfolding at
old_mark holds =
    let it = holds stack_name 1 Create None refl in
    let same : newer ≡ it.it = same_some newer it.it refl it.is_newest in
    let trav : 2 ≡ it.it.trav = ap (λ (l : Latest). l.trav) same in
    omega (arith, trav, it.same)

-- what is alive is of the old size
not_sized : (called : Bool) (it : Living) → ready_states called ≡ Some it ∷ [] → it.props ≢ sized 2
unfolding ready_states begun_states
not_sized true it is same =
    let one : sized 1 ≡ it.props = cc in
    let size : sized 1 ≡ sized 2 = one ∙ same in cc
not_sized false it is same = cc

misfit : ¬ Fits opening until_late stack_name (plan 2)
unfolding ready_states begun_states
misfit fits =
    let it : HasExactly opening until_late stack_name (plan 2) (item 2) =
    All-head (HasExactly opening until_late stack_name (plan 2)) (item 2) [] fits.each in
    let props : Props (sized 2) ≡ Props it.it.props = sym (of_size_two _ it.known) ∙ it.props in
    let same : sized 2 ≡ it.it.props = cc in
    not_sized (same_token (token 1) (token_at stack_name item_name it.row)) it.it it.state (sym same)

pub though_overtaken : IsNoRun marked_though_overtaken
unfolding ready_states begun_states at
though_overtaken = no_run marked_though_overtaken registries freed release_tells run_freed
    (λ t. some_ready (same_token (token 1) t)) Marks (in_head (Completes ∷ []) Marks)
    (of_two (λ (y : Sentence). ¬ Holds y opening until_late old) Marks Completes old_mark
    (not_completes until_late late_right (Engine 1) stack_name 1 Create newer refl misfit))
    (mark_keeps until_late late_right (Engine 1) stack_name 1 Create (Marks ∷ Completes ∷ [])
    (λ not. absurd (not (in_head (Completes ∷ []) Marks)))
    (λ not. absurd (not (in_tail (Completes ∷ []) Marks Completes (in_head [] Completes))))
    (λ not. fits_still until_late late_right (Engine 1) stack_name 1 Create (λ is. cc)))
  where
    late_right : AtPrefix opening until_late
    late_right = within registries freed until_late release_tells main_theorem
