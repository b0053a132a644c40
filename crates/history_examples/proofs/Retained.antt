-- What is retained, step by step: `is_retained`; and what spoils it.
use Rattle.std.proofs.Common.{List, None, Some, [], ap, arith, inl, inr, refl, subst, sym, ℕ, ◌++◌, ◌∷◌, ◌∙◌, ◌≡◌}
use Rattle.std.specs.Prelude.{Contains, length, option_map}
use Rattle.heat_plan.specs.Tables.{at, cut, put}
use Rattle.heat_plan.specs.declared.item.Policy.TheVariants.{Retain}
use Rattle.heat_plan.specs.declared.phase.Act.TheVariants.{Rollback}
use Rattle.heat_plan.specs.declared.token.Token.{Token}
use Rattle.provider.specs.Same.{same_token}
use Rattle.mail_table.specs.declared.mail.Stage.TheVariants.{Ending}
use Rattle.core_state.specs.Changes.{put_point}
use Rattle.core_state.specs.declared.change.Change.TheVariants.{DropRow, EndJob, PutJob, PutPoint, PutStack, Release}
use Rattle.core_state.specs.declared.entry.Actor.TheVariants.{Engine}
use Rattle.core_state.specs.declared.entry.Entry.{Entry}
use Rattle.step_relation.specs.Freshness.{plan_of}
use Rattle.step_relation.specs.Given.{Nothing}
use Rattle.step_relation.specs.Moves.{clean_retained, finish_last}
use Rattle.step_relation.specs.Runs.{Run, nothing}
use Rattle.step_relation.specs.Turns.{plain, unfailed}
use Rattle.step_relation.specs.Could.{IsPossible}
use Rattle.step_relation.specs.Marked.{Marked}
use Rattle.step_relation.specs.Headline.{AtPrefix, Headline}
use Rattle.step_relation.specs.Policies.{MayBeReleased}
use Rattle.history_laws.proofs.tables.Puts.{contains_none, contains_there}
use Rattle.history_laws.proofs.tells.Silence.{could-silent, marked-silent, newest-silent}
use Rattle.history_laws.proofs.headline.Said.{SameOf, fits_on}
use Rattle.next_laws.proofs.Listings.{cons_cases, in_head}
use Rattle.history_examples.specs.Retained.{IsRetained, give_tells, given, given_up_twice, history, retained}
use Rattle.history_examples.specs.Retained.{until_given}
use Rattle.history_examples.specs.Sentences.{CompleteFits, Holds, Named, Releases, Sentence}
use Rattle.history_examples.specs.Setting.{opening, registries, says, stack_name, token}
use Rattle.history_examples.specs.Spoiled.{IsNoRun}
use Rattle.history_examples.specs.Undone.{cleaning_under, cleans, complete_tells, done, row_held_under}
use Rattle.history_examples.specs.Undone.{stack_undone}
use Rattle.history_examples.specs.Undone.{until_cleaning_under}
use Rattle.history_examples.proofs.Kept.{release_keeps}
use Rattle.history_examples.proofs.Possible.{failed_states, some_failed}
use Rattle.history_examples.proofs.Sentences.{no_run, of_one, runs_have_headline, within}
use Rattle.history_examples.proofs.Steps.{by_turn}
use Rattle.history_examples.proofs.Undone.{all_done, begins_, finishes, run_cleaning}
use Rattle.core_state.specs.declared.entry.What.TheVariants as what

-- nobody is asked: the row's policy is Retain
run_given : Run registries opening.state given until_given
unfolding at put cut begins_
run_given = by_turn (cleaning_under Retain) given (Release (token 1) ∷ DropRow 1 ∷ PutJob (cleans Ending) ∷ [])
    (until_cleaning_under Retain) give_tells (run_cleaning Retain) refl
    1 Nothing (λ a is. cc)
    (plain None (clean_retained (begins_ Retain) (row_held_under Retain) _ _ refl (λ kept. contains_none _ kept.planned)
    (λ is. cc) (λ stuck. let act = stuck.act in cc) refl refl refl) unfailed) refl nothing

run_retained : Run registries opening.state retained history
unfolding at put cut put_point finishes
run_retained = by_turn given retained (EndJob 1 ∷ PutPoint done ∷ PutStack stack_undone ∷ []) until_given complete_tells
    run_given refl 1 Nothing (λ a is. cc)
    (plain None (finish_last (finishes (token 1 ∷ [])) _ _ (record { all = all_done; unmarked = refl }) refl refl)
    unfailed) refl nothing

possible : IsPossible opening history
unfolding failed_states
possible t = some_failed (same_token (token 1) t)

main_theorem : Headline registries opening history retained
main_theorem = runs_have_headline registries retained history run_retained possible

pub is_retained : IsRetained
unfolding at put cut
is_retained = record {
  run = run_retained;
  headline = main_theorem;
  mark = refl;
  fits = (main_theorem.prefixes (length history) (omega arith)).complete stack_name
      (record { trav = 2; act = Rollback; plan = Some (plan_of None) }) refl refl;
  given_up = refl;
  alive = refl;
  rows = refl;
}

-- no row stands that could be given up
abbrev again : Entry
again = says (Engine 1) (what.Release (token 1))

none_stands : ¬ MayBeReleased opening history (token 1)
unfolding at put cut
none_stands x = let none : None ≡ Some x.row = x.found in cc

right : AtPrefix opening history
right = within registries retained history [] main_theorem

once : (t : Token) → Contains (token 1 ∷ token 1 ∷ []) t → Contains (token 1 ∷ []) t
once t c = elim (cons_cases (token 1 ∷ []) (token 1) t c) [
  | inl is ↦ subst (Contains (token 1 ∷ [])) (sym is) (in_head [] (token 1))
  | inr later ↦ later
]

same_of : (stack : List ℕ) → SameOf opening stack history (history ++ again ∷ [])
same_of stack = record {
  could = λ t own. could-silent opening history (again ∷ []) t (tt, tt);
  forth = λ t own c. contains_there (token 1) t (token 1 ∷ []) c;
  back = λ t own c. once t c;
}

fits_still : Holds CompleteFits opening history again
fits_still stack it new marked = fits_on opening stack history (history ++ again ∷ []) (same_of stack) (plan_of it.plan)
    (right.complete stack it (sym (newest-silent opening history (again ∷ []) stack (tt, tt)) ∙ new)
    (ap (option_map (λ (x : Marked). x.mark))
    (sym (marked-silent opening history (again ∷ []) stack (tt, tt))) ∙ marked))

named_still : Holds Named opening history again
named_still t alive =
    let w = right.named t
    (record { lives = alive.lives; owned = λ c. alive.owned (contains_there (token 1) t (token 1 ∷ []) c) }) in
    record { row = w.row; found = w.found; its = w.its; begun = w.begun }

pub not_twice : IsNoRun given_up_twice
unfolding failed_states
not_twice = no_run given_up_twice registries retained [] run_retained possible Releases (in_head [] Releases)
    (of_one (λ (y : Sentence). ¬ Holds y opening history again) Releases (λ holds. none_stands (holds (token 1) refl)))
    (release_keeps history (Engine 1) (token 1) (Releases ∷ []) right
    (λ not. absurd (not (in_head [] Releases))) (λ not. fits_still) named_still)
