use Rattle.std.proofs.Common.{◌≡◌, ◌∙◌, ◌∷◌, refl, sym, ap, Ok, Err, List, false, bytes_eq, rules}
use Rattle.std.proofs.lemmas.Result.{err_from_is_err_and}
use Rattle.heat_value.specs.Data.{Data, Members, Nodes, fields}
use Rattle.heat_value.specs.Meaning.{data_of, members_of}
use Rattle.heat_value.specs.declared.path.Step.TheVariants.{Key, Index}
use Rattle.hot_eval.specs.Answers.{again, inside_again, levels, picked_outcome}
use Rattle.eval_words.specs.Evaluation.{value_outcome, values_outcome, members_outcome, all_but_outcome, alone}
use Rattle.eval_words.specs.Choices.{choices, repetition}
use Rattle.eval_words.specs.Evaluation.{condition_outcome, conditions_outcome, outcome_unless, choices_outcome}
use Rattle.eval_words.specs.Evaluation.{call, replaced, sole_of}
use Rattle.eval_words.specs.Names.{function_of, condition_function_of, named_in}
use Rattle.eval_words.specs.Outcomes.{Gives, made_into, under}
use Rattle.hot_eval.specs.Repeats.{lists_of, choice_of}
use Rattle.eval_words.specs.Scenes.{scene_data}
use Rattle.hot_eval.specs.declared.branches.Picked.{Picked}
use Rattle.hot_eval.proofs.Steps.{fault_same, fault_made, list_goes_on, list_ends, map_goes_on, map_ends}
use Rattle.eval_words.specs.Choices.{Choice}
use Rattle.eval_words.specs.Evaluation.{in_repeat}
use Rattle.eval_words.specs.Looks.{Looks, choices_reads}
use Rattle.hot_eval.specs.Noted.{noted, reads_again, reads_inside_again, value_looks, values_looks, members_looks, all_but_looks}
use Rattle.hot_eval.specs.Noted.{condition_looks, conditions_looks, looks_unless, picked_reads, sole_looks}
use Rattle.hot_eval.proofs.Places.{nodes_end, members_end}
use Rattle.hot_eval.proofs.Noting.{list_reads_on, list_reads_stop, map_reads_on, map_reads_stop, noted_through, members_more}
use Rattle.hot_eval.proofs.Noting.{unless_more, way_ends, noted_as, noted_to, noted-none, none_noted_to, behind_gives, under_on, under_to, under_stop}
use Rattle.hot_eval.proofs.Choosing.{chosen_at, chosen_none, unless_other}
use Rattle.hot_eval.proofs.Deeper.{calls_inside, condition_calls_inside, members_inside}
use Rattle.hot_eval.proofs.Looking.{call_looks_fault, call_looks_charge, call_looks_gives}
use Rattle.hot_eval.proofs.Reading.{turn_reads_on, turn_reads_stop}
use Rattle.hot_eval.proofs.Linked.{choice_first}
use Rattle.hot_eval.proofs.Steps.{turn_stops, turn_goes_on, turn_ends, walk_begins}
use Rattle.hot_eval.proofs.Calls.{outcome_is, there, object_calls, object_plain, condition_calls, condition_plain}
use Rattle.hot_eval.proofs.Calls.{repeated_gives}
use Rattle.hot_eval.proofs.evaluation.+evaluation.Goals as goal

-- ---- lists

pub values-loop-place-preserved : goal.values-loop-place-preserved
values-loop-place-preserved t c = (
  list_goes_on (value_outcome (again c.args.set.now) (scene_data c.args.set.now.scene) (levels c.args.set.now)) (values_outcome (again c.args.set.now) (scene_data c.args.set.now.scene) (levels c.args.set.now)) (λ i n. refl) (λ i d ns n. refl)
      _ _ _ _ _ _ _ _ _ c.loop-place.invariant.0 c.loop-place-test.true c.index-given-place.is c.in_ok-push.ensures.ok
      (c.in_ok-at_place.ensures _ _ c.value.ensures.outcome),
  list_reads_on (value_outcome (again c.args.set.now) (scene_data c.args.set.now.scene) (levels c.args.set.now)) (value_looks c.args.set.now) (values_looks c.args.set.now) (λ d ns n. refl)
      _ c.args.given.now c.loop-place.place _ (λ p. Index c.loop-place.place ∷ p) _ _ _ _ _ _ c.loop-place.invariant.1 c.loop-place-test.true c.index-given-place.is
      (c.in_ok-at_place.ensures _ _ c.value.ensures.outcome)
      (noted_through c.value.result (Ok c.in_ok-at_place.field-0) (λ p. Index c.loop-place.place ∷ p) _ _ _ c.in_ok-at_place.ensures c.value.ensures.looks),
)

pub values-returns-clause-outcome : goal.values-returns-clause-outcome
values-returns-clause-outcome t c =
    list_ends (value_outcome (again c.args.set.now) (scene_data c.args.set.now.scene) (levels c.args.set.now)) (values_outcome (again c.args.set.now) (scene_data c.args.set.now.scene) (levels c.args.set.now)) (λ i n. refl) (λ i d ns n. refl)
    _ _ _ _ _ c.loop-place.invariant.0 c.loop-place-test.false

pub conditions-loop-place-preserved : goal.conditions-loop-place-preserved
conditions-loop-place-preserved t c = (
  list_goes_on (condition_outcome (again c.args.set.now) (scene_data c.args.set.now.scene) (levels c.args.set.now)) (conditions_outcome (again c.args.set.now) (scene_data c.args.set.now.scene) (levels c.args.set.now)) (λ i n. refl) (λ i d ns n. refl)
      _ _ _ _ _ _ _ _ _ c.loop-place.invariant.0 c.loop-place-test.true c.index-given-place.is c.in_ok-push.ensures.ok
      (c.in_ok-at_place.ensures _ _ c.condition.ensures.outcome),
  list_reads_on (condition_outcome (again c.args.set.now) (scene_data c.args.set.now.scene) (levels c.args.set.now)) (condition_looks c.args.set.now) (conditions_looks c.args.set.now) (λ d ns n. refl)
      _ c.args.given.now c.loop-place.place _ (λ p. Index c.loop-place.place ∷ p) _ _ _ _ _ _ c.loop-place.invariant.1 c.loop-place-test.true c.index-given-place.is
      (c.in_ok-at_place.ensures _ _ c.condition.ensures.outcome)
      (noted_through c.condition.result (Ok c.in_ok-at_place.field-0) (λ p. Index c.loop-place.place ∷ p) _ _ _ c.in_ok-at_place.ensures c.condition.ensures.looks),
)

pub conditions-returns-clause-outcome : goal.conditions-returns-clause-outcome
conditions-returns-clause-outcome t c =
    list_ends (condition_outcome (again c.args.set.now) (scene_data c.args.set.now.scene) (levels c.args.set.now)) (conditions_outcome (again c.args.set.now) (scene_data c.args.set.now.scene) (levels c.args.set.now)) (λ i n. refl) (λ i d ns n. refl)
    _ _ _ _ _ c.loop-place.invariant.0 c.loop-place-test.false

-- ---- maps

pub members-loop-member-preserved : goal.members-loop-member-preserved
members-loop-member-preserved t c = (
  map_goes_on (λ k d n. under (Key k) (value_outcome (again c.args.set.now) (scene_data c.args.set.now.scene) (levels c.args.set.now) d n)) (members_outcome (again c.args.set.now) (scene_data c.args.set.now.scene) (levels c.args.set.now))
      (λ n. refl) (λ k d ms n. refl) _ _ _ (members_of c.as_slice-member-items.result.now) _ _ _ _ _ _ _
      (rw c.as_slice-member-items.ensures.members c.as_slice-member-items.ensures.rising)
      c.loop-member.invariant.0 c.loop-member-test.true c.member-item.is c.in_ok-copy.ensures c.in_ok-put.ensures.ok
      (c.in_ok-made.ensures _ _ c.value.ensures.outcome),
  map_reads_on (λ k d n. under (Key k) (value_outcome (again c.args.set.now) (scene_data c.args.set.now.scene) (levels c.args.set.now) d n)) (λ k d n. value_looks c.args.set.now d n) (members_looks c.args.set.now)
      (members_more (again c.args.set.now) (reads_again c.args.set.now) (scene_data c.args.set.now.scene) (levels c.args.set.now)) _ c.as_slice-member-items.result.now c.loop-member.member-index _ _ _ _ _ _ _ c.loop-member.invariant.1 c.loop-member-test.true c.member-item.is
      (c.in_ok-made.ensures _ _ c.value.ensures.outcome)
      (noted_through c.value.result (Ok c.in_ok-made.made) (λ p. Key c.member-item.result.key ∷ p) _ _ _ c.in_ok-made.ensures c.value.ensures.looks),
)

pub members-returns-clause-outcome : goal.members-returns-clause-outcome
members-returns-clause-outcome t c =
    ap (λ (ms : Members). members_outcome (again c.args.set.now) (scene_data c.args.set.now.scene) (levels c.args.set.now) ms c.args.sum.now) (sym c.as_slice-member-items.ensures.members)
    ∙ map_ends (λ k d n. under (Key k) (value_outcome (again c.args.set.now) (scene_data c.args.set.now.scene) (levels c.args.set.now) d n)) (members_outcome (again c.args.set.now) (scene_data c.args.set.now.scene) (levels c.args.set.now))
    (λ n. refl) (λ k d ms n. refl) _ _ (members_of c.as_slice-member-items.result.now) _ _ _
    c.loop-member.invariant.0 c.loop-member-test.false

pub all_but-loop-member-preserved : goal.all_but-loop-member-preserved
all_but-loop-member-preserved t c = (
  map_goes_on (outcome_unless (again c.args.set.now) (scene_data c.args.set.now.scene) (levels c.args.set.now) c.args.but.now) (all_but_outcome (again c.args.set.now) (scene_data c.args.set.now.scene) (levels c.args.set.now) c.args.but.now)
      (λ n. refl) (λ k d ms n. refl) _ _ _ (members_of c.as_slice-member-items.result.now) _ _ _ _ _ _ _
      (rw c.as_slice-member-items.ensures.members c.as_slice-member-items.ensures.rising)
      c.loop-member.invariant.0 c.loop-member-test.true c.member-item.is c.in_ok-copy.ensures c.in_ok-put.ensures.ok
      c.in_ok-made.ensures.outcome,
  map_reads_on (outcome_unless (again c.args.set.now) (scene_data c.args.set.now.scene) (levels c.args.set.now) c.args.but.now) (looks_unless c.args.set.now c.args.but.now) (all_but_looks c.args.set.now c.args.but.now)
      (unless_more (again c.args.set.now) (reads_again c.args.set.now) (scene_data c.args.set.now.scene) (levels c.args.set.now) c.args.but.now) _ c.as_slice-member-items.result.now c.loop-member.member-index _ _ _ _ _ _ _ c.loop-member.invariant.1 c.loop-member-test.true c.member-item.is
      c.in_ok-made.ensures.outcome c.in_ok-made.ensures.looks,
)

pub all_but-returns-clause-outcome : goal.all_but-returns-clause-outcome
all_but-returns-clause-outcome t c =
    ap (λ (ms : Members). all_but_outcome (again c.args.set.now) (scene_data c.args.set.now.scene) (levels c.args.set.now) c.args.but.now ms c.args.sum.now)
    (sym c.as_slice-member-items.ensures.members)
    ∙ map_ends (outcome_unless (again c.args.set.now) (scene_data c.args.set.now.scene) (levels c.args.set.now) c.args.but.now) (all_but_outcome (again c.args.set.now) (scene_data c.args.set.now.scene) (levels c.args.set.now) c.args.but.now)
    (λ n. refl) (λ k d ms n. refl) _ _ (members_of c.as_slice-member-items.result.now) _ _ _
    c.loop-member.invariant.0 c.loop-member-test.false

-- ---- branches

pub branch_value-returns-in_ok-at_place-in-Branch-clause-outcome : goal.branch_value-returns-in_ok-at_place-in-Branch-clause-outcome
branch_value-returns-in_ok-at_place-in-Branch-clause-outcome t c flag branches picked =
    picked (again c.args.set.now) (scene_data c.args.set.now.scene) (levels c.args.set.now) c.args.sum.now
    ∙ ap (λ (p : Picked). picked_outcome (again c.args.set.now) (scene_data c.args.set.now.scene) (levels c.args.set.now) p c.args.sum.now) c.in-Branch.is
    ∙ ap (made_into alone) (c.in_ok-at_place-in-Branch.ensures _ _ c.value.ensures.outcome)

pub branch_value-returns-in_err-at_place-in-Branch-clause-outcome : goal.branch_value-returns-in_err-at_place-in-Branch-clause-outcome
branch_value-returns-in_err-at_place-in-Branch-clause-outcome t c flag branches picked =
    let p = err_from_is_err_and c.from_residual.result c.from_residual.ensures.1 in
    rw (p.1, p.2) (fault_same _ _ _
    (picked (again c.args.set.now) (scene_data c.args.set.now.scene) (levels c.args.set.now) c.args.sum.now ∙ ap (λ (p : Picked). picked_outcome (again c.args.set.now) (scene_data c.args.set.now.scene) (levels c.args.set.now) p c.args.sum.now) c.in-Branch.is)
    (fault_made _ alone _ (c.in_err-at_place-in-Branch.ensures _ _ c.value.ensures.outcome)))

-- ---- choices

pub choice_values-loop-choice-init : goal.choice_values-loop-choice-init
choice_values-loop-choice-init t c =
    let first = rw c.in-Some.is at c.in_ok-places.ensures in (
      walk_begins (inside_again c.args.set.now) (data_of c.args.repetition.now.template.now)
          (lists_of c.args.repetition.now.lists.items) (lists_of c.as_slice-lists.result.now) c.in-Some.places.items
          c.new-items.result c.args.sum.now (ap lists_of c.as_slice-lists.ensures.value) first.1 c.new-items.ensures,
      first.0,
      choice_first (lists_of c.as_slice-lists.result.now) c.in-Some.places.items c.in_ok-stocks.stocks.items
          c.in_ok-choice.choice first.0 c.in_ok-stocks.ensures c.in_ok-choice.ensures.choice c.in_ok-choice.ensures.kept,
      ap (λ (cs : List Choice). noted (choices_reads (inside_again c.args.set.now) (reads_inside_again c.args.set.now)
          (data_of c.args.repetition.now.template.now) cs c.args.sum.now) c.args.looked.now)
          (sym (first.1 ∙ ap (λ ls. choices (lists_of ls)) c.as_slice-lists.ensures.value)),
    )

pub choice_values-returns-in_err-choice_value-clause-outcome : goal.choice_values-returns-in_err-choice_value-clause-outcome
choice_values-returns-in_err-choice_value-clause-outcome t c =
    let p = err_from_is_err_and c.from_residual-in_err-choice_value.result
    c.from_residual-in_err-choice_value.ensures.1 in
    rw (p.1, p.2) (turn_stops (inside_again c.args.set.now) (data_of c.args.repetition.now.template.now)
    (choices_outcome (inside_again c.args.set.now) (data_of c.args.repetition.now.template.now) (choices (lists_of c.args.repetition.now.lists.items)) c.args.sum.now)
    (lists_of c.as_slice-lists.result.now) c.loop-choice.places.items (choice_of c.loop-choice.choice) c.loop-choice.invariant.2.choice
    c.in_err-choice_value.field-0.0 c.loop-choice.items c.loop-choice.sum c.loop-choice.invariant.1
    c.loop-choice.invariant.0 c.in_err-choice_value.ensures.outcome)

pub choice_values-returns-then-not-go_on-clause-outcome : goal.choice_values-returns-then-not-go_on-clause-outcome
choice_values-returns-then-not-go_on-clause-outcome t c =
    turn_ends (inside_again c.args.set.now) (data_of c.args.repetition.now.template.now)
    (choices_outcome (inside_again c.args.set.now) (data_of c.args.repetition.now.template.now) (choices (lists_of c.args.repetition.now.lists.items)) c.args.sum.now)
    (lists_of c.as_slice-lists.result.now) c.loop-choice.places.items (choice_of c.loop-choice.choice) c.loop-choice.invariant.2.choice
    c.go_on.result c.go_on.new.places.items c.loop-choice.items c.push.new.self
    (data_of c.in_ok-choice_value.field-0) c.loop-choice.sum c.choice_value.new.sum c.if-not-go_on.true
    c.loop-choice.invariant.0 c.in_ok-push.ensures.ok c.in_ok-choice_value.ensures.outcome c.go_on.ensures.goes

pub choice_values-loop-choice-preserved : goal.choice_values-loop-choice-preserved
choice_values-loop-choice-preserved t c =
    let next = turn_goes_on (inside_again c.args.set.now) (data_of c.args.repetition.now.template.now)
    (choices_outcome (inside_again c.args.set.now) (data_of c.args.repetition.now.template.now) (choices (lists_of c.args.repetition.now.lists.items)) c.args.sum.now)
    (lists_of c.as_slice-lists.result.now) c.loop-choice.places.items (choice_of c.loop-choice.choice) c.loop-choice.invariant.2.choice
    c.go_on.result c.go_on.new.places.items c.loop-choice.items c.push.new.self
    (data_of c.in_ok-choice_value.field-0) c.loop-choice.sum c.choice_value.new.sum c.if-not-go_on.false
    c.loop-choice.invariant.0 c.in_ok-push.ensures.ok c.in_ok-choice_value.ensures.outcome c.go_on.ensures.goes in
    let choice = rw c.if-not-go_on.false at c.go_on.ensures.choice in (
      next.0,
      next.1,
      choice,
      turn_reads_on (inside_again c.args.set.now) (reads_inside_again c.args.set.now) (data_of c.args.repetition.now.template.now)
          _ (lists_of c.as_slice-lists.result.now) c.loop-choice.places.items (choice_of c.loop-choice.choice)
          c.loop-choice.invariant.2.choice c.go_on.result c.go_on.new.places.items (data_of c.in_ok-choice_value.field-0)
          c.loop-choice.sum c.choice_value.new.sum _ _ _ c.if-not-go_on.false c.loop-choice.invariant.3
          c.in_ok-choice_value.ensures.outcome c.in_ok-choice_value.ensures.looks c.go_on.ensures.goes,
    )

pub repeated-returns-in_ok-items-in-Ok-clause-outcome : goal.repeated-returns-in_ok-items-in-Ok-clause-outcome
repeated-returns-in_ok-items-in-Ok-clause-outcome t c =
    outcome_is data_of c.answered.result c.answered.new.sum _ _
    (repeated_gives (inside_again c.args.set.now) (repetition (data_of c.args.given.now)) c.in-Ok.repetition c.args.sum.now
    c.choice_values.new.sum _ c.in-Ok.ensures.exact c.in_ok-items-in-Ok.ensures.outcome)
    (c.answered.ensures _ refl)

-- ---- objects

pub object-returns-in-Some-clause-outcome : goal.object-returns-in-Some-clause-outcome
object-returns-in-Some-clause-outcome t c =
    outcome_is data_of c.call.result c.call.new.sum _ _
    (object_calls (again c.args.set.now) (scene_data c.args.set.now.scene) (levels c.args.set.now) (levels c.in_ok-set.field-0) c.args.sum.now c.in_ok-set.ensures.less c.args.given.now
    (c.in-Some.member.now.key, data_of c.in-Some.member.now.value, c.in-Some.function)
    (c.in-Some.ensures ∙ ap (named_in function_of) c.as_slice.ensures.members)
    ∙ there (λ X T b. call (replaced X (levels c.in_ok-set.field-0)) T c.in-Some.function b (sole_of X T (levels c.in_ok-set.field-0) c.in-Some.member.now.key
    (data_of c.in-Some.member.now.value)) c.args.sum.now) (again c.args.set.now) _ (scene_data c.args.set.now.scene) _ _ _ c.in_ok-set.ensures.again
    c.in_ok-set.ensures.scene c.is_formed.ensures)
    c.call.ensures.outcome

pub object-returns-in_ok-members-in-None-clause-outcome : goal.object-returns-in_ok-members-in-None-clause-outcome
object-returns-in_ok-members-in-None-clause-outcome t c =
    object_plain (again c.args.set.now) (scene_data c.args.set.now.scene) (levels c.args.set.now) (levels c.in_ok-set.field-0) c.args.sum.now c.in_ok-set.ensures.less c.args.given.now
    (c.in-None.ensures ∙ ap (named_in function_of) c.as_slice.ensures.members)
    ∙ ap (made_into fields) (there (λ X T (l : Members). members_outcome X T (levels c.in_ok-set.field-0) l c.args.sum.now) (again c.args.set.now) _ (scene_data c.args.set.now.scene) _
    c.args.given.now c.args.given.now c.in_ok-set.ensures.again c.in_ok-set.ensures.scene refl
    ∙ c.in_ok-members-in-None.ensures.outcome)

pub object-returns-in_err-members-in-None-clause-outcome : goal.object-returns-in_err-members-in-None-clause-outcome
object-returns-in_err-members-in-None-clause-outcome t c =
    let p = err_from_is_err_and c.from_residual-in_err-members-in-None.result
    c.from_residual-in_err-members-in-None.ensures.1 in
    rw (p.1, p.2) (fault_same _ _ _ (object_plain (again c.args.set.now) (scene_data c.args.set.now.scene) (levels c.args.set.now) (levels c.in_ok-set.field-0) c.args.sum.now c.in_ok-set.ensures.less c.args.given.now
    (c.in-None.ensures ∙ ap (named_in function_of) c.as_slice.ensures.members))
    (fault_made _ fields _ (fault_same _ _ _ (there (λ X T (l : Members). members_outcome X T (levels c.in_ok-set.field-0) l c.args.sum.now)
    (again c.args.set.now) _ (scene_data c.args.set.now.scene) _ c.args.given.now c.args.given.now c.in_ok-set.ensures.again c.in_ok-set.ensures.scene refl)
    c.in_err-members-in-None.ensures.outcome)))

pub condition_object-returns-in-Some-clause-outcome : goal.condition_object-returns-in-Some-clause-outcome
condition_object-returns-in-Some-clause-outcome t c =
    outcome_is data_of c.call.result c.call.new.sum _ _
    (condition_calls (again c.args.set.now) (scene_data c.args.set.now.scene) (levels c.args.set.now) (levels c.in_ok-set.field-0) c.args.sum.now c.in_ok-set.ensures.less c.args.given.now
    (c.in-Some.member.now.key, data_of c.in-Some.member.now.value, c.in-Some.function)
    (c.in-Some.ensures ∙ ap (named_in condition_function_of) c.as_slice.ensures.members)
    ∙ there (λ X T b. call (replaced X (levels c.in_ok-set.field-0)) T c.in-Some.function b (sole_of X T (levels c.in_ok-set.field-0) c.in-Some.member.now.key
    (data_of c.in-Some.member.now.value)) c.args.sum.now) (again c.args.set.now) _ (scene_data c.args.set.now.scene) _ _ _ c.in_ok-set.ensures.again
    c.in_ok-set.ensures.scene c.is_condition_formed.ensures)
    c.call.ensures.outcome

pub condition_object-returns-in_ok-copy-in-None-clause-outcome : goal.condition_object-returns-in_ok-copy-in-None-clause-outcome
condition_object-returns-in_ok-copy-in-None-clause-outcome t c =
    condition_plain (again c.args.set.now) (scene_data c.args.set.now.scene) (levels c.args.set.now) (levels c.in_ok-set.field-0) c.args.sum.now c.in_ok-set.ensures.less c.args.given.now
    (c.in-None.ensures ∙ ap (named_in condition_function_of) c.as_slice.ensures.members)
    ∙ ap (λ (l : Members). Gives (fields l) c.args.sum.now) (sym c.in_ok-copy-in-None.ensures)

-- ---- levels

pub replaced_value-returns-in_err-repeated-clause-outcome : goal.replaced_value-returns-in_err-repeated-clause-outcome
replaced_value-returns-in_err-repeated-clause-outcome t c =
    let p = err_from_is_err_and c.from_residual.result c.from_residual.ensures.1 in
    rw (p.1, p.2, c.in_err-repeated.ensures.err.0) (c.in_err-repeated.ensures.err.1 _ _)

-- ---- the names that are looked up

pub values-returns-in_err-at_place-clause-looks : goal.values-returns-in_err-at_place-clause-looks
values-returns-in_err-at_place-clause-looks t c =
    let p = err_from_is_err_and c.from_residual.result c.from_residual.ensures.1 in
    rw (p.1, p.2) (list_reads_stop (value_outcome (again c.args.set.now) (scene_data c.args.set.now.scene) (levels c.args.set.now)) (value_looks c.args.set.now) (values_looks c.args.set.now) (λ d ns n. refl)
    _ _ c.args.given.now c.loop-place.place _ (λ p. Index c.loop-place.place ∷ p) c.loop-place.sum _ _ _ c.loop-place.invariant.1 c.loop-place-test.true c.index-given-place.is
    (c.in_err-at_place.ensures _ _ c.value.ensures.outcome)
    (noted_through c.value.result (Err _) (λ p. Index c.loop-place.place ∷ p) _ _ _ c.in_err-at_place.ensures c.value.ensures.looks))

pub values-returns-clause-looks : goal.values-returns-clause-looks
values-returns-clause-looks t c =
    way_ends _ _ _ _ c.loop-place.invariant.1
    (ap (λ (ns : Nodes). values_looks c.args.set.now ns c.loop-place.sum) (nodes_end c.args.given.now c.loop-place.place c.loop-place-test.false))

pub conditions-returns-in_err-at_place-clause-looks : goal.conditions-returns-in_err-at_place-clause-looks
conditions-returns-in_err-at_place-clause-looks t c =
    let p = err_from_is_err_and c.from_residual.result c.from_residual.ensures.1 in
    rw (p.1, p.2) (list_reads_stop (condition_outcome (again c.args.set.now) (scene_data c.args.set.now.scene) (levels c.args.set.now)) (condition_looks c.args.set.now) (conditions_looks c.args.set.now) (λ d ns n. refl)
    _ _ c.args.given.now c.loop-place.place _ (λ p. Index c.loop-place.place ∷ p) c.loop-place.sum _ _ _ c.loop-place.invariant.1 c.loop-place-test.true c.index-given-place.is
    (c.in_err-at_place.ensures _ _ c.condition.ensures.outcome)
    (noted_through c.condition.result (Err _) (λ p. Index c.loop-place.place ∷ p) _ _ _ c.in_err-at_place.ensures c.condition.ensures.looks))

pub conditions-returns-clause-looks : goal.conditions-returns-clause-looks
conditions-returns-clause-looks t c =
    way_ends _ _ _ _ c.loop-place.invariant.1
    (ap (λ (ns : Nodes). conditions_looks c.args.set.now ns c.loop-place.sum) (nodes_end c.args.given.now c.loop-place.place c.loop-place-test.false))

pub members-returns-in_err-made-clause-looks : goal.members-returns-in_err-made-clause-looks
members-returns-in_err-made-clause-looks t c =
    let p = err_from_is_err_and c.from_residual.result c.from_residual.ensures.1 in
    rw (p.1, p.2) (noted_to _ _ _ _ _ (ap (λ (ms : Members). members_looks c.args.set.now ms c.args.sum.now) (sym c.as_slice-member-items.ensures.members))
    (map_reads_stop (λ k d n. under (Key k) (value_outcome (again c.args.set.now) (scene_data c.args.set.now.scene) (levels c.args.set.now) d n)) (λ k d n. value_looks c.args.set.now d n) (members_looks c.args.set.now)
    (members_more (again c.args.set.now) (reads_again c.args.set.now) (scene_data c.args.set.now.scene) (levels c.args.set.now)) _ _ c.as_slice-member-items.result.now c.loop-member.member-index _ c.loop-member.sum _ _ _ c.loop-member.invariant.1 c.loop-member-test.true c.member-item.is
    (c.in_err-made.ensures _ _ c.value.ensures.outcome)
    (noted_through c.value.result (Err _) (λ p. Key c.member-item.result.key ∷ p) _ _ _ c.in_err-made.ensures c.value.ensures.looks)))

pub members-returns-clause-looks : goal.members-returns-clause-looks
members-returns-clause-looks t c =
    way_ends _ _ _ _ c.loop-member.invariant.1
    (ap (λ (ms : Members). members_looks c.args.set.now ms c.loop-member.sum) (members_end c.as_slice-member-items.result.now c.loop-member.member-index c.loop-member-test.false))
    ∙ ap (λ (ms : Members). noted (members_looks c.args.set.now ms c.args.sum.now) c.args.looked.now) c.as_slice-member-items.ensures.members

pub all_but-returns-in_err-made-clause-looks : goal.all_but-returns-in_err-made-clause-looks
all_but-returns-in_err-made-clause-looks t c =
    let p = err_from_is_err_and c.from_residual.result c.from_residual.ensures.1 in
    rw (p.1, p.2) (noted_to _ _ _ _ _ (ap (λ (ms : Members). all_but_looks c.args.set.now c.args.but.now ms c.args.sum.now) (sym c.as_slice-member-items.ensures.members))
    (map_reads_stop (outcome_unless (again c.args.set.now) (scene_data c.args.set.now.scene) (levels c.args.set.now) c.args.but.now) (looks_unless c.args.set.now c.args.but.now) (all_but_looks c.args.set.now c.args.but.now)
    (unless_more (again c.args.set.now) (reads_again c.args.set.now) (scene_data c.args.set.now.scene) (levels c.args.set.now) c.args.but.now) _ _ c.as_slice-member-items.result.now c.loop-member.member-index _ c.loop-member.sum _ _ _ c.loop-member.invariant.1 c.loop-member-test.true c.member-item.is
    c.in_err-made.ensures.outcome c.in_err-made.ensures.looks))

pub all_but-returns-clause-looks : goal.all_but-returns-clause-looks
all_but-returns-clause-looks t c =
    way_ends _ _ _ _ c.loop-member.invariant.1
    (ap (λ (ms : Members). all_but_looks c.args.set.now c.args.but.now ms c.loop-member.sum) (members_end c.as_slice-member-items.result.now c.loop-member.member-index c.loop-member-test.false))
    ∙ ap (λ (ms : Members). noted (all_but_looks c.args.set.now c.args.but.now ms c.args.sum.now) c.args.looked.now) c.as_slice-member-items.ensures.members

pub branch_value-returns-in_ok-at_place-in-Branch-clause-looks : goal.branch_value-returns-in_ok-at_place-in-Branch-clause-looks
branch_value-returns-in_ok-at_place-in-Branch-clause-looks t c flag branches picked =
    noted_through c.value.result (Ok c.in_ok-at_place-in-Branch.field-0) (λ p. Index c.in-Branch.place ∷ p) _ _ _ c.in_ok-at_place-in-Branch.ensures c.value.ensures.looks
    ∙ ap (λ (x : Looks). noted x c.args.looked.now)
    (sym (picked (again c.args.set.now) (reads_again c.args.set.now) (scene_data c.args.set.now.scene) (levels c.args.set.now) c.args.sum.now
    ∙ ap (λ (p : Picked). picked_reads (again c.args.set.now) (reads_again c.args.set.now) (scene_data c.args.set.now.scene) (levels c.args.set.now) p c.args.sum.now) c.in-Branch.is))

pub branch_value-returns-in_err-at_place-in-Branch-clause-looks : goal.branch_value-returns-in_err-at_place-in-Branch-clause-looks
branch_value-returns-in_err-at_place-in-Branch-clause-looks t c flag branches picked =
    let p = err_from_is_err_and c.from_residual.result c.from_residual.ensures.1 in
    rw (p.1, p.2) (noted_to _ _ _ _ _
    (picked (again c.args.set.now) (reads_again c.args.set.now) (scene_data c.args.set.now.scene) (levels c.args.set.now) c.args.sum.now
    ∙ ap (λ (p : Picked). picked_reads (again c.args.set.now) (reads_again c.args.set.now) (scene_data c.args.set.now.scene) (levels c.args.set.now) p c.args.sum.now) c.in-Branch.is)
    (noted_through c.value.result (Err _) (λ p. Index c.in-Branch.place ∷ p) _ _ _ c.in_err-at_place-in-Branch.ensures c.value.ensures.looks))

pub object-returns-in-Some-clause-looks : goal.object-returns-in-Some-clause-looks
object-returns-in-Some-clause-looks t c =
    noted_as c.call.result c.args.looked.now c.call.new.looked _ _
    (calls_inside c.args.set.now c.in_ok-set.field-0 c.in_ok-set.ensures.scene c.in_ok-set.ensures.again c.in_ok-set.ensures.reads c.in_ok-set.ensures.less c.args.sum.now c.args.given.now
    c.in-Some.member.now.key (data_of c.in-Some.member.now.value) c.in-Some.function _
    (c.in-Some.ensures ∙ ap (named_in function_of) c.as_slice.ensures.members) c.is_formed.ensures)
    c.call.ensures.looks

pub object-returns-in_ok-members-in-None-clause-looks : goal.object-returns-in_ok-members-in-None-clause-looks
object-returns-in_ok-members-in-None-clause-looks t c =
    c.in_ok-members-in-None.ensures.looks
    ∙ ap (λ (x : Looks). noted x c.args.looked.now)
    (sym (members_inside c.args.set.now c.in_ok-set.field-0 c.in_ok-set.ensures.scene c.in_ok-set.ensures.again c.in_ok-set.ensures.reads c.in_ok-set.ensures.less c.args.sum.now c.args.given.now
    (c.in-None.ensures ∙ ap (named_in function_of) c.as_slice.ensures.members)))

pub object-returns-in_err-members-in-None-clause-looks : goal.object-returns-in_err-members-in-None-clause-looks
object-returns-in_err-members-in-None-clause-looks t c =
    let p = err_from_is_err_and c.from_residual-in_err-members-in-None.result
    c.from_residual-in_err-members-in-None.ensures.1 in
    rw (p.1, p.2) (noted_to _ _ _ _ _
    (members_inside c.args.set.now c.in_ok-set.field-0 c.in_ok-set.ensures.scene c.in_ok-set.ensures.again c.in_ok-set.ensures.reads c.in_ok-set.ensures.less c.args.sum.now c.args.given.now
    (c.in-None.ensures ∙ ap (named_in function_of) c.as_slice.ensures.members))
    c.in_err-members-in-None.ensures.looks)

pub condition_object-returns-in-Some-clause-looks : goal.condition_object-returns-in-Some-clause-looks
condition_object-returns-in-Some-clause-looks t c =
    noted_as c.call.result c.args.looked.now c.call.new.looked _ _
    (condition_calls_inside c.args.set.now c.in_ok-set.field-0 c.in_ok-set.ensures.scene c.in_ok-set.ensures.again c.in_ok-set.ensures.reads c.in_ok-set.ensures.less c.args.sum.now c.args.given.now
    c.in-Some.member.now.key (data_of c.in-Some.member.now.value) c.in-Some.function _
    (c.in-Some.ensures ∙ ap (named_in condition_function_of) c.as_slice.ensures.members) c.is_condition_formed.ensures)
    c.call.ensures.looks

pub call-returns-in_err-made-clause-looks : goal.call-returns-in_err-made-clause-looks
call-returns-in_err-made-clause-looks t c =
    let p = err_from_is_err_and c.from_residual.result c.from_residual.ensures.1 in
    rw (p.1, p.2) (call_looks_fault (inside_again c.args.set.now) (reads_inside_again c.args.set.now) c.args.function
    (sole_of (again c.args.set.now) (scene_data c.args.set.now.scene) (levels c.args.set.now) c.args.member.now.key (data_of c.args.member.now.value))
    (sole_looks c.args.set.now (data_of c.args.member.now.value)) c.args.sum.now c.args.looked.now _ c.args.formed _ c.if-not-formed.false
    (c.in_err-made.ensures _ _ (rw c.manner.ensures at c.argument.ensures.outcome))
    (noted_through c.argument.result (Err _) (λ p. Key c.args.member.now.key ∷ p) _ _ _ c.in_err-made.ensures (rw c.manner.ensures at c.argument.ensures.looks)))

pub call-returns-in_err-charge-clause-looks : goal.call-returns-in_err-charge-clause-looks
call-returns-in_err-charge-clause-looks t c =
    let p = err_from_is_err_and c.from_residual-in_err-charge.result c.from_residual-in_err-charge.ensures.1 in
    rw (p.1, p.2) (call_looks_charge (inside_again c.args.set.now) (reads_inside_again c.args.set.now) c.args.function
    (sole_of (again c.args.set.now) (scene_data c.args.set.now.scene) (levels c.args.set.now) c.args.member.now.key (data_of c.args.member.now.value))
    (sole_looks c.args.set.now (data_of c.args.member.now.value)) c.args.sum.now c.args.looked.now _ c.args.formed (data_of c.in_ok-made.made) _ _ c.if-not-formed.false
    (c.in_ok-made.ensures _ _ (rw c.manner.ensures at c.argument.ensures.outcome))
    (noted_through c.argument.result (Ok c.in_ok-made.made) (λ p. Key c.args.member.now.key ∷ p) _ _ _ c.in_ok-made.ensures (rw c.manner.ensures at c.argument.ensures.looks))
    c.in_err-charge.ensures)

pub call-returns-clause-looks : goal.call-returns-clause-looks
call-returns-clause-looks t c =
    call_looks_gives (inside_again c.args.set.now) (reads_inside_again c.args.set.now) c.args.function
    (sole_of (again c.args.set.now) (scene_data c.args.set.now.scene) (levels c.args.set.now) c.args.member.now.key (data_of c.args.member.now.value))
    (sole_looks c.args.set.now (data_of c.args.member.now.value)) c.args.sum.now c.args.looked.now c.answer_of.result c.args.formed (data_of c.in_ok-made.made) _ _ _ _ c.if-not-formed.false
    (c.in_ok-made.ensures _ _ (rw c.manner.ensures at c.argument.ensures.outcome))
    (noted_through c.argument.result (Ok c.in_ok-made.made) (λ p. Key c.args.member.now.key ∷ p) _ _ _ c.in_ok-made.ensures (rw c.manner.ensures at c.argument.ensures.looks))
    c.in_ok-charge.ensures c.answer_of.ensures.looks

pub choice_values-returns-in_err-choice_value-clause-looks : goal.choice_values-returns-in_err-choice_value-clause-looks
choice_values-returns-in_err-choice_value-clause-looks t c =
    let p = err_from_is_err_and c.from_residual-in_err-choice_value.result
    c.from_residual-in_err-choice_value.ensures.1 in
    rw (p.1, p.2) (turn_reads_stop (inside_again c.args.set.now) (reads_inside_again c.args.set.now) (data_of c.args.repetition.now.template.now)
    (choices_reads (inside_again c.args.set.now) (reads_inside_again c.args.set.now) (data_of c.args.repetition.now.template.now)
    (choices (lists_of c.args.repetition.now.lists.items)) c.args.sum.now) (lists_of c.as_slice-lists.result.now) c.loop-choice.places.items (choice_of c.loop-choice.choice) c.loop-choice.invariant.2.choice
    _ c.loop-choice.sum _ _ _ c.loop-choice.invariant.1 c.loop-choice.invariant.3 c.in_err-choice_value.ensures.outcome c.in_err-choice_value.ensures.looks)

pub choice_value-returns-clause-looks : goal.choice_value-returns-clause-looks
choice_value-returns-clause-looks t c =
    noted_as c.in_template.result _ _ _ _ (behind_gives _ (reads_inside_again c.args.set.now) _ _ c.in_ok-replaced.ensures.outcome)
    (noted_through c.replaced_value-made.result c.in_template.result
    (in_repeat (choice_of c.args.choice.now) (data_of c.args.template.now)) _ _ _ c.in_template.ensures c.replaced_value-made.ensures.looks)

pub replaced_value-returns-in_err-repeated-clause-looks : goal.replaced_value-returns-in_err-repeated-clause-looks
replaced_value-returns-in_err-repeated-clause-looks t c =
    let p = err_from_is_err_and c.from_residual.result c.from_residual.ensures.1 in
    rw (p.1, p.2) (none_noted_to _ _ _ _ (c.in_err-repeated.ensures.err.2 _ _) refl)

pub chosen-returns-in_err-made-in-len1-up-clause-looks : goal.chosen-returns-in_err-made-in-len1-up-clause-looks
chosen-returns-in_err-made-in-len1-up-clause-looks t c =
    let p = err_from_is_err_and c.from_residual.result c.from_residual.ensures.1 in
    rw (p.1, p.2) (noted_to _ _ _ _ _
    (chosen_at (again c.args.set.now) (reads_again c.args.set.now) (scene_data c.args.set.now.scene) (levels c.args.set.now) c.args.sum.now c.args.given.now c.first-item.result c.in-len1-up.len_at_least c.first-item.is)
    (under_stop _ (Index 0) (condition_outcome (again c.args.set.now) (scene_data c.args.set.now.scene) (levels c.args.set.now) (data_of c.first-item.result) c.args.sum.now)
    _ _ _ _ (c.in_err-made-in-len1-up.ensures _ _ c.condition.ensures.outcome)
    (noted_through c.condition.result (Err _) (λ p. Index 0 ∷ p) _ _ _ c.in_err-made-in-len1-up.ensures c.condition.ensures.looks)))

pub chosen-returns-in_err-chosen-in-len1-up-clause-looks : goal.chosen-returns-in_err-chosen-in-len1-up-clause-looks
chosen-returns-in_err-chosen-in-len1-up-clause-looks t c =
    let p = err_from_is_err_and c.from_residual-in_err-chosen-in-len1-up.result
    c.from_residual-in_err-chosen-in-len1-up.ensures.1 in
    rw (p.1, p.2) (noted_to _ _ _ _ _
    (chosen_at (again c.args.set.now) (reads_again c.args.set.now) (scene_data c.args.set.now.scene) (levels c.args.set.now) c.args.sum.now c.args.given.now c.first-item.result c.in-len1-up.len_at_least c.first-item.is)
    (under_to _ (Index 0) (condition_outcome (again c.args.set.now) (scene_data c.args.set.now.scene) (levels c.args.set.now) (data_of c.first-item.result) c.args.sum.now)
    _ (data_of c.in_ok-made-in-len1-up.made) _ _ _ _ _ (c.in_ok-made-in-len1-up.ensures _ _ c.condition.ensures.outcome)
    (noted_through c.condition.result (Ok c.in_ok-made-in-len1-up.made) (λ p. Index 0 ∷ p) _ _ _ c.in_ok-made-in-len1-up.ensures c.condition.ensures.looks)
    (rw c.flag_in.ensures at (c.in_err-chosen-in-len1-up.ensures.looks c.flag_in.result _ c.pick.ensures.looks))))

pub chosen-returns-in_ok-condition_and-in-len1-up-clause-looks : goal.chosen-returns-in_ok-condition_and-in-len1-up-clause-looks
chosen-returns-in_ok-condition_and-in-len1-up-clause-looks t c =
    noted_as {V = Data} (Ok (data_of c.in_ok-made-in-len1-up.made)) _ _ _ _
    (chosen_at (again c.args.set.now) (reads_again c.args.set.now) (scene_data c.args.set.now.scene) (levels c.args.set.now) c.args.sum.now c.args.given.now c.first-item.result c.in-len1-up.len_at_least c.first-item.is)
    (under_on {V = Data} (Ok (data_of c.in_ok-made-in-len1-up.made)) (Index 0) (condition_outcome (again c.args.set.now) (scene_data c.args.set.now.scene) (levels c.args.set.now) (data_of c.first-item.result) c.args.sum.now)
    _ (data_of c.in_ok-made-in-len1-up.made) _ _ _ _ _ (c.in_ok-made-in-len1-up.ensures _ _ c.condition.ensures.outcome)
    (noted_through c.condition.result (Ok c.in_ok-made-in-len1-up.made) (λ p. Index 0 ∷ p) _ _ _ c.in_ok-made-in-len1-up.ensures c.condition.ensures.looks)
    (rw c.flag_in.ensures at (c.in_ok-chosen-in-len1-up.ensures.looks c.flag_in.result _ c.pick.ensures.looks)))

pub chosen-returns-in-empty-clause-looks : goal.chosen-returns-in-empty-clause-looks
chosen-returns-in-empty-clause-looks t c =
    sym (ap (λ (x : Looks). noted x c.args.looked.now)
    (chosen_none (again c.args.set.now) (reads_again c.args.set.now) (scene_data c.args.set.now.scene) (levels c.args.set.now) c.args.sum.now c.args.given.now c.in-empty.len_below)
    ∙ noted-none c.args.looked.now)

pub unless_key-returns-clause-looks : goal.unless_key-returns-clause-looks
unless_key-returns-clause-looks t c =
    let other : bytes_eq c.args.member.now.key c.args.but.now ≡ false = search rules in
    noted_as c.at_key.result _ _ _ _
    (unless_other c.args.set.now c.args.but.now c.args.member.now.key (data_of c.args.member.now.value) c.args.sum.now other)
    (noted_through c.value.result c.at_key.result (λ p. Key c.args.member.now.key ∷ p) _ _ _ c.at_key.ensures c.value.ensures.looks)
