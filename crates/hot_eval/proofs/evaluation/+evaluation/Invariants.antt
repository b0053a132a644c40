use Rattle.std.proofs.Common.{◌+◌, ◌*◌, length, drop}
use Rattle.heat_value.specs.Meaning.{data_of, nodes_of, members_of}
use Rattle.hot_eval.specs.Answers.{again, inside_again, levels}
use Rattle.eval_words.specs.Choices.{choices}
use Rattle.eval_words.specs.Evaluation.{values_outcome, members_outcome, all_but_outcome, conditions_outcome}
use Rattle.eval_words.specs.Evaluation.{choices_outcome}
use Rattle.hot_eval.specs.Repeats.{lists_of, ArePlaces, choices_from, IsChoiceAt}
use Rattle.eval_words.specs.Scenes.{scene_data}
use Rattle.eval_words.specs.Looks.{choices_reads}
use Rattle.hot_eval.specs.Noted.{reads_inside_again, values_looks, conditions_looks, members_looks, all_but_looks}
use Rattle.hot_eval.proofs.Noting.{IsReadWay}
use Rattle.hot_eval.proofs.Steps.{IsListWay, IsMapWay, IsChoiceWay}
use Rattle.hot_eval.proofs.evaluation.+evaluation.Given as goal

-- ---- what was made so far is in front of what is left

abbrev pub invariant-values-loop-place : goal.invariant-values-loop-place
invariant-values-loop-place l =
    IsListWay (values_outcome (again l.set) (scene_data l.set.scene) (levels l.set))
    (values_outcome (again l.set) (scene_data l.set.scene) (levels l.set) 0 (nodes_of l.given) l.fn.sum) l.items l.place l.given l.sum
    × IsReadWay (values_looks l.set (nodes_of l.given) l.fn.sum) (values_looks l.set (nodes_of (drop l.place l.given)) l.sum)
    l.fn.looked l.looked

abbrev pub invariant-conditions-loop-place : goal.invariant-conditions-loop-place
invariant-conditions-loop-place l =
    IsListWay (conditions_outcome (again l.set) (scene_data l.set.scene) (levels l.set))
    (conditions_outcome (again l.set) (scene_data l.set.scene) (levels l.set) 0 (nodes_of l.given) l.fn.sum) l.items l.place l.given
    l.sum
    × IsReadWay (conditions_looks l.set (nodes_of l.given) l.fn.sum) (conditions_looks l.set (nodes_of (drop l.place l.given)) l.sum)
    l.fn.looked l.looked

abbrev pub invariant-members-loop-member : goal.invariant-members-loop-member
invariant-members-loop-member l =
    IsMapWay (members_outcome (again l.set) (scene_data l.set.scene) (levels l.set))
    (members_outcome (again l.set) (scene_data l.set.scene) (levels l.set) (members_of l.member-items) l.fn.sum) l.fields
    (members_of l.member-items) l.member-index l.member-items l.sum
    × IsReadWay (members_looks l.set (members_of l.member-items) l.fn.sum)
    (members_looks l.set (members_of (drop l.member-index l.member-items)) l.sum) l.fn.looked l.looked

abbrev pub invariant-all_but-loop-member : goal.invariant-all_but-loop-member
invariant-all_but-loop-member l =
    IsMapWay (all_but_outcome (again l.set) (scene_data l.set.scene) (levels l.set) l.but)
    (all_but_outcome (again l.set) (scene_data l.set.scene) (levels l.set) l.but (members_of l.member-items) l.fn.sum) l.fields
    (members_of l.member-items) l.member-index l.member-items l.sum
    × IsReadWay (all_but_looks l.set l.but (members_of l.member-items) l.fn.sum)
    (all_but_looks l.set l.but (members_of (drop l.member-index l.member-items)) l.sum) l.fn.looked l.looked

abbrev pub invariant-choice_values-loop-choice : goal.invariant-choice_values-loop-choice
invariant-choice_values-loop-choice l =
    IsChoiceWay (inside_again l.set) (data_of l.repetition.template.now)
    (choices_outcome (inside_again l.set) (data_of l.repetition.template.now) (choices (lists_of l.repetition.lists.items))
    l.fn.sum) l.items (choices_from (lists_of l.lists) l.places.items) l.sum
    × ArePlaces (lists_of l.lists) l.places.items
    × IsChoiceAt (lists_of l.lists) l.places.items l.stocks.items l.choice
    × IsReadWay (choices_reads (inside_again l.set) (reads_inside_again l.set) (data_of l.repetition.template.now)
    (choices (lists_of l.repetition.lists.items)) l.fn.sum)
    (choices_reads (inside_again l.set) (reads_inside_again l.set) (data_of l.repetition.template.now)
    (choices_from (lists_of l.lists) l.places.items) l.sum) l.fn.looked l.looked

abbrev pub decreases-choice_values-loop-choice : goal.decreases-choice_values-loop-choice
decreases-choice_values-loop-choice l = length (choices_from (lists_of l.lists) l.places.items)

-- ---- the depth that is left, and then the order of calls at one depth

abbrev pub decreases-call : goal.decreases-call
decreases-call l = l.set.now.depth.levels * 16 + 9

abbrev pub decreases-argument : goal.decreases-argument
decreases-argument l = l.set.now.depth.levels * 16 + 8

abbrev pub decreases-answer_of : goal.decreases-answer_of
decreases-answer_of l = l.set.now.depth.levels * 16 + 8

abbrev pub decreases-values : goal.decreases-values
decreases-values l = l.set.now.depth.levels * 16 + 7

abbrev pub decreases-members : goal.decreases-members
decreases-members l = l.set.now.depth.levels * 16 + 7

abbrev pub decreases-all_but : goal.decreases-all_but
decreases-all_but l = l.set.now.depth.levels * 16 + 7

abbrev pub decreases-chosen : goal.decreases-chosen
decreases-chosen l = l.set.now.depth.levels * 16 + 7

abbrev pub decreases-conditions : goal.decreases-conditions
decreases-conditions l = l.set.now.depth.levels * 16 + 7

abbrev pub decreases-repeated : goal.decreases-repeated
decreases-repeated l = l.set.now.depth.levels * 16 + 7

abbrev pub decreases-unless_key : goal.decreases-unless_key
decreases-unless_key l = l.set.now.depth.levels * 16 + 6

abbrev pub decreases-branch_value : goal.decreases-branch_value
decreases-branch_value l = l.set.now.depth.levels * 16 + 6

abbrev pub decreases-choice_values : goal.decreases-choice_values
decreases-choice_values l = l.set.now.depth.levels * 16 + 6

abbrev pub decreases-choice_value : goal.decreases-choice_value
decreases-choice_value l = l.set.now.depth.levels * 16 + 5

abbrev pub decreases-value : goal.decreases-value
decreases-value l = l.set.now.depth.levels * 16 + 5

abbrev pub decreases-condition : goal.decreases-condition
decreases-condition l = l.set.now.depth.levels * 16 + 5

abbrev pub decreases-object : goal.decreases-object
decreases-object l = l.set.now.depth.levels * 16 + 4

abbrev pub decreases-condition_object : goal.decreases-condition_object
decreases-condition_object l = l.set.now.depth.levels * 16 + 4

abbrev pub decreases-replaced_value : goal.decreases-replaced_value
decreases-replaced_value l = l.set.now.depth.levels * 16 + 4
