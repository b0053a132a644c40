use Rattle.heat_value.specs.Meaning.{members_of}
use Rattle.eval_words.specs.Conditions.{values_of}
use Rattle.hot_admit.proofs.Found.{AreValuesTo}
use Rattle.hot_admit.proofs.condition_values.values_in.Given as goal

-- the values so far are the first of all, and each condition has one
abbrev pub invariant-loop-place : goal.invariant-loop-place
invariant-loop-place l =
    AreValuesTo l.params (values_of l.params (members_of l.conds)) l.conds l.place l.known
