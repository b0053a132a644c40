use Rattle.heat_value.specs.Meaning.{members_of}
use Rattle.eval_words.specs.Conditions.{valued_after}
use Rattle.eval_words.specs.SoFar.{named_values}
use Rattle.hot_admit.specs.Valuing.{AreFound, IsWithin}
use Rattle.hot_admit.proofs.condition_values.evaluated.Given as goal

-- what so many rounds give is known
abbrev pub invariant-loop-round : goal.invariant-loop-round
invariant-loop-round l =
    AreFound l.params (members_of l.conds) l.values.items
    × IsWithin (valued_after l._round l.params (members_of l.conds)) (named_values (members_of l.conds) l.values.items)
