use Rattle.std.proofs.Common.{◌≡◌, ◌++◌, drop}
use Rattle.heat_value.specs.Meaning.{members_of}
use Rattle.eval_words.specs.Texts.{params_of}
use Rattle.hot_eval.proofs.texts.params_of.Given as goal

-- those so far and those of the members left are all
abbrev pub invariant-loop-member : goal.invariant-loop-member
invariant-loop-member l =
    l.params.items ++ params_of (members_of (drop l.member-index l.members)) ≡ params_of (members_of l.members)
