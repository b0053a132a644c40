use Rattle.std.proofs.Common.{◌≡◌, ◌≤◌, drop}
use Rattle.heat_value.specs.Meaning.{members_of}
use Rattle.eval_words.specs.Fillings.{member_becoming, members_size}
use Rattle.eval_words.specs.Outcomes.{cost_limit}
use Rattle.hot_eval.specs.Repeats.{choice_of}
use Rattle.hot_eval.proofs.fillings.literal.member_becoming.Given as goal

-- what is left decides, and takes no more than was left
abbrev pub invariant-loop-member : goal.invariant-loop-member
invariant-loop-member l =
    (member_becoming (choice_of l.choice) l.key (members_of l.members)
    ≡ member_becoming (choice_of l.choice) l.key (members_of (drop l.member-index l.members)))
    × (members_size (choice_of l.choice) (members_of (drop l.member-index l.members)) ≤ cost_limit)
