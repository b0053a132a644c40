use Rattle.std.proofs.Common.{◌≡◌, ◌++◌, drop}
use Rattle.hot_strings.specs.Joined.{joined}
use Rattle.hot_strings.proofs.Joins.{joined_on}
use Rattle.hot_strings.proofs.joining.join.Given as goal

-- the draft and what is left to join
abbrev pub invariant-loop-item : goal.invariant-loop-item
invariant-loop-item l =
    (l.draft.limit ≡ 1048576) × (l.draft.text ++ joined_on l.delimiter (drop l.item-index l.others) ≡ joined l.delimiter l.items)
