use Rattle.std.proofs.Common.{◌≡◌, map, drop}
use Rattle.heat_value.specs.Data.{no_nodes}
use Rattle.heat_value.specs.Meaning.{nodes_of}
use Rattle.eval_words.specs.Lists.{both_lists, new_ones}
use Rattle.hot_eval.specs.Seen.{HoldsAll}
use Rattle.hot_eval.proofs.lists.new_ones.Given as goal

-- those so far, and the new ones of those left, are all new ones; and those so far were seen
abbrev pub invariant-loop-value : goal.invariant-loop-value
invariant-loop-value l =
    (both_lists l.items (new_ones l.items (nodes_of (map (λ v. v.now) (drop l.value-index l.values))))
    ≡ new_ones no_nodes (nodes_of (map (λ v. v.now) l.values)))
    × HoldsAll l.seen l.items
