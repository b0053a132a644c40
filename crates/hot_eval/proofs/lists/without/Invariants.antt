use Rattle.std.proofs.Common.{◌≡◌, drop}
use Rattle.heat_value.specs.Meaning.{nodes_of}
use Rattle.eval_words.specs.Lists.{both_lists, without}
use Rattle.hot_eval.proofs.lists.without.Given as goal

-- those so far, and what stays of those left, are what stays of all
abbrev pub invariant-loop-item : goal.invariant-loop-item
invariant-loop-item l =
    both_lists l.items (without (nodes_of l.out) (nodes_of (drop l.item-index l.from)))
    ≡ without (nodes_of l.out) (nodes_of l.from)
