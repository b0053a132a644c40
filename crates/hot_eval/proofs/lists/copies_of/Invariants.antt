use Rattle.std.proofs.Common.{◌≡◌, map, drop}
use Rattle.heat_value.specs.Meaning.{nodes_of}
use Rattle.eval_words.specs.Lists.{both_lists}
use Rattle.hot_eval.proofs.lists.copies_of.Given as goal

-- those so far and those left are all
abbrev pub invariant-loop-value : goal.invariant-loop-value
invariant-loop-value l =
    both_lists l.items (nodes_of (map (λ v. v.now) (drop l.value-index l.values)))
    ≡ nodes_of (map (λ v. v.now) l.values)
