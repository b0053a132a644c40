use Rattle.std.proofs.Common.{◌≡◌, drop, map, option_map}
use Rattle.heat_value.specs.Meaning.{nodes_of}
use Rattle.eval_words.specs.Lists.{both_lists, concatenated}
use Rattle.hot_eval.proofs.lists.concatenated.Given as goal

-- the items so far and those of the lists left are all
abbrev pub invariant-loop-list : goal.invariant-loop-list
invariant-loop-list l =
    option_map (both_lists (nodes_of (map (λ v. v.now) l.all.items))) (concatenated (nodes_of (drop l.list-index l.lists)))
    ≡ concatenated (nodes_of l.lists)
