use Rattle.std.proofs.Common.{◌≡◌, drop}
use Rattle.heat_value.specs.Meaning.{data_of, nodes_of}
use Rattle.eval_words.specs.Sameness.{has}
use Rattle.hot_eval.proofs.lists.has.Given as goal

-- what is left decides
abbrev pub invariant-loop-item : goal.invariant-loop-item
invariant-loop-item l =
    has (data_of l.value) (nodes_of l.items) ≡ has (data_of l.value) (nodes_of (drop l.item-index l.items))
