use Rattle.std.proofs.Common.{◌≡◌, ◌++◌, drop}
use Rattle.heat_value.specs.Meaning.{nodes_of}
use Rattle.hot_eval.specs.Repeats.{item_texts}
use Rattle.hot_eval.proofs.stock.Stock.of.Given as goal

-- the texts so far and those of the items left are all
abbrev pub invariant-loop-item : goal.invariant-loop-item
invariant-loop-item l = l.all.items ++ item_texts (nodes_of (drop l.item-index l.items)) ≡ item_texts (nodes_of l.items)
