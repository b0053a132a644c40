use Rattle.std.proofs.Common.{◌≡◌, take}
use Rattle.hot_eval.specs.Repeats.{lists_of, stocks_for}
use Rattle.hot_eval.proofs.walk.stocks_of.Given as goal

-- those so far
abbrev pub invariant-loop-list : goal.invariant-loop-list
invariant-loop-list l = l.stocks.items ≡ stocks_for (lists_of (take l.list-index l.lists))
