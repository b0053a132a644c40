use Rattle.std.proofs.Common.{◌≡◌, ◌++◌, drop}
use Rattle.eval_words.specs.Texts.{texts_of}
use Rattle.hot_eval.proofs.Places.{behind}
use Rattle.hot_eval.proofs.texts.texts_of.Given as goal

-- the texts so far and those of the values left are all
abbrev pub invariant-loop-item : goal.invariant-loop-item
invariant-loop-item l = l.texts.items ++ texts_of (behind (drop l.item-index l.items)) ≡ texts_of (behind l.items)
