use Rattle.std.proofs.Common.{take, map}
use Rattle.eval_words.specs.Needs.{AreResNamesOf}
use Rattle.hot_eval.proofs.needs.needs_among.Given as goal

-- those of the names so far
abbrev pub invariant-loop-name : goal.invariant-loop-name
invariant-loop-name l = AreResNamesOf (map (λ t. t.now) (take l.name-index l.named)) l.names.keys
