use Rattle.std.proofs.Common.{◌≡◌, drop}
use Rattle.heat_value.specs.Meaning.{data_of, nodes_of}
use Rattle.eval_words.specs.Lookups.{walked}
use Rattle.hot_groups.proofs.paths.walked.Given as goal

-- the rest of the path leads on from where the walk stands
abbrev pub invariant-loop-step : goal.invariant-loop-step
invariant-loop-step l =
    walked (nodes_of (drop l.step-index l.path)) (data_of l.at) ≡ walked (nodes_of l.path) (data_of l.value)
