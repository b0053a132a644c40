use Rattle.std.proofs.Common.{◌≡◌, ◌≤◌, ◌++◌, drop}
use Rattle.heat_value.specs.Meaning.{data_of}
use Rattle.eval_words.specs.Fillings.{filled_size, literal_path}
use Rattle.eval_words.specs.Outcomes.{cost_limit}
use Rattle.hot_eval.specs.Repeats.{choice_of}
use Rattle.hot_eval.proofs.fillings.literal.literal_path.Given as goal

-- the path so far, and the rest from where the walk stands, which takes no more than the whole
abbrev pub invariant-loop-step : goal.invariant-loop-step
invariant-loop-step l =
    (l.path ++ literal_path (choice_of l.choice) (data_of l.at) (drop l.step-index l.steps)
    ≡ literal_path (choice_of l.choice) (data_of l.template) l.steps)
    × (filled_size (choice_of l.choice) (data_of l.at) ≤ cost_limit)
