use Rattle.std.proofs.Common.{◌≡◌, ◌++◌, drop, string_bytes}
use Rattle.heat_value.specs.Path.{path_text, steps_text}
use Rattle.heat_value.proofs.path.Path.text.Given as goal

-- what is written and the text of the steps that are left
abbrev pub invariant-loop-step : goal.invariant-loop-step
invariant-loop-step l = string_bytes l.out ++ steps_text l.later (drop l.step-index l.step-items) ≡ path_text l.step-items
