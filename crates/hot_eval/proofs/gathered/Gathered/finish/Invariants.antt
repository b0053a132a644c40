use Rattle.std.proofs.Common.{◌≡◌}
use Rattle.hot_eval.specs.Gathered.{members_in}
use Rattle.hot_eval.proofs.Steps.{in_front}
use Rattle.hot_eval.proofs.gathered.Gathered.finish.Given as goal

-- what was put, and behind it what is left, are all
abbrev pub invariant-loop-key : goal.invariant-loop-key
invariant-loop-key l = in_front l.map (members_in l.key-iterator) ≡ l.fn.self
