use Rattle.std.proofs.Common.{◌≡◌, drop}
use Rattle.hot_env.specs.Checks.{has_part}
use Rattle.hot_env.proofs.checking.has_part.Given as goal

-- what is left decides
abbrev pub invariant-loop-i : goal.invariant-loop-i
invariant-loop-i l = has_part l.part l.text ≡ has_part l.part (drop l.i l.text)
