use Rattle.std.proofs.Common.{◌≡◌, ◌++◌}
use Rattle.hot_eval.proofs.needs.listed.Given as goal

-- the names so far, and those that are left
abbrev pub invariant-loop-name : goal.invariant-loop-name
invariant-loop-name l = l.all ++ l.name-iterator ≡ l.fn.names.keys
