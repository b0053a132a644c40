use Rattle.std.proofs.Common.{take}
use Rattle.hot_strings.specs.Pieces.{HasNoEmptyKey}
use Rattle.hot_strings.proofs.keys.has_empty_key.Given as goal

-- of the keys so far none is empty
abbrev pub invariant-loop-param : goal.invariant-loop-param
invariant-loop-param l = HasNoEmptyKey (take l.param-index l.params)
