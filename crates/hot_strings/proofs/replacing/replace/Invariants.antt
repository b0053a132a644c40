use Rattle.std.proofs.Common.{take}
use Rattle.std.specs.List.{All}
use Rattle.std.specs.Str.{IsUtf8}
use Rattle.hot_strings.specs.Pieces.{HasNoEmptyKey}
use Rattle.hot_strings.proofs.replacing.replace.Given as goal

-- of the keys so far none is empty, and each is a text
abbrev pub invariant-loop-param : goal.invariant-loop-param
invariant-loop-param l = HasNoEmptyKey (take l.param-index l.params) × All (λ p. IsUtf8 p.0) (take l.param-index l.params)
