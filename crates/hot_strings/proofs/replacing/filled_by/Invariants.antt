use Rattle.std.proofs.Common.{take}
use Rattle.std.specs.List.{All}
use Rattle.std.specs.Str.{IsUtf8}
use Rattle.hot_strings.proofs.replacing.filled_by.Given as goal

-- each key so far is a text
abbrev pub invariant-loop-param : goal.invariant-loop-param
invariant-loop-param l = All (λ p. IsUtf8 p.0) (take l.param-index l.params)
