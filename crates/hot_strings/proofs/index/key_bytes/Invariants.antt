use Rattle.std.proofs.Common.{◌≡◌, map, take}
use Rattle.hot_strings.specs.Indexes.{keys_in}
use Rattle.hot_strings.proofs.index.key_bytes.Given as goal

-- the keys so far
abbrev pub invariant-loop-param : goal.invariant-loop-param
invariant-loop-param l = map (λ k. k.now) l.keys.items ≡ keys_in (take l.param-index l.params)
