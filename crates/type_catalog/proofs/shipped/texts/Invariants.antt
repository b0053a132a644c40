use Rattle.std.proofs.Common.{◌≡◌, ◌++◌, drop, map}
use Rattle.type_catalog.proofs.shipped.texts.Given as goal

-- those so far and those left are all
abbrev pub invariant-loop-text : goal.invariant-loop-text
invariant-loop-text l = l.texts ++ map (λ t. t.now) (drop l.text-index l.all) ≡ map (λ t. t.now) l.all
