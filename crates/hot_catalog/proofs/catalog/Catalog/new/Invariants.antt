use Rattle.std.proofs.Common.{◌≡◌, ◌++◌, drop, map}
use Rattle.hot_catalog.proofs.catalog.Catalog.new.Given as goal

-- those so far and those left are all
abbrev pub invariant-loop-judge : goal.invariant-loop-judge
invariant-loop-judge g l =
    l.registered ++ map (λ j. j.kind) (drop l.judge-index l.judge-items) ≡ map (λ j. j.kind) l.registry.judges
