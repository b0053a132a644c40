use Rattle.std.proofs.Common.{◌≡◌, ◌≤◌, ◌+◌, drop}
use Rattle.hot_catalog.specs.Counts.{others}
use Rattle.hot_catalog.proofs.count.others.Given as goal

-- those so far and those left are all
abbrev pub invariant-loop-kind : goal.invariant-loop-kind
invariant-loop-kind l =
    (others l.line l.given ≡ l.count + others l.line (drop l.kind-index l.given)) × (l.count ≤ l.kind-index)
