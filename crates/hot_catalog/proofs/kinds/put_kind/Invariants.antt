use Rattle.std.proofs.Common.{◌≡◌, ◌++◌, take, drop}
use Rattle.hot_catalog.specs.Catalogs.{with_kind}
use Rattle.hot_catalog.proofs.kinds.put_kind.Given as goal

-- none so far has the name
abbrev pub invariant-loop-i : goal.invariant-loop-i
invariant-loop-i l = (l.kinds ≡ l.initial.kinds)
    × (with_kind l.kind l.kinds.items ≡ take l.i l.kinds.items ++ with_kind l.kind (drop l.i l.kinds.items))
