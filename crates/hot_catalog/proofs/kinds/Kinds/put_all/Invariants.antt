use Rattle.std.proofs.Common.{◌≡◌, ◌≤◌, ◌+◌, true, length, map}
use Rattle.std.specs.Vec.{vec_len, vec_capacity}
use Rattle.hot_catalog.specs.Catalogs.{with_all}
use Rattle.type_catalog.specs.Names.{are_distinct}
use Rattle.type_catalog.specs.Registries.{kind_name}
use Rattle.hot_catalog.proofs.kinds.Kinds.put_all.Given as goal

-- those left, put to those so far, are all; there is room for them
abbrev pub invariant-loop-kind : goal.invariant-loop-kind
invariant-loop-kind l =
    (with_all l.kind-iterator.rest.items l.self-inside.all.items ≡ with_all l.fn.kinds.items l.fn.self)
    × (vec_len l.self-inside.all + length l.kind-iterator.rest.items ≤ vec_capacity l.self-inside.all)
    × (are_distinct (map kind_name l.self-inside.all.items) ≡ true)
