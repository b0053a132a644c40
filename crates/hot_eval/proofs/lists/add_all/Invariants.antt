use Rattle.std.proofs.Common.{◌≡◌, ◌++◌, map, take}
use Rattle.hot_eval.proofs.lists.add_all.Given as goal

-- the items so far stand behind those that stood
abbrev pub invariant-loop-item : goal.invariant-loop-item
invariant-loop-item l =
    map (λ v. v.now) l.all.items ≡ map (λ v. v.now) l.fn.all.items ++ take l.item-index l.items
