use Rattle.std.proofs.Common.{◌≡◌, ◌++◌, drop, map}
use Rattle.heat_value.specs.Meaning.{nodes_of}
use Rattle.hot_admit.specs.Items.{texts_in}
use Rattle.hot_admit.proofs.needs.add_texts.Given as goal

-- the texts so far, and those of what is left
abbrev pub invariant-loop-value : goal.invariant-loop-value
invariant-loop-value l =
    map (λ t. t.now) l.named.items ++ texts_in (nodes_of (drop l.value-index l.values))
    ≡ map (λ t. t.now) l.fn.named.items ++ texts_in (nodes_of l.values)
