use Rattle.std.proofs.Common.{◌↔◌, All, drop}
use Rattle.headline_reader.specs.Items.{HasItem}
use Rattle.headline_reader.proofs.fitting.have_all.Given as goal

abbrev pub invariant-loop-item : goal.invariant-loop-item
invariant-loop-item l =
    All (HasItem l.plan l.all) l.items ↔ All (HasItem l.plan l.all) (drop l.item-index l.items)
