use Rattle.std.proofs.Common.{List, [], drop}
use Rattle.serde_json.specs.View.{items_view}
use Rattle.sim_cloud.specs.declared.held.Held.{Held}
use Rattle.cloud_file.specs.Sorts.{Read}
use Rattle.cloud_file.specs.Lists.{ReadsItems}
use Rattle.cloud_file.specs.Entries.{ReadsResource}
use Rattle.cloud_file.proofs.alive.alive_in.Given as goal

-- what is left decides
abbrev pub invariant-loop-i : goal.invariant-loop-i
invariant-loop-i l =
    (r : Read (List Held)) → ReadsItems ReadsResource l.i l.held.all (items_view (drop l.i l.items.items)) r
    → ReadsItems ReadsResource 0 [] (items_view l.items.items) r
