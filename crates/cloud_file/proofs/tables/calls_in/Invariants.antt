use Rattle.std.proofs.Common.{ℕ, List, [], drop}
use Rattle.serde_json.specs.View.{items_view}
use Rattle.cloud_file.specs.Sorts.{Read}
use Rattle.cloud_file.specs.Lists.{ReadsItems}
use Rattle.cloud_file.specs.Tables.{ReadsCall}
use Rattle.cloud_file.proofs.tables.calls_in.Given as goal

-- what is left decides
abbrev pub invariant-loop-i : goal.invariant-loop-i
invariant-loop-i l =
    (r : Read (List ℕ)) → ReadsItems ReadsCall l.i l.all (items_view (drop l.i l.items.items)) r
    → ReadsItems ReadsCall 0 [] (items_view l.items.items) r
