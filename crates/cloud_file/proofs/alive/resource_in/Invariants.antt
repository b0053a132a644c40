use Rattle.serde_json.specs.View.{members_view}
use Rattle.sim_cloud.specs.declared.held.Held.{Held}
use Rattle.cloud_file.specs.Sorts.{Read}
use Rattle.cloud_file.specs.Entries.{ReadsFields, IsSafe, nothing}
use Rattle.cloud_file.proofs.alive.resource_in.Given as goal

-- what is left decides
abbrev pub invariant-loop-key : goal.invariant-loop-key
invariant-loop-key l =
    (goal.iterator-loop-key).can_next l.key-iterator ×
    (goal.iterator-loop-key).is_finite l.key-iterator ×
    IsSafe l.held.all l.draft ×
    ((r : Read Held) → ReadsFields l.held.all l.draft (members_view l.key-iterator) r
    → ReadsFields l.held.all nothing (members_view l.members.entries) r)
