use Rattle.std.proofs.Common.{List, [], ◌≤◌}
use Rattle.std.specs.Prelude.{All}
use Rattle.serde_json.specs.View.{members_view}
use Rattle.sim_cloud.specs.declared.settings.KindDelay.{KindDelay}
use Rattle.cloud_file.specs.Sorts.{Read}
use Rattle.cloud_file.specs.Lists.{ReadsMembers}
use Rattle.cloud_file.specs.Tables.{ReadsDelay}
use Rattle.cloud_file.proofs.tables.delays_in.Given as goal

-- what is left decides
abbrev pub invariant-loop-key : goal.invariant-loop-key
invariant-loop-key l =
    (goal.iterator-loop-key).can_next l.key-iterator ×
    (goal.iterator-loop-key).is_finite l.key-iterator ×
    ((r : Read (List KindDelay)) → ReadsMembers ReadsDelay l.all (members_view l.key-iterator) r
    → ReadsMembers ReadsDelay [] (members_view l.members.entries) r)
    × All (λ (d : KindDelay). d.polls ≤ 64) l.all
