use Rattle.std.proofs.Common.{List, []}
use Rattle.serde_json.specs.View.{members_view}
use Rattle.sim_cloud.specs.declared.settings.NameCode.{NameCode}
use Rattle.cloud_file.specs.Sorts.{Read}
use Rattle.cloud_file.specs.Lists.{ReadsMembers}
use Rattle.cloud_file.specs.Tables.{ReadsBroken}
use Rattle.cloud_file.proofs.tables.codes_in.Given as goal

-- what is left decides
abbrev pub invariant-loop-key : goal.invariant-loop-key
invariant-loop-key l =
    (goal.iterator-loop-key).can_next l.key-iterator ×
    (goal.iterator-loop-key).is_finite l.key-iterator ×
    ((r : Read (List NameCode)) → ReadsMembers ReadsBroken l.all (members_view l.key-iterator) r
    → ReadsMembers ReadsBroken [] (members_view l.members.entries) r)
