use Rattle.serde_json.specs.View.{members_view}
use Rattle.sim_cloud.specs.Settings.{IsFit}
use Rattle.sim_cloud.specs.declared.settings.Settings.{Settings}
use Rattle.cloud_file.specs.Sorts.{Read}
use Rattle.cloud_file.specs.Files.{ReadsParts, unset}
use Rattle.cloud_file.proofs.reading.settings.Given as goal

-- what is left decides
abbrev pub invariant-loop-key : goal.invariant-loop-key
invariant-loop-key l =
    (goal.iterator-loop-key).can_next l.key-iterator ×
    (goal.iterator-loop-key).is_finite l.key-iterator ×
    IsFit l.all ×
    ((r : Read Settings) → ReadsParts l.all (members_view l.key-iterator) r
    → ReadsParts unset (members_view l.members.entries) r)
