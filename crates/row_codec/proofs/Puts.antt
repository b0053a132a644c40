-- What stands on a sheet behind several puts.
use Rattle.std.proofs.Common.{append_assoc}
use Rattle.plan_codec.proofs.Sheets.{behind_behind}

pub ruleset puts = (behind_behind, append_assoc)
