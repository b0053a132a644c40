use Rattle.std.proofs.Common.{◌≤◌, rules}
use Rattle.serde_json.specs.Data.{depth}
use Rattle.serde_json.specs.View.{view}
use Rattle.heat_value.proofs.Conversions.{read-from_converted}
use Rattle.heat_value.proofs.value.Value.read.Goals as goal

pub returns-clause-ok : goal.returns-clause-ok
returns-clause-ok c =
    let shallow : depth (view c.in_ok-json.json) ≤ 64 = search rules in
    read-from_converted _ _ _ c.in_ok-json.ensures.ok shallow c.converted.ensures.ok c.converted.ensures.whole
