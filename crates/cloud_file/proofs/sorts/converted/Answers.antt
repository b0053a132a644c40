use Rattle.std.proofs.Common.{arith}
use Rattle.serde_json.specs.View.{view}
use Rattle.cloud_file.proofs.Readings.{read_fault}
use Rattle.cloud_file.proofs.sorts.converted.Goals as goal

pub returns-clause-err : goal.returns-clause-err
returns-clause-err c =
    read_fault (view c.args.value.now) c.deref.result.now c.read.result
    (rw c.deref.ensures.value c.in_ok-text.ensures.utf8)
    (rw c.deref.ensures.value (c.in_ok-text.ensures.reads_back (omega (arith, c.requires))))
    c.requires c.read.ensures.not_json c.read.ensures.too_deep c.read.ensures.bad_number
