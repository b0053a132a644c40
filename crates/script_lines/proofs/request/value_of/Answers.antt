use Rattle.std.proofs.Common.{◌∙◌, ap, Err, refl}
use Rattle.script_lines.specs.Requested.{bad_number}
use Rattle.script_lines.proofs.request.value_of.Goals as goal

pub returns-in-Err-BadNumber-clause-fault : goal.returns-in-Err-BadNumber-clause-fault
returns-in-Err-BadNumber-clause-fault c _ =
    bad_number c.in-Err-BadNumber.path (c.read.ensures.bad_number c.in-Err-BadNumber.path (c.in-Err-BadNumber.is ∙ ap Err c.in-Err-BadNumber.field-0-is)) refl
