use Rattle.std.proofs.Common.{refl}
use Rattle.script_lines.specs.Readings.{types_asked, types_wrong}
use Rattle.script_lines.proofs.forms.types_read.Goals as goal

pub returns-in-Ok-clause-ok : goal.returns-in-Ok-clause-ok
returns-in-Ok-clause-ok c = types_asked _ c.in-Some.ensures _ c.in-Ok.ensures.ok refl

pub returns-in-Err-clause-fault : goal.returns-in-Err-clause-fault
returns-in-Err-clause-fault c other = types_wrong _ c.in-Some.ensures _ (c.in-Err.ensures.fault other) refl
