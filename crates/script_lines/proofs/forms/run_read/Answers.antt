use Rattle.std.proofs.Common.{refl}
use Rattle.script_lines.specs.Readings.{run_counted, run_no_count}
use Rattle.script_lines.proofs.forms.run_read.Goals as goal

pub returns-in-Some-count-clause-ok : goal.returns-in-Some-count-clause-ok
returns-in-Some-count-clause-ok c = run_counted _ c.in-Some.ensures _ c.in-Some-count.ensures.some.0 c.in-Some-count.ensures.some.1 refl

pub returns-in-None-clause-fault : goal.returns-in-None-clause-fault
returns-in-None-clause-fault c = run_no_count _ c.in-Some.ensures (c.in-None.ensures.none refl) refl
