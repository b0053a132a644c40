use Rattle.std.proofs.Common.{ap, refl, Ok}
use Rattle.script_lines.specs.Readings.{engine_asked, engine_no_number}
use Rattle.script_lines.proofs.forms.engine_read.Goals as goal

pub returns-in-Some-engine_no-clause-ok : goal.returns-in-Some-engine_no-clause-ok
returns-in-Some-engine_no-clause-ok c =
    engine_asked _ c.in-Some.ensures _ c.in-Some-engine_no.ensures.some.0 c.in-Some-engine_no.ensures.some.1 (ap Ok c.with_engine.ensures)

pub returns-in-None-clause-fault : goal.returns-in-None-clause-fault
returns-in-None-clause-fault c = engine_no_number _ c.in-Some.ensures (c.in-None.ensures.none refl) refl
