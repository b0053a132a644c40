use Rattle.std.proofs.lemmas.Result.{IfOk-weaker, IfErr-weaker}
use Rattle.script_lines.specs.Readings.{worded}
use Rattle.script_lines.proofs.OneReading.{read_one}
use Rattle.script_lines.proofs.line.Line.read.Goals as goal

pub returns-in-Some-clause-ok : goal.returns-in-Some-clause-ok
returns-in-Some-clause-ok c = IfOk-weaker c.words_read.result _ _ (λ l reads. worded c.in-Ok.ensures.cases.1 _ _ c.in-Some.ensures reads) c.words_read.ensures.ok

pub returns-in-Some-clause-fault : goal.returns-in-Some-clause-fault
returns-in-Some-clause-fault c =
    IfErr-weaker c.words_read.result _ _ (λ e reads other. worded c.in-Ok.ensures.cases.1 _ _ c.in-Some.ensures (reads other)) c.words_read.ensures.fault

pub returns-in-Some-clause-one : goal.returns-in-Some-clause-one
returns-in-Some-clause-one c a b = read_one _ a b

pub returns-in-None-clause-one : goal.returns-in-None-clause-one
returns-in-None-clause-one c a b = read_one _ a b
