use Rattle.std.proofs.Common.{subst, ap}
use Rattle.std.proofs.lemmas.Result.{err_from_is_err_and, IfErr-weaker}
use Rattle.heat_value.specs.Reading.{IsReadAs}
use Rattle.script_lines.specs.Requested.{unread, no_object, misgiven}
use Rattle.script_lines.specs.declared.misread.Misread.TheVariants.{L08}
use Rattle.script_lines.proofs.request.body_of.Goals as goal

pub returns-in_err-value-clause-fault : goal.returns-in_err-value-clause-fault
returns-in_err-value-clause-fault c =
    let p = err_from_is_err_and c.from_residual.result c.from_residual.ensures.1 in
    rw (p.1, p.2) (λ other. unread (c.in_err-value.ensures.fault other))

pub returns-in-Some-clause-fault : goal.returns-in-Some-clause-fault
returns-in-Some-clause-fault c =
    let reading = subst (IsReadAs c.args.bytes.now) c.in-Some.ensures c.in_ok-value.ensures.ok in
    IfErr-weaker c.given.result _ _ (λ e fault other. let (p, mis, is) = fault other in misgiven _ reading p mis is) c.given.ensures.fault

pub returns-clause-fault : goal.returns-clause-fault
returns-clause-fault c _ = no_object _ c.in_ok-value.ensures.ok c.in-None.ensures (ap L08 c.root.ensures)
