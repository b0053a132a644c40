use Rattle.std.proofs.Common.{◌∙◌, ap, Ok, Err}
use Rattle.std.proofs.lemmas.Result.{err_from_is_err_and}
use Rattle.script_lines.specs.Readings.{stack_line, stack_asked, stack_unnamed}
use Rattle.script_lines.proofs.forms.stack_read.Goals as goal

pub returns-in_err-name-clause-fault : goal.returns-in_err-name-clause-fault
returns-in_err-name-clause-fault c =
    let p = err_from_is_err_and c.from_residual.result c.from_residual.ensures.1 in
    rw (p.1, p.2) (λ other. let off = c.in_err-name.ensures.fault other in stack_unnamed _ c.in-Some.ensures off.0 (ap Err off.1))

pub returns-clause-ok : goal.returns-clause-ok
returns-clause-ok c =
    stack_asked _ c.in-Some.ensures c.in_ok-name.ensures.ok.1 (ap Ok (c.with_stack.ensures ∙ ap (stack_line c.args.verb) c.in_ok-name.ensures.ok.0))
