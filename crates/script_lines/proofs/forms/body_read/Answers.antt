use Rattle.std.proofs.Common.{◌∙◌, ap, refl, Ok, Err, List, ℕ}
use Rattle.std.proofs.lemmas.Result.{err_from_is_err_and}
use Rattle.script_lines.specs.Readings.{body_line, body_asked, body_unnamed, body_wrong}
use Rattle.script_lines.proofs.forms.body_read.Goals as goal

pub returns-in_err-name-clause-fault : goal.returns-in_err-name-clause-fault
returns-in_err-name-clause-fault c =
    let p = err_from_is_err_and c.from_residual.result c.from_residual.ensures.1 in
    rw (p.1, p.2) (λ other. let off = c.in_err-name.ensures.fault other in body_unnamed _ _ c.in-Some.ensures off.0 (ap Err off.1))

pub returns-in-Ok-clause-ok : goal.returns-in-Ok-clause-ok
returns-in-Ok-clause-ok c =
    body_asked _ _ c.in-Some.ensures c.in_ok-name.ensures.ok.1 _ c.in-Ok.ensures.ok
    (ap Ok (c.with_body.ensures ∙ ap (λ (s : List ℕ). body_line c.args.verb s c.in-Ok.body) c.in_ok-name.ensures.ok.0))

pub returns-in-Err-clause-fault : goal.returns-in-Err-clause-fault
returns-in-Err-clause-fault c other = body_wrong _ _ c.in-Some.ensures c.in_ok-name.ensures.ok.1 _ (c.in-Err.ensures.fault other) refl
