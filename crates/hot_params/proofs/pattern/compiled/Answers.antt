use Rattle.hot_params.proofs.Refused.{refused_for}
use Rattle.hot_params.proofs.pattern.compiled.Goals as goal

pub returns-in-Err-clause-err : goal.returns-in-Err-clause-err
returns-in-Err-clause-err c =
    rw c.refused_by.ensures
    (refused_for c.args.pattern.now c.in-Err.error c.in-Err.ensures.by_grammar c.in-Err.ensures.kind)
