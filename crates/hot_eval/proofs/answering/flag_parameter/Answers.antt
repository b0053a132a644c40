use Rattle.std.proofs.Common.{Result, ap}
use Rattle.std.proofs.lemmas.Result.{err_from_is_err_and}
use Rattle.heat_value.specs.Data.{Data}
use Rattle.hot_eval.specs.Answers.{IsFaultOf, IsOwnFault, code_of}
use Rattle.eval_words.specs.Functions.{only_flag}
use Rattle.eval_words.specs.declared.code.FaultCode.{FaultCode}
use Rattle.eval_words.specs.declared.fault.FunctionFault.{FunctionFault}
use Rattle.eval_words.specs.declared.fault.FunctionFault.TheVariants.{Wrong, Memory}
use Rattle.hot_eval.proofs.answering.flag_parameter.Goals as goal

same_fault : (e : FunctionFault) (r : Result Data FaultCode) → IsOwnFault e r → IsFaultOf e (only_flag r)
same_fault (Wrong c) r is = ap (λ (x : Result Data FaultCode). code_of (only_flag x)) is
same_fault Memory r is = tt

pub returns-in_err-parameter : goal.returns-in_err-parameter
returns-in_err-parameter c =
    let p = err_from_is_err_and c.from_residual.result c.from_residual.ensures.1 in
    rw (p.1, p.2) (same_fault c.in_err-parameter.field-0.0 _ c.in_err-parameter.ensures.fault)
