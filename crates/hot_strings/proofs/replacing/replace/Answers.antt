use Rattle.std.proofs.Common.{◌≢◌, ◌<◌, ℕ, List, [], length, arith, subst}
use Rattle.std.proofs.lemmas.Result.{IfErr-weaker}
use Rattle.std.specs.Bool.{IsTrue}
use Rattle.std.specs.Result.{OnOk}
use Rattle.std.specs.Str.{IsUtf8}
use Rattle.hot_strings.specs.Pieces.{HasEveryKey}
use Rattle.hot_strings.specs.Replacing.{IsReplaceFault}
use Rattle.hot_strings.proofs.KeyLemmas.{All-step, All-end, not_empty}
use Rattle.hot_strings.proofs.PieceLemmas.{ArePieces-one}
use Rattle.hot_strings.proofs.AnswerLemmas.{with_values-pieces}
use Rattle.hot_strings.proofs.replacing.replace.Goals as goal

pub returns-clause-all : goal.returns-clause-all
returns-clause-all c = subst (λ (t : List ℕ). OnOk c.filled.result (IsTrue c.args.strict → HasEveryKey c.args.params.now t)) c.as_str-2.ensures.value c.filled.ensures.all

pub returns-clause-err : goal.returns-clause-err
returns-clause-err c =
    IfErr-weaker c.filled.result (λ e. IsReplaceFault e c.args.params.now c.as_str-2.result.now c.args.strict) (λ e. IsReplaceFault e c.args.params.now c.args.template.now c.args.strict)
    (λ e h. subst (λ (t : List ℕ). IsReplaceFault e c.args.params.now t c.args.strict) c.as_str-2.ensures.value h) c.filled.ensures.err

pub returns-clause-one : goal.returns-clause-one
returns-clause-one c =
    let texts = All-end (λ p. IsUtf8 p.0) c.args.params.now c.loop-param.param-index (omega arith) c.loop-param.invariant.1 in
    ArePieces-one c.args.params.now c.args.template.now c.requires texts (subst IsUtf8 c.as_str-2.ensures.value c.as_str-2.utf8)

pub returns-clause-answer : goal.returns-clause-answer
returns-clause-answer c = λ some. with_values-pieces c.args.params.now c.requires some c.args.template.now

pub loop-param-preserved : goal.loop-param-preserved
loop-param-preserved c =
    let below : c.loop-param.param-index < length c.args.params.now = omega arith in (
      All-step (λ p. p.0 ≢ []) c.args.params.now c.loop-param.param-index c.param-item.result below c.param-item.is
          (not_empty c.as_str.result.now c.param-item.result.0 c.as_str.ensures.value c.if-is_empty.ensures) c.loop-param.invariant.0,
      All-step (λ p. IsUtf8 p.0) c.args.params.now c.loop-param.param-index c.param-item.result below c.param-item.is
          (subst IsUtf8 c.as_str.ensures.value c.as_str.utf8) c.loop-param.invariant.1,
    )

pub filled-requires-clause-keys : goal.filled-requires-clause-keys
filled-requires-clause-keys c = All-end (λ p. p.0 ≢ []) c.args.params.now c.loop-param.param-index (omega arith) c.loop-param.invariant.0
