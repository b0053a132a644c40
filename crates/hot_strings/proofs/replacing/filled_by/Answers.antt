use Rattle.std.proofs.Common.{◌<◌, length, arith, subst}
use Rattle.std.proofs.lemmas.Result.{IfErr-weaker}
use Rattle.std.specs.Str.{IsUtf8}
use Rattle.heat_value.specs.Data.{words}
use Rattle.hot_strings.specs.Answers.{with_values}
use Rattle.hot_strings.specs.Faults.{IsOfLimit}
use Rattle.hot_strings.specs.Replacing.{IsOfReplaced}
use Rattle.hot_strings.proofs.AnswerLemmas.{IsOfReplaced-pass}
use Rattle.hot_strings.proofs.KeyLemmas.{All-step, All-end}
use Rattle.hot_strings.proofs.PieceLemmas.{pieces_exist}
use Rattle.hot_strings.proofs.replacing.filled_by.Goals as goal

pub loop-param-preserved : goal.loop-param-preserved
loop-param-preserved c =
    let below : c.loop-param.param-index < length c.args.params.now = omega arith in
    All-step (λ p. IsUtf8 p.0) c.args.params.now c.loop-param.param-index c.param-item.result below c.param-item.is
    (subst IsUtf8 c.as_str.ensures.value c.as_str.utf8) c.loop-param.invariant

pub returns-clause-err : goal.returns-clause-err
returns-clause-err c =
    let s = c.args.template.now in
    let params = c.args.params.now in
    let texts = All-end (λ p. IsUtf8 p.0) params c.loop-param.param-index (omega arith) c.loop-param.invariant in
    let found = pieces_exist (length s) params s c.requires.keys texts c.utf8.template (omega arith) in
    IfErr-weaker c.pass-passed.result (λ e. IsOfLimit e c.args.limit (words (with_values params s))) (λ e. IsOfReplaced e c.args.limit params s)
    (λ e h. IsOfReplaced-pass e c.args.limit params s found.0 c.requires.distinct c.requires.keys found.1 h) c.pass-passed.ensures.err
