use Rattle.std.proofs.Common.{ℕ, List, true, false, subst}
use Rattle.std.proofs.lemmas.Result.{IfErr-weaker}
use Rattle.hot_strings.specs.Replacing.{IsWithinFault, IsOfReplaced}
use Rattle.hot_strings.proofs.Indexing.{empty_told, empty_or_not}
use Rattle.hot_strings.proofs.PieceLemmas.{IsWithinFault-checked, OnOk-always}
use Rattle.hot_strings.proofs.AnswerLemmas.{with_values-pieces}
use Rattle.hot_strings.proofs.replacing.replace_within.Goals as goal

pub returns-then-has_empty_key-clause-err : goal.returns-then-has_empty_key-clause-err
returns-then-has_empty_key-clause-err c = empty_told true c.args.params.now c.args.index.now c.if-has_empty_key.ensures c.requires.index

pub returns-then-has_empty_key-clause-answer : goal.returns-then-has_empty_key-clause-answer
returns-then-has_empty_key-clause-answer c =
    λ some. absurd (empty_or_not c.args.params.now (empty_told true c.args.params.now c.args.index.now c.if-has_empty_key.ensures c.requires.index) some)

pub filled_by-requires-clause-keys : goal.filled_by-requires-clause-keys
filled_by-requires-clause-keys c = empty_told false c.args.params.now c.args.index.now c.if-has_empty_key.ensures c.requires.index

pub returns-clause-keys : goal.returns-clause-keys
returns-clause-keys c =
    OnOk-always c.filled_by.result (empty_told false c.args.params.now c.args.index.now c.if-has_empty_key.ensures c.requires.index)

pub returns-clause-err : goal.returns-clause-err
returns-clause-err c =
    let keys = empty_told false c.args.params.now c.args.index.now c.if-has_empty_key.ensures c.requires.index in
    IfErr-weaker c.filled_by.result (λ e. IsOfReplaced e c.args.limit c.args.params.now c.as_str.result.now)
    (λ e. IsWithinFault e c.args.limit c.args.params.now c.args.template.now)
    (λ e h. IsWithinFault-checked e c.args.limit c.args.params.now c.args.template.now keys
    (subst (λ (t : List ℕ). IsOfReplaced e c.args.limit c.args.params.now t) c.as_str.ensures.value h))
    c.filled_by.ensures.err

pub returns-clause-answer : goal.returns-clause-answer
returns-clause-answer c = λ some. with_values-pieces c.args.params.now c.requires.distinct some c.args.template.now
