use Rattle.std.proofs.Common.{Bool, subst}
use Rattle.std.proofs.lemmas.Result.{IfErr-weaker}
use Rattle.std.specs.Bool.{IsTrue, MatchBool}
use Rattle.hot_strings.specs.Pieces.{LacksSomeKey, HasEveryKey}
use Rattle.hot_strings.specs.Replacing.{IsReplaceFault, IsOfReplaced}
use Rattle.hot_strings.proofs.PieceLemmas.{OnOk-always, IsReplaceFault-checked}
use Rattle.hot_strings.proofs.replacing.filled.Goals as goal

pub returns-clause-all : goal.returns-clause-all
returns-clause-all c =
    OnOk-always c.filled_by.result
    (subst (λ (b : Bool). MatchBool b (IsTrue c.args.strict × LacksSomeKey c.args.params.now c.args.template.now) (IsTrue c.args.strict → HasEveryKey c.args.params.now c.args.template.now))
    c.if-branch.false c.in_ok-strict_fails.ensures)

pub returns-clause-err : goal.returns-clause-err
returns-clause-err c =
    let every
    = subst (λ (b : Bool). MatchBool b (IsTrue c.args.strict × LacksSomeKey c.args.params.now c.args.template.now) (IsTrue c.args.strict → HasEveryKey c.args.params.now c.args.template.now))
    c.if-branch.false c.in_ok-strict_fails.ensures in
    IfErr-weaker c.filled_by.result (λ e. IsOfReplaced e 1048576 c.args.params.now c.args.template.now) (λ e. IsReplaceFault e c.args.params.now c.args.template.now c.args.strict)
    (λ e h. IsReplaceFault-checked e c.args.params.now c.args.template.now c.args.strict c.requires.keys every h) c.filled_by.ensures.err
