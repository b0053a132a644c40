use Rattle.std.proofs.Common.{◌≡◌, ◌∙◌, ◌∷◌, ◌+◌, List, ap, sym, drop, arith}
use Rattle.std.proofs.lemmas.List.{at_drop_more}
use Rattle.heat_value.specs.Meaning.{data_of}
use Rattle.heat_value.specs.declared.path.Step.{Step}
use Rattle.hot_eval.specs.Repeats.{choice_of}
use Rattle.hot_eval.proofs.Literal.{path_goes_on, step_within}
use Rattle.hot_eval.proofs.fillings.literal.literal_path.Goals as goal

pub literal_step-requires-clause-made : goal.literal_step-requires-clause-made
literal_step-requires-clause-made c = c.loop-step.invariant.1

pub loop-step-preserved : goal.loop-step-preserved
loop-step-preserved c =
    let told = rw c.in-Some.is at c.in_ok-step.ensures in
    let split : drop c.loop-step.step-index c.args.steps.now
    ≡ c.step-item.result ∷ drop (c.loop-step.step-index + 1) c.args.steps.now =
    at_drop_more (λ (x : List Step). x) c.args.steps.now c.loop-step.step-index c.step-item.result c.loop-step-test.true
    ∙ ap (λ (x : Step). x ∷ drop (c.loop-step.step-index + 1) c.args.steps.now) (sym c.step-item.is) in (
      path_goes_on (choice_of c.args.choice.now) (data_of c.loop-step.at.now) (data_of c.in-Some.inner.now) c.loop-step.path
          c.push.new.self _ _ _ c.step-item.result c.in-Some.step split c.in_ok-push-in-Some.ensures.ok (sym told)
          c.loop-step.invariant.0,
      omega (
        arith,
        c.loop-step.invariant.1,
        step_within (choice_of c.args.choice.now) (data_of c.loop-step.at.now) c.step-item.result c.in-Some.step
            (data_of c.in-Some.inner.now) (sym told),
      ),
    )
