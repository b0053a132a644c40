use Rattle.std.proofs.Common.{◌≡◌, ◌∙◌, ◌+◌, ◌-◌, ◌≤◌, ℕ, [], Option, None, ap, arith}
use Rattle.std.proofs.lemmas.Bool.{le-leb}
use Rattle.std.specs.Prelude.{if◌then◌else◌}
use Rattle.heat_value.specs.Data.{Data}
use Rattle.heat_value.specs.Meaning.{data_of}
use Rattle.eval_words.specs.Choices.{Choice}
use Rattle.eval_words.specs.Evaluation.{added, counted}
use Rattle.eval_words.specs.Fillings.{filled_size}
use Rattle.eval_words.specs.Outcomes.{Faults, cost_limit}
use Rattle.eval_words.specs.declared.code.FaultCode.TheVariants.{F05, F07}
use Rattle.hot_eval.specs.Repeats.{choice_of}
use Rattle.hot_eval.proofs.replacing.replaced_template.Goals as goal

-- where the keys and texts fit and two keys became one it is F05
same_is : (c : Choice) (t : Data) (o : Option Data) (n left room : ℕ) → n ≤ cost_limit → left ≡ cost_limit - n
    → room + filled_size c t ≡ left → o ≡ None → counted c t o n ≡ Faults F05 []
same_is c t o n left room within is took none =
    ap (λ b. if b then added t o n else Faults F07 []) (le-leb (n + filled_size c t) cost_limit (omega (arith, within, is, took)))
    ∙ ap (λ x. added t x n) none

pub returns-in-Same-clause-outcome : goal.returns-in-Same-clause-outcome
returns-in-Same-clause-outcome c =
    let told = rw c.in-Same.is at c.in_ok-replaced.ensures in
    rw c.here.ensures
    (same_is (choice_of c.args.choice.now) (data_of c.args.template.now) _ c.args.sum.now c.new.result c.fill.new.room
    c.left.ensures.within (c.new.ensures ∙ c.left.ensures.left) told.1 told.0)
