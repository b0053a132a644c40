use Rattle.std.proofs.Common.{◌≡◌, ◌≤◌, ℕ, List, Result, Ok, Err, IfOk, Bor, map, take, length, subst}
use Rattle.std.proofs.lemmas.List.{take_all}
use Rattle.heat_plan.specs.Order.{Rising}
use Rattle.heat_value.specs.declared.text.Text.{Text}
use Rattle.eval_words.specs.Needs.{AreNeeds, AreResNamesOf}
use Rattle.hot_eval.proofs.Kept.{kept_next}
use Rattle.hot_eval.proofs.needs.needs_among.Goals as goal

pub loop-name-preserved : goal.loop-name-preserved
loop-name-preserved c =
    kept_next c.args.named.now c.loop-name.name-index c.name-item.result _ c.loop-name-test.true c.name-item.is
    (c.in_ok-add.ensures _ c.loop-name.invariant)

made : {E : Type 0} (r : Result (List (List ℕ)) E) (named : List (Bor Text)) (i : ℕ) (keys : List (List ℕ))
    → length named ≤ i → AreResNamesOf (map (λ t. t.now) (take i named)) keys
    → IfOk r (λ n. n ≡ keys) → IfOk r (λ n. Rising n) → IfOk r (AreNeeds (map (λ t. t.now) named))
made (Err e) named i keys past kept same rising = tt
made (Ok n) named i keys past kept same rising = record {
  rising = rising;
  each = rw same (subst (λ (ts : List (Bor Text)). AreResNamesOf (map (λ t. t.now) ts) keys) (take_all i named past) kept);
}

pub returns : goal.returns
returns c =
    made c.listed.result c.args.named.now c.loop-name.name-index c.loop-name.names.keys c.loop-name-test.false
    c.loop-name.invariant c.listed.ensures.names c.listed.ensures.rising
