-- What the resource of the examples resolves to: its own properties, which hold no function and are small.
use Rattle.std.proofs.Common.{List, refl, true, ◌≡◌}
use Rattle.std.specs.Fmt.{digits}
use Rattle.json.specs.Print.{escape_byte}
use Rattle.heat_value.specs.Data.{fields}
use Rattle.heat_plan.specs.declared.facts.KnownFacts.{KnownFacts}
use Rattle.heat_plan.specs.declared.item.Policy.{Policy}
use Rattle.eval_words.specs.Outcomes.{is_result}
use Rattle.eval_words.proofs.Unchanged.{unchanged}
use Rattle.eval_words.specs.Resolve.{Props, resolve}
use Rattle.history_examples.specs.Setting.{item_under, plan_under, sized}

one_is_small : is_result (fields (sized 1)) ≡ true
unfolding digits escape_byte
one_is_small = refl

two_is_small : is_result (fields (sized 2)) ≡ true
unfolding digits escape_byte
two_is_small = refl

module _ (policy : Policy) (known : List KnownFacts) where
  pub of_size_one : resolve (plan_under policy 1) (item_under policy 1) known ≡ Props (sized 1)
  of_size_one = unchanged (plan_under policy 1) (item_under policy 1) known 0 refl one_is_small

  pub of_size_two : resolve (plan_under policy 2) (item_under policy 2) known ≡ Props (sized 2)
  of_size_two = unchanged (plan_under policy 2) (item_under policy 2) known 0 refl two_is_small
