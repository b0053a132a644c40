-- What is alive in a stack is what its plan asks for.
use Rattle.std.specs.List.{AllZip}
use Rattle.std.specs.Prelude.{All, Contains, IsSome, List, Some, [], false, ℕ, ◌∷◌, ◌≡◌}
use Rattle.heat_plan.specs.Plans.{PlanData, names_of}
use Rattle.heat_plan.specs.declared.facts.KnownFacts.{KnownFacts}
use Rattle.heat_plan.specs.declared.item.Item.{Item}
use Rattle.heat_plan.specs.declared.token.Token.{Token}
use Rattle.provider.specs.Table.{Living}
use Rattle.core_state.specs.declared.entry.Entry.{Entry}
use Rattle.eval_words.specs.Resolve.{Props, resolve}
use Rattle.step_relation.specs.Could.{could_of}
use Rattle.step_relation.specs.Opening.{Opening}
use Rattle.step_relation.specs.Stored.{released}
use Rattle.step_relation.specs.Tokens.{IsCertain, token_at, tokens_of}

-- the facts of the one alive token of that name
pub record IsFactOf (o : Opening) (h : List Entry) (stack need : List ℕ) (known : KnownFacts) : Type 0 where
  pub named : known.name ≡ need
  pub row : ℕ
  pub alive : tokens_of o h stack (token_at stack need row)
  pub it : Living
  pub state : could_of o h (token_at stack need row) ≡ Some it ∷ []
  pub facts : it.facts ≡ Some known.facts

-- one token of the item's name is alive, of its kind, ready and not leaving, with its resolved properties
pub record HasExactly (o : Opening) (h : List Entry) (stack : List ℕ) (plan : PlanData) (item : Item) : Type 0 where
  pub row : ℕ
  pub it : Living
  pub state : could_of o h (token_at stack item.name row) ≡ Some it ∷ []
  pub owned : ¬ Contains (released o h) (token_at stack item.name row)
  pub kind : it.kind ≡ item.kind.name
  pub ready : IsSome it.facts
  pub stays : it.leaving ≡ false
  pub known : List KnownFacts
  pub needs_are : AllZip (IsFactOf o h stack) item.needs known
  pub props : resolve plan item known ≡ Props it.props
  pub only : (other : ℕ) → tokens_of o h stack (token_at stack item.name other) → other ≡ row

-- alive in the stack are exactly its plan's resources, and nothing of it is in doubt
pub record Fits (o : Opening) (h : List Entry) (stack : List ℕ) (plan : PlanData) : Type 0 where
  pub certain : (t : Token) → t.stack ≡ stack → ¬ Contains (released o h) t → IsCertain (could_of o h t)
  pub each : All (HasExactly o h stack plan) plan.items
  pub no_other : (t : Token) → tokens_of o h stack t → Contains (names_of plan.items) t.name
