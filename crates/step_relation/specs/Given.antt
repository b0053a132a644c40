-- What a turn is given from outside.
use Rattle.std.specs.Prelude.{List, ℕ}
use Rattle.heat_value.specs.Data.{Members}
use Rattle.heat_value.specs.declared.path.Step.{Step}
use Rattle.heat_plan.specs.declared.calls.Answered.{Answered}
use Rattle.type_catalog.specs.declared.effect.Effect.{Effect}

-- nothing; an item's resolved properties, with what the change to them asks for; a fault of them; the cloud's answer
pub data Given : Type 0 where
  Nothing : Given
  Prepared : (props : Members) → (effect : Effect) → Given
  Faulted : (code : List ℕ) → (path : List Step) → Given
  Answer : (answer : Answered) → Given

-- of two such what the same request may be given: the answers of one call, or one and the same
pub data IsLike : Given → Given → Type 0 where
  answers : (a b : Answered) → IsLike (Answer a) (Answer b)
  same : (given : Given) → IsLike given given
