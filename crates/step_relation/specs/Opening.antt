-- What a run begins with.
use Rattle.std.specs.Prelude.{Bool, List, [], find, option_map, ℕ}
use Rattle.heat_plan.specs.declared.token.Token.{Token}
use Rattle.provider.specs.Cloud.{living_of}
use Rattle.provider.specs.Same.{same_token}
use Rattle.provider.specs.Table.{TokenState}
use Rattle.provider.specs.declared.alive.Alive.{Alive}
use Rattle.core_state.specs.State.{StateData}
use Rattle.step_relation.specs.Steps.{engines_from, past_engines}

-- a state, the cloud's alive list of that moment, and which of its tokens are leaving
pub record Opening : Type 0 where
  pub state : StateData
  pub alive : List Alive
  pub leaving : Token → Bool

-- the state in which a token is at first
abbrev pub first_of : Opening → Token → TokenState
first_of o t = option_map (living_of (o.leaving t)) (find (λ (a : Alive). same_token a.token t) o.alive)

-- nothing stands, and no engine was ever there
abbrev pub bare : StateData
bare = record {
  stacks = [];
  graphs = [];
  pasts = [];
  rows = [];
  letters = [];
  jobs = [];
  live = [];
  released = [];
  next = record { stack = 1; trav = 1; row = 1; engine = 1; letter = 1 };
}

-- so many engines are live, and nothing else stands or is alive
abbrev pub empty_opening : ℕ → (Token → Bool) → Opening
empty_opening engines leaving = record {
  state = record bare { live = engines_from 1 engines; next = past_engines bare.next engines };
  alive = [];
  leaving = leaving;
}
