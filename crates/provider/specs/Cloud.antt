-- What a cloud shows, and the words in which its calls are said.
use Rattle.std.specs.Prelude.{◌≡◌, ◌≢◌, ◌≤◌, ℕ, List, [], Bool, Option, Some, None, IsTrue, IsSome}
use Rattle.std.specs.Prelude.{if◌then◌else◌, option_map, find, filter, length, bytes_eq, AllPairs}
use Rattle.heat_plan.specs.declared.token.Token.{Token}
use Rattle.provider.specs.declared.alive.Alive.{Alive}
use Rattle.provider.specs.declared.traced.Traced.{Traced}
use Rattle.provider.specs.Same.{same_token}
use Rattle.provider.specs.Table.{Living, TokenState}

-- all that a cloud shows
pub record Cloud : Type 0 where
  -- the alive resources
  pub alive : List Alive
  -- which of their tokens are leaving
  pub leaving : Token → Bool
  -- how many polls and questions for a token may still answer NotYet
  pub left : Token → ℕ
  -- the calls with answers other than Memory, in order
  pub trace : List Traced
  -- how many resources of a kind may be alive, where that is set, by the kind's name
  pub quota : List ℕ → Option ℕ
  -- how many calls have failed
  pub faults : ℕ

-- the resource of a token
abbrev pub entry_of : Cloud → Token → Option Alive
entry_of cloud token = find (λ (a : Alive). same_token a.token token) cloud.alive

abbrev pub IsAlive : Cloud → Token → Type 0
IsAlive cloud token = IsSome (entry_of cloud token)

-- no resource is alive
abbrev pub HasNone : Cloud → Type 0
HasNone cloud = cloud.alive ≡ []

-- a resource as a state: the facts only where it is ready
abbrev pub living_of : Bool → Alive → Living
living_of leaving a =
    record { kind = a.kind; props = a.props; facts = if a.ready then Some a.facts else None; leaving = leaving }

-- the state of a token
abbrev pub state_of : Cloud → Token → TokenState
state_of cloud token = option_map (living_of (cloud.leaving token)) (entry_of cloud token)

-- how many resources of that kind are alive
abbrev pub count_of : List ℕ → List Alive → ℕ
count_of kind alive = length (filter (λ (a : Alive). bytes_eq a.kind kind) alive)

-- at least as many of the kind are alive as its quota says
pub record IsFull (cloud : Cloud) (kind : List ℕ) : Type 0 where
  pub most : ℕ
  pub set : cloud.quota kind ≡ Some most
  pub reached : most ≤ count_of kind cloud.alive

-- what holds of every cloud
pub record IsLawful (cloud : Cloud) : Type 0 where
  -- each token stands at most once in the alive list
  pub distinct : AllPairs (λ (a b : Alive). a.token ≢ b.token) cloud.alive
  pub few : (token : Token) → cloud.left token ≤ 64
  -- only an alive token is leaving
  pub leaving : (token : Token) → IsTrue (cloud.leaving token) → IsAlive cloud token
