-- The resources that a simulated cloud holds, by token.
use Rattle.std.specs.Prelude.{◌≢◌, ◌≤◌, ℕ, List, Bool, Option, find, position, map, All, AllPairs}
use Rattle.heat_plan.specs.declared.token.Token.{Token}
use Rattle.provider.specs.declared.alive.Alive.{Alive}
use Rattle.provider.specs.Same.{same_token}
use Rattle.sim_cloud.specs.declared.held.Held.{Held}

-- it is the token's
abbrev pub is_of : Token → Held → Bool
is_of token h = same_token h.what.token token

-- what is held under a token, and its place
abbrev pub held_of : List Held → Token → Option Held
held_of held token = find (is_of token) held

abbrev pub place_of : List Held → Token → Option ℕ
place_of held token = position (is_of token) held

abbrev pub whats : List Held → List Alive
whats held = map (λ (h : Held). h.what) held

-- no token is held twice, and polls left are at most 64
abbrev pub IsHolding : List Held → Type 0
IsHolding held = AllPairs (λ (a b : Held). a.what.token ≢ b.what.token) held × All (λ (h : Held). h.left ≤ 64) held
