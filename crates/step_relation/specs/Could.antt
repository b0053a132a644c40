-- The states in which a token may be, by the history alone.
use Rattle.std.specs.Prelude.{Contains, List, [], fold, if◌then◌else◌, ◌∷◌, ◌≢◌}
use Rattle.heat_plan.specs.declared.token.Token.{Token}
use Rattle.provider.specs.Cloud.{Cloud, state_of}
use Rattle.provider.specs.Same.{same_token}
use Rattle.provider.specs.Table.{TokenState, after_each}
use Rattle.core_state.specs.declared.entry.Entry.{Entry}
use Rattle.core_state.specs.declared.entry.What.{What}
use Rattle.step_relation.specs.Opening.{Opening, first_of}
use Rattle.core_state.specs.declared.entry.What.TheVariants as what

-- a call to the token turns each state into those of its row of the cloud's table
abbrev pub could_by : Token → List TokenState → What → List TokenState
could_by t states (what.Call token request given) = if same_token token t
    then after_each request given states else states
could_by t states (what.Command stack trav act plan rollback) = states
could_by t states (what.Release token) = states
could_by t states (what.Mark stack trav act cause) = states
could_by t states (what.Rows writes) = states
could_by t states (what.Mail writes) = states
could_by t states (what.Engine change) = states
could_by t states (what.Show it stack) = states
could_by t states (what.Note line code path) = states
could_by t states (what.Ran idle turns) = states
could_by t states (what.Turned engine lost) = states
could_by t states (what.Preview stack forecast) = states
could_by t states what.Closed = states

-- from the one state that the token had at first, over the entries in order
abbrev pub could : (Token → TokenState) → List Entry → Token → List TokenState
could first h t = fold (λ (states : List TokenState) (e : Entry). could_by t states e.what) (first t ∷ []) h

-- from the state that the opening tells of the token
abbrev pub could_of : Opening → List Entry → Token → List TokenState
could_of o h t = could (first_of o) h t

-- no token's answers were such that no provider gives them
abbrev pub IsPossible : Opening → List Entry → Type 0
IsPossible o h = (t : Token) → could_of o h t ≢ []

-- each token of the cloud is in one of the states in which it may be
abbrev pub Allows : (Token → TokenState) → List Entry → Cloud → Type 0
Allows first h cloud = (t : Token) → Contains (could first h t) (state_of cloud t)
