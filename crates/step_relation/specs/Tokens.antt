-- Which tokens are alive, and which are certain.
use Rattle.std.specs.Prelude.{Contains, List, Some, [], ℕ, ◌∷◌, ◌≡◌, ◌≢◌}
use Rattle.heat_plan.specs.declared.phase.Act.TheVariants.{Init}
use Rattle.heat_plan.specs.declared.token.Token.{Token}
use Rattle.provider.specs.Table.{Living, TokenState}
use Rattle.row_table.specs.Rows.{row_at}
use Rattle.row_table.specs.declared.row.Row.{Row}
use Rattle.core_state.specs.declared.entry.Entry.{Entry}
use Rattle.step_relation.specs.Rows.{token_of}
use Rattle.step_relation.specs.Could.{could_of}
use Rattle.step_relation.specs.Opening.{Opening}
use Rattle.step_relation.specs.Stored.{released, stored}

-- the token of a row's stack, name and number
abbrev pub token_at : List ℕ → List ℕ → ℕ → Token
token_at stack name row = record { stack = stack; name = name; row = row }

-- one of the states is alive
pub record MayLive (states : List TokenState) : Type 0 where
  pub it : Living
  pub among : Contains states (Some it)

-- it may live, and the engine didn't give it up
pub record IsAlive (o : Opening) (h : List Entry) (t : Token) : Type 0 where
  pub lives : MayLive (could_of o h t)
  pub owned : ¬ Contains (released o h) t

-- there is one state
pub record IsCertain (states : List TokenState) : Type 0 where
  pub state : TokenState
  pub alone : states ≡ state ∷ []

-- the tokens of the stack that are alive
abbrev pub tokens_of : Opening → List Entry → List ℕ → Token → Type 0
tokens_of o h stack t = (t.stack ≡ stack) × IsAlive o h t

-- a stored row that isn't at INIT has this token
pub record HasRow (o : Opening) (h : List Entry) (t : Token) : Type 0 where
  pub row : Row
  pub found : row_at (stored o h) t.row ≡ Some row
  pub its : token_of row ≡ t
  pub begun : row.act ≢ Init

-- every alive token is that of a stored row that isn't at INIT
abbrev pub IsNamed : Opening → List Entry → Type 0
IsNamed o h = (t : Token) → IsAlive o h t → HasRow o h t
