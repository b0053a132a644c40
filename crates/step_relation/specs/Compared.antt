-- The comparison of an opening's rows with the cloud's list: what it finds first, or that it finds nothing.
use Rattle.std.specs.Prelude.{All, Contains, IsSome, List, None, Some, unwrap_or, ℕ, ◌++◌, ◌<◌, ◌∷◌, ◌≡◌, ◌≢◌, ◌⊎◌}
use Rattle.heat_plan.specs.declared.phase.Act.TheVariants.{Create, Init, Update}
use Rattle.heat_plan.specs.declared.phase.Status.TheVariants.{Complete, InProgress}
use Rattle.heat_plan.specs.declared.token.Token.{Token}
use Rattle.provider.specs.Table.{Living, TokenState}
use Rattle.provider.specs.declared.alive.Alive.{Alive}
use Rattle.row_table.specs.Rows.{row_at}
use Rattle.row_table.specs.declared.row.Row.{Row}
use Rattle.core_state.specs.State.{StateData}
use Rattle.step_relation.specs.Rows.{token_of}
use Rattle.step_relation.specs.Opening.{Opening, first_of}
use Rattle.step_relation.specs.Agrees.{IsAliveAs, IsReadyAs}

-- listed as ready, with the row's kind, properties and facts
pub record IsListedReady (r : Row) (state : TokenState) : Type 0 where
  pub as_it_is : IsReadyAs r state
  pub facts : IsSome r.facts

-- what the cloud's list shows of a row's token: absent, or the state in which it is
pub record IsListed (o : Opening) (r : Row) : Type 0 where
  -- a row that is complete is listed as it is
  pub ready : r.status ≡ Complete → r.act ≢ Init → IsListedReady r (first_of o (token_of r))
  -- one that is being created isn't listed, or as it is
  pub creating : r.act ≡ Create → r.status ≡ InProgress
      → (first_of o (token_of r) ≡ None) ⊎ IsAliveAs r r.props (first_of o (token_of r))
  -- one that is being updated is listed with its properties, or with those that it is to have
  pub updating : r.act ≡ Update → r.status ≡ InProgress
      → IsAliveAs r r.props (first_of o (token_of r)) ⊎ IsAliveAs r (unwrap_or r.target r.props)
      (first_of o (token_of r))

-- what is listed is a row's that isn't at INIT
pub record IsKnown (s : StateData) (t : Token) : Type 0 where
  pub row : Row
  pub found : row_at s.rows t.row ≡ Some row
  pub its : token_of row ≡ t
  pub begun : row.act ≢ Init

-- or was given up
abbrev pub IsExpected : StateData → Token → Type 0
IsExpected s t = IsKnown s t ⊎ Contains s.released t

-- the comparison of the rows with the cloud's list, and of that with the rows, finds nothing
pub record FindsNothing (o : Opening) : Type 0 where
  pub rows : (n : ℕ) (r : Row) → row_at o.state.rows n ≡ Some r → IsListed o r
  pub list : (t : Token) → IsSome (first_of o t) → IsExpected o.state t

-- each row of a lower number is listed as it has to be
abbrev pub ListsBelow : Opening → ℕ → Type 0
ListsBelow o n = (m : ℕ) (q : Row) → row_at o.state.rows m ≡ Some q → m < n → IsListed o q

-- by rising number, this row is the first that isn't listed as it has to be
pub record IsFirstUnlisted (o : Opening) (t : Token) : Type 0 where
  pub row : Row
  pub found : row_at o.state.rows t.row ≡ Some row
  pub its : token_of row ≡ t
  pub unlisted : ¬ IsListed o row
  pub first : ListsBelow o t.row

-- the first finding is a row that has to be listed and isn't
pub record FindsMissing (o : Opening) (t : Token) : Type 0 where
  pub row : IsFirstUnlisted o t
  pub absent : first_of o t ≡ None

-- it is a row that is listed as another
pub record FindsDiffering (o : Opening) (t : Token) : Type 0 where
  pub row : IsFirstUnlisted o t
  pub listed : Living
  pub differs : first_of o t ≡ Some listed

-- each row is listed as it has to be, and the first finding is what stands in the list for no row
pub record FindsStranger (o : Opening) (t : Token) : Type 0 where
  pub rows : (n : ℕ) (r : Row) → row_at o.state.rows n ≡ Some r → IsListed o r
  pub before : List Alive
  pub it : Alive
  pub behind : List Alive
  pub list : o.alive ≡ before ++ it ∷ behind
  pub its : it.token ≡ t
  pub strange : ¬ IsExpected o.state t
  pub first : All (λ (a : Alive). IsExpected o.state a.token) before
