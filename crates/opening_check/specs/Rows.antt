-- What the list shows of a row, and the lowest row of which it shows something else.
use Rattle.std.specs.Prelude.{Bool, IfSome, IsSome, List, None, Option, Some, ℕ, ◌<◌, ◌≡◌, ◌≢◌, ◌⊎◌, cond, find, nat_lt, option_map, slice_get, unwrap_or}
use Rattle.heat_plan.specs.declared.phase.Act.TheVariants.{Create, Init, Update}
use Rattle.heat_plan.specs.declared.phase.Status.TheVariants.{Complete, InProgress}
use Rattle.heat_plan.specs.declared.token.Token.{Token}
use Rattle.provider.specs.Cloud.{living_of}
use Rattle.provider.specs.Same.{same_token}
use Rattle.provider.specs.Table.{Living, TokenState}
use Rattle.provider.specs.declared.alive.Alive.{Alive}
use Rattle.row_table.specs.Rows.{row_at}
use Rattle.row_table.specs.declared.row.Row.{Row}
use Rattle.step_relation.specs.Agrees.{IsAliveAs}
use Rattle.step_relation.specs.Compared.{IsListedReady}
use Rattle.step_relation.specs.Rows.{token_of}
use Rattle.opening_check.specs.declared.finding.Finding.{Finding}
use Rattle.opening_check.specs.declared.finding.Finding.TheVariants.{Differs, Missing}

-- the resource that is listed under a token
abbrev pub listed_of : List Alive → Token → Option Alive
listed_of all t = find (λ (a : Alive). same_token a.token t) all

-- a listed resource as a state
abbrev pub shown_of : Bool → Option Alive → TokenState
shown_of leaving found = option_map (living_of leaving) found

-- the facts that are shown are the row's, and it has some
pub record TellsFacts (r : Row) (state : TokenState) : Type 0 where
  pub it : Living
  pub shown : state ≡ Some it
  pub facts : it.facts ≡ r.facts
  pub some : IsSome r.facts

-- shown with the row's properties, or with those that it is to have
abbrev pub IsEither : Row → TokenState → Type 0
IsEither r state = IsAliveAs r r.props state ⊎ IsAliveAs r (unwrap_or r.target r.props) state

-- what is listed is as the row has it
pub record IsShown (r : Row) (state : TokenState) : Type 0 where
  pub ready : r.status ≡ Complete → r.act ≢ Init → IsListedReady r state
  pub creating : r.act ≡ Create → r.status ≡ InProgress → (state ≡ None) ⊎ IsAliveAs r r.props state
  pub updating : r.act ≡ Update → r.status ≡ InProgress → IsEither r state

-- whatever is leaving: that isn't listed
abbrev pub IsShownIn : List Alive → Row → Type 0
IsShownIn all r = (leaving : Bool) → IsShown r (shown_of leaving (listed_of all (token_of r)))

-- what is found at a row of which the list shows something else
abbrev pub finding_of : Option Alive → Finding
finding_of None = Missing
finding_of (Some a) = Differs

-- the one at the lower row
abbrev pub lower_of : Option (Token × Finding) → Token × Finding → Token × Finding
lower_of None next = next
lower_of (Some other) next = cond (nat_lt next.0.row other.0.row) next other

-- a row's token, and what is found at it, though nothing is at any lower of the first so many rows
pub record IsFound (all : List Alive) (rows : List Row) (seen : ℕ) (found : Token × Finding) : Type 0 where
  pub row : Row
  pub stands : row_at rows found.0.row ≡ Some row
  pub its : token_of row ≡ found.0
  pub unlike : (leaving : Bool) → ¬ IsShown row (shown_of leaving (listed_of all found.0))
  pub finding : found.1 ≡ finding_of (listed_of all found.0)
  pub lowest : (m : ℕ) (r : Row) → m < seen → slice_get rows m ≡ Some r → row_at rows r.no ≡ Some r
      → r.no < found.0.row → IsShownIn all r

-- of the first so many rows, none is unlike what is shown, or this is found
pub record IsLowest (all : List Alive) (rows : List Row) (seen : ℕ) (first : Option (Token × Finding)) : Type 0 where
  pub none : first ≡ None → (m : ℕ) (r : Row) → m < seen → slice_get rows m ≡ Some r → row_at rows r.no ≡ Some r
      → IsShownIn all r
  pub some : IfSome first (IsFound all rows seen)

-- what one more row comes to
pub data Considers (all : List Alive) (rows : List Row) (seen : Row) (first next : Option (Token × Finding)) : Type 0 where
  agrees : next ≡ first → ((r : Row) → row_at rows seen.no ≡ Some r → IsShownIn all r) → Considers all rows seen first next
  differs : (r : Row) → row_at rows seen.no ≡ Some r
      → ((leaving : Bool) → ¬ IsShown r (shown_of leaving (listed_of all (token_of r))))
      → next ≡ Some (lower_of first (token_of r, finding_of (listed_of all (token_of r)))) → Considers all rows seen first next
