-- What an image asks of each record, and of two records with one number.
use Rattle.std.specs.Prelude.{All, Contains, IsSome, List, Some, ℕ, ◌<◌, ◌≡◌, ◌≢◌}
use Rattle.heat_plan.specs.declared.phase.Act.TheVariants.{Update}
use Rattle.heat_plan.specs.declared.phase.Status.TheVariants.{InProgress}
use Rattle.heat_plan.specs.declared.token.Token.{Token}
use Rattle.core_state.specs.declared.Node.{Node}
use Rattle.row_table.specs.Rows.{row_at}
use Rattle.core_state.specs.declared.Row.{Row}
use Rattle.core_state.specs.declared.Input.{Input}
use Rattle.core_state.specs.declared.Point.{Point}
use Rattle.mail_table.specs.Mails.{job_at}
use Rattle.core_state.specs.declared.Job.{Job}
use Rattle.core_state.specs.State.{StateData, stack_at}
use Rattle.step_relation.specs.Linked.{IsReplacedBy}
use Rattle.step_relation.specs.Numbered.{AllBelow, BelowIfThere, GraphBelow, JobBelow, LetterBelow, RowBelow}
use Rattle.step_relation.specs.Numbered.{StackBelow, row_of}
use Rattle.step_relation.specs.Rows.{token_of}

-- the row of a node is below a number
abbrev pub HasLowRow : ℕ → Node → Type 0
HasLowRow next node = row_of node < next

-- the rows of a point's inputs are
abbrev pub HasLowInputs : ℕ → Point → Type 0
HasLowInputs next p = All (λ (x : Input). x.row < next) p.inputs

-- the row's number, its traversal and its engine are below the next ones
pub record OwnBelow (row trav engine : ℕ) (r : Row) : Type 0 where
  pub no_ : r.no < row
  pub newest : r.trav < trav
  pub holder : BelowIfThere engine r.engine

-- the rows that it names are
pub record NamedBelow (next : ℕ) (r : Row) : Type 0 where
  pub required : AllBelow next r.requires_
  pub replaces : BelowIfThere next r.replaces
  pub replaced_by : BelowIfThere next r.replaced_by

-- the row that replaced it has a greater number, and tells of it where it stands
pub record LeadsOn (rows : List Row) (r : Row) : Type 0 where
  pub rises : (m : ℕ) → r.replaced_by ≡ Some m → r.no < m
  pub forth : (m : ℕ) (q : Row) → r.replaced_by ≡ Some m → row_at rows m ≡ Some q → IsReplacedBy r q

-- the row that it replaced tells of it where that stands
abbrev pub LeadsBack : List Row → Row → Type 0
LeadsBack rows r = (n : ℕ) (q : Row) → r.replaces ≡ Some n → row_at rows n ≡ Some q → IsReplacedBy q r

pub record IsChained (rows : List Row) (r : Row) : Type 0 where
  pub on : LeadsOn rows r
  pub back : LeadsBack rows r

-- its engine's job is at it
abbrev pub IsHeld : List Job → Row → Type 0
IsHeld jobs r = (e : ℕ) → r.engine ≡ Some e → (j : Job) × (job_at jobs e ≡ Some j) × (j.row ≡ r.no)

-- while it is updated it has the properties that it is to get
abbrev pub HasTarget : Row → Type 0
HasTarget r = r.act ≡ Update → r.status ≡ InProgress → IsSome r.target

pub record IsTiedRow (s : StateData) (r : Row) : Type 0 where
  pub stack : IsSome (stack_at s.stacks r.stack)
  pub below : RowBelow s.next.row s.next.trav s.next.engine r
  pub chained : IsChained s.rows r
  pub held : IsHeld s.jobs r
  pub target : HasTarget r

-- the row is the engine's
abbrev pub Holds : List Row → Job → Type 0
Holds rows j = (r : Row) → row_at rows j.row ≡ Some r → r.engine ≡ Some j.engine

pub record IsTiedJob (s : StateData) (j : Job) : Type 0 where
  pub below : JobBelow s.next.engine s.next.row s.next.letter s.next.trav j
  pub holds : Holds s.rows j

-- a released token is no row's, and its number was drawn
pub record IsFree (s : StateData) (t : Token) : Type 0 where
  pub below : t.row < s.next.row
  pub rowless : (r : Row) → row_at s.rows t.row ≡ Some r → token_of r ≢ t

-- each record alone
pub record AreTied (s : StateData) : Type 0 where
  pub stacks : All (StackBelow s.next.stack s.next.trav) s.stacks
  pub graphs : All (GraphBelow s.next.row) s.graphs
  pub rows : All (IsTiedRow s) s.rows
  pub letters : All (LetterBelow s.next.letter s.next.trav) s.letters
  pub jobs : All (IsTiedJob s) s.jobs
  pub live : All (λ (e : ℕ). e < s.next.engine) s.live
  pub released : All (IsFree s) s.released

-- no two jobs have one row
abbrev pub AreApart : List Job → Type 0
AreApart jobs = (e f : ℕ) (j k : Job) → job_at jobs e ≡ Some j → job_at jobs f ≡ Some k → j.row ≡ k.row → e ≡ f

-- what has one number is one thing
abbrev pub IsSingleBy : {A B : Type 0} → (A → ℕ) → (A → B) → List A → Type 0
IsSingleBy {A} number what xs = (a b : A) → Contains xs a → Contains xs b → number a ≡ number b → what a ≡ what b
