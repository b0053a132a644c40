-- The main theorem: marked Complete is only what fits, every alive resource is named, and what has no mark still stirs.
use Rattle.std.specs.Prelude.{All, Bool, Contains, IsSome, List, None, Option, Some, [], false, length, slice_get, take}
use Rattle.std.specs.Prelude.{true, ℕ, ◌++◌, ◌+◌, ◌∷◌, ◌≡◌, ◌≢◌, ◌≤◌}
use Rattle.heat_value.specs.Data.{Members}
use Rattle.heat_plan.specs.Plans.{PlanData}
use Rattle.heat_plan.specs.declared.calls.Answered.{Answered}
use Rattle.heat_plan.specs.declared.calls.Request.{Request}
use Rattle.heat_plan.specs.declared.phase.Act.{Act}
use Rattle.heat_plan.specs.declared.phase.Act.TheVariants.{Rollback}
use Rattle.heat_plan.specs.declared.phase.Status.TheVariants.{Complete, Failed}
use Rattle.heat_plan.specs.declared.token.Token.{Token}
use Rattle.provider.specs.Table.{TokenState, after}
use Rattle.row_table.specs.Rows.{row_at}
use Rattle.row_table.specs.declared.row.Row.{Row}
use Rattle.mail_table.specs.Mails.{job_at}
use Rattle.core_state.specs.State.{StateData, stack_at}
use Rattle.core_state.specs.declared.entry.Actor.{Actor}
use Rattle.core_state.specs.declared.entry.Actor.TheVariants.{Engine}
use Rattle.core_state.specs.declared.entry.Cause.{Cause}
use Rattle.core_state.specs.declared.entry.Entry.{Entry}
use Rattle.core_state.specs.declared.entry.RowWrite.TheVariants.{Purge}
use Rattle.core_state.specs.declared.stack.Stack.{Stack}
use Rattle.step_relation.specs.Freshness.{plan_of}
use Rattle.step_relation.specs.Nexts.{NoLetters}
use Rattle.step_relation.specs.Orders.{row_limit}
use Rattle.step_relation.specs.Rows.{token_of}
use Rattle.step_relation.specs.Runs.{Judges, Run}
use Rattle.step_relation.specs.Writes.{entry_of}
use Rattle.step_relation.specs.Caused.{IsCaused}
use Rattle.step_relation.specs.Could.{could_of}
use Rattle.step_relation.specs.Fits.{Fits}
use Rattle.step_relation.specs.Last.{IsLast}
use Rattle.step_relation.specs.Marked.{Completed, FailedFor, Unmarked, mark_of}
use Rattle.step_relation.specs.Newest.{Latest, newest, rollback_of}
use Rattle.step_relation.specs.Opening.{Opening}
use Rattle.step_relation.specs.Policies.{MayBeReleased}
use Rattle.step_relation.specs.Stored.{stored}
use Rattle.step_relation.specs.Tokens.{IsNamed}
use Rattle.step_relation.specs.Agrees.{IsGoing, StateFits}
use Rattle.step_relation.specs.Stir.{EachStirs}
use Rattle.heat_plan.specs.declared.calls.Request.TheVariants as request
use Rattle.core_state.specs.declared.entry.What.TheVariants as what

-- what holds of the history so far
pub record AtPrefix (o : Opening) (h : List Entry) : Type 0 where
  -- where the newest traversal is marked Complete, what is alive is what its plan asks for
  pub complete : (stack : List ℕ) (it : Latest) → newest o h stack ≡ Some it → mark_of o h stack ≡ Some Completed
      → Fits o h stack (plan_of it.plan)
  -- every alive resource is named by a stored row
  pub named : IsNamed o h
  -- and what may be alive under a stored row's token fits the row
  pub rows : (n : ℕ) (r : Row) (state : TokenState) → row_at (stored o h) n ≡ Some r
      → Contains (could_of o h (token_of r)) state → StateFits r state

-- the traversal and its act are the stack's newest, and it has no mark yet
pub record IsOfNewest (o : Opening) (before : List Entry) (stack : List ℕ) (trav : ℕ) (act : Act) : Type 0 where
  pub it : Latest
  pub is_newest : newest o before stack ≡ Some it
  pub same : it.trav ≡ trav
  pub same_act : it.act ≡ act
  pub unmarked : mark_of o before stack ≡ Some Unmarked

-- a token is asked only what it may be: an update and a poll if it is alive; whether it is gone if it is gone or going
pub data MayBeAsked (states : List TokenState) : Request → Type 0 where
  create : (kind : List ℕ) (props : Members) → MayBeAsked states (request.Create kind props)
  update : (props : Members) → All IsSome states → MayBeAsked states (request.Update props)
  delete : MayBeAsked states request.Delete
  poll : All IsSome states → MayBeAsked states request.Poll
  gone : All IsGoing states → MayBeAsked states request.Gone

-- the entries end with a mark of the stack with a cause
pub record EndsFailed (before : List Entry) (actor : Actor) (stack : List ℕ) : Type 0 where
  pub earlier : List Entry
  pub trav : ℕ
  pub act : Act
  pub cause : Cause
  pub entries : before ≡ earlier ++ entry_of actor (what.Mark stack trav act (Some cause)) ∷ []

-- what an entry says, by the history before it
pub record FitsIn (o : Opening) (before : List Entry) (e : Entry) : Type 0 where
  -- only the newest traversal is marked, and once
  pub marks : (stack : List ℕ) (trav : ℕ) (act : Act) (cause : Option Cause)
      → e.what ≡ what.Mark stack trav act cause → IsOfNewest o before stack trav act
  -- what is marked Complete fitted before the mark
  pub completes : (stack : List ℕ) (trav : ℕ) (act : Act) (it : Latest) → e.what ≡ what.Mark stack trav act None
      → newest o before stack ≡ Some it → Fits o before stack (plan_of it.plan)
  -- a mark with a cause is caused
  pub causes : (stack : List ℕ) (trav : ℕ) (act : Act) (cause : Cause)
      → e.what ≡ what.Mark stack trav act (Some cause) → IsCaused o before e.by stack cause
  -- nobody is called for a stack that is marked Complete
  pub quiet : (token : Token) (request : Request) (given : Answered) → e.what ≡ what.Call token request given
      → mark_of o before token.stack ≢ Some Completed
  -- only what may be asked is asked
  pub asked : (token : Token) (request : Request) (given : Answered) → e.what ≡ what.Call token request given
      → MayBeAsked (could_of o before token) request
  -- a rollback has the last plan that was reached
  pub rolls : (stack : List ℕ) (trav : ℕ) (plan : Option PlanData) (rollback : Bool)
      → e.what ≡ what.Command stack trav Rollback plan rollback
      → (back : PlanData) × (plan ≡ Some back) × IsLast o before stack back
  -- a command by an engine is a rollback right behind its mark of a failure
  pub follows : (by_engine : ℕ) (stack : List ℕ) (trav : ℕ) (act : Act) (plan : Option PlanData) (rollback : Bool)
      → e ≡ entry_of (Engine by_engine) (what.Command stack trav act plan rollback)
      → (act ≡ Rollback) × EndsFailed before (Engine by_engine) stack
  -- only a retained row's token is given up, and once
  pub releases : (token : Token) → e.what ≡ what.Release token → MayBeReleased o before token

-- an entry and the one behind it, if there is one
pub record FollowedBy (e : Entry) (next : Option Entry) : Type 0 where
  -- the row of a token that is given up goes in the same step
  pub purges : (token : Token) → e.what ≡ what.Release token
      → next ≡ Some (entry_of e.by (what.Rows (Purge token.row ∷ [])))

-- a failure is rolled back where it was asked for: the command stands behind the mark
abbrev pub IsRolledBack : Opening → List Entry → List Entry → Type 0
IsRolledBack o before after = (actor : Actor) (stack : List ℕ) (trav : ℕ) (act : Act) (cause : Cause) (back : PlanData)
    (rest : List Entry)
    → after ≡ entry_of actor (what.Mark stack trav act (Some cause)) ∷ rest
    → rollback_of o before stack ≡ true
    → IsLast o before stack back → length (stored o before) + length back.items ≤ row_limit
    → (next : ℕ) × (more : List Entry)
    × (rest ≡ entry_of actor (what.Command stack next Rollback (Some back) false) ∷ more)

-- no letter waits, and no engine has a job
pub record IsIdleBook (s : StateData) : Type 0 where
  pub silent : NoLetters s
  pub jobless : (e : ℕ) → job_at s.jobs e ≡ None

-- a stack is complete, or failed for a cause that the history tells, or had failed before
pub data IsSettledAs (o : Opening) (h : List Entry) (st : Stack) : Type 0 where
  completed : st.status ≡ Complete → IsSettledAs o h st
  failed_since : (before after : List Entry) (e : Entry) (act : Act) (cause : Cause) → h ≡ before ++ e ∷ after
      → e.what ≡ what.Mark st.name st.trav act (Some cause) → IsCaused o before e.by st.name cause → IsSettledAs o h st
  failed_before : st.status ≡ Failed → mark_of o h st.name ≡ Some (FailedFor None) → IsSettledAs o h st

-- the main theorem of a history: what holds at each prefix, at each entry, and in the state at its end
pub record Headline (registries : List Judges) (o : Opening) (h : List Entry) (s : StateData) : Type 0 where
  pub prefixes : (n : ℕ) → n ≤ length h → AtPrefix o (take n h)
  pub entries : (n : ℕ) (e : Entry) → slice_get h n ≡ Some e → FitsIn o (take n h) e
  pub pairs : (n : ℕ) (e : Entry) → slice_get h n ≡ Some e → FollowedBy e (slice_get h (n + 1))
  pub rolled_back : (before after : List Entry) → h ≡ before ++ after → IsRolledBack o before after
  -- a stack without a mark stirs, now and after every step that led here
  pub stirs : EachStirs s
  pub stirred : (n : ℕ) (mid : StateData) → n ≤ length h → Run registries o.state mid (take n h) → EachStirs mid
  -- where nothing is left to do every stack is marked, and complete unless it failed for a cause
  pub settled : IsIdleBook s → (name : List ℕ) (st : Stack) → stack_at s.stacks name ≡ Some st → IsSettledAs o h st
