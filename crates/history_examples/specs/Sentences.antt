-- The main theorem's sentences on one entry and on the moment behind it, each by its name.
use Rattle.std.specs.Prelude.{Bool, Contains, List, None, Option, Some, [], ℕ, ◌++◌, ◌∷◌, ◌↔◌, ◌≡◌, ◌≢◌}
use Rattle.heat_plan.specs.Plans.{PlanData}
use Rattle.heat_plan.specs.declared.calls.Answered.{Answered}
use Rattle.heat_plan.specs.declared.calls.Request.{Request}
use Rattle.heat_plan.specs.declared.phase.Act.{Act}
use Rattle.heat_plan.specs.declared.phase.Act.TheVariants.{Rollback}
use Rattle.heat_plan.specs.declared.token.Token.{Token}
use Rattle.provider.specs.Table.{TokenState}
use Rattle.row_table.specs.Rows.{row_at}
use Rattle.row_table.specs.declared.row.Row.{Row}
use Rattle.core_state.specs.declared.entry.Actor.TheVariants.{Engine}
use Rattle.core_state.specs.declared.entry.Cause.{Cause}
use Rattle.core_state.specs.declared.entry.Entry.{Entry}
use Rattle.step_relation.specs.Freshness.{plan_of}
use Rattle.step_relation.specs.Rows.{token_of}
use Rattle.step_relation.specs.Writes.{entry_of}
use Rattle.step_relation.specs.Caused.{IsCaused}
use Rattle.step_relation.specs.Could.{could_of}
use Rattle.step_relation.specs.Fits.{Fits}
use Rattle.step_relation.specs.Last.{IsLast}
use Rattle.step_relation.specs.Marked.{Completed, mark_of}
use Rattle.step_relation.specs.Newest.{Latest, newest}
use Rattle.step_relation.specs.Opening.{Opening}
use Rattle.step_relation.specs.Stored.{stored}
use Rattle.step_relation.specs.Tokens.{IsNamed}
use Rattle.step_relation.specs.Agrees.{StateFits}
use Rattle.step_relation.specs.Headline.{AtPrefix, EndsFailed, FitsIn, IsOfNewest, MayBeAsked}
use Rattle.step_relation.specs.Policies.{MayBeReleased}
use Rattle.core_state.specs.declared.entry.What.TheVariants as what

-- the sentences, first those of an entry and then those of the moment behind it
pub data Sentence : Type 0 where
  -- of an entry
  Marks : Sentence
  Completes : Sentence
  Causes : Sentence
  Quiet : Sentence
  Asked : Sentence
  Rolls : Sentence
  Follows : Sentence
  Releases : Sentence
  -- of the moment behind it
  CompleteFits : Sentence
  Named : Sentence
  Rows : Sentence

-- the sentence holds of the entry behind this history
abbrev pub Holds : Sentence → Opening → List Entry → Entry → Type 0
Holds Marks o before e = (stack : List ℕ) (trav : ℕ) (act : Act) (cause : Option Cause)
    → e.what ≡ what.Mark stack trav act cause → IsOfNewest o before stack trav act
Holds Completes o before e = (stack : List ℕ) (trav : ℕ) (act : Act) (it : Latest)
    → e.what ≡ what.Mark stack trav act None
    → newest o before stack ≡ Some it → Fits o before stack (plan_of it.plan)
Holds Causes o before e = (stack : List ℕ) (trav : ℕ) (act : Act) (cause : Cause)
    → e.what ≡ what.Mark stack trav act (Some cause) → IsCaused o before e.by stack cause
Holds Quiet o before e = (token : Token) (request : Request) (given : Answered) → e.what ≡ what.Call token request given
    → mark_of o before token.stack ≢ Some Completed
Holds Asked o before e = (token : Token) (request : Request) (given : Answered) → e.what ≡ what.Call token request given
    → MayBeAsked (could_of o before token) request
Holds Rolls o before e = (stack : List ℕ) (trav : ℕ) (plan : Option PlanData) (rollback : Bool)
    → e.what ≡ what.Command stack trav Rollback plan rollback
    → (back : PlanData) × (plan ≡ Some back) × IsLast o before stack back
Holds Follows o before e = (by_engine : ℕ) (stack : List ℕ) (trav : ℕ) (act : Act) (plan : Option PlanData)
    (rollback : Bool)
    → e ≡ entry_of (Engine by_engine) (what.Command stack trav act plan rollback)
    → (act ≡ Rollback) × EndsFailed before (Engine by_engine) stack
Holds Releases o before e = (token : Token) → e.what ≡ what.Release token → MayBeReleased o before token
Holds CompleteFits o before e = (stack : List ℕ) (it : Latest) → newest o (before ++ e ∷ []) stack ≡ Some it
    → mark_of o (before ++ e ∷ []) stack ≡ Some Completed → Fits o (before ++ e ∷ []) stack (plan_of it.plan)
Holds Named o before e = IsNamed o (before ++ e ∷ [])
Holds Rows o before e = (n : ℕ) (r : Row) (state : TokenState) → row_at (stored o (before ++ e ∷ [])) n ≡ Some r
    → Contains (could_of o (before ++ e ∷ []) (token_of r)) state → StateFits r state

-- they are all that the main theorem says of it
abbrev pub SentencesAreAll : Type 0
SentencesAreAll = (o : Opening) (before : List Entry) (e : Entry)
    → ((x : Sentence) → Holds x o before e) ↔ (FitsIn o before e × AtPrefix o (before ++ e ∷ []))
