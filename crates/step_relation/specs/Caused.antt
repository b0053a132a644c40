-- Why a traversal was marked with a cause: an answer in the same step, or a fault of the plan.
use Rattle.std.specs.List.{AllZip}
use Rattle.std.specs.Prelude.{Contains, List, Some, ℕ, ◌++◌, ◌∷◌, ◌≡◌, ◌≤◌}
use Rattle.heat_value.specs.declared.path.Step.{Step}
use Rattle.heat_plan.specs.declared.calls.Answered.{Answered}
use Rattle.heat_plan.specs.declared.calls.Request.{Request}
use Rattle.heat_plan.specs.declared.facts.KnownFacts.{KnownFacts}
use Rattle.heat_plan.specs.declared.item.Item.{Item}
use Rattle.heat_plan.specs.declared.phase.Act.{Act}
use Rattle.heat_plan.specs.declared.token.Token.{Token}
use Rattle.provider.specs.Table.{Living}
use Rattle.row_table.specs.Rows.{row_at}
use Rattle.row_table.specs.declared.row.Row.{Row}
use Rattle.core_state.specs.Reads.{item_at}
use Rattle.core_state.specs.declared.entry.Actor.{Actor}
use Rattle.core_state.specs.declared.entry.Cause.{Cause}
use Rattle.core_state.specs.declared.entry.Entry.{Entry}
use Rattle.core_state.specs.declared.entry.MailWrite.{MailWrite}
use Rattle.core_state.specs.declared.entry.RowWrite.{RowWrite}
use Rattle.core_state.specs.declared.entry.Why.{Why}
use Rattle.eval_words.specs.Resolve.{Fault, resolve}
use Rattle.step_relation.specs.Freshness.{plan_of}
use Rattle.step_relation.specs.Writes.{entry_of, mail_entry, rows_entry}
use Rattle.step_relation.specs.Could.{could_of}
use Rattle.step_relation.specs.Newest.{Latest, newest}
use Rattle.step_relation.specs.Opening.{Opening}
use Rattle.step_relation.specs.Stored.{stored}
use Rattle.step_relation.specs.Tokens.{token_at, tokens_of}
use Rattle.heat_plan.specs.declared.calls.Answered.TheVariants as answer
use Rattle.core_state.specs.declared.entry.What.TheVariants as what
use Rattle.core_state.specs.declared.entry.Why.TheVariants as why

-- the entries end with a call and what its step wrote
pub record EndsWithCall (actor : Actor) (before : List Entry) (token : Token) (request : Request)
    (given : Answered) : Type 0 where
  pub earlier : List Entry
  pub rows : List RowWrite
  pub mail : List MailWrite
  pub entries : before ≡ earlier ++ entry_of actor (what.Call token request given)
      ∷ (rows_entry actor rows ++ mail_entry actor mail)

-- the answer is the reason, where the row's act is this
pub data Blames (act : Act) : Answered → Why → Type 0 where
  by_quota : Blames act answer.Quota why.Quota
  by_failure : Blames act answer.Failed (why.Failed act)
  by_code : (code : List ℕ) → Blames act (answer.Broken code) (why.Broken act code)

-- the call of the same step is for the cause's row, and its answer is the reason
pub record CausedByCall (o : Opening) (before : List Entry) (actor : Actor) (stack : List ℕ)
    (cause : Cause) : Type 0 where
  pub request : Request
  pub given : Answered
  pub call : EndsWithCall actor before (token_at stack cause.name cause.row) request given
  pub row : Row
  pub found : row_at (stored o before) cause.row ≡ Some row
  pub blames : Blames row.act given cause.why

-- the facts of the alive token of that name with the greatest row number
pub record IsLastFactOf (o : Opening) (h : List Entry) (stack need : List ℕ) (known : KnownFacts) : Type 0 where
  pub named : known.name ≡ need
  pub row : ℕ
  pub alive : tokens_of o h stack (token_at stack need row)
  pub it : Living
  pub state : Contains (could_of o h (token_at stack need row)) (Some it)
  pub facts : it.facts ≡ Some known.facts
  pub greatest : (other : ℕ) → tokens_of o h stack (token_at stack need other) → other ≤ row

-- the step called nobody, and the item of the newest plan has that fault
pub record CausedByPlan (o : Opening) (before : List Entry) (actor : Actor) (stack : List ℕ)
    (cause : Cause) : Type 0 where
  pub silent : (token : Token) (request : Request) (given : Answered)
      → ¬ EndsWithCall actor before token request given
  pub latest : Latest
  pub is_newest : newest o before stack ≡ Some latest
  pub item : Item
  pub asked : item_at (plan_of latest.plan).items cause.name ≡ Some item
  pub known : List KnownFacts
  pub needs_are : AllZip (IsLastFactOf o before stack) item.needs known
  pub code : List ℕ
  pub path : List Step
  pub fault : resolve (plan_of latest.plan) item known ≡ Fault code path
  pub reason : cause.why ≡ why.Resolve code path

-- one of the two
pub data IsCaused (o : Opening) (before : List Entry) (actor : Actor) (stack : List ℕ) (cause : Cause) : Type 0 where
  by_call : CausedByCall o before actor stack cause → IsCaused o before actor stack cause
  by_plan : CausedByPlan o before actor stack cause → IsCaused o before actor stack cause
