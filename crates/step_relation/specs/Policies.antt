-- Where a row's policy comes from: the plan of its last begin, by the history alone, or the opening; and which token
-- may be given up.
use Rattle.std.specs.Prelude.{Contains, List, Option, Some, ℕ, ◌≡◌, ◌≢◌}
use Rattle.heat_plan.specs.Plans.{PlanData}
use Rattle.heat_plan.specs.declared.item.Item.{Item}
use Rattle.heat_plan.specs.declared.item.Policy.{Policy}
use Rattle.heat_plan.specs.declared.item.Policy.TheVariants.{Retain}
use Rattle.heat_plan.specs.declared.phase.Act.TheVariants.{Delete}
use Rattle.heat_plan.specs.declared.token.Token.{Token}
use Rattle.row_table.specs.Rows.{row_at}
use Rattle.row_table.specs.declared.row.Row.{Row}
use Rattle.core_state.specs.Reads.{item_at}
use Rattle.core_state.specs.State.{StateData, stack_at}
use Rattle.core_state.specs.declared.entry.Entry.{Entry}
use Rattle.core_state.specs.declared.stack.Stack.{Stack}
use Rattle.step_relation.specs.Freshness.{plan_of}
use Rattle.step_relation.specs.Rows.{token_of}
use Rattle.step_relation.specs.Last.{IsCommandOf}
use Rattle.step_relation.specs.Newest.{Latest}
use Rattle.step_relation.specs.Opening.{Opening}
use Rattle.step_relation.specs.Stored.{released, stored}

-- the plan's item of this name has the policy
pub record HasPolicy (plan : Option PlanData) (name : List ℕ) (policy : Policy) : Type 0 where
  pub item : Item
  pub asked : item_at (plan_of plan).items name ≡ Some item
  pub its : item.policy ≡ policy

-- the history has the command of the row's traversal, and the item of the row's name in its plan has the row's policy
pub record IsCommanded (h : List Entry) (r : Row) : Type 0 where
  pub entry : Entry
  pub among : Contains h entry
  pub it : Latest
  pub command : IsCommandOf r.stack entry it
  pub trav : it.trav ≡ r.trav
  pub policy : HasPolicy it.plan r.name r.policy

-- the history has no command of the row's traversal
abbrev pub IsUnheard : List Entry → Row → Type 0
IsUnheard h r = (e : Entry) (it : Latest) → Contains h e → IsCommandOf r.stack e it → it.trav ≢ r.trav

-- the opening's stack was in the row's traversal, and the item of the row's name in its plan has the row's policy
pub record IsPlanned (o : Opening) (r : Row) : Type 0 where
  pub stack : Stack
  pub found : stack_at o.state.stacks r.stack ≡ Some stack
  pub trav : stack.trav ≡ r.trav
  pub policy : HasPolicy stack.plan r.name r.policy

-- the row stood in the opening, with its traversal and policy
pub record StoodSo (o : Opening) (r : Row) : Type 0 where
  pub row : Row
  pub found : row_at o.state.rows r.no ≡ Some row
  pub its : token_of row ≡ token_of r
  pub trav : row.trav ≡ r.trav
  pub policy : row.policy ≡ r.policy

-- the row's policy is that of the command of its traversal; where none was heard, that of the plan with which the
-- opening was in that traversal, or the opening's row had it
pub data HasPolicyFrom (o : Opening) (h : List Entry) (r : Row) : Type 0 where
  commanded : IsCommanded h r → HasPolicyFrom o h r
  planned : IsUnheard h r → IsPlanned o r → HasPolicyFrom o h r
  stood : IsUnheard h r → StoodSo o r → HasPolicyFrom o h r

-- so it is of every row that isn't at DELETE
pub record PoliciesFit (o : Opening) (h : List Entry) (s : StateData) : Type 0 where
  pub each : (n : ℕ) (r : Row) → row_at s.rows n ≡ Some r → r.act ≢ Delete → HasPolicyFrom o h r

-- a stored row with the policy Retain, which its last begin took from its plan; its token wasn't given up before
pub record MayBeReleased (o : Opening) (before : List Entry) (t : Token) : Type 0 where
  pub row : Row
  pub found : row_at (stored o before) t.row ≡ Some row
  pub its : token_of row ≡ t
  pub retained : row.policy ≡ Retain
  pub planned : HasPolicyFrom o before row
  pub once : ¬ Contains (released o before) t
