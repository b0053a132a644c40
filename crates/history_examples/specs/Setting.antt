-- What every example speaks of: one stack with one resource, and two engines over an empty cloud.
use Rattle.std.specs.Prelude.{List, Option, [], codes, false, pos, ℕ, ◌∷◌}
use Rattle.heat_value.specs.Data.{Members, member, no_members, whole}
use Rattle.heat_plan.specs.Plans.{PlanData}
use Rattle.heat_plan.specs.declared.facts.Facts.{Facts}
use Rattle.heat_plan.specs.declared.item.Item.{Item}
use Rattle.heat_plan.specs.declared.item.Policy.{Policy}
use Rattle.heat_plan.specs.declared.item.Policy.TheVariants.{Delete}
use Rattle.heat_plan.specs.declared.kind.Kind.{Kind}
use Rattle.heat_plan.specs.declared.token.Token.{Token}
use Rattle.mail_table.specs.declared.mail.Job.{Job}
use Rattle.mail_table.specs.declared.mail.Letter.{Letter}
use Rattle.mail_table.specs.declared.mail.Stage.{Stage}
use Rattle.core_state.specs.declared.entry.Actor.{Actor}
use Rattle.core_state.specs.declared.entry.Actor.TheVariants.{Engine}
use Rattle.core_state.specs.declared.entry.Entry.{Entry}
use Rattle.core_state.specs.declared.entry.MailWrite.{MailWrite}
use Rattle.core_state.specs.declared.entry.RowWrite.{RowWrite}
use Rattle.core_state.specs.declared.entry.What.{What}
use Rattle.provider.specs.Table.{Living}
use Rattle.step_relation.specs.Runs.{Judges}
use Rattle.step_relation.specs.Unjudged.{unjudged}
use Rattle.step_relation.specs.Opening.{Opening, empty_opening}
use Rattle.core_state.specs.declared.entry.What.TheVariants as what

-- the stack and its resource
abbrev pub stack_name : List ℕ
stack_name = codes "s"

-- the name of the resource
abbrev pub item_name : List ℕ
item_name = codes "a"

-- a kind of which no property changes in place
abbrev pub box : Kind
box = record { name = codes "Box"; attrs = []; soft = [] }

-- properties that are a size alone
abbrev pub sized : ℕ → Members
sized size = member (codes "size") (whole (pos size)) no_members

-- the plan of one resource, of this policy and this size
abbrev pub item_under : Policy → ℕ → Item
item_under policy size = record { name = item_name; kind = box; props = sized size; needs = []; policy = policy }

-- the plan of that resource alone
abbrev pub plan_under : Policy → ℕ → PlanData
plan_under policy size = record {
  items = item_under policy size ∷ [];
  outputs = [];
  params = no_members;
  conds = [];
  files = [];
  absent = [];
}

-- which is deleted where it isn't planned any more, but in one example
abbrev pub item : ℕ → Item
item = item_under Delete

-- the plan of that resource
abbrev pub plan : ℕ → PlanData
plan = plan_under Delete

-- what the cloud tells of the resource that is ready, and the token of a row
abbrev pub facts : Facts
facts = record { id = codes "sim-1"; attrs = no_members }

-- the token of the row of this number
abbrev pub token : ℕ → Token
token row = record { stack = stack_name; name = item_name; row = row }

-- the resource in the cloud
abbrev pub living : ℕ → Option Facts → Living
living size told = record { kind = codes "Box"; props = sized size; facts = told; leaving = false }

-- two engines are live, nothing stands, and nothing is alive
abbrev pub opening : Opening
opening = empty_opening 2 (λ t. false)

-- one registry, without a judge
abbrev pub registries : List Judges
registries = unjudged ∷ []

-- a letter to a node of a traversal, and a job at it
abbrev pub letter : ℕ → ℕ → ℕ → Letter
letter number trav node = record { no = number; stack = stack_name; trav = trav; node = node }

-- an engine's job of a letter, at a row and a stage
abbrev pub job : ℕ → Letter → ℕ → Stage → Job
job e l row stage = record { engine = e; letter = l; row = row; stage = stage }

-- entries
abbrev pub says : Actor → What → Entry
says actor it = record { by = actor; what = it }

-- what an engine tells of rows
abbrev pub row_writes : ℕ → List RowWrite → Entry
row_writes e writes = says (Engine e) (what.Rows writes)

-- what an engine tells of letters and jobs
abbrev pub mail_writes : ℕ → List MailWrite → Entry
mail_writes e writes = says (Engine e) (what.Mail writes)
