-- The first row of the stack, moment by moment.
use Rattle.std.specs.Prelude.{None, Some, []}
use Rattle.heat_value.specs.Data.{no_members}
use Rattle.heat_plan.specs.declared.item.Policy.{Policy}
use Rattle.heat_plan.specs.declared.item.Policy.TheVariants.{Delete}
use Rattle.heat_plan.specs.declared.phase.Act.TheVariants.{Create, Init}
use Rattle.heat_plan.specs.declared.phase.Status.TheVariants.{Complete, InProgress}
use Rattle.row_table.specs.declared.row.Row.{Row}
use Rattle.history_examples.specs.Setting.{box, facts, item_name, sized, stack_name}

-- made for the create, and nothing done
abbrev pub row_made_under : Policy → Row
row_made_under policy = record {
  no = 1;
  stack = stack_name;
  name = item_name;
  kind = box;
  act = Init;
  status = Complete;
  trav = 1;
  props = no_members;
  target = None;
  facts = None;
  requires_ = [];
  replaces = None;
  replaced_by = None;
  engine = None;
  key = 0;
  policy = policy;
}

-- locked by the first engine
abbrev pub row_taken_under : Policy → Row
row_taken_under policy = record (row_made_under policy) { engine = Some 1; key = 1 }

-- to be created
abbrev pub row_begun_under : Policy → Row
row_begun_under policy = record (row_taken_under policy) { act = Create; status = InProgress; props = sized 1 }

-- with the policy of all examples but one
abbrev pub row_made : Row
row_made = row_made_under Delete

-- to be created, with the same
abbrev pub row_begun : Row
row_begun = row_begun_under Delete

-- ready
abbrev pub row_ready : Row
row_ready = record row_begun { status = Complete; facts = Some facts }

-- unlocked
abbrev pub row_done : Row
row_done = record row_ready { engine = None; key = 2 }
