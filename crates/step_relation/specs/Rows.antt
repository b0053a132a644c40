-- What the steps write to a row.
use Rattle.std.specs.Prelude.{List, None, Some, [], unwrap_or, ℕ, ◌+◌}
use Rattle.heat_value.specs.Data.{Members, no_members}
use Rattle.heat_plan.specs.declared.facts.Facts.{Facts}
use Rattle.heat_plan.specs.declared.item.Item.{Item}
use Rattle.heat_plan.specs.declared.phase.Act.TheVariants.{Create, Delete, Init, Update}
use Rattle.heat_plan.specs.declared.phase.Status.TheVariants.{Complete, Failed, InProgress}
use Rattle.heat_plan.specs.declared.token.Token.{Token}
use Rattle.row_table.specs.declared.row.Row.{Row}

-- the token under which a row is asked for
abbrev pub token_of : Row → Token
token_of r = record { stack = r.stack; name = r.name; row = r.no }

-- locking sets the engine, unlocking clears it; each raises the key by one
abbrev pub locked : ℕ → Row → Row
locked e r = record r { engine = Some e; key = r.key + 1 }

-- the row with no engine, and its key raised
abbrev pub unlocked : Row → Row
unlocked r = record r { engine = None; key = r.key + 1 }

-- failed, and unlocked
abbrev pub failed_row : Row → Row
failed_row r = record r { status = Failed; engine = None; key = r.key + 1 }

-- a row for an item on which nothing has been done
abbrev pub new_row : List ℕ → ℕ → ℕ → Item → Row
new_row stack trav number item = record {
  no = number;
  stack = stack;
  name = item.name;
  kind = item.kind;
  act = Init;
  status = Complete;
  trav = trav;
  props = no_members;
  target = None;
  facts = None;
  requires_ = [];
  replaces = None;
  replaced_by = None;
  engine = None;
  key = 0;
  policy = item.policy;
}

-- to be created as the item asks
abbrev pub created_row : Row → Item → ℕ → Members → List ℕ → Row
created_row r item trav props required = record r {
  act = Create;
  status = InProgress;
  kind = item.kind;
  props = props;
  trav = trav;
  requires_ = required;
  policy = item.policy;
}

-- kept as it is, for this traversal
abbrev pub same_row : Row → Item → ℕ → List ℕ → Row
same_row r item trav required = record r { trav = trav; requires_ = required; policy = item.policy }

-- to be updated in place to these properties
abbrev pub updated_row : Row → Item → ℕ → Members → List ℕ → Row
updated_row r item trav props required = record r {
  act = Update;
  status = InProgress;
  target = Some props;
  trav = trav;
  requires_ = required;
  policy = item.policy;
}

-- to be created in the place of r, by the engine e
abbrev pub replacement : ℕ → ℕ → ℕ → List ℕ → Item → Members → List ℕ → Row → Row
replacement number e trav stack item props required r = record {
  no = number;
  stack = stack;
  name = item.name;
  kind = item.kind;
  act = Create;
  status = InProgress;
  trav = trav;
  props = props;
  target = None;
  facts = None;
  requires_ = required;
  replaces = Some r.no;
  replaced_by = None;
  engine = Some e;
  key = 1;
  policy = item.policy;
}

-- r when the row of this number stands in its place
abbrev pub replaced : ℕ → Row → Row
replaced number r = record r { replaced_by = Some number; engine = None; key = r.key + 1 }

-- to be deleted for this traversal
abbrev pub deleted_row : Row → ℕ → Row
deleted_row r trav = record r { act = Delete; status = InProgress; trav = trav }

-- ready, with its facts
abbrev pub ready_row : Row → Facts → Row
ready_row r facts = record r {
  status = Complete;
  props = unwrap_or r.target r.props;
  target = None;
  facts = Some facts;
}
