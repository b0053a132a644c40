-- Kinds, items and plans, part by part.
use Rattle.std.specs.Prelude.{ℕ, List, [], codes}
use Rattle.heat_value.specs.Data.{Members, no_members}
use Rattle.heat_plan.specs.Plans.{PlanData}
use Rattle.heat_plan.specs.declared.item.Item.{Item}
use Rattle.heat_plan.specs.declared.item.Policy.TheVariants.{Delete}
use Rattle.heat_plan.specs.declared.kind.Kind.{Kind}

-- a box with these attributes, of which these properties change in place
abbrev pub box_with : List (List ℕ) → List (List ℕ) → Kind
box_with attrs soft = record { name = codes "Test::Box"; attrs = attrs; soft = soft }

-- an item that needs nothing and isn't retained
abbrev pub item_with : List ℕ → Kind → Members → Item
item_with name kind props = record { name = name; kind = kind; props = props; needs = []; policy = Delete }

-- a plan of these items, with nothing beside them
abbrev pub plan_with : List Item → PlanData
plan_with items = record { items = items; outputs = []; params = no_members; conds = []; files = []; absent = [] }
