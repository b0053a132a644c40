-- The items of the resources that are wanted: what each is made of, and what it needs.
use Rattle.std.specs.Prelude.{◌≡◌, ◌≤◌, ℕ, List, [], ◌∷◌, ◌++◌, Bool, not, Option, Some, None, All, filter, codes}
use Rattle.std.specs.Prelude.{if◌then◌else◌}
use Rattle.std.specs.Bool.{beq}
use Rattle.heat_plan.specs.Names.{IsResName}
use Rattle.heat_plan.specs.declared.item.Item.{Item}
use Rattle.heat_plan.specs.declared.item.Policy.{Policy}
use Rattle.heat_plan.specs.declared.item.Policy.TheVariants.{Delete, Retain}
use Rattle.heat_plan.specs.declared.conditions.Condition.{Condition}
use Rattle.heat_value.specs.Data.{Data, null, flag, whole, words, items, fields, Nodes, no_nodes, node, Members}
use Rattle.heat_value.specs.Data.{depth}
use Rattle.hot_admit.specs.Basis.{BasisData, kind_at}
use Rattle.hot_admit.specs.Conds.{holds}
use Rattle.hot_admit.specs.Resources.{ResourceData, names_of}
use Rattle.hot_admit.specs.declared.conds.Wanted.{Wanted}
use Rattle.eval_words.specs.Needs.{references_under}
use Rattle.hot_forms.specs.Checks.{is_among}
use Rattle.type_catalog.specs.Kinds.{kind_of}
use Rattle.type_catalog.specs.declared.kind.KindDef.{KindDef}

-- ---- which resources are wanted

abbrev pub is_wanted : Members → List Condition → ResourceData → Bool
is_wanted params known r = holds params known r.condition

-- those whose condition holds
abbrev pub wanted_among : Members → List Condition → List ResourceData → List ResourceData
wanted_among params known resources = filter (is_wanted params known) resources

-- the names of the others
abbrev pub absent_among : Members → List Condition → List ResourceData → List (List ℕ)
absent_among params known resources = names_of (filter (λ r. not (is_wanted params known r)) resources)

-- ---- what an item needs

-- a value's text, if it is one
abbrev pub text_in : Data → List (List ℕ)
text_in null = []
text_in (flag b) = []
text_in (whole z) = []
text_in (words s) = s ∷ []
text_in (items ns) = []
text_in (fields ms) = []

abbrev pub texts_in : Nodes → List (List ℕ)
texts_in no_nodes = []
texts_in (node d ns) = text_in d ++ texts_in ns

-- the names that a `depends_on` gives, as they stand there
abbrev pub dependencies : Data → List (List ℕ)
dependencies null = []
dependencies (flag b) = []
dependencies (whole z) = []
dependencies (words s) = s ∷ []
dependencies (items ns) = texts_in ns
dependencies (fields ms) = []

-- the names in every get_resource and get_attr anywhere in its properties, and those that it depends on
abbrev pub named_by : ResourceData → List (List ℕ)
named_by r = references_under r.properties ++ dependencies r.depends_on

-- of the items' names, which come in byte order, each once, those that a resource names; so absent ones are left out
abbrev pub needs_among : List (List ℕ) → ResourceData → List (List ℕ)
needs_among names r = filter (is_among (named_by r)) names

-- ---- the items

-- `Retain`, as spelled in the language or in lower case
abbrev pub policy_of : List ℕ → Policy
policy_of s = if is_among (codes "Retain" ∷ codes "retain" ∷ []) s then Retain else Delete

-- a resource's item among those of these names; it has one where its type stands
abbrev pub item_with : List (List ℕ) → ResourceData → Option KindDef → List Item
item_with names r None = []
item_with names r (Some kind) = record {
  name = r.name;
  kind = kind_of kind;
  props = r.properties;
  needs = needs_among names r;
  policy = policy_of r.policy;
} ∷ []

abbrev pub items_with : BasisData → List (List ℕ) → List ResourceData → List Item
items_with basis names [] = []
items_with basis names (r ∷ rs) = item_with names r (kind_at basis r) ++ items_with basis names rs

-- the items of these resources, in their order
abbrev pub items_of : BasisData → List ResourceData → List Item
items_of basis resources = items_with basis (names_of resources) resources

-- ---- by marks, one for each resource

-- the names of those that are wanted, or of those that aren't
abbrev pub names_marked : Bool → List ResourceData → List Wanted → List (List ℕ)
names_marked b [] ws = []
names_marked b (r ∷ rs) [] = []
names_marked b (r ∷ rs) (w ∷ ws) = if beq w.wanted b then r.name ∷ names_marked b rs ws else names_marked b rs ws

-- the items of those that are wanted
abbrev pub items_marked : BasisData → List (List ℕ) → List ResourceData → List Wanted → List Item
items_marked basis names [] ws = []
items_marked basis names (r ∷ rs) [] = []
items_marked basis names (r ∷ rs) (w ∷ ws) =
    if w.wanted then item_with names r (kind_at basis r) ++ items_marked basis names rs ws
    else items_marked basis names rs ws

-- ---- what an item can be made of

-- it has a resource's name, its type stands, and its properties nest at most 64 deep
pub record IsFit (basis : BasisData) (r : ResourceData) : Type 0 where
  pub name : IsResName r.name
  pub kind : KindDef
  pub kind_is : kind_at basis r ≡ Some kind
  pub depth : depth (fields r.properties) ≤ 64

abbrev pub AreFit : BasisData → List ResourceData → Type 0
AreFit basis resources = All (IsFit basis) resources
