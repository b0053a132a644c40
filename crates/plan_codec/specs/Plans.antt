-- What plans are made of, as bytes: the parts of each thing in their order.
use Rattle.std.specs.Prelude.{ℕ, List, [], ◌∷◌, ◌++◌}
use Rattle.heat_value.specs.Data.{Members, fields}
use Rattle.heat_plan.specs.Names.{IsResName}
use Rattle.heat_plan.specs.Order.{Rising}
use Rattle.heat_plan.specs.Plans.{PlanData, IsPlan}
use Rattle.heat_plan.specs.declared.conditions.Condition.{Condition}
use Rattle.heat_plan.specs.declared.facts.Facts.{Facts}
use Rattle.heat_plan.specs.declared.files.File.{File}
use Rattle.heat_plan.specs.declared.item.Item.{Item}
use Rattle.heat_plan.specs.declared.item.Policy.{Policy}
use Rattle.heat_plan.specs.declared.item.Policy.TheVariants.{Delete, Retain}
use Rattle.heat_plan.specs.declared.kind.Kind.{Kind}
use Rattle.heat_plan.specs.declared.plan.Output.{Output}
use Rattle.plan_codec.specs.Numbers.{spelled_bytes, spelled_flag, IsText, IsAny}
use Rattle.plan_codec.specs.Parts.{spelled_list, AreAll}
use Rattle.plan_codec.specs.Values.{spelled_value, spelled_fields, IsWithin, AreFields}

-- properties nest at most 64 deep as a map, each parameter does by itself
abbrev pub IsProperties : Members → Type 0
IsProperties ms = IsWithin 64 (fields ms)

abbrev pub IsParameters : Members → Type 0
IsParameters ms = AreFields 64 ms

-- needs rise in byte order
abbrev pub IsProperNeeds : List (List ℕ) → Type 0
IsProperNeeds names = AreAll IsResName names × Rising names

-- one byte
abbrev pub spelled_policy : Policy → List ℕ
spelled_policy Delete = 0 ∷ []
spelled_policy Retain = 1 ∷ []

abbrev pub IsPolicy : Policy → Type 0
IsPolicy p = Unit {0}

-- its name, its attributes, the properties that change in place
unfoldable pub spelled_kind : Kind → List ℕ
spelled_kind k = spelled_bytes k.name ++ (spelled_list spelled_bytes k.attrs ++ spelled_list spelled_bytes k.soft)

pub record IsProperKind (k : Kind) : Type 0 where
  pub name : IsText k.name
  pub attrs : AreAll IsText k.attrs
  pub soft : AreAll IsText k.soft

-- the id, then the attributes
unfoldable pub spelled_facts : Facts → List ℕ
spelled_facts f = spelled_bytes f.id ++ spelled_fields f.attrs

pub record IsProperFacts (f : Facts) : Type 0 where
  pub id : IsText f.id
  pub attrs : IsProperties f.attrs

-- its name, kind, properties, needs and policy
unfoldable pub spelled_item : Item → List ℕ
spelled_item i =
    spelled_bytes i.name
    ++ (spelled_kind i.kind
    ++ (spelled_fields i.props
    ++ (spelled_list spelled_bytes i.needs ++ spelled_policy i.policy)))

pub record IsProperItem (i : Item) : Type 0 where
  pub name : IsResName i.name
  pub kind : IsProperKind i.kind
  pub props : IsProperties i.props
  pub needs : IsProperNeeds i.needs
  pub policy : IsPolicy i.policy

-- an output: its name, then its expression
unfoldable pub spelled_output : Output → List ℕ
spelled_output o = spelled_bytes o.name ++ spelled_value o.value

pub record IsProperOutput (o : Output) : Type 0 where
  pub name : IsText o.name
  pub value : IsWithin 64 o.value

-- a condition: its name, then its flag
unfoldable pub spelled_condition : Condition → List ℕ
spelled_condition c = spelled_bytes c.name ++ spelled_flag c.value

pub record IsProperCondition (c : Condition) : Type 0 where
  pub name : IsText c.name
  pub value : IsAny c.value

-- a file: its name, then its text
unfoldable pub spelled_file : File → List ℕ
spelled_file f = spelled_bytes f.name ++ spelled_bytes f.content

pub record IsProperFile (f : File) : Type 0 where
  pub name : IsText f.name
  pub content : IsText f.content

-- a plan: its items, outputs, parameters, conditions, files and absent names
unfoldable pub spelled_plan : PlanData → List ℕ
spelled_plan p =
    spelled_list spelled_item p.items
    ++ (spelled_list spelled_output p.outputs
    ++ (spelled_fields p.params
    ++ (spelled_list spelled_condition p.conds
    ++ (spelled_list spelled_file p.files
    ++ spelled_list spelled_bytes p.absent))))

-- what each part keeps, and what items and absent names keep among them
pub record IsProperPlan (p : PlanData) : Type 0 where
  pub items : AreAll IsProperItem p.items
  pub outputs : AreAll IsProperOutput p.outputs
  pub params : IsParameters p.params
  pub conds : AreAll IsProperCondition p.conds
  pub files : AreAll IsProperFile p.files
  pub absent : AreAll IsResName p.absent
  pub plan : IsPlan p.items p.absent
