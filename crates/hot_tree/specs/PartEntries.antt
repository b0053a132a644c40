-- A parameter, a resource and an output under its name.
use Rattle.std.specs.Prelude.{◌≡◌, ℕ, List, Option, Some, None, option_map, codes}
use Rattle.heat_value.specs.Data.{Data, fields, lookup}
use Rattle.heat_value.specs.Meaning.{data_of}
use Rattle.hot_forms.specs.Parameters.{sort_in, nodes_in}
use Rattle.hot_forms.specs.Sections.{section}
use Rattle.hot_forms.specs.Shapes.{members_in}
use Rattle.hot_forms.specs.declared.sort.Sort.{Sort}
use Rattle.hot_forms.specs.declared.sort.Sort.TheVariants as sort
use Rattle.hot_tree.specs.Readings.{object_in, text_or, or_null}
use Rattle.hot_tree.specs.Constraints.{asked_by, asked_among}
use Rattle.hot_tree.specs.declared.param.Param.{Param}
use Rattle.hot_tree.specs.declared.res.Res.{Res}
use Rattle.hot_tree.specs.declared.out_part.Out.{Out}

-- the type that stands there; a right parameter always has one
abbrev pub sort_of : Option Sort → Sort
sort_of None = sort.Words
sort_of (Some s) = s

-- a parameter: its type, its default that isn't null, and what its constraints ask, in order
pub record IsParam (name : List ℕ) (d : Data) (p : Param) : Type 0 where
  pub named : p.name ≡ name
  pub sort : p.sort ≡ sort_of (sort_in (lookup (codes "type") (members_in d)))
  pub default : option_map (λ v. data_of v) p.default ≡ section (codes "default") (members_in d)
  pub constraints : asked_by p.constraints ≡ asked_among (nodes_in (lookup (codes "constraints") (members_in d)))

-- a resource; absent and null objects are empty, what it depends on is as written, null where absent
pub record IsRes (name : List ℕ) (d : Data) (r : Res) : Type 0 where
  pub named : r.name ≡ name
  pub kind : r.kind ≡ text_or (codes "") (lookup (codes "type") (members_in d))
  pub props : r.props ≡ object_in (lookup (codes "properties") (members_in d))
  pub metadata : data_of r.metadata ≡ fields (object_in (lookup (codes "metadata") (members_in d)))
  pub depends_on : data_of r.depends_on ≡ or_null (lookup (codes "depends_on") (members_in d))
  pub policy : r.policy ≡ text_or (codes "Delete") (lookup (codes "deletion_policy") (members_in d))
  pub update_policy : r.update_policy ≡ object_in (lookup (codes "update_policy") (members_in d))
  pub external_id : option_map (λ v. data_of v) r.external_id ≡ lookup (codes "external_id") (members_in d)
  pub cond : option_map (λ v. data_of v) r.cond ≡ lookup (codes "condition") (members_in d)

-- an output: its value, and its condition where it has one
pub record IsOut (name : List ℕ) (d : Data) (o : Out) : Type 0 where
  pub named : o.name ≡ name
  pub value : data_of o.value ≡ or_null (lookup (codes "value") (members_in d))
  pub cond : option_map (λ v. data_of v) o.cond ≡ lookup (codes "condition") (members_in d)
