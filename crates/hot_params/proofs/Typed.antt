-- A parameter by type says the same as its object.
use Rattle.std.proofs.Common.{◌≡◌, ◌∙◌, ℕ, List, Some, ap}
use Rattle.heat_value.specs.Data.{Data}
use Rattle.hot_forms.specs.Shapes.{members_in}
use Rattle.hot_tree.specs.PartEntries.{IsParam, sort_of}
use Rattle.hot_tree.specs.declared.param.Param.{Param}
use Rattle.hot_params.specs.Typed.{SaysTheSame}

pub says_the_same : (name : List ℕ) (d : Data) (p : Param) → IsParam name d p → SaysTheSame (members_in d) p
says_the_same name d p is = record {
  sort = λ s e. is.sort ∙ ap sort_of e;
  default = is.default;
  constraints = is.constraints;
}
