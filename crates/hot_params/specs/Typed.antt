-- A parameter by type says the same as its object.
use Rattle.std.specs.Prelude.{◌≡◌, Option, Some, None, option_map}
use Rattle.heat_value.specs.Data.{Members}
use Rattle.heat_value.specs.Meaning.{data_of}
use Rattle.hot_forms.specs.declared.sort.Sort.{Sort}
use Rattle.hot_tree.specs.Constraints.{asked_by, asked_among}
use Rattle.hot_tree.specs.declared.param.Param.{Param}
use Rattle.hot_params.specs.Bindings.{type_of, chosen, constraints_of}

-- its type, what is chosen where nothing is given, and what its constraints ask
pub record SaysTheSame (ms : Members) (p : Param) : Type 0 where
  pub sort : (s : Sort) → type_of ms ≡ Some s → p.sort ≡ s
  pub default : option_map (λ v. data_of v) p.default ≡ chosen None ms
  pub constraints : asked_by p.constraints ≡ asked_among (constraints_of ms)
