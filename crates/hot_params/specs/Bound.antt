-- What the parameters of a template are bound to, or the first fault.
use Rattle.std.specs.Prelude.{◌≡◌, ◌⊎◌, ℕ, List, Option, Some, None, codes, is_some, if◌then◌else◌, ⊤}
use Rattle.heat_value.specs.Data.{Members, no_members, member, lookup}
use Rattle.heat_value.specs.declared.path.Step.{Step}
use Rattle.hot_params.specs.Bindings.{AreBound, IsFirstFlaw}
use Rattle.hot_params.specs.Codes.{code_text, at_parameter}
use Rattle.hot_params.specs.Identity.{with_pseudo}
use Rattle.hot_params.specs.declared.code.ParamCode.TheVariants.{P02}
use Rattle.hot_params.specs.declared.fault.ParamFault.{ParamFault}
use Rattle.hot_params.specs.declared.fault.ParamFault.TheVariants.{Wrong, Memory}
use Rattle.hot_params.specs.declared.ids.Ids.{Ids}
use Rattle.type_catalog.specs.declared.custom.NamedTest.{NamedTest}
use Rattle.hot_tree.specs.Whole.{entries}

-- the first given name, in byte order, that isn't a parameter's
abbrev pub unknown_name : Members → Members → Option (List ℕ)
unknown_name params no_members = None
unknown_name params (member k d given) = if is_some (lookup k params) then unknown_name params given else Some k

-- the parameters of a template
abbrev pub params_of : Members → Members
params_of template = entries (codes "parameters") template

-- each parameter has its value, and the pseudo parameters have theirs
pub record IsBoundTo (customs : List NamedTest) (ids : Ids) (template given bound : Members) : Type 0 where
  pub known : unknown_name (params_of template) given ≡ None
  pub values : Members
  pub each : AreBound customs given (params_of template) values
  pub all : bound ≡ with_pseudo ids values

-- P02 first; else the first parameter, in byte order, that has no value; or want of memory
abbrev pub IsFaultOf : List NamedTest → Members → Members → ParamFault → Type 0
IsFaultOf customs template given (Wrong f) =
    ((name : List ℕ) × (unknown_name (params_of template) given ≡ Some name) × (f ≡ at_parameter name P02))
    ⊎ ((unknown_name (params_of template) given ≡ None) × IsFirstFlaw customs given (params_of template) f)
IsFaultOf customs template given Memory = ⊤

-- the code that a fault is noted with; want of memory has none
abbrev pub fault_code : ParamFault → Option (List ℕ)
fault_code (Wrong f) = Some (code_text f.code)
fault_code Memory = None

-- the path that is noted with it
abbrev pub fault_path : ParamFault → Option (List Step)
fault_path (Wrong f) = Some f.path
fault_path Memory = None
