-- What each parameter is bound to, or what is wrong with the first that has no value.
use Rattle.std.specs.Prelude.{◌≡◌, ◌⊎◌, ◌+◌, ℕ, List, Option, Some, None, codes, ⊤}
use Rattle.heat_value.specs.Data.{Data, Nodes, no_nodes, node, Members, no_members, member, lookup}
use Rattle.hot_forms.specs.Parameters.{sort_in, nodes_in}
use Rattle.hot_forms.specs.Sections.{unless_null}
use Rattle.hot_forms.specs.Shapes.{members_in}
use Rattle.hot_forms.specs.declared.sort.Sort.{Sort}
use Rattle.hot_tree.specs.Constraints.{asked_in}
use Rattle.hot_params.specs.Codes.{at_parameter, at_constraint}
use Rattle.hot_params.specs.Conversions.{ConvertsTo}
use Rattle.hot_params.specs.Rules.{GivesFor}
use Rattle.hot_params.specs.declared.code.ParamCode.{ParamCode}
use Rattle.hot_params.specs.declared.code.ParamCode.TheVariants.{P01, P03}
use Rattle.hot_params.specs.declared.fault.ParamFlaw.{ParamFlaw}
use Rattle.hot_params.specs.declared.fault.ParamFault.{ParamFault}
use Rattle.hot_params.specs.declared.fault.ParamFault.TheVariants.{Wrong, Memory}
use Rattle.hot_params.specs.declared.parameter.Unmet.{Unmet}
use Rattle.type_catalog.specs.declared.custom.NamedTest.{NamedTest}

-- ---- what a template says of a parameter

abbrev pub type_of : Members → Option Sort
type_of ms = sort_in (lookup (codes "type") ms)

abbrev pub constraints_of : Members → Nodes
constraints_of ms = nodes_in (lookup (codes "constraints") ms)

-- what it is given, else its default that isn't null
abbrev pub chosen : Option Data → Members → Option Data
chosen (Some d) ms = Some d
chosen None ms = unless_null (lookup (codes "default") ms)

-- ---- one parameter

-- each constraint is met
abbrev pub AreMet : List NamedTest → Option Sort → Data → Nodes → Type 0
AreMet customs s v no_nodes = ⊤
AreMet customs s v (node d ns) = GivesFor customs s (asked_in (members_in d)) v None × AreMet customs s v ns

-- the first constraint that isn't met, counted from i, gives this code
abbrev pub IsFirstUnmet : List NamedTest → Option Sort → Data → ℕ → Nodes → ℕ → ParamCode → Type 0
IsFirstUnmet customs s v i no_nodes j c = ⊥
IsFirstUnmet customs s v i (node d ns) j c =
    ((j ≡ i) × GivesFor customs s (asked_in (members_in d)) v (Some c))
    ⊎ (GivesFor customs s (asked_in (members_in d)) v None × IsFirstUnmet customs s v (i + 1) ns j c)

-- what is found of the constraints: each is met, or the first that isn't
abbrev pub IsOutcome : List NamedTest → Option Sort → Data → Nodes → Option Unmet → Type 0
IsOutcome customs s v ns None = AreMet customs s v ns
IsOutcome customs s v ns (Some u) = IsFirstUnmet customs s v 0 ns u.place u.code

-- the parameter's value: what is chosen converts to it, and each constraint is met
pub record IsValueOf (customs : List NamedTest) (given : Option Data) (ms : Members) (v : Data) : Type 0 where
  pub from : Data
  pub chosen_from : chosen given ms ≡ Some from
  pub converts : ConvertsTo (type_of ms) from v
  pub met : AreMet customs (type_of ms) v (constraints_of ms)

-- the parameter has no value for this reason: P01, P03, or the first constraint that isn't met
pub data IsFlawOf (customs : List NamedTest) (name : List ℕ) (given : Option Data) (ms : Members) (f : ParamFlaw)
    : Type 0 where
  missing : chosen given ms ≡ None → f ≡ at_parameter name P01 → IsFlawOf customs name given ms f
  unlike : (d : Data) → chosen given ms ≡ Some d → ((v : Data) → ¬ ConvertsTo (type_of ms) d v)
      → f ≡ at_parameter name P03 → IsFlawOf customs name given ms f
  unmet : (d v : Data) (i : ℕ) (c : ParamCode) → chosen given ms ≡ Some d → ConvertsTo (type_of ms) d v
      → IsFirstUnmet customs (type_of ms) v 0 (constraints_of ms) i c → f ≡ at_constraint name i c
      → IsFlawOf customs name given ms f

-- the fault tells of this flaw, or of want of memory
abbrev pub IsFault : ParamFlaw → ParamFault → Type 0
IsFault f (Wrong g) = g ≡ f
IsFault f Memory = ⊤

-- a fault of one parameter: why it has no value, or want of memory
abbrev pub IsOwnFault : List NamedTest → List ℕ → Option Data → Members → ParamFault → Type 0
IsOwnFault customs name given ms (Wrong f) = IsFlawOf customs name given ms f
IsOwnFault customs name given ms Memory = ⊤

-- ---- all parameters

-- each parameter with its value, in byte order of the names
abbrev pub AreBound : List NamedTest → Members → Members → Members → Type 0
AreBound customs given no_members no_members = ⊤
AreBound customs given no_members (member l v vs) = ⊥
AreBound customs given (member k d ms) no_members = ⊥
AreBound customs given (member k d ms) (member l v vs) =
    (l ≡ k) × IsValueOf customs (lookup k given) (members_in d) v × AreBound customs given ms vs

-- the first parameter that has no value, and why
abbrev pub IsFirstFlaw : List NamedTest → Members → Members → ParamFlaw → Type 0
IsFirstFlaw customs given no_members f = ⊥
IsFirstFlaw customs given (member k d ms) f =
    IsFlawOf customs k (lookup k given) (members_in d) f
    ⊎ ((v : Data) × IsValueOf customs (lookup k given) (members_in d) v × IsFirstFlaw customs given ms f)

-- a fault of them all: the first flaw, or want of memory
abbrev pub IsFirstFault : List NamedTest → Members → Members → ParamFault → Type 0
IsFirstFault customs given ms (Wrong f) = IsFirstFlaw customs given ms f
IsFirstFault customs given ms Memory = ⊤
