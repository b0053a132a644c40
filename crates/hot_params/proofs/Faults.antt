-- Why a parameter has no value.
use Rattle.std.proofs.Common.{◌≡◌, ◌↔◌, ℕ, List, false, IsTrue, Option, Some, None, option_map}
use Rattle.std.proofs.Common.{subst}
use Rattle.heat_value.specs.Data.{Data, Members}
use Rattle.heat_value.specs.Meaning.{data_of}
use Rattle.heat_value.specs.declared.value.Value.{Value}
use Rattle.hot_forms.specs.declared.sort.Sort.{Sort}
use Rattle.hot_params.proofs.Wholes.{not_true}
use Rattle.hot_params.specs.Bindings.{type_of, constraints_of, chosen, IsOutcome, IsFirstUnmet, IsFault, IsOwnFault}
use Rattle.hot_params.specs.Bindings.{unlike, unmet}
use Rattle.hot_params.specs.Codes.{at_parameter, at_constraint}
use Rattle.hot_params.specs.Conversions.{ConvertsTo, IsConversion}
use Rattle.hot_params.specs.declared.code.ParamCode.TheVariants.{P03}
use Rattle.hot_params.specs.declared.fault.ParamFault.{ParamFault}
use Rattle.hot_params.specs.declared.fault.ParamFault.TheVariants.{Wrong, Memory}
use Rattle.hot_params.specs.declared.parameter.Unmet.{Unmet}
use Rattle.type_catalog.specs.declared.custom.NamedTest.{NamedTest}

none_of : (s : Option Sort) (d : Data) (o : Option Value) → o ≡ None → IsConversion s d (option_map data_of o)
    → (v : Data) → ¬ ConvertsTo s d v
none_of s d o is none = subst (λ (x : Option Value). IsConversion s d (option_map data_of x)) is none

some_of : (s : Option Sort) (d : Data) (o : Option Value) (w : Value) → o ≡ Some w
    → IsConversion s d (option_map data_of o) → ConvertsTo s d (data_of w)
some_of s d o w is some = subst (λ (x : Option Value). IsConversion s d (option_map data_of x)) is some

-- what doesn't convert is no value
pub none_is : (s : Sort) (d w : Data) (o : Option Value) → o ≡ None → IsConversion (Some s) d (option_map data_of o)
    → IsTrue false ↔ ConvertsTo (Some s) d w
none_is s d w o is none = not_true (none_of (Some s) d o is none w)

module _ (tests : List NamedTest) (name : List ℕ) (given : Option Data) (ms : Members) (d : Data) (s : Option Sort)
    (o : Option Value) where
  pub unlike_fault : (e : ParamFault) → chosen given ms ≡ Some d → s ≡ type_of ms → o ≡ None
      → IsConversion s d (option_map data_of o) → IsFault (at_parameter name P03) e → IsOwnFault tests name given ms e
  unlike_fault (Wrong f) from sort is none fault =
      unlike d from (subst (λ (x : Option Sort). (v : Data) → ¬ ConvertsTo x d v) sort (none_of s d o is none)) fault
  unlike_fault Memory from sort is none fault = tt

  pub unmet_fault : (w : Value) (r : Option Unmet) (u : Unmet) (e : ParamFault) → chosen given ms ≡ Some d
      → s ≡ type_of ms → o ≡ Some w → IsConversion s d (option_map data_of o) → r ≡ Some u
      → IsOutcome tests s (data_of w) (constraints_of ms) r → IsFault (at_constraint name u.place u.code) e
      → IsOwnFault tests name given ms e
  unmet_fault w r u (Wrong f) from sort is some found outcome fault =
      unmet d (data_of w) u.place u.code from
      (subst (λ (x : Option Sort). ConvertsTo x d (data_of w)) sort (some_of s d o w is some))
      (subst (λ (x : Option Sort). IsFirstUnmet tests x (data_of w) 0 (constraints_of ms) u.place u.code) sort
      (subst (IsOutcome tests s (data_of w) (constraints_of ms)) found outcome)) fault
  unmet_fault w r u Memory from sort is some found outcome fault = tt
