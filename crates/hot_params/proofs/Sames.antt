-- What a value converts to is one value.
use Rattle.std.proofs.Common.{◌≡◌, ◌≢◌, ◌∙◌, ◌↔◌, ℤ, Bool, IsTrue, Option, Some, refl, ap, sym, subst}
use Rattle.heat_value.specs.Data.{Data, null, flag, whole, words, items, fields}
use Rattle.heat_value.proofs.Sameness.{same_data}
use Rattle.heat_value.specs.Meaning.{data_of}
use Rattle.heat_value.specs.declared.value.Value.{Value}
use Rattle.hot_forms.specs.declared.sort.Sort.{Sort}
use Rattle.hot_forms.specs.declared.sort.Sort.TheVariants as sort
use Rattle.hot_params.specs.Conversions.{IsNumberOf, ConvertsTo}

one_number : (d : Data) (y z : ℤ) → IsNumberOf d y → IsNumberOf d z → y ≡ z
one_number null y z a b = absurd a
one_number (flag c) y z a b = absurd a
one_number (whole x) y z a b = a ∙ sym b
one_number (words s) y z a b = a.1 ∙ sym b.1
one_number (items ns) y z a b = absurd a
one_number (fields ms) y z a b = absurd a

some_same : {A : Type 0} (o : Option A) (a b : A) → o ≡ Some a → o ≡ Some b → a ≡ b
some_same o a b e f = cc

-- for every type but json
pub one_value : (s : Sort) → s ≢ sort.Json → (d v w : Data) → ConvertsTo (Some s) d v → ConvertsTo (Some s) d w → v ≡ w
one_value sort.Words other d v w a b = some_same _ v w a b
one_value sort.Number other d v w a b = a.2 ∙ (ap whole (one_number d a.0 b.0 a.1 b.1) ∙ sym b.2)
one_value sort.Flag other d v w a b = some_same _ v w a b
one_value sort.Json other d v w a b = absurd (other refl)
one_value sort.List other d v w a b = some_same _ v w a b

-- whether a conversion equals a value tells whether the data converts to it
pub member_is : (s : Sort) → s ≢ sort.Json → (d : Data) (v w : Value) (b : Bool) → IsTrue b ↔ (v ≡ w)
    → ConvertsTo (Some s) d (data_of v) → IsTrue b ↔ ConvertsTo (Some s) d (data_of w)
member_is s other d v w b is converts = (
  λ yes. subst (λ (x : Value). ConvertsTo (Some s) d (data_of x)) (is.0 yes) converts,
  λ h. is.1 (same_data v w (one_value s other d (data_of v) (data_of w) converts h)),
)
