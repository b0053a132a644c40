-- The form of each function's argument.
use Rattle.std.proofs.Common.{◌≡◌, List, ℕ, Bool, true, false, ◌&&◌, Option, Some, None, refl, is_some, bytes_eq, codes}
use Rattle.std.proofs.Common.{if◌then◌else◌}
use Rattle.std.specs.Prelude.{⊤}
use Rattle.heat_value.specs.Data.{Data}
use Rattle.eval_words.specs.Names.{function_of, condition_function_of, has_form_of, is_formed, is_condition_formed}
use Rattle.eval_words.specs.declared.function.Function.{Function}
use Rattle.eval_words.specs.declared.function.Function.TheVariants as function
use Rattle.hot_functions.specs.Forms.{form_of, condition_form_of, has_form}
use Rattle.hot_functions.specs.declared.form.Form.{Form}
use Rattle.hot_functions.specs.declared.form.Form.TheVariants as form

-- the form that a function wants
abbrev pub form_for : Function → Form
form_for function.Parameter = form.Parameter
form_for function.Resource = form.Resource
form_for function.Attribute = form.Attribute
form_for function.File = form.File
form_for function.Join = form.Joined
form_for function.Split = form.Split
form_for function.Replace = form.Replaced
form_for function.ReplaceStrictly = form.Replaced
form_for function.Repeat = form.Repeated
form_for function.Digest = form.Pair
form_for function.MergeMaps = form.AnyList
form_for function.ReplaceInMap = form.Pair
form_for function.Concat = form.AnyList
form_for function.ConcatUnique = form.AnyList
form_for function.Filter = form.Pair
form_for function.Contains = form.Pair
form_for function.If = form.Branches
form_for function.FlagParameter = form.Parameter
form_for function.Equals = form.Pair
form_for function.Not = form.Negated
form_for function.And = form.Combined
form_for function.Or = form.Combined

-- a function and the form that it wants, or neither
abbrev pub Suits : Option Function → Option Form → Type 0
Suits None None = ⊤
Suits None (Some g) = ⊥
Suits (Some f) None = ⊥
Suits (Some f) (Some g) = g ≡ form_for f

-- at one key, or at the others
suits_if : (b : Bool) (f : Function) (x : Option Function) (y : Option Form) → Suits x y
    → Suits (if b then Some f else x) (if b then Some (form_for f) else y)
suits_if true f x y rest = refl
suits_if false f x y rest = rest

module _ (k : List ℕ) where
  pub value_suits : Suits (function_of k) (form_of k)
  value_suits =
      suits_if (bytes_eq k (codes "get_param")) function.Parameter _ _ (
      suits_if (bytes_eq k (codes "get_resource")) function.Resource _ _ (
      suits_if (bytes_eq k (codes "get_attr")) function.Attribute _ _ (
      suits_if (bytes_eq k (codes "get_file")) function.File _ _ (
      suits_if (bytes_eq k (codes "list_join")) function.Join _ _ (
      suits_if (bytes_eq k (codes "str_split")) function.Split _ _ (
      suits_if (bytes_eq k (codes "str_replace")) function.Replace _ _ (
      suits_if (bytes_eq k (codes "str_replace_strict")) function.ReplaceStrictly _ _ (
      suits_if (bytes_eq k (codes "repeat")) function.Repeat _ _ (
      suits_if (bytes_eq k (codes "digest")) function.Digest _ _ (
      suits_if (bytes_eq k (codes "map_merge")) function.MergeMaps _ _ (
      suits_if (bytes_eq k (codes "map_replace")) function.ReplaceInMap _ _ (
      suits_if (bytes_eq k (codes "list_concat")) function.Concat _ _ (
      suits_if (bytes_eq k (codes "list_concat_unique")) function.ConcatUnique _ _ (
      suits_if (bytes_eq k (codes "filter")) function.Filter _ _ (
      suits_if (bytes_eq k (codes "contains")) function.Contains _ _ (
      suits_if (bytes_eq k (codes "if")) function.If None None tt))))))))))))))))

  pub condition_suits : Suits (condition_function_of k) (condition_form_of k)
  condition_suits =
      suits_if (bytes_eq k (codes "equals")) function.Equals _ _ (
      suits_if (bytes_eq k (codes "get_param")) function.FlagParameter _ _ (
      suits_if (bytes_eq k (codes "not")) function.Not _ _ (
      suits_if (bytes_eq k (codes "and")) function.And _ _ (
      suits_if (bytes_eq k (codes "or")) function.Or _ _ (
      suits_if (bytes_eq k (codes "contains")) function.Contains None None tt)))))

-- both hold
pub left_holds : (a b : Bool) → (a && b) ≡ true → a ≡ true
left_holds true b is = refl
left_holds false b is = cc

pub right_holds : (a b : Bool) → (a && b) ≡ true → b ≡ true
right_holds true b is = is
right_holds false b is = cc

-- an argument that has the form found has the function's
has_its_form : (f : Function) (x : Option Function) (y : Option Form) (d : Data) → Suits x y → x ≡ Some f
    → has_form_of y d ≡ true → has_form (form_for f) d ≡ true
has_its_form f None None d suits is has = cc
has_its_form f None (Some g) d suits is has = absurd suits
has_its_form f (Some e) None d suits is has = absurd suits
has_its_form f (Some e) (Some g) d suits is has = cc

module _ (k : List ℕ) (d : Data) (f : Function) where
  pub value_form : function_of k ≡ Some f → is_formed k d ≡ true → has_form (form_for f) d ≡ true
  value_form is formed =
      has_its_form f (function_of k) (form_of k) d (value_suits k) is (left_holds (has_form_of (form_of k) d) _ formed)

  pub condition_form : condition_function_of k ≡ Some f → is_condition_formed k d ≡ true
      → has_form (form_for f) d ≡ true
  condition_form is formed =
      has_its_form f (condition_function_of k) (condition_form_of k) d (condition_suits k) is formed

-- the key of a condition's function names it
pub condition_named_by : (k : List ℕ) → condition_function_of k ≡ None → is_some (condition_form_of k) ≡ true → ⊥
condition_named_by k none is = by (condition_function_of k) (condition_form_of k) (condition_suits k) none is
  where
    by : (x : Option Function) (y : Option Form) → Suits x y → x ≡ None → is_some y ≡ true → ⊥
    by None None suits none is = cc
    by None (Some g) suits none is = suits
    by (Some f) y suits none is = cc
