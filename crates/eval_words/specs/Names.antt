-- The functions by their keys, and the form that each one's argument has to have.
use Rattle.std.specs.Prelude.{ℕ, List, Bool, false, not, ◌&&◌, Option, Some, None, bytes_eq, codes, if◌then◌else◌}
use Rattle.std.specs.Prelude.{option_map, option_and_then}
use Rattle.heat_value.specs.Data.{Data, Members}
use Rattle.hot_forms.specs.Shapes.{members_in}
use Rattle.hot_functions.specs.Forms.{form_of, condition_form_of, has_form, stands, lone}
use Rattle.hot_functions.specs.declared.form.Form.{Form}
use Rattle.eval_words.specs.declared.function.Function.{Function}
use Rattle.eval_words.specs.declared.function.Function.TheVariants as function

-- the function of values, of collections and conditions, that a key names
abbrev pub collection_function_of : List ℕ → Option Function
collection_function_of k =
    if bytes_eq k (codes "map_merge") then Some function.MergeMaps else (
    if bytes_eq k (codes "map_replace") then Some function.ReplaceInMap else (
    if bytes_eq k (codes "list_concat") then Some function.Concat else (
    if bytes_eq k (codes "list_concat_unique") then Some function.ConcatUnique else (
    if bytes_eq k (codes "filter") then Some function.Filter else (
    if bytes_eq k (codes "contains") then Some function.Contains else (
    if bytes_eq k (codes "if") then Some function.If else None))))))

-- the function of values, of texts, else of collections and conditions, that a key names
abbrev pub text_function_of : List ℕ → Option Function
text_function_of k =
    if bytes_eq k (codes "list_join") then Some function.Join else (
    if bytes_eq k (codes "str_split") then Some function.Split else (
    if bytes_eq k (codes "str_replace") then Some function.Replace else (
    if bytes_eq k (codes "str_replace_strict") then Some function.ReplaceStrictly else (
    if bytes_eq k (codes "repeat") then Some function.Repeat else (
    if bytes_eq k (codes "digest") then Some function.Digest else collection_function_of k)))))

-- the function of values that a key names; any other key is plain
abbrev pub function_of : List ℕ → Option Function
function_of k =
    if bytes_eq k (codes "get_param") then Some function.Parameter else (
    if bytes_eq k (codes "get_resource") then Some function.Resource else (
    if bytes_eq k (codes "get_attr") then Some function.Attribute else (
    if bytes_eq k (codes "get_file") then Some function.File else text_function_of k)))

-- the function of conditions that a key names
abbrev pub condition_function_of : List ℕ → Option Function
condition_function_of k =
    if bytes_eq k (codes "equals") then Some function.Equals else (
    if bytes_eq k (codes "get_param") then Some function.FlagParameter else (
    if bytes_eq k (codes "not") then Some function.Not else (
    if bytes_eq k (codes "and") then Some function.And else (
    if bytes_eq k (codes "or") then Some function.Or else (
    if bytes_eq k (codes "contains") then Some function.Contains else None)))))

-- the argument has this form; never where there is none
abbrev pub has_form_of : Option Form → Data → Bool
has_form_of None d = false
has_form_of (Some f) d = has_form f d

-- the argument of a function of values has its form, and no `permutations` stands in it
abbrev pub is_formed : List ℕ → Data → Bool
is_formed k d = has_form_of (form_of k) d && not (stands (codes "permutations") (members_in d))

-- the argument of a function of conditions has its form
abbrev pub is_condition_formed : List ℕ → Data → Bool
is_condition_formed k d = has_form_of (condition_form_of k) d

-- the only member of an object, its key and its value, and the function that its key names; none where that is no call
abbrev pub named_in : (List ℕ → Option Function) → Members → Option (List ℕ × Data × Function)
named_in named ms = option_and_then (λ m. option_map (λ f. (m.0, m.1, f)) (named m.0)) (lone ms)
