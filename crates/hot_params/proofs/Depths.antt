-- How deep the values of parameters nest.
use Rattle.std.proofs.Common.{◌≡◌, ◌∙◌, ◌≤◌, ℕ, suc, max, List, [], ◌∷◌, Bool, true, false, Option, Some, None}
use Rattle.std.proofs.Common.{option_map}
use Rattle.std.proofs.Common.{IfSome, refl, ap, sym, subst, arith, codes, bytes_eq, if◌then◌else◌}
use Rattle.std.specs.Cmp.Lexicographic.{slice_cmp}
use Rattle.std.specs.Ordering.{nat_cmp, match_ordering}
use Rattle.std.specs.declared.cmp.Ordering.{Ordering}
use Rattle.std.specs.declared.cmp.Ordering.TheVariants.{Less, Equal, Greater}
use Rattle.heat_value.specs.Data.{Data, null, flag, whole, words, items, fields, Nodes, no_nodes, node, Members}
use Rattle.heat_value.specs.Data.{no_members, member, lookup, put, depth, nodes_depth, members_depth}
use Rattle.hot_forms.specs.Sections.{unless_null, section}
use Rattle.hot_forms.specs.Shapes.{members_in}
use Rattle.hot_forms.specs.declared.sort.Sort.{Sort}
use Rattle.hot_forms.specs.declared.sort.Sort.TheVariants as sort
use Rattle.hot_tree.specs.Functions.{members_there}
use Rattle.hot_params.specs.Bindings.{chosen, type_of, IsValueOf, AreBound}
use Rattle.hot_params.specs.Bound.{params_of}
use Rattle.hot_params.specs.Conversions.{ConvertsTo, string_in, flag_in, list_in, texts_of, nodes_with, IsNumberOf}
use Rattle.hot_params.specs.Identity.{with_pseudo}
use Rattle.hot_params.specs.Texts.{listed_in}
use Rattle.hot_params.specs.declared.ids.Ids.{Ids}
use Rattle.type_catalog.specs.declared.custom.NamedTest.{NamedTest}

abbrev Shallow : Data → Type 0
Shallow d = depth d ≤ 64

-- ---- parts of values

found_at : (l k : List ℕ) (e d : Data) (o : Option Data) (n : ℕ) (b : Bool) → (if b then Some e else o) ≡ Some d
    → (o ≡ Some d → depth d ≤ n) → depth d ≤ max (depth e) n
found_at l k e d o n true is rest =
    let at : e ≡ d = cc in subst (λ (x : Data). depth d ≤ max (depth x) n) (sym at) (omega arith)
found_at l k e d o n false is rest = omega (arith, rest is)

lookup_depth : (k : List ℕ) (ms : Members) (d : Data) → lookup k ms ≡ Some d → depth d ≤ members_depth ms
lookup_depth k no_members d is = cc
lookup_depth k (member l e ms) d is =
    found_at l k e d (lookup k ms) (members_depth ms) (bytes_eq l k) is (λ found. lookup_depth k ms d found)

not_null : (o : Option Data) (d : Data) → unless_null o ≡ Some d → o ≡ Some d
not_null None d is = cc
not_null (Some null) d is = cc
not_null (Some (flag b)) d is = is
not_null (Some (whole z)) d is = is
not_null (Some (words s)) d is = is
not_null (Some (items ns)) d is = is
not_null (Some (fields ms)) d is = is

section_depth : (k : List ℕ) (ms : Members) (d : Data) → section k ms ≡ Some d → depth d ≤ members_depth ms
section_depth k ms d is = lookup_depth k ms d (not_null (lookup k ms) d is)

members_in_depth : (d : Data) → members_depth (members_in d) ≤ depth d
members_in_depth null = omega arith
members_in_depth (flag b) = omega arith
members_in_depth (whole z) = omega arith
members_in_depth (words s) = omega arith
members_in_depth (items ns) = omega arith
members_in_depth (fields ms) = omega arith

there_depth : (o : Option Data) (n : ℕ) → ((d : Data) → o ≡ Some d → depth d ≤ n) → members_depth (members_there o) ≤ n
there_depth None n all = omega arith
there_depth (Some d) n all = omega (arith, all d refl, members_in_depth d)

params_depth : (t : Members) → members_depth (params_of t) ≤ members_depth t
params_depth t =
    there_depth (section (codes "parameters") t) (members_depth t) (λ d is. section_depth (codes "parameters") t d is)

chosen_depth : (given : Option Data) (ms : Members) (d : Data) → chosen given ms ≡ Some d
    → ((g : Data) → given ≡ Some g → Shallow g) → members_depth ms ≤ 64 → Shallow d
chosen_depth (Some g) ms d is shallow below = shallow d is
chosen_depth None ms d is shallow below = omega (arith, section_depth (codes "default") ms d is, below)

-- ---- conversions

texts_depth : (ns : Nodes) → nodes_depth (texts_of ns) ≡ 0
texts_depth no_nodes = refl
texts_depth (node d ns) = omega (arith, texts_depth ns)

with_depth : (ss : List (List ℕ)) → nodes_depth (nodes_with ss) ≡ 0
with_depth [] = refl
with_depth (s ∷ ss) = omega (arith, with_depth ss)

words_depth : (o : Option (List ℕ)) (v : Data) → option_map words o ≡ Some v → Shallow v
words_depth None v is = cc
words_depth (Some s) v is = let at : words s ≡ v = cc in subst Shallow at (omega arith)

flag_depth : (o : Option Bool) (v : Data) → option_map flag o ≡ Some v → Shallow v
flag_depth None v is = cc
flag_depth (Some b) v is = let at : flag b ≡ v = cc in subst Shallow at (omega arith)

list_depth : (d v : Data) → option_map items (list_in d) ≡ Some v → Shallow v
list_depth null v is = cc
list_depth (flag b) v is = cc
list_depth (whole z) v is = cc
list_depth (words s) v is =
    let at : items (nodes_with (listed_in s)) ≡ v = cc in subst Shallow at (omega (arith, with_depth (listed_in s)))
list_depth (items ns) v is = let at : items (texts_of ns) ≡ v = cc in subst Shallow at (omega (arith, texts_depth ns))
list_depth (fields ms) v is = cc

json_depth : (d v : Data) → ConvertsTo (Some sort.Json) d v → Shallow d → Shallow v
json_depth null v is below = absurd is
json_depth (flag b) v is below = absurd is
json_depth (whole z) v is below = absurd is
json_depth (words s) v is below = is.0.shallow
json_depth (items ns) v is below = subst Shallow (sym is) below
json_depth (fields ms) v is below = subst Shallow (sym is) below

converted_depth : (s : Option Sort) (d v : Data) → ConvertsTo s d v → Shallow d → Shallow v
converted_depth None d v is below = absurd is
converted_depth (Some sort.Words) d v is below = words_depth (string_in d) v is
converted_depth (Some sort.Number) d v is below = subst Shallow (sym is.2) (omega arith)
converted_depth (Some sort.Flag) d v is below = flag_depth (flag_in d) v is
converted_depth (Some sort.Json) d v is below = json_depth d v is below
converted_depth (Some sort.List) d v is below = list_depth d v is

-- ---- all parameters

given_depth : (k : List ℕ) (given : Members) → members_depth given ≤ 64 → (g : Data) → lookup k given ≡ Some g
    → Shallow g
given_depth k given below g is = omega (arith, lookup_depth k given g is, below)

values_depth : (tests : List NamedTest) (given ms vs : Members) → members_depth given ≤ 64 → members_depth ms ≤ 64
    → AreBound tests given ms vs → members_depth vs ≤ 64
values_depth tests given no_members no_members below all is = omega arith
values_depth tests given no_members (member l v vs) below all is = absurd is
values_depth tests given (member k d ms) no_members below all is = absurd is
values_depth tests given (member k d ms) (member l v vs) below all is =
    let here : Shallow v = converted_depth (type_of (members_in d)) is.1.from v is.1.converts
    (chosen_depth (lookup k given) (members_in d) is.1.from is.1.chosen_from (given_depth k given below)
    (omega (arith, members_in_depth d, all))) in
    let rest : members_depth vs ≤ 64 = values_depth tests given ms vs below (omega (arith, all)) is.2 in
    omega (arith, here, rest)

put_at : (o : Ordering) (k l : List ℕ) (d e : Data) (ms more : Members)
    → members_depth more ≤ max (depth d) (members_depth ms)
    → members_depth (match_ordering o (member k d (member l e ms)) (member k d ms) (member l e more))
    ≤ max (depth d) (max (depth e) (members_depth ms))
put_at Less k l d e ms more h = omega arith
put_at Equal k l d e ms more h = omega arith
put_at Greater k l d e ms more h = omega (arith, h)

put_depth : (k : List ℕ) (d : Data) (ms : Members) → members_depth (put k d ms) ≤ max (depth d) (members_depth ms)
put_depth k d no_members = omega arith
put_depth k d (member l e ms) = put_at (slice_cmp nat_cmp k l) k l d e ms (put k d ms) (put_depth k d ms)

word_depth : (k s : List ℕ) (ms : Members) → members_depth ms ≤ 64 → members_depth (put k (words s) ms) ≤ 64
word_depth k s ms below = omega (arith, put_depth k (words s) ms, below)

-- what is given and the template within the depth, the bound values are too
pub bound_depth : (tests : List NamedTest) (ids : Ids) (template given values : Members)
    → members_depth given ≤ 64 → members_depth template ≤ 64 → AreBound tests given (params_of template) values
    → members_depth (with_pseudo ids values) ≤ 64
bound_depth tests ids template given values below all is =
    word_depth _ _ _ (word_depth _ _ _ (word_depth _ _ _
    (values_depth tests given (params_of template) values below (omega (arith, params_depth template, all)) is)))
