-- H22 and H24 in a value: the first place, in reading order, where either holds.
use Rattle.std.specs.Prelude.{ℕ, ◌+◌, List, [], ◌∷◌, Bool, true, false, not, ◌||◌, Option, Some, None, is_some}
use Rattle.std.specs.Prelude.{codes, if◌then◌else◌}
use Rattle.std.specs.Option.{option_or}
use Rattle.heat_value.specs.Data.{Data, null, flag, whole, words, items, fields, Nodes, no_nodes, node, Members}
use Rattle.heat_value.specs.Data.{no_members, member, lookup}
use Rattle.heat_value.specs.declared.path.Step.TheVariants.{Key, Index}
use Rattle.hot_forms.specs.Checks.{wrong, under, first_of, unless, is_among}
use Rattle.hot_forms.specs.declared.code.HotCode.TheVariants.{H22, H24}
use Rattle.hot_forms.specs.declared.flaw.Flaw.{Flaw}
use Rattle.hot_functions.specs.Forms.{lone, has_form}
use Rattle.hot_functions.specs.References.{is_reference, refers}
use Rattle.hot_functions.specs.Places.{item_place, member_place, form_at}
use Rattle.hot_functions.specs.declared.form.Form.{Form}
use Rattle.hot_functions.specs.declared.form.Form.TheVariants as form
use Rattle.hot_functions.specs.declared.place.Place.{Place}
use Rattle.hot_functions.specs.declared.place.Place.TheVariants as place

-- the pseudo parameters
abbrev pub pseudo_parameters : List (List ℕ)
pseudo_parameters = codes "OS::stack_name" ∷ codes "OS::project_id" ∷ codes "OS::stack_id" ∷ []

-- a parameter of the template, or a pseudo parameter
abbrev pub is_parameter : Members → List ℕ → Bool
is_parameter params s = is_among pseudo_parameters s || is_some (lookup s params)

-- H24: a text names no parameter
abbrev pub unnamed_parameter : Members → Data → Option Flaw
unnamed_parameter params null = None
unnamed_parameter params (flag b) = None
unnamed_parameter params (whole z) = None
unnamed_parameter params (words s) = unless (is_parameter params s) H24
unnamed_parameter params (items ns) = None
unnamed_parameter params (fields ms) = None

abbrev pub first_unnamed : Members → Nodes → Option Flaw
first_unnamed params no_nodes = None
first_unnamed params (node d ns) = under (Index 0) (unnamed_parameter params d)

-- the name in a get_param's argument, which is that text or the first of that list
abbrev pub names_no_parameter : Members → Data → Option Flaw
names_no_parameter params null = None
names_no_parameter params (flag b) = None
names_no_parameter params (whole z) = None
names_no_parameter params (words s) = unnamed_parameter params (words s)
names_no_parameter params (items ns) = first_unnamed params ns
names_no_parameter params (fields ms) = None

-- H24 of a function by its form
abbrev pub unnamed : Members → Form → Data → Option Flaw
unnamed params form.Parameter d = names_no_parameter params d
unnamed params form.Resource d = None
unnamed params form.Attribute d = None
unnamed params form.File d = None
unnamed params form.Joined d = None
unnamed params form.Split d = None
unnamed params form.Replaced d = None
unnamed params form.Repeated d = None
unnamed params form.Pair d = None
unnamed params form.AnyList d = None
unnamed params form.Branches d = None
unnamed params form.Negated d = None
unnamed params form.Combined d = None

-- H22 of a form that the argument hasn't, else H24
abbrev pub argument_flaw : Members → Option Form → Data → Option Flaw
argument_flaw params None d = None
argument_flaw params (Some f) d = first_of (unless (has_form f d) H22 ∷ unnamed params f d ∷ [])

-- a reference to a resource may not stand there
abbrev pub is_barred : Place → List ℕ → Bool
is_barred place.Open k = false
is_barred place.Barred k = refers k
is_barred place.Condition k = false
is_barred place.Conditions k = false
is_barred place.Branches k = false
is_barred place.BarredBranches k = false

-- what is wrong with an object itself, of which this is the only member, if one is; as a plain object nothing is
abbrev pub function_flaw : Members → Place → Option (List ℕ × Data) → Option Flaw
function_flaw params p None = None
function_flaw params p (Some m) = first_of (
    unless (not (is_barred p m.0)) H22
    ∷ under (Key m.0) (argument_flaw params (form_at p m.0) m.1) ∷ [])

-- a text where a condition stands names one
abbrev pub text_flaw : Members → Place → List ℕ → Option Flaw
text_flaw conds place.Open s = None
text_flaw conds place.Barred s = None
text_flaw conds place.Condition s = unless (is_some (lookup s conds)) H24
text_flaw conds place.Conditions s = None
text_flaw conds place.Branches s = None
text_flaw conds place.BarredBranches s = None

-- the first flaw of a value that is read so, among these parameters and conditions
abbrev mutual
  pub value_flaw : Members → Members → Place → Data → Option Flaw
  value_flaw params conds p null = None
  value_flaw params conds p (flag b) = None
  value_flaw params conds p (whole z) = None
  value_flaw params conds p (words s) = text_flaw conds p s
  value_flaw params conds p (items ns) = items_flaw params conds p 0 ns
  value_flaw params conds p (fields ms) =
      option_or (function_flaw params p (lone ms)) (members_flaw params conds (member_place p (lone ms)) ms)

  -- of a list's values from the place i on
  pub items_flaw : Members → Members → Place → ℕ → Nodes → Option Flaw
  items_flaw params conds p i no_nodes = None
  items_flaw params conds p i (node d ns) =
      option_or (under (Index i) (value_flaw params conds (item_place p i) d)) (items_flaw params conds p (i + 1) ns)

  -- of an object's values, each read so
  pub members_flaw : Members → Members → Place → Members → Option Flaw
  members_flaw params conds p no_members = None
  members_flaw params conds p (member k d ms) =
      option_or (under (Key k) (value_flaw params conds p d)) (members_flaw params conds p ms)
