-- What a value is read as, by the place where it stands.
use Rattle.std.specs.Prelude.{ℕ, ◌==◌, List, Bool, Option, Some, None, bytes_eq, codes, if◌then◌else◌}
use Rattle.heat_value.specs.Data.{Data, Members}
use Rattle.hot_functions.specs.Forms.{lone, form_of, condition_form_of}
use Rattle.hot_functions.specs.declared.form.Form.{Form}
use Rattle.hot_functions.specs.declared.place.Place.{Place}
use Rattle.hot_functions.specs.declared.place.Place.TheVariants as place

-- how the item at a place of a list is read
abbrev pub item_place : Place → ℕ → Place
item_place place.Open i = place.Open
item_place place.Barred i = place.Barred
item_place place.Condition i = place.Barred
item_place place.Conditions i = place.Condition
item_place place.Branches i = if i == 0 then place.Condition else place.Open
item_place place.BarredBranches i = if i == 0 then place.Condition else place.Barred

-- how a condition function's argument is read
abbrev pub operand_place : List ℕ → Place
operand_place k =
    if bytes_eq k (codes "not") then place.Condition else (
    if bytes_eq k (codes "and") then place.Conditions else (
    if bytes_eq k (codes "or") then place.Conditions else place.Barred))

-- how a function's argument is read
abbrev pub argument_place : Place → List ℕ → Place
argument_place place.Open k = if bytes_eq k (codes "if") then place.Branches else place.Open
argument_place place.Barred k = if bytes_eq k (codes "if") then place.BarredBranches else place.Barred
argument_place place.Condition k = operand_place k
argument_place place.Conditions k = place.Barred
argument_place place.Branches k = place.Open
argument_place place.BarredBranches k = place.Barred

-- how the values of a plain object are read
abbrev pub plain_place : Place → Place
plain_place place.Open = place.Open
plain_place place.Barred = place.Barred
plain_place place.Condition = place.Barred
plain_place place.Conditions = place.Barred
plain_place place.Branches = place.Open
plain_place place.BarredBranches = place.Barred

-- how the values of an object are read, of which this is the only member, if one is
abbrev pub member_place : Place → Option (List ℕ × Data) → Place
member_place p None = plain_place p
member_place p (Some m) = argument_place p m.0

-- the form that an object's argument has to have, as one function or another by the place
abbrev pub form_at : Place → List ℕ → Option Form
form_at place.Open k = form_of k
form_at place.Barred k = form_of k
form_at place.Condition k = condition_form_of k
form_at place.Conditions k = None
form_at place.Branches k = None
form_at place.BarredBranches k = None
