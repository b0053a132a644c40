-- As what each part of a value is evaluated.
use Rattle.std.specs.Prelude.{ℕ, ◌==◌, List, Option, Some, None, bytes_eq, codes, if◌then◌else◌}
use Rattle.heat_value.specs.Data.{Data}
use Rattle.eval_words.specs.Manners.{manner_of}
use Rattle.eval_words.specs.Names.{function_of, condition_function_of}
use Rattle.eval_words.specs.declared.function.Function.{Function}
use Rattle.eval_words.specs.declared.manner.Manner.{Manner}
use Rattle.eval_words.specs.declared.manner.Manner.TheVariants as manner

-- as a value, as the argument of a function in each manner, as a condition, or not at all, as it is written
pub data Role : Type 0 where
  as_value : Role
  as_parts : Role
  as_repetition : Role
  as_branches : Role
  as_condition : Role
  as_conditions : Role
  as_written : Role

-- a function's argument, by the manner in which its parts are evaluated
abbrev pub argument_role : Manner → Role
argument_role manner.Each = as_parts
argument_role manner.AllButTemplate = as_repetition
argument_role manner.ChosenBranch = as_branches
argument_role manner.Condition = as_condition
argument_role manner.Conditions = as_conditions

-- the function that a key names where an object of this role has just that key
abbrev pub named_as : Role → List ℕ → Option Function
named_as as_value k = function_of k
named_as as_parts k = None
named_as as_repetition k = None
named_as as_branches k = None
named_as as_condition k = condition_function_of k
named_as as_conditions k = None
named_as as_written k = None

-- the function that an object calls, of which this is the only member, if one is
abbrev pub called_as : Role → Option (List ℕ × Data) → Option Function
called_as r None = None
called_as r (Some m) = named_as r m.0

-- the item at a place of a list
abbrev pub item_role : Role → ℕ → Role
item_role as_value i = as_value
item_role as_parts i = as_value
item_role as_repetition i = as_written
item_role as_branches i = if i == 0 then as_condition else as_value
item_role as_condition i = as_written
item_role as_conditions i = as_condition
item_role as_written i = as_written

-- the argument of a function that is called; as a plain object's value otherwise
abbrev pub argument_or : Role → Option Function → Role
argument_or plain None = plain
argument_or plain (Some f) = argument_role (manner_of f)

-- what stands under a key of an object that calls this function or none; a repeat's template stands as it is written
abbrev pub member_role : Role → Option Function → List ℕ → Role
member_role as_value f k = argument_or as_value f
member_role as_parts f k = as_value
member_role as_repetition f k = if bytes_eq k (codes "template") then as_written else as_value
member_role as_branches f k = as_written
member_role as_condition f k = argument_or as_written f
member_role as_conditions f k = as_written
member_role as_written f k = as_written
