-- Evaluation: a value with functions in it, part by part, with the sum of costs carried from part to part.
use Rattle.std.specs.Prelude.{ℕ, zero, suc, ◌+◌, nat_le, List, [], ◌∷◌, Bool, true, false, Option, Some, None}
use Rattle.std.specs.Prelude.{Result, Ok, Err, bytes_eq, codes, if◌then◌else◌}
use Rattle.heat_value.specs.Data.{Data, null, flag, whole, words, items, fields, Nodes, no_nodes, node}
use Rattle.heat_value.specs.Data.{Members, no_members, member}
use Rattle.heat_value.specs.declared.path.Step.{Step}
use Rattle.heat_value.specs.declared.path.Step.TheVariants.{Key, Index}
use Rattle.eval_words.specs.Choices.{Choice, Repetition, repetition}
use Rattle.eval_words.specs.Fillings.{filled, filled_size, literal_path}
use Rattle.eval_words.specs.Functions.{branch, negated, conjoined, disjoined, only_flag}
use Rattle.eval_words.specs.Lists.{list_concat, list_concat_unique, filter, contains, equals}
use Rattle.eval_words.specs.Lookups.{parameter, resource, attribute, file, named_condition}
use Rattle.eval_words.specs.Maps.{map_merge, map_replace}
use Rattle.eval_words.specs.Manners.{manner_of}
use Rattle.eval_words.specs.declared.manner.Manner.{Manner}
use Rattle.eval_words.specs.declared.manner.Manner.TheVariants as manner
use Rattle.eval_words.specs.Names.{function_of, condition_function_of, is_formed, is_condition_formed}
use Rattle.eval_words.specs.Outcomes.{Outcome, Gives, Faults, and_then, made_into, seen_from, under, charged, answered}
use Rattle.eval_words.specs.Outcomes.{one_level, max_levels, size, cost_limit, greater}
use Rattle.eval_words.specs.Scenes.{SceneData}
use Rattle.eval_words.specs.Sorts.{flag_in}
use Rattle.eval_words.specs.Texts.{list_join, str_split, str_replace, digest}
use Rattle.eval_words.specs.declared.code.FaultCode.{FaultCode}
use Rattle.eval_words.specs.declared.code.FaultCode.TheVariants.{F01, F05, F07}
use Rattle.eval_words.specs.declared.function.Function.{Function}
use Rattle.eval_words.specs.declared.function.Function.TheVariants as function

-- an evaluation of a value, from a sum of costs on
abbrev pub Evaluating : Type 0
Evaluating = Data → ℕ → Outcome Data

-- the same at any number of levels that are left
abbrev pub Leveled : Type 0
Leveled = ℕ → Evaluating

-- ---- repeat

-- what a choice costs: the greatest of 64, the literal template's size and the replaced one's
abbrev pub choice_cost : Data → Data → ℕ
choice_cost template r = greater 64 (greater (size template) (size r))

-- F05 where two keys of an object became one; else the choice is counted
abbrev pub added : Data → Option Data → ℕ → Outcome Data
added template None spent = Faults F05 []
added template (Some r) spent = charged r (choice_cost template r) spent

-- the replaced template, counted; F07 before that where its keys and texts alone pass what is left
abbrev pub counted : Choice → Data → Option Data → ℕ → Outcome Data
counted c template r spent =
    if nat_le (spent + filled_size c template) cost_limit then added template r spent else Faults F07 []

-- the place in a repeat's object of what stands at a path of the replaced template
abbrev pub in_repeat : Choice → Data → List Step → List Step
in_repeat c template p = Key (codes "repeat") ∷ Key (codes "template") ∷ literal_path c template p

-- what a replaced template comes to; its faults stand where the literal template has the place
abbrev pub choice_outcome : Evaluating → Data → Choice → Option Data → ℕ → Outcome Data
choice_outcome again template c r spent =
    and_then (counted c template r spent) (λ r sum. seen_from (in_repeat c template) (again r sum))

-- choice by choice
abbrev pub choices_outcome : Evaluating → Data → List Choice → ℕ → Outcome Nodes
choices_outcome again template [] spent = Gives no_nodes spent
choices_outcome again template (c ∷ cs) spent =
    and_then (choice_outcome again template c (filled c template) spent) (λ v sum.
    made_into (node v) (choices_outcome again template cs sum))

-- its own faults come before all choices
abbrev pub repeated : Evaluating → Result Repetition FaultCode → ℕ → Outcome Data
repeated again (Ok (cs, template)) spent =
    and_then (choices_outcome again template cs spent) (λ ns sum. answered (Ok (items ns)) sum)
repeated again (Err c) spent = Faults c []

-- ---- a function, with its argument evaluated

-- the answer of a function that evaluates nothing more; none for a repeat
abbrev pub own_answer : SceneData → Function → Data → Option (Result Data FaultCode)
own_answer scene function.Parameter a = Some (parameter scene a)
own_answer scene function.Resource a = Some (resource scene a)
own_answer scene function.Attribute a = Some (attribute scene a)
own_answer scene function.File a = Some (file scene a)
own_answer scene function.Join a = Some (list_join a)
own_answer scene function.Split a = Some (str_split a)
own_answer scene function.Replace a = Some (str_replace false a)
own_answer scene function.ReplaceStrictly a = Some (str_replace true a)
own_answer scene function.Repeat a = None
own_answer scene function.Digest a = Some (digest a)
own_answer scene function.MergeMaps a = Some (map_merge a)
own_answer scene function.ReplaceInMap a = Some (map_replace a)
own_answer scene function.Concat a = Some (list_concat a)
own_answer scene function.ConcatUnique a = Some (list_concat_unique a)
own_answer scene function.Filter a = Some (filter a)
own_answer scene function.Contains a = Some (contains a)
own_answer scene function.If a = Some (branch a)
own_answer scene function.FlagParameter a = Some (only_flag (parameter scene a))
own_answer scene function.Equals a = Some (equals a)
own_answer scene function.Not a = Some (negated a)
own_answer scene function.And a = Some (conjoined a)
own_answer scene function.Or a = Some (disjoined a)

-- a repeat evaluates its replaced templates first
abbrev pub answered_by : Evaluating → Data → Option (Result Data FaultCode) → ℕ → Outcome Data
answered_by again a None spent = repeated again (repetition a) spent
answered_by again a (Some r) spent = answered r spent

-- what a function answers
abbrev pub answer_of : Evaluating → SceneData → Function → Data → ℕ → Outcome Data
answer_of again scene f a spent = answered_by again a (own_answer scene f a) spent

-- ---- calls

-- the only member of an object: its key, its value, and what the value comes to as an argument in each manner
pub record Sole : Type 0 where
  pub key : List ℕ
  pub given : Data
  pub each : ℕ → Outcome Data
  pub all_but_template : ℕ → Outcome Data
  pub chosen_branch : ℕ → Outcome Data
  pub condition : ℕ → Outcome Data
  pub conditions : ℕ → Outcome Data

-- the argument with its parts evaluated in their places, and literal ones as written
abbrev pub argument : Manner → Sole → ℕ → Outcome Data
argument manner.Each m spent = m.each spent
argument manner.AllButTemplate m spent = m.all_but_template spent
argument manner.ChosenBranch m spent = m.chosen_branch spent
argument manner.Condition m spent = m.condition spent
argument manner.Conditions m spent = m.conditions spent

-- the argument is evaluated and counted, and then the function answers; F01 where it is off its form
abbrev pub call : Evaluating → SceneData → Function → Bool → Sole → ℕ → Outcome Data
call again scene f formed m spent =
    if formed
    then and_then (under (Key m.key) (argument (manner_of f) m spent)) (λ a sum.
    and_then (charged a (size a) sum) (answer_of again scene f))
    else Faults F01 []

-- a member that names a function calls it; else what the object is by its parts
abbrev pub called : Evaluating → SceneData → Option Function → Bool → Sole → Outcome Data → ℕ → Outcome Data
called again scene None formed m plain spent = plain
called again scene (Some f) formed m plain spent = call again scene f formed m spent

-- an object with one key is the function of values that the key names, if it names one
abbrev pub object_outcome : Evaluating → SceneData → Option Sole → Outcome Data → ℕ → Outcome Data
object_outcome again scene None plain spent = plain
object_outcome again scene (Some m) plain spent =
    called again scene (function_of m.key) (is_formed m.key m.given) m plain spent

-- and as a condition the function of conditions that it names
abbrev pub object_condition : Evaluating → SceneData → Option Sole → Outcome Data → ℕ → Outcome Data
object_condition again scene None plain spent = plain
object_condition again scene (Some m) plain spent =
    called again scene (condition_function_of m.key) (is_condition_formed m.key m.given) m plain spent

-- a list of one part
abbrev pub alone : Data → Nodes
alone d = node d no_nodes

-- a replaced template takes a level itself
abbrev pub replaced : Leveled → ℕ → Evaluating
replaced again levels r spent = one_level levels (λ inside. again inside r spent)

-- ---- values, functions and conditions

abbrev mutual
  -- scalars are themselves, lists and objects go part by part, an object with one key may be a function
  pub value_outcome : Leveled → SceneData → ℕ → Data → ℕ → Outcome Data
  value_outcome again scene levels null spent = Gives null spent
  value_outcome again scene levels (flag b) spent = Gives (flag b) spent
  value_outcome again scene levels (whole z) spent = Gives (whole z) spent
  value_outcome again scene levels (words s) spent = Gives (words s) spent
  value_outcome again scene levels (items ns) spent =
      one_level levels (λ inside. made_into items (values_outcome again scene inside 0 ns spent))
  value_outcome again scene levels (fields ms) spent =
      one_level levels (λ inside. object_outcome (replaced again inside) scene (sole again scene inside ms)
      (made_into fields (members_outcome again scene inside ms spent)) spent)

  -- the parts of a list from the place i on
  pub values_outcome : Leveled → SceneData → ℕ → ℕ → Nodes → ℕ → Outcome Nodes
  values_outcome again scene levels i no_nodes spent = Gives no_nodes spent
  values_outcome again scene levels i (node d ns) spent =
      and_then (under (Index i) (value_outcome again scene levels d spent)) (λ v sum.
      made_into (node v) (values_outcome again scene levels (i + 1) ns sum))

  -- the parts of an object, which itself is no function
  pub members_outcome : Leveled → SceneData → ℕ → Members → ℕ → Outcome Members
  members_outcome again scene levels no_members spent = Gives no_members spent
  members_outcome again scene levels (member k d ms) spent =
      and_then (under (Key k) (value_outcome again scene levels d spent)) (λ v sum.
      made_into (member k v) (members_outcome again scene levels ms sum))

  -- the only member of an object that has just one
  pub sole : Leveled → SceneData → ℕ → Members → Option Sole
  sole again scene levels no_members = None
  sole again scene levels (member k d no_members) = Some (record {
    key = k;
    given = d;
    each = parts_outcome again scene levels d;
    all_but_template = repeat_outcome again scene levels d;
    chosen_branch = if_outcome again scene levels d;
    condition = condition_outcome again scene levels d;
    conditions = condition_parts_outcome again scene levels d;
  })
  sole again scene levels (member k d (member l e ms)) = None

  -- each part as a value
  pub parts_outcome : Leveled → SceneData → ℕ → Data → ℕ → Outcome Data
  parts_outcome again scene levels null spent = Gives null spent
  parts_outcome again scene levels (flag b) spent = Gives (flag b) spent
  parts_outcome again scene levels (whole z) spent = Gives (whole z) spent
  parts_outcome again scene levels (words s) spent = Gives (words s) spent
  parts_outcome again scene levels (items ns) spent = made_into items (values_outcome again scene levels 0 ns spent)
  parts_outcome again scene levels (fields ms) spent = made_into fields (members_outcome again scene levels ms spent)

  -- of a repeat
  pub repeat_outcome : Leveled → SceneData → ℕ → Data → ℕ → Outcome Data
  repeat_outcome again scene levels null spent = Gives null spent
  repeat_outcome again scene levels (flag b) spent = Gives (flag b) spent
  repeat_outcome again scene levels (whole z) spent = Gives (whole z) spent
  repeat_outcome again scene levels (words s) spent = Gives (words s) spent
  repeat_outcome again scene levels (items ns) spent = Gives (items ns) spent
  repeat_outcome again scene levels (fields ms) spent =
      made_into fields (all_but_outcome again scene levels (codes "template") ms spent)

  -- the parts of an object but the one under this key
  pub all_but_outcome : Leveled → SceneData → ℕ → List ℕ → Members → ℕ → Outcome Members
  all_but_outcome again scene levels but no_members spent = Gives no_members spent
  all_but_outcome again scene levels but (member k d ms) spent =
      and_then (if bytes_eq k but then Gives d spent else under (Key k) (value_outcome again scene levels d spent)) (λ v sum.
      made_into (member k v) (all_but_outcome again scene levels but ms sum))

  -- of an `if`
  pub if_outcome : Leveled → SceneData → ℕ → Data → ℕ → Outcome Data
  if_outcome again scene levels null spent = Gives null spent
  if_outcome again scene levels (flag b) spent = Gives (flag b) spent
  if_outcome again scene levels (whole z) spent = Gives (whole z) spent
  if_outcome again scene levels (words s) spent = Gives (words s) spent
  if_outcome again scene levels (items ns) spent = made_into items (chosen_outcome again scene levels ns spent)
  if_outcome again scene levels (fields ms) spent = Gives (fields ms) spent

  -- the condition's value, and behind it that of the branch which it chooses
  pub chosen_outcome : Leveled → SceneData → ℕ → Nodes → ℕ → Outcome Nodes
  chosen_outcome again scene levels no_nodes spent = Gives no_nodes spent
  chosen_outcome again scene levels (node c ns) spent =
      and_then (under (Index 0) (condition_outcome again scene levels c spent)) (λ v sum.
      made_into (node v) (branch_outcome again scene levels (flag_in v) ns sum))

  -- the first branch where the condition is true, the second or null where it is false, none where it has no value
  pub branch_outcome : Leveled → SceneData → ℕ → Option Bool → Nodes → ℕ → Outcome Nodes
  branch_outcome again scene levels None ns spent = Gives no_nodes spent
  branch_outcome again scene levels (Some true) no_nodes spent = Gives no_nodes spent
  branch_outcome again scene levels (Some true) (node d ns) spent =
      made_into alone (under (Index 1) (value_outcome again scene levels d spent))
  branch_outcome again scene levels (Some false) no_nodes spent = Gives (alone null) spent
  branch_outcome again scene levels (Some false) (node d no_nodes) spent = Gives (alone null) spent
  branch_outcome again scene levels (Some false) (node d (node e ns)) spent =
      made_into alone (under (Index 2) (value_outcome again scene levels e spent))

  -- a flag is itself, a text the condition of that name, an object with one key the function that the key names
  pub condition_outcome : Leveled → SceneData → ℕ → Data → ℕ → Outcome Data
  condition_outcome again scene levels null spent = Gives null spent
  condition_outcome again scene levels (flag b) spent = Gives (flag b) spent
  condition_outcome again scene levels (whole z) spent = Gives (whole z) spent
  condition_outcome again scene levels (words s) spent = Gives (named_condition scene s) spent
  condition_outcome again scene levels (items ns) spent = Gives (items ns) spent
  condition_outcome again scene levels (fields ms) spent =
      one_level levels (λ inside. object_condition (replaced again inside) scene (sole again scene inside ms)
      (Gives (fields ms) spent) spent)

  -- of `and` and `or`
  pub condition_parts_outcome : Leveled → SceneData → ℕ → Data → ℕ → Outcome Data
  condition_parts_outcome again scene levels null spent = Gives null spent
  condition_parts_outcome again scene levels (flag b) spent = Gives (flag b) spent
  condition_parts_outcome again scene levels (whole z) spent = Gives (whole z) spent
  condition_parts_outcome again scene levels (words s) spent = Gives (words s) spent
  condition_parts_outcome again scene levels (items ns) spent = made_into items (conditions_outcome again scene levels 0 ns spent)
  condition_parts_outcome again scene levels (fields ms) spent = Gives (fields ms) spent

  -- each part, from the place i on; what is true or false already ends nothing
  pub conditions_outcome : Leveled → SceneData → ℕ → ℕ → Nodes → ℕ → Outcome Nodes
  conditions_outcome again scene levels i no_nodes spent = Gives no_nodes spent
  conditions_outcome again scene levels i (node d ns) spent =
      and_then (under (Index i) (condition_outcome again scene levels d spent)) (λ v sum.
      made_into (node v) (conditions_outcome again scene levels (i + 1) ns sum))

-- a part of an object, as written where its key is this one
abbrev pub outcome_unless : Leveled → SceneData → ℕ → List ℕ → List ℕ → Data → ℕ → Outcome Data
outcome_unless again scene levels but k d spent =
    if bytes_eq k but then Gives d spent else under (Key k) (value_outcome again scene levels d spent)

-- a member that stands alone
abbrev pub sole_of : Leveled → SceneData → ℕ → List ℕ → Data → Sole
sole_of again scene levels k d = record {
  key = k;
  given = d;
  each = parts_outcome again scene levels d;
  all_but_template = repeat_outcome again scene levels d;
  chosen_branch = if_outcome again scene levels d;
  condition = condition_outcome again scene levels d;
  conditions = condition_parts_outcome again scene levels d;
}

-- ---- the whole

-- evaluation where at most so many repeats stand in one another
abbrev pub evaluation_within : ℕ → SceneData → Leveled
evaluation_within zero scene levels d spent = Faults F07 []
evaluation_within (suc repeats) scene levels d spent =
    value_outcome (evaluation_within repeats scene) scene levels d spent

-- evaluation: each replaced template takes a level, so that levels come to an end before any number of repeats ends it
unfoldable pub evaluation : SceneData → Leveled
evaluation scene = evaluation_within max_levels scene
