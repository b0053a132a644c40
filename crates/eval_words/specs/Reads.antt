-- The names of resources that an evaluation looks up, in order, up to its first fault.
use Rattle.std.specs.Prelude.{ℕ, zero, suc, List, [], ◌++◌, Bool, true, false, Option, Some, None}
use Rattle.std.specs.Prelude.{bytes_eq, codes, if◌then◌else◌}
use Rattle.heat_plan.specs.Plans.{PlanData}
use Rattle.heat_plan.specs.declared.facts.KnownFacts.{KnownFacts}
use Rattle.heat_plan.specs.declared.item.Item.{Item}
use Rattle.heat_value.specs.Data.{Data, null, flag, whole, words, items, fields, Nodes, no_nodes, node}
use Rattle.heat_value.specs.Data.{Members, no_members, member}
use Rattle.eval_words.specs.Evaluation.{Leveled, Sole, evaluation, evaluation_within, replaced, sole_of}
use Rattle.eval_words.specs.Evaluation.{value_outcome, condition_outcome}
use Rattle.eval_words.specs.Looks.{Looks, LeveledReading, SoleReads, replaced_reads, reads_inside, reads_behind}
use Rattle.eval_words.specs.Looks.{object_reads, object_condition_reads}
use Rattle.eval_words.specs.Outcomes.{max_levels}
use Rattle.eval_words.specs.Scenes.{SceneData, scene_of}
use Rattle.eval_words.specs.Sorts.{flag_in}

-- ---- values and conditions, part by part as they are evaluated

-- a value: nothing as a scalar, a list and an object by their parts, or the call that an object is
abbrev mutual
  pub value_reads : Leveled → LeveledReading → SceneData → ℕ → Data → ℕ → Looks
  value_reads again reads scene levels null spent = []
  value_reads again reads scene levels (flag b) spent = []
  value_reads again reads scene levels (whole z) spent = []
  value_reads again reads scene levels (words s) spent = []
  value_reads again reads scene levels (items ns) spent =
      reads_inside levels (λ inside. values_reads again reads scene inside ns spent)
  value_reads again reads scene levels (fields ms) spent =
      reads_inside levels (λ inside. object_reads (replaced again inside) (replaced_reads reads inside)
      (sole_reads again reads scene inside ms) (members_reads again reads scene inside ms spent) spent)

  -- the values of a list, one behind the other
  pub values_reads : Leveled → LeveledReading → SceneData → ℕ → Nodes → ℕ → Looks
  values_reads again reads scene levels no_nodes spent = []
  values_reads again reads scene levels (node d ns) spent =
      value_reads again reads scene levels d spent
      ++ reads_behind (value_outcome again scene levels d spent) (λ v sum. values_reads again reads scene levels ns sum)

  -- the values of an object's members, one behind the other
  pub members_reads : Leveled → LeveledReading → SceneData → ℕ → Members → ℕ → Looks
  members_reads again reads scene levels no_members spent = []
  members_reads again reads scene levels (member k d ms) spent =
      value_reads again reads scene levels d spent
      ++ reads_behind (value_outcome again scene levels d spent) (λ v sum. members_reads again reads scene levels ms sum)

  -- the only member of an object, with what it looks up in each manner; none of an object that isn't of one
  pub sole_reads : Leveled → LeveledReading → SceneData → ℕ → Members → Option (Sole × SoleReads)
  sole_reads again reads scene levels no_members = None
  sole_reads again reads scene levels (member k d no_members) = Some (
    sole_of again scene levels k d,
    record {
      each = parts_reads again reads scene levels d;
      all_but_template = repeat_reads again reads scene levels d;
      chosen_branch = if_reads again reads scene levels d;
      condition = condition_reads again reads scene levels d;
      conditions = condition_parts_reads again reads scene levels d;
    },
  )
  sole_reads again reads scene levels (member k d (member l e ms)) = None

  -- the parts of a list or of an object
  pub parts_reads : Leveled → LeveledReading → SceneData → ℕ → Data → ℕ → Looks
  parts_reads again reads scene levels null spent = []
  parts_reads again reads scene levels (flag b) spent = []
  parts_reads again reads scene levels (whole z) spent = []
  parts_reads again reads scene levels (words s) spent = []
  parts_reads again reads scene levels (items ns) spent = values_reads again reads scene levels ns spent
  parts_reads again reads scene levels (fields ms) spent = members_reads again reads scene levels ms spent

  -- of a repeat
  pub repeat_reads : Leveled → LeveledReading → SceneData → ℕ → Data → ℕ → Looks
  repeat_reads again reads scene levels null spent = []
  repeat_reads again reads scene levels (flag b) spent = []
  repeat_reads again reads scene levels (whole z) spent = []
  repeat_reads again reads scene levels (words s) spent = []
  repeat_reads again reads scene levels (items ns) spent = []
  repeat_reads again reads scene levels (fields ms) spent =
      all_but_reads again reads scene levels (codes "template") ms spent

  -- the values of an object's members, but for the one under this key
  pub all_but_reads : Leveled → LeveledReading → SceneData → ℕ → List ℕ → Members → ℕ → Looks
  all_but_reads again reads scene levels but no_members spent = []
  all_but_reads again reads scene levels but (member k d ms) spent =
      if bytes_eq k but
      then all_but_reads again reads scene levels but ms spent
      else value_reads again reads scene levels d spent
      ++ reads_behind (value_outcome again scene levels d spent) (λ v sum.
      all_but_reads again reads scene levels but ms sum)

  -- of an `if`
  pub if_reads : Leveled → LeveledReading → SceneData → ℕ → Data → ℕ → Looks
  if_reads again reads scene levels null spent = []
  if_reads again reads scene levels (flag b) spent = []
  if_reads again reads scene levels (whole z) spent = []
  if_reads again reads scene levels (words s) spent = []
  if_reads again reads scene levels (items ns) spent = chosen_reads again reads scene levels ns spent
  if_reads again reads scene levels (fields ms) spent = []

  -- the condition, and then the branch that it chooses
  pub chosen_reads : Leveled → LeveledReading → SceneData → ℕ → Nodes → ℕ → Looks
  chosen_reads again reads scene levels no_nodes spent = []
  chosen_reads again reads scene levels (node c ns) spent =
      condition_reads again reads scene levels c spent
      ++ reads_behind (condition_outcome again scene levels c spent) (λ v sum.
      branch_reads again reads scene levels (flag_in v) ns sum)

  -- the chosen branch alone
  pub branch_reads : Leveled → LeveledReading → SceneData → ℕ → Option Bool → Nodes → ℕ → Looks
  branch_reads again reads scene levels None ns spent = []
  branch_reads again reads scene levels (Some true) no_nodes spent = []
  branch_reads again reads scene levels (Some true) (node d ns) spent = value_reads again reads scene levels d spent
  branch_reads again reads scene levels (Some false) no_nodes spent = []
  branch_reads again reads scene levels (Some false) (node d no_nodes) spent = []
  branch_reads again reads scene levels (Some false) (node d (node e ns)) spent =
      value_reads again reads scene levels e spent

  -- a condition: only one that is a call looks anything up
  pub condition_reads : Leveled → LeveledReading → SceneData → ℕ → Data → ℕ → Looks
  condition_reads again reads scene levels null spent = []
  condition_reads again reads scene levels (flag b) spent = []
  condition_reads again reads scene levels (whole z) spent = []
  condition_reads again reads scene levels (words s) spent = []
  condition_reads again reads scene levels (items ns) spent = []
  condition_reads again reads scene levels (fields ms) spent =
      reads_inside levels (λ inside. object_condition_reads (replaced again inside) (replaced_reads reads inside)
      (sole_reads again reads scene inside ms) spent)

  -- of `and` and `or`
  pub condition_parts_reads : Leveled → LeveledReading → SceneData → ℕ → Data → ℕ → Looks
  condition_parts_reads again reads scene levels null spent = []
  condition_parts_reads again reads scene levels (flag b) spent = []
  condition_parts_reads again reads scene levels (whole z) spent = []
  condition_parts_reads again reads scene levels (words s) spent = []
  condition_parts_reads again reads scene levels (items ns) spent = conditions_reads again reads scene levels ns spent
  condition_parts_reads again reads scene levels (fields ms) spent = []

  -- conditions, one behind the other
  pub conditions_reads : Leveled → LeveledReading → SceneData → ℕ → Nodes → ℕ → Looks
  conditions_reads again reads scene levels no_nodes spent = []
  conditions_reads again reads scene levels (node d ns) spent =
      condition_reads again reads scene levels d spent
      ++ reads_behind (condition_outcome again scene levels d spent) (λ v sum.
      conditions_reads again reads scene levels ns sum)

-- ---- the whole

-- what is looked up where at most so many repeats stand in one another
abbrev pub reads_within : ℕ → SceneData → LeveledReading
reads_within zero scene levels d spent = []
reads_within (suc repeats) scene levels d spent =
    value_reads (evaluation_within repeats scene) (reads_within repeats scene) scene levels d spent

-- what an evaluation in this scene looks up
unfoldable pub all_reads : SceneData → LeveledReading
all_reads scene = reads_within max_levels scene

-- what the evaluation of a map of properties looks up
abbrev pub properties_reads : SceneData → Members → Looks
properties_reads scene ms = members_reads (evaluation scene) (all_reads scene) scene max_levels ms 0

-- the names that an item's properties look up with the facts that are known, in order, up to the first fault
unfoldable pub reads : PlanData → Item → List KnownFacts → Looks
reads plan item known = properties_reads (scene_of plan known) item.props
