-- The values of named conditions, cycles among their names, and the first condition that has no value.
use Rattle.std.specs.Prelude.{◌≡◌, ◌⊎◌, ℕ, zero, suc, ◌+◌, List, [], ◌∷◌, ◌++◌, Bool, Option, Some, None, Contains}
use Rattle.std.specs.Option.{option_or}
use Rattle.std.specs.Prelude.{codes}
use Rattle.heat_value.specs.Data.{Data, null, flag, whole, words, items, fields, Nodes, no_nodes, node}
use Rattle.heat_value.specs.Data.{Members, no_members, member, lookup}
use Rattle.heat_value.specs.declared.path.Step.{Step}
use Rattle.heat_value.specs.declared.path.Step.TheVariants.{Key}
use Rattle.heat_plan.specs.Order.{Rising}
use Rattle.heat_plan.specs.declared.conditions.Condition.{Condition}
use Rattle.hot_functions.specs.Forms.{lone}
use Rattle.hot_functions.specs.Places.{item_place, member_place}
use Rattle.hot_functions.specs.declared.place.Place.{Place}
use Rattle.hot_functions.specs.declared.place.Place.TheVariants as place
use Rattle.eval_words.specs.Evaluation.{evaluation, condition_outcome}
use Rattle.eval_words.specs.SoFar.{with_value}
use Rattle.eval_words.specs.Outcomes.{Outcome, Gives, Faults, max_levels}
use Rattle.eval_words.specs.Scenes.{SceneData}
use Rattle.eval_words.specs.Sorts.{flag_in}

-- ---- what conditions name

-- a text where a condition stands is a name
abbrev pub name_at : Place → List ℕ → List (List ℕ)
name_at place.Open s = []
name_at place.Barred s = []
name_at place.Condition s = s ∷ []
name_at place.Conditions s = []
name_at place.Branches s = []
name_at place.BarredBranches s = []

-- every name of a condition in it as it is written, whatever is evaluated of it
abbrev mutual
  pub names_read : Place → Data → List (List ℕ)
  names_read p null = []
  names_read p (flag b) = []
  names_read p (whole z) = []
  names_read p (words s) = name_at p s
  names_read p (items ns) = names_read_among p 0 ns
  names_read p (fields ms) = names_read_under (member_place p (lone ms)) ms

  -- those in a list's values, of which the first has this place
  pub names_read_among : Place → ℕ → Nodes → List (List ℕ)
  names_read_among p i no_nodes = []
  names_read_among p i (node d ns) = names_read (item_place p i) d ++ names_read_among p (i + 1) ns

  -- those in an object's values, each of which stands at this place
  pub names_read_under : Place → Members → List (List ℕ)
  names_read_under p no_members = []
  names_read_under p (member k d ms) = names_read p d ++ names_read_under p ms

-- the condition a names b
abbrev pub Names : Members → List ℕ → List ℕ → Type 0
Names conds a b = (d : Data) × (lookup a conds ≡ Some d) × Contains (names_read place.Condition d) b

-- a names the first of these, each the next, and the last c
abbrev pub IsChain : Members → List ℕ → List (List ℕ) → List ℕ → Type 0
IsChain conds a [] c = Names conds a c
IsChain conds a (b ∷ bs) c = Names conds a b × IsChain conds b bs c

-- the condition names itself, by way of others or at once
abbrev pub IsOnCycle : Members → List ℕ → Type 0
IsOnCycle conds a = (through : List (List ℕ)) × IsChain conds a through a

-- of all conditions on a cycle the least in byte order
pub record IsLeastOnCycle (conds : Members) (name : List ℕ) : Type 0 where
  pub cycle : IsOnCycle conds name
  pub least : (other : List ℕ) → IsOnCycle conds other → (other ≡ name) ⊎ Rising (name ∷ other ∷ [])

-- ---- their values

-- what is read while conditions get their values: no file and no resource counts as there
abbrev pub in_conditions : Members → List Condition → SceneData
in_conditions params known = record { params = params; conds = known; files = []; facts = [] }

-- the flag that an evaluation gave; none for a fault, or for any other value
abbrev pub flag_made : Outcome Data → Option Bool
flag_made (Gives d spent) = flag_in d
flag_made (Faults c p) = None

-- the flag that a condition expression gives, from no cost on, where these conditions have values
abbrev pub flag_of : Members → List Condition → Data → Option Bool
flag_of params known d =
    flag_made (condition_outcome (evaluation (in_conditions params known)) (in_conditions params known) max_levels d 0)

-- the conditions that get a value where these have one
abbrev pub valued : Members → List Condition → Members → List Condition
valued params known no_members = []
valued params known (member k d ms) = with_value k (flag_of params known d) (valued params known ms)

-- the conditions that have a value after so many rounds, none before the first
abbrev pub valued_after : ℕ → Members → Members → List Condition
valued_after zero params conds = []
valued_after (suc rounds) params conds = valued params (valued_after rounds params conds) conds

-- how many members there are
abbrev pub count_of : Members → ℕ
count_of no_members = 0
count_of (member k d ms) = suc (count_of ms)

-- the conditions with their values; without cycles as many rounds as there are conditions give each that has one its value
unfoldable pub values_of : Members → Members → List Condition
values_of params conds = valued_after (count_of conds) params conds

-- ---- the first that has none

-- this path where the condition has no value, else what is found behind it
abbrev pub unless_valued : List Step → Option Bool → Option (List Step) → Option (List Step)
unless_valued path None rest = Some path
unless_valued path (Some b) rest = rest

-- of conditions in byte order the first without a value
abbrev pub first_unvalued : Members → List Condition → Members → Option (List Step)
first_unvalued params known no_members = None
first_unvalued params known (member k d ms) =
    unless_valued (Key (codes "conditions") ∷ Key k ∷ []) (flag_of params known d) (first_unvalued params known ms)

-- what is wrong with the `condition` of one entry, if it has one
abbrev pub unvalued_in : Members → List Condition → List Step → Option Data → Option (List Step)
unvalued_in params known path None = None
unvalued_in params known path (Some d) = unless_valued path (flag_of params known d) None

-- an entry's `condition` as it is written; none where the entry has none or is no object
abbrev pub condition_in : Data → Option Data
condition_in null = None
condition_in (flag b) = None
condition_in (whole z) = None
condition_in (words s) = None
condition_in (items ns) = None
condition_in (fields ms) = lookup (codes "condition") ms

-- of a section's entries in byte order the first whose `condition` has no value
abbrev pub first_in_section : Members → List Condition → List ℕ → Members → Option (List Step)
first_in_section params known section no_members = None
first_in_section params known section (member k d ms) = option_or
    (unvalued_in params known (Key section ∷ Key k ∷ Key (codes "condition") ∷ []) (condition_in d))
    (first_in_section params known section ms)

-- the path of the first without a value: of the conditions, then of the resources' `condition`s, then of the outputs'
abbrev pub unvalued : Members → Members → Members → Members → Option (List Step)
unvalued params conds resources outputs =
    option_or (first_unvalued params (values_of params conds) conds) (
    option_or (first_in_section params (values_of params conds) (codes "resources") resources)
    (first_in_section params (values_of params conds) (codes "outputs") outputs))

-- ---- what is wrong with them

-- the first expression without a value, in a template where no condition is on a cycle
pub record IsFirstUnvalued (params conds resources outputs : Members) (path : List Step) : Type 0 where
  pub acyclic : (name : List ℕ) → ¬ IsOnCycle conds name
  pub first : unvalued params conds resources outputs ≡ Some path
